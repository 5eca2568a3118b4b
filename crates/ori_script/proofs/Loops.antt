-- The loop over a run's openings.
use Rattle.std.proofs.Common.{◌≡◌, ◌⊎◌, ℕ, false, List, [], ◌∷◌, ◌++◌, replicate, Option, Some, None, refl, sym, subst}
use Rattle.std.proofs.Common.{inl, inr}
use Rattle.ori_bytes.specs.declared.limits.TheConstants.{MAX_SESSIONS}
use Rattle.ori_spec_data.specs.Base.{EntryData}
use Rattle.ori_spec_data.specs.Keeping.{OpeningData}
use Rattle.ori_spec_runs.specs.Answer.{SessionData, closed}
use Rattle.ori_text.specs.Lines.{Reading}
use Rattle.ori_model.specs.Standing.{PastData}
use Rattle.ori_engine.specs.Doubts.{DoubtData, entry_in_doubt}
use Rattle.ori_engine.specs.Openings.{IsOpenedSince}
use Rattle.ori_script.specs.Pasts.{EarlierData, nothing_earlier}
use Rattle.ori_script.specs.Keeping.{StoreData, KeptData, store_behind}
use Rattle.ori_script.specs.Script.{PassedData, passed_by, AsksReopening, HasEnded}
use Rattle.ori_script.specs.Turns.{SaysDone}
use Rattle.ori_script.specs.Top.{CountsData, HaltBetween}
use Rattle.ori_script.specs.Openings.{VolumeData, EngineData, Begins, TellsOne, StandsBehind, StandsAt, HasClosed}
use Rattle.ori_script.specs.Openings.{FailsToReopen, ComesToNext, HasRunOver, counts_of}
use Rattle.ori_script.proofs.Ends.{not_begun}
use Rattle.ori_script.proofs.Openings.{over, fails_over}
use Rattle.ori_script.proofs.Behind.{stands_next}
use Rattle.ori_script.proofs.Going.{begun_first, behind_first, stands_first, behind_on, opened_on, Halts, next_halts}
use Rattle.ori_script.proofs.Going.{goes_next, cut_next}

-- an engine was ended with this entry in doubt or none
abbrev pub IsOver : EngineData → EarlierData → EarlierData → Option EntryData → VolumeData → Type 0
IsOver engine before after told now =
    (doubt : Option DoubtData) × (told ≡ entry_in_doubt doubt) × HasClosed engine before after doubt now

-- a run ends with an opening
pub closes_run : (entry : VolumeData) (l0 l1 t0 t1 : Option (List ℕ)) (status result : ℕ) (before after : EarlierData)
    (engine : EngineData) (told : Option EntryData) (now : VolumeData) (halts : List (Option ℕ)) (begun : CountsData)
    → HaltBetween halts (counts_of entry) begun
    → IsOpenedSince begun.faults begun.log_faults engine.state.opening → StandsBehind engine.holds before entry.told
    → result ≡ status → IsOver engine before after told now
    → HasEnded entry.told.files (passed_by halts entry.faults begun.faults) l0 l1 t0 t1 status
    (store_behind before engine.state engine.causes)
    → (status ≡ 5 → ⊥) → (status ≡ 6 → ⊥) → HasRunOver entry l0 l1 t0 t1 result after told now
closes_run entry l0 l1 t0 t1 status result before after engine told now halts begun between opened b is over_so ended
    no_fault no_form =
    subst (λ (n : ℕ). HasRunOver entry l0 l1 t0 t1 n after told now) (sym is)
    (subst (λ (d : Option EntryData). HasRunOver entry l0 l1 t0 t1 status after d now) (sym over_so.1)
    (over entry l0 l1 t0 t1 status before after engine over_so.0 now halts begun between opened b over_so.2 ended
    no_fault
    no_form))

-- ---- before the first line

module _ (entry : VolumeData) (engine : EngineData) (volume : VolumeData) (left taken : Option (List ℕ))
    (e : EarlierData) (first : e ≡ nothing_earlier) (one : TellsOne entry.told)
    (b : Begins entry engine volume) where
  pub ends_first : (result : ℕ) (after : EarlierData) (told : Option EntryData) (now : VolumeData) → result ≡ 2
      → IsOver engine e after told now → HasRunOver entry left left taken taken result after told now
  ends_first result after told now is ended =
      let none = replicate MAX_SESSIONS closed in
      let blank : Reading = record { given = 0; held = []; ended = false } in
      closes_run entry left left taken taken 2 result e after engine told now [] (counts_of entry) refl b.opened_since
      (subst (λ (x : EarlierData). StandsBehind engine.holds x entry.told) (sym first)
      (behind_first entry engine volume left taken blank none one b refl refl)) is ended
      (subst (λ (x : EarlierData). HasEnded entry.told.files (passed_by [] entry.faults entry.faults) left left taken
      taken 2
      (store_behind x engine.state engine.causes)) (sym first)
      (not_begun entry.told.files left taken
      (record { store = store_behind nothing_earlier engine.state engine.causes; sessions = none })
      (begun_first entry engine volume left taken blank none one b refl refl) refl entry.faults))
      (λ five. absurd (cc five)) (λ six. absurd (cc six))

  pub begins_lines : (reading : Reading) (sessions : List SessionData)
      → reading ≡ record { given = 0; held = []; ended = false } → sessions ≡ replicate MAX_SESSIONS closed
      → StandsAt entry left left taken taken reading
      (record { store = store_behind e engine.state engine.causes; sessions = sessions }) e engine
  begins_lines reading sessions fresh opened =
      subst (λ (x : EarlierData). StandsAt entry left left taken taken reading
      (record { store = store_behind x engine.state engine.causes; sessions = sessions }) x engine) (sym first)
      (stands_first entry engine volume left taken reading sessions one b fresh opened)

-- ---- behind the lines of an opening

module _ (entry : VolumeData) (l0 l1 l2 t0 t1 t2 : Option (List ℕ)) (reading reading' : Reading) (kept : KeptData)
    (e before : EarlierData) (first engine : EngineData) (s : StandsAt entry l0 l1 t0 t1 reading kept e first)
    (same : before ≡ e) (opening : engine.state.opening ≡ first.state.opening)
    (sound : (p : PastData) → first.holds p → engine.holds p) (cur : List SessionData) where
  abbrev Store : StoreData
  Store = store_behind before engine.state engine.causes

  abbrev Now : KeptData
  Now = record { store = Store; sessions = cur }

  abbrev Passed : PassedData
  Passed = passed_by s.halts entry.faults s.begun.faults

  since : IsOpenedSince s.begun.faults s.begun.log_faults engine.state.opening
  since = opened_on entry first engine e before same opening sound s.begun s.opened

  behind : StandsBehind engine.holds before entry.told
  behind = behind_on entry first engine e before same opening sound s.behind

  pub ends_lines : (status result : ℕ) (after : EarlierData) (told : Option EntryData) (now : VolumeData)
      → result ≡ status → IsOver engine before after told now
      → HasEnded entry.told.files Passed l0 l2 t0 t2 status Store → (status ≡ 5 → ⊥) → (status ≡ 6 → ⊥)
      → HasRunOver entry l0 l2 t0 t2 result after told now
  ends_lines status result after told now is over_so ended no_fault no_form =
      closes_run entry l0 l2 t0 t2 status result before after engine told now s.halts s.begun s.between since behind is
      over_so ended no_fault no_form

  -- a reopening failed
  pub ends_failed : (status : ℕ) (after : EarlierData) (told : Option EntryData) (now : VolumeData)
      → AsksReopening entry.told.files Passed l0 l2 t0 t2 reading' Now
      → FailsToReopen engine before after status told now → HasRunOver entry l0 l2 t0 t2 status after told now
  ends_failed status after told now asks fails =
      fails_over entry l0 l2 t0 t2 reading' Now status before after engine told now s.halts s.begun s.between since
      behind asks refl fails

  -- the next opening is there
  module _ (after : EarlierData) (new : EngineData) (volume : VolumeData) (next : List SessionData)
      (t3 : Option (List ℕ))
      (one : TellsOne entry.told) (c : ComesToNext engine before after new volume)
      (asks : AsksReopening entry.told.files Passed l0 l2 t0 t2 reading' Now)
      (none_open : next ≡ replicate MAX_SESSIONS closed) where
    pub next_stands : SaysDone t2 t3 None → StandsAt entry l0 l2 t0 t3 reading'
        (record { store = store_behind after new.state new.causes; sessions = next }) after new
    next_stands said =
        goes_next entry l0 l2 t0 t2 t3 reading' s.halts s.begun engine before after new volume cur next one s.between
        since behind c asks none_open said

    -- its answer wasn't printed whole
    pub next_ends : (status result : ℕ) (last : EarlierData) (told : Option EntryData) (now : VolumeData)
        → SaysDone t2 t3 (Some status) → result ≡ status → IsOver new after last told now
        → HasRunOver entry l0 l2 t0 t3 result last told now
    next_ends status result last told now said is over_so =
        closes_run entry l0 l2 t0 t3 status result after last new told now (s.halts ++ engine.state.halted ∷ [])
        (counts_of c.mid)
        (next_halts entry l0 l2 t0 t2 t3 reading' s.halts s.begun engine before after new volume cur next one s.between
        since behind c asks none_open) c.begins.opened_since
        (stands_next entry engine before after new volume one behind c) is over_so
        (cut_next entry l0 l2 t0 t2 t3 reading' s.halts s.begun engine before after new volume cur next one s.between
        since behind c asks none_open status said)
        (λ five. elim said.cut [
          | inl two ↦ absurd (cc (five, two))
          | inr four ↦ absurd (cc (five, four))
        ])
        (λ six. elim said.cut [
          | inl two ↦ absurd (cc (six, two))
          | inr four ↦ absurd (cc (six, four))
        ])
