-- A run from its first opening on.
use Rattle.std.proofs.Common.{◌≡◌, ◌⊎◌, ℕ, ◌≤◌, false, List, [], ◌∷◌, ◌++◌, length, replicate, Option, Some, None}
use Rattle.std.proofs.Common.{IfSome}
use Rattle.std.proofs.Common.{refl}
use Rattle.std.proofs.Common.{sym, ap, ◌∙◌, subst, inl, inr, arith}
use Rattle.ori_bytes.specs.declared.limits.TheConstants.{MAX_SESSIONS}
use Rattle.ori_volume.specs.Disk.{Files, files_of, IsImage}
use Rattle.ori_volume.specs.Story.{Story, moment_of}
use Rattle.ori_volume.proofs.Known.{some_told}
use Rattle.ori_spec_data.specs.Base.{BaseData}
use Rattle.ori_spec_data.specs.Keeping.{OpeningData}
use Rattle.ori_spec_data.specs.Limits.{FoundData}
use Rattle.ori_spec_texts.specs.Line.{step, reopen}
use Rattle.ori_spec_texts.specs.Reply.{to_done}
use Rattle.ori_spec_runs.specs.Answer.{SessionData, closed}
use Rattle.ori_rows.specs.Stage.{OpensTo}
use Rattle.ori_text.specs.Lines.{Reading}
use Rattle.ori_model.specs.Standing.{PastData}
use Rattle.ori_engine.specs.Openings.{IsStarted, IsOpenedSince}
use Rattle.ori_script.specs.Founds.{Finds}
use Rattle.ori_engine.specs.Reopening.{OpensWhole}
use Rattle.ori_script.specs.Pasts.{EarlierData, nothing_earlier}
use Rattle.ori_script.specs.Keeping.{KeptData, store_behind}
use Rattle.ori_script.specs.Script.{PassedData, passed_by, GoesOn, AsksReopening, HasEnded}
use Rattle.ori_script.specs.Turns.{SaysDone}
use Rattle.ori_script.specs.Top.{CountsData, HaltBetween}
use Rattle.ori_script.specs.Openings.{VolumeData, EngineData, Begins, TellsOne, LeadsOver, GoesBehind}
use Rattle.ori_script.specs.Openings.{StandsBehind, StandsAt, HasClosed, ComesToNext, HasRunOver, counts_of}
use Rattle.ori_script.proofs.Ends.{IsBegun, started, went_on, cut_off}
use Rattle.ori_script.proofs.Openings.{told_of, halts_all, over}
use Rattle.ori_script.proofs.Stepping.{reopen_step}
use Rattle.ori_script.proofs.Behind.{stands_next}

-- what holds of each that is told
pub some_by : {T : Type 0} (o : Option T) (P : T → Type 0) → ((x : T) → o ≡ Some x → P x) → IfSome o P
some_by None P each = tt
some_by (Some x) P each = each x refl

-- ---- the first opening

first_leads : (entry : VolumeData) (engine : EngineData) (volume : VolumeData) (b : Begins entry engine volume)
    (first : Option Story) → entry.told.story ≡ first
    → LeadsOver nothing_earlier first entry.told.story volume.told.story
first_leads entry engine volume b None is = tt
first_leads entry engine volume b (Some s) is = λ base opens.
    (let y = told_of OpensWhole entry.told.story volume.told.story s is b.stands in (
      s,
      is,
      y.0,
      y.1,
      record {
        mid = base;
        opens = opens;
        opens_at = (y.2 base opens).1 (files_of y.0.now.disk)
            (some_told (λ (t : Story). IsImage t.now.disk (files_of t.now.disk)) volume.told.story y.0 y.1 b.read);
        base_is = refl;
        within = tt;
        behind = λ feed late after now since since_end. since;
      },
    ))

module _ (entry : VolumeData) (engine : EngineData) (volume : VolumeData) (left taken : Option (List ℕ))
    (reading : Reading) (sessions : List SessionData) (one : TellsOne entry.told) (b : Begins entry engine volume)
    (fresh : reading ≡ record { given = 0; held = []; ended = false })
    (opened : sessions ≡ replicate MAX_SESSIONS closed) where
  abbrev Kept : KeptData
  Kept = record { store = store_behind nothing_earlier engine.state engine.causes; sessions = sessions }

  pub begun_first : (found : FoundData) → Finds entry.told.files found → IsBegun found Kept
  begun_first found finds = record {
    started = b.started found finds;
    fresh = b.fresh;
    first = refl;
    none_failed = refl;
    sessions = opened;
  }

  pub behind_first : StandsBehind engine.holds nothing_earlier entry.told
  behind_first = record {
    begun = entry.told;
    ended = volume.told;
    since = b.since;
    since_end = b.since_end;
    reads = λ files base is opens. (files, base, is, opens);
    one = one;
    leads = first_leads entry engine volume b entry.told.story refl;
  }

  pub stands_first : StandsAt entry left left taken taken reading Kept nothing_earlier engine
  stands_first = record {
    halts = [];
    begun = counts_of entry;
    between = refl;
    goes_on = started entry.told.files left taken Kept begun_first refl entry.faults reading fresh;
    opened = b.opened_since;
    behind = behind_first;
  }

-- ---- lines of an opening

-- what stands stays through calls that leave the opening and what was sound
module _ (entry : VolumeData) (old new : EngineData) (e after : EarlierData)
    (same : after ≡ e) (opening : new.state.opening ≡ old.state.opening)
    (sound : (first : PastData) → old.holds first → new.holds first) where
  pub behind_on : StandsBehind old.holds e entry.told → StandsBehind new.holds after entry.told
  behind_on b = subst (λ (x : EarlierData). StandsBehind new.holds x entry.told) (sym same) (record {
    begun = b.begun;
    ended = b.ended;
    since = sound b.begun b.since;
    since_end = sound b.ended b.since_end;
    reads = b.reads;
    one = b.one;
    leads = b.leads;
  })

  pub opened_on : (begun : CountsData) → IsOpenedSince begun.faults begun.log_faults old.state.opening
      → IsOpenedSince begun.faults begun.log_faults new.state.opening
  opened_on begun o =
      subst (λ (d : OpeningData). IsOpenedSince begun.faults begun.log_faults d) (sym opening) o

-- ---- the next opening

module _ (entry : VolumeData) (l0 l1 t0 t1 t2 : Option (List ℕ)) (reading : Reading) (halts : List (Option ℕ))
    (begun : CountsData) (old : EngineData) (before after : EarlierData) (new : EngineData) (volume : VolumeData)
    (cur next : List SessionData) (one : TellsOne entry.told)
    (between : HaltBetween halts (counts_of entry) begun)
    (opened : IsOpenedSince begun.faults begun.log_faults old.state.opening)
    (b : StandsBehind old.holds before entry.told) (c : ComesToNext old before after new volume)
    (asks : AsksReopening entry.told.files (passed_by halts entry.faults begun.faults) l0 l1 t0 t1 reading
    (record { store = store_behind before old.state old.causes; sessions = cur }))
    (none_open : next ≡ replicate MAX_SESSIONS closed) where
  abbrev pub Halts : List (Option ℕ)
  Halts = halts ++ old.state.halted ∷ []

  abbrev Before : PassedData
  Before = passed_by halts entry.faults begun.faults

  abbrev pub After : PassedData
  After = passed_by Halts entry.faults c.mid.faults

  pub next_halts : HaltBetween Halts (counts_of entry) (counts_of c.mid)
  next_halts =
      halts_all halts (counts_of entry) begun old.state old.causes (counts_of c.mid) between opened c.closed.counts

  pub goes_next : (s : SaysDone t1 t2 None) → StandsAt entry l0 l1 t0 t2 reading
      (record { store = store_behind after new.state new.causes; sessions = next }) after new
  goes_next s = record {
    halts = Halts;
    begun = counts_of c.mid;
    between = next_halts;
    goes_on = went_on entry.told.files Before After l0 l1 t0 t1 t2 reading _ _ (step reopen) asks.said asks.answers
        asks.read asks.run asks.told asks.gave to_done
        (reopen_step entry halts begun old before after new volume cur next between opened b c none_open) s.output
        s.unprinted s.text s.gave
        s.cut;
    opened = c.begins.opened_since;
    behind = stands_next entry old before after new volume one b c;
  }

  pub cut_next : (status : ℕ) (s : SaysDone t1 t2 (Some status)) → HasEnded entry.told.files After l0 l1 t0 t2 status
      (store_behind after new.state new.causes)
  cut_next status s =
      cut_off entry.told.files Before After l0 l1 t0 t1 t2 reading _ _ (step reopen) asks.said asks.answers asks.read
      asks.run asks.told asks.gave to_done
      (reopen_step entry halts begun old before after new volume cur next between opened b c none_open) s.output
      s.unprinted s.text s.gave
      status s.cut
