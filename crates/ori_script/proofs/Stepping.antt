-- A reopening as a step of the run.
use Rattle.std.proofs.Common.{◌≡◌, ◌⊎◌, ℕ, ◌+◌, ◌≤◌, Bool, true, false, List, [], ◌∷◌, ◌++◌, length, Option, Some, None}
use Rattle.std.proofs.Common.{IfSome, IsSome, refl, sym, ap, ◌∙◌, subst, inl, inr, arith, length-append, replicate}
use Rattle.std.specs.Prelude.{◌==◌}
use Rattle.std.proofs.lemmas.List.{append-nil}
use Rattle.std.proofs.lemmas.Bool.Decides.{nat_tests}
use Rattle.ori_bytes.specs.declared.limits.TheConstants.{MAX_SESSIONS}
use Rattle.ori_volume.specs.Disk.{Files}
use Rattle.ori_volume.proofs.Known.{some_told}
use Rattle.ori_spec_data.specs.Base.{BaseData, EntryData, asked_in}
use Rattle.ori_spec_data.specs.Apply.{apply}
use Rattle.ori_spec_data.specs.Limits.{FoundData, limit_after}
use Rattle.ori_spec_texts.specs.Line.{step, reopen}
use Rattle.ori_spec_texts.specs.Reply.{to_done}
use Rattle.ori_spec_crash.specs.Crash.{doubts}
use Rattle.ori_spec_runs.specs.Answer.{SessionData, closed}
use Rattle.ori_spec_runs.specs.Run.{RunData, doubtful, reopened, joined, Reopens, Step}
use Rattle.ori_rows.specs.Stage.{OpensTo}
use Rattle.ori_log.specs.Files.{files_data}
use Rattle.ori_log.proofs.OneTail.{one_tail}
use Rattle.ori_engine.specs.Doubts.{DoubtData, entry_in_doubt}
use Rattle.ori_engine.specs.Openings.{IsStarted, IsOpenedSince}
use Rattle.ori_script.specs.Founds.{Finds, IsFound}
use Rattle.ori_engine.specs.Reopening as engines
use Rattle.ori_engine.specs.Reopening.{HasTailOf}
use Rattle.ori_script.specs.Pasts.{EarlierData, with_feed, with_found, decided}
use Rattle.ori_script.specs.Keeping.{KeptData, Keeps, store_behind, HasFailed}
use Rattle.ori_script.specs.Script.{passed_by}
use Rattle.ori_script.specs.Top.{CountsData, HaltBetween}
use Rattle.ori_script.specs.Openings.{VolumeData, EngineData, IsClosedBy, StandsBehind, ComesToNext, decided_by}
use Rattle.ori_script.specs.Openings.{is_found, counts_of}
use Rattle.ori_script.proofs.Ends.{IsStep, any_longer}
use Rattle.ori_script.proofs.Openings.{again, failed_rose}
use Rattle.ori_script.proofs.Reopened.{reopens_same, reopens_joined}

-- ---- the tail

pub tail_same : (files : Files) (a b : ℕ) → HasTailOf files a → HasTailOf files b → a ≡ b
tail_same files a b (rs, is, len) (ss, is_b, len_b) =
    sym len ∙ ap length (one_tail (files_data files) rs ss is is_b) ∙ len_b

pub not_there : (tail with_it n : ℕ) → n + 1 ≡ with_it → n ≡ tail → (tail == with_it) ≡ false
not_there tail with_it n more same = grind (arith, nat_tests)

pub is_there : (tail with_it : ℕ) → with_it ≡ tail → (tail == with_it) ≡ true
is_there tail with_it same = grind (arith, nat_tests)

-- ---- the fate of the entry in doubt

-- the run's doubt is the engine's
doubtful_so : (run : RunData) (doubt : Option EntryData) (failed : List (ℕ × EntryData)) → run.doubt ≡ doubt
    → failed ≡ run.failed → failed ++ doubts run.history doubt ≡ doubtful run
doubtful_so run doubt failed is same =
    ap (λ (ds : List (ℕ × EntryData)). ds ++ doubts run.history doubt) same
    ∙ ap (λ (d : Option EntryData). run.failed ++ doubts run.history d) (sym is)

-- what a reopening of the engine came to, for a run that it keeps
module _ (old : EngineData) (before after : EarlierData) (new : EngineData) (volume : VolumeData)
    (cur next : List SessionData) (c : ComesToNext old before after new volume)
    (opened : next ≡ replicate MAX_SESSIONS closed) (run : RunData) where
  abbrev Was : KeptData
  Was = record { store = store_behind before old.state old.causes; sessions = cur }

  abbrev Is : KeptData
  Is = record { store = store_behind after new.state new.causes; sessions = next }

  module _ (k : Keeps Was run) (files : Files) (told : c.mid.told.files ≡ Some files) where
    by : IsClosedBy old.state old.holds before c.between c.left c.mid.told.files c.mid.told.story
    by = c.closed.closed

    run_doubt : run.doubt ≡ entry_in_doubt c.left
    run_doubt = sym k.doubt ∙ by.doubt_is

    tail_here : HasTailOf files c.tail
    tail_here = some_told (λ (fs : Files). HasTailOf fs c.tail) c.mid.told.files files told c.tail_is

    started : (found : FoundData) → IsFound files found → IsStarted found new.state
    started found is =
        c.begins.started found (subst (λ (o : Option Files). Finds o found) (sym told) is)

    no_limit : run.limit ≡ None
    no_limit = sym k.limit ∙ by.limit_is

    abbrev Goes : Type 0
    Goes = (n : RunData) × Reopens run run.doubt n × Keeps Is n

    entries_are : c.between.entries ≡ before.entries ++ by.feed
    entries_are = ap (λ (e : EarlierData). e.entries) by.joined

    failed_are : c.between.failed ≡ before.failed
    failed_are = ap (λ (e : EarlierData). e.failed) by.joined

    -- the entry joins those whose fate was decided
    tried : (d : DoubtData) → run.doubt ≡ Some d.entry
        → c.between.failed ++ (length c.between.entries, d.entry) ∷ [] ≡ doubtful run
    tried d some =
        let feed : by.feed ≡ run.feed = cc (by.feed_is, k.feed) in
        let whole : c.between.entries ≡ run.history =
        entries_are ∙ ap (λ (f : List EntryData). before.entries ++ f) feed ∙ sym k.history in
        ap (λ (h : List EntryData). c.between.failed ++ (length h, d.entry) ∷ []) whole
        ∙ doubtful_so run (Some d.entry) c.between.failed some (failed_are ∙ k.failed)

    goes : (doubt : Option DoubtData) → c.left ≡ doubt → engines.Reopens run.base doubt files → Goes
    goes None is opens =
        let s = started (record { base = run.base; limit = None }) (record { opens = opens; limit_is = refl }) in
        let same : after ≡ c.between =
        c.decided_is ∙ ap (λ (d : Option DoubtData). decided_by c.between d c.tail new.state.opening.moment) is in
        let none : run.doubt ≡ None = run_doubt ∙ ap entry_in_doubt is in (
          reopened run,
          subst (λ (d : Option EntryData). Reopens run d (reopened run)) (sym none) refl,
          reopens_same Was Is run k run.base None c.begins.fresh s.sound s.base_is s.limit_is opened by.feed
              by.feed_is refl (sym no_limit) (ap (λ (e : EarlierData). e.entries) same ∙ entries_are)
              (ap (λ (e : EarlierData). e.failed) same ∙ failed_are ∙ sym (append-nil before.failed)
              ∙ doubtful_so run None before.failed none k.failed),
        )
    goes (Some d) is (inl ((n, more, tail), opens)) =
        let s = started (record { base = run.base; limit = None }) (record { opens = opens; limit_is = refl }) in
        let lost : is_found d c.tail ≡ false = not_there c.tail d.tail n more
        (tail_same files n c.tail tail tail_here) in
        let same : after ≡ decided c.between d.entry false new.state.opening.moment =
        c.decided_is ∙ ap (λ (x : Option DoubtData). decided_by c.between x c.tail new.state.opening.moment) is
        ∙ ap (λ (f : Bool). decided c.between d.entry f new.state.opening.moment) lost in
        let some : run.doubt ≡ Some d.entry = run_doubt ∙ ap entry_in_doubt is in (
          reopened run,
          subst (λ (x : Option EntryData). Reopens run x (reopened run)) (sym some) (inl refl),
          reopens_same Was Is run k run.base None c.begins.fresh s.sound s.base_is s.limit_is opened by.feed
              by.feed_is refl (sym no_limit) (ap (λ (e : EarlierData). e.entries) same ∙ entries_are)
              (ap (λ (e : EarlierData). e.failed) same ∙ tried d some),
        )
    goes (Some d) is (inr (tail, opens)) =
        let s = started (record { base = apply run.base d.entry; limit = None })
        (record { opens = opens; limit_is = refl }) in
        let limited : None ≡ limit_after run.base (asked_in d.entry) run.limit =
        ap (λ (l : Option ℕ). limit_after run.base (asked_in d.entry) l) (sym no_limit) in
        let found : is_found d c.tail ≡ true = is_there c.tail d.tail (tail_same files d.tail c.tail tail tail_here) in
        let same : after ≡ decided c.between d.entry true new.state.opening.moment =
        c.decided_is ∙ ap (λ (x : Option DoubtData). decided_by c.between x c.tail new.state.opening.moment) is
        ∙ ap (λ (f : Bool). decided c.between d.entry f new.state.opening.moment) found in
        let some : run.doubt ≡ Some d.entry = run_doubt ∙ ap entry_in_doubt is in (
          joined (reopened run) d.entry,
          subst (λ (x : Option EntryData). Reopens run x (joined (reopened run) d.entry)) (sym some) (inr refl),
          reopens_joined Was Is run k (apply run.base d.entry) None
              c.begins.fresh s.sound s.base_is s.limit_is opened by.feed by.feed_is d.entry refl limited
              (ap (λ (e : EarlierData). e.entries) same ∙ ap (λ (es : List EntryData). es ++ d.entry ∷ []) entries_are)
              (ap (λ (e : EarlierData). e.failed) same ∙ tried d some),
        )

-- ---- the step

module _ (entry : VolumeData) (halts : List (Option ℕ)) (begun : CountsData) (old : EngineData)
    (before after : EarlierData) (new : EngineData) (volume : VolumeData) (cur next : List SessionData)
    (between : HaltBetween halts (counts_of entry) begun)
    (since : IsOpenedSince begun.faults begun.log_faults old.state.opening)
    (b : StandsBehind old.holds before entry.told) (c : ComesToNext old before after new volume)
    (opened : next ≡ replicate MAX_SESSIONS closed) where
  abbrev Old : KeptData
  Old = record { store = store_behind before old.state old.causes; sessions = cur }

  abbrev New : KeptData
  New = record { store = store_behind after new.state new.causes; sessions = next }

  -- the files that the opening left open to the run's base again, or to that with the entry in doubt
  reads_again : (run : RunData) → Keeps Old run → (files : Files) (base : BaseData) → entry.told.files ≡ Some files
      → OpensTo files base → (x : Files) × (c.mid.told.files ≡ Some x) × engines.Reopens run.base c.left x
  reads_again run k files base is opens =
      again old.holds before c.between entry.told old.state c.left c.mid.told.files c.mid.told.story b c.closed.closed
      run.base k.base files base is opens

  steps_by : (told : Option Files) (found : FoundData) → entry.told.files ≡ told → Finds told found → (run : RunData)
      → Keeps Old run
      → (n : RunData) × Step run (step reopen) to_done n × Keeps New n
  steps_by None found is finds run k = absurd finds
  steps_by (Some files) found is finds run k =
      let r = reads_again run k files found.base is finds.opens in
      let g = goes old before after new volume cur next c opened run k r.0 r.1 c.left refl r.2 in
      (g.0, (refl, g.1), g.2)

  few_more : (left : Option DoubtData) → after ≡ decided_by c.between left c.tail new.state.opening.moment
      → length after.failed ≤ length before.failed + 1
  few_more None is =
      omega (
        arith,
        ap (λ (e : EarlierData). length e.failed) is,
        ap (λ (e : EarlierData). length e.failed) c.closed.closed.joined,
      )
  few_more (Some d) is =
      omega (
        arith,
        ap (λ (e : EarlierData). length e.failed) is,
        length-append c.between.failed ((length c.between.entries, d.entry) ∷ []),
        ap (λ (e : EarlierData). length e.failed) c.closed.closed.joined,
      )

  pub reopen_step : IsStep entry.told.files (passed_by halts entry.faults begun.faults)
      (passed_by (halts ++ old.state.halted ∷ []) entry.faults c.mid.faults) Old (step reopen) to_done New
  reopen_step = record {
    steps = λ found finds run k. steps_by entry.told.files found refl finds run k;
    fault_told = λ told. absurd (cc told);
    failed_stays = λ had. inl (failed_rose halts (counts_of entry) begun old.state old.causes (counts_of c.mid) between
        since c.closed.counts before had);
    halted_told = λ at told. absurd told;
    halted_stays = λ at had. any_longer (λ h. h ≡ Some at) (halts ++ old.state.halted ∷ [])
        (new.state.halted ∷ []) had;
    counted = length-append halts (old.state.halted ∷ []);
    few = few_more c.left c.decided_is;
  }
