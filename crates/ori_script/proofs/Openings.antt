-- A run from one opening to the next, and to its end.
use Rattle.std.specs.Prelude.{unwrap_or, IsSomeAnd}
use Rattle.std.proofs.Common.{◌≡◌, ◌⊎◌, ℕ, zero, suc, ◌+◌, ◌<◌, ◌≤◌, Bool, true, false, List, [], ◌∷◌, ◌++◌, length}
use Rattle.std.proofs.Common.{Option}
use Rattle.std.proofs.Common.{Some, None}
use Rattle.std.proofs.Common.{IfSome, IsSome, refl, sym, ap, ap₂, ◌∙◌, subst, inl, inr, arith, length-append, IsTrue}
use Rattle.ori_volume.specs.Causes.{Rose}
use Rattle.ori_volume.specs.Disk.{Files, files_of, IsImage}
use Rattle.ori_volume.specs.Story.{Story, Tells}
use Rattle.ori_volume.proofs.Known.{some_told}
use Rattle.ori_spec_data.specs.Base.{BaseData, EntryData}
use Rattle.ori_spec_data.specs.Apply.{apply, replay}
use Rattle.ori_spec_crash.proofs.Marks.{replay-append}
use Rattle.ori_spec_data.specs.Keeping.{StateData, OpeningData}
use Rattle.ori_bytes.specs.declared.causes.Causes.{Causes}
use Rattle.ori_spec_crash.specs.Crash.{CrashSafe, doubts, IsClosed}
use Rattle.ori_spec_crash.proofs.Composing.{crash_unopened}
use Rattle.ori_log.specs.Files.{files_data}
use Rattle.ori_rows.specs.Stage.{IsDatabase, OpensTo}
use Rattle.ori_model.specs.Standing.{PastData}
use Rattle.ori_engine.specs.Doubts.{DoubtData, entry_in_doubt}
use Rattle.ori_engine.specs.CacheRows.{OpenedTo}
use Rattle.ori_engine.specs.Openings.{IsHaltedSince, IsOpenedSince, IsCounted, Survives, LeavesBase, troubles_of}
use Rattle.ori_engine.specs.Reopening as engines
use Rattle.ori_engine.specs.Reopening.{LeavesAll, LeavesNow}
use Rattle.ori_script.specs.Pasts.{EarlierData, nothing_earlier, with_feed}
use Rattle.ori_spec_texts.specs.Line.{LineData}
use Rattle.ori_spec_texts.specs.Reply.{AnswerData}
use Rattle.ori_script.specs.Keeping.{StoreData, KeptData, store_behind, reopenings}
use Rattle.ori_text.specs.Lines.{Reading}
use Rattle.ori_script.specs.Script.{LeftData, left_of, IsRun, PassedData, passed_by, HadFailed, AsksReopening, HasEnded}
use Rattle.ori_script.specs.Top.{CountsData, HaltBetween, Crashes}
use Rattle.ori_script.specs.Reports.{report_on}
use Rattle.ori_script.specs.Openings.{IsClosedBy, HasClosed, GoesBehind, LeadsOver, StandsBehind, StaysDatabase}
use Rattle.ori_script.specs.Openings.{VolumeData, EngineData, FailsToReopen, counts_of, HasRunOver}
use Rattle.ori_script.proofs.Ends.{IsLate, late_failed}
use Rattle.ori_script.proofs.Reopened.{closed_at}

-- ---- counts

-- one opening more
pub halt_more : (halts : List (Option ℕ)) (halted : Option ℕ) (old mid new : CountsData) → HaltBetween halts old mid
    → mid.faults ≤ new.faults → mid.log_faults ≤ new.log_faults
    → IsHaltedSince mid.faults new.faults mid.log_faults new.log_faults halted
    → HaltBetween (halts ++ halted ∷ []) old new
halt_more [] halted old mid new same later log_later since = (
  new,
  omega (arith, ap (λ (c : CountsData). c.faults) same, later),
  omega (arith, ap (λ (c : CountsData). c.log_faults) same, log_later),
  subst (λ (c : CountsData). IsHaltedSince c.faults new.faults c.log_faults new.log_faults halted) same since,
  refl,
)
halt_more (h ∷ halts) halted old mid new (c, a, b, s, rest) later log_later since =
    (c, a, b, s, halt_more halts halted c mid new rest later log_later since)

pub halts_later : (halts : List (Option ℕ)) (old new : CountsData) → HaltBetween halts old new
    → old.faults ≤ new.faults
halts_later [] old new same = omega (arith, ap (λ (c : CountsData). c.faults) same)
halts_later (h ∷ halts) old new (c, a, b, s, rest) = omega (arith, a, halts_later halts c new rest)

pub halts_log_later : (halts : List (Option ℕ)) (old new : CountsData) → HaltBetween halts old new
    → old.log_faults ≤ new.log_faults
halts_log_later [] old new same = omega (arith, ap (λ (c : CountsData). c.log_faults) same)
halts_log_later (h ∷ halts) old new (c, a, b, s, rest) = omega (arith, b, halts_log_later halts c new rest)

halted_rose : (halted : Option ℕ) (f0 f1 l0 l1 : ℕ) → IsHaltedSince f0 f1 l0 l1 halted → IsSome halted → Rose f0 f1
halted_rose None f0 f1 l0 l1 since some = absurd (cc some)
halted_rose (Some at) f0 f1 l0 l1 since some = omega (arith, since.0, since.1)

-- commits have ended since the opening's begin, where they have since its end
since_begin : (halted : Option ℕ) (f0 f1 f2 l0 l1 l2 : ℕ) → f0 ≤ f1 → l1 ≡ l0 → IsHaltedSince f1 f2 l1 l2 halted
    → IsHaltedSince f0 f2 l0 l2 halted
since_begin None f0 f1 f2 l0 l1 l2 early same since = since ∙ same
since_begin (Some at) f0 f1 f2 l0 l1 l2 early same since =
    (omega (arith, early, since.0), since.1, omega (arith, same, since.2))

-- an opening has ended at these counts
module _ (halts : List (Option ℕ)) (entry begun : CountsData) (state : StateData) (causes : Causes) (end : CountsData)
    (between : HaltBetween halts entry begun) (opened : IsOpenedSince begun.faults begun.log_faults state.opening)
    (counts : IsCounted state causes end.faults end.log_faults) where
  abbrev All : List (Option ℕ)
  All = halts ++ state.halted ∷ []

  pub halts_all : HaltBetween All entry end
  halts_all =
      halt_more halts state.halted entry begun end between (omega (arith, opened.faults, counts.later))
      (omega (arith, opened.log_faults, counts.log_later))
      (since_begin state.halted begun.faults state.opening.faults end.faults begun.log_faults state.opening.log_faults
      end.log_faults opened.faults opened.log_faults counts.halted)

  -- a fault of an opening has its cause in the counts
  had_rose : (halted : Option ℕ) → IsHaltedSince begun.faults end.faults begun.log_faults end.log_faults halted
      → IsSome halted ⊎ (0 < troubles_of causes) → Rose begun.faults end.faults
  had_rose halted since (inl over) =
      halted_rose halted begun.faults end.faults begun.log_faults end.log_faults since over
  had_rose halted since (inr some) = omega (arith, some, counts.troubled, opened.faults)

  ended_since : IsHaltedSince begun.faults end.faults begun.log_faults end.log_faults state.halted
  ended_since =
      since_begin state.halted begun.faults state.opening.faults end.faults begun.log_faults state.opening.log_faults
      end.log_faults opened.faults opened.log_faults counts.halted

  pub failed_rose : (e : EarlierData) → HadFailed (passed_by halts entry.faults begun.faults)
      (store_behind e state causes)
      → Rose entry.faults end.faults
  failed_rose e (inl earlier) = omega (arith, earlier, opened.faults, counts.later)
  failed_rose e (inr now) =
      let here : Rose begun.faults end.faults = had_rose state.halted ended_since now in
      omega (arith, halts_later halts entry begun between, here)

-- ---- crashes

pub told_of : {T : Type 0} (R : T → T → Type 0) (first new : Option T) (s : T) → first ≡ Some s → Tells R first new
    → (x : T) × (new ≡ Some x) × R s x
told_of {T} R first new s is told = subst (λ (o : Option T). Tells R o new) is told

pub some_same : {T : Type 0} {x y : T} {o : Option T} → o ≡ Some x → o ≡ Some y → x ≡ y
some_same a b = cc (a, b)

told_and : {T : Type 0} (o : Option T) (P : T → Type 0) → IsSomeAnd o P → (x : T) × (o ≡ Some x) × P x
told_and None P h = absurd h
told_and (Some x) P h = (x, refl, h)

-- a crash leaves what a report of this tells, over a base
abbrev Crashed : EarlierData → Option EntryData → BaseData → Story → Option Story → Type 0
Crashed e doubt base first now = IsSomeAnd now (λ new. CrashSafe OpensTo base e.entries
    (e.failed ++ doubts e.entries doubt) e.marks first new)

-- What a crash leaves at an opening's end, since the run's entry; and the state's base is that behind all entries.
pub record ClosesOn (state : StateData) (before : EarlierData) (feed : List EntryData) (marks : List ℕ)
    (doubt : Option DoubtData) (base : BaseData) (first now : Story) : Type 0 where
  pub closed : IsClosed OpensTo base (before.entries ++ feed) before.failed (entry_in_doubt doubt)
      (before.marks ++ marks) first now
  pub base_is : state.base ≡ Some (replay base (before.entries ++ feed))

module _ (holds : PastData → Type 0) (before after : EarlierData) (entry : PastData) (state : StateData)
    (doubt : Option DoubtData) (files : Option Files) (story : Option Story) (b : StandsBehind holds before entry)
    (c : IsClosedBy state holds before after doubt files story) where
  pub closes_some : (s0 : Story) (base : BaseData) → OpensTo (files_of s0.now.disk) base
      → LeadsOver before (Some s0) b.begun.story b.ended.story
      → (x : Story) × (story ≡ Some x) × ClosesOn state before c.feed c.marks doubt base s0 x
  closes_some s0 base opens leads =
      let led = leads base opens in
      let s1 = led.0 in
      let is1 = led.1 in
      let s2 = led.2 in
      let is2 = led.3 in
      let g = led.4 in
      let d = entry_in_doubt doubt in
      let first : OpenedTo g.mid b.begun =
      inl (subst (λ (o : Option Story). IsSomeAnd o (λ s. OpensTo (files_of s.now.disk) g.mid)) (sym is1) g.opens) in
      let last : OpenedTo g.mid b.ended =
      inl (subst (λ (o : Option Story). IsSomeAnd o (λ s. OpensTo (files_of s.now.disk) g.mid)) (sym is2)
      g.opens_at) in
      let since = told_of (Survives c.feed d c.marks) b.begun.story story s1 is1
      (c.crash b.begun g.mid b.since first) in
      let late = told_of (Survives c.feed d c.marks) b.ended.story story s2 is2
      (c.crash b.ended g.mid b.since_end last) in
      let now = told_of (LeavesAll state c.feed) b.begun.story story s1 is1 (c.whole b.begun g.mid b.since first) in
      let same_late : late.0 ≡ since.0 = some_same late.1 since.1 in
      let same_now : now.0 ≡ since.0 = some_same now.1 since.1 in
      let leaves = subst (λ (s : Story). LeavesNow state g.mid c.feed s) same_now (now.2 g.mid g.opens) in (
        since.0,
        since.1,
        record {
          closed = closed_at before base s0 s1 s2 since.0 g c.feed c.marks d state since.2
              (subst (λ (s : Story). Survives c.feed d c.marks s2 s) same_late late.2) leaves c.doubt_is;
          base_is = leaves.base_is
              ∙ ap (λ (x : BaseData). Some (replay x c.feed)) g.base_is
              ∙ ap (λ (x : BaseData). Some x) (sym (replay-append base before.entries c.feed));
        },
      )

  -- the files that the opening left open again
  pub again : (base : BaseData) → state.base ≡ Some base → (first : Files) (found : BaseData) → entry.files ≡ Some first
      → OpensTo first found → (x : Files) × (files ≡ Some x) × engines.Reopens base doubt x
  again base base_is first found is opens =
      let r = b.reads first found is opens in
      let here : OpenedTo r.1 b.begun =
      inr (subst (λ (o : Option Files). IsSomeAnd o (λ fs. OpensTo fs r.1)) (sym r.2) r.3) in
      told_and files (engines.Reopens base doubt)
      (some_told (λ (x : BaseData). IsSomeAnd files (engines.Reopens x doubt)) state.base base base_is
      (c.reads b.begun b.since r.1 here))

  pub crashes_by : (first : Option Story) → LeadsOver before first b.begun.story b.ended.story
      → Crashes (report_on after false (entry_in_doubt doubt)) first story
  crashes_by None leads = λ base. tt
  crashes_by (Some s0) leads = λ base opens.
      (let x = closes_some s0 base opens leads in
      subst (λ (e : EarlierData). Crashed e (entry_in_doubt doubt) base s0 story) (sym c.joined)
      (subst (λ (o : Option Story). Crashed (with_feed before c.feed c.marks) (entry_in_doubt doubt) base s0 o)
      (sym x.1)
      x.2.closed.crash))

-- ---- the end of a run

-- a run that leaves the same, over the same lines
record IsSameRun (files : Option Files) (l0 l1 t0 t1 : Option (List ℕ)) (status : ℕ) (answers : List AnswerData)
    (old new : LeftData) (run : IsRun files l0 l1 t0 t1 status answers old) : Type 0 where
  is : IsRun files l0 l1 t0 t1 status answers new
  said : is.said ≡ run.said
  late : is.late ≡ run.late

same_run : (files : Option Files) (l0 l1 t0 t1 : Option (List ℕ)) (status : ℕ) (answers : List AnswerData)
    (old new : LeftData) (run : IsRun files l0 l1 t0 t1 status answers old) → old ≡ new
    → IsSameRun files l0 l1 t0 t1 status answers old new run
same_run files l0 l1 t0 t1 status answers old new run is =
    subst (λ (l : LeftData). IsSameRun files l0 l1 t0 t1 status answers old l run) is
    (record { is = run; said = refl; late = refl })

-- what the engine's end left is what its state told
left_by : (before after : EarlierData) (engine : EngineData) (doubt : Option DoubtData) (now : VolumeData)
    → HasClosed engine before after doubt now → left_of (store_behind before engine.state engine.causes) ≡ record {
      history = after.entries;
      failed = after.failed;
      doubt = entry_in_doubt doubt;
      halted = engine.state.halted;
    }
left_by before after engine doubt now closed =
    let c = closed.closed in
    let made : EarlierData → Option EntryData → LeftData = λ e d.
    record { history = e.entries; failed = e.failed; doubt = d; halted = engine.state.halted } in
    ap (λ (o : Option (List EntryData)). record {
      history = before.entries ++ unwrap_or o [];
      failed = before.failed;
      doubt = engine.state.doubt;
      halted = engine.state.halted;
    }) c.feed_is
    ∙ ap₂ made (sym c.joined) c.doubt_is

module _ (entry : VolumeData) (l0 l1 t0 t1 : Option (List ℕ)) (status : ℕ) (before after : EarlierData)
    (engine : EngineData) (doubt : Option DoubtData) (now : VolumeData) (halts : List (Option ℕ)) (begun : CountsData)
    (between : HaltBetween halts (counts_of entry) begun)
    (opened : IsOpenedSince begun.faults begun.log_faults engine.state.opening)
    (b : StandsBehind engine.holds before entry.told) (closed : HasClosed engine before after doubt now)
    (ended : HasEnded entry.told.files (passed_by halts entry.faults begun.faults) l0 l1 t0 t1 status
    (store_behind before engine.state engine.causes)) where
  pub over : (status ≡ 5 → ⊥) → (status ≡ 6 → ⊥)
      → HasRunOver entry l0 l1 t0 t1 status after (entry_in_doubt doubt) now
  over no_fault no_form =
      let c = closed.closed in
      let end = counts_of now in
      let same = same_run entry.told.files l0 l1 t0 t1 status ended.answers _ _ ended.run
      (left_by before after engine doubt now closed) in
      let count = ap (λ (ls : List LineData). reopenings ls) same.said in
      record {
        halts = halts;
        halted = engine.state.halted;
        at_end = end;
        halted_between = halts_all halts (counts_of entry) begun engine.state engine.causes end between opened
            closed.counts;
        answers = ended.answers;
        run = same.is;
        ended_there = λ none. refl;
        later = omega arith;
        log_later = omega arith;
        one_each = omega (arith, count, ended.told.one_each);
        few_decided = omega (
          arith,
          count,
          ended.told.few_decided,
          ap (λ (e : EarlierData). length e.failed) c.joined,
        );
        fault_told = λ told. failed_rose halts (counts_of entry) begun engine.state engine.causes end between opened
            closed.counts before (ended.told.fault_told told);
        halted_told = ended.told.halted_told;
        crash = crashes_by engine.holds before after entry.told engine.state doubt now.told.files now.told.story b c
            entry.told.story b.leads;
        volume_fault = λ five. absurd (no_fault five);
        not_a_database = λ six. absurd (no_form six);
        never_lost = λ six. absurd (no_form six);
      }

-- ---- a reopening that failed

-- Files open, or not. What opens is a database.
database_of : (files : Files) (base : BaseData) → OpensTo files base → IsDatabase (files_data files)
database_of files base opens =
    elim opens.stands [
      | inl unmade ↦ inl unmade.0
      | inr made ↦ inr (made.0, base, made.1)
    ]

-- what files open to again is a base
pub opens_one : (base : BaseData) (doubt : Option DoubtData) (files : Files) → engines.Reopens base doubt files
    → (mid : BaseData) × OpensTo files mid
opens_one base None files h = (base, h)
opens_one base (Some d) files (inl h) = (base, h.1)
opens_one base (Some d) files (inr h) = (apply base d.entry, h.1)

unopened : (base : BaseData) (history : List EntryData) (failed : List (ℕ × EntryData)) (doubt : Option EntryData)
    (marks : List ℕ) (first mid last : Story) → IsClosed OpensTo base history failed doubt marks first mid
    → IsImage mid.now.disk (files_of mid.now.disk) → LeavesBase mid last
    → CrashSafe OpensTo base history (failed ++ doubts history doubt) marks first last
unopened base history failed doubt marks first mid last closed read leaves =
    elim (closed.whole (files_of mid.now.disk) read) [
      | inl h ↦ crash_unopened OpensTo base (replay base history) history failed doubt marks first mid last closed
          (leaves (replay base history) h) (inl refl)
      | inr found ↦ crash_unopened OpensTo base (apply (replay base history) found.0) history failed doubt marks first
          mid last closed (leaves (apply (replay base history) found.0) found.2) (inr (found.0, found.1, refl))
    ]

module _ (entry : VolumeData) (l0 l1 t0 t1 : Option (List ℕ)) (reading : Reading) (kept : KeptData) (status : ℕ)
    (before after : EarlierData) (engine : EngineData) (doubt : Option EntryData) (now : VolumeData)
    (halts : List (Option ℕ)) (begun : CountsData)
    (between : HaltBetween halts (counts_of entry) begun)
    (opened : IsOpenedSince begun.faults begun.log_faults engine.state.opening)
    (b : StandsBehind engine.holds before entry.told)
    (asks : AsksReopening entry.told.files (passed_by halts entry.faults begun.faults) l0 l1 t0 t1 reading kept)
    (stored : kept.store ≡ store_behind before engine.state engine.causes)
    (fails : FailsToReopen engine before after status doubt now) where
  abbrev Passed : PassedData
  Passed = passed_by halts entry.faults begun.faults

  ended_late : IsLate entry.told.files Passed l0 l1 t0 t1 status (store_behind before engine.state engine.causes)
  ended_late =
      subst (λ (s : StoreData). IsLate entry.told.files Passed l0 l1 t0 t1 status s) stored
      (late_failed entry.told.files Passed l0 l1 t0 t1 reading kept status asks fails.why)

  -- nothing has changed behind the opening's end
  fails_by : (first : Option Story) → LeadsOver before first b.begun.story b.ended.story
      → Crashes (report_on after false doubt) first now.told.story
  fails_by None leads = λ base. tt
  fails_by (Some s0) leads = λ base opens.
      (let c = fails.closed.closed in
      let x = closes_some engine.holds before after entry.told engine.state fails.left fails.mid.told.files
      fails.mid.told.story b c s0 base opens leads in
      let y = told_of LeavesBase fails.mid.told.story now.told.story x.0 x.1 fails.crash in
      let read = some_told (λ (s : Story). IsImage s.now.disk (files_of s.now.disk)) fails.mid.told.story x.0 x.1
      fails.read in
      subst (λ (d : Option EntryData). Crashed after d base s0 now.told.story) (sym fails.doubt_is)
      (subst (λ (e : EarlierData). Crashed e (entry_in_doubt fails.left) base s0 now.told.story) (sym c.joined)
      (subst (λ (o : Option Story). Crashed (with_feed before c.feed c.marks) (entry_in_doubt fails.left) base s0 o)
      (sym y.1)
      (unopened base (before.entries ++ c.feed) before.failed (entry_in_doubt fails.left) (before.marks ++ c.marks) s0
      x.0
      y.0 x.2.closed read y.2))))

  -- the files that the opening left are those of a database, where those at entry were
  still_database : (files : Files) (base : BaseData) → entry.told.files ≡ Some files → OpensTo files base
      → (x : Files) × (fails.mid.told.files ≡ Some x) × IsDatabase (files_data x)
  still_database files base is opens =
      let c = fails.closed.closed in
      let t = again engine.holds before after entry.told engine.state fails.left fails.mid.told.files
      fails.mid.told.story b c c.base c.base_is files base is opens in
      let o = opens_one c.base fails.left t.0 t.2 in (t.0, t.1, database_of t.0 o.0 o.1)

  never_lost : (told : Option Files) → entry.told.files ≡ told → status ≡ 6
      → IfSome told (λ fs. (base : BaseData) → OpensTo fs base → ⊥)
  never_lost None is six = tt
  never_lost (Some files) is six = λ base opens.
      (let d = still_database files base is opens in
      some_told (λ (fs : Files). IsDatabase (files_data fs) → ⊥) fails.mid.told.files d.0 d.1 (fails.form six) d.2)

  pub fails_over : HasRunOver entry l0 l1 t0 t1 status after doubt now
  fails_over =
      let c = fails.closed.closed in
      let end = counts_of fails.mid in
      let ended = ended_late.ended in
      let lost : left_of (store_behind before engine.state engine.causes) ≡ record {
        history = after.entries;
        failed = after.failed;
        doubt = doubt;
        halted = engine.state.halted;
      } =
      left_by before after engine fails.left fails.mid fails.closed
      ∙ ap (λ (d : Option EntryData). record {
        history = after.entries;
        failed = after.failed;
        doubt = d;
        halted = engine.state.halted;
      }) (sym fails.doubt_is) in
      let same = same_run entry.told.files l0 l1 t0 t1 status ended.answers _ _ ended.run lost in
      let count = ap (λ (ls : List LineData). reopenings ls) same.said in
      record {
        halts = halts;
        halted = engine.state.halted;
        at_end = end;
        halted_between = halts_all halts (counts_of entry) begun engine.state engine.causes end between opened
            fails.closed.counts;
        answers = ended.answers;
        run = same.is;
        ended_there = λ none. absurd (cc (ended_late.late, same.late, none));
        later = fails.later;
        log_later = fails.log_later;
        one_each = omega (arith, count, ended.told.one_each);
        few_decided = omega (
          arith,
          count,
          ended.told.few_decided,
          ap (λ (e : EarlierData). length e.failed) c.joined,
        );
        fault_told = λ told. (let rose : Rose entry.faults fails.mid.faults =
            failed_rose halts (counts_of entry) begun engine.state engine.causes end between opened
            fails.closed.counts before (ended.told.fault_told told) in omega (arith, rose, fails.later));
        halted_told = ended.told.halted_told;
        crash = fails_by entry.told.story b.leads;
        volume_fault = λ five. (let all = halts_later (halts ++ engine.state.halted ∷ []) (counts_of entry) end
            (halts_all halts (counts_of entry) begun engine.state engine.causes end between opened
            fails.closed.counts) in
            let rose : Rose fails.mid.faults now.faults = fails.fault five in omega (arith, all, rose));
        not_a_database = λ six. subst (λ (o : Option Files). IfSome o (λ fs. IsDatabase (files_data fs) → ⊥))
            (sym (fails.unchanged six)) (fails.form six);
        never_lost = never_lost entry.told.files refl;
      }
