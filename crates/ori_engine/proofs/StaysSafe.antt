-- What is safe stays so through a commit.
use Rattle.std.proofs.Common.{◌≡◌, ◌⊎◌, inl, ℕ, List, [], ◌∷◌, ◌++◌, length, Option, Some, None, Ok, Err, sym, ap, ◌∙◌}
use Rattle.std.proofs.Common.{subst}
use Rattle.ori_volume.specs.Story.{Story, moment_of}
use Rattle.ori_volume.specs.Runs.{Run, EachImage}
use Rattle.ori_volume.proofs.RunSteps.{run_last}
use Rattle.ori_spec_data.specs.Base.{BaseData, EntryData}
use Rattle.ori_spec_data.specs.Apply.{apply, replay}
use Rattle.ori_spec_data.specs.Soundness.{IsSoundBase}
use Rattle.ori_rows.specs.Stage.{OpensTo}
use Rattle.ori_rows.specs.Rows.{base_with}
use Rattle.ori_spec_crash.specs.Crash.{CrashSafe, doubts}
use Rattle.ori_engine.specs.Safety.{CommitsSafely, KeptData, IsSafe}
use Rattle.ori_engine.specs.Doubts.{entry_in_doubt, OpensWith}
use Rattle.ori_engine.proofs.Safety.{replay-more, crash_grown, crash_doubted, crash_kept}

-- the entry was acknowledged
pub safe_grown : {T E : Type 0} (base : BaseData) (first old now : Story) (kept new : KeptData) (entry : EntryData)
    (x : T) → IsSafe base first kept old → kept.halted ≡ None
    → IsSoundBase (apply (replay base kept.feed) entry) → base_with new.rows ≡ apply (replay base kept.feed) entry
    → new.feed ≡ kept.feed ++ entry ∷ [] → new.marks ≡ kept.marks ++ moment_of now ∷ []
    → new.doubt ≡ kept.doubt → CommitsSafely {T = T} {E = E} (replay base kept.feed) (apply
    (replay base kept.feed) entry) (Ok x) old now → IsSafe base first new now
safe_grown base first old now kept new entry x safe going sound rows feed marks doubt commits =
    let none : new.doubt ≡ None = doubt ∙ safe.no_doubt going in
    let none_old : entry_in_doubt kept.doubt ≡ None = ap entry_in_doubt (safe.no_doubt going) in
    let none_new : entry_in_doubt new.doubt ≡ None = ap entry_in_doubt none in
    let after : replay base (kept.feed ++ entry ∷ []) ≡ apply
    (replay base kept.feed) entry = replay-more base kept.feed entry in
    let whole : replay base new.feed ≡ apply (replay base kept.feed) entry = ap (replay base) feed ∙ after in
    let crash0 : CrashSafe OpensTo base kept.feed [] kept.marks first old = subst (λ
    (o : Option EntryData). CrashSafe OpensTo base kept.feed (doubts kept.feed o) kept.marks first old)
    none_old safe.crash in
    let crash1 : CrashSafe OpensTo base (kept.feed ++ entry ∷ []) [] (kept.marks ++ moment_of now ∷ []) first now =
    crash_grown base kept.feed entry kept.marks first old now crash0
    (subst (λ (b : BaseData). Run (EachImage (λ image. OpensTo image
    (replay base kept.feed) ⊎ OpensTo image b)) old now) (sym after) commits.moments)
    (subst (λ (b : BaseData). EachImage (λ image. OpensTo image b) now.now.disk) (sym after) commits.whole) in
    let crash2 : CrashSafe OpensTo base new.feed [] (kept.marks ++ moment_of now ∷ []) first now = subst (λ
    (l : List EntryData). CrashSafe OpensTo base l [] (kept.marks ++ moment_of now ∷ []) first now)
    (sym feed) crash1 in
    let crash3 : CrashSafe OpensTo base new.feed [] new.marks first now = subst (λ
    (l : List ℕ). CrashSafe OpensTo base new.feed [] l first now) (sym marks) crash2 in
    record {
      crash = subst (λ (o : Option EntryData). CrashSafe OpensTo base new.feed (doubts new.feed o) new.marks first now)
          (sym none_new) crash3;
      whole = subst (λ (o : Option EntryData). EachImage (OpensWith base new.feed o) now.now.disk) (sym none_new)
          (subst (λ (b : BaseData). EachImage (λ image. OpensTo image b) now.now.disk) (sym whole) commits.whole);
      sound = subst IsSoundBase (sym whole) sound;
      rows_are = rows ∙ sym whole;
      no_doubt = λ _. none;
    }

-- its write failed
pub safe_doubted : {T E : Type 0} (base : BaseData) (first old now : Story) (kept new : KeptData) (entry : EntryData)
    (why : E) (at : ℕ) → IsSafe base first kept old → kept.halted ≡ None
    → new.rows ≡ kept.rows → new.feed ≡ kept.feed → new.marks ≡ kept.marks → new.halted ≡ Some at
    → entry_in_doubt new.doubt ≡ Some entry
    → CommitsSafely {T = T} {E = E} (replay base kept.feed) (apply (replay base kept.feed) entry) (Err why)
    old now → IsSafe base first new now
safe_doubted base first old now kept new entry why at safe going rows feed marks halted doubt commits =
    let none_old : entry_in_doubt kept.doubt ≡ None = ap entry_in_doubt (safe.no_doubt going) in
    let whole_old : EachImage (OpensWith base kept.feed None) old.now.disk = subst (λ
    (o : Option EntryData). EachImage (OpensWith base kept.feed o) old.now.disk) none_old safe.whole in
    let whole_new : EachImage (OpensWith base kept.feed (Some entry)) now.now.disk =
    run_last (EachImage (OpensWith base kept.feed (Some entry))) old now
    (λ image allowed. inl (whole_old image allowed)) commits.moments in
    let crash0 : CrashSafe OpensTo base kept.feed [] kept.marks first old = subst (λ
    (o : Option EntryData). CrashSafe OpensTo base kept.feed (doubts kept.feed o) kept.marks first old)
    none_old safe.crash in
    let crash1 : CrashSafe OpensTo base kept.feed
    ((length kept.feed, entry) ∷ []) kept.marks first now = crash_doubted base kept.feed entry kept.marks first old
    now crash0 commits.moments in
    let crash2 : CrashSafe OpensTo base kept.feed (doubts kept.feed (entry_in_doubt new.doubt)) kept.marks first now =
    subst (λ
    (o : Option EntryData). CrashSafe OpensTo base kept.feed (doubts kept.feed o) kept.marks first now)
    (sym doubt) crash1 in
    let crash3 : CrashSafe OpensTo base new.feed (doubts new.feed (entry_in_doubt new.doubt)) kept.marks first now =
    subst (λ (l : List EntryData). CrashSafe OpensTo base l (doubts l (entry_in_doubt new.doubt)) kept.marks first now)
    (sym feed) crash2 in
    record {
      crash = subst (λ (l : List ℕ). CrashSafe OpensTo base new.feed (doubts new.feed (entry_in_doubt new.doubt)) l
          first now) (sym marks) crash3;
      whole = subst (λ (o : Option EntryData). EachImage (OpensWith base new.feed o) now.now.disk) (sym doubt)
          (subst (λ (l : List EntryData). EachImage (OpensWith base l (Some entry)) now.now.disk) (sym feed) whole_new);
      sound = subst (λ (l : List EntryData). IsSoundBase (replay base l)) (sym feed) safe.sound;
      rows_are = ap base_with rows ∙ safe.rows_are ∙ ap (replay base) (sym feed);
      no_doubt = λ none. let both : Some at ≡ None = sym halted ∙ none in absurd cc;
    }

-- the rows, the feed and what is in doubt are the same, and commits may have ended
pub record SameFeed (old new : KeptData) : Type 0 where
  pub rows : new.rows ≡ old.rows
  pub feed : new.feed ≡ old.feed
  pub marks : new.marks ≡ old.marks
  pub doubt : new.doubt ≡ old.doubt
  pub halted : new.halted ≡ None → old.halted ≡ None

abbrev with_halted : Option ℕ → KeptData → KeptData
with_halted halted kept = record kept { halted = halted }

same_feed : (old new : KeptData) → SameFeed old new → with_halted new.halted old ≡ new
same_feed old new same = λ i. record {
  rows = sym same.rows i;
  feed = sym same.feed i;
  marks = sym same.marks i;
  halted = new.halted;
  doubt = sym same.doubt i;
}

-- nothing was committed
pub safe_kept : (base : BaseData) (first old now : Story) (kept new : KeptData) → IsSafe base first kept old
    → SameFeed kept new → Run (EachImage (OpensWith base kept.feed (entry_in_doubt kept.doubt))) old now
    → IsSafe base first new now
safe_kept base first old now kept new safe same run =
    subst (λ (k : KeptData). IsSafe base first k now) (same_feed kept new same) (record {
      crash = crash_kept base kept.feed (entry_in_doubt kept.doubt) kept.marks first old now safe.crash run;
      whole = run_last (EachImage (OpensWith base kept.feed (entry_in_doubt kept.doubt))) old now safe.whole run;
      sound = safe.sound;
      rows_are = safe.rows_are;
      no_doubt = λ none. safe.no_doubt (same.halted none);
    })
