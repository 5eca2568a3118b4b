-- What an opening leaves.
use Rattle.std.proofs.Common.{◌≡◌, inl, inr, ⊎_elim, ℕ, ◌+◌, ◌<◌, ◌≤◌, List, [], ◌++◌, Option, None, Result}
use Rattle.std.proofs.Common.{refl, sym, ◌∙◌, ap, subst, arith, append_assoc}
use Rattle.ori_volume.specs.Disk.{Disk, IsImage}
use Rattle.ori_volume.specs.Story.{Story, moment_of, disks, Reads}
use Rattle.ori_volume.specs.Runs.{Run, EachImage}
use Rattle.ori_volume.proofs.RunSteps.{run_then, run_reads, run_weaker}
use Rattle.ori_spec_data.specs.Base.{BaseData, EntryData}
use Rattle.ori_spec_data.specs.Apply.{replay}
use Rattle.ori_spec_data.specs.Soundness.{IsSoundBase}
use Rattle.ori_log.specs.Log.{ImageData}
use Rattle.ori_log.specs.declared.log.Log.{Log}
use Rattle.ori_cover.specs.Given.{HoldsPages}
use Rattle.ori_cover.specs.Steps.{OpenedPages}
use Rattle.ori_spec_crash.specs.Crash.{LeftAt, CrashSafe, doubts}
use Rattle.ori_rows.specs.Rows.{base_with}
use Rattle.ori_rows.specs.Stage.{OpensTo}
use Rattle.ori_paged.specs.PageRows.{StandOrInitial}
use Rattle.ori_paged.proofs.PageRows.{holds_open}
use Rattle.ori_engine.specs.Doubts.{entry_in_doubt, OpensWith}
use Rattle.ori_engine.specs.Safety.{KeptData, IsSafe}
use Rattle.ori_engine.proofs.Moments.{left_now, left_run}

-- ---- an opening changes no base

opens_safely : (base : BaseData) (old firmed new : Story) → Run (EachImage
    (λ image. IsImage old.now.disk image)) old firmed → moment_of firmed ≤ moment_of old + 4
    → Run (EachImage (λ image. OpensTo image base)) firmed new → CrashSafe OpensTo base [] [] [] old new
opens_safely base old firmed new settling soon making = record {
  added = making.added ++ settling.added;
  goes_on = making.goes_on ∙ ap (λ (l : List Disk). making.added ++ l) settling.goes_on
      ∙ sym (append_assoc making.added settling.added (disks old));
  images = λ t image low high left.
      ⊎_elim (λ (made : (moment_of firmed < t) × OpensTo image base).
      inl (inl (0, omega arith, omega arith, made.1)))
      (λ (earlier : (t ≤ moment_of firmed) × LeftAt firmed t image).
      inr (
        omega (arith, earlier.0, soon),
        refl,
        ⊎_elim (λ (settled : (moment_of old < t) × IsImage old.now.disk image). settled.1)
            (λ (first : (t ≤ moment_of old) × LeftAt old t image). left_now old t image (omega
            (arith, low, first.0)) first.1)
            (left_run (λ image. IsImage old.now.disk image) old firmed t image earlier.0 settling earlier.1),
      ))
      (left_run (λ image. OpensTo image base) firmed new t image high making left);
  one_each = refl;
  marks_rise = tt;
  none_later = tt;
}

-- an opening of the pages of a sound base, and reads behind it
pub pages_safely : {E : Type 0} (base : BaseData) (pages : List (List ℕ)) (result : Result (Log × List ImageData) E)
    (old mid new : Story) → OpenedPages pages result old mid → Reads mid new → StandOrInitial pages base
    → IsSoundBase base → CrashSafe OpensTo base [] [] [] old new
pages_safely base pages result old mid new opened reads stand sound =
    let Q : Disk → Type 0 = EachImage (λ image. OpensTo image base) in
    let making : Run Q opened.firmed mid = run_weaker (EachImage (HoldsPages pages)) Q opened.firmed mid
    (λ disk holds image allowed. holds_open pages image base (holds image allowed) stand sound) opened.making in
    opens_safely base old opened.firmed new opened.settling opened.soon
    (run_then Q opened.firmed mid new making (run_reads Q mid new reads))

-- what is kept first is safe
pub first_safe : (base : BaseData) (first now : Story) (kept : KeptData) → CrashSafe OpensTo base [] [] [] first now
    → EachImage (λ image. OpensTo image base) now.now.disk → IsSoundBase base → base_with kept.rows ≡ base
    → kept.feed ≡ [] → kept.marks ≡ [] → kept.doubt ≡ None → IsSafe base first kept now
first_safe base first now kept crash whole sound rows feed marks doubt =
    let none : entry_in_doubt kept.doubt ≡ None = ap entry_in_doubt doubt in
    let replayed : replay base kept.feed ≡ base = ap (replay base) feed in
    let crash1 : CrashSafe OpensTo base [] (doubts [] (entry_in_doubt kept.doubt)) [] first now = subst (λ
    (o : Option EntryData). CrashSafe OpensTo base [] (doubts [] o) [] first now) (sym none) crash in
    let crash2 : CrashSafe OpensTo base kept.feed (doubts kept.feed (entry_in_doubt kept.doubt)) [] first now = subst (λ
    (l : List EntryData). CrashSafe OpensTo base l (doubts l (entry_in_doubt kept.doubt)) [] first now) (sym feed)
    crash1 in
    record {
      crash = subst (λ (l : List ℕ). CrashSafe OpensTo base kept.feed (doubts kept.feed (entry_in_doubt kept.doubt)) l
          first now) (sym marks) crash2;
      whole = subst (λ (o : Option EntryData). EachImage (OpensWith base kept.feed o) now.now.disk) (sym none)
          (subst (λ (b : BaseData). EachImage (λ image. OpensTo image b) now.now.disk) (sym replayed) whole);
      sound = subst IsSoundBase (sym replayed) sound;
      rows_are = rows ∙ sym replayed;
      no_doubt = λ going. doubt;
    }
