-- A reopening that comes to the next opening, and one that fails.
use Rattle.std.proofs.Common.{◌≡◌, ◌⊎◌, ℕ, Option, Some, IfSome, refl, sym, ◌∙◌, ap, subst, inl, inr, arith}
use Rattle.ori_volume.specs.Causes.{Rose}
use Rattle.ori_volume.specs.Disk.{Files, files_of, IsImage}
use Rattle.ori_volume.specs.Story.{Story, Tells}
use Rattle.ori_volume.proofs.Known.{tells_refl}
use Rattle.ori_spec_data.specs.Base.{EntryData}
use Rattle.ori_engine.specs.Doubts.{DoubtData, entry_in_doubt}
use Rattle.ori_engine.specs.Openings.{LeavesBase}
use Rattle.ori_engine.specs.Reopening.{HasTailOf}
use Rattle.ori_engine.proofs.Safety.{crash_still}
use Rattle.ori_script.specs.Pasts.{EarlierData}
use Rattle.ori_script.specs.Openings.{VolumeData, EngineData, HasClosed, FailsToReopen, ComesToNext, Begins, TellsOne}
use Rattle.ori_script.specs.Openings.{decided_by}
use Rattle.ori_script.proofs.Loops.{IsOver}

-- memory ran out before the opening ended
pub ran_out : (engine : EngineData) (before after : EarlierData) (status : ℕ) (doubt : Option EntryData)
    (volume : VolumeData) → status ≡ 2 → IsOver engine before after doubt volume
    → IfSome volume.told.story (λ s. IsImage s.now.disk (files_of s.now.disk))
    → FailsToReopen engine before after status doubt volume
ran_out engine before after status doubt volume is over read = record {
  mid = volume;
  left = over.0;
  closed = over.2;
  doubt_is = over.1;
  read = read;
  crash = tells_refl LeavesBase volume.told.story (λ story. λ base opens. crash_still base story);
  why = inl is;
  fault = λ five. absurd (cc (is, five));
  form = λ six. absurd (cc (is, six));
  unchanged = λ six. refl;
  later = omega arith;
  log_later = omega arith;
}

-- the next opening is there, and the entry in doubt decided
pub comes_so : (old : EngineData) (before between after : EarlierData) (new : EngineData) (mid volume : VolumeData)
    (left : Option DoubtData) (tail counted opened : ℕ) → HasClosed old before between left mid → tail ≡ counted
    → IfSome mid.told.files (λ fs. HasTailOf fs counted) → opened ≡ new.state.opening.moment
    → after ≡ decided_by between left tail opened → TellsOne mid.told → Begins mid new volume
    → ComesToNext old before after new volume
comes_so old before between after new mid volume left tail counted opened closed same tail_is at is one begins = record {
  mid = mid;
  between = between;
  left = left;
  closed = closed;
  tail = tail;
  tail_is = subst (λ (n : ℕ). IfSome mid.told.files (λ fs. HasTailOf fs n)) (sym same) tail_is;
  decided_is = is ∙ ap (λ (n : ℕ). decided_by between left tail n) at;
  one = one;
  begins = begins;
}
