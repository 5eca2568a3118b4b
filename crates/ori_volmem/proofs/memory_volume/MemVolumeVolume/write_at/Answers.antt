use Rattle.std.proofs.Common.{◌≡◌, ◌≤◌, ◌||◌, ℕ, true, false, List, length, take, refl, sym, ◌∙◌, arith, true≢false}
use Rattle.std.proofs.Common.{length-take}
use Rattle.ori_volume.specs.Disk.{FileData}
use Rattle.ori_volume.specs.Effects.{changed, written, is_touched, put, Torn, Tears}
use Rattle.ori_volmem.specs.Memory.{is_planned}
use Rattle.ori_volmem.specs.VolumeStates.{volume_data}
use Rattle.ori_volmem.specs.VolumeLaws.{sound}
use Rattle.ori_volume.proofs.Torn.{tears_torn, kept_torn, piece_tears}
use Rattle.ori_volmem.proofs.Told.{answers_as, ends, counts_log, files_write}
use Rattle.ori_volmem.proofs.memory_volume.MemVolumeVolume.write_at.Goals as goal

pub returns-then-not-is_to_fail-clause-answers : goal.returns-then-not-is_to_fail-clause-answers
returns-then-not-is_to_fail-clause-answers c =
    let done : FileData → FileData → Type 0 = λ f g. g ≡ written f c.args.at c.args.from.now in
    answers_as c.args.file (is_planned (volume_data c.args.self.now)) false done done done
    (Tears c.args.at (length c.args.from.now)) c.change.result
    _ _ _ _ _ _ _ _ _ (sym c.if-not-is_to_fail.true ∙ c.is_to_fail.ensures) (λ g unplanned is. is)
    (λ g planned is. absurd (true≢false (sym planned))) c.change.ensures.answers

pub returns-clause-answers : goal.returns-clause-answers
returns-clause-answers c =
    let at = c.args.at in
    let from : List ℕ = c.args.from.now in
    let piece : List ℕ = take c.draw-kept.result from in
    let torn : FileData → FileData → Type 0 =
    λ f g. g ≡ changed f (put f.bytes at piece) (λ k. f.loose k || is_touched (length f.bytes) at (length from) k)
    in
    let fits : length piece ≤ length from = omega (arith, length-take c.draw-kept.result from) in
    answers_as c.args.file (is_planned (volume_data c.args.self.now)) true torn torn (λ f g. g ≡ written f at from)
    (Tears at (length from)) c.change-2.result
    _ _ _ _ _ _ _ _ _ (sym c.if-not-is_to_fail.false ∙ c.is_to_fail.ensures)
    (λ g unplanned is. absurd (true≢false unplanned))
    (λ g planned is. piece_tears at (length from) piece _ g fits is) c.change-2.ensures.answers

pub returns-then-not-is_to_fail-clause-story : goal.returns-then-not-is_to_fail-clause-story
returns-then-not-is_to_fail-clause-story c =
    let before = volume_data c.args.self.now in
    let after = volume_data c.change.new.self in
    let at = c.args.at in
    let count : ℕ = length c.args.from.now in (
      after.story,
      refl,
      ends c.args.file (is_planned before) (λ f g. g ≡ written f at c.args.from.now) (Tears at count) (Torn at count)
          c.change.result before after
          (tears_torn at count) (λ g is. kept_torn at count _ g (sound c.args.self.now c.args.file) is)
          (returns-then-not-is_to_fail-clause-answers c),
    )

pub returns-clause-story : goal.returns-clause-story
returns-clause-story c =
    let before = volume_data c.args.self.now in
    let after = volume_data c.change-2.new.self in
    let at = c.args.at in
    let count : ℕ = length c.args.from.now in (
      after.story,
      refl,
      ends c.args.file (is_planned before) (λ f g. g ≡ written f at c.args.from.now) (Tears at count) (Torn at count)
          c.change-2.result before after
          (tears_torn at count) (λ g is. kept_torn at count _ g (sound c.args.self.now c.args.file) is)
          (returns-clause-answers c),
    )

pub returns-then-not-is_to_fail-clause-files : goal.returns-then-not-is_to_fail-clause-files
unfolding returns-then-not-is_to_fail-clause-story
returns-then-not-is_to_fail-clause-files c = (
  _,
  refl,
  files_write c.args.file c.args.at c.args.from.now c.change.result _ _
      (returns-then-not-is_to_fail-clause-story c).2,
)

pub returns-clause-files : goal.returns-clause-files
unfolding returns-clause-story
returns-clause-files c = (
  _,
  refl,
  files_write c.args.file c.args.at c.args.from.now c.change-2.result _ _
      (returns-clause-story c).2,
)

pub returns-clause-log_faults : goal.returns-clause-log_faults
returns-clause-log_faults c = counts_log c.args.file _ (λ f g. g ≡ written f c.args.at c.args.from.now)
    (Tears c.args.at (length c.args.from.now)) c.change-2.result _ _ (returns-clause-answers c)
