use Rattle.std.proofs.Common.{ℕ, List, map, flat_map, take, arith, sym, ◌∙◌, subst, Ok}
use Rattle.ori_volume.specs.declared.failed.Failed.{Failed}
use Rattle.ori_volume.specs.Story.{Tells}
use Rattle.ori_volume.proofs.Known.{tells_then}
use Rattle.ori_log.specs.Log.{image_bytes}
use Rattle.ori_log.specs.Images.{image_data}
use Rattle.ori_log.specs.Staging.{Stages, StagesFiles}
use Rattle.ori_log.proofs.Images.{images_more}
use Rattle.ori_log.proofs.Stages.{stages_then, stages_failed, files_then, files_failed}
use Rattle.ori_log.proofs.stage.Stage.put_images.Goals as goal

pub returns-in_err-put_image-clause-crash : goal.returns-in_err-put_image-clause-crash
returns-in_err-put_image-clause-crash g c =
    tells_then _ _ _ _ _ _
    (λ old mid new first second.
    stages_failed c.args.file c.args.self.now c.loop-image.self c.put_image.new.self
    (flat_map image_bytes (map image_data (take c.loop-image.image-index c.args.images.now)))
    (image_bytes (image_data c.image-item.result)) (flat_map image_bytes (map image_data c.args.images.now))
    c.in_err-put_image.field-0.0 c.from_residual.result old mid new
    c.from_residual.ensures.0 first second)
    c.loop-image.invariant.crash c.in_err-put_image.ensures.crash

pub returns-in_err-put_image-clause-files : goal.returns-in_err-put_image-clause-files
returns-in_err-put_image-clause-files g c =
    tells_then _ _ _ _ _ _
    (λ old mid new first second.
    files_failed c.args.file c.args.self.now c.loop-image.self c.put_image.new.self
    (flat_map image_bytes (map image_data (take c.loop-image.image-index c.args.images.now)))
    (image_bytes (image_data c.image-item.result)) (flat_map image_bytes (map image_data c.args.images.now))
    c.in_err-put_image.field-0.0 c.from_residual.result old mid new
    c.from_residual.ensures.0 first second)
    c.loop-image.invariant.files c.in_err-put_image.ensures.files

pub loop-image-preserved : goal.loop-image-preserved
loop-image-preserved g c = record {
  reached = omega (arith, c.in_ok-put_image.ensures.reached);
  later = omega arith;
  files =
      let done = tells_then _ _ _ _ _ _
      (λ old mid new first second.
      files_then c.args.file c.args.self.now c.loop-image.self c.put_image.new.self
      (flat_map image_bytes (map image_data (take c.loop-image.image-index c.args.images.now)))
      (image_bytes (image_data c.image-item.result)) (Ok tt) old mid new first second)
      c.loop-image.invariant.files c.in_ok-put_image.ensures.files in
      subst (λ (l : List ℕ). Tells
      (StagesFiles {T = Unit {0}} {E = Failed} c.args.file c.args.self.now c.put_image.new.self
      l (Ok tt)) (g.V.Volume.files c.args.volume.now) (g.V.Volume.files c.put_image.new.volume))
      (sym (images_more c.args.images.now c.loop-image.image-index c.image-item.result c.loop-image-test.true
      c.image-item.is)) done;
  crash =
      let done = tells_then _ _ _ _ _ _
      (λ old mid new first second.
      stages_then c.args.file c.args.self.now c.loop-image.self c.put_image.new.self
      (flat_map image_bytes (map image_data (take c.loop-image.image-index c.args.images.now)))
      (image_bytes (image_data c.image-item.result)) (Ok tt) old mid new first second)
      c.loop-image.invariant.crash c.in_ok-put_image.ensures.crash in
      subst (λ (l : List ℕ). Tells (Stages {T = Unit {0}} {E = Failed} c.args.file c.args.self.now c.put_image.new.self
      l (Ok tt)) (g.V.Volume.story c.args.volume.now) (g.V.Volume.story c.put_image.new.volume))
      (sym (images_more c.args.images.now c.loop-image.image-index c.image-item.result c.loop-image-test.true
      c.image-item.is)) done;
  faults = omega (arith, c.in_ok-put_image.ensures.faults.later);
  log_faults = c.in_ok-put_image.ensures.log_fine ∙ c.loop-image.invariant.log_faults;
}
