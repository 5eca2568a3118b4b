use Rattle.std.proofs.Common.{◌≡◌, ◌+◌, ◌*◌, ◌≤◌, take, map, flat_map, Ok}
use Rattle.ori_volume.specs.declared.failed.Failed.{Failed}
use Rattle.ori_volume.specs.Story.{Tells}
use Rattle.ori_log.specs.Staging.{Stages, StagesFiles}
use Rattle.ori_log.specs.Images.{image_data}
use Rattle.ori_log.specs.declared.stage.TheConstants.{IMAGE_BYTES}
use Rattle.ori_log.specs.Log.{image_bytes}
use Rattle.ori_log.proofs.stage.Stage.put_images.Given as goal

abbrev pub invariant-loop-image : goal.invariant-loop-image
invariant-loop-image g l = record {
  reached : l.self.at + l.self.filled ≡ l.fn.self.at + l.fn.self.filled + IMAGE_BYTES * l.image-index;
  later : l.fn.self.at ≤ l.self.at;
  files : Tells (StagesFiles {T = Unit {0}} {E = Failed} l.file l.fn.self l.self
      (flat_map image_bytes (map image_data (take l.image-index l.images))) (Ok tt)) (g.V.Volume.files l.fn.volume)
      (g.V.Volume.files l.volume);
  crash : Tells (Stages {T = Unit {0}} {E = Failed} l.file l.fn.self l.self
      (flat_map image_bytes (map image_data (take l.image-index l.images))) (Ok tt)) (g.V.Volume.story l.fn.volume)
      (g.V.Volume.story l.volume);
  faults : g.V.Volume.faults l.fn.volume ≤ g.V.Volume.faults l.volume;
  log_faults : g.V.Volume.log_faults l.volume ≡ g.V.Volume.log_faults l.fn.volume;
}
