use Rattle.std.proofs.Common.{◌≡◌, ◌+◌, ◌*◌, ◌≤◌, length, IfSome, List}
use Rattle.ori_volume.specs.Disk.{of_file}
use Rattle.ori_volume.specs.OnlyRead.{IsOnlyRead}
use Rattle.ori_log.specs.Log.{ImageData}
use Rattle.ori_log.specs.Tails.{IsBounded}
use Rattle.ori_log.specs.declared.stage.TheConstants.{IMAGE_BYTES}
use Rattle.ori_log.proofs.Reading.{SoFar}
use Rattle.ori_log.proofs.tail.Tail.read_images.Given as goal

abbrev pub invariant-loop-i : goal.invariant-loop-i
invariant-loop-i g l = record {
  value : IfSome (g.V.Volume.files l.fn.volume) (λ fs. l.fn.self.place + 9 + IMAGE_BYTES * l.fn.count ≤ length
      (of_file fs l.fn.file)
      → (images : List ImageData) × SoFar (of_file fs l.fn.file) (l.fn.self.place + 9) l.i images l.low l.fn.self
      l.self);
  place : l.self.place ≡ l.fn.self.place;
  records : l.self.records ≡ l.fn.self.records;
  bounded : IsBounded l.fn.self → IsBounded l.self;
  same : IsOnlyRead g.V.Volume.files g.V.Volume.story g.V.Volume.moment g.V.Volume.log_faults l.fn.volume l.volume;
  faults : g.V.Volume.faults l.fn.volume ≤ g.V.Volume.faults l.volume;
}
