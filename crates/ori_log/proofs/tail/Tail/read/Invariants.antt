use Rattle.std.proofs.Common.{◌≡◌, ◌-◌, ◌≤◌, length, IfSome, List}
use Rattle.ori_volume.specs.Disk.{of_file}
use Rattle.ori_volume.specs.OnlyRead.{IsOnlyRead}
use Rattle.ori_log.specs.Log.{ImageData}
use Rattle.ori_log.specs.Tails.{IsBounded, ReadTo}
use Rattle.ori_log.proofs.tail.Tail.read.Given as goal

abbrev pub invariant-loop-tail : goal.invariant-loop-tail
invariant-loop-tail g l = record {
  value : IfSome (g.V.Volume.files l.fn.volume) (λ fs. l.fn.len ≡ length (of_file fs l.fn.file)
      → (records : List (List ImageData)) × ReadTo (of_file fs l.fn.file) records l.tail);
  counted : l.tail.records ≤ l.tail.place;
  bounded : IsBounded l.tail;
  same : IsOnlyRead g.V.Volume.files g.V.Volume.story g.V.Volume.moment g.V.Volume.log_faults l.fn.volume l.volume;
  faults : g.V.Volume.faults l.fn.volume ≤ g.V.Volume.faults l.volume;
}

abbrev pub decreases-loop-tail : goal.decreases-loop-tail
decreases-loop-tail g l = l.len - l.tail.place
