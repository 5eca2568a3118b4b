use Rattle.std.proofs.Common.{◌+◌, drop, refl, ap}
use Rattle.ori_volume.proofs.Pieces.{read_front}
use Rattle.ori_volmem.proofs.memory_streams.MemSourceSource.read.Goals as goal

pub returns-clause-bytes : goal.returns-clause-bytes
returns-clause-bytes c = (
  drop (c.self.inside.at + c.min-count.result) c.self.inside.bytes,
  read_front _ _ _ _ _ _ _ _ (ap (λ s. s.bytes) c.self.view_is) c.as_slice-2.ensures c.min-count.ensures
      c.copy_from_slice.ensures.after,
  refl,
)
