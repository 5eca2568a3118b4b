use Rattle.ori_volmem.proofs.Bytes.{read_done}
use Rattle.ori_volmem.proofs.memory_volume.read_into.Goals as goal

pub returns : goal.returns
returns c = read_done _ _ _ _ _ _ _ c.min.ensures c.min-count.ensures (c.fill.ensures.after (λ y e. e))
    c.copy_from_slice.ensures.after
