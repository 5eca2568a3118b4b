use Rattle.std.proofs.Common.{arith}
use Rattle.ori_volmem.proofs.Past.{moments_noted}
use Rattle.ori_volmem.proofs.memory_disk.MemDisk.note.Goals as goal

pub invariant_of-self : goal.invariant_of-self
invariant_of-self c = record {
  counted = omega (
    arith,
    moments_noted _ _ _ c.push_reserved.ensures,
    c.replace-unnoted.ensures.value,
    c.replace-unnoted.ensures.after,
    c.args.self.now.counted,
  );
}
