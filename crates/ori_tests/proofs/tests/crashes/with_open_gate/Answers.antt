use Rattle.std.proofs.Common.{arith}
use Rattle.ori_volume.specs.declared.file.FileNo.TheVariants.{LogA}
use Rattle.ori_tests.proofs.tests.crashes.with_open_gate.Goals as goal

-- the picked image has the least length
pub crash_with-requires-clause-inside : goal.crash_with-requires-clause-inside
crash_with-requires-clause-inside c =
    omega (arith, c.len.ensures, (c.in_ok-image.ensures.picked LogA).long, c.if-len-at.false)
