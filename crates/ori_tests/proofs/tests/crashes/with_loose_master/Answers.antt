use Rattle.std.proofs.Common.{arith}
use Rattle.ori_volume.specs.declared.file.FileNo.TheVariants.{Master}
use Rattle.ori_tests.proofs.tests.crashes.with_loose_master.Goals as goal

-- the picked image has the least length
pub crash_with-requires-clause-inside : goal.crash_with-requires-clause-inside
crash_with-requires-clause-inside c =
    omega (arith, c.len.ensures, (c.in_ok-image.ensures.picked Master).long, c.if-len-eq0.false)
