use Rattle.std.proofs.Common.{◌≡◌}
use Rattle.ori_overlay.specs.Over.{images_of}
use Rattle.ori_overlay.proofs.overlay.listed.Given as goal

abbrev pub invariant-loop-page : goal.invariant-loop-page
invariant-loop-page l = l.images ≡ images_of l.yielded
