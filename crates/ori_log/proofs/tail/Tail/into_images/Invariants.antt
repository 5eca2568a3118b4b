use Rattle.std.proofs.Common.{◌≡◌, map}
use Rattle.ori_log.proofs.Entries.{entry_image}
use Rattle.ori_log.proofs.tail.Tail.into_images.Given as goal

abbrev pub invariant-loop-page : goal.invariant-loop-page
invariant-loop-page l = l.images ≡ map entry_image l.yielded
