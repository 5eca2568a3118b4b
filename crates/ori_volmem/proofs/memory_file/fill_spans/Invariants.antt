use Rattle.std.proofs.Common.{◌≡◌, ℕ, ◌<◌, length, take, get_or, if◌then◌else◌}
use Rattle.ori_volmem.specs.Record.{in_spans}
use Rattle.ori_volmem.specs.Crashes.{loose_byte}
use Rattle.ori_volmem.proofs.memory_file.fill_spans.Given as goal

abbrev pub invariant-loop-span : goal.invariant-loop-span
invariant-loop-span l =
    (k : ℕ) → k < length l.bytes → get_or l.bytes k 0 ≡ (if in_spans (take l.span-index l.spans) k then loose_byte
    l.pick l.seed k else get_or l.initial.bytes k 0)
