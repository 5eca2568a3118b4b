use Rattle.std.proofs.Common.{◌≡◌, ◌-◌, ◌++◌, map}
use Rattle.ori_record.specs.Reading.{heads_at}
use Rattle.ori_record.specs.Seen.{head_data}
use Rattle.ori_record.proofs.Loops.{with_front}
use Rattle.ori_record.proofs.heads.heads_within.Given as goal

abbrev pub invariant-loop : goal.invariant-loop
invariant-loop l =
    with_front (λ hs. map head_data l.heads.items ++ hs) (heads_at (l.limit - l.counter) l.reader)
    ≡ heads_at l.limit l.initial.reader
