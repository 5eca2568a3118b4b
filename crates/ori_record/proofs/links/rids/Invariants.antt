use Rattle.std.proofs.Common.{◌≡◌, ◌-◌, ◌++◌, [], ◌∷◌}
use Rattle.ori_record.specs.Reading.{link_at, repeat_at}
use Rattle.ori_record.proofs.Loops.{with_front}
use Rattle.ori_record.proofs.links.rids.Given as goal

abbrev pub invariant-loop : goal.invariant-loop
invariant-loop l =
    with_front (λ r. l.rids.items ++ r) (repeat_at link_at (λ rid rids. rid ∷ rids) [] (l.count - l.counter) l.reader)
    ≡ repeat_at link_at (λ rid rids. rid ∷ rids) [] l.count l.initial.reader
