use Rattle.std.proofs.Common.{◌≡◌, ◌-◌}
use Rattle.ori_spec_data.specs.Value.{unlinked, linked}
use Rattle.ori_record.specs.Reading.{named_link_at, repeat_at}
use Rattle.ori_record.proofs.Loops.{with_front, links_onto}
use Rattle.ori_record.proofs.links.links.Given as goal

abbrev pub invariant-loop : goal.invariant-loop
invariant-loop l =
    with_front (links_onto l.links.items)
    (repeat_at named_link_at (λ x links. linked x.0 x.1 links) unlinked (l.count - l.counter) l.reader)
    ≡ repeat_at named_link_at (λ x links. linked x.0 x.1 links) unlinked l.count l.initial.reader
