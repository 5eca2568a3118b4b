use Rattle.std.proofs.Common.{ap, ◌∙◌, Some}
use Rattle.std.proofs.lemmas.Result.{err_from_is_err_and}
use Rattle.ori_spec_data.specs.Value.{unlinked, linked}
use Rattle.ori_record.specs.Reading.{named_link_at, links_at}
use Rattle.ori_record.proofs.Loops.{goes_on, ends, is_done, links_onto, links_last, links_all}
use Rattle.ori_record.proofs.links.links.Goals as goal

pub returns-in_err-named_link : goal.returns-in_err-named_link
unfolding links_at
returns-in_err-named_link c =
    let p = err_from_is_err_and c.from_residual.result c.from_residual.ensures.1 in
    rw (p.1, p.2) (ends _ named_link_at (λ x links. linked x.0 x.1 links) unlinked (links_onto c.loop.links.items)
    c.args.count c.loop.counter c.loop.reader _ c.loop-test.true c.in_err-named_link.ensures c.loop.invariant)

pub loop-preserved : goal.loop-preserved
loop-preserved c =
    rw c.in_ok-push.ensures.items (goes_on named_link_at (λ x links. linked x.0 x.1 links) unlinked
    (links_onto c.loop.links.items) _ c.args.count c.loop.counter c.loop.reader c.in_ok-named_link.field-0
    c.named_link.new.reader _ (λ r. links_last c.loop.links.items c.in_ok-named_link.field-0 r) c.loop-test.true
    c.in_ok-named_link.ensures c.loop.invariant)

pub returns : goal.returns
unfolding links_at
returns c =
    is_done named_link_at (λ x links. linked x.0 x.1 links) unlinked (links_onto c.loop.links.items) c.args.count
    c.loop.counter c.loop.reader _ c.loop-test.false c.loop.invariant
    ∙ ap (λ l. Some (l, c.loop.reader)) (links_all c.loop.links.items)
