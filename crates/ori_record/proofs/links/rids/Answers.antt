use Rattle.std.proofs.Common.{◌++◌, [], ◌∷◌, ap, ◌∙◌, append_assoc, Some}
use Rattle.std.proofs.lemmas.List.{append-nil}
use Rattle.std.proofs.lemmas.Result.{err_from_is_err_and}
use Rattle.ori_record.specs.Reading.{link_at, rids_at}
use Rattle.ori_record.proofs.Loops.{goes_on, ends, is_done}
use Rattle.ori_record.proofs.links.rids.Goals as goal

pub returns-in_err-link : goal.returns-in_err-link
unfolding rids_at
returns-in_err-link c =
    let p = err_from_is_err_and c.from_residual.result c.from_residual.ensures.1 in
    rw (p.1, p.2) (ends _ link_at (λ rid rids. rid ∷ rids) [] (λ r. c.loop.rids.items ++ r) c.args.count c.loop.counter
    c.loop.reader _ c.loop-test.true c.in_err-link.ensures c.loop.invariant)

pub loop-preserved : goal.loop-preserved
loop-preserved c =
    rw c.in_ok-push.ensures.items (goes_on link_at (λ rid rids. rid ∷ rids) [] (λ r. c.loop.rids.items ++ r)
    (λ r. (c.loop.rids.items ++ c.in_ok-link.field-0 ∷ []) ++ r) c.args.count c.loop.counter c.loop.reader
    c.in_ok-link.field-0 c.link.new.self _ (λ r. append_assoc c.loop.rids.items (c.in_ok-link.field-0 ∷ []) r)
    c.loop-test.true c.in_ok-link.ensures c.loop.invariant)

pub returns : goal.returns
unfolding rids_at
returns c =
    is_done link_at (λ rid rids. rid ∷ rids) [] (λ r. c.loop.rids.items ++ r) c.args.count c.loop.counter
    c.loop.reader _ c.loop-test.false c.loop.invariant ∙ ap (λ l. Some (l, c.loop.reader)) (append-nil
    c.loop.rids.items)
