use Rattle.std.proofs.Common.{◌++◌, [], ◌∷◌, map, ap, ◌∙◌, Some, append_assoc, arith}
use Rattle.std.proofs.lemmas.List.{append-nil, map_push}
use Rattle.std.proofs.lemmas.Result.{err_from_is_err_and}
use Rattle.ori_record.specs.Seen.{head_data}
use Rattle.ori_record.proofs.Loops.{heads_uncounted, heads_end, heads_unread, heads_go_on, heads_none}
use Rattle.ori_record.proofs.heads.heads_within.Goals as goal

pub returns-in_err-count : goal.returns-in_err-count
returns-in_err-count c =
    let p = err_from_is_err_and c.from_residual.result c.from_residual.ensures.1 in
    rw (p.1, p.2) (heads_uncounted _ (λ hs. map head_data c.loop.heads.items ++ hs) c.args.limit c.loop.counter
    c.loop.reader _ c.loop-test.true c.in_err-count.ensures c.loop.invariant)

pub returns-then-count-eq0 : goal.returns-then-count-eq0
returns-then-count-eq0 c =
    heads_end (λ hs. map head_data c.loop.heads.items ++ hs) c.args.limit c.loop.counter c.in_ok-count.count
    c.loop.reader c.count.new.self _ c.loop-test.true c.in_ok-count.ensures (omega arith) c.loop.invariant
    ∙ ap (λ hs. Some (hs, c.count.new.self)) (append-nil (map head_data c.loop.heads.items))

pub returns-in_err-head_of : goal.returns-in_err-head_of
returns-in_err-head_of c =
    let p = err_from_is_err_and c.from_residual-in_err-head_of.result c.from_residual-in_err-head_of.ensures.1 in
    rw (p.1, p.2) (heads_unread _ (λ hs. map head_data c.loop.heads.items ++ hs) c.args.limit c.loop.counter
    c.in_ok-count.count c.loop.reader c.count.new.self _ c.loop-test.true c.in_ok-count.ensures (λ z. omega (arith, z))
    c.in_err-head_of.ensures c.loop.invariant)

pub loop-preserved : goal.loop-preserved
loop-preserved c =
    let h = c.in_ok-head_of.field-0 in
    rw (c.in_ok-push.ensures.items, map_push head_data c.loop.heads.items h) (heads_go_on
    (λ hs. map head_data c.loop.heads.items ++ hs) (λ hs. (map head_data c.loop.heads.items ++ head_data h ∷ []) ++ hs)
    c.args.limit c.loop.counter c.in_ok-count.count c.loop.reader c.count.new.self (head_data h) c.head_of.new.reader _
    (λ hs. append_assoc (map head_data c.loop.heads.items) (head_data h ∷ []) hs) c.loop-test.true
    c.in_ok-count.ensures (λ z. omega (arith, z)) c.in_ok-head_of.ensures c.loop.invariant)

pub returns : goal.returns
returns c =
    heads_none (λ hs. map head_data c.loop.heads.items ++ hs) c.args.limit c.loop.counter c.loop.reader _
    c.loop-test.false c.loop.invariant
