use Rattle.std.proofs.Common.{sym, ap, subst, option_and_then}
use Rattle.std.proofs.lemmas.Result.{err_from_is_err_and}
use Rattle.ori_volume.proofs.Known.{tells_map}
use Rattle.ori_part.specs.declared.place.Place.{Place}
use Rattle.ori_part.specs.Parts.{unwritten, HoldsNoMore}
use Rattle.ori_part.proofs.Held.{marked_held}
use Rattle.ori_pool.specs.Held.{dirty_place}
use Rattle.ori_pool.proofs.GoingHome.{sends_fewer, marked_places}
use Rattle.ori_pool.proofs.flushing.flush_first.Goals as goal

pub returns-in_err-flush-clause-crash : goal.returns-in_err-flush-clause-crash
returns-in_err-flush-clause-crash g c =
    let d = c.in-Some.ensures.dirty in
    let dirty = ap dirty_place d.1 in
    let p = err_from_is_err_and c.from_residual.result c.from_residual.ensures.1 in
    rw (p.1, p.2) (tells_map _ _ _ _
    (λ x y known writes. (c.in-Some.page, d.0, dirty, c.in_err-flush.ensures.err, writes))
    (c.in_err-flush.ensures.crash d.0 dirty))

pub returns-in_err-flush-clause-read : goal.returns-in_err-flush-clause-read
returns-in_err-flush-clause-read g c =
    let d = c.in-Some.ensures.dirty in
    let dirty = ap dirty_place d.1 in
    let p = err_from_is_err_and c.from_residual.result c.from_residual.ensures.1 in
    rw (p.1, p.2) (tells_map _ _ _ _
    (λ x y known writes. (c.in-Some.page, d.0, dirty, c.in_err-flush.ensures.err, writes))
    (c.in_err-flush.ensures.read d.0 dirty))

pub returns-clause-read : goal.returns-clause-read
returns-clause-read g c =
    let d = c.in-Some.ensures.dirty in
    let dirty = ap dirty_place d.1 in
    tells_map _ _ _ _
    (λ x y known writes. (c.in-Some.page, d.0, dirty, (c.in_ok-flush.ensures.marked d.0 dirty).0, writes))
    (c.in_ok-flush.ensures.read d.0 dirty)

pub returns-clause-crash : goal.returns-clause-crash
returns-clause-crash g c =
    let d = c.in-Some.ensures.dirty in
    let dirty = ap dirty_place d.1 in
    tells_map _ _ _ _
    (λ x y known writes. (c.in-Some.page, d.0, dirty, (c.in_ok-flush.ensures.marked d.0 dirty).0, writes))
    (c.in_ok-flush.ensures.crash d.0 dirty)

pub returns-clause-fewer : goal.returns-clause-fewer
returns-clause-fewer g c = λ more.
    let d = c.in-Some.ensures.dirty in
    sends_fewer c.args.part.now c.flush.new.part c.in-Some.page d.0 (sym c.in-Some.ensures.first) d.1
    (c.in_ok-flush.ensures.marked d.0 (ap dirty_place d.1)).0

pub returns-clause-places : goal.returns-clause-places
returns-clause-places g c =
    let d = c.in-Some.ensures.dirty in
    marked_places c.args.part.now c.flush.new.part c.in-Some.page (unwritten d.0) d.0 d.1
    (c.in_ok-flush.ensures.marked d.0 (ap dirty_place d.1)).0

pub returns-in_err-flush-clause-contents : goal.returns-in_err-flush-clause-contents
returns-in_err-flush-clause-contents g c =
    subst (λ p. HoldsNoMore c.args.part.now p) (sym c.in_err-flush.ensures.err) (λ page content holds. holds)

pub returns-clause-contents : goal.returns-clause-contents
returns-clause-contents g c =
    let d = c.in-Some.ensures.dirty in
    subst (λ p. HoldsNoMore c.args.part.now p) (sym (c.in_ok-flush.ensures.marked d.0 (ap dirty_place d.1)).0)
    (marked_held c.args.part.now c.in-Some.page d.0 (ap (option_and_then (λ (place : Place). place.content)) d.1))
