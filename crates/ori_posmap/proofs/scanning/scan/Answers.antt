use Rattle.std.proofs.Common.{◌≡◌, ◌<◌, ◌+◌, ◌-◌, ◌/◌, subst, arith}
use Rattle.std.specs.Option.{IfSome}
use Rattle.ori_bytes.specs.declared.limits.TheConstants.{MAP_ENTRIES}
use Rattle.ori_posmap.specs.Bytes.{map_count_on}
use Rattle.ori_posmap.proofs.Faults.{passes_on}
use Rattle.ori_posmap.proofs.Keeping.{keeps_then, keeps_ok}
use Rattle.ori_posmap.proofs.Living.{few_maps, why_scan, has_k, first_live, none_more, none_at_all}
use Rattle.ori_posmap.proofs.scanning.scan.Invariants.{ok}
use Rattle.ori_posmap.proofs.scanning.scan.Goals as goal

pub returns-in_err-at-clause-why : goal.returns-in_err-at-clause-why
returns-in_err-at-clause-why g c =
    passes_on c.from_residual.result c.in_err-at.field-0.0 _ c.from_residual.ensures.1
    (λ pages at dir is.
    why_scan pages dir c.args.page.now c.loop-k.k c.in_err-at.field-0.0 is
    (omega (arith, c.loop-k-test.true, c.map_count-k-end.ensures))
    (c.in_err-at.ensures.why pages (c.loop-k.invariant.gives pages at) dir is))

pub returns-in-Some-clause-pages : goal.returns-in-Some-clause-pages
returns-in-Some-clause-pages g c = λ pages at.
    let p = c.in_ok-at.ensures.pages pages (c.loop-k.invariant.gives pages at) in (
      p.0,
      λ dir m is i.
          first_live m c.loop-k.k c.args.from c.in_ok-at.field-0 c.in-Some.at c.in-Some.is
          (c.loop-k.invariant.none pages at dir m is i)
          (p.1 dir m is i (has_k pages dir m c.args.page.now c.loop-k.k is
          (omega (arith, c.loop-k-test.true, c.map_count-k-end.ensures)) i)),
    )

pub returns-in-Some-clause-few : goal.returns-in-Some-clause-few
returns-in-Some-clause-few g c =
    let place : c.in-Some.at / MAP_ENTRIES ≡ c.loop-k.k
    = subst (λ o. IfSome o (λ at. at / MAP_ENTRIES ≡ c.loop-k.k)) c.in-Some.is c.in_ok-at.ensures.place in
    omega (arith, place, c.loop-k.invariant.space.few, c.in_ok-at.ensures.space.few)

pub loop-k-preserved : goal.loop-k-preserved
loop-k-preserved g c =
    let inv = c.loop-k.invariant in
    let low : c.loop-k.k < map_count_on c.args.page.now
    = omega (arith, c.loop-k-test.true, c.map_count-k-end.ensures) in
    record {
      bounded = omega (arith, low, few_maps c.args.page.now c.requires);
      gives = λ pages at. (c.in_ok-at.ensures.pages pages (inv.gives pages at)).0;
      none = λ pages at dir m is i.
          none_more m c.loop-k.k c.args.from c.in_ok-at.field-0 c.in_default.is (inv.none pages at dir m is i)
          ((c.in_ok-at.ensures.pages pages (inv.gives pages at)).1 dir m is i
          (has_k pages dir m c.args.page.now c.loop-k.k is low i));
      space = keeps_then g.P.PageSpace.keeps g.P.PageSpace.count g.P.PageSpace.causes g.P.PageSpace.reads
          g.met.P.PageSpace.keeps_on _ _ (c.loop-k.k + 1 - c.args.from / MAP_ENTRIES) _ ok _ _ _ inv.space
          (keeps_ok g.P.PageSpace.keeps g.P.PageSpace.count g.P.PageSpace.causes g.P.PageSpace.reads 1 1
          c.in_ok-at.field-0 0 c.loop-k.space c.live_in.new.space c.in_ok-at.ensures.space (omega arith))
          (omega (arith, c.loop-k.auto.k));
    }

pub returns-clause-pages : goal.returns-clause-pages
returns-clause-pages g c = λ pages at. (
  c.loop-k.invariant.gives pages at,
  λ dir m is i.
      none_at_all pages dir m c.args.page.now c.loop-k.k c.args.from is
      (omega (arith, c.loop-k-test.false, c.map_count-k-end.ensures)) i (c.loop-k.invariant.none pages at dir m is i),
)

pub returns-clause-few : goal.returns-clause-few
returns-clause-few g c = omega (arith, c.loop-k.invariant.space.few, c.loop-k.invariant.bounded)

pub returns-clause-space : goal.returns-clause-space
returns-clause-space g c =
    keeps_ok g.P.PageSpace.keeps g.P.PageSpace.count g.P.PageSpace.causes g.P.PageSpace.reads _ _ 0 _ _ _
    c.loop-k.invariant.space c.loop-k.invariant.bounded
