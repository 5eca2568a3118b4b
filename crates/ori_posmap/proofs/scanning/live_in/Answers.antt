use Rattle.std.proofs.Common.{◌<◌, ◌-◌, ◌*◌, ◌^◌, ℕ, length, ap, ◌∙◌, arith}
use Rattle.ori_bytes.specs.declared.limits.TheConstants.{MAP_ENTRIES}
use Rattle.ori_page.specs.Spaces.{page_at}
use Rattle.ori_posmap.specs.Bytes.{next_on}
use Rattle.ori_posmap.proofs.Faults.{passes_on}
use Rattle.ori_posmap.proofs.Mapping.{dir_is}
use Rattle.ori_posmap.proofs.Living.{none_in, dead_in, found_in, named_map, why_in}
use Rattle.ori_posmap.proofs.scanning.live_in.Goals as goal

pub returns-then-high-start-clause-pages : goal.returns-then-high-start-clause-pages
returns-then-high-start-clause-pages g c = λ pages at. (
  at,
  λ dir m is i low.
      let r = dir_is pages dir m i in
      none_in m c.args.k c.args.from c.next_on-next.result (c.max.result - MAP_ENTRIES * c.args.k) c.min-high.result
      (c.next_on-next.ensures ∙ ap next_on is ∙ r.next_is)
      (ap (λ (x : ℕ). x - MAP_ENTRIES * c.args.k) c.max.ensures) c.min-high.ensures c.if-high-start.true,
)

pub returns-in_err-map-clause-why : goal.returns-in_err-map-clause-why
returns-in_err-map-clause-why g c =
    passes_on c.from_residual.result c.in_err-map.field-0.0 _ c.from_residual.ensures.1
    (λ pages at dir is.
    let few : length pages < 2 ^ 32 = omega (arith, g.met.P.PageSpace.counts c.args.space.now pages at) in
    why_in pages dir c.args.page.now c.owner.result c.map_number-number.result c.args.k c.in_err-map.field-0.0 few is
    c.owner.ensures c.map_number-number.ensures (c.in_err-map.ensures.why pages at))

pub returns-in_default-clause-pages : goal.returns-in_default-clause-pages
returns-in_default-clause-pages g c = λ pages at.
    let p = c.in_ok-map.ensures.pages pages at in
    let few : length pages < 2 ^ 32 = omega (arith, g.met.P.PageSpace.counts c.args.space.now pages at) in (
      p.0,
      λ dir m is i low.
          let r = dir_is pages dir m i in
          let named = named_map pages dir m c.args.k c.args.page.now c.map_number-number.result few is
          c.map_number-number.ensures i low in
          dead_in pages dir m c.args.k c.in_ok-map.map c.args.from c.next_on-next.result
          (c.max.result - MAP_ENTRIES * c.args.k) c.min-high.result i
          (c.next_on-next.ensures ∙ ap next_on is ∙ r.next_is) (p.1 ∙ ap (page_at pages) named)
          (ap (λ (x : ℕ). x - MAP_ENTRIES * c.args.k) c.max.ensures) c.min-high.ensures c.in_default.ensures.none,
    )

pub returns-clause-pages : goal.returns-clause-pages
returns-clause-pages g c = λ pages at.
    let p = c.in_ok-map.ensures.pages pages at in
    let few : length pages < 2 ^ 32 = omega (arith, g.met.P.PageSpace.counts c.args.space.now pages at) in (
      p.0,
      λ dir m is i low.
          let r = dir_is pages dir m i in
          let s = c.in-Some.ensures.some in
          let named = named_map pages dir m c.args.k c.args.page.now c.map_number-number.result few is
          c.map_number-number.ensures i low in
          found_in pages dir m c.args.k c.in_ok-map.map c.args.from c.next_on-next.result
          (c.max.result - MAP_ENTRIES * c.args.k) c.min-high.result c.in-Some.i i
          (c.next_on-next.ensures ∙ ap next_on is ∙ r.next_is) (p.1 ∙ ap (page_at pages) named)
          (ap (λ (x : ℕ). x - MAP_ENTRIES * c.args.k) c.max.ensures) c.min-high.ensures s.0 s.1 s.2 s.3,
    )
