use Rattle.std.proofs.Common.{◌<◌, ◌≤◌, ◌%◌, ◌^◌, length, set, inl, ap, refl, arith}
use Rattle.ori_bytes.specs.declared.limits.TheConstants.{MAP_ENTRIES, MAX_POSITIONS}
use Rattle.ori_page.specs.Spaces.{page_at}
use Rattle.ori_posmap.specs.Bytes.{patched, entry_place, entry_bytes, next_on}
use Rattle.ori_posmap.proofs.Faults.{passes_on}
use Rattle.ori_posmap.proofs.Calls.{past_all, why_append, appended_for}
use Rattle.ori_posmap.proofs.writing.append.Goals as goal

pub returns-then-next-ge-MAX_POSITIONS-clause-why :
    goal.returns-then-next-ge-MAX_POSITIONS-clause-why
returns-then-next-ge-MAX_POSITIONS-clause-why g c = λ pages at is.
    let past : MAX_POSITIONS ≤ next_on c.args.page
    = omega (arith, c.if-next-ge-MAX_POSITIONS.true, c.next_on-next.ensures) in
    (inl (refl, omega (arith, past, ap next_on is)), past_all pages c.args.dir c.args.page is past)

pub returns-in_err-write_entry-clause-why : goal.returns-in_err-write_entry-clause-why
returns-in_err-write_entry-clause-why g c =
    passes_on c.from_residual.result c.in_err-write_entry.field-0.0 _ c.from_residual.ensures.1
    (λ pages at is.
    let few : length pages < 2 ^ 32 = omega (arith, g.met.P.PageSpace.counts c.args.space.now pages at) in
    why_append pages c.args.dir c.args.page c.owner.result c.map_number-number.result c.next_on-next.result
    c.in_err-write_entry.field-0.0 few is c.owner.ensures c.next_on-next.ensures c.map_number-number.ensures
    (c.in_err-write_entry.ensures.why pages at))

pub returns-clause-pages : goal.returns-clause-pages
returns-clause-pages g c = λ pages at is.
    let few : length pages < 2 ^ 32 = omega (arith, g.met.P.PageSpace.counts c.args.space.now pages at) in
    let n = c.map_number-number.result in
    let next = c.next_on-next.result in
    let content = patched (entry_place (next % MAP_ENTRIES)) (entry_bytes c.of-entry.result) (page_at pages n) in
    let f = c.in_ok-write_entry.ensures.pages pages at in
    let w = c.in_ok-write.ensures.pages (set pages n content) f in (
      set (set pages n content) c.args.dir c.put_next.new.page,
      w,
      λ m i room.
          appended_for pages c.args.dir c.args.page (page_at pages n) content c.put_next.new.page n next c.args.place
          c.of-entry.result few is refl c.next_on-next.ensures c.map_number-number.ensures c.of-entry.ensures.value
          c.of-entry.ensures.fits refl c.put_next.ensures.value m i room,
    )
