use Rattle.std.proofs.Common.{◌≡◌, ◌<◌, ◌≤◌, ◌*◌, ◌∙◌, inl, refl, arith}
use Rattle.ori_bytes.specs.declared.limits.TheConstants.{MAP_ENTRIES, MAX_MAP_PAGES}
use Rattle.ori_posmap.specs.Bytes.{next_on, map_count_on}
use Rattle.ori_posmap.proofs.Calls.{room_is, full_is, full_has, dir_outside, tells_on}
use Rattle.ori_posmap.proofs.writing.with_room.Goals as goal

pub returns-then-next_on-maps-clause-pages : goal.returns-then-next_on-maps-clause-pages
returns-then-next_on-maps-clause-pages g c = λ pages at.
    let p = c.in_ok-page.ensures.pages pages at in
    let room : next_on c.in_ok-page.page < MAP_ENTRIES * map_count_on c.in_ok-page.page
    = omega (arith, c.if-next_on-maps.true, c.next_on.ensures, c.map_count-maps.ensures) in
    (pages, p.0, (p.1, room_is pages c.args.dir c.in_ok-page.page p.1 room, inl (refl, room)))

pub returns-then-maps-eq-MAX_MAP_PAGES-clause-pages :
    goal.returns-then-maps-eq-MAX_MAP_PAGES-clause-pages
returns-then-maps-eq-MAX_MAP_PAGES-clause-pages g c = λ pages at.
    let p = c.in_ok-page.ensures.pages pages at in
    let full : MAP_ENTRIES * map_count_on c.in_ok-page.page ≤ next_on c.in_ok-page.page
    = omega (arith, c.if-next_on-maps.false, c.next_on.ensures, c.map_count-maps.ensures) in
    let all : map_count_on c.in_ok-page.page ≡ MAX_MAP_PAGES
    = omega (arith, c.if-maps-eq-MAX_MAP_PAGES.true, c.map_count-maps.ensures) in
    (pages, p.0, (refl, full_is pages c.args.dir c.in_ok-page.page p.1 full all))

pub returns-in_err-page-clause-full : goal.returns-in_err-page-clause-full
returns-in_err-page-clause-full g c = λ pages at m i full.
    tells_on c.from_residual.result c.in_err-page.field-0.0 c.from_residual.ensures.1
    (dir_outside pages c.args.dir m c.in_err-page.field-0.0 i (c.in_err-page.ensures.why pages at))

pub returns-then-next_on-maps-clause-full : goal.returns-then-next_on-maps-clause-full
returns-then-next_on-maps-clause-full g c = λ pages at m i full.
    let p = c.in_ok-page.ensures.pages pages at in
    let h = full_has pages c.args.dir c.in_ok-page.page m p.1 i full in
    absurd (omega (arith, h.0, c.if-next_on-maps.true, c.next_on.ensures, c.map_count-maps.ensures))

pub returns-in_err-grow-clause-full : goal.returns-in_err-grow-clause-full
returns-in_err-grow-clause-full g c = λ pages at m i full.
    let p = c.in_ok-page.ensures.pages pages at in
    let h = full_has pages c.args.dir c.in_ok-page.page m p.1 i full in
    absurd (c.if-maps-eq-MAX_MAP_PAGES.false (c.map_count-maps.ensures ∙ h.1))
