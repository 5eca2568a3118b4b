use Rattle.std.proofs.Common.{◌<◌, length, set, refl, arith}
use Rattle.ori_cluster.proofs.PutPages.{put_lone, put_more}
use Rattle.ori_cluster.proofs.DropKeeps.{keeps_fault, keeps_both}
use Rattle.ori_cluster.proofs.placing.put_here.Goals as goal

pub returns-in_err-write_page-2-clause-space : goal.returns-in_err-write_page-2-clause-space
returns-in_err-write_page-2-clause-space g c =
    keeps_fault {U = Unit {0}} g.P.PageSpace.keeps g.P.PageSpace.count g.P.PageSpace.causes g.P.PageSpace.reads
    g.met.P.PageSpace.keeps_on 1 0 1 c.in_ok-page.page _ c.in_err-write_page-2.field-0.0 _ _ _
    c.from_residual-in_err-write_page-2.ensures.1 c.in_ok-page.ensures.space c.in_err-write_page-2.ensures.space
    (omega arith)

pub returns-clause-pages : goal.returns-clause-pages
returns-clause-pages g c = λ pages at.
    let p = c.in_ok-page.ensures.pages pages at in
    let below : c.args.number < length pages
    = omega (arith, c.in_ok-page.ensures.range.1, g.met.P.PageSpace.counts c.slots_page.new.space pages p.0) in (
      set pages c.args.number c.in_ok-lone.lone,
      c.in_ok-write_page-2.ensures.pages pages p.0,
      (
        c.if-number-eq0.false,
        put_lone c.args.owner c.args.number c.args.next c.args.bytes.now c.in_ok-page.page c.in_ok-lone.lone pages
            c.in_ok-page.ensures.range.0 below p.1 (c.if-has_any.ensures.no refl) c.in_ok-lone.ensures,
      ),
    )

pub returns-clause-space : goal.returns-clause-space
returns-clause-space g c =
    keeps_both g.P.PageSpace.keeps g.P.PageSpace.count g.P.PageSpace.causes g.P.PageSpace.reads
    g.met.P.PageSpace.keeps_on 1 0 1 c.in_ok-page.page c.in_ok-write_page-2.field-0 _ _ _ _ c.in_ok-page.ensures.space
    c.in_ok-write_page-2.ensures.space (omega arith)

pub returns-in_err-write_page-clause-space : goal.returns-in_err-write_page-clause-space
returns-in_err-write_page-clause-space g c =
    keeps_fault {U = Unit {0}} g.P.PageSpace.keeps g.P.PageSpace.count g.P.PageSpace.causes g.P.PageSpace.reads
    g.met.P.PageSpace.keeps_on 1 0 1 c.in_ok-page.page _ c.in_err-write_page.field-0.0 _ _ _
    c.from_residual-in_err-write_page.ensures.1 c.in_ok-page.ensures.space c.in_err-write_page.ensures.space
    (omega arith)

pub returns-then-has_room-clause-pages : goal.returns-then-has_room-clause-pages
returns-then-has_room-clause-pages g c = λ pages at.
    let p = c.in_ok-page.ensures.pages pages at in
    let below : c.args.number < length pages
    = omega (arith, c.in_ok-page.ensures.range.1, g.met.P.PageSpace.counts c.slots_page.new.space pages p.0) in (
      set pages c.args.number c.put_chunk-slot.new.page,
      c.in_ok-write_page.ensures.pages pages p.0,
      (
        c.if-number-eq0.false,
        put_more c.args.owner c.args.number c.put_chunk-slot.result c.args.next c.args.bytes.now c.in_ok-page.page
            c.put_chunk-slot.new.page pages c.in_ok-page.ensures.range.0 below p.1 c.put_chunk-slot.ensures.slot
            c.put_chunk-slot.ensures.page,
      ),
    )

pub returns-then-has_room-clause-space : goal.returns-then-has_room-clause-space
returns-then-has_room-clause-space g c =
    keeps_both g.P.PageSpace.keeps g.P.PageSpace.count g.P.PageSpace.causes g.P.PageSpace.reads
    g.met.P.PageSpace.keeps_on 1 0 1 c.in_ok-page.page c.in_ok-write_page.field-0 _ _ _ _ c.in_ok-page.ensures.space
    c.in_ok-write_page.ensures.space (omega arith)
