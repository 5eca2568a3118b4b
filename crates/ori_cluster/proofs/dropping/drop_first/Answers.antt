use Rattle.std.proofs.Common.{◌≢◌, ℕ, ◌<◌, List, length, sym, subst, ap, ◌∙◌, arith}
use Rattle.ori_bytes.specs.declared.limits.TheConstants.{FREE_KIND}
use Rattle.ori_page.specs.Pages.{kind_of}
use Rattle.ori_page.specs.Spaces.{page_at}
use Rattle.ori_posmap.proofs.Faults.{passes_on}
use Rattle.ori_cluster.specs.Slots.{IsSlotsPage, HasLess}
use Rattle.ori_cluster.proofs.Putting.{slots_owner}
use Rattle.ori_cluster.proofs.DropKeeps.{keeps_both, keeps_fault}
use Rattle.ori_cluster.proofs.DropPages.{fits, used_slots, why_slots, why_chunk, why_not_left, dropped, names}
use Rattle.ori_cluster.proofs.dropping.drop_first.Goals as goal

pub drop_chunk-requires : goal.drop_chunk-requires
drop_chunk-requires g c =
    let f = fits c.args.owner c.in_ok-page.page c.in_ok-page.ensures.good in
    omega (arith, f.above, f.room, c.in-Some.ensures.some.2)

pub leave-requires-clause-owner : goal.leave-requires-clause-owner
leave-requires-clause-owner g c = λ e.
    c.requires (sym (slots_owner c.args.owner c.in_ok-page.page c.in_ok-page.ensures.good)
    ∙ sym c.drop_chunk.ensures.owner ∙ e)

pub leave-requires-clause-room : goal.leave-requires-clause-room
leave-requires-clause-room g c =
    let f = fits c.args.owner c.in_ok-page.page c.in_ok-page.ensures.good in
    omega (arith, f.room, c.drop_chunk.ensures.count, c.drop_chunk.ensures.used)

pub returns-in_err-page-clause-why : goal.returns-in_err-page-clause-why
returns-in_err-page-clause-why g c =
    passes_on c.from_residual.result c.in_err-page.field-0.0 _ c.from_residual.ensures.1
    (λ pages at. why_slots pages c.args.owner c.args.link c.in_err-page.field-0.0 (c.in_err-page.ensures.why pages at))

pub returns-in_default-clause-why : goal.returns-in_default-clause-why
returns-in_default-clause-why g c = λ pages at.
    let p = c.in_ok-page.ensures.pages pages at in
    why_chunk pages c.args.owner c.args.link c.in_ok-page.page p.1 c.in_default.ensures.none

pub returns-in_err-leave-clause-why : goal.returns-in_err-leave-clause-why
returns-in_err-leave-clause-why g c =
    passes_on c.from_residual-in_err-leave.result c.in_err-leave.field-0.0 _ c.from_residual-in_err-leave.ensures.1
    (λ pages at.
    let p = c.in_ok-page.ensures.pages pages at in
    why_not_left pages c.args.owner c.args.link c.in_err-leave.field-0.0 (c.in_err-leave.ensures.why pages p.0))

pub returns-in_err-leave-clause-space : goal.returns-in_err-leave-clause-space
returns-in_err-leave-clause-space g c =
    keeps_fault g.P.PageSpace.keeps g.P.PageSpace.count g.P.PageSpace.causes g.P.PageSpace.reads
    g.met.P.PageSpace.keeps_on 1 0 1 c.in_ok-page.page _ c.in_err-leave.field-0.0 _ _ _
    c.from_residual-in_err-leave.ensures.1 c.in_ok-page.ensures.space c.in_err-leave.ensures.space (omega arith)

pub returns-clause-pages : goal.returns-clause-pages
returns-clause-pages g c = λ pages at.
    let p = c.in_ok-page.ensures.pages pages at in
    let good = c.in_ok-page.ensures.good in
    let used : kind_of (page_at pages c.args.link.page) ≢ FREE_KIND
    = λ e. used_slots c.args.owner c.in_ok-page.page good (ap kind_of p.1 ∙ e) in
    let x = c.in_ok-leave.ensures.pages pages p.0 used in
    let below : c.args.link.page < length pages
    = omega (arith, g.met.P.PageSpace.counts c.slots_page.new.space pages p.0, c.in_ok-page.ensures.range.1) in
    let s = c.in-Some.ensures.some in (
      x.0,
      x.1,
      names pages c.args.link.page c.args.link.slot c.in-Some.at c.in_ok-page.page c.u32_at.result c.u16_at.result p.1
          s.0 c.u32_at.ensures c.u16_at.ensures,
      λ i.
          let i' : IsSlotsPage c.args.owner c.in_ok-page.page = subst (IsSlotsPage c.args.owner) (sym p.1) i in
          let h = c.drop_chunk.ensures.page c.args.owner i' s.1 in
          let h' = subst (λ (y : List ℕ). HasLess c.args.owner c.args.link.slot y c.drop_chunk.new.page) p.1 h in
          dropped c.args.owner c.args.current c.args.link.page c.args.link.slot c.drop_chunk.new.page pages x.0
          c.in_ok-page.ensures.range.0 below i h' x.2,
    )

pub returns-clause-space : goal.returns-clause-space
returns-clause-space g c =
    keeps_both g.P.PageSpace.keeps g.P.PageSpace.count g.P.PageSpace.causes g.P.PageSpace.reads
    g.met.P.PageSpace.keeps_on 1 0 1 c.in_ok-page.page c.in_ok-leave.field-0 _ _ _ _ c.in_ok-page.ensures.space
    c.in_ok-leave.ensures.space (omega arith)
