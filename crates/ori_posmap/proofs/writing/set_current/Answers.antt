use Rattle.std.proofs.Common.{ℕ, List, set, subst, sym}
use Rattle.ori_posmap.specs.Maps.{IsCurrent}
use Rattle.ori_posmap.proofs.Faults.{on_ok_then}
use Rattle.ori_posmap.proofs.Effects.{current_is}
use Rattle.ori_posmap.proofs.writing.set_current.Goals as goal

pub returns-clause-pages : goal.returns-clause-pages
returns-clause-pages g c =
    on_ok_then c.write.result _ _
    (λ h pages at.
    let p = c.in_ok-page.ensures.pages pages at in (
      set pages c.args.dir c.put_current.new.page,
      h pages p.0,
      λ m i. subst (λ (x : List ℕ). IsCurrent c.args.dir m c.args.current pages (set pages c.args.dir x))
          (sym c.put_current.ensures.value)
          (current_is pages c.args.dir m c.args.current c.in_ok-page.page i c.ranges.current.fits p.1),
    ))
    c.write.ensures.pages
