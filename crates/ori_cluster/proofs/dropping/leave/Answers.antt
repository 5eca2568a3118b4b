use Rattle.std.proofs.Common.{inl, inr, refl, set}
use Rattle.ori_posmap.proofs.Faults.{err_both, on_ok_then}
use Rattle.ori_cluster.proofs.DropPages.{why_left}
use Rattle.ori_cluster.proofs.dropping.leave.Goals as goal

pub returns-then-number-current-clause-pages : goal.returns-then-number-current-clause-pages
returns-then-number-current-clause-pages g c =
    on_ok_then c.write_page.result _ _
    (λ h pages at used. (
      set pages c.args.number c.args.page,
      h pages at,
      inl (refl, inl c.if-number-current.true),
    ))
    c.write_page.ensures.pages

pub returns-then-has_any-clause-pages : goal.returns-then-has_any-clause-pages
returns-then-has_any-clause-pages g c =
    on_ok_then c.write_page-then-has_any.result _ _
    (λ h pages at used. (
      set pages c.args.number c.args.page,
      h pages at,
      inl (refl, inr (c.has_any.ensures.yes c.if-has_any.true)),
    ))
    c.write_page-then-has_any.ensures.pages

pub returns-clause-pages : goal.returns-clause-pages
returns-clause-pages g c =
    on_ok_then c.release.result _ _
    (λ h pages at used.
    let x = h pages at used in
    (x.0, x.1, inr (x.2, c.if-number-current.false, c.has_any.ensures.no c.if-has_any.false)))
    c.release.ensures.pages

pub returns-clause-why : goal.returns-clause-why
returns-clause-why g c =
    err_both c.release.result _ _ _ (λ fault may why pages at. why_left pages fault may (why pages at))
    c.release.ensures.fault c.release.ensures.why
