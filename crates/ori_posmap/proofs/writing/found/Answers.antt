use Rattle.std.proofs.Common.{◌<◌, arith}
use Rattle.ori_posmap.proofs.Faults.{ok_then, err_both}
use Rattle.ori_posmap.proofs.Effects.{founded}
use Rattle.ori_posmap.proofs.Calls.{why_taken}
use Rattle.ori_posmap.proofs.writing.found.Goals as goal

pub returns-clause-pages : goal.returns-clause-pages
returns-clause-pages g c =
    let above : 0 < c.args.owner = omega arith in
    ok_then c.fresh.result _ _
    (λ dir h pages at.
    let x = h pages at in
    (x.0, x.1, founded c.args.owner dir pages x.0 above c.ranges.owner.fits x.2))
    c.fresh.ensures.pages

pub returns-clause-why : goal.returns-clause-why
returns-clause-why g c =
    err_both c.fresh.result _ _ _ (λ fault may h pages at. why_taken pages fault may (h pages at))
    c.fresh.ensures.fault c.fresh.ensures.why
