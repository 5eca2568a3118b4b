use Rattle.std.proofs.Common.{List, [], drop, refl, sym, subst, arith}
use Rattle.ori_bytes.specs.declared.rid.Rid.{Rid}
use Rattle.ori_record.specs.Spelling.{AreLinks}
use Rattle.ori_record.proofs.Putting.{grown_first, grown_last, links_grown, none_left}
use Rattle.ori_record.proofs.leaves.put_links.Goals as goal

pub loop-rid-init : goal.loop-rid-init
loop-rid-init c = grown_first (AreLinks c.args.rids.now) c.args.out.now

pub loop-rid-preserved : goal.loop-rid-preserved
loop-rid-preserved c =
    links_grown c.args.rids.now c.loop-rid.rid-index _ _ _ _ (omega arith) c.loop-rid.invariant
    c.in_ok-put_link.ensures

pub returns : goal.returns
returns c =
    let none = none_left c.args.rids.now c.loop-rid.rid-index (omega arith) in
    grown_last (AreLinks (drop c.loop-rid.rid-index c.args.rids.now)) (AreLinks c.args.rids.now) _ _
    c.loop-rid.invariant (subst (λ (x : List Rid). AreLinks x []) (sym none) refl)
