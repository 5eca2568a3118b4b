use Rattle.ori_text.proofs.Forms.{link_parts}
use Rattle.ori_text.proofs.pieces.read_link.Goals as goal

pub returns-in_err-cluster-2 : goal.returns-in_err-cluster-2
returns-in_err-cluster-2 c =
    rw c.from_residual-in_err-cluster-2.ensures
    (λ rid link.
    let p = link_parts c.args.text.now c.in_ok-after.field-0.now c.in_ok-cluster.cluster.now
    c.in_ok-cluster.position.now rid c.in_ok-after.ensures c.in_ok-cluster.ensures link in
    c.in_err-cluster-2.ensures rid.cluster p.cluster_is p.cluster_fits)

pub returns-in_err-position : goal.returns-in_err-position
returns-in_err-position c =
    rw c.from_residual-in_err-position.ensures
    (λ rid link.
    let p = link_parts c.args.text.now c.in_ok-after.field-0.now c.in_ok-cluster.cluster.now
    c.in_ok-cluster.position.now rid c.in_ok-after.ensures c.in_ok-cluster.ensures link in
    c.in_err-position.ensures rid.position p.position_is p.position_fits)
