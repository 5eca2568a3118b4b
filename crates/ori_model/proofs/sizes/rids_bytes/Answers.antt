use Rattle.std.proofs.Common.{length, arith, ap, ◌+◌, ◌∙◌}
use Rattle.ori_spec_data.specs.Sizes.{count_size}
use Rattle.ori_model.proofs.Measures.{rids_step}
use Rattle.ori_model.proofs.sizes.rids_bytes.Goals as goal

pub loop-rid-preserved : goal.loop-rid-preserved
loop-rid-preserved c =
    rids_step c.as_slice-items.result.now c.loop-rid.rid-index _ (count_size (length c.as_slice-items.result.now))
    c.loop-rid.total c.in_ok-total-2.total (omega arith) c.loop-rid.invariant
    (c.in_ok-total-2.ensures ∙ ap (λ n. c.loop-rid.total + n) c.rid_bytes.ensures)
