use Rattle.std.proofs.Common.{length, arith}
use Rattle.ori_spec_data.specs.Sizes.{count_size}
use Rattle.ori_model.proofs.Measures.{links_step, links_end}
use Rattle.ori_model.proofs.sizes.links_bytes.Goals as goal

pub loop-name-preserved : goal.loop-name-preserved
loop-name-preserved c =
    links_step c.as_slice-pairs.result.now c.loop-name.name-index c.loop-name-item.result
    (count_size (length c.as_slice-pairs.result.now)) c.loop-name.total c.in_ok-total-2.total (omega arith)
    c.loop-name-item.is c.loop-name.invariant
    (omega (arith, c.in_ok-total-2.ensures, c.in_ok-text_bytes.ensures, c.rid_bytes.ensures))

pub returns : goal.returns
returns c = links_end c.as_slice-pairs.result.now c.loop-name.name-index c.loop-name.total c.args.links.now
    (omega arith) c.as_slice-pairs.ensures.all c.loop-name.invariant
