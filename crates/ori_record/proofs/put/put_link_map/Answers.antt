use Rattle.std.proofs.Common.{arith}
use Rattle.ori_record.proofs.Parts.{link_map_put}
use Rattle.ori_record.proofs.put.put_link_map.Goals as goal

pub returns : goal.returns
returns c = (
  link_map_put c.as_slice-links.result.now c.args.links.now c.args.out.now c.put_count.new.out
      c.put_named_links.new.out c.as_slice-links.ensures.all c.as_slice-links.ensures.rising c.in_ok-put_count.ensures
      c.in_ok-put_named_links.ensures,
  omega arith,
)
