use Rattle.std.proofs.Common.{sym}
use Rattle.ori_record.proofs.Rising.{links_yes}
use Rattle.ori_record.proofs.links.names_rise.Goals as goal

pub returns : goal.returns
returns c = sym (links_yes _ _ c.link_names_rise.ensures)
