use Rattle.std.proofs.Common.{sym}
use Rattle.ori_record.proofs.Rising.{fields_yes}
use Rattle.ori_record.proofs.nested.do_names_rise.Goals as goal

pub returns : goal.returns
returns c = sym (fields_yes _ _ c.names_rise.ensures)
