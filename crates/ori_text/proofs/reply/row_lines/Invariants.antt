use Rattle.std.proofs.Common.{◌≡◌, take, map, string_bytes}
use Rattle.std.specs.List.{flat_map}
use Rattle.ori_spec_texts.specs.Reply as spec
use Rattle.ori_model.specs.Replies.{row_of}
use Rattle.ori_text.proofs.reply.row_lines.Given as goal

abbrev pub invariant-loop-row : goal.invariant-loop-row
invariant-loop-row l = string_bytes l.text ≡ flat_map (spec.row_line l.session) (map row_of (take l.row-index l.rows))
