use Rattle.std.proofs.Common.{◌≡◌, take, string_bytes}
use Rattle.std.specs.List.{flat_map}
use Rattle.ori_spec_texts.specs.Reply as spec
use Rattle.ori_text.proofs.reply.temp_lines.Given as goal

abbrev pub invariant-loop-pair : goal.invariant-loop-pair
invariant-loop-pair l = string_bytes l.text ≡ flat_map (spec.temp_line l.session) (take l.pair-index l.temps)
