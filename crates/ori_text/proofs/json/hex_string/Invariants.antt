use Rattle.std.proofs.Common.{◌≡◌, take, string_bytes}
use Rattle.ori_spec_texts.specs.Json.{hex}
use Rattle.ori_text.proofs.json.hex_string.Given as goal

abbrev pub invariant-loop-byte : goal.invariant-loop-byte
invariant-loop-byte l = string_bytes l.text ≡ hex (take l.byte-index l.bytes)
