use Rattle.std.proofs.Common.{◌≡◌, ◌*◌, drop}
use Rattle.ori_spec_data.specs.Fit.{hex_bytes}
use Rattle.ori_value.proofs.HexSteps.{joined}
use Rattle.ori_value.proofs.hexadecimal.from_hex.Given as goal

abbrev pub invariant-loop-at : goal.invariant-loop-at
invariant-loop-at l = joined l.bytes (hex_bytes (drop (2 * l.at) l.text)) ≡ hex_bytes l.text
