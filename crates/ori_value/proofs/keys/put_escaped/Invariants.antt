use Rattle.std.proofs.Common.{◌≡◌, ◌++◌, drop}
use Rattle.ori_spec_data.specs.Keys.{escaped}
use Rattle.ori_value.proofs.keys.put_escaped.Given as goal

abbrev pub invariant-loop-byte : goal.invariant-loop-byte
invariant-loop-byte l = l.key ++ escaped (drop l.byte-index l.bytes) ≡ l.initial.key ++ escaped l.bytes
