use Rattle.std.proofs.Common.{◌≡◌, ◌++◌, drop}
use Rattle.ori_spec_data.specs.Keys.{key_bytes}
use Rattle.ori_value.specs.View.{trees_of}
use Rattle.ori_value.proofs.keys.key_bytes.Given as goal

abbrev pub invariant-loop-value : goal.invariant-loop-value
invariant-loop-value l = l.key ++ key_bytes (trees_of (drop l.value-index l.value-items))
    ≡ key_bytes (trees_of l.value-items)
