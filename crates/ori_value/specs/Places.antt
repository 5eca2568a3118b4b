-- Where a name stands among fields.
use Rattle.std.specs.Prelude.{◌≡◌, ℕ, zero, suc, List}
use Rattle.ori_spec_data.specs.Value.{Fields, no_pairs, pair}
use Rattle.ori_spec_data.specs.Fields.{IsBefore, IsBeforeAll}

-- the name is that of field i, counted from 0, and greater than those before it
abbrev pub IsAt : List ℕ → Fields → ℕ → Type 0
IsAt name no_pairs i = ⊥
IsAt name (pair other t fs) zero = name ≡ other
IsAt name (pair other t fs) (suc i) = IsBefore other name × IsAt name fs i

-- the name is greater than those of the first i fields, and less than the others
abbrev pub IsGap : List ℕ → Fields → ℕ → Type 0
IsGap name fs zero = IsBeforeAll name fs
IsGap name no_pairs (suc i) = ⊥
IsGap name (pair other t fs) (suc i) = IsBefore other name × IsGap name fs i
