-- What a change of one field does to the look-up of every name.
use Rattle.std.specs.Prelude.{◌≡◌, ◌≢◌, ℕ, List, Some, None}
use Rattle.ori_spec_data.specs.Value.{Tree, Fields}
use Rattle.ori_spec_data.specs.Fields.{IsRising, field, put, without}

abbrev pub FindsWhatIsPut : Type 0
FindsWhatIsPut = (name : List ℕ) (t : Tree) (fs : Fields) → field name (put name t fs) ≡ Some t

abbrev pub PutKeepsOthers : Type 0
PutKeepsOthers = (other name : List ℕ) (t : Tree) (fs : Fields) → other ≢ name
    → field other (put name t fs) ≡ field other fs

abbrev pub PutKeepsOrder : Type 0
PutKeepsOrder = (name : List ℕ) (t : Tree) (fs : Fields) → IsRising fs → IsRising (put name t fs)

abbrev pub LosesWhatIsTaken : Type 0
LosesWhatIsTaken = (name : List ℕ) (fs : Fields) → IsRising fs → field name (without name fs) ≡ None

abbrev pub TakingKeepsOthers : Type 0
TakingKeepsOthers = (other name : List ℕ) (fs : Fields) → other ≢ name → field other (without name fs) ≡ field other fs

abbrev pub TakingKeepsOrder : Type 0
TakingKeepsOrder = (name : List ℕ) (fs : Fields) → IsRising fs → IsRising (without name fs)
