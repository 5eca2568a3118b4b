-- Fields among which a name isn't.
use Rattle.std.proofs.Common.{◌≡◌, ℕ, zero, suc, List, None, refl, ap}
use Rattle.ori_spec_data.specs.Value.{Fields, no_pairs, pair}
use Rattle.ori_spec_data.specs.Fields.{IsBeforeAll, field, without}
use Rattle.ori_value.specs.Places.{IsGap}
use Rattle.ori_spec_data.proofs.Names.{differs_before, differs_after, field_before_all}

without_before_all : (name : List ℕ) (fs : Fields) → IsBeforeAll name fs → without name fs ≡ fs
without_before_all name no_pairs h = refl
without_before_all name (pair other t fs) h =
    rw (differs_before name other h.0) (ap (pair other t) (without_before_all name fs h.1))

-- a name in a gap isn't there
pub field_gap : (name : List ℕ) (fs : Fields) (i : ℕ) → IsGap name fs i → field name fs ≡ None
field_gap name fs zero h = field_before_all name fs h
field_gap name no_pairs (suc i) h = elim h [ ]
field_gap name (pair other t fs) (suc i) h = rw (differs_after other name h.0) (field_gap name fs i h.1)

pub without_gap : (name : List ℕ) (fs : Fields) (i : ℕ) → IsGap name fs i → without name fs ≡ fs
without_gap name fs zero h = without_before_all name fs h
without_gap name no_pairs (suc i) h = elim h [ ]
without_gap name (pair other t fs) (suc i) h =
    rw (differs_after other name h.0) (ap (pair other t) (without_gap name fs i h.1))
