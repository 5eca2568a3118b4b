-- What every base keeps that commits lead to.
use Rattle.std.specs.Prelude.{◌≡◌, ℕ, suc, ◌^◌, ◌<◌, ◌≤◌, true, false, List, [], ◌∷◌, ◌++◌, length, codes, Some, None}
use Rattle.std.specs.Prelude.{IfSome, IsTrue, ⊤}
use Rattle.std.specs.List.{AllByRecursion}
use Rattle.ori_bytes.specs.declared.limits.TheConstants.{MAX_POSITIONS, MAX_RECORD_BYTES, MAX_NAME_BYTES}
use Rattle.ori_spec_data.specs.Base.{ClassData, RecordData, BaseData}
use Rattle.ori_spec_data.specs.Apply.{comes_before, rid_at, cluster_of, next_of, HasOwnFields}
use Rattle.ori_spec_data.specs.Sizes.{record_size}
use Rattle.ori_spec_data.specs.Refusing.{has_class, is_dangling_in_fields}

-- class k, counted from 0, has cluster k + 1, and no two classes have one name
abbrev pub AreClasses : ℕ → List ClassData → Type 0
AreClasses cluster [] = ⊤
AreClasses cluster (c ∷ cs) = (c.cluster ≡ cluster) × (has_class cs c.name ≡ false) × AreClasses (suc cluster) cs

-- Each class has a name of 1 to 64 bytes, and a parent, if any, among those before it. What properties and indexes ask
-- of a schema
-- will join this with their stages, so a class has none of them yet.
abbrev pub AreProperClasses : List ClassData → List ClassData → Type 0
AreProperClasses earlier [] = ⊤
AreProperClasses earlier (c ∷ cs) =
    (0 < length c.name) × (length c.name ≤ MAX_NAME_BYTES) × IfSome c.parent (λ parent. has_class earlier parent ≡ true)
    × (c.properties ≡ [])
    × AreProperClasses (earlier ++ c ∷ []) cs

-- V and E are the first two classes, and have no parent
abbrev pub BeginsWithRoots : List ClassData → Type 0
BeginsWithRoots (v ∷ e ∷ cs) = (v.name ≡ codes "V") × (v.parent ≡ None) × (e.name ≡ codes "E") × (e.parent ≡ None)
BeginsWithRoots cs = ⊥

-- identifiers rise in row order, so no two records have one
abbrev pub AreInRowOrder : List RecordData → Type 0
AreInRowOrder [] = ⊤
AreInRowOrder (r ∷ []) = ⊤
AreInRowOrder (r ∷ s ∷ ss) = IsTrue (comes_before r.rid s.rid) × AreInRowOrder (s ∷ ss)

-- A record of a class that is there, at a position of its cluster that was given, of a version that was committed,
-- whose own
-- fields have names and values as a record may have them, with no link to a temporary identifier, and of a size that is
-- allowed.
pub record IsSoundIn (classes : List ClassData) (next : List ℕ) (r : RecordData) : Type 0 where
  pub class : IsTrue (has_class classes r.class)
  pub place : (k : ℕ) × (p : ℕ) × (cluster_of classes r.class ≡ Some k) × (p < next_of next k) × (r.rid ≡ rid_at k p)
  pub version : (0 < r.version) × (r.version < 2 ^ 32)
  pub own : HasOwnFields r.fields
  pub real : is_dangling_in_fields [] r.fields ≡ false
  pub size : record_size r.class r.fields ≤ MAX_RECORD_BYTES

-- What properties, indexes and edges ask of a base will join this with their stages; a base has no index and no grown
-- bag yet.
pub record IsSoundBase (base : BaseData) : Type 0 where
  pub classes : AreClasses 1 base.schema.classes
  pub proper : AreProperClasses [] base.schema.classes
  pub roots : BeginsWithRoots base.schema.classes
  pub indexes : base.schema.indexes ≡ []
  pub grown : base.grown ≡ []
  pub counted : length base.next ≡ length base.schema.classes
  pub next : AllByRecursion (λ n. n ≤ MAX_POSITIONS) base.next
  pub rising : AreInRowOrder base.stored
  pub each : AllByRecursion (IsSoundIn base.schema.classes base.next) base.stored
