-- What writing adds at the end of bytes, and what it sets within them.
use Rattle.std.specs.Prelude.{◌≡◌, ℕ, max, ◌+◌, ◌<◌, ◌≤◌, ◌^◌, List, [], ◌∷◌, ◌++◌, length, IsTrue, Result, Ok, Err, ⊤}
use Rattle.std.specs.Int.{w32, to_be_bytes}
use Rattle.ori_spec_data.specs.Value.{nesting}
use Rattle.ori_spec_data.specs.Apply.{is_proper}
use Rattle.ori_record.specs.Spelling.{Joins, IsName, OwnField, plain, bagged, own_name, own_number, own_pointer}
use Rattle.ori_record.specs.Spelling.{IsOwnValue, AreOwnFields}
use Rattle.ori_record.specs.Writable.{HasPlaces, IsFit, own_size}
use Rattle.ori_record.specs.declared.fault.RecordFault.{RecordFault}
use Rattle.ori_record.specs.declared.fault.RecordFault.TheVariants.{NotRecord, TooDeep, NoMemory}

-- bytes of which P holds come at the end
abbrev pub Adds : (List ℕ → Type 0) → List ℕ → List ℕ → Type 0
Adds P old new = (bytes : List ℕ) × P bytes × (new ≡ old ++ bytes)

-- P holds of what was made, which nests so deep, with so much depth allowed: TooDeep only where it nests deeper
abbrev pub Makes : {X : Type 0} → (X → Type 0) → ℕ → ℕ → Result X RecordFault → Type 0
Makes P nests depth (Ok x) = P x × (nests ≤ depth)
Makes P nests depth (Err TooDeep) = depth < nests
Makes P nests depth (Err NotRecord) = ⊥
Makes P nests depth (Err NoMemory) = ⊤

-- the same of what comes at the end
abbrev pub Puts : {X : Type 0} → (List ℕ → Type 0) → ℕ → ℕ → List ℕ → List ℕ → Result X RecordFault → Type 0
Puts P nests depth old new r = Makes (λ _. Adds P old new) nests depth r

-- ---- a header

-- an entry of a header
pub record IsEntry (name : List ℕ) (to kind : ℕ) (bytes : List ℕ) : Type 0 where
  pub name_bytes : List ℕ
  pub named : IsName name name_bytes
  pub whole : bytes ≡ name_bytes ++ to_be_bytes w32 to ++ kind ∷ []

-- entries whose pointers are still 0
abbrev pub AreHoles : List OwnField → List ℕ → Type 0
AreHoles [] bytes = bytes ≡ []
AreHoles (o ∷ os) bytes = Joins (IsEntry (own_name o) 0 (own_number o)) (AreHoles os) bytes

-- such entries stand at this place of the bytes
pub record HasHoles (os : List OwnField) (at : ℕ) (bytes : List ℕ) : Type 0 where
  pub front : List ℕ
  pub holes : List ℕ
  pub back : List ℕ
  pub place : length front ≡ at
  pub are : AreHoles os holes
  pub whole : bytes ≡ front ++ holes ++ back

-- in their place came the entries with their pointers, and the values at the end, of which the first stands at `from`
pub record Fills (os : List OwnField) (from : ℕ) (front back new : List ℕ) : Type 0 where
  pub entries : List ℕ
  pub values : List ℕ
  pub fields : AreOwnFields from os entries values
  pub whole : new ≡ front ++ entries ++ back ++ values

-- one such entry
pub record HasHole (o : OwnField) (at : ℕ) (bytes : List ℕ) : Type 0 where
  pub front : List ℕ
  pub hole : List ℕ
  pub back : List ℕ
  pub place : length front ≡ at
  pub is : IsEntry (own_name o) 0 (own_number o) hole
  pub whole : bytes ≡ front ++ hole ++ back

-- in its place came the entry with its pointer, and its value at the end; the next entry stands at `next`
pub record FillsOne (o : OwnField) (from : ℕ) (front back new : List ℕ) (next : ℕ) : Type 0 where
  pub entry : List ℕ
  pub value : List ℕ
  pub is : IsEntry (own_name o) (own_pointer o from) (own_number o) entry
  pub valued : IsOwnValue o value
  pub whole : new ≡ front ++ entry ++ back ++ value
  pub next_is : next ≡ length front + length entry

-- ---- what is ready to be written

-- the value can be written
abbrev pub CanHold : OwnField → Type 0
CanHold (plain name t) = IsTrue (is_proper t) × HasPlaces t
CanHold (bagged f) = IsFit f.bag

-- the field has a name and a value that can be written, and its pointer fits, where its value stands at this place
pub record IsReady (o : OwnField) (at : ℕ) : Type 0 where
  pub named : 0 < length (own_name o)
  pub fits : own_pointer o at < 2 ^ 32
  pub held : CanHold o

-- each is so, where the first value stands at this place
abbrev pub AreReady : ℕ → List OwnField → Type 0
AreReady at [] = ⊤
AreReady at (o ∷ os) = IsReady o at × AreReady (at + own_size o) os

-- each has a name
abbrev pub AreNamed : List OwnField → Type 0
AreNamed [] = ⊤
AreNamed (o ∷ os) = (0 < length (own_name o)) × AreNamed os

-- how deep the value of such a field nests
abbrev pub own_nesting : OwnField → ℕ
own_nesting (plain name t) = nesting t
own_nesting (bagged f) = 0

-- how deep the deepest of them nests
abbrev pub own_nestings : List OwnField → ℕ
own_nestings [] = 0
own_nestings (o ∷ os) = max (own_nesting o) (own_nestings os)
