-- The statements that can be written so far, as a grammar of their texts, and records as rows.
use Rattle.std.specs.Prelude.{◌≡◌, ◌⊎◌, ℕ, ◌+◌, ◌-◌, ◌*◌, ◌^◌, ◌<◌, ℤ, pos, neg_ℤ, Bool, false, not, ◌&&◌, ◌||◌, ◌==◌}
use Rattle.std.specs.Prelude.{nat_lt, nat_le, if◌then◌else◌, List, [], ◌∷◌, ◌++◌, length, map, codes, IsTrue, Option}
use Rattle.std.specs.Prelude.{Some, None}
use Rattle.std.specs.List.{list_all, list_any}
use Rattle.ori_bytes.specs.declared.rid.Rid.{Rid}
use Rattle.ori_bytes.specs.declared.limits.TheConstants.{MAX_NAME_BYTES}
use Rattle.ori_spec_data.specs.Value.{Tree, integer, long, str, link, Fields}
use Rattle.ori_spec_data.specs.Base.{RecordData}
use Rattle.ori_spec_data.specs.Numbers.{IsSigned}
use Rattle.ori_spec_data.specs.Records.{record_at}
use Rattle.ori_spec_data.specs.Apply.{same_bytes, is_bag_name}
use Rattle.ori_spec_data.specs.Fields.{put}

-- ---- words and names

abbrev pub is_between : ℕ → ℕ → ℕ → Bool
is_between low high b = nat_le low b && nat_le b high

abbrev pub is_letter : ℕ → Bool
is_letter b = is_between 65 90 b || (is_between 97 122 b || b == 95)

abbrev pub is_digit : ℕ → Bool
is_digit b = is_between 48 57 b

-- an ASCII letter or an underscore, then letters, digits and underscores
abbrev pub is_word : List ℕ → Bool
is_word [] = false
is_word (b ∷ bs) = is_letter b && list_all (λ c. is_letter c || is_digit c) bs

abbrev pub capital : ℕ → ℕ
capital b = if is_between 97 122 b then b - 32 else b

abbrev pub keywords : List (List ℕ)
keywords =
    codes "SELECT" ∷ codes "FROM" ∷ codes "WHERE" ∷ codes "ORDER" ∷ codes "BY" ∷ codes "ASC" ∷ codes "DESC"
    ∷ codes "SKIP" ∷ codes "LIMIT" ∷ codes "INSERT" ∷ codes "INTO" ∷ codes "SET" ∷ codes "UPDATE" ∷ codes "REMOVE"
    ∷ codes "DELETE" ∷ codes "CREATE" ∷ codes "VERTEX" ∷ codes "EDGE" ∷ codes "TO" ∷ codes "CLASS" ∷ codes "EXTENDS"
    ∷ codes "PROPERTY" ∷ codes "INDEX" ∷ codes "ON" ∷ codes "UNIQUE" ∷ codes "NOTUNIQUE" ∷ codes "TRAVERSE"
    ∷ codes "MAXDEPTH" ∷ codes "WHILE" ∷ codes "STRATEGY" ∷ codes "DEPTH_FIRST" ∷ codes "BREADTH_FIRST" ∷ codes "BEGIN"
    ∷ codes "COMMIT" ∷ codes "ROLLBACK" ∷ codes "AND" ∷ codes "OR" ∷ codes "NOT" ∷ codes "IS" ∷ codes "NULL"
    ∷ codes "TRUE" ∷ codes "FALSE" ∷ codes "BETWEEN" ∷ codes "CONTAINS" ∷ codes "AS" ∷ []

-- keywords match in any case of their letters
abbrev pub is_keyword : List ℕ → Bool
is_keyword word = list_any (λ k. same_bytes k (map capital word)) keywords

-- names that a statement may not write
abbrev pub is_reserved : List ℕ → Bool
is_reserved name = same_bytes name (codes "out") || (same_bytes name (codes "in") || is_bag_name name)

abbrev pub is_field_name : List ℕ → Bool
is_field_name name =
    is_word name && (nat_le (length name) MAX_NAME_BYTES && (not (is_keyword name) && not (is_reserved name)))

-- ---- links

abbrev pub value_of_digits : ℕ → List ℕ → ℕ
value_of_digits so_far [] = so_far
value_of_digits so_far (b ∷ bs) = value_of_digits (10 * so_far + (b - 48)) bs

-- one or more decimal digits, zeros at the front allowed
abbrev pub IsDigits : List ℕ → ℕ → Type 0
IsDigits text n = (0 < length text) × IsTrue (list_all is_digit text) × (n ≡ value_of_digits 0 text)

-- digits, or a minus sign and digits
abbrev pub IsNumeral : List ℕ → ℤ → Type 0
IsNumeral text z =
    ((n : ℕ) × IsDigits text n × (z ≡ pos n))
    ⊎ ((digits : List ℕ) × (n : ℕ) × (text ≡ 45 ∷ digits) × IsDigits digits n × (z ≡ neg_ℤ (pos n)))

-- `#<cluster>:<position>` in the range of a record identifier
abbrev pub IsLink : List ℕ → Rid → Type 0
IsLink text rid = (cluster : List ℕ) × (position : List ℕ) × (text ≡ 35 ∷ cluster ++ 58 ∷ position)
    × IsNumeral cluster rid.cluster × IsSigned 16 rid.cluster × IsNumeral position rid.position
    × IsSigned 64 rid.position

-- ---- statements

-- neither a quote nor a backslash
abbrev pub is_plain : List ℕ → Bool
is_plain text = list_all (λ b. not (b == 39 || b == 92)) text

-- a whole number that isn't negative, as the least kind that has it
abbrev pub whole_number : ℕ → Tree
whole_number n = if nat_lt n (2 ^ 31) then integer (pos n) else long (pos n)

-- a value as statements write it: text in single quotes, decimal digits with a value below 2^63, or a link
abbrev pub IsLiteral : List ℕ → Tree → Type 0
IsLiteral text value =
    ((s : List ℕ) × IsTrue (is_plain s) × (text ≡ 39 ∷ s ++ 39 ∷ []) × (value ≡ str s))
    ⊎ ((n : ℕ) × IsDigits text n × (n < 2 ^ 63) × (value ≡ whole_number n))
    ⊎ ((rid : Rid) × IsLink text rid × (value ≡ link rid))

-- what a statement asks for
pub data StatementData : Type 0 where
  inserts : List ℕ → Tree → StatementData
  selects : Rid → StatementData
  updates : Rid → List ℕ → Tree → StatementData
  deletes_vertex : Rid → StatementData
  begins : StatementData
  commits : StatementData
  rolls_back : StatementData

-- a name and a value, as they are set
abbrev pub IsSetting : List ℕ → List ℕ → Tree → Type 0
IsSetting text name value =
    (literal : List ℕ) × IsTrue (is_field_name name) × IsLiteral literal value × (text ≡ name ++ codes " = " ++ literal)

-- INSERT INTO V SET <name> = <value>; SELECT FROM <link>; UPDATE <link> SET <name> = <value>; DELETE VERTEX <link>;
-- BEGIN; COMMIT; ROLLBACK
abbrev pub IsStatement : List ℕ → StatementData → Type 0
IsStatement text (inserts name value) =
    (setting : List ℕ) × IsSetting setting name value × (text ≡ codes "INSERT INTO V SET " ++ setting)
IsStatement text (selects rid) =
    (link_text : List ℕ) × IsLink link_text rid × (text ≡ codes "SELECT FROM " ++ link_text)
IsStatement text (updates rid name value) =
    (link_text : List ℕ) × (setting : List ℕ) × IsLink link_text rid × IsSetting setting name value
    × (text ≡ codes "UPDATE " ++ link_text ++ codes " SET " ++ setting)
IsStatement text (deletes_vertex rid) =
    (link_text : List ℕ) × IsLink link_text rid × (text ≡ codes "DELETE VERTEX " ++ link_text)
IsStatement text begins = text ≡ codes "BEGIN"
IsStatement text commits = text ≡ codes "COMMIT"
IsStatement text rolls_back = text ≡ codes "ROLLBACK"

-- ---- records as rows

-- a record as a row: its fields, and its class, its identifier and its version among them, in byte order of the names
abbrev pub whole_row : RecordData → Fields
whole_row r =
    put (codes "@class") (str r.class)
    (put (codes "@rid") (link r.rid) (put (codes "@version") (whole_number r.version) r.fields))

abbrev pub rows_of : Option RecordData → List Fields
rows_of None = []
rows_of (Some r) = whole_row r ∷ []

-- the row of the record with an identifier, where there is one
abbrev pub rows_at : List RecordData → Rid → List Fields
rows_at records rid = rows_of (record_at records rid)
