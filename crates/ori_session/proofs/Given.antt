-- The rows of new records, as they are given with a commit.
use Rattle.std.proofs.Common.{◌≡◌, ℕ, suc, ◌+◌, ◌<◌, Bool, true, false, cond, List, [], ◌∷◌, length, map, refl, sym}
use Rattle.std.proofs.Common.{ap, subst, ◌∙◌, arith, pos, ◌^◌}
use Rattle.std.specs.Prelude.{codes, nat_lt, negsuc}
use Rattle.std.specs.Cmp.Lexicographic.{slice_cmp}
use Rattle.std.specs.Ordering.{nat_cmp, match_ordering}
use Rattle.std.specs.declared.cmp.Ordering.{Ordering}
use Rattle.std.specs.declared.cmp.Ordering.TheVariants.{Less, Equal, Greater}
use Rattle.ori_bytes.specs.declared.rid.Rid.{Rid}
use Rattle.ori_spec_data.specs.Value.{Tree, Fields, integer, long, str, link, no_pairs, pair}
use Rattle.ori_spec_data.specs.Base.{RecordData, ChangeData, create, update, delete, touch}
use Rattle.ori_spec_data.specs.Apply.{same_rid, temporary, CreatesInOrder, renamings, renamed, relinked}
use Rattle.ori_spec_data.specs.Apply.{relinked_fields}
use Rattle.ori_spec_data.specs.Fields.{put}
use Rattle.ori_spec_texts.specs.Statement.{whole_number, whole_row}
use Rattle.ori_spec_data.specs.Keeping.{creations}
use Rattle.ori_spec_data.proofs.Rids.{same_rid-refl, differ}
use Rattle.ori_session.specs.Rows.{rows_as}
use Rattle.ori_session.specs.Commits.{rows_given}

-- ---- links renamed in a row

relinked_placed : (o : Ordering) (ps : List (Rid × Rid)) (name : List ℕ) (t : Tree) (other : List ℕ) (u : Tree)
    (fs : Fields) → relinked_fields ps (put name t fs) ≡ put name (relinked ps t) (relinked_fields ps fs)
    → relinked_fields ps
    (match_ordering o (pair name t (pair other u fs)) (pair name t fs) (pair other u (put name t fs)))
    ≡ match_ordering o (pair name (relinked ps t) (pair other (relinked ps u) (relinked_fields ps fs)))
    (pair name (relinked ps t) (relinked_fields ps fs))
    (pair other (relinked ps u) (put name (relinked ps t) (relinked_fields ps fs)))
relinked_placed Less ps name t other u fs e = refl
relinked_placed Equal ps name t other u fs e = refl
relinked_placed Greater ps name t other u fs e = ap (λ (gs : Fields). pair other (relinked ps u) gs) e

relinked_put : (ps : List (Rid × Rid)) (name : List ℕ) (t : Tree) (fs : Fields)
    → relinked_fields ps (put name t fs) ≡ put name (relinked ps t) (relinked_fields ps fs)
relinked_put ps name t no_pairs = refl
relinked_put ps name t (pair other u fs) = relinked_placed (slice_cmp nat_cmp name other) ps name t other u fs
    (relinked_put ps name t fs)

number_at : (b : Bool) (ps : List (Rid × Rid)) (n : ℕ)
    → relinked ps (cond b (integer (pos n)) (long (pos n))) ≡ cond b (integer (pos n)) (long (pos n))
number_at true ps n = refl
number_at false ps n = refl

relinked_number : (ps : List (Rid × Rid)) (n : ℕ) → relinked ps (whole_number n) ≡ whole_number n
relinked_number ps n = number_at (nat_lt n (2 ^ 31)) ps n

relinked_row : (ps : List (Rid × Rid)) (r : RecordData) → relinked_fields ps (whole_row r)
    ≡ whole_row (record r { rid = renamed ps r.rid; fields = relinked_fields ps r.fields })
relinked_row ps r =
    let inner = put (codes "@version") (whole_number r.version) r.fields in
    let first = relinked_put ps (codes "@version") (whole_number r.version) r.fields
    ∙ ap (λ (t : Tree). put (codes "@version") t (relinked_fields ps r.fields)) (relinked_number ps r.version) in
    let second = relinked_put ps (codes "@rid") (link r.rid) inner
    ∙ ap (λ (fs : Fields). put (codes "@rid") (link (renamed ps r.rid)) fs) first in
    relinked_put ps (codes "@class") (str r.class) (put (codes "@rid") (link r.rid) inner)
    ∙ ap (λ (fs : Fields). put (codes "@class") (str r.class) fs) second

-- ---- each new record's identifier is renamed to the one that it was given

abbrev AreFound : List (Rid × Rid) → List ChangeData → List Rid → Type 0
AreFound ps [] rids = Unit {0}
AreFound ps (create temp class fields ∷ cs) [] = ⊥
AreFound ps (create temp class fields ∷ cs) (rid ∷ rids) = (renamed ps temp ≡ rid) × AreFound ps cs rids
AreFound ps (update rid version fields ∷ cs) rids = AreFound ps cs rids
AreFound ps (delete rid version ∷ cs) rids = AreFound ps cs rids
AreFound ps (touch rid version ∷ cs) rids = AreFound ps cs rids

rows_found : (ps : List (Rid × Rid)) (cs : List ChangeData) (rids : List Rid) → AreFound ps cs rids
    → map (relinked_fields ps) (rows_as 1 cs) ≡ rows_given ps cs rids
rows_found ps [] rids h = refl
rows_found ps (create temp class fields ∷ cs) [] h = absurd h
rows_found ps (create temp class fields ∷ cs) (rid ∷ rids) h =
    let row = relinked_row ps (record { rid = temp; version = 1; class = class; fields = fields })
    ∙ ap (λ (r : Rid). whole_row (record { rid = r; version = 1; class = class; fields = relinked_fields ps fields }))
    h.0 in
    ap (λ (fs : Fields). fs ∷ map (relinked_fields ps) (rows_as 1 cs)) row
    ∙ ap (λ (rows : List Fields). whole_row
    (record { rid = rid; version = 1; class = class; fields = relinked_fields ps fields }) ∷ rows)
    (rows_found ps cs rids h.1)
rows_found ps (update rid version fields ∷ cs) rids h = rows_found ps cs rids h
rows_found ps (delete rid version ∷ cs) rids h = rows_found ps cs rids h
rows_found ps (touch rid version ∷ cs) rids h = rows_found ps cs rids h

other_temporary : (k m : ℕ) → k < m → same_rid (temporary k) (temporary m) ≡ false
other_temporary k m lt = differ (temporary k) (temporary m) (λ e.
    let there : negsuc (k + 1) ≡ negsuc (m + 1) = ap (λ (r : Rid). r.position) e in
    let same : k + 1 ≡ m + 1 = cc in
    absurd (omega (arith, same)))

found_more : (temp rid : Rid) (ps : List (Rid × Rid)) (k low made : ℕ) (cs : List ChangeData) (rids : List Rid)
    → temp ≡ temporary k → k < low → CreatesInOrder low made cs → AreFound ps cs rids
    → AreFound ((temp, rid) ∷ ps) cs rids
found_more temp rid ps k low made [] rids e lt h f = tt
found_more temp rid ps k low made (create other class fields ∷ cs) [] e lt h f = f
found_more temp rid ps k low made (create other class fields ∷ cs) (r ∷ rids) e lt h f =
    let apart : same_rid temp other ≡ false = subst (λ (r : Rid). same_rid r other ≡ false) (sym e)
    (subst (λ (r : Rid). same_rid (temporary k) r ≡ false) (sym h.3)
    (other_temporary k h.0 (omega (arith, h.1)))) in
    (rw apart f.0, found_more temp rid ps k (suc h.0) made cs rids e (omega (arith, h.1)) h.4 f.1)
found_more temp rid ps k low made (update other version fields ∷ cs) rids e lt h f =
    found_more temp rid ps k low made cs rids e lt h.1 f
found_more temp rid ps k low made (delete other version ∷ cs) rids e lt h f =
    found_more temp rid ps k low made cs rids e lt h.1 f
found_more temp rid ps k low made (touch other version ∷ cs) rids e lt h f =
    found_more temp rid ps k low made cs rids e lt h.1 f

found_all : (low made : ℕ) (cs : List ChangeData) (rids : List Rid) → CreatesInOrder low made cs
    → length rids ≡ creations cs → AreFound (renamings cs rids) cs rids
found_all low made [] rids h e = tt
found_all low made (create temp class fields ∷ cs) [] h e = absurd (omega (arith, e))
found_all low made (create temp class fields ∷ cs) (rid ∷ rids) h e = (
  rw (same_rid-refl temp) refl,
  found_more temp rid (renamings cs rids) h.0 (suc h.0) made cs rids h.3 (omega arith)
      h.4 (found_all (suc h.0) made cs rids h.4 (omega (arith, e))),
)
found_all low made (update other version fields ∷ cs) rids h e = found_all low made cs rids h.1 e
found_all low made (delete other version ∷ cs) rids h e = found_all low made cs rids h.1 e
found_all low made (touch other version ∷ cs) rids h e = found_all low made cs rids h.1 e

-- the rows with their links renamed are those of the new records as they were given
pub rows_renamed : (made : ℕ) (cs : List ChangeData) (rids : List Rid) → CreatesInOrder 0 made cs
    → length rids ≡ creations cs → map (relinked_fields (renamings cs rids)) (rows_as 1 cs)
    ≡ rows_given (renamings cs rids) cs rids
rows_renamed made cs rids h e = rows_found (renamings cs rids) cs rids (found_all 0 made cs rids h e)
