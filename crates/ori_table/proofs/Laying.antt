-- Outcomes put one after the other.
use Rattle.std.proofs.Common.{◌≡◌, ℕ, zero, suc, ◌<◌, ◌≤◌, List, [], ◌∷◌, ◌++◌, length, set, map, Option, refl, sym, ap}
use Rattle.std.proofs.Common.{◌∙◌, arith}
use Rattle.ori_spec_data.specs.Base.{RecordData}
use Rattle.ori_model.specs.declared.record.Stored.{Stored}
use Rattle.ori_rows.specs.Outcomes.{place_in, put_row}
use Rattle.ori_rows.proofs.Made.{put_set, put_push}
use Rattle.ori_table.specs.declared.outcome.Outcome.{Outcome}
use Rattle.ori_table.specs.Kept.{row_of, rows_of}
use Rattle.ori_table.specs.Data.{outcome_data, outcomes_data, placed}
use Rattle.ori_decide.specs.declared.writing.Written.{Written}
use Rattle.ori_decide.specs.Deciding.{written_data}
use Rattle.std.proofs.lemmas.List.{append_assoc, append-nil, map-append}

pub rows_length : (xs : List (Option Stored)) → length (rows_of xs) ≡ length xs
rows_length [] = refl
rows_length (x ∷ xs) = ap suc (rows_length xs)

rows_set : (xs : List (Option Stored)) (k : ℕ) (o : Option Stored)
    → rows_of (set xs k o) ≡ set (rows_of xs) k (row_of o)
rows_set [] k o = refl
rows_set (x ∷ xs) zero o = refl
rows_set (x ∷ xs) (suc k) o = ap (λ (l : List (Option RecordData)). row_of x ∷ l) (rows_set xs k o)

pub rows_push : (xs : List (Option Stored)) (o : Option Stored) → rows_of (xs ++ o ∷ []) ≡ rows_of xs ++ row_of o ∷ []
rows_push [] o = refl
rows_push (x ∷ xs) o = ap (λ (l : List (Option RecordData)). row_of x ∷ l) (rows_push xs o)

pub put_there : (xs now : List (Option Stored)) (x : Outcome) → xs ≡ now → x.place < length xs
    → put_row (rows_of now) (outcome_data x) ≡ rows_of (set xs x.place x.row)
put_there xs now x same lt =
    ap (λ (l : List (Option Stored)). put_row (rows_of l) (outcome_data x)) (sym same)
    ∙ put_set (rows_of xs) x.place (row_of x.row) (omega (arith, lt, rows_length xs))
    ∙ sym (rows_set xs x.place x.row)

pub put_behind : (xs now : List (Option Stored)) (x : Outcome) → xs ≡ now → length xs ≤ x.place
    → put_row (rows_of now) (outcome_data x) ≡ rows_of (xs ++ x.row ∷ [])
put_behind xs now x same past =
    ap (λ (l : List (Option Stored)). put_row (rows_of l) (outcome_data x)) (sym same)
    ∙ put_push (rows_of xs) x.place (row_of x.row) (omega (arith, past, rows_length xs)) ∙ sym (rows_push xs x.row)

pub no_outcomes : (xs : List Outcome) → length xs ≡ 0 → xs ≡ []
no_outcomes [] e = refl
no_outcomes (x ∷ xs) e = absurd (omega (arith, e))

-- ---- outcomes of what was written, one after the other

pub none_left : (xs : List Written) → length xs ≡ 0 → xs ≡ []
none_left [] e = refl
none_left (x ∷ xs) e = absurd (omega (arith, e))

pub all_done : (done : List (ℕ × Option RecordData)) (xs : List Written) → xs ≡ []
    → done ≡ done ++ map placed (map written_data xs)
all_done done xs e = rw e (sym (append-nil done))

pub one_more : (old new : List Outcome) (xs ys : List Written) (x : Written) (place : ℕ) (row : Option Stored)
    → new ≡ old ++ record { place = place; row = row } ∷ [] → xs ≡ x ∷ ys → place ≡ place_in x.rid → row ≡ x.left
    → outcomes_data new ++ map placed (map written_data ys) ≡ outcomes_data old ++ map placed (map written_data xs)
one_more old new xs ys x place row e f g h =
    rw (e, f, g, h, map-append outcome_data old (record { place = place_in x.rid; row = x.left } ∷ []))
    (append_assoc (outcomes_data old) (placed (written_data x) ∷ []) (map placed (map written_data ys)))
