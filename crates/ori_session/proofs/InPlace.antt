-- Rows whose links are renamed in place, a row at a time.
use Rattle.std.proofs.Common.{◌≡◌, ℕ, zero, suc, ◌+◌, ◌<◌, ◌≤◌, List, [], ◌∷◌, length, set, get_or, map, refl, ap, ◌∙◌}
use Rattle.std.proofs.Common.{arith, add-one}
use Rattle.ori_bytes.specs.declared.rid.Rid.{Rid}
use Rattle.ori_spec_data.specs.Value.{Fields}
use Rattle.ori_spec_data.specs.Apply.{relinked_fields}
use Rattle.ori_model.specs.declared.reply.Row.{Row}
use Rattle.ori_model.specs.Replies.{row_of}
use Rattle.ori_session.specs.InPlace.{relinked_rows}

rows_step : (ps : List (Rid × Rid)) (now : List Row) (before : List Fields) (i : ℕ) (x new : Row) → i < length now
    → x ≡ get_or now i x → row_of new ≡ relinked_fields ps (row_of x) → map row_of now ≡ relinked_rows ps i before
    → map row_of (set now i new) ≡ relinked_rows ps (suc i) before
rows_step ps [] before i x new lt is f h = absurd (omega arith)
rows_step ps (y ∷ now) [] zero x new lt is f h = absurd (cc)
rows_step ps (y ∷ now) [] (suc i) x new lt is f h = absurd (cc)
rows_step ps (y ∷ now) (b ∷ before) zero x new lt is f h =
    let row : row_of y ≡ b = cc in
    let rest : map row_of now ≡ before = cc in
    let renamed : row_of new ≡ relinked_fields ps b = f ∙ ap (λ (r : Row). relinked_fields ps (row_of r)) is
    ∙ ap (relinked_fields ps) row in
    cc (renamed, rest)
rows_step ps (y ∷ now) (b ∷ before) (suc i) x new lt is f h =
    let row : row_of y ≡ relinked_fields ps b = cc in
    let rest : map row_of now ≡ relinked_rows ps i before = cc in
    let more = rows_step ps now before i x new (omega arith) is f rest in
    cc (row, more)

pub rows_more : (ps : List (Rid × Rid)) (now : List Row) (before : List Fields) (i : ℕ) (x new : Row) → i < length now
    → x ≡ get_or now i x → row_of new ≡ relinked_fields ps (row_of x) → map row_of now ≡ relinked_rows ps i before
    → map row_of (set now i new) ≡ relinked_rows ps (i + 1) before
rows_more ps now before i x new lt is f h = rw add-one (rows_step ps now before i x new lt is f h)

pub rows_all : (ps : List (Rid × Rid)) (now : List Row) (before : List Fields) (i : ℕ) → length now ≤ i
    → map row_of now ≡ relinked_rows ps i before → map row_of now ≡ map (relinked_fields ps) before
rows_all ps [] [] zero le h = refl
rows_all ps [] [] (suc i) le h = refl
rows_all ps [] (b ∷ before) zero le h = absurd (cc)
rows_all ps [] (b ∷ before) (suc i) le h = absurd (cc)
rows_all ps (y ∷ now) before zero le h = absurd (omega arith)
rows_all ps (y ∷ now) [] (suc i) le h = absurd (cc)
rows_all ps (y ∷ now) (b ∷ before) (suc i) le h =
    let row : row_of y ≡ relinked_fields ps b = cc in
    let rest : map row_of now ≡ relinked_rows ps i before = cc in
    let more = rows_all ps now before i (omega arith) rest in
    cc (row, more)
