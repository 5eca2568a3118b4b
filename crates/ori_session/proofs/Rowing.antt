-- Walks over the changes that make records, a step at a time.
use Rattle.std.proofs.Common.{◌≡◌, ℕ, ◌+◌, ◌<◌, List, [], ◌∷◌, ◌++◌, map, length, take, get_or, refl, ap}
use Rattle.std.proofs.lemmas.List.{map-append, take_more}
use Rattle.ori_bytes.specs.declared.rid.Rid.{Rid}
use Rattle.ori_spec_data.specs.Value.{Fields}
use Rattle.ori_spec_data.specs.Base.{ChangeData, create, update, delete, touch}
use Rattle.ori_spec_texts.specs.Statement.{whole_row}
use Rattle.ori_spec_data.specs.Views.{created_of}
use Rattle.ori_spec_runs.specs.Answer.{rids_of, rows_made}
use Rattle.ori_model.specs.declared.change.Change.{Change}
use Rattle.ori_model.specs.Data.{change_of}
use Rattle.ori_session.specs.Rows.{rows_as}

rows_append : (version : ℕ) (cs ds : List ChangeData)
    → rows_as version (cs ++ ds) ≡ rows_as version cs ++ rows_as version ds
rows_append version [] ds = refl
rows_append version (create temp class fields ∷ cs) ds =
    ap (λ (rows : List Fields). whole_row (record { rid = temp; version = version; class = class; fields = fields })
    ∷ rows) (rows_append version cs ds)
rows_append version (update a b e ∷ cs) ds = rows_append version cs ds
rows_append version (delete a b ∷ cs) ds = rows_append version cs ds
rows_append version (touch a b ∷ cs) ds = rows_append version cs ds

pub rows_more : (version : ℕ) (xs : List Change) (i : ℕ) (x : Change) (old new : List Fields) → i < length xs
    → x ≡ get_or xs i x → old ≡ rows_as version (map change_of (take i xs))
    → new ≡ old ++ rows_as version (change_of x ∷ []) → new ≡ rows_as version (map change_of (take (i + 1) xs))
rows_more version xs i x old new lt is e f =
    rw (
      take_more xs i x lt,
      ← is,
      map-append change_of (take i xs) (x ∷ []),
      rows_append version
          (map change_of (take i xs)) (change_of x ∷ []),
      ← e,
    ) f

rids_append : (cs ds : List ChangeData) → rids_of (created_of (cs ++ ds))
    ≡ rids_of (created_of cs) ++ rids_of (created_of ds)
rids_append [] ds = refl
rids_append (create temp class fields ∷ cs) ds = ap (λ (rids : List Rid). temp ∷ rids) (rids_append cs ds)
rids_append (update a b e ∷ cs) ds = rids_append cs ds
rids_append (delete a b ∷ cs) ds = rids_append cs ds
rids_append (touch a b ∷ cs) ds = rids_append cs ds

pub rids_more : (xs : List Change) (i : ℕ) (x : Change) (old new : List Rid) → i < length xs → x ≡ get_or xs i x
    → old ≡ rids_of (created_of (map change_of (take i xs))) → new ≡ old ++ rids_of (created_of (change_of x ∷ []))
    → new ≡ rids_of (created_of (map change_of (take (i + 1) xs)))
rids_more xs i x old new lt is e f =
    rw (
      take_more xs i x lt,
      ← is,
      map-append change_of (take i xs) (x ∷ []),
      rids_append (map change_of (take i xs))
          (change_of x ∷ []),
      ← e,
    ) f

-- the rows of new records as a transaction shows them
pub rows_shown : (cs : List ChangeData) → rows_as 0 cs ≡ rows_made (created_of cs)
rows_shown [] = refl
rows_shown (create temp class fields ∷ cs) =
    ap (λ (rows : List Fields). whole_row (record { rid = temp; version = 0; class = class; fields = fields }) ∷ rows)
    (rows_shown cs)
rows_shown (update a b e ∷ cs) = rows_shown cs
rows_shown (delete a b ∷ cs) = rows_shown cs
rows_shown (touch a b ∷ cs) = rows_shown cs
