-- A transaction that was decided, laid out over rows.
use Rattle.std.proofs.Common.{◌≡◌, ℕ, ◌+◌, ◌-◌, ◌<◌, ◌≤◌, ltb, List, [], ◌∷◌, length, map, Option, None, sym, ap, subst}
use Rattle.std.proofs.Common.{◌∙◌, arith}
use Rattle.std.specs.List.{AllByRecursion}
use Rattle.ori_bytes.specs.declared.rid.Rid.{Rid}
use Rattle.ori_bytes.specs.declared.limits.TheConstants.{MAX_PAGES, MAX_POSITIONS}
use Rattle.ori_spec_data.specs.Base.{RecordData, TxData, initial_base}
use Rattle.ori_spec_data.specs.Apply.{IsFormed, fresh, full_cluster, cluster_without_room}
use Rattle.ori_spec_data.specs.Weighing.{renamings_on, weight}
use Rattle.ori_spec_data.specs.Refusing.{or_else, first_refused, conflict_of, broken_by, too_large_of, full_of}
use Rattle.ori_spec_data.specs.Refusing.{too_heavy, refusal}
use Rattle.ori_log.specs.Log.{ImageData}
use Rattle.ori_decide.specs.Deciding.{writes}
use Rattle.ori_rows.specs.Rows.{records_of, base_with}
use Rattle.ori_rows.specs.Outcomes.{outcomes, next_by_all, put_all_in, AreOfFirst, IsWritable}
use Rattle.ori_rows.specs.Images.{AreAllImages}
use Rattle.ori_rows.proofs.Made.{next_is}
use Rattle.ori_spec_data.proofs.Kept.{or_none, none_mapped}
use Rattle.ori_rows.proofs.Ready.{ready_all}
use Rattle.ori_table.specs.Data.{placed}
use Rattle.ori_table.specs.Kept.{AreKept}
use Rattle.ori_table.proofs.StagingAll.{StagedData, staged_is, places_few, all_all_in, not_full}
use Rattle.ori_table.proofs.Written.{outcomes_are, first_all, writable_all, next_long}

module _ (rows : List (Option RecordData)) (tx : TxData) (kept : AreKept rows) (formed : IsFormed tx) (allowed :
    refusal (base_with rows) tx ≡ None) where
  conflicts : first_refused (conflict_of (records_of rows)) tx.changes ≡ None
  conflicts = (or_none (first_refused (conflict_of (records_of rows)) tx.changes) _ allowed).0

  after_conflicts : or_else (first_refused (broken_by initial_base.schema.classes tx.changes) tx.changes)
      (or_else (first_refused (too_large_of (records_of rows) (renamings_on (base_with rows) tx)) tx.changes)
      (or_else (full_of (cluster_without_room (base_with rows) tx)) (too_heavy (weight (base_with rows) tx)))) ≡ None
  after_conflicts = (or_none (first_refused (conflict_of (records_of rows)) tx.changes) _ allowed).1

  after_rules : or_else (first_refused (too_large_of (records_of rows) (renamings_on (base_with rows) tx)) tx.changes)
      (or_else (full_of (cluster_without_room (base_with rows) tx)) (too_heavy (weight (base_with rows) tx))) ≡ None
  after_rules = (or_none (first_refused (broken_by initial_base.schema.classes tx.changes) tx.changes) _
      after_conflicts).1

  sizes : first_refused (too_large_of (records_of rows) (renamings_on (base_with rows) tx)) tx.changes ≡ None
  sizes = (or_none (first_refused (too_large_of (records_of rows) (renamings_on (base_with rows) tx)) tx.changes) _
      after_rules).0

  rooms : or_else (full_of (cluster_without_room (base_with rows) tx)) (too_heavy (weight (base_with rows) tx)) ≡ None
  rooms = (or_none (first_refused (too_large_of (records_of rows) (renamings_on (base_with rows) tx)) tx.changes) _
      after_rules).1

  first : AreOfFirst tx.changes
  first = first_all tx.changes tx.changes (or_none (first_refused (broken_by initial_base.schema.classes tx.changes)
      tx.changes) _ after_conflicts).0

  pub outs_of : map placed (map (writes (renamings_on (base_with rows) tx) (records_of rows)) tx.changes)
      ≡ outcomes (renamings_on (base_with rows) tx) rows (length rows) tx.changes
  outs_of = outcomes_are rows tx.made (length rows) tx.changes kept.at (ready_all rows tx.changes kept.at conflicts)
      first formed.one_each formed.in_order

  pub next_of : (len count : ℕ) (rids : List Rid) → len ≡ length rows → rids ≡ fresh (base_with rows) tx
      → count ≡ length rids
      → len + count ≡ next_by_all (length rows) tx.changes
  next_of len count rids e f g =
      ap (λ (m : ℕ). m + count) e ∙ ap (λ (m : ℕ). length rows + m) (g ∙ ap (λ (l : List Rid). length l) f)
      ∙ next_long initial_base.schema.classes (length rows ∷ 0 ∷ []) (length rows) tx.changes

  pub within : next_by_all (length rows) tx.changes ≤ MAX_POSITIONS
  within =
      not_full (next_by_all (length rows) tx.changes) (sym (ap (full_cluster 1) (next_is (length rows) tx.changes
      first))
      ∙ none_mapped _ (cluster_without_room (base_with rows) tx) (or_none (full_of (cluster_without_room (base_with
      rows) tx)) _ rooms).0)

  module _ (next : ℕ) (outs : List (ℕ × Option RecordData)) (is : next ≡ next_by_all (length rows) tx.changes)
      (e : outs ≡ put_all_in [] (outcomes (renamings_on (base_with rows) tx) rows (length rows) tx.changes)) where
    pub can_write : AllByRecursion IsWritable outs
    can_write =
        subst (λ (xs : List (ℕ × Option RecordData)). AllByRecursion IsWritable xs) (sym e)
        (all_all_in IsWritable [] (outcomes (renamings_on (base_with rows) tx) rows (length rows) tx.changes) tt
        (writable_all (renamings_on (base_with rows) tx) rows (length rows) tx.changes kept.at kept.own
        (ready_all rows tx.changes kept.at conflicts) formed.own sizes))

    pub few : AllByRecursion (λ x. x.0 < MAX_PAGES - 1) outs
    few = places_few rows tx next outs kept formed conflicts is e (omega (arith, is, within))

    pub whole : (images : List ImageData) → AreAllImages (ltb (length rows) next) (next + 1) outs images
        → StagedData rows tx outs images
    whole images are = staged_is rows tx next outs images kept formed conflicts rooms first is e can_write are
