-- Changes staged one after the other, and what they come to.
use Rattle.std.proofs.Common.{◌≡◌, inl, inr, ℕ, zero, suc, ◌+◌, ◌-◌, ◌*◌, ◌<◌, ◌≤◌, Bool, true, false, cond, ltb, List}
use Rattle.std.proofs.Common.{[], ◌∷◌, ◌++◌, length, set, Option, Some, None, option_map, refl, sym, ap, subst, ◌∙◌}
use Rattle.std.proofs.Common.{arith}
use Rattle.std.specs.List.{AllByRecursion, list_any}
use Rattle.std.proofs.lemmas.Bool.{cases_lt, lt-ltb, le-ltb, ltb-false}
use Rattle.ori_bytes.specs.declared.rid.Rid.{Rid}
use Rattle.ori_bytes.specs.declared.limits.TheConstants.{MAX_WEIGHT, MAX_POSITIONS, MAX_PAGES}
use Rattle.ori_spec_data.specs.Base.{RecordData, ChangeData, create, update, delete, touch, TxData}
use Rattle.ori_spec_data.specs.Apply.{rid_at, apply_tx, full_cluster, cluster_without_room, relinked_fields, IsFormed}
use Rattle.ori_log.specs.Log.{ImageData}
use Rattle.ori_spec_data.specs.Weighing.{changes_weight, renamings_on, weight, makes_record, pages_changed}
use Rattle.ori_spec_data.specs.Refusing.{or_else, conflict_of, first_refused, full_of, too_heavy}
use Rattle.ori_spec_data.specs.Refusing.{tx_too_large}
use Rattle.ori_log.specs.Images.{AreRising}
use Rattle.ori_rows.specs.Rows.{records_of, AreAt, base_with}
use Rattle.ori_rows.specs.Outcomes.{place_in, updated, touched, next_by, next_by_all, outcomes, put_row, put_rows}
use Rattle.ori_rows.specs.Outcomes.{put_in, put_all_in, RiseFrom, AreOfFirst, IsWritable, IsWritableRow}
use Rattle.ori_rows.specs.Images.{AreAllImages, Changes}
use Rattle.ori_rows.proofs.Places.{row_there, at_set, at_append, IsPlaced}
use Rattle.ori_rows.proofs.Made.{AreReady, put_set, put_push, next_is, base_made}
use Rattle.ori_rows.proofs.Sorted.{DoFit, AreLaid, AreSorted, IsAway, sorted, all_put_in, all_with, length_put_in}
use Rattle.ori_rows.proofs.Changed.{changes_new, changes_old, all_rise, length_all, length_puts}
use Rattle.ori_spec_data.proofs.Kept.{or_none, none_mapped}
use Rattle.ori_rows.proofs.Ready.{ready_all}
use Rattle.ori_table.specs.Kept.{AreOwn, AreKept}
use Rattle.ori_table.specs.Data.{CanLay}

-- ---- what a staged transaction comes to

makes_is : (n : ℕ) (cs : List ChangeData) → n ≤ next_by_all n cs
makes_is n [] = omega arith
makes_is n (create temp class fields ∷ cs) = let rest = makes_is (n + 1) cs in omega (arith, rest)
makes_is n (update a b d ∷ cs) = makes_is n cs
makes_is n (delete a b ∷ cs) = makes_is n cs
makes_is n (touch a b ∷ cs) = makes_is n cs

makes_any : (n : ℕ) (cs : List ChangeData) → list_any makes_record cs ≡ ltb n (next_by_all n cs)
makes_any n [] = sym (le-ltb n n (omega arith))
makes_any n (create temp class fields ∷ cs) = let more = makes_is (n + 1) cs in sym (lt-ltb n (next_by_all (n + 1) cs)
    (omega (arith, more)))
makes_any n (update a b d ∷ cs) = makes_any n cs
makes_any n (delete a b ∷ cs) = makes_any n cs
makes_any n (touch a b ∷ cs) = makes_any n cs

next_most : (n : ℕ) (cs : List ChangeData) → next_by_all n cs ≤ n + length cs
next_most n [] = omega arith
next_most n (create temp class fields ∷ cs) = let rest = next_most (n + 1) cs in omega (arith, rest)
next_most n (update a b d ∷ cs) = let rest = next_most n cs in omega (arith, rest)
next_most n (delete a b ∷ cs) = let rest = next_most n cs in omega (arith, rest)
next_most n (touch a b ∷ cs) = let rest = next_most n cs in omega (arith, rest)

heavy_least : (stored : List RecordData) (ps : List (Rid × Rid)) (cs : List ChangeData)
    → 8 * length cs ≤ changes_weight stored ps cs
heavy_least stored ps [] = omega arith
heavy_least stored ps (c ∷ cs) = let rest = heavy_least stored ps cs in omega (arith, rest)

length_all_in : (ys xs : List (ℕ × Option RecordData)) → length (put_all_in ys xs) ≡ length ys + length xs
length_all_in ys [] = omega arith
length_all_in ys (x ∷ xs) = let rest = length_all_in (put_in x ys) xs in omega (arith, rest, length_put_in x ys)

length_outcomes : (ps : List (Rid × Rid)) (rows : List (Option RecordData)) (n : ℕ) (cs : List ChangeData)
    → length (outcomes ps rows n cs) ≡ length cs
length_outcomes ps rows n [] = refl
length_outcomes ps rows n (c ∷ cs) = ap suc (length_outcomes ps rows (next_by n c) cs)

pub all_all_in : (P : ℕ × Option RecordData → Type 0) (ys xs : List (ℕ × Option RecordData)) → AllByRecursion P ys
    → AllByRecursion P xs → AllByRecursion P (put_all_in ys xs)
all_all_in P ys [] h k = h
all_all_in P ys (x ∷ xs) h k = all_all_in P (put_in x ys) xs (all_put_in P x ys k.0 h) k.1

abbrev IsInPlace : ℕ × Option RecordData → Type 0
IsInPlace x = IsPlaced x.0 x.1

placed_all : (ps : List (Rid × Rid)) (rows : List (Option RecordData)) (n : ℕ) (cs : List ChangeData) → AreAt 0 rows
    → AreReady rows rows cs → AllByRecursion IsInPlace (outcomes ps rows n cs)
placed_all ps rows n [] at ready = tt
placed_all ps rows n (create temp class fields ∷ cs) at ready = (refl, placed_all ps rows (n + 1) cs at ready)
placed_all ps rows n (update rid version fields ∷ cs) at ready =
    let h = ready.0 in
    let there = row_there 0 (place_in rid) rows h.r at h.old ∙ ap (rid_at 1) (omega arith) in (
      subst (λ (o : Option RecordData). IsPlaced (place_in rid) (option_map (updated (relinked_fields ps fields)) o))
          (sym h.old) there,
      placed_all ps rows n cs at ready.1,
    )
placed_all ps rows n (delete rid version ∷ cs) at ready = (tt, placed_all ps rows n cs at ready.1)
placed_all ps rows n (touch rid version ∷ cs) at ready =
    let h = ready.0 in
    let there = row_there 0 (place_in rid) rows h.r at h.old ∙ ap (rid_at 1) (omega arith) in (
      subst (λ (o : Option RecordData). IsPlaced (place_in rid) (option_map touched o)) (sym h.old) there,
      placed_all ps
          rows n cs at ready.1,
    )

own_set : (rows : List (Option RecordData)) (k : ℕ) (o : Option RecordData) → AreOwn rows → IsWritableRow o
    → AreOwn (set rows k o)
own_set [] k o own h = tt
own_set (None ∷ rows) zero None own h = own
own_set (None ∷ rows) zero (Some r) own h = (h.0, own)
own_set (Some s ∷ rows) zero None own h = own.1
own_set (Some s ∷ rows) zero (Some r) own h = (h.0, own.1)
own_set (None ∷ rows) (suc k) o own h = own_set rows k o own h
own_set (Some s ∷ rows) (suc k) o own h = (own.0, own_set rows k o own.1 h)

own_push : (rows : List (Option RecordData)) (o : Option RecordData) → AreOwn rows → IsWritableRow o
    → AreOwn (rows ++ o ∷ [])
own_push [] None own h = tt
own_push [] (Some r) own h = (h.0, tt)
own_push (None ∷ rows) o own h = own_push rows o own h
own_push (Some s ∷ rows) o own h = (own.0, own_push rows o own.1 h)

at_push : (rows : List (Option RecordData)) (k : ℕ) (o : Option RecordData) → AreAt 0 rows → k ≡ length rows
    → IsPlaced k o → AreAt 0 (rows ++ o ∷ [])
at_push rows k None at is h = at_append 0 rows (None ∷ []) at tt
at_push rows k (Some r) at is h = at_append 0 rows (Some r ∷ []) at (h ∙ ap (rid_at 1) (omega (arith, is)), tt)

kept_put : (rows : List (Option RecordData)) (x : ℕ × Option RecordData) → AreKept rows → x.0 ≤ length rows
    → IsInPlace x → IsWritable x → length (put_row rows x) < MAX_PAGES → AreKept (put_row rows x)
kept_put rows x kept fit placed writable few =
    elim (cases_lt x.0 (length rows)) [
      | inl below ↦
          let is = put_set rows x.0 x.1 below in
          let there : IsPlaced (0 + x.0) x.1 = subst (λ (k : ℕ). IsPlaced k x.1) (omega arith) placed in
          record {
            at = subst (AreAt 0) (sym is) (at_set 0 x.0 rows x.1 kept.at there);
            own = subst AreOwn (sym is) (own_set rows x.0 x.1 kept.own writable);
            few = few;
          }
      | inr above ↦
          let is = put_push rows x.0 x.1 above in
          record {
            at = subst (AreAt 0) (sym is) (at_push rows x.0 x.1 kept.at (omega (arith, fit, above)) placed);
            own = subst AreOwn (sym is) (own_push rows x.1 kept.own writable);
            few = few;
          }
    ]

can_lay : (rows : List (Option RecordData)) (xs : List (ℕ × Option RecordData)) → AreKept rows → DoFit rows xs
    → AllByRecursion IsInPlace xs → AllByRecursion IsWritable xs → length (put_rows rows xs) < MAX_PAGES
    → CanLay rows xs
can_lay rows [] kept fit placed writable few = tt
can_lay rows (x ∷ xs) kept fit placed writable few =
    let next = kept_put rows x kept fit.0 placed.0 writable.0 (omega (arith, few, length_puts (put_row rows x) xs)) in
    (next, can_lay (put_row rows x) xs next fit.1 placed.1 writable.1 few)

pub not_full : (next : ℕ) → full_cluster 1 (next ∷ 0 ∷ []) ≡ None → next ≤ MAX_POSITIONS
not_full next h = by (ltb MAX_POSITIONS next) refl h where
  by : (b : Bool) → ltb MAX_POSITIONS next ≡ b → cond b (Some 1) (full_cluster 2 (0 ∷ [])) ≡ None → next ≤ MAX_POSITIONS
  by true e g = absurd cc
  by false e g = ltb-false MAX_POSITIONS next e

not_heavy : (n : ℕ) → too_heavy n ≡ None → n ≤ MAX_WEIGHT
not_heavy n h = by (ltb MAX_WEIGHT n) refl h where
  by : (b : Bool) → ltb MAX_WEIGHT n ≡ b → cond b (Some (tx_too_large n)) None ≡ None → n ≤ MAX_WEIGHT
  by true e g = absurd cc
  by false e g = ltb-false MAX_WEIGHT n e

by_makes : (rows : List (Option RecordData)) (n next : ℕ) (outs : List (ℕ × Option RecordData)) (images : List
    ImageData) → n ≡ length rows → length (put_rows rows outs) ≡ next → n ≤ next → RiseFrom 0 outs → DoFit rows outs
    → AreAllImages (ltb n next) (next + 1) outs images → (b : Bool) → ltb n next ≡ b
    → Changes rows (put_rows rows outs) images
by_makes rows n next outs images is long grows rise fit are true e =
    changes_new rows outs images (next + 1) (omega (arith, long)) rise fit (subst (λ (b : Bool). AreAllImages b (next +
    1) outs images) e are)
by_makes rows n next outs images is long grows rise fit are false e =
    let past : next ≤ n = ltb-false n next e in
    changes_old rows outs images (omega (arith, long, is, past, grows)) rise fit (subst (λ (b : Bool). AreAllImages b
    (next + 1) outs images) e are)

-- what is staged, as plain data
pub record StagedData (rows : List (Option RecordData)) (tx : TxData) (outs : List (ℕ × Option RecordData)) (images :
    List ImageData) : Type 0 where
  pub made : base_with (put_rows rows outs) ≡ apply_tx (base_with rows) tx
  pub changes : Changes rows (put_rows rows outs) images
  pub count : length images ≡ pages_changed tx.changes
  pub some : 0 < length tx.changes → 0 < length images
  pub few : length images ≤ MAX_WEIGHT
  pub rising : AreRising 0 images
  pub in_use : length (put_rows rows outs) ≤ length rows + weight (base_with rows) tx
  pub light : weight (base_with rows) tx ≤ MAX_WEIGHT
  pub room : length (put_rows rows outs) ≤ MAX_POSITIONS
  pub can_lay : CanLay rows outs

pub staged_is : (rows : List (Option RecordData)) (tx : TxData) (next : ℕ) (outs : List (ℕ × Option RecordData))
    (images : List ImageData) → AreKept rows → IsFormed tx
    → first_refused (conflict_of (records_of rows)) tx.changes ≡ None
    → or_else (full_of (cluster_without_room (base_with rows) tx)) (too_heavy (weight (base_with rows) tx)) ≡ None
    → AreOfFirst tx.changes → next ≡ next_by_all (length rows) tx.changes
    → outs ≡ put_all_in [] (outcomes (renamings_on (base_with rows) tx) rows (length rows) tx.changes)
    → AllByRecursion IsWritable outs → AreAllImages (ltb (length rows) next) (next + 1) outs images
    → StagedData rows tx outs images
staged_is rows tx next outs images kept formed none rooms first is outs_are writable are =
    let n = length rows in
    let cs = tx.changes in
    let ps = renamings_on (base_with rows) tx in
    let ready = ready_all rows cs kept.at none in
    let start : AreLaid rows n cs [] = record { rise = tt; fit = tt; long = refl; away = tt } in
    let s : AreSorted rows n cs [] (outcomes ps rows n cs) = sorted ps rows cs n [] (omega arith) formed.one_each ready
    start in
    let laid : AreLaid rows (next_by_all n cs) [] outs = subst (λ (xs : List (ℕ × Option RecordData)). AreLaid rows
    (next_by_all n cs) [] xs) (sym outs_are) s.laid in
    let new = put_rows rows outs in
    let long : length new ≡ next = laid.long ∙ sym is in
    let parts = or_none (full_of (cluster_without_room (base_with rows) tx)) (too_heavy (weight (base_with rows) tx))
    rooms in
    let no_cluster : cluster_without_room (base_with rows) tx ≡ None = none_mapped _ (cluster_without_room (base_with
    rows) tx) parts.0 in
    let within : next ≤ MAX_POSITIONS = not_full next (ap (λ (m : ℕ). full_cluster 1 (m ∷ 0 ∷ [])) is
    ∙ sym (ap (full_cluster 1) (next_is n cs first)) ∙ no_cluster) in
    let light : weight (base_with rows) tx ≤ MAX_WEIGHT = not_heavy (weight (base_with rows) tx) parts.1 in
    let least = heavy_least (records_of rows) ps cs in
    let grows : n ≤ next = omega (arith, is, makes_is n cs) in
    let same_makes : list_any makes_record cs ≡ ltb n next = makes_any n cs ∙ ap (ltb n) (sym is) in
    let outs_long : length outs ≡ length cs = ap length outs_are ∙ length_all_in [] (outcomes ps rows n cs)
    ∙ ap (λ (m : ℕ). 0 + m) (length_outcomes ps rows n cs) ∙ sum_zero (length cs) in
    let images_long : length images ≡ length outs + cond (ltb n next) 1 0 = length_all (ltb n next) (next + 1) outs
    images are in
    let count : length images ≡ pages_changed cs = images_long ∙ ap (λ (m : ℕ). m + cond (ltb n next) 1 0) outs_long
    ∙ ap (λ (b : Bool). length cs + cond b 1 0) (sym same_makes) in
    let changes : Changes rows new images = by_makes rows n next outs images refl long grows laid.rise laid.fit are
    (ltb n next) refl in
    let one : cond (ltb n next) 1 0 ≤ 1 = at_most_one (ltb n next) in
    record {
      made = ap (λ (xs : List (ℕ × Option RecordData)). base_with (put_rows rows xs)) outs_are ∙ ap base_with s.same
          ∙ base_made rows tx kept.at formed.one_each ready first;
      changes = changes;
      count = count;
      some = λ one. omega (arith, images_long, outs_long, one);
      few = omega (arith, images_long, outs_long, one, least, light);
      rising = all_rise (ltb n next) (next + 1) outs images laid.rise are (omega (arith, changes.named, long, within));
      in_use = omega (arith, long, is, next_most n cs, least);
      light = light;
      room = omega (arith, long, within);
      can_lay = can_lay rows outs kept laid.fit
          (subst (λ (xs : List (ℕ × Option RecordData)). AllByRecursion IsInPlace xs) (sym outs_are) (all_all_in
          IsInPlace [] (outcomes ps rows n cs) tt (placed_all ps rows n cs kept.at ready)))
          writable (omega (arith, long, within));
    } where
      sum_zero : (m : ℕ) → 0 + m ≡ m
      sum_zero m = omega arith

      at_most_one : (b : Bool) → cond b 1 0 ≤ 1
      at_most_one true = omega arith
      at_most_one false = omega arith

pub places_few : (rows : List (Option RecordData)) (tx : TxData) (next : ℕ) (outs : List (ℕ × Option RecordData))
    → AreKept rows → IsFormed tx → first_refused (conflict_of (records_of rows)) tx.changes ≡ None
    → next ≡ next_by_all (length rows) tx.changes → outs ≡ put_all_in [] (outcomes (renamings_on (base_with rows) tx)
    rows (length rows) tx.changes) → next ≤ MAX_POSITIONS
    → AllByRecursion (λ x. x.0 < MAX_PAGES - 1) outs
places_few rows tx next outs kept formed none is outs_are within =
    let n = length rows in
    let cs = tx.changes in
    let ps = renamings_on (base_with rows) tx in
    let start : AreLaid rows n cs [] = record { rise = tt; fit = tt; long = refl; away = tt } in
    let s : AreSorted rows n cs [] (outcomes ps rows n cs) = sorted ps rows cs n [] (omega arith) formed.one_each
    (ready_all rows cs kept.at none) start in
    let laid : AreLaid rows (next_by_all n cs) [] outs = subst (λ (xs : List (ℕ × Option RecordData)). AreLaid rows
    (next_by_all n cs) [] xs) (sym outs_are) s.laid in
    all_with (λ (y : ℕ × Option RecordData). (y.0 < next_by_all n cs) × IsAway [] y.0) (λ (y : ℕ × Option RecordData).
    y.0 < MAX_PAGES - 1) outs (λ y h. omega (arith, h.0, is, within)) laid.away
