-- Records by their positions, and by their identifiers.
use Rattle.std.proofs.Common.{◌≡◌, ℕ, zero, suc, ◌+◌, ◌<◌, ◌≤◌, pos, Bool, true, false, cond, List, [], ◌∷◌, ◌++◌}
use Rattle.std.proofs.Common.{length, get_or, set, Option, Some, None, refl, sym, ap, subst, ◌∙◌, arith}
use Rattle.std.proofs.lemmas.Bool.{le-ltb, lt-ltb}
use Rattle.ori_bytes.specs.declared.rid.Rid.{Rid}
use Rattle.ori_spec_data.specs.Base.{RecordData}
use Rattle.ori_spec_data.specs.Apply.{same_rid, comes_before, rid_at, put_record}
use Rattle.ori_spec_data.specs.Records.{record_at}
use Rattle.ori_spec_data.proofs.Rids.{same_rid-true, same_rid-refl, differ}
use Rattle.ori_rows.specs.Rows.{records_of, AreAt}

pub one_position : (p q : ℕ) → rid_at 1 p ≡ rid_at 1 q → p ≡ q
one_position p q h = let e : pos p ≡ pos q = ap (λ (r : Rid). r.position) h in cc

pub not_before : (p n : ℕ) → p < n → comes_before (rid_at 1 n) (rid_at 1 p) ≡ false
not_before p n lt = rw (le-ltb n p (omega arith), lt-ltb p n lt) refl

-- ---- what stands at an identifier

-- none where no position from there on has it
pub none_from : (n : ℕ) (rows : List (Option RecordData)) (rid : Rid) → AreAt n rows
    → ((p : ℕ) → n ≤ p → rid ≡ rid_at 1 p → ⊥) → record_at (records_of rows) rid ≡ None
none_from n [] rid at other = refl
none_from n (None ∷ rows) rid at other = none_from (n + 1) rows rid at (λ p low e. other p (omega (arith, low)) e)
none_from n (Some r ∷ rows) rid at other =
    let apart : same_rid r.rid rid ≡ false = differ r.rid rid (λ e. other n (omega arith) (sym e ∙ at.0)) in
    rw apart (none_from (n + 1) rows rid at.1 (λ p low e. other p (omega (arith, low)) e))

pub at_place : (n k : ℕ) (rows : List (Option RecordData)) → AreAt n rows
    → record_at (records_of rows) (rid_at 1 (n + k)) ≡ get_or rows k None
at_place n k [] at = refl
at_place n zero (None ∷ rows) at =
    none_from (n + 1) rows (rid_at 1 (n + 0)) at (λ p low e. let same : n + 0 ≡ p = one_position (n + 0) p e in omega
    (arith, low, same))
at_place n zero (Some r ∷ rows) at =
    let here : n ≡ n + 0 = omega arith in
    let same : same_rid r.rid (rid_at 1 (n + 0)) ≡ true =
    subst (λ (m : ℕ). same_rid r.rid (rid_at 1 m) ≡ true) here (rw at.0 (same_rid-refl (rid_at 1 n))) in
    rw same refl
at_place n (suc k) (None ∷ rows) at =
    let there : n + suc k ≡ n + 1 + k = omega arith in
    ap (λ (m : ℕ). record_at (records_of rows) (rid_at 1 m)) there ∙ at_place (n + 1) k rows at
at_place n (suc k) (Some r ∷ rows) at =
    let there : n + suc k ≡ n + 1 + k = omega arith in
    let apart : same_rid r.rid (rid_at 1 (n + suc k)) ≡ false =
    differ r.rid (rid_at 1 (n + suc k)) (λ e. let same : n ≡ n + suc k = one_position n (n + suc k) (sym at.0 ∙ e)
    in omega (arith, same)) in
    rw apart (ap (λ (m : ℕ). record_at (records_of rows) (rid_at 1 m)) there ∙ at_place (n + 1) k rows at.1)

pub record Found (n : ℕ) (rows : List (Option RecordData)) (rid : Rid) (r : RecordData) : Type 0 where
  pub k : ℕ
  pub within : k < length rows
  pub place : rid ≡ rid_at 1 (n + k)
  pub there : get_or rows k None ≡ Some r
  pub same : r.rid ≡ rid

pub found_from : (n : ℕ) (rows : List (Option RecordData)) (rid : Rid) (r : RecordData) → AreAt n rows
    → record_at (records_of rows) rid ≡ Some r → Found n rows rid r
found_from n [] rid r at e = absurd cc
found_from n (None ∷ rows) rid r at e =
    let f = found_from (n + 1) rows rid r at e in
    record {
      k = suc f.k;
      within = omega (arith, f.within);
      place = f.place
          ∙ ap (rid_at 1) (omega arith);
      there = f.there;
      same = f.same;
    }
found_from n (Some s ∷ rows) rid r at e =
    by (same_rid s.rid rid) refl e (λ g. found_from (n + 1) rows rid r at.1 g) where
      by : (b : Bool) → same_rid s.rid rid ≡ b → cond b (Some s) (record_at (records_of rows) rid) ≡ Some r
          → (record_at (records_of rows) rid ≡ Some r → Found (n + 1) rows rid r) → Found n (Some s ∷ rows) rid r
      by true h g later =
          let one : s ≡ r = cc in
          let same : s.rid ≡ rid = same_rid-true s.rid rid h in
          record {
            k = 0;
            within = omega arith;
            place = sym same ∙ at.0
                ∙ ap (rid_at 1) (omega arith);
            there = ap Some one;
            same = subst (λ (x : RecordData). x.rid ≡ rid) one same;
          }
      by false h g later =
          let f = later g in
          record {
            k = suc f.k;
            within = omega (arith, f.within);
            place = f.place
                ∙ ap (rid_at 1) (omega arith);
            there = f.there;
            same = f.same;
          }

pub row_there : (n k : ℕ) (rows : List (Option RecordData)) (r : RecordData) → AreAt n rows
    → get_or rows k None ≡ Some r → r.rid ≡ rid_at 1 (n + k)
row_there n k [] r at e = absurd cc
row_there n zero (None ∷ rows) r at e = absurd cc
row_there n zero (Some s ∷ rows) r at e =
    let one : s ≡ r = cc in subst (λ (x : RecordData). x.rid ≡ rid_at 1 (n + 0)) one
    (at.0 ∙ ap (rid_at 1) (omega arith))
row_there n (suc k) (None ∷ rows) r at e = row_there (n + 1) k rows r at e ∙ ap (rid_at 1) (omega arith)
row_there n (suc k) (Some s ∷ rows) r at e = row_there (n + 1) k rows r at.1 e ∙ ap (rid_at 1) (omega arith)

pub some_within : (k : ℕ) (rows : List (Option RecordData)) (r : RecordData) → get_or rows k None ≡ Some r
    → k < length rows
some_within k [] r e = absurd cc
some_within zero (o ∷ rows) r e = omega arith
some_within (suc k) (o ∷ rows) r e = let rest = some_within k rows r e in omega (arith, rest)

pub none_past : (k : ℕ) (rows : List (Option RecordData)) → length rows ≤ k → get_or rows k None ≡ None
none_past k [] past = refl
none_past zero (o ∷ rows) past = absurd (omega arith)
none_past (suc k) (o ∷ rows) past = none_past k rows (omega arith)

-- ---- rows one behind the other

pub records_append : (xs ys : List (Option RecordData)) → records_of (xs ++ ys) ≡ records_of xs ++ records_of ys
records_append [] ys = refl
records_append (None ∷ xs) ys = records_append xs ys
records_append (Some r ∷ xs) ys = ap (λ (l : List RecordData). r ∷ l) (records_append xs ys)

pub at_append : (n : ℕ) (xs ys : List (Option RecordData)) → AreAt n xs → AreAt (n + length xs) ys → AreAt n (xs ++ ys)
at_append n [] ys at more = let here : n + 0 ≡ n = omega arith in subst (λ (m : ℕ). AreAt m ys) here more
at_append n (None ∷ xs) ys at more =
    let there : n + suc (length xs) ≡ n + 1 + length xs = omega arith in at_append (n + 1) xs ys at
    (subst (λ (m : ℕ). AreAt m ys) there more)
at_append n (Some r ∷ xs) ys at more =
    let there : n + suc (length xs) ≡ n + 1 + length xs = omega arith in
    (at.0, at_append (n + 1) xs ys at.1 (subst (λ (m : ℕ). AreAt m ys) there more))

abbrev pub IsPlaced : ℕ → Option RecordData → Type 0
IsPlaced p None = Unit {0}
IsPlaced p (Some r) = r.rid ≡ rid_at 1 p

pub at_set : (n k : ℕ) (rows : List (Option RecordData)) (o : Option RecordData) → AreAt n rows → IsPlaced (n + k) o
    → AreAt n (set rows k o)
at_set n k [] o at h = tt
at_set n zero (None ∷ rows) None at h = at
at_set n zero (None ∷ rows) (Some s) at h = (h ∙ ap (rid_at 1) (omega arith), at)
at_set n zero (Some r ∷ rows) None at h = at.1
at_set n zero (Some r ∷ rows) (Some s) at h = (h ∙ ap (rid_at 1) (omega arith), at.1)
at_set n (suc k) (None ∷ rows) o at h =
    let there : n + suc k ≡ n + 1 + k = omega arith in at_set (n + 1) k rows o at
    (subst (λ (m : ℕ). IsPlaced m o) there h)
at_set n (suc k) (Some r ∷ rows) o at h =
    let there : n + suc k ≡ n + 1 + k = omega arith in (
      at.0,
      at_set (n + 1) k rows o at.1
          (subst (λ (m : ℕ). IsPlaced m o) there h),
    )

-- a record behind all positions goes to the end
pub put_end : (m n : ℕ) (r : RecordData) (rows : List (Option RecordData)) → AreAt m rows → m + length rows ≤ n
    → r.rid ≡ rid_at 1 n → put_record r (records_of rows) ≡ records_of rows ++ r ∷ []
put_end m n r [] at past e = refl
put_end m n r (None ∷ rows) at past e = put_end (m + 1) n r rows at (omega (arith, past)) e
put_end m n r (Some s ∷ rows) at past e =
    let behind : comes_before r.rid s.rid ≡ false = rw (e, at.0) (not_before m n (omega (arith, past))) in
    rw behind (ap (λ (l : List RecordData). s ∷ l) (put_end (m + 1) n r rows at.1 (omega (arith, past)) e))
