-- Files open to at most one base.
use Rattle.std.proofs.Common.{◌≡◌, inl, inr, ℕ, zero, suc, ◌+◌, ◌<◌, List, [], ◌∷◌, length, get_or, Option}
use Rattle.std.proofs.Common.{Some, None, refl, sym, ap, subst, ◌∙◌, arith}
use Rattle.ori_bytes.specs.declared.limits.TheConstants.{MAX_PAGES}
use Rattle.ori_spec_data.specs.Base.{RecordData, BaseData}
use Rattle.ori_spec_data.specs.Apply.{rid_at}
use Rattle.ori_spec_data.specs.Records.{record_at}
use Rattle.ori_spec_data.specs.Soundness.{IsSoundIn, IsSoundBase}
use Rattle.ori_cover.proofs.Holding.{holds_one}
use Rattle.ori_rows.specs.Rows.{AreAt}
use Rattle.ori_rows.specs.Stage.{head_page, IsPageOf, StandFor}
use Rattle.ori_paged.specs.PageRows.{StandOrInitial, OpensToOne}
use Rattle.ori_paged.proofs.PageRows.{opens_pages}
use Rattle.ori_paged.proofs.SameBase.{found_at, first_next, read_base}

-- ---- the rows of a base

-- those of so many positions from one on
abbrev rows_from : List RecordData → ℕ → ℕ → List (Option RecordData)
rows_from stored p zero = []
rows_from stored p (suc n) = record_at stored (rid_at 1 p) ∷ rows_from stored (p + 1) n

length-rows_from : (stored : List RecordData) (p n : ℕ) → length (rows_from stored p n) ≡ n
length-rows_from stored p zero = refl
length-rows_from stored p (suc n) = ap suc (length-rows_from stored (p + 1) n)

row_from : (stored : List RecordData) (p n k : ℕ) → k < n → get_or (rows_from stored p n) k None ≡ record_at stored
    (rid_at 1 (p + k))
row_from stored p zero k within = absurd (omega (arith, within))
row_from stored p (suc n) zero within = ap (λ (m : ℕ). record_at stored (rid_at 1 m)) (omega arith)
row_from stored p (suc n) (suc k) within =
    row_from stored (p + 1) n k (omega (arith, within)) ∙ ap (λ (m : ℕ). record_at stored (rid_at 1 m)) (omega arith)

at_first : (p : ℕ) (o : Option RecordData) (rows : List (Option RecordData))
    → ((r : RecordData) → o ≡ Some r → r.rid ≡ rid_at 1 p)
    → AreAt (p + 1) rows → AreAt p (o ∷ rows)
at_first p None rows here rest = rest
at_first p (Some r) rows here rest = (here r refl, rest)

module _ (base : BaseData) (sound : IsSoundBase base) where
  at_from : (p n : ℕ) → AreAt p (rows_from base.stored p n)
  at_from p zero = tt
  at_from p (suc n) =
      at_first p (record_at base.stored (rid_at 1 p)) (rows_from base.stored (p + 1) n)
      (λ r is. (found_at (IsSoundIn base.schema.classes base.next) (rid_at 1 p) base.stored r sound.each is).0)
      (at_from (p + 1) n)

-- ---- one base

one_of_pages : (pages : List (List ℕ)) (base other : BaseData) → StandFor pages base → IsSoundBase base
    → StandFor pages other
    → IsSoundBase other → base ≡ other
one_of_pages pages base other stands sound stands_other sound_other =
    let given = get_or base.next 0 0 in
    let rows = rows_from base.stored 0 given in
    let long : length rows ≡ given = length-rows_from base.stored 0 given in
    let most = first_next base.next sound.next in
    let head : get_or pages 0 [] ≡ head_page (length rows + 1) = stands.head
    ∙ ap (λ (n : ℕ). head_page (n + 1)) (sym long) in
    let each : (q : ℕ) → q < length rows → IsPageOf (get_or pages (q + 1) []) (get_or rows q None) = λ q within.
    let lt : q < given = omega (arith, within, long) in
    let there : record_at base.stored (rid_at 1 q) ≡ get_or rows q None =
    ap (λ (m : ℕ). record_at base.stored (rid_at 1 m)) (omega arith) ∙ sym (row_from base.stored 0 given q lt) in
    subst (λ (o : Option RecordData). IsPageOf (get_or pages (q + 1) []) o) there (stands.each q lt) in
    let at : AreAt 0 rows = at_from base sound 0 given in
    let few : length rows < MAX_PAGES = omega (arith, long, most) in
    sym (read_base pages rows base head each at few stands sound)
    ∙ read_base pages rows other head each at few stands_other sound_other

-- no page stands for no base
no_page : (pages : List (List ℕ)) (base : BaseData) → pages ≡ [] → StandFor pages base → ⊥
no_page pages base none stands =
    let short : [] ≡ head_page (get_or base.next 0 0 + 1) = sym (ap (λ (l : List (List ℕ)). get_or l 0 []) none)
    ∙ stands.head in
    absurd (omega (arith, ap length short))

pub one_of : (pages : List (List ℕ)) (base other : BaseData) → StandOrInitial pages base → IsSoundBase base
    → StandOrInitial pages other → IsSoundBase other → base ≡ other
one_of pages base other (inl a) sound (inl b) sound_other = one_of_pages pages base other a sound b sound_other
one_of pages base other (inl a) sound (inr b) sound_other = absurd (no_page pages base b.0 a)
one_of pages base other (inr a) sound (inl b) sound_other = absurd (no_page pages other a.0 b)
one_of pages base other (inr a) sound (inr b) sound_other = a.1 ∙ sym b.1

pub one_base : OpensToOne
one_base files base other opens opens_other =
    let a = opens_pages files base opens in
    let b = opens_pages files other opens_other in
    let same : b.0 ≡ a.0 = holds_one files b.0 a.0 b.1 a.1 in
    one_of a.0 base other a.2 opens.sound
    (subst (λ (l : List (List ℕ)). StandOrInitial l other) same b.2) opens_other.sound
