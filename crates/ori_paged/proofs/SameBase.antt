-- The rows that are read from pages are those of the sound base that the pages stand for.
use Rattle.std.proofs.Common.{◌≡◌, ◌⊎◌, inl, inr, ℕ, suc, ◌+◌, ◌-◌, ◌<◌, ◌≤◌, Bool, true, false, cond, List, [], ◌∷◌}
use Rattle.std.proofs.Common.{◌++◌, length, take, drop, replicate, get_or, Option, Some, None, refl, sym, ap, ap₂}
use Rattle.std.proofs.Common.{subst, ◌∙◌, arith, length-append}
use Rattle.std.specs.Int.{w16, w32, from_be_bytes, to_be_bytes}
use Rattle.std.specs.List.{AllByRecursion}
use Rattle.std.proofs.lemmas.Bool.{cases_lt}
use Rattle.std.proofs.lemmas.List.{length-replicate}
use Rattle.ori_bytes.specs.declared.rid.Rid.{Rid}
use Rattle.ori_bytes.specs.declared.limits.TheConstants.{PAGE_BYTES, MAX_PAGES, MAX_POSITIONS, MAX_RECORD_BYTES}
use Rattle.ori_bytes.specs.declared.limits.TheConstants.{SLOTS_KIND, FIRST_CLUSTER_OWNER}
use Rattle.ori_spec_data.specs.Base.{RecordData, SchemaData, BaseData, BagNameData, initial_base}
use Rattle.ori_spec_data.specs.Apply.{same_rid, comes_before, rid_at, next_of}
use Rattle.ori_spec_data.specs.Records.{record_at}
use Rattle.ori_spec_data.specs.Sizes.{record_size}
use Rattle.ori_spec_data.specs.Soundness.{AreInRowOrder, IsSoundIn, IsSoundBase}
use Rattle.ori_record.specs.Spelling.{Spells}
use Rattle.ori_page.specs.Pages.{page_head}
use Rattle.ori_rows.specs.Stage.{head_page, record_page, IsPageOf, StandFor}
use Rattle.ori_spec_data.proofs.Kept.{all_more, clusters}
use Rattle.ori_spec_data.proofs.Orders.{lt_of, lt_apart}
use Rattle.ori_spec_data.proofs.Rids.{same_rid-true, same_rid-of, differ, not_both}
use Rattle.ori_record.proofs.Records.{one_record}
use Rattle.ori_record.proofs.Wholes.{spelled_size}
use Rattle.ori_rows.specs.Rows.{records_of, AreAt, base_with}
use Rattle.ori_rows.proofs.Places.{one_position, not_before, row_there, IsPlaced}
use Rattle.ori_paged.proofs.RecordForms.{record_fits, record_length, record_bytes_at, pages_counted}

-- ---- the page of a position

fits_long : (bytes : List ℕ) → length bytes ≤ 4086 → length (record_page bytes) ≡ PAGE_BYTES
fits_long bytes h =
    let front = page_head FIRST_CLUSTER_OWNER SLOTS_KIND ++ to_be_bytes w16 (length bytes) ++ bytes in
    omega (
      arith,
      h,
      length-append bytes (replicate (PAGE_BYTES - length front) 0),
      length-replicate {A = ℕ}
          (PAGE_BYTES - length front) 0,
    )

-- one page is of the same bytes
one_page : (a b : List ℕ) → length b ≤ 4086 → record_page a ≡ record_page b → a ≡ b
one_page a b short e =
    let fits = record_fits a (ap length e ∙ fits_long b short) in
    let len : length a ≡ length b = sym (record_length a fits) ∙ ap (λ (p : List ℕ). from_be_bytes w16 (drop 8 p)) e
    ∙ record_length b short in
    sym (record_bytes_at a) ∙ ap (λ (p : List ℕ). take (length a) (drop 10 p)) e
    ∙ ap (λ (n : ℕ). take n (drop 10 (record_page b))) len ∙ record_bytes_at b

not_empty : (bytes : List ℕ) (r : RecordData) → Spells bytes r [] → bytes ≡ [] → ⊥
not_empty bytes r spells none = omega (arith, spelled_size bytes r [] spells, ap length none)

-- a record that a page has room for, or none
abbrev IsSmall : Option RecordData → Type 0
IsSmall None = Unit {0}
IsSmall (Some r) = record_size r.class r.fields ≤ MAX_RECORD_BYTES

-- a page of a position is of one record or of none
one_row : (p : ℕ) (page : List ℕ) (found stored : Option RecordData) → IsPageOf page found → IsPageOf page stored
    → IsPlaced p found → IsPlaced p stored → IsSmall stored → found ≡ stored
one_row p page None None a b at there small = refl
one_row p page None (Some r) a (bytes, spells, is) at there small =
    let size = spelled_size bytes r [] spells in
    let none : [] ≡ bytes = one_page [] bytes (omega (arith, size, small)) (sym a ∙ is) in
    absurd (not_empty bytes r spells (sym none))
one_row p page (Some r) None (bytes, spells, is) b at there small =
    let none : bytes ≡ [] = one_page bytes [] (omega arith) (sym is ∙ b) in
    absurd (not_empty bytes r spells none)
one_row p page (Some r) (Some s) (bytes, spells, is) (others, spelled, same) at there small =
    let size = spelled_size others s [] spelled in
    let one : bytes ≡ others = one_page bytes others (omega (arith, size, small)) (sym is ∙ same) in
    ap Some ((one_record bytes r s [] [] spells (subst (λ (l : List ℕ). Spells l s []) (sym one) spelled)).0
    (at ∙ sym there))

-- ---- records whose positions rise

-- from one position on, below another
abbrev AreFrom : ℕ → ℕ → List RecordData → Type 0
AreFrom low high [] = Unit {0}
AreFrom low high (s ∷ ss) = (p : ℕ) × (low ≤ p) × (p < high) × (s.rid ≡ rid_at 1 p) × AreFrom (p + 1) high ss

abbrev IsGiven : ℕ → RecordData → Type 0
IsGiven high s = (p : ℕ) × (p < high) × (s.rid ≡ rid_at 1 p)

after : (p q : ℕ) → comes_before (rid_at 1 p) (rid_at 1 q) ≡ true → p + 1 ≤ q
after p q h = by (cases_lt p q) where
  same : p ≡ q → ⊥
  same e = not_both (same_rid (rid_at 1 p) (rid_at 1 q)) (same_rid-of (rid_at 1 p) (rid_at 1 q) (ap (rid_at 1) e))
      (lt_apart (rid_at 1 p) (rid_at 1 q) (lt_of (rid_at 1 p) (rid_at 1 q) h))

  less : (q < p) ⊎ (p ≤ q) → q ≤ p → ⊥
  less (inl lt) le = not_both (comes_before (rid_at 1 p) (rid_at 1 q)) h (not_before q p lt)
  less (inr more) le = same (omega (arith, more, le))

  by : (p < q) ⊎ (q ≤ p) → p + 1 ≤ q
  by (inl lt) = omega (arith, lt)
  by (inr le) = absurd (less (cases_lt q p) le)

abbrev StartFrom : ℕ → List RecordData → Type 0
StartFrom low [] = Unit {0}
StartFrom low (s ∷ ss) = (p : ℕ) → s.rid ≡ rid_at 1 p → low ≤ p

are_from : (high low : ℕ) (ss : List RecordData) → AreInRowOrder ss → AllByRecursion (IsGiven high) ss
    → StartFrom low ss → AreFrom low high ss
are_from high low [] order given starts = tt
are_from high low (s ∷ []) order given starts = (given.0.0, starts given.0.0 given.0.2, given.0.1, given.0.2, tt)
are_from high low (s ∷ t ∷ ss) order given starts =
    let p = given.0.0 in (
      p,
      starts p given.0.2,
      given.0.1,
      given.0.2,
      are_from high (p + 1) (t ∷ ss) order.1 given.1 (λ q is. after p q (sym
          (ap₂ comes_before given.0.2 is) ∙ order.0)),
    )

none_before : (low high p : ℕ) (ss : List RecordData) → AreFrom low high ss → p < low → record_at ss (rid_at 1 p) ≡ None
none_before low high p [] from lt = refl
none_before low high p (s ∷ ss) (q, above, below, is, rest) lt =
    let apart : same_rid s.rid (rid_at 1 p) ≡ false = differ s.rid (rid_at 1 p)
    (λ e. let same : q ≡ p = one_position q p (sym is ∙ e) in omega (arith, same, above, lt)) in
    rw apart (none_before (q + 1) high p ss rest (omega (arith, above, lt)))

first_at : (p : ℕ) (s : RecordData) (ss : List RecordData) → s.rid ≡ rid_at 1 p
    → record_at (s ∷ ss) (rid_at 1 p) ≡ Some s
first_at p s ss is = rw (same_rid-of s.rid (rid_at 1 p) is) refl

-- none is at the first of these positions
higher : (low high : ℕ) (ss : List RecordData) → AreFrom low high ss → record_at ss (rid_at 1 low) ≡ None
    → AreFrom (low + 1) high ss
higher low high [] from none = tt
higher low high (s ∷ ss) (q, above, below, is, rest) none = by (cases_lt low q) where
  by : (low < q) ⊎ (q ≤ low) → AreFrom (low + 1) high (s ∷ ss)
  by (inl lt) = (q, omega (arith, lt), below, is, rest)
  by (inr le) =
      let here : q ≡ low = omega (arith, above, le) in
      let some : Some s ≡ None = sym (first_at low s ss (is ∙ ap (rid_at 1) here)) ∙ none in
      absurd cc

none_left : (low high : ℕ) (ss : List RecordData) → AreFrom low high ss → high ≤ low → [] ≡ ss
none_left low high [] from le = refl
none_left low high (s ∷ ss) (q, above, below, is, rest) le = absurd (omega (arith, above, below, le))

-- records at the positions of rows are theirs
same_records : (low : ℕ) (rows : List (Option RecordData)) (ss : List RecordData) → AreAt low rows
    → AreFrom low (low + length rows) ss
    → ((k : ℕ) → k < length rows → record_at ss (rid_at 1 (low + k)) ≡ get_or rows k None) → records_of rows ≡ ss
same_records low [] ss at from each = none_left low (low + 0) ss from (omega arith)
same_records low (None ∷ rows) ss at from each =
    let zeroth : low ≡ low + 0 = omega arith in
    let none : record_at ss (rid_at 1 low) ≡ None = ap (λ (m : ℕ). record_at ss (rid_at 1 m)) zeroth
    ∙ each 0 (omega arith) in
    let end : low + suc (length rows) ≡ low + 1 + length rows = omega arith in
    same_records (low + 1) rows ss at (subst (λ (h : ℕ). AreFrom (low + 1) h ss) end (higher low (low + suc
    (length rows)) ss from none))
    (λ k lt. let there : low + 1 + k ≡ low + suc k = omega arith in ap (λ (m : ℕ). record_at ss (rid_at 1 m)) there
    ∙ each (suc k) (omega (arith, lt)))
same_records low (Some r ∷ rows) [] at from each =
    let none : None ≡ Some r = each 0 (omega arith) in
    absurd cc
same_records low (Some r ∷ rows) (s ∷ ss) at (q, above, below, is, rest) each =
    let zeroth : low ≡ low + 0 = omega arith in
    let first : record_at (s ∷ ss) (rid_at 1 low) ≡ Some r = ap (λ (m : ℕ). record_at (s ∷ ss) (rid_at 1 m)) zeroth
    ∙ each 0 (omega arith) in
    let end : low + suc (length rows) ≡ low + 1 + length rows = omega arith in
    elim (cases_lt low q) [
      | inl lt ↦
          let from : AreFrom (low + 1) (low + suc (length rows)) (s ∷ ss) = (q, omega (arith, lt), below, is, rest) in
          let both : None ≡ Some r = sym (none_before (low + 1) (low + suc (length rows)) low (s ∷ ss) from
          (omega arith)) ∙ first in
          absurd cc
      | inr le ↦
          let here : q ≡ low = omega (arith, above, le) in
          let at_low : s.rid ≡ rid_at 1 low = is ∙ ap (rid_at 1) here in
          let some : Some s ≡ Some r = sym (first_at low s ss at_low) ∙ first in
          let one : r ≡ s = cc in
          let behind : AreFrom (low + 1) (low + 1 + length rows) ss = subst (λ (h : ℕ). AreFrom (low + 1) h ss) end
          (subst (λ (p : ℕ). AreFrom (p + 1) (low + suc (length rows)) ss) here rest) in
          let tails : records_of rows ≡ ss = same_records (low + 1) rows ss at.1 behind (λ k lt.
          let there : low + 1 + k ≡ low + suc k = omega arith in
          let apart : same_rid s.rid (rid_at 1 (low + suc k)) ≡ false = differ s.rid (rid_at 1 (low + suc k))
          (λ e. let same : low ≡ low + suc k = one_position low (low + suc k) (sym at_low ∙ e) in omega
          (arith, same)) in
          let later : record_at (s ∷ ss) (rid_at 1 (low + suc k)) ≡ record_at ss (rid_at 1
          (low + suc k)) = rw apart refl in
          ap (λ (m : ℕ). record_at ss (rid_at 1 m)) there ∙ sym later ∙ each (suc k) (omega (arith, lt))) in
          ap₂ (λ (x : RecordData) (l : List RecordData). x ∷ l) one tails
    ]

-- ---- the base

pub found_at : (P : RecordData → Type 0) (rid : Rid) (ss : List RecordData) (r : RecordData) → AllByRecursion P ss
    → record_at ss rid ≡ Some r → (r.rid ≡ rid) × P r
found_at P rid [] r all e = absurd cc
found_at P rid (s ∷ ss) r all e = by (same_rid s.rid rid) refl e (found_at P rid ss r all.1) where
  by : (b : Bool) → same_rid s.rid rid ≡ b → cond b (Some s) (record_at ss rid) ≡ Some r
      → (record_at ss rid ≡ Some r → (r.rid ≡ rid) × P r) → (r.rid ≡ rid) × P r
  by true h g later = let same : s ≡ r = cc in subst (λ (x : RecordData). (x.rid ≡ rid) × P x) same
      (same_rid-true s.rid rid h, all.0)
  by false h g later = later g

placed : (p : ℕ) (o : Option RecordData) → ((r : RecordData) → o ≡ Some r → r.rid ≡ rid_at 1 p) → IsPlaced p o
placed p None at = tt
placed p (Some r) at = at r refl

small : (o : Option RecordData) → ((r : RecordData) → o ≡ Some r → record_size r.class r.fields ≤ MAX_RECORD_BYTES)
    → IsSmall o
small None h = tt
small (Some r) h = h r refl

pub first_next : (next : List ℕ) → AllByRecursion (λ n. n ≤ MAX_POSITIONS) next → get_or next 0 0 ≤ MAX_POSITIONS
first_next [] all = omega arith
first_next (n ∷ next) all = all.0

-- a position of cluster 1 or 2, of which the second has given none
of_first : (n k p : ℕ) → 1 ≤ k → k < 3 → p < next_of (n ∷ 0 ∷ []) k → (k ≡ 1) × (p < n)
of_first n k p some few lt = by (cases_lt k 2) where
  by : (k < 2) ⊎ (2 ≤ k) → (k ≡ 1) × (p < n)
  by (inl low) =
      let one : k ≡ 1 = omega (arith, some, low) in
      let next : next_of (n ∷ 0 ∷ []) k ≡ n = ap (next_of (n ∷ 0 ∷ [])) one in
      (one, omega (arith, lt, next))
  by (inr high) =
      let two : k ≡ 2 = omega (arith, few, high) in
      let next : next_of (n ∷ 0 ∷ []) k ≡ 0 = ap (next_of (n ∷ 0 ∷ [])) two in
      absurd (omega (arith, lt, next))

module _ (pages : List (List ℕ)) (rows : List (Option RecordData)) (base : BaseData)
    (head : get_or pages 0 [] ≡ head_page (length rows + 1))
    (each : (q : ℕ) → q < length rows → IsPageOf (get_or pages (q + 1) []) (get_or rows q None)) (at : AreAt 0 rows)
    (few : length rows < MAX_PAGES) (stands : StandFor pages base) (sound : IsSoundBase base) where
  abbrev given : ℕ
  given = get_or base.next 0 0

  in_cluster : (r : RecordData) → IsSoundIn base.schema.classes base.next r → IsGiven given r
  in_cluster r h =
      let k = h.place.0 in
      let p = h.place.1 in
      let two : length base.schema.classes ≡ 2 = ap (λ (s : SchemaData). length s.classes) stands.schema in
      let range = clusters base.schema.classes 1 r.class sound.classes h.class in
      let same : range.0 ≡ k = cc (range.1, h.place.2) in
      let next : next_of base.next k ≡ next_of (given ∷ 0 ∷ []) k = ap (λ (l : List ℕ). next_of l k) stands.next in
      let first =
      of_first given k p (omega (arith, range.2, same)) (omega (arith, range.3, same, two))
      (omega (arith, h.place.3, next)) in
      (p, first.1, h.place.4 ∙ ap (λ (c : ℕ). rid_at c p) first.0)

  long : length rows ≡ given
  long =
      let most = first_next base.next sound.next in
      let counts = sym (pages_counted (length rows + 1) (omega (arith, few)))
      ∙ ap (λ (p : List ℕ). from_be_bytes w32 (drop 12 p)) (sym head ∙ stands.head)
      ∙ pages_counted (given + 1) (omega (arith, most)) in
      omega (arith, counts)

  row_is : (k : ℕ) → k < length rows → record_at base.stored (rid_at 1 k) ≡ get_or rows k None
  row_is k lt =
      let zeroth : 0 + k ≡ k = omega arith in
      let found : IsPlaced k (get_or rows k None) = placed k (get_or rows k None) (λ r is. row_there 0 k rows r at is
      ∙ ap (rid_at 1) zeroth) in
      let stored : IsPlaced k (record_at base.stored (rid_at 1 k)) = placed k (record_at base.stored (rid_at 1 k))
      (λ r is. (found_at (IsSoundIn base.schema.classes base.next) (rid_at 1 k) base.stored r sound.each is).0) in
      let fits : IsSmall (record_at base.stored (rid_at 1 k)) = small (record_at base.stored (rid_at 1 k)) (λ r is.
      (found_at (IsSoundIn base.schema.classes base.next) (rid_at 1 k) base.stored r sound.each is).1.size) in
      sym (one_row k (get_or pages (k + 1) []) (get_or rows k None) (record_at base.stored (rid_at 1 k)) (each k lt)
      (stands.each k (omega (arith, lt, long))) found stored fits)

  starts : (ss : List RecordData) → StartFrom 0 ss
  starts [] = tt
  starts (s ∷ ss) = λ p is. omega arith

  stored_is : records_of rows ≡ base.stored
  stored_is =
      let end : given ≡ 0 + length rows = omega (arith, long) in
      let from : AreFrom 0 given base.stored = are_from given 0 base.stored sound.rising (all_more
      (IsSoundIn base.schema.classes base.next) (IsGiven given) base.stored in_cluster sound.each)
      (starts base.stored) in
      same_records 0 rows base.stored at (subst (λ (h : ℕ). AreFrom 0 h base.stored) end from)
      (λ k lt. let zeroth : 0 + k ≡ k = omega arith in ap (λ (m : ℕ). record_at base.stored (rid_at 1 m)) zeroth
      ∙ row_is k lt)

  -- they are the records of the base
  pub read_base : base_with rows ≡ base
  read_base =
      let made : BaseData = record {
        schema = initial_base.schema;
        stored = records_of rows;
        next = length rows ∷ 0 ∷
            [];
        grown = [];
      } in
      let first : made ≡ record {
        schema = base.schema;
        stored = records_of rows;
        next = length rows ∷ 0 ∷ [];
        grown =
            [];
      }
      = ap (λ (s : SchemaData). record {
        schema = s;
        stored = records_of rows;
        next = length rows ∷ 0 ∷ [];
        grown = [];
      }) (sym stands.schema) in
      let second : record { schema = base.schema; stored = records_of rows; next = length rows ∷ 0 ∷ []; grown = [] } ≡
      record { schema = base.schema; stored = base.stored; next = length rows ∷ 0 ∷ []; grown = [] }
      = ap (λ (l : List RecordData). record {
        schema = base.schema;
        stored = l;
        next = length rows ∷ 0 ∷ [];
        grown = [];
      }) stored_is in
      let third : record { schema = base.schema; stored = base.stored; next = length rows ∷ 0 ∷ []; grown = [] } ≡
      record { schema = base.schema; stored = base.stored; next = base.next; grown = [] }
      = ap (λ (ns : List ℕ). record { schema = base.schema; stored = base.stored; next = ns; grown = [] }) (ap (λ
      (n : ℕ). n ∷ 0 ∷ []) long ∙ sym stands.next) in
      let fourth : record { schema = base.schema; stored = base.stored; next = base.next; grown = [] } ≡ base
      = ap (λ (g : List BagNameData). record {
        schema = base.schema;
        stored = base.stored;
        next = base.next;
        grown = g;
      }) (sym stands.grown) in
      first ∙ second ∙ third ∙ fourth
