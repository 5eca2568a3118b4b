-- What stays of chains and of a list of slots pages where a chunk goes.
use Rattle.std.proofs.Common.{◌≡◌, ◌≢◌, ◌⊎◌, inl, inr, ℕ, zero, suc, ◌+◌, ◌-◌, ◌<◌, ◌≤◌, true, List, [], ◌∷◌, length}
use Rattle.std.proofs.Common.{Some, get_or, refl, sym, ap, subst, ◌∙◌, arith}
use Rattle.std.specs.List.{slice_get, remove}
use Rattle.std.proofs.lemmas.Option.{none-some}
use Rattle.std.proofs.lemmas.Bool.{cases_eq, cases_lt}
use Rattle.std.proofs.lemmas.List.Edits.{length-remove, get_or-remove_below, get_or-remove_above}
use Rattle.ori_page.specs.Spaces.{page_at}
use Rattle.ori_cluster.specs.Slots.{Spot, chunk_at, is_slots, HasChunk, Links, KeepsChunk}
use Rattle.ori_cluster.proofs.Staging.{KeepsSpot, KeepsAll}

-- each chunk of a chain stands there
pub links_has : (pages : List (List ℕ)) (owner : ℕ) (chain : List Spot) (p s : ℕ) (bytes : List ℕ) (i : ℕ) (spot : Spot)
    → Links pages owner chain p s bytes → slice_get chain i ≡ Some spot → HasChunk pages owner spot
links_has pages owner [] p s bytes i spot h at = absurd (none-some spot at)
links_has pages owner (x ∷ rest) p s bytes zero spot h at =
    let same : x ≡ spot = cc in subst (HasChunk pages owner) same h.2
links_has pages owner (x ∷ rest) p s bytes (suc i) spot h at =
    let l = h.3 in
    links_has pages owner rest (chunk_at pages x).page (chunk_at pages x).slot l.0 i spot l.2 at

-- a chain is kept where each of its chunks is
pub keeps_each : (owner : ℕ) (chain : List Spot) (old new : List (List ℕ))
    → ((i : ℕ) (spot : Spot) → slice_get chain i ≡ Some spot → KeepsSpot owner spot old new)
    → KeepsAll owner chain old new
keeps_each owner [] old new each = tt
keeps_each owner (x ∷ rest) old new each =
    (each 0 x refl, keeps_each owner rest old new (λ i spot at. each (suc i) spot at))

-- a page that stays keeps its chunks
pub same_spot : (owner : ℕ) (spot : Spot) (old new : List (List ℕ)) → is_slots owner (page_at old spot.page) ≡ true
    → page_at new spot.page ≡ page_at old spot.page → KeepsSpot owner spot old new
same_spot owner spot old new is same = record {
  page = ap (is_slots owner) same ∙ is;
  chunk = subst (KeepsChunk spot.slot (page_at old spot.page)) (sym same)
      (record { has = refl; says = λ h. refl });
}

pub spot_is : (a b : Spot) → a.page ≡ b.page → a.slot ≡ b.slot → a ≡ b
spot_is a b p s =
    ap (λ (x : ℕ). spot x a.slot) p ∙ ap (λ (x : ℕ). spot b.page x) s
  where
    spot : ℕ → ℕ → Spot
    spot page slot = record { page = page; slot = slot }

-- ---- a list without one of its numbers

abbrev pub IsAmong : List ℕ → ℕ → Type 0
IsAmong xs p = (k : ℕ) × (k < length xs) × (p ≡ get_or xs k 0)

abbrev pub AreDistinct : List ℕ → Type 0
AreDistinct xs = (j k : ℕ) → j < k → k < length xs → get_or xs j 0 ≢ get_or xs k 0

-- where a number of the list without its n-th stands in the list
record Stood (xs : List ℕ) (n k : ℕ) : Type 0 where
  at : ℕ
  below : at < length xs
  other : at ≢ n
  is : get_or (remove xs n) k 0 ≡ get_or xs at 0
  least : k ≤ at
  most : at ≤ k + 1
  low : k < n → at ≡ k
  high : n ≤ k → at ≡ k + 1

stood : (xs : List ℕ) (n k : ℕ) → n < length xs → k < length (remove xs n) → (k < n) ⊎ (n ≤ k) → Stood xs n k
stood xs n k has under (inl below) = record {
  at = k;
  below = omega (arith, below, has);
  other = omega (arith, below);
  is = get_or-remove_below xs n 0 k below has;
  least = omega arith;
  most = omega arith;
  low = λ x. refl;
  high = λ x. omega (arith, x, below);
}
stood xs n k has under (inr above) = record {
  at = k + 1;
  below = omega (arith, under, length-remove xs n has);
  other = omega (arith, above);
  is = get_or-remove_above xs n 0 k above has;
  least = omega arith;
  most = omega arith;
  low = λ x. omega (arith, x, above);
  high = λ x. refl;
}

differ : (xs : List ℕ) (j k : ℕ) → AreDistinct xs → j < length xs → k < length xs → j ≢ k
    → get_or xs j 0 ≢ get_or xs k 0
differ xs j k d jlow klow other = by (cases_lt j k)
  where
    by : (j < k) ⊎ (k ≤ j) → get_or xs j 0 ≢ get_or xs k 0
    by (inl low) = d j k low klow
    by (inr high) = λ e. d k j (omega (arith, high, other)) jlow (sym e)

pub removed_among : (xs : List ℕ) (n p : ℕ) → AreDistinct xs → n < length xs → IsAmong (remove xs n) p
    → IsAmong xs p × (p ≢ get_or xs n 0)
removed_among xs n p d has (k, under, is) =
    let x = stood xs n k has under (cases_lt k n) in (
      (x.at, x.below, is ∙ x.is),
      λ e. differ xs x.at n d x.below has x.other (sym (is ∙ x.is) ∙ e),
    )

pub still_among : (xs : List ℕ) (n p : ℕ) → n < length xs → IsAmong xs p → p ≢ get_or xs n 0 → IsAmong (remove xs n) p
still_among xs n p has (k, low, is) other = by (cases_lt k n)
  where
    by : (k < n) ⊎ (n ≤ k) → IsAmong (remove xs n) p
    by (inl below) =
        (k, omega (arith, below, has, length-remove xs n has), is ∙ sym (get_or-remove_below xs n 0 k below has))
    by (inr above) = past (cases_eq k n)
      where
        past : (k ≡ n) ⊎ (k ≡ n → ⊥) → IsAmong (remove xs n) p
        past (inl e) = absurd (other (is ∙ ap (λ (x : ℕ). get_or xs x 0) e))
        past (inr aside) =
            let up : k ≡ k - 1 + 1 = omega (arith, above, aside) in (
              k - 1,
              omega (arith, low, above, aside, length-remove xs n has),
              is ∙ ap (λ (x : ℕ). get_or xs x 0) up
                  ∙ sym (get_or-remove_above xs n 0 (k - 1) (omega (arith, above, aside)) has),
            )

pub removed_distinct : (xs : List ℕ) (n : ℕ) → AreDistinct xs → n < length xs → AreDistinct (remove xs n)
removed_distinct xs n d has j k less under =
    let x = stood xs n j has (omega (arith, less, under)) (cases_lt j n) in
    let y = stood xs n k has under (cases_lt k n) in
    λ e. d x.at y.at (rising (cases_lt j n) (cases_lt k n) x.low x.high y.low y.high) y.below (sym x.is ∙ e ∙ y.is)
  where
    rising : {a b : ℕ} → (j < n) ⊎ (n ≤ j) → (k < n) ⊎ (n ≤ k) → (j < n → a ≡ j) → (n ≤ j → a ≡ j + 1)
        → (k < n → b ≡ k) → (n ≤ k → b ≡ k + 1) → a < b
    rising (inl p) (inl q) jl jh kl kh = omega (arith, jl p, kl q, less)
    rising (inl p) (inr q) jl jh kl kh = omega (arith, jl p, kh q, less)
    rising (inr p) (inl q) jl jh kl kh = absurd (omega (arith, p, q, less))
    rising (inr p) (inr q) jl jh kl kh = omega (arith, jh p, kh q, less)
