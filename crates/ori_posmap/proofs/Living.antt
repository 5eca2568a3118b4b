-- Which positions of a map page are live.
use Rattle.std.proofs.Common.{◌≡◌, ◌⊎◌, inl, inr, ℕ, ◌+◌, ◌-◌, ◌*◌, ◌^◌, ◌<◌, ◌≤◌, max, min, true, false}
use Rattle.std.proofs.Common.{List, length, Option, Some, None, sym, ap, subst, ◌∙◌, true≢false, arith}
use Rattle.std.proofs.lemmas.Bool.{cases_lt, and_parts, leb-true}
use Rattle.ori_bytes.specs.declared.limits.TheConstants.{MAP_ENTRIES, MAX_MAP_PAGES}
use Rattle.ori_page.specs.declared.fault.PageFault.{PageFault}
use Rattle.ori_page.specs.declared.fault.PageFault.TheVariants.{NoMemory, Device, Busy, Damaged, PagesFull}
use Rattle.ori_page.specs.Pages.{owner_of, number_at}
use Rattle.ori_page.specs.Spaces.{page_at}
use Rattle.ori_posmap.specs.Bytes.{number_place, is_live, is_directory, map_count_on}
use Rattle.ori_posmap.specs.Reading.{WhyNotRead}
use Rattle.ori_posmap.specs.Maps.{PositionMap, place_at, map_at, IsPositionMap, has_map, IsLiveIn, WhyLiveIn, WhyMap}
use Rattle.ori_posmap.specs.Maps.{NoneLive, IsFirstLive}
use Rattle.ori_posmap.proofs.Mapping.{dir_is, map_is, number_is, past_end, dead_here, live_here}

-- none of the entries that were asked is live, and the positions behind them were never given
pub dead_in : (pages : List (List ℕ)) (dir : ℕ) (m : PositionMap) (k : ℕ) (map : List ℕ) (from next low high : ℕ)
    → IsPositionMap pages dir m → next ≡ length m.entries → map ≡ page_at pages (map_at m k)
    → low ≡ max from (MAP_ENTRIES * k) - MAP_ENTRIES * k → high ≡ min next (MAP_ENTRIES * k + MAP_ENTRIES)
    → ((j : ℕ) → low ≤ j → j < high - MAP_ENTRIES * k → is_live j map ≡ false)
    → (r : ℕ) → from ≤ r → MAP_ENTRIES * k ≤ r → r < MAP_ENTRIES * (k + 1) → place_at m r ≡ None
dead_in pages dir m k map from next low high i n is l h dead r above start end = by (cases_lt r (length m.entries))
  where
    by : (r < length m.entries) ⊎ (length m.entries ≤ r) → place_at m r ≡ None
    by (inr past) = past_end m r past
    by (inl given) = dead_here pages dir m k map i is r start end given
        (dead (r - MAP_ENTRIES * k) (omega (arith, l, above, start)) (omega (arith, h, n, given, start, end)))

pub none_in : (m : PositionMap) (k from next low high : ℕ) → next ≡ length m.entries
    → low ≡ max from (MAP_ENTRIES * k) - MAP_ENTRIES * k → high ≡ min next (MAP_ENTRIES * k + MAP_ENTRIES)
    → high ≤ MAP_ENTRIES * k + low
    → (r : ℕ) → from ≤ r → MAP_ENTRIES * k ≤ r → r < MAP_ENTRIES * (k + 1) → place_at m r ≡ None
none_in m k from next low high n l h short r above start end =
    past_end m r (omega (arith, n, l, h, short, above, start, end))

pub found_in : (pages : List (List ℕ)) (dir : ℕ) (m : PositionMap) (k : ℕ) (map : List ℕ) (from next low high i : ℕ)
    → IsPositionMap pages dir m → next ≡ length m.entries → map ≡ page_at pages (map_at m k)
    → low ≡ max from (MAP_ENTRIES * k) - MAP_ENTRIES * k → high ≡ min next (MAP_ENTRIES * k + MAP_ENTRIES)
    → low ≤ i → i < high - MAP_ENTRIES * k → is_live i map ≡ true
    → ((j : ℕ) → low ≤ j → j < i → is_live j map ≡ false) → IsLiveIn m k from (Some (MAP_ENTRIES * k + i))
found_in pages dir m k map from next low high i s n is l h above below live dead = (
  omega (arith, below, h),
  omega (arith, above, l),
  live_here pages dir m k map s is i (omega (arith, below, h)) (omega (arith, below, h, n)) live,
  λ r on start before. dead_here pages dir m k map s is r start (omega (arith, before, below, h))
      (omega (arith, before, below, h, n))
      (dead (r - MAP_ENTRIES * k) (omega (arith, l, on, start)) (omega (arith, before, start))),
)

-- the page that was read is the k-th map page
pub named_map : (pages : List (List ℕ)) (dir : ℕ) (m : PositionMap) (k : ℕ) (page : List ℕ) (number : ℕ)
    → length pages < 2 ^ 32 → page ≡ page_at pages dir → number ≡ number_at (number_place k) page
    → IsPositionMap pages dir m → k < length m.maps → number ≡ map_at m k
named_map pages dir m k page number few is n i low =
    n ∙ ap (number_at (number_place k)) is ∙ number_is pages dir m k i few low

pub why_in : (pages : List (List ℕ)) (dir : ℕ) (page : List ℕ) (owner number k : ℕ) (fault : PageFault)
    → length pages < 2 ^ 32 → page ≡ page_at pages dir → owner ≡ owner_of page
    → number ≡ number_at (number_place k) page → WhyNotRead (has_map pages owner number) number fault
    → WhyLiveIn pages dir k fault
why_in pages dir page owner number k NoMemory few is o n h = tt
why_in pages dir page owner number k Device few is o n h = tt
why_in pages dir page owner number k (Busy turn) few is o n h = h
why_in pages dir page owner number k (Damaged q) few is o n h = (
  h.0 ∙ n ∙ ap (number_at (number_place k)) is,
  λ m i low.
      let r = dir_is pages dir m i in
      let owned : owner ≡ m.owner = o ∙ ap owner_of is ∙ r.owner_is in
      let named = named_map pages dir m k page number few is n i low in
      true≢false (sym (map_is pages dir m k i low) ∙ ap (λ (x : ℕ). has_map pages x (map_at m k)) (sym owned)
      ∙ ap (has_map pages owner) (sym named) ∙ h.1),
)
why_in pages dir page owner number k PagesFull few is o n h = absurd h

-- ---- all map pages

pub few_maps : (page : List ℕ) → is_directory page ≡ true → map_count_on page ≤ MAX_MAP_PAGES
few_maps page good = leb-true _ _ (and_parts _ _ (and_parts _ _ good).0).1

pub why_scan : (pages : List (List ℕ)) (dir : ℕ) (page : List ℕ) (k : ℕ) (fault : PageFault) → page ≡ page_at pages dir
    → k < map_count_on page → WhyLiveIn pages dir k fault → WhyMap pages dir fault
why_scan pages dir page k NoMemory is low h = tt
why_scan pages dir page k Device is low h = tt
why_scan pages dir page k (Busy turn) is low h = h
why_scan pages dir page k (Damaged q) is low h = (
  inr (k, omega (arith, low, ap map_count_on is), h.0),
  λ m i. let r = dir_is pages dir m i in h.1 m i (omega (arith, low, ap map_count_on is, r.count_is)),
)
why_scan pages dir page k PagesFull is low h = absurd h

pub has_k : (pages : List (List ℕ)) (dir : ℕ) (m : PositionMap) (page : List ℕ) (k : ℕ) → page ≡ page_at pages dir
    → k < map_count_on page → IsPositionMap pages dir m → k < length m.maps
has_k pages dir m page k is low i =
    let r = dir_is pages dir m i in omega (arith, low, ap map_count_on is, r.count_is)

pub first_live : (m : PositionMap) (k from : ℕ) (found : Option ℕ) (at : ℕ) → found ≡ Some at
    → NoneLive m from (MAP_ENTRIES * k) → IsLiveIn m k from found → IsFirstLive m from at
first_live m k from found at is none live =
    let h : IsLiveIn m k from (Some at) = subst (IsLiveIn m k from) is live in
    record {
      from_on = h.1;
      live = h.2;
      first = λ r low high. first m k from at none h.3 r low high (cases_lt r (MAP_ENTRIES * k));
    }
  where
    first : (m : PositionMap) (k from at : ℕ) → NoneLive m from (MAP_ENTRIES * k)
        → ((r : ℕ) → from ≤ r → MAP_ENTRIES * k ≤ r → r < at → place_at m r ≡ None) → (r : ℕ) → from ≤ r → r < at
        → (r < MAP_ENTRIES * k) ⊎ (MAP_ENTRIES * k ≤ r) → place_at m r ≡ None
    first m k from at none here r low high (inl before) = none r low before
    first m k from at none here r low high (inr start) = here r low start high

pub none_more : (m : PositionMap) (k from : ℕ) (found : Option ℕ) → found ≡ None
    → NoneLive m from (MAP_ENTRIES * k) → IsLiveIn m k from found → NoneLive m from (MAP_ENTRIES * (k + 1))
none_more m k from found is none live r low high = by (cases_lt r (MAP_ENTRIES * k))
  where
    by : (r < MAP_ENTRIES * k) ⊎ (MAP_ENTRIES * k ≤ r) → place_at m r ≡ None
    by (inl before) = none r low before
    by (inr start) = let h : IsLiveIn m k from None = subst (IsLiveIn m k from) is live in h r low start high

pub none_at_all : (pages : List (List ℕ)) (dir : ℕ) (m : PositionMap) (page : List ℕ) (k from : ℕ)
    → page ≡ page_at pages dir → map_count_on page ≤ k → IsPositionMap pages dir m
    → NoneLive m from (MAP_ENTRIES * k) → (r : ℕ) → from ≤ r → place_at m r ≡ None
none_at_all pages dir m page k from is past i none r low = by (cases_lt r (MAP_ENTRIES * k))
  where
    by : (r < MAP_ENTRIES * k) ⊎ (MAP_ENTRIES * k ≤ r) → place_at m r ≡ None
    by (inl before) = none r low before
    by (inr behind) =
        let d = dir_is pages dir m i in
        past_end m r (omega (arith, behind, past, ap map_count_on is, d.count_is, i.room))
