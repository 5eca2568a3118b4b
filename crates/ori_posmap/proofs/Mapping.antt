-- What the pages of a position map say where they are read.
use Rattle.std.proofs.Common.{◌≡◌, ℕ, ◌*◌, ◌/◌, ◌%◌, ◌^◌, ◌<◌, ◌≤◌, ◌==◌, true, false}
use Rattle.std.proofs.Common.{not, ℤ, pos, negsuc, List, length, drop}
use Rattle.std.proofs.Common.{get_or, None, refl, sym, ap, subst, ◌∙◌, true≢false, arith}
use Rattle.std.proofs.lemmas.List.{get_or-take, get_or-drop, length-take, length-drop}
use Rattle.std.proofs.Common.{◌⊎◌, inl, inr, ◌+◌, ◌-◌, Bool, cond, Some, IsSome}
use Rattle.std.proofs.lemmas.Bool.{cases_eq, and_from, and_parts, eq-eqb, ne_eqb, lt-ltb, le-leb, leb-true}
use Rattle.std.proofs.Math.ListN.{get_or-eq_default}
use Rattle.ori_bytes.specs.declared.limits.TheConstants.{MAP_ENTRIES}
use Rattle.ori_page.specs.declared.fault.PageFault.{PageFault}
use Rattle.ori_page.specs.declared.fault.PageFault.TheVariants.{NoMemory, Device, Busy, Damaged, PagesFull}
use Rattle.ori_page.specs.Pages.{owner_of, kind_of, number_at}
use Rattle.ori_page.specs.Spaces.{page_at}
use Rattle.ori_posmap.specs.declared.place.Entry.{Entry}
use Rattle.ori_posmap.specs.declared.finding.Found.{Found}
use Rattle.ori_posmap.specs.Bytes.{number_place, next_on, map_count_on, map_page, is_directory, is_given, is_live}
use Rattle.ori_posmap.specs.Bytes.{entry_on}
use Rattle.ori_posmap.specs.Reading.{in_range, WhyNotRead}
use Rattle.ori_posmap.specs.Maps.{PositionMap, no_entry, entry_at, place_in, place_at, place_of, EntryFits, part_of}
use Rattle.ori_posmap.specs.Maps.{map_at}
use Rattle.ori_posmap.specs.Maps.{IsPositionMap, has_directory, has_map, IsFound, IsNamed, WhyMap}
use Rattle.ori_posmap.proofs.Spelling.{DirReads, dir_reads, number_read, map_reads, map_kind, EntryReads, entry_reads}

pub dir_is : (pages : List (List ℕ)) (dir : ℕ) (m : PositionMap) → IsPositionMap pages dir m
    → DirReads m.owner (length m.entries) m.current m.maps (page_at pages dir)
dir_is pages dir m i =
    subst (DirReads m.owner (length m.entries) m.current m.maps) (sym i.directory)
    (dir_reads m.owner (length m.entries) m.current m.maps i.owner (omega (arith, i.room, i.few)) i.current
    (omega (arith, i.few)))

in_range_is : (pages : List (List ℕ)) (p : ℕ) → 0 < p → p < length pages → in_range pages p ≡ true
in_range_is pages p above below = and_from _ _ (lt-ltb 0 p above) (lt-ltb p (length pages) below)

pub has_dir : (pages : List (List ℕ)) (dir : ℕ) (m : PositionMap) → IsPositionMap pages dir m
    → has_directory pages dir ≡ true
has_dir pages dir m i =
    let r = dir_is pages dir m i in
    let owned : not (owner_of (page_at pages dir) == 0) ≡ true
    = ap not (ne_eqb (owner_of (page_at pages dir)) 0 (λ e. absurd (omega (arith, e, r.owner_is, i.owned)))) in
    and_from _ _ (in_range_is pages dir i.above i.below)
    (and_from _ _ (and_from _ _ (and_from _ _ owned (eq-eqb _ _ r.kind_is))
    (le-leb _ _ (omega (arith, r.count_is, i.few))))
    (le-leb _ _ (omega (arith, r.count_is, r.next_is, i.room))))

pub map_is : (pages : List (List ℕ)) (dir : ℕ) (m : PositionMap) (k : ℕ) → IsPositionMap pages dir m
    → k < length m.maps → has_map pages m.owner (map_at m k) ≡ true
map_is pages dir m k i low =
    and_from _ _ (in_range_is pages (map_at m k) (i.map_above k low) (i.map_below k low))
    (and_from _ _ (eq-eqb _ _ (ap owner_of (i.maps k low) ∙ map_reads m.owner (part_of k m.entries) i.owner))
    (eq-eqb _ _ (ap kind_of (i.maps k low) ∙ map_kind m.owner (part_of k m.entries))))

pub number_is : (pages : List (List ℕ)) (dir : ℕ) (m : PositionMap) (k : ℕ) → IsPositionMap pages dir m
    → length pages < 2 ^ 32 → k < length m.maps → number_at (number_place k) (page_at pages dir) ≡ map_at m k
number_is pages dir m k i few low =
    ap (number_at (number_place k)) i.directory
    ∙ number_read m.owner (length m.entries) m.current m.maps k low (omega (arith, i.map_below k low))

-- ---- the entry of a position

pub part_get : (entries : List Entry) (q : ℕ) (d : Entry)
    → get_or (part_of (q / MAP_ENTRIES) entries) (q % MAP_ENTRIES) d ≡ get_or entries q d
part_get entries q d =
    get_or-take MAP_ENTRIES (drop (MAP_ENTRIES * (q / MAP_ENTRIES)) entries) (q % MAP_ENTRIES) d (omega arith)
    ∙ get_or-drop (MAP_ENTRIES * (q / MAP_ENTRIES)) entries (q % MAP_ENTRIES) d
    ∙ ap (λ (n : ℕ). get_or entries n d) (omega arith)

pub part_has : (entries : List Entry) (q : ℕ) → q < length entries
    → q % MAP_ENTRIES < length (part_of (q / MAP_ENTRIES) entries)
part_has entries q low =
    omega (
      arith,
      length-take MAP_ENTRIES (drop (MAP_ENTRIES * (q / MAP_ENTRIES)) entries),
      length-drop (MAP_ENTRIES * (q / MAP_ENTRIES)) entries,
    )

pub read_entry : (pages : List (List ℕ)) (dir : ℕ) (m : PositionMap) (q : ℕ) → IsPositionMap pages dir m
    → q < length m.entries
    → EntryReads (entry_at m q) (q % MAP_ENTRIES) (page_at pages (map_at m (q / MAP_ENTRIES)))
read_entry pages dir m q i low =
    let part = part_of (q / MAP_ENTRIES) m.entries in
    let e : get_or part (q % MAP_ENTRIES) no_entry ≡ entry_at m q = part_get m.entries q no_entry in
    let has : q / MAP_ENTRIES < length m.maps = omega (arith, i.room) in
    let r = entry_reads m.owner part (q % MAP_ENTRIES) (part_has m.entries q low)
    (subst EntryFits (sym e) (i.fits q)) in
    let r' : EntryReads (entry_at m q) (q % MAP_ENTRIES) (map_page m.owner part)
    = subst (λ (x : Entry). EntryReads x (q % MAP_ENTRIES) (map_page m.owner part)) e r in
    subst (EntryReads (entry_at m q) (q % MAP_ENTRIES)) (sym (i.maps (q / MAP_ENTRIES) has)) r'

-- ---- how a position is found

pub pos_is : (a b : ℕ) (z : ℤ) → z ≡ pos a → z ≡ pos b → a ≡ b
pos_is a b z p q = cc

pub why_dir : (pages : List (List ℕ)) (dir : ℕ) (fault : PageFault) → WhyNotRead (has_directory pages dir) dir fault
    → WhyMap pages dir fault
why_dir pages dir NoMemory h = tt
why_dir pages dir Device h = tt
why_dir pages dir (Busy turn) h = h
why_dir pages dir (Damaged page) h = (inl h.0, λ m i. true≢false (sym (has_dir pages dir m i) ∙ h.1))
why_dir pages dir PagesFull h = absurd h

pub dir_room : (page : List ℕ) → is_directory page ≡ true → next_on page ≤ MAP_ENTRIES * map_count_on page
dir_room page good = leb-true _ _ (and_parts _ _ good).1

-- the map page of a position that was given is one that the directory names
named_at : (pages : List (List ℕ)) (dir : ℕ) (page : List ℕ) (number at : ℕ) → page ≡ page_at pages dir
    → is_directory page ≡ true → at < next_on page → number ≡ number_at (number_place (at / MAP_ENTRIES)) page
    → IsNamed pages dir number
named_at pages dir page number at is good low n = inr (
  at / MAP_ENTRIES,
  omega (arith, low, dir_room page good, ap map_count_on is),
  n ∙ ap (number_at (number_place (at / MAP_ENTRIES))) is,
)

pub why_map : (pages : List (List ℕ)) (dir : ℕ) (page : List ℕ) (owner number at : ℕ) (fault : PageFault)
    → length pages < 2 ^ 32 → page ≡ page_at pages dir → is_directory page ≡ true → owner ≡ owner_of page
    → at < next_on page → number ≡ number_at (number_place (at / MAP_ENTRIES)) page
    → WhyNotRead (has_map pages owner number) number fault → WhyMap pages dir fault
why_map pages dir page owner number at NoMemory few is good o low n h = tt
why_map pages dir page owner number at Device few is good o low n h = tt
why_map pages dir page owner number at (Busy turn) few is good o low n h = h
why_map pages dir page owner number at (Damaged q) few is good o low n h = (
  subst (IsNamed pages dir) (sym h.0) (named_at pages dir page number at is good low n),
  λ m i.
      let r = dir_is pages dir m i in
      let has : at / MAP_ENTRIES < length m.maps = omega (arith, i.room, low, ap next_on is, r.next_is) in
      let owned : owner ≡ m.owner = o ∙ ap owner_of is ∙ r.owner_is in
      let named : number ≡ map_at m (at / MAP_ENTRIES)
      = n ∙ ap (number_at (number_place (at / MAP_ENTRIES))) is ∙ number_is pages dir m (at / MAP_ENTRIES) i few has in
      true≢false (sym (map_is pages dir m (at / MAP_ENTRIES) i has)
      ∙ ap (λ (x : ℕ). has_map pages x (map_at m (at / MAP_ENTRIES))) (sym owned)
      ∙ ap (has_map pages owner) (sym named) ∙ h.1),
)
why_map pages dir page owner number at PagesFull few is good o low n h = absurd h

pub is_found : (pages : List (List ℕ)) (dir : ℕ) (position : ℤ) (page map : List ℕ) (owner number at : ℕ)
    → length pages < 2 ^ 32 → page ≡ page_at pages dir → is_directory page ≡ true → map ≡ page_at pages number
    → owner ≡ owner_of page → position ≡ pos at → at < next_on page
    → number ≡ number_at (number_place (at / MAP_ENTRIES)) page
    → IsFound pages dir position
    (record { owner = owner; number = number; map = map; index = at % MAP_ENTRIES })
is_found pages dir position page map owner number at few is good map_is o p low n = record {
  at = at;
  given = p;
  page = map_is;
  named = named_at pages dir page number at is good low n;
  entry = λ m i.
      let r = dir_is pages dir m i in
      let has : at / MAP_ENTRIES < length m.maps = omega (arith, i.room, low, ap next_on is, r.next_is) in (
        omega (arith, low, ap next_on is, r.next_is),
        o ∙ ap owner_of is ∙ r.owner_is,
        n ∙ ap (number_at (number_place (at / MAP_ENTRIES))) is
            ∙ number_is pages dir m (at / MAP_ENTRIES) i few has,
        refl,
      );
}

pub is_never : (pages : List (List ℕ)) (dir : ℕ) (position : ℤ) (page : List ℕ) (owner : ℕ)
    → page ≡ page_at pages dir → owner ≡ owner_of page → ((q : ℕ) → position ≡ pos q → next_on page ≤ q)
    → (m : PositionMap) → IsPositionMap pages dir m
    → (owner ≡ m.owner) × ((q : ℕ) → position ≡ pos q → length m.entries ≤ q)
is_never pages dir position page owner is o past m i =
    let r = dir_is pages dir m i in (
      o ∙ ap owner_of is ∙ r.owner_is,
      λ q p. omega (arith, past q p, ap next_on is, r.next_is),
    )

-- ---- what is looked up

pub told_is : (pages : List (List ℕ)) (dir : ℕ) (page : List ℕ) → page ≡ page_at pages dir
    → (m : PositionMap) → IsPositionMap pages dir m → DirReads m.owner (length m.entries) m.current m.maps page
told_is pages dir page is m i =
    subst (DirReads m.owner (length m.entries) m.current m.maps) (sym is) (dir_is pages dir m i)

pub past_end : (m : PositionMap) (q : ℕ) → length m.entries ≤ q → place_at m q ≡ None
past_end m q low = ap place_in (get_or-eq_default m.entries no_entry low)

pub never_place : (m : PositionMap) (position : ℤ) → ((q : ℕ) → position ≡ pos q → length m.entries ≤ q)
    → None ≡ place_of m position
never_place m (pos q) past = sym (past_end m q (past q refl))
never_place m (negsuc n) past = refl

-- what an entry that was found reads as
pub found_reads : (pages : List (List ℕ)) (dir : ℕ) (position : ℤ) (found : Found)
    → (f : IsFound pages dir position found) → (m : PositionMap) → IsPositionMap pages dir m
    → EntryReads (entry_at m f.at) found.index found.map
found_reads pages dir position found f m i =
    let e = f.entry m i in
    let r = read_entry pages dir m f.at i e.0 in
    subst (λ (n : ℕ). EntryReads (entry_at m f.at) n found.map) (sym e.3)
    (subst (EntryReads (entry_at m f.at) (f.at % MAP_ENTRIES)) (sym (f.page ∙ ap (page_at pages) e.2)) r)

pub found_place : (pages : List (List ℕ)) (dir : ℕ) (position : ℤ) (found : Found) (entry : Entry)
    → IsFound pages dir position found → entry ≡ entry_on found.index found.map
    → (m : PositionMap) → IsPositionMap pages dir m → place_in entry ≡ place_of m position
found_place pages dir position found entry f is m i =
    let r = found_reads pages dir position found f m i in
    ap place_in (is ∙ r.entry) ∙ ap (place_of m) (sym f.given)

pub why_entry : (pages : List (List ℕ)) (dir : ℕ) (position : ℤ) (found : Found)
    → IsFound pages dir position found → is_given found.index found.map ≡ false
    → (m : PositionMap) → IsPositionMap pages dir m → ⊥
why_entry pages dir position found f not_given m i =
    true≢false (sym (found_reads pages dir position found f m i).given ∙ not_given)

-- ---- which entries are live

pub not_live_more : (P : ℕ → Type 0) (from i : ℕ) → ((j : ℕ) → from ≤ j → j < i → P j) → P i
    → (j : ℕ) → from ≤ j → j < i + 1 → P j
not_live_more P from i below here j low high = by (cases_eq j i)
  where
    by : (j ≡ i) ⊎ (j ≡ i → ⊥) → P j
    by (inl same) = subst P (sym same) here
    by (inr other) = below j low (omega (arith, other, high))

pub live_reads : (pages : List (List ℕ)) (dir : ℕ) (m : PositionMap) (q : ℕ) → IsPositionMap pages dir m
    → q < length m.entries
    → is_live (q % MAP_ENTRIES) (page_at pages (map_at m (q / MAP_ENTRIES))) ≡ (entry_at m q).live
live_reads pages dir m q i low = ap (λ (e : Entry). e.live) (read_entry pages dir m q i low).entry

place_none : (e : Entry) → e.live ≡ false → place_in e ≡ None
place_none e dead = ap (λ (b : Bool). cond b (Some e.place) None) dead

place_some : (e : Entry) → e.live ≡ true → IsSome (place_in e)
place_some e live = subst (λ (b : Bool). IsSome (cond b (Some e.place) None)) (sym live) refl

-- a page that reads as the k-th map page, and what its entries from low up to high say of the positions there
pub dead_here : (pages : List (List ℕ)) (dir : ℕ) (m : PositionMap) (k : ℕ) (map : List ℕ)
    → IsPositionMap pages dir m → map ≡ page_at pages (map_at m k) → (r : ℕ) → MAP_ENTRIES * k ≤ r
    → r < MAP_ENTRIES * (k + 1) → r < length m.entries → is_live (r - MAP_ENTRIES * k) map ≡ false
    → place_at m r ≡ None
dead_here pages dir m k map i is r low high given dead =
    let k_is : r / MAP_ENTRIES ≡ k = omega (arith, low, high) in
    let i_is : r % MAP_ENTRIES ≡ r - MAP_ENTRIES * k = omega (arith, low, high, k_is) in
    place_none (entry_at m r) (sym (live_reads pages dir m r i given)
    ∙ ap (λ (x : ℕ). is_live (r % MAP_ENTRIES) (page_at pages (map_at m x))) k_is
    ∙ ap (λ (x : ℕ). is_live x (page_at pages (map_at m k))) i_is
    ∙ ap (is_live (r - MAP_ENTRIES * k)) (sym is) ∙ dead)

pub live_here : (pages : List (List ℕ)) (dir : ℕ) (m : PositionMap) (k : ℕ) (map : List ℕ)
    → IsPositionMap pages dir m → map ≡ page_at pages (map_at m k) → (i : ℕ) → i < MAP_ENTRIES
    → MAP_ENTRIES * k + i < length m.entries → is_live i map ≡ true → IsSome (place_at m (MAP_ENTRIES * k + i))
live_here pages dir m k map s is i small given live =
    let r = MAP_ENTRIES * k + i in
    let k_is : r / MAP_ENTRIES ≡ k = omega (arith, small) in
    let i_is : r % MAP_ENTRIES ≡ i = omega (arith, small, k_is) in
    place_some (entry_at m r) (sym (live_reads pages dir m r s given)
    ∙ ap (λ (x : ℕ). is_live (r % MAP_ENTRIES) (page_at pages (map_at m x))) k_is
    ∙ ap (λ (x : ℕ). is_live x (page_at pages (map_at m k))) i_is ∙ ap (is_live i) (sym is) ∙ live)
