-- What the calls of a position map answer, from what their steps did.
use Rattle.std.proofs.Common.{◌≡◌, ◌≢◌, inl, inr, refl, [], ℕ, ◌+◌, ◌*◌, ◌/◌, ◌%◌, ◌^◌, ◌<◌, ◌≤◌, ℤ, pos}
use Rattle.std.specs.Result.{IsErrAnd}
use Rattle.std.proofs.Common.{List, length, set}
use Rattle.std.proofs.Common.{Result, Ok, Err, Option, Some, IsSome, true, false, sym, ap, subst, ◌∙◌}
use Rattle.std.proofs.Common.{true≢false, arith}
use Rattle.std.specs.Int.{w32, w64, to_be_bytes}
use Rattle.std.proofs.lemmas.Bool.{and_from, and_parts, eq-eqb, eqb-true, lt-ltb}
use Rattle.std.proofs.lemmas.List.{length-set, get_or-set_other}
use Rattle.ori_bytes.specs.declared.limits.TheConstants.{MAP_ENTRIES, MAX_MAP_PAGES, MAP_KIND}
use Rattle.ori_bytes.specs.declared.limits.TheConstants.{MAX_POSITIONS, PAGE_BYTES, DIRECTORY_KIND}
use Rattle.ori_page.specs.declared.fault.PageFault.{PageFault}
use Rattle.ori_page.specs.declared.fault.PageFault.TheVariants.{NoMemory, Device, Busy, Damaged, PagesFull}
use Rattle.ori_page.specs.Pages.{owner_of, kind_of, number_at}
use Rattle.ori_page.specs.Spaces.{page_at, IsTaken}
use Rattle.ori_page.specs.Faults.{WhyRefused, IsOutside, MayNotTake}
use Rattle.ori_page.proofs.Listing.{full_in_use}
use Rattle.ori_posmap.specs.declared.place.Place.{Place}
use Rattle.ori_posmap.specs.declared.place.Entry.{Entry}
use Rattle.ori_posmap.specs.declared.finding.Found.{Found}
use Rattle.ori_posmap.specs.Bytes.{number_place, entry_place, entry_bytes, patched, next_on, map_count_on}
use Rattle.ori_posmap.specs.Bytes.{map_page, is_directory, next_map_on}
use Rattle.ori_posmap.specs.Reading.{WhyNotRead}
use Rattle.ori_posmap.specs.Maps.{PositionMap, place_of, map_at, EntryFits, entry_for, IsPositionMap, has_directory}
use Rattle.ori_posmap.specs.Maps.{has_map, IsFound, IsSet, IsGrown, IsAppended, HasRoom, WhyTaken}
use Rattle.ori_posmap.specs.Maps.{WhyMap, WhySet, WhyGrown, WhyAppended, TellsNoRoom, IsNamed, HasNext, HasNoNext}
use Rattle.ori_posmap.proofs.Mapping.{dir_is, dir_room, has_dir, map_is, number_is, pos_is, never_place}
use Rattle.ori_posmap.proofs.Owners.{patched_length, patched_read, patched_next}
use Rattle.ori_posmap.proofs.Spelling.{map_reads, map_kind}
use Rattle.ori_posmap.proofs.Effects.{set_is, blank_map, grown_is, has_grown, appended}

abbrev pub number_at' : ℕ → List ℕ → ℕ
number_at' k page = number_at (number_place k) page

pub why_taken : (pages : List (List ℕ)) (fault : PageFault) → MayNotTake fault → WhyRefused pages fault
    → WhyTaken 1 pages fault
why_taken pages NoMemory may h = tt
why_taken pages Device may h = tt
why_taken pages (Busy turn) may h = may
why_taken pages (Damaged page) may h = h
why_taken pages PagesFull may h = λ l. omega (arith, full_in_use pages h l)

pub why_grown : (pages : List (List ℕ)) (dir : ℕ) (fault : PageFault) → WhyTaken 1 pages fault
    → WhyGrown pages dir fault
why_grown pages dir NoMemory h = tt
why_grown pages dir Device h = tt
why_grown pages dir (Busy turn) h = h
why_grown pages dir (Damaged page) h = inr h
why_grown pages dir PagesFull h = h

pub why_dir_grown : (pages : List (List ℕ)) (dir : ℕ) (fault : PageFault)
    → WhyNotRead (has_directory pages dir) dir fault → WhyGrown pages dir fault
why_dir_grown pages dir NoMemory h = tt
why_dir_grown pages dir Device h = tt
why_dir_grown pages dir (Busy turn) h = h
why_dir_grown pages dir (Damaged page) h =
    inl (inl h.0, λ m i. true≢false (sym (has_dir pages dir m i) ∙ h.1))
why_dir_grown pages dir PagesFull h = absurd h

-- ---- set

pub why_set : (pages : List (List ℕ)) (dir : ℕ) (position : ℤ) (fault : PageFault) → WhyMap pages dir fault
    → WhySet pages dir position fault
why_set pages dir position NoMemory h = tt
why_set pages dir position Device h = tt
why_set pages dir position (Busy turn) h = h
why_set pages dir position (Damaged page) h = (h.0, λ m i live. h.1 m i)
why_set pages dir position PagesFull h = absurd h

pub not_live : (m : PositionMap) (position : ℤ) → ((q : ℕ) → position ≡ pos q → length m.entries ≤ q)
    → IsSome (place_of m position) → ⊥
not_live m position past live =
    let e : false ≡ true = subst IsSome (sym (never_place m position past)) live in true≢false (sym e)

pub set_found : (pages : List (List ℕ)) (dir : ℕ) (position : ℤ) (found : Found) (place : Option Place) (entry : Entry)
    (content : List ℕ) → IsFound pages dir position found → entry ≡ entry_for place → EntryFits entry
    → content ≡ patched (entry_place found.index) (entry_bytes entry) found.map
    → (m : PositionMap) → IsPositionMap pages dir m → (q : ℕ) → position ≡ pos q
    → IsSet dir m q place pages (set pages found.number content)
set_found pages dir position found place entry content f is fits made m i q at =
    let e = f.entry m i in
    let same : f.at ≡ q = pos_is f.at q position f.given at in
    let low : q < length m.entries = subst (λ (x : ℕ). x < length m.entries) same e.0 in
    let n : found.number ≡ map_at m (q / MAP_ENTRIES) = e.2 ∙ ap (λ (x : ℕ). map_at m (x / MAP_ENTRIES)) same in
    let k : found.index ≡ q % MAP_ENTRIES = e.3 ∙ ap (λ (x : ℕ). x % MAP_ENTRIES) same in
    let content_is : content ≡ patched (entry_place (q % MAP_ENTRIES)) (entry_bytes (entry_for place))
    (page_at pages (map_at m (q / MAP_ENTRIES)))
    = made ∙ ap (λ (x : ℕ). patched (entry_place x) (entry_bytes entry) found.map) k
    ∙ ap (λ (x : Entry). patched (entry_place (q % MAP_ENTRIES)) (entry_bytes x) found.map) is
    ∙ ap (patched (entry_place (q % MAP_ENTRIES)) (entry_bytes (entry_for place)))
    (f.page ∙ ap (page_at pages) n) in
    subst (λ (x : List (List ℕ)). IsSet dir m q place pages x)
    (sym (ap (λ (x : ℕ). set pages x content) n ∙ ap (set pages (map_at m (q / MAP_ENTRIES))) content_is))
    (set_is pages dir m q place i low (subst EntryFits is fits))

-- ---- push

pub grown_for : (pages mid : List (List ℕ)) (dir n owner count : ℕ) (page content : List ℕ)
    → IsTaken owner MAP_KIND n pages mid → page ≡ page_at pages dir → owner ≡ owner_of page
    → count ≡ map_count_on page → count < MAX_MAP_PAGES
    → content ≡ patched (number_place count) (to_be_bytes w32 n) (patched 20 (to_be_bytes w32 (count + 1)) page)
    → (m : PositionMap) → IsPositionMap pages dir m → IsGrown dir m pages (set mid dir content)
grown_for pages mid dir n owner count page content t is o c room made m i =
    let r = dir_is pages dir m i in
    let owned : owner ≡ m.owner = o ∙ ap owner_of is ∙ r.owner_is in
    let counted : count ≡ length m.maps = c ∙ ap map_count_on is ∙ r.count_is in
    let t' : IsTaken m.owner MAP_KIND n pages mid = subst (λ (x : ℕ). IsTaken x MAP_KIND n pages mid) owned t in
    let content_is = made ∙ ap (λ (x : ℕ). patched (number_place x) (to_be_bytes w32 n)
    (patched 20 (to_be_bytes w32 (x + 1)) page)) counted in
    subst (λ (x : List ℕ). IsGrown dir m pages (set mid dir x)) (sym content_is)
    (grown_is pages mid dir m n page i t' is (omega (arith, room, counted)))

dir_kind_is : (page : List ℕ) → is_directory page ≡ true → kind_of page ≡ DIRECTORY_KIND
dir_kind_is page good =
    eqb-true (kind_of page) DIRECTORY_KIND (and_parts _ _ (and_parts _ _ (and_parts _ _ good).0).0).1

-- a map page that was taken has the next position
pub taken_next : (pages mid : List (List ℕ)) (dir n owner count : ℕ) (page content : List ℕ) → dir < length pages
    → n < 2 ^ 32 → owner < 2 ^ 32 → IsTaken owner MAP_KIND n pages mid → page ≡ page_at pages dir
    → length page ≡ PAGE_BYTES → is_directory page ≡ true → MAP_ENTRIES * map_count_on page ≤ next_on page
    → owner ≡ owner_of page → owner_of content ≡ owner_of page → count ≡ map_count_on page → count < MAX_MAP_PAGES
    → content ≡ patched (number_place count) (to_be_bytes w32 n) (patched 20 (to_be_bytes w32 (count + 1)) page)
    → HasNext pages content (set mid dir content)
taken_next pages mid dir n owner count page content below nfits ofits t is long good full o oc c room made =
    let bytes = to_be_bytes w32 (count + 1) in
    let first = patched 20 bytes page in
    let four : length bytes ≡ 4 = refl in
    let flong : length first ≡ PAGE_BYTES = patched_length 20 bytes page (omega (arith, long, four)) ∙ long in
    let next_is : next_on content ≡ MAP_ENTRIES * count
    = ap next_on made
    ∙ patched_next (number_place count) (to_be_bytes w32 n) first (omega arith) (omega (arith, flong, room))
    ∙ patched_next 20 bytes page (omega arith) (omega (arith, long)) ∙ omega (arith, full, dir_room page good, c) in
    let at : next_on content / MAP_ENTRIES ≡ count = omega (arith, next_is) in
    let number : next_map_on content ≡ n
    = ap (λ (x : ℕ). number_at (number_place x) content) at
    ∙ ap (number_at (number_place count)) made
    ∙ patched_read (number_place count) n first (omega (arith, flong, room)) nfits in
    let kind : kind_of (page_at pages dir) ≡ DIRECTORY_KIND
    = ap kind_of (sym is) ∙ dir_kind_is page good in
    let aside : n ≢ dir = λ e. absurd (omega (
      arith,
      kind,
      ap (λ (x : ℕ). kind_of (page_at pages x)) e,
      t.was_free (subst (λ (x : ℕ). x < length pages) (sym e) below),
    )) in
    let after = set mid dir content in
    let fresh : page_at after n ≡ map_page owner []
    = get_or-set_other mid dir n content [] aside ∙ t.page ∙ blank_map owner in
    let has : has_map after owner n ≡ true
    = and_from _ _ (and_from _ _ (lt-ltb 0 n t.above)
    (lt-ltb n (length after) (omega (arith, t.count, length-set mid dir content))))
    (and_from _ _ (eq-eqb _ _ (ap owner_of fresh ∙ map_reads owner [] ofits))
    (eq-eqb _ _ (ap kind_of fresh ∙ map_kind owner []))) in
    inr (
      omega (arith, next_is, room),
      ap (has_map after (owner_of content)) number
          ∙ ap (λ (x : ℕ). has_map after x n) (oc ∙ sym o) ∙ has,
    )

pub room_is : (pages : List (List ℕ)) (dir : ℕ) (page : List ℕ) → page ≡ page_at pages dir
    → next_on page < MAP_ENTRIES * map_count_on page → (m : PositionMap) → IsPositionMap pages dir m
    → IsGrown dir m pages pages
room_is pages dir page is room m i =
    let r = dir_is pages dir m i in
    has_grown pages dir m i
    (omega (arith, room, ap next_on is, ap map_count_on is, r.next_is, r.count_is))

pub full_is : (pages : List (List ℕ)) (dir : ℕ) (page : List ℕ) → page ≡ page_at pages dir
    → MAP_ENTRIES * map_count_on page ≤ next_on page → map_count_on page ≡ MAX_MAP_PAGES
    → (m : PositionMap) → IsPositionMap pages dir m → length m.entries ≡ MAX_POSITIONS
full_is pages dir page is full all m i =
    let r = dir_is pages dir m i in
    omega (arith, full, all, ap next_on is, ap map_count_on is, r.next_is, r.count_is, i.room)

-- a full map has no room, and no map page less than there may be
pub full_has : (pages : List (List ℕ)) (dir : ℕ) (page : List ℕ) (m : PositionMap) → page ≡ page_at pages dir
    → IsPositionMap pages dir m → length m.entries ≡ MAX_POSITIONS
    → (MAP_ENTRIES * map_count_on page ≤ next_on page) × (map_count_on page ≡ MAX_MAP_PAGES)
full_has pages dir page m is i full =
    let r = dir_is pages dir m i in (
      omega (arith, full, ap next_on is, ap map_count_on is, r.next_is, r.count_is, i.few),
      omega (arith, full, ap map_count_on is, r.count_is, i.few, i.room),
    )

-- a map's directory page is read, but for a cause outside
pub dir_outside : (pages : List (List ℕ)) (dir : ℕ) (m : PositionMap) (fault : PageFault) → IsPositionMap pages dir m
    → WhyNotRead (has_directory pages dir) dir fault → IsOutside fault
dir_outside pages dir m NoMemory i h = tt
dir_outside pages dir m Device i h = tt
dir_outside pages dir m (Busy turn) i h = h
dir_outside pages dir m (Damaged page) i h = true≢false (sym (has_dir pages dir m i) ∙ h.1)
dir_outside pages dir m PagesFull i h = h

pub tells_on : (r : Result (Option (List ℕ)) PageFault) (e : PageFault) → IsErrAnd r (λ y. y ≡ e) → IsOutside e
    → TellsNoRoom r
tells_on (Ok x) e h out = absurd h
tells_on (Err y) e h out = subst IsOutside (sym h) out

pub past_all : (pages : List (List ℕ)) (dir : ℕ) (page : List ℕ) → page ≡ page_at pages dir
    → MAX_POSITIONS ≤ next_on page → (m : PositionMap) → IsPositionMap pages dir m
    → length m.entries < MAP_ENTRIES * length m.maps → ⊥
past_all pages dir page is past m i room =
    let r = dir_is pages dir m i in
    absurd (omega (arith, past, ap next_on is, r.next_is, i.few, room))

pub why_append : (pages : List (List ℕ)) (dir : ℕ) (page : List ℕ) (owner number next : ℕ) (fault : PageFault)
    → length pages < 2 ^ 32 → page ≡ page_at pages dir → owner ≡ owner_of page → next ≡ next_on page
    → number ≡ number_at' (next / MAP_ENTRIES) page
    → WhyNotRead (has_map pages owner number) number fault → WhyAppended pages dir fault
why_append pages dir page owner number next NoMemory few is o x n h = tt
why_append pages dir page owner number next Device few is o x n h = tt
why_append pages dir page owner number next (Busy turn) few is o x n h = h
why_append pages dir page owner number next (Damaged q) few is o x n h =
    let content = page_at pages dir in
    let number_is' : number ≡ next_map_on content
    = n ∙ ap (λ (y : ℕ). number_at' (y / MAP_ENTRIES) page) x ∙ ap next_map_on is in (
      inr (
        h.0 ∙ number_is',
        ap (λ (y : ℕ). has_map pages y (next_map_on content)) (sym (o ∙ ap owner_of is))
            ∙ ap (has_map pages owner) (sym number_is') ∙ h.1,
      ),
      λ m i room.
          let r = dir_is pages dir m i in
          let next_is : next ≡ length m.entries = x ∙ ap next_on is ∙ r.next_is in
          let has : next / MAP_ENTRIES < length m.maps = omega (arith, room, next_is) in
          let owned : owner ≡ m.owner = o ∙ ap owner_of is ∙ r.owner_is in
          let named : number ≡ map_at m (next / MAP_ENTRIES)
          = n ∙ ap (number_at' (next / MAP_ENTRIES)) is ∙ number_is pages dir m (next / MAP_ENTRIES) i few has in
          true≢false (sym (map_is pages dir m (next / MAP_ENTRIES) i has)
          ∙ ap (λ (y : ℕ). has_map pages y (map_at m (next / MAP_ENTRIES))) (sym owned)
          ∙ ap (has_map pages owner) (sym named) ∙ h.1),
    )
why_append pages dir page owner number next PagesFull few is o x n h = absurd h

pub appended_for : (pages : List (List ℕ)) (dir : ℕ) (page map content other : List ℕ) (number next : ℕ)
    (place : Place) (entry : Entry) → length pages < 2 ^ 32 → page ≡ page_at pages dir → map ≡ page_at pages number
    → next ≡ next_on page → number ≡ number_at' (next / MAP_ENTRIES) page → entry ≡ entry_for (Some place)
    → EntryFits entry → content ≡ patched (entry_place (next % MAP_ENTRIES)) (entry_bytes entry) map
    → other ≡ patched 8 (to_be_bytes w64 (next + 1)) page
    → (m : PositionMap) → IsPositionMap pages dir m → length m.entries < MAP_ENTRIES * length m.maps
    → (next ≡ length m.entries) × IsAppended dir m place pages (set (set pages number content) dir other)
appended_for pages dir page map content other number next place entry few is map_is x n e fits made made' m i room =
    let r = dir_is pages dir m i in
    let next_is : next ≡ length m.entries = x ∙ ap next_on is ∙ r.next_is in
    let l = length m.entries in
    let has : l / MAP_ENTRIES < length m.maps = omega (arith, room) in
    let named : number ≡ map_at m (l / MAP_ENTRIES)
    = n ∙ ap (λ (y : ℕ). number_at' (y / MAP_ENTRIES) page) next_is ∙ ap (number_at' (l / MAP_ENTRIES)) is
    ∙ number_is pages dir m (l / MAP_ENTRIES) i few has in
    let content_is : content ≡ patched (entry_place (l % MAP_ENTRIES)) (entry_bytes (entry_for (Some place))) map
    = made ∙ ap (λ (y : ℕ). patched (entry_place (y % MAP_ENTRIES)) (entry_bytes entry) map) next_is
    ∙ ap (λ (y : Entry). patched (entry_place (l % MAP_ENTRIES)) (entry_bytes y) map) e in
    let other_is : other ≡ patched 8 (to_be_bytes w64 (l + 1)) page
    = made' ∙ ap (λ (y : ℕ). patched 8 (to_be_bytes w64 (y + 1)) page) next_is in
    let whole : set (set pages number content) dir other
    ≡ set (set pages (map_at m (l / MAP_ENTRIES))
    (patched (entry_place (l % MAP_ENTRIES)) (entry_bytes (entry_for (Some place))) map)) dir
    (patched 8 (to_be_bytes w64 (l + 1)) page)
    = ap (λ (y : ℕ). set (set pages y content) dir other) named
    ∙ ap (λ (y : List ℕ). set (set pages (map_at m (l / MAP_ENTRIES)) y) dir other) content_is
    ∙ ap (set (set pages (map_at m (l / MAP_ENTRIES))
    (patched (entry_place (l % MAP_ENTRIES)) (entry_bytes (entry_for (Some place))) map)) dir) other_is in (
      next_is,
      subst (λ (y : List (List ℕ)). IsAppended dir m place pages y) (sym whole)
          (appended pages dir m place map page i room (subst EntryFits e fits) (map_is ∙ ap (page_at pages) named) is),
    )

pub why_pushed : (pages after : List (List ℕ)) (dir : ℕ) (page : List ℕ) (fault : PageFault)
    → HasRoom pages dir (Some page) after → WhyAppended after dir fault → WhyGrown pages dir fault
why_pushed pages after dir page NoMemory h why = tt
why_pushed pages after dir page Device h why = tt
why_pushed pages after dir page (Busy turn) h why = why
why_pushed pages after dir page (Damaged q) h why = by h.2
  where
    names : next_on page < MAP_ENTRIES * map_count_on page → HasNoNext after dir (page_at after dir) q
        → IsNamed after dir q
    names low (inl (e, past)) = inl e
    names low (inr (e, bad)) =
        inr (next_on (page_at after dir) / MAP_ENTRIES, omega (arith, low, ap next_on h.0, ap map_count_on h.0), e)

    none : next_on page < MAX_POSITIONS → has_map after (owner_of page) (next_map_on page) ≡ true
        → HasNoNext after dir (page_at after dir) q → ⊥
    none few good (inl (e, past)) = absurd (omega (arith, few, past, ap next_on h.0))
    none few good (inr (e, bad)) =
        true≢false (sym good ∙ ap (λ (x : List ℕ). has_map after (owner_of x) (next_map_on x)) h.0 ∙ bad)

    by : HasNext pages page after → WhyGrown pages dir (Damaged q)
    by (inl (same, low)) = inl (
      subst (λ (x : List (List ℕ)). IsNamed x dir q) same (names low why.0),
      λ m i.
          let g = h.1 m i in why.1 _ g.is g.room,
    )
    by (inr (few, good)) = absurd (none few good why.0)
why_pushed pages after dir page PagesFull h why = absurd why
