-- A position map: a directory page and its map pages, which stand for an entry for each position that was given.
use Rattle.std.specs.Prelude.{◌≡◌, ◌≢◌, ◌⊎◌, ℕ, ◌+◌, ◌*◌, ◌/◌, ◌%◌, ◌^◌, ◌<◌, ◌≤◌, Bool, true, false, ◌&&◌}
use Rattle.std.specs.Prelude.{if◌then◌else◌}
use Rattle.std.specs.Prelude.{ℤ, pos, negsuc, Option, Some, None, Result, Ok, Err, List, [], ◌∷◌, ◌++◌, length, take}
use Rattle.std.specs.Prelude.{drop}
use Rattle.std.specs.Prelude.{◌-◌, IsSome, slice_index, slice_index_or, slice_set}
use Rattle.ori_bytes.specs.declared.limits.TheConstants.{FREE_KIND, MAX_PAGES, MAX_POSITIONS, MAP_ENTRIES}
use Rattle.ori_bytes.specs.declared.limits.TheConstants.{MAX_MAP_PAGES, PARTITIONS}
use Rattle.ori_page.specs.declared.fault.PageFault.{PageFault}
use Rattle.ori_page.specs.declared.fault.PageFault.TheVariants.{NoMemory, Device, Busy, Damaged, PagesFull}
use Rattle.ori_page.specs.Pages.{owner_of, kind_of, number_at}
use Rattle.ori_page.specs.Faults.{IsOutside}
use Rattle.ori_page.specs.Heads.{KeepsHead}
use Rattle.ori_page.specs.Spaces.{page_at, HasFreeList, in_use, IsDamaged}
use Rattle.ori_posmap.specs.declared.fault.PosFault.{PosFault}
use Rattle.ori_posmap.specs.declared.fault.PosFault.TheVariants.{Page, ClusterFull}
use Rattle.ori_posmap.specs.declared.place.Place.{Place}
use Rattle.ori_posmap.specs.declared.place.Entry.{Entry}
use Rattle.ori_posmap.specs.declared.finding.Found.{Found}
use Rattle.ori_posmap.specs.declared.finding.Sought.{Sought}
use Rattle.ori_posmap.specs.declared.finding.Sought.TheVariants.{Given, Never}
use Rattle.ori_posmap.specs.Bytes.{directory_page, map_page, is_directory, is_map, next_on, map_count_on}
use Rattle.ori_posmap.specs.Bytes.{number_place, next_map_on}
use Rattle.ori_posmap.specs.Reading.{in_range}

-- the owner of its pages, the current data page, its map pages, and an entry for each position below the next one
pub record PositionMap : Type 0 where
  pub owner : ℕ
  pub current : ℕ
  pub maps : List ℕ
  pub entries : List Entry

abbrev pub no_entry : Entry
no_entry = record { live = false; place = record { page = 0; slot = 0; bytes = 0 } }

abbrev pub entry_at : PositionMap → ℕ → Entry
entry_at m q = slice_index_or m.entries q no_entry

abbrev pub place_in : Entry → Option Place
place_in entry = if entry.live then Some entry.place else None

-- the place at a live position; none at one that is gone, and at one that was never given
abbrev pub place_at : PositionMap → ℕ → Option Place
place_at m q = place_in (entry_at m q)

abbrev pub place_of : PositionMap → ℤ → Option Place
place_of m (pos q) = place_at m q
place_of m (negsuc n) = None

-- each number of an entry fits its bytes
pub record EntryFits (entry : Entry) : Type 0 where
  pub page : entry.place.page < 2 ^ 32
  pub slot : entry.place.slot < 2 ^ 16
  pub bytes : entry.place.bytes < 2 ^ 32

-- the entries of the k-th map page: 250 positions each
abbrev pub part_of : ℕ → List Entry → List Entry
part_of k entries = take MAP_ENTRIES (drop (MAP_ENTRIES * k) entries)

abbrev pub directory_of : PositionMap → List ℕ
directory_of m = directory_page m.owner (length m.entries) m.current m.maps

abbrev pub map_at : PositionMap → ℕ → ℕ
map_at m k = slice_index m.maps k

-- The pages stand for the map: its directory page and each of its map pages are its own and as they are spelled.
pub record IsPositionMap (pages : List (List ℕ)) (dir : ℕ) (m : PositionMap) : Type 0 where
  pub above : 0 < dir
  pub below : dir < length pages
  pub owned : 0 < m.owner
  pub owner : m.owner < 2 ^ 32
  pub current : m.current < 2 ^ 32
  pub few : length m.maps ≤ MAX_MAP_PAGES
  pub room : length m.entries ≤ MAP_ENTRIES * length m.maps
  pub fits : (q : ℕ) → EntryFits (entry_at m q)
  pub directory : page_at pages dir ≡ directory_of m
  pub map_above : (k : ℕ) → k < length m.maps → 0 < map_at m k
  pub map_below : (k : ℕ) → k < length m.maps → map_at m k < length pages
  pub distinct : (j k : ℕ) → j < k → k < length m.maps → map_at m j ≢ map_at m k
  pub maps : (k : ℕ) → k < length m.maps → page_at pages (map_at m k) ≡ map_page m.owner (part_of k m.entries)

-- the directory page, or one of the map pages
abbrev pub IsOwn : ℕ → PositionMap → ℕ → Type 0
IsOwn dir m q = (q ≡ dir) ⊎ ((k : ℕ) × (k < length m.maps) × (q ≡ map_at m k))

-- ---- what the calls do

-- a map to which no position was given
abbrev pub empty_map : ℕ → PositionMap
empty_map owner = record { owner = owner; current = 0; maps = []; entries = [] }

-- Each page in use stays, but for the head and those of the map.
abbrev pub KeepsBut : (ℕ → Type 0) → List (List ℕ) → List (List ℕ) → Type 0
KeepsBut Own before after = (q : ℕ) → 0 < q → q < length before → kind_of (page_at before q) ≢ FREE_KIND
    → (Own q → ⊥) → page_at after q ≡ page_at before q

-- What a call does to pages that aren't its own: those in use stay, and so does the head but for what it says of free
-- pages; at most so many pages more are in use.
pub record ChangesOwn (Own : ℕ → Type 0) (most : ℕ) (before after : List (List ℕ)) : Type 0 where
  pub count : length before ≤ length after
  pub others : KeepsBut Own before after
  pub head : KeepsHead (page_at before 0) (page_at after 0)
  pub listed : HasFreeList before → HasFreeList after × (in_use after ≤ in_use before + most)

-- a new map of its own page, which was free or is new
pub record IsFounded (owner dir : ℕ) (before after : List (List ℕ)) : Type 0 where
  pub is : IsPositionMap after dir (empty_map owner)
  pub was_free : dir < length before → kind_of (page_at before dir) ≡ FREE_KIND
  pub changes : ChangesOwn (λ q. ⊥) 1 before after

-- the current data page is this now
pub record IsCurrent (dir : ℕ) (m : PositionMap) (current : ℕ) (before after : List (List ℕ)) : Type 0 where
  pub is : IsPositionMap after dir (record m { current = current })
  pub changes : ChangesOwn (IsOwn dir m) 0 before after

-- the map pages are the old ones, or those and one more behind them, which was free or is new
abbrev pub HasGrown : List ℕ → List ℕ → List (List ℕ) → Type 0
HasGrown old new before = (new ≡ old)
    ⊎ ((p : ℕ) × (new ≡ old ++ p ∷ []) × (p < length before → kind_of (page_at before p) ≡ FREE_KIND))

-- there may be one map page more, and so there is room for another position
pub record IsGrown (dir : ℕ) (m : PositionMap) (before after : List (List ℕ)) : Type 0 where
  pub maps : List ℕ
  pub is : IsPositionMap after dir (record m { maps = maps })
  pub room : length m.entries < MAP_ENTRIES * length maps
  pub grown : HasGrown m.maps maps before
  pub changes : ChangesOwn (IsOwn dir m) 1 before after

-- one position more, at the end, where there was room
pub record IsAppended (dir : ℕ) (m : PositionMap) (place : Place) (before after : List (List ℕ)) : Type 0 where
  pub is : IsPositionMap after dir (record m { entries = m.entries ++ record { live = true; place = place } ∷ [] })
  pub changes : ChangesOwn (IsOwn dir m) 0 before after

-- one position more, at the end; there may be one map page more
pub record IsPushed (dir : ℕ) (m : PositionMap) (place : Place) (before after : List (List ℕ)) : Type 0 where
  pub maps : List ℕ
  pub is : IsPositionMap after dir (record m {
    maps = maps;
    entries = m.entries ++ record { live = true; place = place } ∷ [];
  })
  pub grown : HasGrown m.maps maps before
  pub changes : ChangesOwn (IsOwn dir m) 1 before after

-- the entry of a position that is live with this place, or gone
abbrev pub entry_for : Option Place → Entry
entry_for (Some place) = record { live = true; place = place }
entry_for None = no_entry

abbrev pub with_place : PositionMap → ℕ → Option Place → PositionMap
with_place m q place = record m { entries = slice_set m.entries q (entry_for place) }

-- the place of a position is this now, or it is gone
pub record IsSet (dir : ℕ) (m : PositionMap) (q : ℕ) (place : Option Place)
    (before after : List (List ℕ)) : Type 0 where
  pub is : IsPositionMap after dir (with_place m q place)
  pub changes : ChangesOwn (IsOwn dir m) 0 before after

-- ---- why a call is refused

-- the directory page, or one of the numbers of map pages on it
abbrev pub IsNamed : List (List ℕ) → ℕ → ℕ → Type 0
IsNamed pages dir p = (p ≡ dir)
    ⊎ ((k : ℕ) × (k < map_count_on (page_at pages dir)) × (p ≡ number_at (number_place k) (page_at pages dir)))

-- Damaged: the pages don't stand for a map, and the page is one that the directory names. No call that takes no page
-- answers PagesFull.
abbrev pub WhyMap : List (List ℕ) → ℕ → PageFault → Type 0
WhyMap pages dir NoMemory = Unit {0}
WhyMap pages dir Device = Unit {0}
WhyMap pages dir (Busy turn) = turn ≤ PARTITIONS
WhyMap pages dir (Damaged page) =
    IsNamed pages dir page × ((m : PositionMap) → IsPositionMap pages dir m → ⊥)
WhyMap pages dir PagesFull = ⊥

-- The same where a position is set: Damaged too where the position isn't live.
abbrev pub WhySet : List (List ℕ) → ℕ → ℤ → PageFault → Type 0
WhySet pages dir position NoMemory = Unit {0}
WhySet pages dir position Device = Unit {0}
WhySet pages dir position (Busy turn) = turn ≤ PARTITIONS
WhySet pages dir position (Damaged page) = IsNamed pages dir page
    × ((m : PositionMap) → IsPositionMap pages dir m → IsSome (place_of m position) → ⊥)
WhySet pages dir position PagesFull = ⊥

-- ---- the pages that a call names

abbrev pub has_directory : List (List ℕ) → ℕ → Bool
has_directory pages dir = in_range pages dir && is_directory (page_at pages dir)

abbrev pub has_map : List (List ℕ) → ℕ → ℕ → Bool
has_map pages owner p = in_range pages p && is_map owner (page_at pages p)

-- The position was given, and this is its map page and its place among the entries there.
pub record IsFound (pages : List (List ℕ)) (dir : ℕ) (position : ℤ) (found : Found) : Type 0 where
  pub at : ℕ
  pub given : position ≡ pos at
  pub page : found.map ≡ page_at pages found.number
  pub named : IsNamed pages dir found.number
  pub entry : (m : PositionMap) → IsPositionMap pages dir m → (at < length m.entries) × (found.owner ≡ m.owner)
      × (found.number ≡ map_at m (at / MAP_ENTRIES)) × (found.index ≡ at % MAP_ENTRIES)

abbrev pub Finds : List (List ℕ) → ℕ → ℤ → Sought → Type 0
Finds pages dir position (Given found) = IsFound pages dir position found
Finds pages dir position (Never owner) = (m : PositionMap) → IsPositionMap pages dir m
    → (owner ≡ m.owner) × ((q : ℕ) → position ≡ pos q → length m.entries ≤ q)

-- a page below the count with an owner
abbrev pub FoundFits : ℕ → Sought → Type 0
FoundFits count (Given found) =
    (0 < found.number) × (found.number < count) × (owner_of found.map ≢ 0) × (found.index < MAP_ENTRIES)
FoundFits count (Never owner) = Unit {0}

-- The same where a call takes up to so many pages: Damaged only with a page that isn't what the list of free pages
-- needs of it, PagesFull only where the pages in use and those would be more than there may be.
abbrev pub WhyTaken : ℕ → List (List ℕ) → PageFault → Type 0
WhyTaken most pages NoMemory = Unit {0}
WhyTaken most pages Device = Unit {0}
WhyTaken most pages (Busy turn) = turn ≤ PARTITIONS
WhyTaken most pages (Damaged page) = IsDamaged pages page
WhyTaken most pages PagesFull = HasFreeList pages → MAX_PAGES < in_use pages + most

-- Damaged: the pages don't stand for a map, and the page is one that the directory names; or it isn't what the list of
-- free pages needs of it.
abbrev pub WhyGrown : List (List ℕ) → ℕ → PageFault → Type 0
WhyGrown pages dir NoMemory = Unit {0}
WhyGrown pages dir Device = Unit {0}
WhyGrown pages dir (Busy turn) = turn ≤ PARTITIONS
WhyGrown pages dir (Damaged page) =
    (IsNamed pages dir page × ((m : PositionMap) → IsPositionMap pages dir m → ⊥)) ⊎ IsDamaged pages page
WhyGrown pages dir PagesFull = HasFreeList pages → MAX_PAGES < in_use pages + 1

-- ClusterFull: as many positions were given as there may be
abbrev pub WhyPushed : List (List ℕ) → ℕ → PosFault → Type 0
WhyPushed pages dir (Page fault) = WhyGrown pages dir fault
WhyPushed pages dir ClusterFull = (m : PositionMap) → IsPositionMap pages dir m → length m.entries ≡ MAX_POSITIONS

-- the refusal as one over pages: a full cluster counts as little as full pages do
abbrev pub page_result : {T : Type 0} → Result T PosFault → Result T PageFault
page_result (Ok value) = Ok value
page_result (Err (Page fault)) = Err fault
page_result (Err ClusterFull) = Err PagesFull

-- Nothing has changed, and the directory page names the next position's map page; or that page was taken, and is one.
abbrev pub HasNext : List (List ℕ) → List ℕ → List (List ℕ) → Type 0
HasNext pages page after = ((after ≡ pages) × (next_on page < MAP_ENTRIES * map_count_on page))
    ⊎ ((next_on page < MAX_POSITIONS) × (has_map after (owner_of page) (next_map_on page) ≡ true))

-- The directory page as it is after one map page more where there was no room; or there may be none more, and nothing
-- has changed.
abbrev pub HasRoom : List (List ℕ) → ℕ → Option (List ℕ) → List (List ℕ) → Type 0
HasRoom pages dir (Some page) after =
    (page ≡ page_at after dir) × ((m : PositionMap) → IsPositionMap pages dir m → IsGrown dir m pages after)
    × HasNext pages page after
HasRoom pages dir None after =
    (after ≡ pages) × ((m : PositionMap) → IsPositionMap pages dir m → length m.entries ≡ MAX_POSITIONS)

-- there is no room, or a cause outside is told
abbrev pub TellsNoRoom : Result (Option (List ℕ)) PageFault → Type 0
TellsNoRoom (Ok (Some page)) = ⊥
TellsNoRoom (Ok None) = Unit {0}
TellsNoRoom (Err fault) = IsOutside fault

-- a full cluster is told, or a cause outside
abbrev pub TellsFull : Result ℤ PosFault → Type 0
TellsFull (Ok position) = ⊥
TellsFull (Err (Page fault)) = IsOutside fault
TellsFull (Err ClusterFull) = Unit {0}

-- the directory page has as many positions as there may be, or what it names for the next one is no map page of it
abbrev pub HasNoNext : List (List ℕ) → ℕ → List ℕ → ℕ → Type 0
HasNoNext pages dir content p = ((p ≡ dir) × (MAX_POSITIONS ≤ next_on content))
    ⊎ ((p ≡ next_map_on content) × (has_map pages (owner_of content) (next_map_on content) ≡ false))

-- Damaged: the pages don't stand for a map with room for another position, by this page.
abbrev pub WhyAppended : List (List ℕ) → ℕ → PageFault → Type 0
WhyAppended pages dir NoMemory = Unit {0}
WhyAppended pages dir Device = Unit {0}
WhyAppended pages dir (Busy turn) = turn ≤ PARTITIONS
WhyAppended pages dir (Damaged page) = HasNoNext pages dir (page_at pages dir) page
    × ((m : PositionMap) → IsPositionMap pages dir m → length m.entries < MAP_ENTRIES * length m.maps → ⊥)
WhyAppended pages dir PagesFull = ⊥

-- ---- the live positions

-- no position from one on and before another is live
abbrev pub NoneLive : PositionMap → ℕ → ℕ → Type 0
NoneLive m from end = (r : ℕ) → from ≤ r → r < end → place_at m r ≡ None

-- the position is live, and the first one from another on
pub record IsFirstLive (m : PositionMap) (from at : ℕ) : Type 0 where
  pub from_on : from ≤ at
  pub live : IsSome (place_at m at)
  pub first : NoneLive m from at

-- the first live position from one on; none where none of those that were given is live
abbrev pub IsLiveFrom : PositionMap → ℕ → Option ℕ → Type 0
IsLiveFrom m from (Some at) = IsFirstLive m from at
IsLiveFrom m from None = (r : ℕ) → from ≤ r → place_at m r ≡ None

-- the same among the positions of the k-th map page
abbrev pub IsLiveIn : PositionMap → ℕ → ℕ → Option ℕ → Type 0
IsLiveIn m k from (Some at) = (at / MAP_ENTRIES ≡ k) × (from ≤ at) × IsSome (place_at m at)
    × ((r : ℕ) → from ≤ r → MAP_ENTRIES * k ≤ r → r < at → place_at m r ≡ None)
IsLiveIn m k from None = (r : ℕ) → from ≤ r → MAP_ENTRIES * k ≤ r → r < MAP_ENTRIES * (k + 1) → place_at m r ≡ None

-- how many map pages are passed on the way to the position that is found
abbrev pub passed : ℕ → Option ℕ → ℕ
passed from None = MAX_MAP_PAGES
passed from (Some at) = at / MAP_ENTRIES - from / MAP_ENTRIES

-- Damaged: the pages don't stand for a map with a k-th map page, and the page is the one of the k-th number.
abbrev pub WhyLiveIn : List (List ℕ) → ℕ → ℕ → PageFault → Type 0
WhyLiveIn pages dir k NoMemory = Unit {0}
WhyLiveIn pages dir k Device = Unit {0}
WhyLiveIn pages dir k (Busy turn) = turn ≤ PARTITIONS
WhyLiveIn pages dir k (Damaged page) = (page ≡ number_at (number_place k) (page_at pages dir))
    × ((m : PositionMap) → IsPositionMap pages dir m → k < length m.maps → ⊥)
WhyLiveIn pages dir k PagesFull = ⊥
