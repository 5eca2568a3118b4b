-- A cluster: the pages of a position map and slots pages, which stand for a map from positions to bytes.
use Rattle.std.specs.Prelude.{◌≡◌, ◌≢◌, ◌⊎◌, ℕ, ◌+◌, ◌-◌, ◌/◌, ◌<◌, ◌≤◌, Bool, true, false}
use Rattle.std.specs.Prelude.{ℤ, pos, negsuc, Option, Some, None, List, [], length, slice_get, slice_index}
use Rattle.ori_bytes.specs.declared.limits.TheConstants.{FREE_KIND, BYTES_PER_WEIGHT, MAX_PAGES, MAX_POSITIONS}
use Rattle.ori_bytes.specs.declared.limits.TheConstants.{MAP_ENTRIES, MAX_MAP_PAGES, PARTITIONS}
use Rattle.ori_page.specs.declared.fault.PageFault.{PageFault}
use Rattle.ori_page.specs.declared.fault.PageFault.TheVariants.{NoMemory, Device, Busy, Damaged, PagesFull}
use Rattle.ori_page.specs.Pages.{kind_of}
use Rattle.ori_page.specs.Spaces.{page_at, HasFreeList, in_use}
use Rattle.ori_posmap.specs.declared.fault.PosFault.{PosFault}
use Rattle.ori_posmap.specs.declared.fault.PosFault.TheVariants.{Page, ClusterFull}
use Rattle.ori_posmap.specs.declared.place.Place.{Place}
use Rattle.ori_posmap.specs.Maps.{PositionMap, place_at, IsPositionMap, IsOwn, empty_map, ChangesOwn}
use Rattle.ori_cluster.specs.declared.TheConstants.{MAX_BYTES}
use Rattle.ori_cluster.specs.Slots.{Spot, IsSlotsPage, has_chunk, Links}

-- how many chunks a record of so many bytes may have: one per begun 3,000 bytes
abbrev pub most_chunks : ℕ → ℕ
most_chunks bytes = (bytes + BYTES_PER_WEIGHT - 1) / BYTES_PER_WEIGHT

-- the position map, the slots pages, and for each position its bytes and where its chunks stand, which count where it
-- is live
pub record Cluster : Type 0 where
  pub map : PositionMap
  pub data_pages : List ℕ
  pub records : ℕ → List ℕ
  pub chains : ℕ → List Spot

-- bytes, where there is a place of them
abbrev pub bytes_if : Option Place → List ℕ → Option (List ℕ)
bytes_if (Some place) bytes = Some bytes
bytes_if None bytes = None

-- the bytes at a live position; none at one that is gone, and at one that was never given
abbrev pub record_at : Cluster → ℕ → Option (List ℕ)
record_at c q = bytes_if (place_at c.map q) (c.records q)

abbrev pub record_of : Cluster → ℤ → Option (List ℕ)
record_of c (pos q) = record_at c q
record_of c (negsuc n) = None

-- a record of 1 to 1,048,576 bytes whose first chunk stands at its place
pub record IsRecord (pages : List (List ℕ)) (owner : ℕ) (place : Place) (chain : List Spot)
    (bytes : List ℕ) : Type 0 where
  pub links : Links pages owner chain place.page place.slot bytes
  pub long : length bytes ≡ place.bytes
  pub some : 0 < length bytes
  pub most : length bytes ≤ MAX_BYTES
  pub few : length chain ≤ most_chunks (length bytes)

-- one of the slots pages
abbrev pub IsData : Cluster → ℕ → Type 0
IsData c p = (k : ℕ) × (k < length c.data_pages) × (p ≡ slice_index c.data_pages k)

-- the directory page, a map page or a slots page
abbrev pub IsPageOf : ℕ → Cluster → ℕ → Type 0
IsPageOf dir c p = IsOwn dir c.map p ⊎ IsData c p

-- the chunk is the i-th of the record at a live position
pub record IsChunkOf (c : Cluster) (q i : ℕ) (spot : Spot) : Type 0 where
  pub place : Place
  pub live : place_at c.map q ≡ Some place
  pub is : slice_get (c.chains q) i ≡ Some spot

-- The pages stand for the cluster. Its position map stands, and so does the record of each live position. Each chunk of
-- each slots page is on one of their chains, at one place, and a slots page without a chunk is the current data page.
pub record IsCluster (pages : List (List ℕ)) (dir : ℕ) (c : Cluster) : Type 0 where
  pub map : IsPositionMap pages dir c.map
  pub records : (q : ℕ) (place : Place) → place_at c.map q ≡ Some place
      → IsRecord pages c.map.owner place (c.chains q) (c.records q)
  pub above : (p : ℕ) → IsData c p → 0 < p
  pub below : (p : ℕ) → IsData c p → p < length pages
  pub slots : (p : ℕ) → IsData c p → IsSlotsPage c.map.owner (page_at pages p)
  pub distinct : (j k : ℕ) → j < k → k < length c.data_pages
      → slice_index c.data_pages j ≢ slice_index c.data_pages k
  pub inside : (q i : ℕ) (spot : Spot) → IsChunkOf c q i spot → IsData c spot.page
  pub each : (spot : Spot) → IsData c spot.page → has_chunk spot.slot (page_at pages spot.page) ≡ true
      → (q : ℕ) × (i : ℕ) × IsChunkOf c q i spot
  pub once : (q r i j : ℕ) (spot : Spot) → IsChunkOf c q i spot → IsChunkOf c r j spot → (q ≡ r) × (i ≡ j)
  pub current : (c.map.current ≡ 0) ⊎ IsData c c.map.current
  pub bare : (p : ℕ) → IsData c p → p ≢ c.map.current → (s : ℕ) × (has_chunk s (page_at pages p) ≡ true)

-- ---- what the calls do

-- a cluster without a record
abbrev pub empty_cluster : ℕ → Cluster
empty_cluster owner =
    record { map = empty_map owner; data_pages = []; records = λ q. []; chains = λ q. [] }

-- a new cluster, whose directory page was free or is new
pub record IsFoundedCluster (owner dir : ℕ) (before after : List (List ℕ)) : Type 0 where
  pub is : IsCluster after dir (empty_cluster owner)
  pub was_free : dir < length before → kind_of (page_at before dir) ≡ FREE_KIND
  pub changes : ChangesOwn (λ q. ⊥) 1 before after

-- the new cluster has these bytes at a position, and all others as they were; so many positions were given
pub record Holds (q given : ℕ) (bytes : Option (List ℕ)) (old new : Cluster) : Type 0 where
  pub owner : new.map.owner ≡ old.map.owner
  pub next : length new.map.entries ≡ given
  pub this : record_at new q ≡ bytes
  pub others : (r : ℕ) → r ≢ q → record_at new r ≡ record_at old r

-- The pages stand for a cluster with these bytes at a position. Only pages of the cluster have changed, and pages that
-- were free; at most so many more are in use.
pub record Stores (dir : ℕ) (c : Cluster) (q given : ℕ) (bytes : Option (List ℕ)) (most : ℕ)
    (before after : List (List ℕ)) : Type 0 where
  pub new : Cluster
  pub is : IsCluster after dir new
  pub holds : Holds q given bytes c new
  pub changes : ChangesOwn (IsPageOf dir c) most before after

-- what a call may take: 8 pages, one per begun 3,000 bytes of the old record, and one per begun 3,000 of the new one
abbrev pub bound : ℕ → ℕ → ℕ
bound old new = 8 + most_chunks old + most_chunks new

-- The least live position from one on, if there is one.
abbrev pub IsNextLive : Cluster → ℕ → Option ℤ → Type 0
IsNextLive c from None = (r : ℕ) → from ≤ r → record_at c r ≡ None
IsNextLive c from (Some at) = (q : ℕ) × (at ≡ pos q) × (from ≤ q) × (record_at c q ≢ None)
    × ((r : ℕ) → from ≤ r → r < q → record_at c r ≡ None)

-- the position behind one, or the first
abbrev pub behind : Option ℤ → ℕ
behind None = 0
behind (Some (pos q)) = q + 1
behind (Some (negsuc n)) = 0

-- ---- why a call is refused

-- Damaged: the pages don't stand for a cluster.
abbrev pub WhyCluster : List (List ℕ) → ℕ → PageFault → Type 0
WhyCluster pages dir NoMemory = Unit {0}
WhyCluster pages dir Device = Unit {0}
WhyCluster pages dir (Busy turn) = turn ≤ PARTITIONS
WhyCluster pages dir (Damaged page) = (c : Cluster) → IsCluster pages dir c → ⊥
WhyCluster pages dir PagesFull = ⊥

-- what a call reads at most: the directory page, the map page, and a page for each chunk
abbrev pub reads_of : Cluster → ℤ → ℕ
reads_of c (pos q) = 2 + length (c.chains q)
reads_of c (negsuc n) = 2

-- the greatest number of reads of any record
abbrev pub most_reads : ℕ
most_reads = 2 + most_chunks MAX_BYTES

-- how many map pages are passed on the way to the position that is found
abbrev pub passed_to : ℕ → Option ℤ → ℕ
passed_to from (Some (pos q)) = q / MAP_ENTRIES - from / MAP_ENTRIES
passed_to from (Some (negsuc n)) = MAX_MAP_PAGES
passed_to from None = MAX_MAP_PAGES

-- ---- records that change

-- how many bytes the record at a position has
abbrev pub length_of : Option (List ℕ) → ℕ
length_of (Some bytes) = length bytes
length_of None = 0

-- A record was there and is these bytes now, or gone; or none was, and nothing has changed.
abbrev pub Changed : ℕ → Cluster → ℤ → Option (List ℕ) → Bool → List (List ℕ) → List (List ℕ) → Type 0
Changed dir c position bytes true before after = (q : ℕ) × (position ≡ pos q) × (record_at c q ≢ None)
    × Stores dir c q (length c.map.entries) bytes (bound (length_of (record_at c q)) (length_of bytes)) before after
Changed dir c position bytes false before after = (record_of c position ≡ None) × (after ≡ before)

-- Damaged: the pages don't stand for a cluster, or the list of free pages isn't whole. PagesFull: the pages in use and
-- those that the call may take are more than there may be.
abbrev pub WhyStored : List (List ℕ) → ℕ → ℤ → ℕ → PageFault → Type 0
WhyStored pages dir position new NoMemory = Unit {0}
WhyStored pages dir position new Device = Unit {0}
WhyStored pages dir position new (Busy turn) = turn ≤ PARTITIONS
WhyStored pages dir position new (Damaged page) = (c : Cluster) → IsCluster pages dir c → HasFreeList pages → ⊥
WhyStored pages dir position new PagesFull = (c : Cluster) → IsCluster pages dir c → HasFreeList pages
    → MAX_PAGES < in_use pages + bound (length_of (record_of c position)) new

-- The same of a new record; ClusterFull: as many positions were given as there may be.
abbrev pub WhyCreated : List (List ℕ) → ℕ → ℕ → PosFault → Type 0
WhyCreated pages dir most (Page NoMemory) = Unit {0}
WhyCreated pages dir most (Page Device) = Unit {0}
WhyCreated pages dir most (Page (Busy turn)) = turn ≤ PARTITIONS
WhyCreated pages dir most (Page (Damaged page)) = (c : Cluster) → IsCluster pages dir c → HasFreeList pages → ⊥
WhyCreated pages dir most (Page PagesFull) = (c : Cluster) → IsCluster pages dir c → HasFreeList pages
    → MAX_PAGES < in_use pages + most
WhyCreated pages dir most ClusterFull = (c : Cluster) → IsCluster pages dir c
    → length c.map.entries ≡ MAX_POSITIONS
