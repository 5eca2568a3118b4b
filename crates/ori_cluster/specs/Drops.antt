-- What dropping chunks makes of pages.
use Rattle.std.specs.Prelude.{◌≡◌, ◌≢◌, ◌⊎◌, ℕ, ◌<◌, ◌≤◌, Bool, true, false, ◌&&◌, List, length, slice_set}
use Rattle.ori_bytes.specs.declared.limits.TheConstants.{PARTITIONS}
use Rattle.ori_page.specs.declared.fault.PageFault.{PageFault}
use Rattle.ori_page.specs.declared.fault.PageFault.TheVariants.{NoMemory, Device, Busy, Damaged, PagesFull}
use Rattle.ori_page.specs.Spaces.{page_at, HasFreeList, IsReleased, IsDamaged}
use Rattle.ori_posmap.specs.Maps.{ChangesOwn}
use Rattle.ori_posmap.specs.Reading.{in_range}
use Rattle.ori_cluster.specs.declared.chunk.Link.{Link}
use Rattle.ori_cluster.specs.Slots.{Spot, slot_count, chunk_place, chunk_on, is_slots, has_chunk, has_spot, HasLess}
use Rattle.ori_cluster.specs.Clusters.{Cluster, IsCluster, IsPageOf}
use Rattle.ori_cluster.specs.Staging.{IsStaged}

-- the page is there, and is a slots page of this owner
abbrev pub has_slots : List (List ℕ) → ℕ → ℕ → Bool
has_slots pages owner p = in_range pages p && is_slots owner (page_at pages p)

-- the link is the one that the chunk of a slot names
abbrev pub Names : List ℕ → ℕ → Link → Type 0
Names page s link = (link.page ≡ (chunk_on (chunk_place s page) page).page)
    × (link.slot ≡ (chunk_on (chunk_place s page) page).slot)

-- some slot of the page names a place of a chunk, or none does
abbrev pub NamesSome : List ℕ → Type 0
NamesSome page = (s : ℕ) × (s < slot_count page) × (chunk_place s page ≢ 0)

-- none of its slots names a chunk
abbrev pub NamesNone : List ℕ → Type 0
NamesNone page = (s : ℕ) → s < slot_count page → chunk_place s page ≡ 0

-- A page is written with this content, which is the current data page or names a chunk; or else it is released.
abbrev pub IsLeft : ℕ → ℕ → List ℕ → List (List ℕ) → List (List ℕ) → Type 0
IsLeft current p content before after =
    ((after ≡ slice_set before p content) × ((p ≡ current) ⊎ NamesSome content))
    ⊎ (IsReleased p before after × (p ≢ current) × NamesNone content)

-- The chunk of a slot is gone. Its page keeps the others, and is the current data page or has some; or it isn't the
-- current one, has had no other, and is no slots page any more.
pub record IsDropped (owner current p s : ℕ) (before after : List (List ℕ)) : Type 0 where
  pub page : (HasLess owner s (page_at before p) (page_at after p)
      × ((p ≡ current) ⊎ ((r : ℕ) × (has_chunk r (page_at after p) ≡ true))))
      ⊎ ((p ≢ current) × ((r : ℕ) → r ≢ s → has_chunk r (page_at before p) ≡ false))
  pub changes : ChangesOwn (λ q. q ≡ p) 0 before after

-- The pages stand for the cluster as it is without the loose chain: its map and its records are the same, and it may
-- have fewer slots pages.
pub record IsUnstaged (dir : ℕ) (c : Cluster) (before after : List (List ℕ)) : Type 0 where
  pub data_pages : List ℕ
  pub is : IsCluster after dir (record c { data_pages = data_pages })
  pub changes : ChangesOwn (IsPageOf dir c) 0 before after

-- ---- why chunks aren't dropped

-- Damaged: the head isn't what the list of free pages needs of it.
abbrev pub WhyNotLeft : List (List ℕ) → PageFault → Type 0
WhyNotLeft pages NoMemory = Unit {0}
WhyNotLeft pages Device = Unit {0}
WhyNotLeft pages (Busy turn) = turn ≤ PARTITIONS
WhyNotLeft pages (Damaged page) = IsDamaged pages page
WhyNotLeft pages PagesFull = ⊥

-- Damaged: no chunk of the owner stands there, or the head isn't what the list of free pages needs of it.
abbrev pub WhyNotDropped : List (List ℕ) → ℕ → Link → PageFault → Type 0
WhyNotDropped pages owner link NoMemory = Unit {0}
WhyNotDropped pages owner link Device = Unit {0}
WhyNotDropped pages owner link (Busy turn) = turn ≤ PARTITIONS
WhyNotDropped pages owner link (Damaged page) =
    ((page ≡ link.page) × (has_spot pages owner link.page link.slot ≡ false)) ⊎ IsDamaged pages page
WhyNotDropped pages owner link PagesFull = ⊥

-- Damaged: the pages don't stand for a cluster with a loose chain of so few chunks from there on, or the list of free
-- pages isn't whole.
abbrev pub WhyNotUnstaged : List (List ℕ) → ℕ → ℕ → Link → ℕ → PageFault → Type 0
WhyNotUnstaged pages owner current link most NoMemory = Unit {0}
WhyNotUnstaged pages owner current link most Device = Unit {0}
WhyNotUnstaged pages owner current link most (Busy turn) = turn ≤ PARTITIONS
WhyNotUnstaged pages owner current link most (Damaged page) = (dir : ℕ) (c : Cluster) (loose : List Spot)
    (bytes : List ℕ) → owner ≡ c.map.owner → current ≡ c.map.current → IsStaged pages dir c loose link bytes
    → length loose ≤ most → HasFreeList pages → ⊥
WhyNotUnstaged pages owner current link most PagesFull = ⊥

-- Damaged: the pages don't stand for a cluster, or the list of free pages isn't whole.
abbrev pub WhyRemoved : List (List ℕ) → ℕ → PageFault → Type 0
WhyRemoved pages dir NoMemory = Unit {0}
WhyRemoved pages dir Device = Unit {0}
WhyRemoved pages dir (Busy turn) = turn ≤ PARTITIONS
WhyRemoved pages dir (Damaged page) = (c : Cluster) → IsCluster pages dir c → HasFreeList pages → ⊥
WhyRemoved pages dir PagesFull = ⊥
