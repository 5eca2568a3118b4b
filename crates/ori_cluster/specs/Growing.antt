-- A loose chain that grows at its front, and a cluster one of whose positions takes it.
use Rattle.std.specs.Prelude.{◌≡◌, ◌≢◌, ℕ, ◌+◌, ◌*◌, ◌<◌, ◌≤◌, ◌==◌, if◌then◌else◌, true, false}
use Rattle.std.specs.Prelude.{Option, Some, None, List, ◌∷◌, length, drop}
use Rattle.ori_bytes.specs.declared.limits.TheConstants.{FREE_KIND, MAX_PAGES, PARTITIONS}
use Rattle.ori_page.specs.declared.fault.PageFault.{PageFault}
use Rattle.ori_page.specs.declared.fault.PageFault.TheVariants.{NoMemory, Device, Busy, Damaged, PagesFull}
use Rattle.ori_page.specs.Pages.{kind_of}
use Rattle.ori_page.specs.Spaces.{page_at, HasFreeList, in_use}
use Rattle.ori_posmap.specs.declared.place.Place.{Place}
use Rattle.ori_posmap.specs.Maps.{ChangesOwn}
use Rattle.ori_cluster.specs.declared.chunk.Link.{Link}
use Rattle.ori_cluster.specs.declared.slots.TheConstants.{MOST_BYTES}
use Rattle.ori_cluster.specs.Slots.{Spot, has_chunk, chunk_place, chunk_on, IsSlotsPage, KeepsChunk}
use Rattle.ori_cluster.specs.Clusters.{Cluster, IsData, IsPageOf, IsCluster, most_chunks}
use Rattle.ori_cluster.specs.Staging.{IsStaged}

-- ---- one page

-- A slots page has a chunk in a slot that had none, and keeps the chunks of the others.
pub record HasOneMore (owner s : ℕ) (next : Link) (bytes old new : List ℕ) : Type 0 where
  pub slots : IsSlotsPage owner new
  pub none : has_chunk s old ≡ false
  pub has : has_chunk s new ≡ true
  pub says : chunk_on (chunk_place s new) new ≡ record { page = next.page; slot = next.slot; bytes = bytes }
  pub others : (r : ℕ) → r ≢ s → KeepsChunk r old new

-- A slots page has this chunk more, and the other pages stay.
pub record IsPutOn (owner p s : ℕ) (next : Link) (bytes : List ℕ) (before after : List (List ℕ)) : Type 0 where
  pub above : 0 < p
  pub below : p < length before
  pub page : HasOneMore owner s next bytes (page_at before p) (page_at after p)
  pub changes : ChangesOwn (λ q. q ≡ p) 0 before after

-- Where the page is a slots page, it has the chunk in this slot; or nothing has changed, and it has a chunk.
abbrev pub TriesPut : ℕ → ℕ → Link → List ℕ → Option ℕ → List (List ℕ) → List (List ℕ) → Type 0
TriesPut owner p next bytes (Some s) before after =
    (p ≢ 0) × (IsSlotsPage owner (page_at before p) → IsPutOn owner p s next bytes before after)
TriesPut owner p next bytes None before after = (after ≡ before)
    × (p ≢ 0 → IsSlotsPage owner (page_at before p) → (s : ℕ) × (has_chunk s (page_at before p) ≡ true))

-- ---- chains

-- the cluster on other slots pages, of which another may be the current one
abbrev pub on_pages : Cluster → ℕ → List ℕ → Cluster
on_pages c current held = record c { map = record c.map { current = current }; data_pages = held }

-- The loose chain has one chunk more at its front. A slots page that was in use was one of the cluster's.
pub record IsPut (dir : ℕ) (c : Cluster) (current : ℕ) (loose : List Spot) (link : Link) (bytes : List ℕ)
    (before after : List (List ℕ)) : Type 0 where
  pub held : List ℕ
  pub spot : Spot
  pub is : IsStaged after dir (on_pages c current held) (spot ∷ loose) link bytes
  pub mine : (p : ℕ) → p < length before → kind_of (page_at before p) ≢ FREE_KIND
      → IsData (on_pages c current held) p → IsData c p

-- The same where the chunk's page is the current one then. Only pages of the cluster have changed, and pages that were
-- free; at most one more is in use.
pub record IsPutFirst (dir : ℕ) (c : Cluster) (loose : List Spot) (link : Link) (bytes : List ℕ)
    (before after : List (List ℕ)) : Type 0 where
  pub put : IsPut dir c link.page loose link bytes before after
  pub changes : ChangesOwn (IsPageOf dir c) 1 before after

-- The cluster has a loose chain of so many chunks, and had none.
pub record IsChained (dir : ℕ) (c : Cluster) (current : ℕ) (link : Link) (bytes : List ℕ) (rounds : ℕ)
    (before after : List (List ℕ)) : Type 0 where
  pub held : List ℕ
  pub chain : List Spot
  pub is : IsStaged after dir (on_pages c current held) chain link bytes
  pub long : length chain ≡ rounds
  pub mine : (p : ℕ) → p < length before → kind_of (page_at before p) ≢ FREE_KIND
      → IsData (on_pages c current held) p → IsData c p

-- The bytes from a place on stand in chunks that fill a page each.
pub record HasTail (owner : ℕ) (bytes : List ℕ) (link : Link) (end : ℕ) (before after : List (List ℕ)) : Type 0 where
  pub rounds : ℕ
  pub long : length bytes ≡ end + MOST_BYTES * rounds
  pub changes : ChangesOwn (λ q. ⊥) rounds before after
  pub chained : (dir : ℕ) (c : Cluster) → IsCluster before dir c → owner ≡ c.map.owner
      → IsChained dir c c.map.current link (drop end bytes) rounds before after

-- where the first chunk of a record stands
abbrev pub link_of : Place → Link
link_of place = record { page = place.page; slot = place.slot }

-- The bytes stand in a loose chain from this place on, whose page is the current one. Only pages of the cluster have
-- changed, and pages that were free.
pub record IsStored (dir : ℕ) (c : Cluster) (place : Place) (bytes : List ℕ) (before after : List (List ℕ)) :
    Type 0 where
  pub rounds : ℕ
  pub few : rounds ≤ most_chunks (length bytes)
  pub chained : IsChained dir c place.page (link_of place) bytes rounds before after
  pub changes : ChangesOwn (IsPageOf dir c) rounds before after

-- ---- why a chunk isn't put

-- Damaged: what is named doesn't hold, or the list of free pages isn't whole. PagesFull: the pages in use and so many
-- are more than there may be.
abbrev pub WhyUnless : Type 0 → List (List ℕ) → ℕ → PageFault → Type 0
WhyUnless P pages most NoMemory = Unit {0}
WhyUnless P pages most Device = Unit {0}
WhyUnless P pages most (Busy turn) = turn ≤ PARTITIONS
WhyUnless P pages most (Damaged page) = P → HasFreeList pages → ⊥
WhyUnless P pages most PagesFull = HasFreeList pages → MAX_PAGES < in_use pages + most

-- the pages stand for a cluster with a loose chain, of this owner and current data page
pub record StandsStaged (pages : List (List ℕ)) (dir owner current : ℕ) : Type 0 where
  pub c : Cluster
  pub loose : List Spot
  pub link : Link
  pub bytes : List ℕ
  pub is : IsStaged pages dir c loose link bytes
  pub owned : owner ≡ c.map.owner
  pub now : current ≡ c.map.current

-- the pages stand for a cluster of this owner and current data page
pub record Stands (pages : List (List ℕ)) (dir owner current : ℕ) : Type 0 where
  pub c : Cluster
  pub is : IsCluster pages dir c
  pub owned : owner ≡ c.map.owner
  pub now : current ≡ c.map.current

-- ---- a position takes a chain

-- a function that has another value at a place
abbrev pub with_at : {A : Type 0} → ℕ → A → (ℕ → A) → ℕ → A
with_at q x f r = if r == q then x else f r
