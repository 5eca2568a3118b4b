-- Slots pages, and the chunks of records on them.
use Rattle.std.specs.Prelude.{◌≡◌, ◌≢◌, ℕ, ◌+◌, ◌-◌, ◌*◌, ◌<◌, ◌≤◌, ◌==◌, Bool, true, false, ◌&&◌, nat_le, nat_lt}
use Rattle.std.specs.Prelude.{List, []}
use Rattle.std.specs.Prelude.{◌∷◌, ◌++◌, length, take, drop, replicate}
use Rattle.std.specs.Int.{w16, w32, to_be_bytes, from_be_bytes}
use Rattle.ori_bytes.specs.declared.limits.TheConstants.{PAGE_BYTES, FREE_KIND, SLOTS_KIND, PARTITIONS}
use Rattle.ori_page.specs.declared.fault.PageFault.{PageFault}
use Rattle.ori_page.specs.declared.fault.PageFault.TheVariants.{NoMemory, Device, Busy, Damaged, PagesFull}
use Rattle.ori_page.specs.Pages.{page_head, owner_of, kind_of, number_at}
use Rattle.ori_page.specs.Spaces.{page_at}
use Rattle.ori_posmap.specs.Maps.{ChangesOwn}
use Rattle.ori_posmap.specs.Reading.{in_range}
use Rattle.ori_cluster.specs.declared.chunk.Link.{Link}

-- the number in the two bytes from a place on
abbrev pub short_at : ℕ → List ℕ → ℕ
short_at at page = from_be_bytes w16 (drop at page)

-- how many slots a page has, and where its chunks end
abbrev pub slot_count : List ℕ → ℕ
slot_count page = short_at 8 page

abbrev pub used_end : List ℕ → ℕ
used_end page = short_at 10 page

-- where the number of a slot stands: from the page's end backwards
abbrev pub slot_place : ℕ → ℕ
slot_place s = PAGE_BYTES - 2 * (s + 1)

-- where the chunk of a slot stands, or 0
abbrev pub chunk_place : ℕ → List ℕ → ℕ
chunk_place s page = short_at (slot_place s) page

-- the next chunk of the record, and the bytes
pub record Chunk : Type 0 where
  pub page : ℕ
  pub slot : ℕ
  pub bytes : List ℕ

-- page and slot of the next chunk, the length, and the bytes
abbrev pub chunk_on : ℕ → List ℕ → Chunk
chunk_on at page = record {
  page = number_at at page;
  slot = short_at (at + 4) page;
  bytes = take (short_at (at + 6) page) (drop (at + 8) page);
}

-- a slots page of this owner: its chunks and its slots don't meet
abbrev pub is_slots : ℕ → List ℕ → Bool
is_slots owner page = (owner_of page == owner) && (kind_of page == SLOTS_KIND) && nat_le 16 (used_end page)
    && nat_le (used_end page + 2 * slot_count page) PAGE_BYTES

-- the slot is one of the page's and names a chunk, which ends at most where they all do
abbrev pub has_chunk : ℕ → List ℕ → Bool
has_chunk s page = nat_lt s (slot_count page) && nat_le 16 (chunk_place s page)
    && nat_le (chunk_place s page + 8 + short_at (chunk_place s page + 6) page) (used_end page)

-- A slots page as it is spelled: its head, its chunks, zeros, and their places, of which 0 is that of no chunk.
pub record IsSlotsPage (owner : ℕ) (page : List ℕ) : Type 0 where
  pub long : length page ≡ PAGE_BYTES
  pub slots : is_slots owner page ≡ true
  pub head : take 16 page ≡ page_head owner SLOTS_KIND ++ to_be_bytes w16 (slot_count page)
      ++ to_be_bytes w16 (used_end page) ++ to_be_bytes w32 0
  pub zeros : take (PAGE_BYTES - 2 * slot_count page - used_end page) (drop (used_end page) page)
      ≡ replicate (PAGE_BYTES - 2 * slot_count page - used_end page) 0
  pub chunks : (s : ℕ) → s < slot_count page → chunk_place s page ≢ 0 → has_chunk s page ≡ true

-- ---- chunks that come and go

-- how a chunk is spelled: page and slot of the next one, the length, and the bytes
abbrev pub chunk_bytes : Link → List ℕ → List ℕ
chunk_bytes next bytes =
    to_be_bytes w32 next.page ++ to_be_bytes w16 next.slot ++ to_be_bytes w16 (length bytes) ++ bytes

-- a slot names a chunk exactly where it did, and that one says what it said
pub record KeepsChunk (s : ℕ) (old new : List ℕ) : Type 0 where
  pub has : has_chunk s new ≡ has_chunk s old
  pub says : has_chunk s old ≡ true → chunk_on (chunk_place s new) new ≡ chunk_on (chunk_place s old) old

-- A slots page has one chunk more, in a new slot behind the others, and keeps the other chunks.
pub record HasMore (owner : ℕ) (next : Link) (bytes old new : List ℕ) : Type 0 where
  pub slots : IsSlotsPage owner new
  pub count : slot_count new ≡ slot_count old + 1
  pub used : used_end new ≡ used_end old + 8 + length bytes
  pub has : has_chunk (slot_count old) new ≡ true
  pub says : chunk_on (chunk_place (slot_count old) new) new
      ≡ record { page = next.page; slot = next.slot; bytes = bytes }
  pub others : (s : ℕ) → s ≢ slot_count old → KeepsChunk s old new

-- A slots page has no chunk in this slot, and keeps the chunks of the others.
pub record HasLess (owner s : ℕ) (old new : List ℕ) : Type 0 where
  pub slots : IsSlotsPage owner new
  pub count : slot_count new ≡ slot_count old
  pub used : used_end new ≡ used_end old
  pub gone : has_chunk s new ≡ false
  pub others : (r : ℕ) → r ≢ s → KeepsChunk r old new

-- how a slots page without a slot begins; zeros follow
abbrev pub bare_front : ℕ → List ℕ
bare_front owner = page_head owner SLOTS_KIND ++ to_be_bytes w16 0 ++ to_be_bytes w16 16

-- a slots page without a slot
pub record IsBare (owner : ℕ) (page : List ℕ) : Type 0 where
  pub slots : IsSlotsPage owner page
  pub count : slot_count page ≡ 0
  pub used : used_end page ≡ 16

-- a slots page with this chunk alone, in slot 0
pub record IsLone (owner : ℕ) (next : Link) (bytes page : List ℕ) : Type 0 where
  pub slots : IsSlotsPage owner page
  pub has : has_chunk 0 page ≡ true
  pub says : chunk_on (chunk_place 0 page) page ≡ record { page = next.page; slot = next.slot; bytes = bytes }
  pub only : (s : ℕ) → s ≢ 0 → has_chunk s page ≡ false

-- A page that was free, or is new, has this chunk alone.
pub record IsPutAlone (owner p : ℕ) (next : Link) (bytes : List ℕ) (before after : List (List ℕ)) : Type 0 where
  pub above : 0 < p
  pub below : p < length after
  pub was_free : p < length before → kind_of (page_at before p) ≡ FREE_KIND
  pub page : IsLone owner next bytes (page_at after p)
  pub changes : ChangesOwn (λ q. ⊥) 1 before after

-- ---- chains

-- where a chunk stands
pub record Spot : Type 0 where
  pub page : ℕ
  pub slot : ℕ

-- the chunk there
abbrev pub chunk_at : List (List ℕ) → Spot → Chunk
chunk_at pages spot = chunk_on (chunk_place spot.slot (page_at pages spot.page)) (page_at pages spot.page)

-- a chunk of this owner stands there
pub record HasChunk (pages : List (List ℕ)) (owner : ℕ) (spot : Spot) : Type 0 where
  pub above : 0 < spot.page
  pub below : spot.page < length pages
  pub page : is_slots owner (page_at pages spot.page) ≡ true
  pub chunk : has_chunk spot.slot (page_at pages spot.page) ≡ true

-- From a page and slot on stand these chunks, each of which names the next, with these bytes; page 0 ends the chain.
abbrev pub Links : List (List ℕ) → ℕ → List Spot → ℕ → ℕ → List ℕ → Type 0
Links pages owner [] p s bytes = (p ≡ 0) × (bytes ≡ [])
Links pages owner (spot ∷ rest) p s bytes = (p ≡ spot.page) × (s ≡ spot.slot) × HasChunk pages owner spot
    × ((later : List ℕ) × (bytes ≡ (chunk_at pages spot).bytes ++ later)
    × Links pages owner rest (chunk_at pages spot).page (chunk_at pages spot).slot later)

-- the same as a test
abbrev pub has_spot : List (List ℕ) → ℕ → ℕ → ℕ → Bool
has_spot pages owner p s = in_range pages p && is_slots owner (page_at pages p) && has_chunk s (page_at pages p)

-- the bytes have become longer by those of the chunk, and this is where the next one stands
abbrev pub Adds : List ℕ → ℕ → Link → List ℕ → List ℕ → Type 0
Adds page s link old new = (link.page ≡ (chunk_on (chunk_place s page) page).page)
    × (link.slot ≡ (chunk_on (chunk_place s page) page).slot)
    × (new ≡ old ++ (chunk_on (chunk_place s page) page).bytes)

-- ---- why a chain isn't read

-- Damaged: no chain of so few chunks stands there.
abbrev pub WhyBroken : List (List ℕ) → ℕ → Link → ℕ → PageFault → Type 0
WhyBroken pages owner link most NoMemory = Unit {0}
WhyBroken pages owner link most Device = Unit {0}
WhyBroken pages owner link most (Busy turn) = turn ≤ PARTITIONS
WhyBroken pages owner link most (Damaged page) = (chain : List Spot) (bytes : List ℕ)
    → Links pages owner chain link.page link.slot bytes → length chain ≤ most → ⊥
WhyBroken pages owner link most PagesFull = ⊥
