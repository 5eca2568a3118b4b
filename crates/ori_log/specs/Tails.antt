-- What is read of a log.
use Rattle.std.specs.Prelude.{◌≡◌, ℕ, ◌+◌, ◌*◌, ◌^◌, ◌≤◌, ◌<◌, max, Bool, true, false, List, [], ◌∷◌, ◌++◌, length}
use Rattle.std.specs.Prelude.{take, drop, flat_map, None}
use Rattle.std.specs.List.{AllByRecursion}
use Rattle.std.specs.Int.{w32, to_be_bytes}
use Rattle.std.specs.Ordering.{nat_cmp}
use Rattle.std.specs.BTreeMap.{get}
use Rattle.ori_bytes.specs.declared.limits.TheConstants.{MAX_WEIGHT, MAX_PAGES, PAGE_BYTES}
use Rattle.ori_log.specs.Log.{ImageData, image_bytes, record_bytes, IsLogRecord, AreImages, IsLog, images_of}
use Rattle.ori_log.specs.Log.{last_image, first_of, pages_named}
use Rattle.ori_log.specs.declared.stage.TheConstants.{IMAGE_BYTES}
use Rattle.ori_log.specs.declared.tail.Head.{Head}
use Rattle.ori_log.specs.declared.tail.Tail.{Tail}

-- a gate, the body's length and the number of its images
abbrev pub head_bytes : Head → List ℕ
head_bytes head = head.gate ∷ to_be_bytes w32 head.body ++ to_be_bytes w32 head.count

-- a head whose record can end before so many bytes, with the next gate behind it
pub record Fits (head : Head) (room : ℕ) : Type 0 where
  pub some : 0 < head.count
  pub few : head.count ≤ MAX_WEIGHT
  pub body : head.body ≡ 4 + IMAGE_BYTES * head.count
  pub ends : 5 + head.body < room

-- The log begins with these records, and what was read is what they come to.
pub record ReadTo (log : List ℕ) (records : List (List ImageData)) (tail : Tail) : Type 0 where
  pub whole : AllByRecursion IsLogRecord records
  pub place : tail.place ≡ length (flat_map record_bytes records)
  pub reads : take tail.place log ≡ flat_map record_bytes records
  pub within : tail.place ≤ length log
  pub count : tail.records ≡ length records
  pub last : (page : ℕ) → get nat_cmp tail.pages page ≡ last_image page (images_of records)
  pub end : tail.end ≡ pages_named (images_of records)

-- no records are those of this log
abbrev pub IsNoLog : List ℕ → Type 0
IsNoLog log = (records : List (List ImageData)) → IsLog log records → ⊥

-- What the images of a record come to, on what was read before.
pub record AddsImages (log : List ℕ) (at count : ℕ) (images : List ImageData) (old new : Tail) : Type 0 where
  pub many : length images ≡ count
  pub rising : AreImages 0 images
  pub reads : take (IMAGE_BYTES * count) (drop at log) ≡ flat_map image_bytes images
  pub last : (page : ℕ) → get nat_cmp new.pages page ≡ first_of (last_image page images) (get nat_cmp old.pages page)
  pub end : new.end ≡ max old.end (pages_named images)

-- each page that was read is below the number of pages
abbrev pub IsBounded : Tail → Type 0
IsBounded tail = (page : ℕ) → MAX_PAGES ≤ page → get nat_cmp tail.pages page ≡ None

-- These bytes are those of an image that can't stand in a record behind images of pages below `low` alone.
pub record BreaksOff (bytes : List ℕ) (low : ℕ) (image : ImageData) : Type 0 where
  pub reads : bytes ≡ image_bytes image
  pub whole : length image.content ≡ PAGE_BYTES
  pub small : image.page < 2 ^ 32
  pub breaks : (low ≤ image.page) × (image.page < MAX_PAGES) → ⊥

-- no images of a record begin these bytes
abbrev pub AreNoImages : List ℕ → ℕ → Type 0
AreNoImages bytes count = (images : List ImageData) (rest : List ℕ) → AreImages 0 images → length images ≡ count
    → bytes ≡ flat_map image_bytes images ++ rest → ⊥

-- What one more read comes to: a further record, or the end of the log.
abbrev pub ReadsOn : List ℕ → List (List ImageData) → Bool → Tail → Tail → Type 0
ReadsOn log records true old new = (images : List ImageData) × ReadTo log (records ++ images ∷ []) new
ReadsOn log records false old new = IsLog log records × (new ≡ old)
