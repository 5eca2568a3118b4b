-- The bytes of the log and of the master, and the pages that a crash's leavings give. Numbers are big-endian.
use Rattle.std.specs.Prelude.{◌≡◌, ◌≢◌, ℕ, zero, suc, ◌+◌, ◌-◌, ◌*◌, ◌/◌, ◌%◌, ◌<◌, ◌≤◌, max, ◌==◌, if◌then◌else◌, List}
use Rattle.std.specs.Prelude.{[], ◌∷◌, ◌++◌, length, take, drop, replicate, flat_map, Option, Some, None, unwrap_or, ⊤}
use Rattle.std.specs.List.{AllByRecursion}
use Rattle.std.specs.Int.{w32, to_be_bytes}
use Rattle.ori_bytes.specs.declared.limits.TheConstants.{PAGE_BYTES, MAX_PAGES, MAX_WEIGHT, MAX_LOG_BYTES, OPEN_GATE}
use Rattle.ori_bytes.specs.declared.limits.TheConstants.{MAX_PAGES_BYTES}

-- a page as a commit leaves it
pub record ImageData : Type 0 where
  pub page : ℕ
  pub content : List ℕ

-- the four files' bytes
pub record FilesData : Type 0 where
  pub master : List ℕ
  pub log_a : List ℕ
  pub log_b : List ℕ
  pub pages : List ℕ

-- ---- log records

abbrev pub image_bytes : ImageData → List ℕ
image_bytes i = to_be_bytes w32 i.page ++ i.content

-- the number of images, and the images
abbrev pub body_bytes : List ImageData → List ℕ
body_bytes images = to_be_bytes w32 (length images) ++ flat_map image_bytes images

-- an open gate, the body's length and the body
abbrev pub record_bytes : List ImageData → List ℕ
record_bytes images = OPEN_GATE ∷ to_be_bytes w32 (length (body_bytes images)) ++ body_bytes images

-- page numbers that rise from low on and are below the number of pages, and whole pages of bytes
abbrev pub AreImages : ℕ → List ImageData → Type 0
AreImages low [] = ⊤
AreImages low (i ∷ images) = (low ≤ i.page) × (i.page < MAX_PAGES) × (length i.content ≡ PAGE_BYTES)
    × AllByRecursion (λ b. b < 256) i.content × AreImages (i.page + 1) images

pub record IsLogRecord (images : List ImageData) : Type 0 where
  pub some : 0 < length images
  pub few : length images ≤ MAX_WEIGHT
  pub rising : AreImages 0 images

-- A log file is whole records, then a gate that isn't open, then anything.
abbrev pub IsLog : List ℕ → List (List ImageData) → Type 0
IsLog log records = (gate : ℕ) × (rest : List ℕ) × (log ≡ flat_map record_bytes records ++ gate ∷ rest)
    × (gate ≢ OPEN_GATE) × AllByRecursion IsLogRecord records

-- the file of the log that the master's byte names: A where it is even, B where it is odd
abbrev pub active_log : ℕ → FilesData → List ℕ
active_log byte files = if byte % 2 == 0 then files.log_a else files.log_b

-- the records that count: none before there is a master
abbrev pub IsTailOf : List ℕ → FilesData → List (List ImageData) → Type 0
IsTailOf [] files records = records ≡ []
IsTailOf (byte ∷ bytes) files records = IsLog (active_log byte files) records

abbrev pub IsTail : FilesData → List (List ImageData) → Type 0
IsTail files records = IsTailOf files.master files records

-- the bytes that a log with these records has room for: a further record's gate, length, body and the gate behind it
abbrev pub room_behind : List (List ImageData) → ℕ
room_behind records = MAX_LOG_BYTES - length (flat_map record_bytes records)

-- ---- pages

abbrev pub images_of : List (List ImageData) → List ImageData
images_of records = flat_map (λ images. images) records

abbrev pub first_of : Option (List ℕ) → Option (List ℕ) → Option (List ℕ)
first_of None o = o
first_of (Some content) o = Some content

-- the last image of a page
abbrev pub last_image : ℕ → List ImageData → Option (List ℕ)
last_image page [] = None
last_image page (i ∷ images) = first_of (last_image page images) (if i.page == page then Some i.content else None)

-- what stands at a page's place in the file of pages, with zeros past the file's end
abbrev pub home_of : List ℕ → ℕ → List ℕ
home_of pages page = take PAGE_BYTES (drop (PAGE_BYTES * page) pages ++ replicate PAGE_BYTES 0)

abbrev pub page_of : FilesData → List (List ImageData) → ℕ → List ℕ
page_of files records page = unwrap_or (last_image page (images_of records)) (home_of files.pages page)

-- one more than the greatest page that an image names
abbrev pub pages_named : List ImageData → ℕ
pages_named [] = 0
pages_named (i ∷ images) = max (i.page + 1) (pages_named images)

-- pages that have a byte at home
abbrev pub pages_at_home : List ℕ → ℕ
pages_at_home pages = (length pages + (PAGE_BYTES - 1)) / PAGE_BYTES

abbrev pub pages_from : FilesData → List (List ImageData) → ℕ → ℕ → List (List ℕ)
pages_from files records page zero = []
pages_from files records page (suc n) = page_of files records page ∷ pages_from files records (page + 1) n

-- each page as its last image, else as it stands at home
abbrev pub pages_of : FilesData → List (List ImageData) → List (List ℕ)
pages_of files records = pages_from files records 0 (max (pages_named (images_of records)) (pages_at_home files.pages))

-- ---- the form of the files

-- before a volume is made: no master, no page, and at most the first byte of each log
pub record IsUnmade (files : FilesData) : Type 0 where
  pub master : files.master ≡ []
  pub log_a : length files.log_a ≤ 1
  pub log_b : length files.log_b ≤ 1
  pub pages : files.pages ≡ []

-- each page of the list that the records don't name is whole at home
abbrev pub AreWhole : FilesData → List (List ImageData) → Type 0
AreWhole files records = (page : ℕ) → page < max (pages_named (images_of records)) (pages_at_home files.pages)
    → last_image page (images_of records) ≡ None → PAGE_BYTES * (page + 1) ≤ length files.pages

-- a volume with these records in its log, its pages left aside
pub record IsMade (files : FilesData) (records : List (List ImageData)) : Type 0 where
  pub master : length files.master ≡ 1
  pub log_a : length files.log_a ≤ MAX_LOG_BYTES
  pub log_b : length files.log_b ≤ MAX_LOG_BYTES
  pub pages : length files.pages ≤ MAX_PAGES_BYTES
  pub tail : IsTail files records
  pub homes : AreWhole files records
