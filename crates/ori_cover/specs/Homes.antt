-- A page's home: its place in the file of pages. A page that doesn't lie whole inside the file has none.
use Rattle.std.specs.Prelude.{◌≡◌, ℕ, ◌+◌, ◌*◌, ◌<◌, ◌≤◌, false, List, length}
use Rattle.ori_bytes.specs.declared.limits.TheConstants.{PAGE_BYTES}
use Rattle.ori_volume.specs.Disk.{FileData}
use Rattle.ori_log.specs.Log.{home_of}

-- the page's home lies whole inside a file that reads so, and reads as this content
pub record IsHome (page : ℕ) (content : List ℕ) (bytes : List ℕ) : Type 0 where
  pub whole : PAGE_BYTES * (page + 1) ≤ length bytes
  pub reads : home_of bytes page ≡ content

-- The page's home is stably this content: it reads as it, none of its positions is loose, and each is below the least
-- length.
pub record IsFirmHome (page : ℕ) (content : List ℕ) (file : FileData) : Type 0 where
  pub home : IsHome page content file.bytes
  pub firm : (k : ℕ) → PAGE_BYTES * page ≤ k → k < PAGE_BYTES * (page + 1) → file.loose k ≡ false
  pub least : PAGE_BYTES * (page + 1) ≤ file.least

-- The homes of all pages but some read as they did, and those that were stable are.
pub record HomesStay (but : ℕ → Type 0) (old new : FileData) : Type 0 where
  pub reads : (page : ℕ) (content : List ℕ) → (but page → ⊥) → IsHome page content old.bytes
      → IsHome page content new.bytes
  pub firm : (page : ℕ) (content : List ℕ) → (but page → ⊥) → IsFirmHome page content old
      → IsFirmHome page content new

-- none but this page
abbrev pub this_page : ℕ → ℕ → Type 0
this_page page other = other ≡ page

abbrev pub no_page : ℕ → Type 0
no_page page = ⊥
