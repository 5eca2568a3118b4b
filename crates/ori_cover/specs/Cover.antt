-- Cover: what holds between calls of the dirty pages, the tail of the log and the homes, so that each image that a
-- crash may leave gives the pages.
use Rattle.std.specs.Prelude.{◌≡◌, ◌⊎◌, ℕ, ◌+◌, ◌<◌, ◌≤◌, true, List, length, Some, None}
use Rattle.ori_bytes.specs.declared.limits.TheConstants.{MAX_LOG_BYTES}
use Rattle.ori_volume.specs.Disk.{FileData, Disk, Files}
use Rattle.ori_volume.specs.Runs.{EachImage}
use Rattle.ori_page.specs.Spaces.{page_at}
use Rattle.ori_log.specs.Log.{ImageData, images_of, last_image}
use Rattle.ori_log.specs.Logs.{HasTail}
use Rattle.ori_log.specs.Appending.{IsAttached}
use Rattle.ori_log.specs.declared.log.Log.{Log}
use Rattle.ori_cover.specs.Homes.{IsHome, IsFirmHome}
use Rattle.ori_cover.specs.Dirty.{Dirty, DirtyPage}
use Rattle.ori_cover.specs.Given.{Gives}

-- The records and the file of pages stably give the pages. A page whose home isn't stably its content is dirty. A dirty
-- page has its content as its last image in these records, and one marked written has a home that reads as its content.
pub record IsCovered (dirty : Dirty) (pages : List (List ℕ)) (records : List (List ImageData))
    (file : FileData) : Type 0 where
  pub gives : Gives pages records file
  pub clean : (page : ℕ) → page < length pages → dirty page ≡ None → IsFirmHome page (page_at pages page) file
  pub last : (page : ℕ) (d : DirtyPage) → dirty page ≡ Some d → last_image page (images_of records) ≡ Some d.content
  pub written : (page : ℕ) (d : DirtyPage) → dirty page ≡ Some d → d.written ≡ true
      → IsHome page d.content file.bytes

-- each image has one byte of a master, and no log that is longer than it may be
pub record IsSized (disk : Disk) : Type 0 where
  pub some : 0 < disk.master.least
  pub one : disk.master.greatest ≤ 1
  pub log_a : disk.log_a.greatest ≤ MAX_LOG_BYTES
  pub log_b : disk.log_b.greatest ≤ MAX_LOG_BYTES

-- The log is attached, with these records in its tail, and the pages are covered by them: so it is between calls while
-- no call of the log has failed.
pub record Stands (log : Log) (records : List (List ImageData)) (dirty : Dirty) (pages : List (List ℕ))
    (disk : Disk) : Type 0 where
  pub sized : IsSized disk
  pub attached : IsAttached log records disk
  pub covered : IsCovered dirty pages records disk.pages

-- An image with other records in its tail than these, which name each dirty page, and with which the file of pages
-- stably gives the pages in doubt. There is one record more, as after an append that failed, or these are the pages
-- themselves, as after a switch that did: so the number of records tells which pages an image gives.
pub record InDoubt (dirty : Dirty) (pages doubt : List (List ℕ)) (records : List (List ImageData)) (file : FileData)
    (image : Files) : Type 0 where
  pub found : List (List ImageData)
  pub tail : HasTail found image
  pub gives : Gives doubt found file
  pub named : (page : ℕ) (d : DirtyPage) → dirty page ≡ Some d
      → (content : List ℕ) × (last_image page (images_of found) ≡ Some content)
  pub number : (length found ≡ length records + 1) ⊎ (doubt ≡ pages)

-- The pages are covered by these records, and a crash leaves them in the tail, or others that give the pages in doubt.
-- So it is at each moment of a call, and between calls once a call of the log has failed: the pages in doubt are those
-- of the failed append, or after a failed switch the same ones. While nothing is in doubt they are the same ones too.
pub record Covers (dirty : Dirty) (pages doubt : List (List ℕ)) (records : List (List ImageData))
    (disk : Disk) : Type 0 where
  pub sized : IsSized disk
  pub covered : IsCovered dirty pages records disk.pages
  pub tail : EachImage (λ image. HasTail records image ⊎ InDoubt dirty pages doubt records disk.pages image) disk
