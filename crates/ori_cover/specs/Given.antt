-- What the pages are: a list, page p at place p, that the records of the tail and the homes give together.
use Rattle.std.specs.Prelude.{◌≡◌, ◌⊎◌, ℕ, ◌*◌, ◌<◌, ◌≤◌, max, List, [], length, Some, None}
use Rattle.ori_bytes.specs.declared.limits.TheConstants.{PAGE_BYTES, MAX_PAGES}
use Rattle.ori_volume.specs.Disk.{FileData, Files}
use Rattle.ori_page.specs.Spaces.{page_at}
use Rattle.ori_log.specs.Log.{ImageData, images_of, last_image, pages_named, pages_of, IsUnmade, IsMade}
use Rattle.ori_log.specs.Files.{files_data}
use Rattle.ori_cover.specs.Homes.{IsFirmHome}

-- These records and this file of pages stably give these pages: each is its last image, and the home of one without an
-- image is stably it. There are no more pages than there may be; no image names a page past the last one, and no byte
-- of the file is behind it.
pub record Gives (pages : List (List ℕ)) (records : List (List ImageData)) (file : FileData) : Type 0 where
  pub image : (page : ℕ) (content : List ℕ) → last_image page (images_of records) ≡ Some content
      → page_at pages page ≡ content
  pub home : (page : ℕ) → page < length pages → last_image page (images_of records) ≡ None
      → IsFirmHome page (page_at pages page) file
  pub few : length pages ≤ MAX_PAGES
  pub named : pages_named (images_of records) ≤ length pages
  pub greatest : file.greatest ≤ PAGE_BYTES * length pages

-- The pages after a record of these images: each is its last image, or was there and is as it was. Each new page has
-- an image.
pub record ArePut (images : List ImageData) (old new : List (List ℕ)) : Type 0 where
  pub count : length new ≡ max (length old) (pages_named images)
  pub few : length new ≤ MAX_PAGES
  pub image : (page : ℕ) (content : List ℕ) → last_image page images ≡ Some content → page_at new page ≡ content
  pub there : (page : ℕ) → page < length new → last_image page images ≡ None → page < length old
  pub kept : (page : ℕ) → last_image page images ≡ None → page_at new page ≡ page_at old page

-- The image holds these pages: it is of the form that an opening asks, that of a volume that isn't made yet or that of
-- one with these records in its tail, and gives them.
pub record HoldsPages (pages : List (List ℕ)) (image : Files) : Type 0 where
  pub records : List (List ImageData)
  pub form : (IsUnmade (files_data image) × (records ≡ [])) ⊎ IsMade (files_data image) records
  pub gives : pages_of (files_data image) records ≡ pages

-- these pages, or those in doubt
abbrev pub HoldsEither : List (List ℕ) → List (List ℕ) → Files → Type 0
HoldsEither pages doubt image = HoldsPages pages image ⊎ HoldsPages doubt image
