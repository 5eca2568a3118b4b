-- The pages of rows, one row a page: what the pages of a cache, of an operation and of an image are to a table.
use Rattle.std.specs.Prelude.{◌≡◌, ◌≢◌, ◌⊎◌, ℕ, ◌+◌, ◌<◌, ◌≤◌, max, nat_lt, if◌then◌else◌, List, [], ◌∷◌, ◌++◌}
use Rattle.std.specs.Prelude.{length, get_or}
use Rattle.std.specs.Prelude.{slice_set, Option, Some, None, ⊤}
use Rattle.ori_page.specs.Pages.{owner_of}
use Rattle.ori_page.specs.Spaces.{page_at}
use Rattle.ori_log.specs.Log.{ImageData, last_image, pages_named}
use Rattle.ori_spec_data.specs.Base.{RecordData, BaseData, initial_base}
use Rattle.ori_volume.specs.Disk.{Files}
use Rattle.ori_rows.specs.Stage.{head_page, IsPageOf, StandFor, OpensTo}

-- Page 0 counts the rows, and page q + 1 has the row of position q. There may be further pages behind them.
pub record HavePages (rows : List (Option RecordData)) (pages : List (List ℕ)) : Type 0 where
  pub enough : length rows + 1 ≤ length pages
  pub head : page_at pages 0 ≡ head_page (length rows + 1)
  pub each : (q : ℕ) → q < length rows → IsPageOf (page_at pages (q + 1)) (get_or rows q None)

-- No page at all holds no row.
abbrev pub ArePagesOf : List (Option RecordData) → List (List ℕ) → Type 0
ArePagesOf rows pages = HavePages rows pages ⊎ ((pages ≡ []) × (rows ≡ []))

-- what an operation begins with: the pages as they are, and where there are none the head that counts no row
abbrev pub begun : List (List ℕ) → List (List ℕ)
begun [] = head_page 1 ∷ []
begun (page ∷ pages) = page ∷ pages

-- The pages stand for the base, or there are none and it is the initial one.
abbrev pub StandOrInitial : List (List ℕ) → BaseData → Type 0
StandOrInitial pages base = StandFor pages base ⊎ ((pages ≡ []) × (base ≡ initial_base))

-- Files open to at most one base.
abbrev pub OpensToOne : Type 0
OpensToOne = (files : Files) (base other : BaseData) → OpensTo files base → OpensTo files other → base ≡ other

-- ---- writing images one by one

-- Each image is of one of so many pages, or of the next one, which is there from then on.
abbrev pub AreNext : ℕ → List ImageData → Type 0
AreNext count [] = ⊤
AreNext count (i ∷ images) = (i.page ≤ count) × AreNext (max count (i.page + 1)) images

-- none is of the owner of free pages
abbrev pub AreOwned : List ImageData → Type 0
AreOwned [] = ⊤
AreOwned (i ∷ images) = (owner_of i.content ≢ 0) × AreOwned images

-- an image of one of these pages, or of the next one
abbrev pub put_image : List (List ℕ) → ImageData → List (List ℕ)
put_image pages i = if nat_lt i.page (length pages) then slice_set pages i.page i.content else pages ++ i.content ∷ []

-- images one after the other
abbrev pub put_images : List (List ℕ) → List ImageData → List (List ℕ)
put_images pages [] = pages
put_images pages (i ∷ images) = put_images (put_image pages i) images

-- Pages after these images: each page has its last image, or was there and is as it was.
pub record AreWritten (images : List ImageData) (old new : List (List ℕ)) : Type 0 where
  pub count : length new ≡ max (length old) (pages_named images)
  pub image : (page : ℕ) (content : List ℕ) → last_image page images ≡ Some content → page_at new page ≡ content
  pub there : (page : ℕ) → page < length new → last_image page images ≡ None → page < length old
  pub kept : (page : ℕ) → last_image page images ≡ None → page_at new page ≡ page_at old page
