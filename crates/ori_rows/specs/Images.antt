-- The images of the pages that a transaction changes.
use Rattle.std.specs.Prelude.{◌≡◌, ℕ, ◌+◌, ◌<◌, ◌≤◌, Bool, true, false, List, [], ◌∷◌, ◌++◌, length, get_or, Option}
use Rattle.std.specs.Prelude.{Some, None}
use Rattle.ori_spec_data.specs.Base.{RecordData}
use Rattle.ori_log.specs.Log.{ImageData, last_image, pages_named}
use Rattle.ori_rows.specs.Stage.{head_page, IsPageOf}

-- the image of a position's page with this record or none
pub record IsImageOf (x : ℕ × Option RecordData) (image : ImageData) : Type 0 where
  pub page : image.page ≡ x.0 + 1
  pub content : IsPageOf image.content x.1

-- one of each, in their order
abbrev pub AreImagesOf : List (ℕ × Option RecordData) → List ImageData → Type 0
AreImagesOf [] images = images ≡ []
AreImagesOf (x ∷ xs) [] = ⊥
AreImagesOf (x ∷ xs) (image ∷ images) = IsImageOf x image × AreImagesOf xs images

-- the image of page 0 that counts so many pages
abbrev pub head_image : ℕ → ImageData
head_image count = record { page = 0; content = head_page count }

-- that of page 0 comes first where there are new records
abbrev pub AreAllImages : Bool → ℕ → List (ℕ × Option RecordData) → List ImageData → Type 0
AreAllImages true count xs [] = ⊥
AreAllImages true count xs (head ∷ images) = (head ≡ head_image count) × AreImagesOf xs images
AreAllImages false count xs images = AreImagesOf xs images

-- images of these, behind others
abbrev pub AddsImages : List ImageData → List ImageData → List (ℕ × Option RecordData) → Type 0
AddsImages old new xs = (images : List ImageData) × (new ≡ old ++ images) × AreImagesOf xs images

-- The images of pages by which the pages of these rows become those of new ones: each row that changes, and page 0
-- where there
-- are more.
pub record Changes (rows new : List (Option RecordData)) (images : List ImageData) : Type 0 where
  pub row : (q : ℕ) (content : List ℕ) → last_image (q + 1) images ≡ Some content → IsPageOf content (get_or new q None)
  pub same : (q : ℕ) → last_image (q + 1) images ≡ None → get_or new q None ≡ get_or rows q None
  pub old : (q : ℕ) → last_image (q + 1) images ≡ None → q < length new → q < length rows
  pub head : (content : List ℕ) → last_image 0 images ≡ Some content → content ≡ head_page (length new + 1)
  pub no_head : last_image 0 images ≡ None → length new ≡ length rows
  pub named : pages_named images ≤ length new + 1
