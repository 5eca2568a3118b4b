-- The images of pages that a commit hands to the log.
use Rattle.std.specs.Prelude.{◌≡◌, ℕ, ◌+◌, ◌<◌, ◌≤◌, List, [], ◌∷◌, ◌++◌, length, ⊤}
use Rattle.std.specs.List.{AllByRecursion}
use Rattle.std.specs.Int.{w32, to_be_bytes}
use Rattle.ori_log.specs.Log.{ImageData, body_bytes}
use Rattle.ori_log.specs.declared.image.PageImage.{PageImage}
use Rattle.ori_bytes.specs.declared.limits.TheConstants.{MAX_PAGES, PAGE_BYTES, CLOSED_GATE}

abbrev pub image_data : PageImage → ImageData
image_data image = record { page = image.page; content = image.content }

-- a whole page of bytes
abbrev pub IsWhole : ImageData → Type 0
IsWhole image = (length image.content ≡ PAGE_BYTES) × AllByRecursion (λ b. b < 256) image.content

-- page numbers that rise from low on and are below the number of pages
abbrev pub AreRising : ℕ → List ImageData → Type 0
AreRising low [] = ⊤
AreRising low (i ∷ images) = (low ≤ i.page) × (i.page < MAX_PAGES) × AreRising (i.page + 1) images

-- a record without its gate, and the closed gate behind it
abbrev pub behind_gate : List ImageData → List ℕ
behind_gate images = to_be_bytes w32 (length (body_bytes images)) ++ body_bytes images ++ CLOSED_GATE ∷ []
