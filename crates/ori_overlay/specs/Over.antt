-- The pages of an operation: those that it has changed, over the pages as it found them.
use Rattle.std.specs.Prelude.{◌≡◌, ◌≢◌, ◌↔◌, ℕ, ◌<◌, ◌≤◌, List, [], ◌∷◌, map, length, Contains, Option, Some, None}
use Rattle.std.specs.Ordering.{nat_cmp}
use Rattle.std.specs.Map.{lookup}
use Rattle.std.specs.BTreeMap.{is_at}
use Rattle.std.specs.List.Sorted.{IsStrictlySortedBy}
use Rattle.ori_page.specs.Spaces.{page_at}
use Rattle.ori_log.specs.Log.{ImageData}

-- the pages that an operation begins with: those that there are, and the head where there is none
abbrev pub founded : List ℕ → List (List ℕ) → List (List ℕ)
founded head [] = head ∷ []
founded head (page ∷ pages) = page ∷ pages

-- the content that a page was changed to
abbrev pub changed_at : List (ℕ × List ℕ) → ℕ → Option (List ℕ)
changed_at changed page = lookup (is_at (nat_cmp page)) changed

-- the images of changed pages
abbrev pub images_of : List (ℕ × List ℕ) → List ImageData
images_of changed = map (λ (e : ℕ × List ℕ). record { page = e.0; content = e.1 }) changed

-- So many pages: those that were changed, by their contents, over others. Each that is new was changed, and none that
-- was changed is as it was.
pub record AreOver (changed : List (ℕ × List ℕ)) (total : ℕ) (base pages : List (List ℕ)) : Type 0 where
  pub count : length pages ≡ total
  pub grown : length base ≤ total
  pub own : (page : ℕ) (content : List ℕ) → changed_at changed page ≡ Some content
      → (page < total) × (page_at pages page ≡ content)
  pub differs : (page : ℕ) (content : List ℕ) → changed_at changed page ≡ Some content → page < length base
      → content ≢ page_at base page
  pub other : (page : ℕ) → page < total → changed_at changed page ≡ None
      → (page < length base) × (page_at pages page ≡ page_at base page)

-- the page is new, or isn't as it was
abbrev pub IsChanged : List (List ℕ) → List (List ℕ) → ℕ → Type 0
IsChanged base pages page = (page < length pages) × (page < length base → page_at pages page ≢ page_at base page)

-- so many pages are new or aren't as they were
pub record AreChanged (base pages : List (List ℕ)) (changes : ℕ) : Type 0 where
  pub numbers : List ℕ
  pub rising : IsStrictlySortedBy nat_cmp numbers
  pub count : length numbers ≡ changes
  pub each : (page : ℕ) → Contains numbers page ↔ IsChanged base pages page
