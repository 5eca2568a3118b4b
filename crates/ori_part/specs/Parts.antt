-- A partition of the cache: pages with a place, of which some are dirty, and clean pages.
use Rattle.std.specs.Prelude.{◌≡◌, ◌≢◌, ◌⊎◌, ℕ, suc, Bool, true, false, not, ◌&&◌, if◌then◌else◌, nat_eq, List}
use Rattle.std.specs.Prelude.{[], ◌∷◌, ◌++◌}
use Rattle.std.specs.Prelude.{map, filter, Option, Some, None, is_some}
use Rattle.std.specs.Option.{option_and_then}
use Rattle.std.specs.Map.{lookup, set_value, remove_entry}
use Rattle.lru.specs.LruCache.{lru_cache, promoted, put_entries}
use Rattle.ori_bytes.specs.declared.limits.TheConstants.{CLEAN_PAGES}
use Rattle.ori_part.specs.declared.place.Place.{Place}

-- the places, a page with what its place holds, in the order in which they were made; and the clean pages with their
-- contents, the last used first
pub record PartData : Type 0 where
  pub places : List (ℕ × Place)
  pub clean : List (ℕ × List ℕ)

-- ---- places

-- a place without a dirty page
abbrev pub bare : Place
bare = record { content = None; written = false }

-- a place with a dirty page that is unwritten, and with one that is written
abbrev pub unwritten : List ℕ → Place
unwritten content = record { content = Some content; written = false }

abbrev pub written : List ℕ → Place
written content = record { content = Some content; written = true }

abbrev pub is_dirty : Place → Bool
is_dirty place = is_some place.content

abbrev pub is_unwritten : Place → Bool
is_unwritten place = is_dirty place && not place.written

-- how many places come before the first unwritten one
abbrev pub first_unwritten : List (ℕ × Place) → ℕ
first_unwritten [] = 0
first_unwritten (e ∷ es) = if is_unwritten e.1 then 0 else suc (first_unwritten es)

-- the first dirty page that is unwritten
abbrev pub unwritten_page : List (ℕ × Place) → Option ℕ
unwritten_page [] = None
unwritten_page (e ∷ es) = if is_unwritten e.1 then Some e.0 else unwritten_page es

-- ---- pages

abbrev pub place_at : PartData → ℕ → Option Place
place_at part page = lookup (nat_eq page) part.places

abbrev pub has_place : PartData → ℕ → Bool
has_place part page = is_some (place_at part page)

-- the content of a dirty page
abbrev pub dirty_at : PartData → ℕ → Option (List ℕ)
dirty_at part page = option_and_then (λ (place : Place). place.content) (place_at part page)

abbrev pub clean_at : PartData → ℕ → Option (List ℕ)
clean_at part page = lookup (nat_eq page) part.clean

-- the content of a page that the partition holds, dirty or clean
abbrev pub content_at : PartData → ℕ → Option (List ℕ)
content_at part page = if is_some (dirty_at part page) then dirty_at part page else clean_at part page

-- the partition holds this content of the page, dirty or clean
abbrev pub Holds : PartData → ℕ → List ℕ → Type 0
Holds part page content = (dirty_at part page ≡ Some content) ⊎ (clean_at part page ≡ Some content)

-- what is held now was held
abbrev pub HoldsNoMore : PartData → PartData → Type 0
HoldsNoMore old new = (page : ℕ) (content : List ℕ) → Holds new page content → Holds old page content

-- what is held now was held, or is this page's content
abbrev pub HoldsMore : ℕ → List ℕ → PartData → PartData → Type 0
HoldsMore page content old new = (q : ℕ) (c : List ℕ) → Holds new q c
    → ((q ≡ page) × (c ≡ content)) ⊎ Holds old q c

-- what is held now was held, of pages but this one, and of this one it is this content
abbrev pub HoldsInstead : ℕ → List ℕ → PartData → PartData → Type 0
HoldsInstead page content old new = (q : ℕ) (c : List ℕ) → Holds new q c
    → ((q ≡ page) × (c ≡ content)) ⊎ ((q ≢ page) × Holds old q c)

-- ---- what the calls do

abbrev pub no_pages : PartData
no_pages = record { places = []; clean = [] }

-- a clean page that is looked at becomes the last used
abbrev pub looked : PartData → ℕ → PartData
looked part page =
    if is_some (dirty_at part page) then part else record part { clean = promoted (nat_eq page) part.clean }

-- it is looked at, and what is held of each page stays as it was
pub record IsLooked (page : ℕ) (old new : PartData) : Type 0 where
  pub order : new ≡ looked old page
  pub contents : (q : ℕ) → content_at new q ≡ content_at old q

-- clean pages after one more: it is the last used, and past so many the one that is longest unused goes
abbrev pub pushed : ℕ → List ℕ → List (ℕ × List ℕ) → List (ℕ × List ℕ)
pushed page content clean = put_entries nat_eq (lru_cache clean CLEAN_PAGES) page content

abbrev pub kept : PartData → ℕ → List ℕ → PartData
kept part page content = record part { clean = pushed page content part.clean }

-- a page without a place gets one behind the others
abbrev pub reserved : PartData → ℕ → PartData
reserved part page =
    if has_place part page then part else record part { places = part.places ++ (page, bare) ∷ [] }

-- the page is dirty and unwritten, and no longer clean
abbrev pub installed : PartData → ℕ → List ℕ → PartData
installed part page content = record {
  places = set_value (nat_eq page) part.places (unwritten content);
  clean = remove_entry (nat_eq page) part.clean;
}

abbrev pub marked : PartData → ℕ → List ℕ → PartData
marked part page content = record part { places = set_value (nat_eq page) part.places (written content) }

-- the content of a page that is written
abbrev pub written_in : Place → Option (List ℕ)
written_in place = if place.written then place.content else None

-- a page that is written becomes clean, or is let go for want of memory
abbrev pub BecomesClean : ℕ → Option (List ℕ) → List (ℕ × List ℕ) → List (ℕ × List ℕ) → Type 0
BecomesClean page None old new = new ≡ old
BecomesClean page (Some content) old new = (new ≡ pushed page content old) ⊎ (new ≡ old)

-- in the order of the places
abbrev pub BecomeClean : List (ℕ × Place) → List (ℕ × List ℕ) → List (ℕ × List ℕ) → Type 0
BecomeClean [] old new = new ≡ old
BecomeClean (e ∷ es) old new =
    (mid : List (ℕ × List ℕ)) × BecomesClean e.0 (written_in e.1) old mid × BecomeClean es mid new

-- its place stays
abbrev pub settled_in : Place → Place
settled_in place = if place.written then bare else place

abbrev pub settled_place : ℕ × Place → ℕ × Place
settled_place e = (e.0, settled_in e.1)

pub record IsSettled (old new : PartData) : Type 0 where
  pub places : new.places ≡ map settled_place old.places
  pub clean : BecomeClean old.places old.clean new.clean

-- a place with a dirty page stays, and any other is dropped
abbrev pub dirty_in : Option Place → Option Place
dirty_in None = None
dirty_in (Some place) = if is_dirty place then Some place else None

abbrev pub trimmed : PartData → PartData
trimmed part = record part { places = filter (λ e. is_dirty e.1) part.places }
