-- The pages that partitions hold dirty, in the words of the cover.
use Rattle.std.specs.Prelude.{◌≡◌, ◌⊎◌, ℕ, ◌-◌, ◌%◌, ◌<◌, List, [], ◌∷◌, length, Bool, true, false, map, is_some, ⊤}
use Rattle.std.specs.Prelude.{slice_index, slice_index_or, Option, Some, None}
use Rattle.std.specs.Option.{option_map}
use Rattle.ori_bytes.specs.declared.limits.TheConstants.{PARTITIONS, MAX_PAGES}
use Rattle.ori_log.specs.Log.{ImageData, last_image}
use Rattle.ori_part.specs.declared.place.Place.{Place}
use Rattle.ori_part.specs.Parts.{PartData, place_at, has_place, first_unwritten, unwritten_page, IsSettled}
use Rattle.ori_part.specs.Parts.{trimmed, dirty_in, Holds, HoldsNoMore}
use Rattle.ori_cover.specs.Dirty.{Dirty, DirtyPage}

-- the dirty page of a place
abbrev pub dirty_place : Option Place → Option DirtyPage
dirty_place None = None
dirty_place (Some place) = option_map
    (λ content. let page : DirtyPage = record { content = content; written = place.written } in page) place.content

-- those of a partition
abbrev pub dirty_of : PartData → Dirty
dirty_of part page = dirty_place (place_at part page)

-- ---- the partitions that a call holds, each at its number's place

-- the partition of a page: its number's remainder
abbrev pub held_at : List (Option PartData) → ℕ → Option PartData
held_at hand page = slice_index_or hand (page % PARTITIONS) None

abbrev pub placed_in : Option PartData → ℕ → Bool
placed_in None page = false
placed_in (Some part) page = has_place part page

abbrev pub in_place : List (Option PartData) → ℕ → Bool
in_place hand page = placed_in (held_at hand page) page

abbrev pub dirty_held : Option DirtyPage → Option PartData → ℕ → Option DirtyPage
dirty_held other None page = other
dirty_held other (Some part) page = dirty_of part page

-- the dirty pages, where those of partitions that the hand doesn't hold are these
abbrev pub dirty_with : Dirty → List (Option PartData) → Dirty
dirty_with others hand page = dirty_held (others page) (held_at hand page) page

-- the pages that images name
abbrev pub image_pages : List ImageData → List ℕ
image_pages images = map (λ (i : ImageData). i.page) images

-- the hand holds the partition of each
abbrev pub HaveParts : List (Option PartData) → List ImageData → Type 0
HaveParts hand images =
    (k : ℕ) → k < length images → is_some (held_at hand (slice_index (image_pages images) k)) ≡ true

-- each has a place
abbrev pub HavePlaces : List (Option PartData) → List ImageData → Type 0
HavePlaces hand images = (k : ℕ) → k < length images → in_place hand (slice_index (image_pages images) k) ≡ true

-- a partition that the hand holds is settled, and has no more of pages
abbrev pub IsSettledHeld : Option PartData → Option PartData → Type 0
IsSettledHeld None new = new ≡ None
IsSettledHeld (Some part) None = ⊥
IsSettledHeld (Some part) (Some now) = IsSettled part now × HoldsNoMore part now

-- each of them is
abbrev pub AreSettledHeld : List (Option PartData) → List (Option PartData) → Type 0
AreSettledHeld old new = (k : ℕ) → IsSettledHeld (slice_index_or old k None) (slice_index_or new k None)

-- the hand holds all partitions
abbrev pub HoldsAll : List (Option PartData) → Type 0
HoldsAll hand = (q : ℕ) → is_some (held_at hand q) ≡ true

-- ---- what partitions hold of pages

-- what a partition has of pages it had
abbrev pub HasNoMore : Option PartData → Option PartData → Type 0
HasNoMore None new = new ≡ None
HasNoMore (Some old) None = ⊥
HasNoMore (Some old) (Some new) = HoldsNoMore old new

-- each of them holds no page but those that it held
abbrev pub HaveNoMore : List (Option PartData) → List (Option PartData) → Type 0
HaveNoMore old new = (number : ℕ) → HasNoMore (slice_index_or old number None) (slice_index_or new number None)

-- What the partition of this number has of a page is the last of these images of it, where the page is of this number;
-- or it had it, and no image is of the page there.
abbrev pub HasFrom : List ImageData → ℕ → Option PartData → Option PartData → Type 0
HasFrom images number None new = new ≡ None
HasFrom images number (Some old) None = ⊥
HasFrom images number (Some old) (Some new) = (page : ℕ) (content : List ℕ) → Holds new page content
    → ((page % PARTITIONS ≡ number) × (last_image page images ≡ Some content))
    ⊎ ((page % PARTITIONS ≡ number → last_image page images ≡ None) × Holds old page content)

-- each has the last of the images of its pages, and else what it had
abbrev pub HaveFrom : List ImageData → List (Option PartData) → List (Option PartData) → Type 0
HaveFrom images old new =
    (number : ℕ) → HasFrom images number (slice_index_or old number None) (slice_index_or new number None)

-- one image, of a page
abbrev pub one_image : ℕ → List ℕ → List ImageData
one_image page content = record { page = page; content = content } ∷ []

-- ---- the places of each

-- each place of a partition is of a page of its number, and there are no more pages than there may be
abbrev pub HasOwn : ℕ → Option PartData → Type 0
HasOwn number part =
    (page : ℕ) → placed_in part page ≡ true → (page % PARTITIONS ≡ number) × (page < MAX_PAGES)

abbrev pub AreOwn : List (Option PartData) → Type 0
AreOwn hand = (number : ℕ) → HasOwn number (slice_index_or hand number None)

-- the same pages have places, where a partition was held and is
pub record KeepsPlaces (old new : Option PartData) : Type 0 where
  pub held : is_some new ≡ is_some old
  pub places : (page : ℕ) → placed_in new page ≡ placed_in old page

abbrev pub SamePlaces : List (Option PartData) → List (Option PartData) → Type 0
SamePlaces old new = (number : ℕ) → KeepsPlaces (slice_index_or old number None) (slice_index_or new number None)

-- and it has no more of pages
pub record IsTended (old new : Option PartData) : Type 0 where
  pub places : KeepsPlaces old new
  pub contents : HasNoMore old new

-- each keeps its places, and holds no page but those that it held
abbrev pub AreTended : List (Option PartData) → List (Option PartData) → Type 0
AreTended old new = (number : ℕ) → IsTended (slice_index_or old number None) (slice_index_or new number None)

-- ---- pages that go home

-- no page of the partition is unwritten
abbrev pub IsSent : Option PartData → Type 0
IsSent None = ⊤
IsSent (Some part) = unwritten_page part.places ≡ None

-- how many places there are from the first unwritten one on
abbrev pub unsent_in : Option PartData → ℕ
unsent_in None = 0
unsent_in (Some part) = length part.places - first_unwritten part.places

-- the first so many partitions have no unwritten page
abbrev pub AreSent : ℕ → List (Option PartData) → Type 0
AreSent count hand = (number : ℕ) → number < count → IsSent (slice_index_or hand number None)

-- ---- places that are dropped

-- a partition that the hand holds has lost each place without a dirty page
abbrev pub IsTrimmedHeld : Option PartData → Option PartData → Type 0
IsTrimmedHeld None new = new ≡ None
IsTrimmedHeld (Some part) None = ⊥
IsTrimmedHeld (Some part) (Some now) =
    (now ≡ trimmed part) × ((page : ℕ) → place_at now page ≡ dirty_in (place_at part page))

-- each of them has
abbrev pub AreTrimmed : List (Option PartData) → List (Option PartData) → Type 0
AreTrimmed old new =
    (number : ℕ) → IsTrimmedHeld (slice_index_or old number None) (slice_index_or new number None)

-- no place is without a dirty page
abbrev pub HasNoBare : Option PartData → Type 0
HasNoBare part = (page : ℕ) → placed_in part page ≡ true → is_some (dirty_held None part page) ≡ true

abbrev pub HaveNoBare : List (Option PartData) → Type 0
HaveNoBare hand = (number : ℕ) → HasNoBare (slice_index_or hand number None)
