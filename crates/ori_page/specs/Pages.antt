-- The bytes of a page.
use Rattle.std.specs.Prelude.{ℕ, ◌-◌, List, [], ◌∷◌, ◌++◌, length, drop, replicate, slice_index}
use Rattle.std.specs.Int.{w32, to_be_bytes, from_be_bytes}
use Rattle.ori_bytes.specs.declared.limits.TheConstants.{PAGE_BYTES, FREE_OWNER, FREE_KIND}

-- bytes with zeros up to a page's end
abbrev pub filled : List ℕ → List ℕ
filled bytes = bytes ++ replicate (PAGE_BYTES - length bytes) 0

-- owner, kind and three zero bytes begin every page
abbrev pub page_head : ℕ → ℕ → List ℕ
page_head owner kind = to_be_bytes w32 owner ++ kind ∷ 0 ∷ 0 ∷ 0 ∷ []

abbrev pub owner_of : List ℕ → ℕ
owner_of page = from_be_bytes w32 page

abbrev pub kind_of : List ℕ → ℕ
kind_of page = slice_index page 4

-- the number in the four bytes from a place on
abbrev pub number_at : ℕ → List ℕ → ℕ
number_at at page = from_be_bytes w32 (drop at page)

-- a page of this owner and kind with nothing on it
abbrev pub fresh_page : ℕ → ℕ → List ℕ
fresh_page owner kind = filled (page_head owner kind)

-- a free page, with the number of the next one
abbrev pub free_page : ℕ → List ℕ
free_page next = filled (page_head FREE_OWNER FREE_KIND ++ to_be_bytes w32 next)

-- the number of the next free page, on a free page; 0 ends the list
abbrev pub next_of : List ℕ → ℕ
next_of page = number_at 8 page
