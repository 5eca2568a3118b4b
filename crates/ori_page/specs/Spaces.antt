-- A list of pages, page p at place p: which are free, what the head says of them, and what each call on them does.
use Rattle.std.specs.Prelude.{◌≡◌, ◌≢◌, ℕ, ◌+◌, ◌<◌, ◌≤◌, ◌==◌, max, Bool, false, not, ◌&&◌, nat_lt}
use Rattle.std.specs.Prelude.{if◌then◌else◌, List, [], ◌∷◌}
use Rattle.std.specs.Prelude.{length, slice_index_or, Contains, count_by}
use Rattle.ori_bytes.specs.declared.limits.TheConstants.{MAX_PAGES, HEAD_OWNER, HEAD_KIND, FREE_OWNER}
use Rattle.ori_bytes.specs.declared.limits.TheConstants.{FREE_KIND}
use Rattle.ori_page.specs.declared.head.Head.{Head}
use Rattle.ori_page.specs.Pages.{owner_of, kind_of, next_of, fresh_page, free_page}
use Rattle.ori_page.specs.Heads.{head_of, KeepsHead}

-- page p, or nothing past the last one
abbrev pub page_at : List (List ℕ) → ℕ → List ℕ
page_at pages p = slice_index_or pages p []

-- the head's fields
abbrev pub head_in : List (List ℕ) → Head
head_in pages = head_of (page_at pages 0)

-- a page is free exactly where its kind is that of free pages
abbrev pub is_used : List ℕ → Bool
is_used page = not (kind_of page == FREE_KIND)

-- how many pages aren't free
unfoldable pub in_use : List (List ℕ) → ℕ
in_use pages = count_by is_used pages

-- a page that may stand on the list of free pages
pub record IsFree (pages : List (List ℕ)) (p : ℕ) : Type 0 where
  pub above : 0 < p
  pub below : p < length pages
  pub owner : owner_of (page_at pages p) ≡ FREE_OWNER
  pub kind : kind_of (page_at pages p) ≡ FREE_KIND

-- from p on by their next numbers stand these free pages, each once
abbrev pub IsChain : List (List ℕ) → ℕ → List ℕ → Type 0
IsChain pages p [] = p ≡ 0
IsChain pages p (q ∷ rest) =
    (p ≡ q) × IsFree pages q × (Contains rest q → ⊥) × IsChain pages (next_of (page_at pages q)) rest

-- Page 0 is a head and names the number of pages, and its list of free pages holds exactly those of their kind, each
-- once.
pub record HasFreeList (pages : List (List ℕ)) : Type 0 where
  pub owner : owner_of (page_at pages 0) ≡ HEAD_OWNER
  pub kind : kind_of (page_at pages 0) ≡ HEAD_KIND
  pub count : (head_in pages).count ≡ length pages
  pub free : List ℕ
  pub free_count : (head_in pages).free_count ≡ length free
  pub chain : IsChain pages (head_in pages).first_free free
  pub all : length free + in_use pages ≡ length pages

-- there are as many pages as there may be, and the list of free ones is empty
pub record AreFull (pages : List (List ℕ)) : Type 0 where
  pub count : length pages ≡ MAX_PAGES
  pub none : (head_in pages).first_free ≡ 0

-- ---- which page is damaged

-- page 0 of so many pages is a head that names them, and its fields of free pages are in range
abbrev pub is_head_page : List ℕ → ℕ → Bool
is_head_page page count = (owner_of page == HEAD_OWNER) && (kind_of page == HEAD_KIND)
    && ((head_of page).count == count) && nat_lt (head_of page).first_free count
    && nat_lt (head_of page).free_count count

-- a page of so many is free with the owner of free pages, and the next one's number is in range
abbrev pub is_free_page : List ℕ → ℕ → Bool
is_free_page page count =
    (owner_of page == FREE_OWNER) && (kind_of page == FREE_KIND) && nat_lt (next_of page) count

abbrev pub is_head : List (List ℕ) → Bool
is_head pages = is_head_page (page_at pages 0) (length pages)

abbrev pub is_listed : List (List ℕ) → ℕ → Bool
is_listed pages p = is_free_page (page_at pages p) (length pages)

-- The page isn't what the list of free pages needs of it, and so the list isn't whole.
pub record IsDamaged (pages : List (List ℕ)) (p : ℕ) : Type 0 where
  pub broken : (if p == 0 then is_head pages else is_listed pages p) ≡ false
  pub unlisted : HasFreeList pages → ⊥

-- ---- what the calls do

-- each page in use stays, but for the head and p
abbrev pub KeepsOthers : ℕ → List (List ℕ) → List (List ℕ) → Type 0
KeepsOthers p before after = (q : ℕ) → 0 < q → q < length before → q ≢ p → kind_of (page_at before q) ≢ FREE_KIND
    → page_at after q ≡ page_at before q

-- Where a page in use, other than the head, was written over by one that isn't free, the list of free pages stands as
-- it stood, and as many pages are in use.
abbrev pub KeepsFreeList : ℕ → List ℕ → List (List ℕ) → List (List ℕ) → Type 0
KeepsFreeList p content before after = p ≢ 0 → kind_of (page_at before p) ≢ FREE_KIND → kind_of content ≢ FREE_KIND
    → HasFreeList before → HasFreeList after × (in_use after ≡ in_use before)

-- p was a free page or is a new one, and is now an empty one of this owner and kind, taken off the list of free pages
pub record IsTaken (owner kind p : ℕ) (before after : List (List ℕ)) : Type 0 where
  pub above : 0 < p
  pub at : p ≤ length before
  pub was_free : p < length before → kind_of (page_at before p) ≡ FREE_KIND
  pub count : length after ≡ max (length before) (p + 1)
  pub page : page_at after p ≡ fresh_page owner kind
  pub others : KeepsOthers p before after
  pub head : KeepsHead (page_at before 0) (page_at after 0)
  pub listed : kind ≢ FREE_KIND → HasFreeList before → HasFreeList after × (in_use after ≡ in_use before + 1)

-- p was in use, and is now a free page, on the list of free pages
pub record IsReleased (p : ℕ) (before after : List (List ℕ)) : Type 0 where
  pub count : length after ≡ length before
  pub next : ℕ
  pub page : page_at after p ≡ free_page next
  pub others : KeepsOthers p before after
  pub head : KeepsHead (page_at before 0) (page_at after 0)
  pub listed : HasFreeList before → HasFreeList after × (in_use after + 1 ≡ in_use before)
