-- The pages that the cache holds dirty, and what each step makes of them.
use Rattle.std.specs.Prelude.{◌≡◌, ◌≢◌, ℕ, Bool, true, false, if◌then◌else◌, List, Option, Some, None}
use Rattle.ori_log.specs.Log.{ImageData, images_of, last_image}

-- a dirty page's content, and whether this has been written home
pub record DirtyPage : Type 0 where
  pub content : List ℕ
  pub written : Bool

-- which pages are dirty
abbrev pub Dirty : Type 0
Dirty = ℕ → Option DirtyPage

abbrev pub unwritten : List ℕ → DirtyPage
unwritten content = record { content = content; written = false }

abbrev pub written : List ℕ → DirtyPage
written content = record { content = content; written = true }

-- a page that an image names is dirty with that content, and unwritten
abbrev pub installed_page : Option (List ℕ) → Option DirtyPage → Option DirtyPage
installed_page None old = old
installed_page (Some content) old = Some (unwritten content)

-- a written page is dirty no more
abbrev pub settled_page : Option DirtyPage → Option DirtyPage
settled_page None = None
settled_page (Some dirty) = if dirty.written then None else Some dirty

-- no page is dirty
abbrev pub AreClean : Dirty → Type 0
AreClean dirty = (page : ℕ) → dirty page ≡ None

-- these images have been installed: each page that they name has its last one
abbrev pub AreInstalled : List ImageData → Dirty → Dirty → Type 0
AreInstalled images old new = (page : ℕ) → new page ≡ installed_page (last_image page images) (old page)

-- one page has been marked written, with the content that it has
pub record IsMarked (page : ℕ) (content : List ℕ) (old new : Dirty) : Type 0 where
  pub dirty : old page ≡ Some (unwritten content)
  pub here : new page ≡ Some (written content)
  pub others : (other : ℕ) → other ≢ page → new other ≡ old other

-- each written page has become clean
abbrev pub AreSettled : Dirty → Dirty → Type 0
AreSettled old new = (page : ℕ) → new page ≡ settled_page (old page)

-- the dirty pages are those that these records name, each with its last image, and unwritten
abbrev pub AreOfTail : List (List ImageData) → Dirty → Type 0
AreOfTail records dirty = (page : ℕ) → dirty page ≡ installed_page (last_image page (images_of records)) None
