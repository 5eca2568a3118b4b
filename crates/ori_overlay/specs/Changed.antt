-- What an operation has changed.
use Rattle.std.specs.Prelude.{◌≡◌, ℕ, ◌+◌, ◌==◌, max, ◌&&◌, not, List, [], length, is_some, if◌then◌else◌}
use Rattle.ori_overlay.specs.Over.{founded, changed_at, AreOver}
use Rattle.ori_overlay.specs.declared.changes.Changes.{Changes}

-- the pages with these changes are those, over the base that the source gives
abbrev pub Shows : Changes → List (List ℕ) → List (List ℕ) → Type 0
Shows changes base pages = AreOver changes.pages.entries changes.count (founded changes.head base) pages

-- How many pages these changes make new or other, over a source of so many pages. The head of a source without pages is
-- new also where nobody wrote it.
abbrev pub number_of : Changes → ℕ → ℕ
number_of changes base =
    length changes.pages.entries + (if (base == 0) && not (is_some (changed_at changes.pages.entries 0)) then 1 else 0)

-- an operation over so many pages has changed nothing yet
pub record IsBegun (base : ℕ) (changes : Changes) : Type 0 where
  pub none : changes.pages.entries ≡ []
  pub count : changes.count ≡ max 1 base
