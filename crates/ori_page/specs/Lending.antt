-- What a page ends as that lent its bytes.
use Rattle.std.specs.Prelude.{ℕ, List, ◌++◌, length, take, drop}
use Rattle.std.specs.Borrow.{Lends, MutBor, Fml, Array, u8}
use Rattle.ori_page.specs.contracts.Page.{the_row}

-- Bytes over the front of a page's, which stays as long as it is. All of its bytes are these alone.
abbrev pub written_over : List ℕ → List ℕ → List ℕ
written_over page bytes = take (length page) (bytes ++ drop (length bytes) page)

-- the page ends as the last bytes behind the result
abbrev pub LendsBytes : MutBor (List ℕ) → MutBor (List ℕ) → Fml
LendsBytes page bytes = Lends the_row (Array u8 0) page bytes (written_over page.now)
