-- What a partition ends as that lent a page to be read.
use Rattle.std.specs.Prelude.{ℕ, ⊤}
use Rattle.std.specs.Borrow.{follows_so, MutBor, Fml}
use mathlib.Core.Option.{none}
use Rattle.ori_part.specs.Parts.{PartData, IsLooked}
use Rattle.ori_part.specs.contracts.part.Part.{the_row}

-- once the page is given back, it has been looked at
abbrev pub LendsPage : MutBor PartData → ℕ → Fml
LendsPage part page = follows_so the_row the_row part.ghost_name none (λ _ _. ⊤) (IsLooked page part.now)
