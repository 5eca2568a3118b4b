use Rattle.std.proofs.Common.{rules}
use Rattle.std.proofs.lemmas.Fn.{always_returns_same}
use Rattle.std.specs.Cmp.Lexicographic.{slice_cmp}
use Rattle.std.specs.Ordering.{nat_cmp}
use Rattle.ori_value.proofs.Places.{searched}
use Rattle.ori_value.proofs.fields.FieldList.search.Goals as goal

-- the closure compares a pair's name, and the slice is the list's pairs
pub returns : goal.returns
returns c =
    let facts = c.binary_search_by.ensures in
    let by_name = facts.position (λ pair. slice_cmp nat_cmp pair.0 c.args.name.now)
    (always_returns_same _ _ _ (λ a r f called. (search rules, search rules))) in
    rw (← c.self.view_is, ← c.deref.ensures.value) (searched c.args.name.now _
    (rw c.deref.ensures.value c.self.invariant) _ facts.bound by_name)
