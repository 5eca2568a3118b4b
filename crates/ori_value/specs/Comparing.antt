-- The order of values and pairs of the code, one by one.
use Rattle.std.specs.Prelude.{ℕ, List}
use Rattle.std.specs.Cmp.Lexicographic.{slice_cmp}
use Rattle.std.specs.Ordering.{nat_cmp, ordering_then}
use Rattle.std.specs.declared.cmp.Ordering.{Ordering}
use Rattle.ori_bytes.specs.declared.rid.Rid.{Rid}
use Rattle.ori_spec_data.specs.Order.{order, place, ranked, ranked_order}
use Rattle.ori_value.specs.declared.value.Value.{Value}
use Rattle.ori_value.specs.View.{tree_of}

abbrev pub value_order : Value → Value → Ordering
value_order x y = order (tree_of x) (tree_of y)

-- by name, then by value
abbrev pub field_order : List ℕ × Value → List ℕ × Value → Ordering
field_order p q = ordering_then (slice_cmp nat_cmp p.0 q.0) (value_order p.1 q.1)

abbrev pub value_rid_order : Value → Rid → Ordering
value_rid_order x rid = ranked_order (ranked (tree_of x)) (place rid)

abbrev pub field_link_order : List ℕ × Value → List ℕ × Rid → Ordering
field_link_order p q = ordering_then (slice_cmp nat_cmp p.0 q.0) (value_rid_order p.1 q.1)

abbrev pub link_order : List ℕ × Rid → List ℕ × Rid → Ordering
link_order p q = ordering_then (slice_cmp nat_cmp p.0 q.0) (ranked_order (place p.1) (place q.1))
