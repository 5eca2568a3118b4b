-- What a list holds nests less deep than the list.
use Rattle.std.specs.Prelude.{ℕ, ◌≤◌, max, List, [], ◌∷◌}
use Rattle.std.proofs.Common.{arith}
use denote.Param.Weighed.{most}
use Rattle.ori_spec_data.specs.Value.{nesting, trees_nesting, fields_nesting}
use Rattle.ori_value.specs.View.{tree_of, trees_of, fields_of}
use Rattle.ori_value.specs.declared.fields.FieldList.TheDeep.{deep-Value}
use Rattle.ori_value.specs.declared.value.Value.{Value}
use Rattle.ori_value.specs.declared.value.Value.TheVariants.{Null, Boolean, Integer, Short, Long, Datetime, Str, Binary}
use Rattle.ori_value.specs.declared.value.Value.TheVariants.{Embedded, EmbeddedList, EmbeddedMap, Link, LinkList}
use Rattle.ori_value.specs.declared.value.Value.TheVariants.{LinkSet, LinkMap, Byte}

pub value_falls : (v : Value) → deep-Value v ≤ nesting (tree_of v)
value_falls Null = omega arith
value_falls (Boolean b) = omega arith
value_falls (Integer z) = omega arith
value_falls (Short z) = omega arith
value_falls (Long z) = omega arith
value_falls (Datetime z) = omega arith
value_falls (Str s) = omega arith
value_falls (Binary s) = omega arith
value_falls (Embedded d) = omega arith
value_falls (EmbeddedList ts) = omega arith
value_falls (EmbeddedMap fs) = omega arith
value_falls (Link rid) = omega arith
value_falls (LinkList rids) = omega arith
value_falls (LinkSet rids) = omega arith
value_falls (LinkMap links) = omega arith
value_falls (Byte z) = omega arith

pub trees_fall : (vs : List Value) → max (most deep-Value vs) 0 ≤ trees_nesting (trees_of vs)
trees_fall [] = omega arith
trees_fall (v ∷ vs) = omega (arith, value_falls v, trees_fall vs)

-- whatever bounds a pair by what its value nests
pub fields_fall : (μ : List ℕ × Value → ℕ) (ps : List (List ℕ × Value))
    → ((p : List ℕ × Value) → μ p ≤ nesting (tree_of p.1)) → max (most μ ps) 0 ≤ fields_nesting (fields_of ps)
fields_fall μ [] bound = omega arith
fields_fall μ (p ∷ ps) bound = omega (arith, bound p, fields_fall μ ps bound)
