use Rattle.std.proofs.Common.{◌≡◌, ◌+◌, ◌*◌, map, take, drop}
use Rattle.serde_json.specs.View.{view, members_view}
use Rattle.ori_spec_data.specs.Value.{nesting, trees_nesting, fields_nesting}
use Rattle.ori_spec_texts.specs.Json.{json_of, fields_members}
use Rattle.ori_value.specs.View.{tree_of, fields_of}
use Rattle.ori_text.proofs.json.+jsons.Given as goal

abbrev pub decreases-json_value : goal.decreases-json_value
decreases-json_value l = 3 * nesting (tree_of l.value.now)

abbrev pub decreases-array_json : goal.decreases-array_json
decreases-array_json l = 3 * trees_nesting l.values.now + 1

abbrev pub decreases-object_json : goal.decreases-object_json
decreases-object_json l = 3 * fields_nesting l.fields.now + 2

abbrev pub decreases-field_members : goal.decreases-field_members
decreases-field_members l = 3 * fields_nesting l.fields.now + 1

abbrev pub invariant-array_json-loop-value : goal.invariant-array_json-loop-value
invariant-array_json-loop-value l = map view l.items.items ≡ map (λ v. json_of (tree_of v)) (take l.value-index l.all)

-- the fields from here on are members
abbrev pub invariant-field_members-loop-i : goal.invariant-field_members-loop-i
invariant-field_members-loop-i l = members_view l.members.entries ≡ fields_members (fields_of (drop l.i l.pairs))
