use Rattle.std.proofs.Common.{◌≡◌, false, ap, ◌∙◌}
use Rattle.serde_json.specs.Data.{object}
use Rattle.serde_json.specs.View.{view}
use Rattle.serde_json.specs.Written.{compact_text, has_float}
use Rattle.ori_spec_texts.specs.Json.{fields_members}
use Rattle.ori_spec_texts.proofs.NoFloats.{no_float-fields_members}
use Rattle.ori_text.proofs.json.row_json.Goals as goal

-- no value is printed as a float, so that the text is known
pub returns : goal.returns
returns c =
    let columns = c.args.row.now.columns in
    let same : view c.in_ok-json.json ≡ object (fields_members c.args.row.now.columns) = c.in_ok-json.ensures in
    let plain : has_float (view c.in_ok-json.json) ≡ false = ap has_float same ∙ no_float-fields_members columns in
    c.from_string.ensures ∙ (c.in_ok-to_string.ensures.text plain ∙ ap compact_text same)
