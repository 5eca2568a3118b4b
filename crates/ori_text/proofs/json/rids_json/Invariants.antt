use Rattle.std.proofs.Common.{◌≡◌, map, take}
use Rattle.serde_json.specs.Data.{string}
use Rattle.serde_json.specs.View.{view}
use Rattle.ori_spec_texts.specs.Json.{rid_text}
use Rattle.ori_text.proofs.json.rids_json.Given as goal

abbrev pub invariant-loop-rid : goal.invariant-loop-rid
invariant-loop-rid l = map view l.items.items ≡ map (λ rid. string (rid_text rid)) (take l.rid-index l.rids)
