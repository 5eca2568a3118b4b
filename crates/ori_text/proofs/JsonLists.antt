-- Arrays and objects beside the plain lists that they stand for.
use Rattle.std.proofs.Common.{◌≡◌, ℕ, ◌≤◌, List, [], ◌∷◌, length, map, take, refl, ap, ◌∙◌}
use Rattle.std.proofs.lemmas.List.{take_all}
use Rattle.serde_json.specs.Data.{string, item}
use Rattle.serde_json.specs.View.{view, items_of, items_view}
use Rattle.serde_json.specs.declared.value.Value as json
use Rattle.ori_bytes.specs.declared.rid.Rid.{Rid}
use Rattle.ori_spec_data.specs.Value.{Trees}
use Rattle.ori_spec_texts.specs.Json.{rid_text, rids_items, json_of, trees_items}
use Rattle.ori_value.specs.declared.value.Value.{Value}
use Rattle.ori_value.specs.View.{tree_of, trees_of}

rids_listed : (rids : List Rid) → items_of (map (λ rid. string (rid_text rid)) rids) ≡ rids_items rids
rids_listed [] = refl
rids_listed (rid ∷ rids) = ap (item (string (rid_text rid))) (rids_listed rids)

pub rids_end : (rids : List Rid) (js : List json.Value) (i : ℕ) → length rids ≤ i
    → map view js ≡ map (λ rid. string (rid_text rid)) (take i rids) → items_view js ≡ rids_items rids
rids_end rids js i past e =
    let whole = rw (take_all i rids past) at e in
    ap items_of whole ∙ rids_listed rids

trees_listed : (vs : List Value) → items_of (map (λ v. json_of (tree_of v)) vs) ≡ trees_items (trees_of vs)
trees_listed [] = refl
trees_listed (v ∷ vs) = ap (item (json_of (tree_of v))) (trees_listed vs)

pub trees_end : (vs : List Value) (js : List json.Value) (i : ℕ) (ts : Trees) → length vs ≤ i → trees_of vs ≡ ts
    → map view js ≡ map (λ v. json_of (tree_of v)) (take i vs) → items_view js ≡ trees_items ts
trees_end vs js i ts past is e =
    let whole = rw (take_all i vs past) at e in
    ap items_of whole ∙ (trees_listed vs ∙ ap trees_items is)
