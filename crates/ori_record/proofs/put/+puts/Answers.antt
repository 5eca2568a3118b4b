use Rattle.std.proofs.Common.{◌≡◌, ◌≤◌, ◌+◌, ◌-◌, ℕ, refl, sym, List, drop, length, ap, ◌∙◌, [], subst, rules, arith}
use Rattle.std.proofs.lemmas.Result.{err_from_is_err_and}
use Rattle.ori_spec_data.specs.Value.{Fields}
use Rattle.ori_value.specs.View.{tree_of, trees_of, fields_of}
use Rattle.ori_record.specs.Spelling.{IsText}
use Rattle.ori_record.specs.Writable.{first_place}
use Rattle.ori_record.specs.Writing.{Adds}
use Rattle.ori_record.proofs.Putting.{none_left}
use Rattle.ori_record.proofs.Parts.{items_next, items_last, pairs_next, pairs_last, trees_left, fields_left, list_put}
use Rattle.ori_record.proofs.Parts.{map_put}
use Rattle.ori_record.specs.Seen.{own_left, own_of}
use Rattle.ori_record.specs.Spelling.{own_pointer}
use Rattle.ori_record.specs.Writable.{merged, own_header_size}
use Rattle.ori_record.specs.Writing.{AreReady, Fills, FillsOne, HasHole, HasHoles, Makes, own_nesting, own_nestings}
use Rattle.ori_record.proofs.Filling.{room_within, filled_one, values_first, first_hole, values_next, values_last}
use Rattle.ori_record.proofs.Filling.{ready_named, HeaderIs, header_ready, header_holes, header_put, document_ready}
use Rattle.ori_record.proofs.Filling.{document_put, fails_so}
use Rattle.ori_record.proofs.put.+puts.Goals as goal

-- ---- items and pairs

pub put_items-loop-value-preserved : goal.put_items-loop-value-preserved
put_items-loop-value-preserved t c =
    let vs = c.args.values.now in
    let i = c.loop-value.value-index in
    let v = c.value-item.result in
    items_next c.args.depth (trees_of vs) (trees_of (drop i vs)) (tree_of v) (trees_of (drop (i + 1) vs)) c.args.out.now
    c.loop-value.out c.put_item.new.out (trees_left c.args.values.now i v (omega arith) c.value-item.is)
    c.loop-value.invariant c.in_ok-put_item.ensures.0 c.in_ok-put_item.ensures.1

pub put_items-returns : goal.put_items-returns
put_items-returns t c =
    let vs = c.args.values.now in
    let i = c.loop-value.value-index in
    items_last c.args.depth (trees_of vs) (trees_of (drop i vs)) c.args.out.now c.loop-value.out
    (ap trees_of (none_left c.args.values.now i (omega arith))) c.loop-value.invariant

pub put_pairs-loop-name-preserved : goal.put_pairs-loop-name-preserved
put_pairs-loop-name-preserved t c =
    let ps = c.args.pairs.now in
    let i = c.loop-name.name-index in
    let p = c.loop-name-item.result in
    let named = subst (λ (n : List ℕ). Adds (IsText n) c.loop-name.out c.put_text.new.out) c.as_str.ensures
    c.in_ok-put_text.ensures in
    pairs_next c.args.depth (fields_of ps) (fields_of (drop i ps)) p.0 (tree_of p.1) (fields_of (drop (i + 1) ps))
    c.args.out.now c.loop-name.out c.put_text.new.out c.put_item.new.out
    (fields_left c.args.pairs.now i p (omega arith) c.loop-name-item.is) c.loop-name.invariant named
    c.in_ok-put_item.ensures.0 c.in_ok-put_item.ensures.1

pub put_pairs-returns : goal.put_pairs-returns
put_pairs-returns t c =
    let ps = c.args.pairs.now in
    let i = c.loop-name.name-index in
    pairs_last c.args.depth (fields_of ps) (fields_of (drop i ps)) c.args.out.now c.loop-name.out
    (ap fields_of (none_left c.args.pairs.now i (omega arith))) c.loop-name.invariant

-- ---- lists and maps

pub put_list-returns : goal.put_list-returns
put_list-returns t c =
    list_put c.as_slice-values.result.now c.args.values.now c.args.depth c.args.out.now c.put_count.new.out
    c.put_items.new.out c.put_items.result c.as_slice-values.ensures (omega arith) c.in_ok-put_count.ensures
    c.put_items.ensures

pub put_map-returns : goal.put_map-returns
put_map-returns t c =
    map_put c.as_slice-pairs.result.now c.args.fields.now c.args.depth c.args.out.now c.put_count.new.out
    c.put_pairs.new.out c.put_pairs.result c.as_slice-pairs.ensures.all c.as_slice-pairs.ensures.rising (omega arith)
    c.in_ok-put_count.ensures c.put_pairs.ensures

-- ---- headers

pub fill-overflow_add-pointer_at : goal.fill-overflow_add-pointer_at
fill-overflow_add-pointer_at t c =
    let room = room_within (own_of c.args.field.now) c.args.at c.args.out.now c.requires.hole in
    omega (arith, room, c.name_size.ensures, c.len.ensures, c.len.type_inv)

pub fill-set_pointer-requires : goal.fill-set_pointer-requires
fill-set_pointer-requires t c =
    let room = room_within (own_of c.args.field.now) c.args.at c.args.out.now c.requires.hole in
    omega (arith, room, c.name_size.ensures)

pub fill-overflow_add-result : goal.fill-overflow_add-result
fill-overflow_add-result t c =
    let room = room_within (own_of c.args.field.now) c.args.at c.args.out.now c.requires.hole in
    omega (arith, room, c.name_size.ensures, c.len.ensures, c.len.type_inv)

pub fill-overflow_add-result-2 : goal.fill-overflow_add-result-2
fill-overflow_add-result-2 t c =
    let room = room_within (own_of c.args.field.now) c.args.at c.args.out.now c.requires.hole in
    omega (arith, room, c.name_size.ensures, c.len.ensures, c.len.type_inv)

pub fill-returns : goal.fill-returns
fill-returns t c =
    let o = own_of c.args.field.now in (
      λ h. filled_one o c.args.base c.args.at c.name_size.result c.own_pointer-to.result _ c.args.out.now
          c.set_pointer.new.out c.put_held.new.out h c.name_size.ensures
          (c.own_pointer-to.ensures ∙ ap (λ (n : ℕ). own_pointer o (n - c.args.base)) c.len.ensures)
          c.set_pointer.ensures c.in_ok-put_held.ensures.0 refl,
      c.in_ok-put_held.ensures.1,
    )

pub put_values-loop-field-init : goal.put_values-loop-field-init
put_values-loop-field-init t c =
    λ h. values_first c.args.depth c.args.base c.args.at (own_left c.args.own) c.args.out.now c.requires.below
    c.requires.ready h

pub put_values-fill-requires : goal.put_values-fill-requires
put_values-fill-requires t c =
    let h = c.requires.holes in
    let f = first_hole c.args.depth c.args.base (length c.args.out.now - c.args.base) c.loop-field.place
    (own_left c.args.own) (own_left c.loop-field.left) (own_left c.next.new.self) (own_of c.in-Some.field) h.front
    h.back c.loop-field.out c.in-Some.ensures (c.loop-field.invariant h) in
    (search rules, (f.2, (f.1, f.0)))

pub put_values-returns-in_err-place : goal.put_values-returns-in_err-place
put_values-returns-in_err-place t c =
    let h = c.requires.holes in
    let o = own_of c.in-Some.field in
    let f = first_hole c.args.depth c.args.base (length c.args.out.now - c.args.base) c.loop-field.place
    (own_left c.args.own) (own_left c.loop-field.left) (own_left c.next.new.self) (own_of c.in-Some.field) h.front
    h.back c.loop-field.out c.in-Some.ensures (c.loop-field.invariant h) in
    let p = err_from_is_err_and c.from_residual.result c.from_residual.ensures.1 in
    rw (p.1, p.2) (fails_so {X = ℕ} {Y = Unit {0}}
    (λ next. (j : HasHole (own_of c.in-Some.field) c.loop-field.place c.loop-field.out) → FillsOne
    (own_of c.in-Some.field) (length c.loop-field.out - c.args.base) j.front j.back c.fill.new.out next)
    (λ x. (j : HasHoles (own_left c.args.own) c.args.at c.args.out.now) → Fills (own_left c.args.own)
    (length c.args.out.now - c.args.base) j.front j.back c.fill.new.out) (own_nesting o)
    (own_nestings (own_left c.args.own)) c.args.depth _ f.3
    c.in_err-place.ensures)

pub put_values-loop-field-preserved : goal.put_values-loop-field-preserved
put_values-loop-field-preserved t c =
    λ h. values_next c.args.depth c.args.base (length c.args.out.now - c.args.base) c.loop-field.place
    c.in_ok-place.place (own_left c.args.own) (own_left c.loop-field.left) (own_left c.next.new.self)
    (own_of c.in-Some.field) h.front h.back c.loop-field.out c.fill.new.out c.in-Some.ensures
    (c.loop-field.invariant h) c.in_ok-place.ensures.0 c.in_ok-place.ensures.1

pub put_values-returns : goal.put_values-returns
put_values-returns t c =
    let last = λ (h : HasHoles (own_left c.args.own) c.args.at c.args.out.now). values_last c.args.depth c.args.base
    (length c.args.out.now - c.args.base) c.loop-field.place (own_left c.args.own) (own_left c.loop-field.left) h.front
    h.back c.loop-field.out c.in_default.ensures (c.loop-field.invariant h) in
    (λ h. (last h).0, (last c.requires.holes).1)

pub put_header-put_holes-requires : goal.put_header-put_holes-requires
put_header-put_holes-requires t c =
    let ready : AreReady (first_place (length c.args.out.now - c.args.base) c.args.class.now
    (own_header_size (own_left c.args.own))) (own_left c.args.own) = search rules in
    ready_named (own_left c.args.own) _ ready

pub put_header-put_values-requires : goal.put_header-put_values-requires
put_header-put_values-requires t c =
    let os = own_left c.args.own in
    let ready : AreReady (first_place (length c.args.out.now - c.args.base) c.args.class.now
    (own_header_size (own_left c.args.own))) (own_left c.args.own) = search rules in
    let below : c.args.base ≤ length c.args.out.now = search rules in
    let h : HeaderIs (own_left c.args.own) c.args.base c.args.class.now c.args.out.now c.put_text.new.out
    c.put_holes.new.out c.push.new.self = record {
      classed = c.in_ok-put_text.ensures;
      holes = c.in_ok-put_holes.ensures;
      end = c.in_ok-push.ensures.ok;
      below = below;
    } in
    let r = header_ready os c.args.base c.args.class.now c.args.out.now c.put_text.new.out c.put_holes.new.out
    c.push.new.self h ready in (
      search rules,
      (
        r.1,
        (
          r.0,
          subst (λ (n : ℕ). HasHoles (own_left c.args.own) n c.push.new.self) (sym c.len-at.ensures)
              (header_holes os c.args.base c.args.class.now c.args.out.now c.put_text.new.out c.put_holes.new.out
              c.push.new.self h),
        ),
      ),
    )

pub put_header-returns : goal.put_header-returns
put_header-returns t c =
    let os = own_left c.args.own in
    let new = c.put_values.new.out in
    let below : c.args.base ≤ length c.args.out.now = search rules in
    header_put os c.args.base c.args.depth c.args.class.now c.args.out.now c.put_text.new.out c.put_holes.new.out
    c.push.new.self new c.put_values.result (record {
      classed = c.in_ok-put_text.ensures;
      holes = c.in_ok-put_holes.ensures;
      end = c.in_ok-push.ensures.ok;
      below = below;
    }) (subst (λ (n : ℕ). Makes (λ x. (k : HasHoles (own_left c.args.own) n c.push.new.self)
    → Fills (own_left c.args.own) (length c.push.new.self - c.args.base) k.front k.back c.put_values.new.out)
    (own_nestings (own_left c.args.own)) c.args.depth c.put_values.result) c.len-at.ensures c.put_values.ensures)

pub put_document-put_header-requires : goal.put_document-put_header-requires
put_document-put_header-requires t c =
    let fs = c.args.document.now.fields in
    let same : own_left c.new.result ≡ merged c.args.document.now.fields []
    = c.new.ensures ∙ ap (λ (x : Fields). merged x []) c.as_slice.ensures.all in (
      search rules,
      (
        omega (arith, c.len-base.ensures),
        rw (c.len-base.ensures, c.as_str.ensures, same)
            (document_ready fs c.args.document.now.class c.args.out.now c.requires.proper c.requires.placed),
      ),
    )

pub put_document-returns : goal.put_document-returns
put_document-returns t c =
    let fs = c.args.document.now.fields in
    let same : own_left c.new.result ≡ merged c.args.document.now.fields []
    = c.new.ensures ∙ ap (λ (x : Fields). merged x []) c.as_slice.ensures.all in
    document_put fs c.args.depth c.args.document.now.class c.args.out.now c.put_header.new.out c.put_header.result
    c.as_slice.ensures.rising (omega arith)
    (rw (c.len-base.ensures, c.as_str.ensures, same) at c.put_header.ensures)
