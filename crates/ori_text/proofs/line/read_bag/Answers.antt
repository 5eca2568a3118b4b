use Rattle.std.proofs.Common.{◌∙◌, sym, ap}
use Rattle.std.proofs.lemmas.Bool.{false≢true}
use Rattle.ori_spec_texts.specs.Statement.{is_word}
use Rattle.ori_model.specs.Data.{dir_of}
use Rattle.ori_text.proofs.LineParts.{bag_rest, bag_text, bag_parts, bag_ends, is_bag}
use Rattle.ori_text.proofs.line.read_bag.Goals as goal

pub returns-in_err-after : goal.returns-in_err-after
returns-in_err-after c = rw c.from_residual.ensures (λ vertex dir class b. c.in_err-after.ensures _
    (b.3 ∙ bag_text b.0 _ class))

pub returns-in_err-link : goal.returns-in_err-link
returns-in_err-link c = rw c.from_residual-in_err-link.ensures
    (λ vertex dir class b. c.in_err-link.ensures _ _ (bag_rest c.args.text.now c.in_ok-after.field-0.now class vertex
    dir c.in_ok-after.ensures b))

pub returns-in_err-vertex : goal.returns-in_err-vertex
returns-in_err-vertex c =
    rw c.from_residual-in_err-vertex.ensures
    (λ vertex dir class b.
    let p = bag_parts c.args.text.now c.in_ok-after.field-0.now c.in_ok-link.link.now c.in_ok-link.rest.now class vertex
    dir c.in_ok-after.ensures c.in_ok-link.ensures b in
    c.in_err-vertex.ensures vertex p.link_is)

pub returns-in_err-dir : goal.returns-in_err-dir
returns-in_err-dir c =
    rw c.from_residual-in_err-dir.ensures
    (λ vertex dir class b.
    let p = bag_parts c.args.text.now c.in_ok-after.field-0.now c.in_ok-link.link.now c.in_ok-link.rest.now class vertex
    dir c.in_ok-after.ensures c.in_ok-link.ensures b in
    c.in_err-dir.ensures _ _ p.others_are)

pub returns-in_err-dir-2 : goal.returns-in_err-dir-2
returns-in_err-dir-2 c =
    rw c.from_residual-in_err-dir-2.ensures
    (λ vertex dir class b.
    let p = bag_parts c.args.text.now c.in_ok-after.field-0.now c.in_ok-link.link.now c.in_ok-link.rest.now class vertex
    dir c.in_ok-after.ensures c.in_ok-link.ensures b in
    let ends = bag_ends _ _ c.in_ok-dir.dir.now c.in_ok-dir.class.now class vertex dir c.in_ok-dir.ensures p in
    c.in_err-dir-2.ensures dir ends.0)

pub returns-then-not-is_word : goal.returns-then-not-is_word
returns-then-not-is_word c = λ vertex dir class b.
    let p = bag_parts c.args.text.now c.in_ok-after.field-0.now c.in_ok-link.link.now c.in_ok-link.rest.now class vertex
    dir c.in_ok-after.ensures c.in_ok-link.ensures b in
    let ends = bag_ends _ _ c.in_ok-dir.dir.now c.in_ok-dir.class.now class vertex dir c.in_ok-dir.ensures p in
    false≢true (c.if-not-is_word.ensures ∙ ap is_word ends.1 ∙ p.is_class)

pub returns : goal.returns
returns c =
    is_bag c.args.text.now c.in_ok-after.field-0.now c.in_ok-link.link.now c.in_ok-link.rest.now c.in_ok-dir.dir.now
    c.in_ok-dir.class.now c.in_ok-vertex.vertex (dir_of c.in_ok-dir-2.dir)
    c.in_ok-after.ensures c.in_ok-link.ensures c.in_ok-vertex.ensures c.in_ok-dir.ensures c.in_ok-dir-2.ensures
    (sym c.if-not-is_word.ensures)
