use Rattle.std.proofs.Common.{◌≡◌, length, take, drop, ℕ, ◌-◌, List, arith, subst, sym, ap, ◌∙◌}
use Rattle.ori_volume.specs.Disk.{AreBytes}
use Rattle.ori_volmem.proofs.Bytes.{undo_bytes, put_bytes}
use Rattle.ori_volmem.proofs.TakenBack.{same_state, spans_back}
use Rattle.ori_volmem.proofs.memory_file.MemFile.write.Goals as goal

pub invariant_of-self-2-clause-are_bytes : goal.invariant_of-self-2-clause-are_bytes
invariant_of-self-2-clause-are_bytes c =
    subst AreBytes (sym c.in_ok-overwrite.ensures.ok)
    (put_bytes c.args.self.now.bytes.items c.args.piece.now c.args.at c.args.self.now.are_bytes
    (λ k. omega (arith, c.type_inv.piece k)))

pub returns-clause-undo : goal.returns-clause-undo
returns-clause-undo c =
    let old : List ℕ = c.args.self.now.bytes.items in
    let counts : c.args.self.now.bytes.len ≡ length old = c.args.self.now.bytes.ok.0 in
    let kept : c.undo_of-undo.result.saved.items ≡ take (c.min.result - c.undo_of-undo.result.place)
    (drop c.undo_of-undo.result.place old) =
    cc (c.in_ok-saved.ensures.items, c.undo_of-undo.ensures.saved, c.deref.ensures.value, c.undo_of-undo.ensures.place)
    in
    same_state _ _
    (undo_bytes old _ c.args.piece.now _ c.args.at c.min.result _ _ c.in_ok-overwrite.ensures.ok
    c.undo_of-undo.ensures.length
    (omega (arith, c.undo_of-undo.ensures.place)) (omega arith) kept)
    (spans_back _ _ _ _ _ _ c.undo_of-undo.ensures.spans (c.undo_of-undo.ensures.kept
    ∙ ap length c.in_ok-reserve.ensures.items) c.in_ok-reserve.ensures.items c.push_reserved.ensures)
    c.undo_of-undo.ensures.least c.undo_of-undo.ensures.greatest
