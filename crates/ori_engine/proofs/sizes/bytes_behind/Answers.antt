use Rattle.std.proofs.Common.{◌≡◌, ℕ, suc, ◌+◌, List, ◌∷◌, map, drop, drop-cons, sym, ap, ◌∙◌, arith}
use Rattle.ori_spec_data.specs.Weighing.{changes_bytes}
use Rattle.ori_model.specs.declared.change.Change.{Change}
use Rattle.ori_model.specs.Data.{change_of}
use Rattle.ori_engine.proofs.sizes.bytes_behind.Goals as goal

pub loop-change-preserved : goal.loop-change-preserved
loop-change-preserved c =
    let i = c.loop-change.change-index in
    let x = c.change-item.result in
    let changes = c.args.changes.now in
    let next : suc i ≡ i + 1 = omega arith in
    let here : drop i changes ≡ x ∷ drop (i + 1) changes = drop-cons changes i x (omega arith)
    ∙ ap (λ (y : Change). y ∷ drop (suc i) changes) (sym c.change-item.is) ∙ ap (λ (n : ℕ). x ∷ drop n changes) next in
    let step = ap (λ (l : List Change). changes_bytes (map change_of l)) here in
    omega (arith, c.loop-change.invariant, step, c.in_ok-more.ensures, c.in_ok-next.ensures)
