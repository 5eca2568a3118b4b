use Rattle.std.proofs.Common.{◌∙◌, ap, sym, ℕ, List}
use Rattle.std.proofs.lemmas.List.{map-id}
use Rattle.std.proofs.lemmas.Map.Iter.{iter_end}
use Rattle.ori_overlay.specs.Over.{images_of}
use Rattle.ori_overlay.proofs.overlay.listed.Goals as goal

pub returns-clause-images : goal.returns-clause-images
returns-clause-images c =
    let all =
    iter_end (λ (e : ℕ × List ℕ). e) c.args.pages.entries c.loop-page.yielded c.into_iter-page-iterator.result
    c.loop-page.page-iterator c.next.new.self c.next.result
    c.into_iter-page-iterator.ensures.into_iter_gives.0 c.loop-page.yielded_by c.in-None.is c.next.ensures.steps in
    c.loop-page.invariant ∙ ap (λ (l : List (ℕ × List ℕ)). images_of l) (sym (map-id c.loop-page.yielded) ∙ all.0)
