use Rattle.std.proofs.Common.{◌∙◌, ap, sym, ℕ, List, map}
use Rattle.std.proofs.lemmas.List.{map-id}
use Rattle.std.proofs.lemmas.Map.Iter.{iter_end}
use Rattle.ori_log.proofs.Entries.{entry_image, pages_rise, pages_last}
use Rattle.ori_log.proofs.tail.Tail.into_images.Goals as goal

pub returns-clause-rising : goal.returns-clause-rising
returns-clause-rising c =
    let all =
    iter_end (λ (e : ℕ × List ℕ). e) c.args.self.pages.entries c.loop-page.yielded c.into_iter-page-iterator.result
    c.loop-page.page-iterator c.next.new.self c.next.result
    c.into_iter-page-iterator.ensures.into_iter_gives.0 c.loop-page.yielded_by c.in-None.is c.next.ensures.steps in
    pages_rise c.args.self.pages c.loop-page.images (c.loop-page.invariant
    ∙ ap (λ (l : List (ℕ × List ℕ)). map entry_image l) (sym (map-id c.loop-page.yielded) ∙ all.0))
    c.into_iter-page-iterator.ensures.into_iter_gives.5 c.requires.bounded

pub returns-clause-last : goal.returns-clause-last
returns-clause-last c =
    let all =
    iter_end (λ (e : ℕ × List ℕ). e) c.args.self.pages.entries c.loop-page.yielded c.into_iter-page-iterator.result
    c.loop-page.page-iterator c.next.new.self c.next.result
    c.into_iter-page-iterator.ensures.into_iter_gives.0 c.loop-page.yielded_by c.in-None.is c.next.ensures.steps in
    pages_last c.args.self.pages c.loop-page.images (c.loop-page.invariant
    ∙ ap (λ (l : List (ℕ × List ℕ)). map entry_image l) (sym (map-id c.loop-page.yielded) ∙ all.0))
    c.into_iter-page-iterator.ensures.into_iter_gives.5
