use Rattle.std.proofs.Common.{◌∙◌, ◌++◌, ◌∷◌, [], List, ℕ, ap}
use Rattle.ori_page.proofs.memory_pages.MemPages.empty.Goals as goal

pub returns : goal.returns
returns c =
    c.in_ok-push.ensures.items ∙ ap (λ (l : List (List ℕ)). l ++ c.in_ok-page.page ∷ []) c.new-pages.ensures.items
    ∙ ap (λ (p : List ℕ). p ∷ []) c.in_ok-page.ensures
