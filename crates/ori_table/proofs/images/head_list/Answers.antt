use Rattle.std.proofs.Common.{List, ℕ, ◌++◌, ◌∷◌, [], ap, ◌∙◌}
use Rattle.ori_log.specs.Log.{ImageData}
use Rattle.ori_table.proofs.images.head_list.Goals as goal

pub returns : goal.returns
returns c =
    let one : List ℕ → List ImageData = λ content. record { page = 0; content = content } ∷ [] in
    c.in_ok-push.ensures.ok ∙ ap (λ (l : List ImageData). l ++ one c.in_ok-head_page.field-0) c.new-images.ensures
    ∙ ap one c.in_ok-head_page.ensures
