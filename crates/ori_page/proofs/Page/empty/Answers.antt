use Rattle.std.proofs.Common.{◌≡◌, List, ℕ, subst}
use Rattle.std.specs.Result.{IfOk}
use Rattle.ori_page.specs.Pages.{filled, page_head}
use Rattle.ori_page.proofs.Page.empty.Goals as goal

pub returns : goal.returns
returns c =
    let e : c.as_slice.result.now ≡ page_head c.args.owner c.args.kind
    = cc (c.in_ok-front.ensures, c.as_slice.ensures) in
    subst (λ (front : List ℕ). IfOk c.filled.result (λ page. page ≡ filled front)) e c.filled.ensures
