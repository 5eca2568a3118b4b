use Rattle.std.proofs.Common.{◌≡◌, List, ℕ, subst}
use Rattle.std.specs.Result.{IfOk}
use Rattle.ori_page.specs.Pages.{filled}
use Rattle.ori_page.specs.Heads.{head_bytes}
use Rattle.ori_page.proofs.head.Head.page.Goals as goal

pub returns : goal.returns
returns c =
    let e : c.as_slice.result.now ≡ head_bytes c.args.self.now = cc (c.in_ok-front.ensures, c.as_slice.ensures) in
    subst (λ (front : List ℕ). IfOk c.filled.result (λ page. page ≡ filled front)) e c.filled.ensures
