use Rattle.std.proofs.Common.{◌≡◌, List, ℕ, ◌++◌, subst}
use Rattle.std.specs.Result.{IfOk}
use Rattle.std.specs.Int.{w32, to_be_bytes}
use Rattle.ori_bytes.specs.declared.limits.TheConstants.{FREE_OWNER, FREE_KIND}
use Rattle.ori_page.specs.Pages.{filled, page_head}
use Rattle.ori_page.proofs.Page.free.Goals as goal

pub returns : goal.returns
returns c =
    let e : c.as_slice.result.now ≡ page_head FREE_OWNER FREE_KIND ++ to_be_bytes w32 c.args.next
    = cc (c.in_ok-front.ensures, c.in_ok-extend_from_slice.ensures.ok, c.to_be_bytes.ensures, c.as_slice.ensures) in
    subst (λ (front : List ℕ). IfOk c.filled.result (λ page. page ≡ filled front)) e c.filled.ensures
