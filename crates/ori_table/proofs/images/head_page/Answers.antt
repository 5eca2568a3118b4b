use Rattle.std.proofs.Common.{◌≡◌, List, ℕ, ◌++◌, subst}
use Rattle.std.specs.Result.{IfOk}
use Rattle.std.specs.Int.{w32, to_be_bytes}
use Rattle.ori_bytes.specs.declared.limits.TheConstants.{HEAD_OWNER, HEAD_KIND, STAGE_FORMAT}
use Rattle.ori_page.specs.Pages.{filled, page_head}
use Rattle.ori_table.proofs.images.head_page.Goals as goal

pub returns : goal.returns
returns c =
    let e : c.as_slice.result.now ≡ page_head HEAD_OWNER HEAD_KIND ++ to_be_bytes w32 STAGE_FORMAT ++ to_be_bytes w32
    c.args.count
    = cc (
      c.in_ok-front.ensures,
      c.in_ok-extend_from_slice.ensures.ok,
      c.in_ok-extend_from_slice-2.ensures.ok,
      c.to_be_bytes.ensures,
      c.to_be_bytes-2.ensures,
      c.as_slice.ensures,
    ) in
    subst (λ (front : List ℕ). IfOk c.filled.result (λ page. page ≡ filled front)) e c.filled.ensures
