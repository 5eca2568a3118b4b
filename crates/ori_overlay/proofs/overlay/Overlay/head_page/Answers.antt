use Rattle.std.proofs.Common.{◌≡◌, ◌∙◌, false, ap, sym, rules}
use Rattle.ori_page.specs.Spaces.{is_head_page}
use Rattle.ori_overlay.specs.declared.changes.Changes.{Changes}
use Rattle.ori_overlay.proofs.Freeing.{head_damaged}
use Rattle.ori_overlay.proofs.overlay.Overlay.head_page.Goals as goal

pub returns-then-not-is_head_of-clause-why : goal.returns-then-not-is_head_of-clause-why
returns-then-not-is_head_of-clause-why g c =
    let fails : is_head_page c.in_ok-top.top c.count.result ≡ false = search rules in
    let many = c.count.ensures ∙ ap (λ (x : Changes). x.count) c.in_ok-top.ensures.changes in
    λ base pages gives over.
    head_damaged pages c.in_ok-top.top c.args.self.now.changes.count
    (c.in_ok-top.ensures.content base pages gives over) over.count c.args.self.now.changes.some
    (ap (λ n. is_head_page c.in_ok-top.top n) (sym many) ∙ fails)
