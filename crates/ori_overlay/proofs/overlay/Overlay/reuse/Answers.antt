use Rattle.std.proofs.Common.{◌≡◌, ◌∙◌, ℕ, true, false, ap, sym, subst, refl, rules, arith}
use Rattle.std.proofs.lemmas.Result.{err_from_is_err_and}
use Rattle.ori_page.specs.Spaces.{is_free_page}
use Rattle.ori_page.specs.Heads.{head_of}
use Rattle.ori_page.specs.declared.head.Head.{Head}
use Rattle.ori_overlay.specs.Changed.{Shows}
use Rattle.ori_overlay.specs.declared.changes.Changes.{Changes}
use Rattle.ori_overlay.proofs.Freeing.{is_reused, listed_damaged}
use Rattle.ori_overlay.proofs.Stepping.{reads_on, ok_counted, err_counted}
use Rattle.ori_overlay.proofs.overlay.Overlay.reuse.Goals as goal

pub returns-clause-pages : goal.returns-clause-pages
returns-clause-pages g c =
    let listed : is_free_page c.in_ok-free.free c.count.result ≡ true = search rules in
    let many = c.count.ensures ∙ ap (λ (x : Changes). x.count) c.in_ok-free.ensures.changes in
    let first : c.read-head.result.first_free ≡ (head_of c.args.top).first_free
    = ap (λ (h : Head). h.first_free) c.read-head.ensures.value in
    λ base pages gives over is_top.
    let free_is = c.in_ok-free.ensures.content base pages gives over in
    let still = c.in_ok-free.ensures.reads.stay base gives in
    let shown : Shows c.get.new.self.changes base pages
    = subst (λ (x : Changes). Shows x base pages) (sym c.in_ok-free.ensures.changes) over in
    let headed = c.in_ok-put_head.ensures.pages base pages still shown in (
      _,
      c.in_ok-put.ensures.pages base _ (c.put_head.ensures.reads.stay base still) headed,
      is_reused pages c.args.owner c.args.kind c.read-head.result.first_free c.args.top c.in_ok-free.free
          c.in_ok-page.page _ is_top free_is first (omega (arith, first, c.requires.above))
          (omega (arith, first, c.requires.below, over.count))
          (ap (λ (n : ℕ). is_free_page c.in_ok-free.free n) (over.count ∙ sym many) ∙ listed)
          (search rules) c.put_head.ensures.fits c.in_ok-page.ensures,
    )

pub returns-then-not-is_free-clause-why : goal.returns-then-not-is_free-clause-why
returns-then-not-is_free-clause-why g c =
    let fails : is_free_page c.in_ok-free.free c.count.result ≡ false = search rules in
    let many = c.count.ensures ∙ ap (λ (x : Changes). x.count) c.in_ok-free.ensures.changes in
    let first : c.read-head.result.first_free ≡ (head_of c.args.top).first_free
    = ap (λ (h : Head). h.first_free) c.read-head.ensures.value in
    λ base pages gives over is_top.
    listed_damaged pages c.args.top c.in_ok-free.free c.read-head.result.first_free c.args.self.now.changes.count is_top
    (c.in_ok-free.ensures.content base pages gives over) over.count c.args.self.now.changes.some first
    (omega (arith, first, c.requires.above)) (ap (λ (n : ℕ). is_free_page c.in_ok-free.free n) (sym many) ∙ fails)

pub returns-in_err-put_head-clause-reads : goal.returns-in_err-put_head-clause-reads
returns-in_err-put_head-clause-reads g c =
    let p = err_from_is_err_and c.from_residual-in_err-put_head.result c.from_residual-in_err-put_head.ensures.1 in
    reads_on _ _ _ _ g.met.S.PageSource.keeps_on c.get.result c.put_head.result
    c.from_residual-in_err-put_head.result _ _ _
    (ok_counted c.get.result _ c.in_ok-free.was) (err_counted _ _ _ _ c.in_err-put_head.was p.1 p.2)
    c.get.ensures.reads c.put_head.ensures.reads

pub returns-in_err-put-clause-reads : goal.returns-in_err-put-clause-reads
returns-in_err-put-clause-reads g c =
    let p = err_from_is_err_and c.from_residual-in_err-put.result c.from_residual-in_err-put.ensures.1 in
    reads_on _ _ _ _ g.met.S.PageSource.keeps_on c.put_head.result c.put.result c.from_residual-in_err-put.result _ _ _
    (ok_counted c.put_head.result _ c.in_ok-put_head.was) (err_counted _ _ _ _ c.in_err-put.was p.1 p.2)
    (reads_on _ _ _ _ g.met.S.PageSource.keeps_on c.get.result c.put_head.result c.put_head.result _ _ _
    (ok_counted c.get.result _ c.in_ok-free.was) (λ x. refl) c.get.ensures.reads c.put_head.ensures.reads)
    c.put.ensures.reads

pub returns-clause-reads : goal.returns-clause-reads
returns-clause-reads g c =
    reads_on _ _ _ _ g.met.S.PageSource.keeps_on c.put_head.result c.put.result _ _ _ _
    (ok_counted c.put_head.result _ c.in_ok-put_head.was) (λ x. sym (ok_counted c.put.result _ c.in_ok-put.was x))
    (reads_on _ _ _ _ g.met.S.PageSource.keeps_on c.get.result c.put_head.result c.put_head.result _ _ _
    (ok_counted c.get.result _ c.in_ok-free.was) (λ x. refl) c.get.ensures.reads c.put_head.ensures.reads)
    c.put.ensures.reads
