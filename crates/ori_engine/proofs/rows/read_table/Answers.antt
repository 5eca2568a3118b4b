use Rattle.std.proofs.Common.{◌≡◌, ◌+◌, ◌≤◌, ◌∙◌, ℕ, List, Option, length, sym, subst, rules, arith}
use Rattle.std.proofs.lemmas.List.{length-map}
use Rattle.ori_page.specs.Spaces.{page_at}
use Rattle.ori_model.specs.declared.record.Stored.{Stored}
use Rattle.ori_table.specs.Kept.{row_of, rows_of}
use Rattle.ori_paged.specs.PageRows.{HavePages}
use Rattle.ori_engine.specs.Reading.{IsCountOf, HasNoCount, AreReadFrom}
use Rattle.ori_engine.proofs.ReadRows.{ok_both, ok_map, have_pages, uncounted, unrecorded}
use Rattle.ori_engine.proofs.rows.read_table.Goals as goal

pub returns-in_err-count-clause-none : goal.returns-in_err-count-clause-none
returns-in_err-count-clause-none g c = λ e pages gives.
    let read = c.in_ok-head.ensures.pages pages gives in
    let there : c.count-there.result ≡ length pages =
    c.count-there.ensures ∙ sym (g.met.P.PageSpace.counts c.args.space.now pages gives) in
    let none : HasNoCount c.in_ok-head.head c.count-there.result = c.in_err-count.ensures.none (search (rules, e)) in
    uncounted pages (subst (λ (n : ℕ). HasNoCount (page_at pages 0) n) there
    (subst (λ (h : List ℕ). HasNoCount h c.count-there.result) read.1 none))

pub returns-clause-rows : goal.returns-clause-rows
returns-clause-rows g c =
    ok_both
    (λ (t : List (Option Stored) × ℕ). (pages : List (List ℕ)) → g.P.PageSpace.gives c.read_page.new.space pages
    → g.P.PageSpace.gives c.read_rows.new.space pages × AreReadFrom pages (rows_of t.0))
    (λ (t : List (Option Stored) × ℕ). length t.0 + 1 ≡ c.in_ok-count.count)
    (λ (t : List (Option Stored) × ℕ). (pages : List (List ℕ)) → g.P.PageSpace.gives c.args.space.now pages
    → g.P.PageSpace.gives c.read_rows.new.space pages × HavePages (rows_of t.0) pages)
    c.read_rows.result
    (λ t read all. λ pages gives.
    let head = c.in_ok-head.ensures.pages pages gives in
    let rows = read pages head.0 in
    let there : c.count-there.result ≡ length pages =
    c.count-there.ensures ∙ sym (g.met.P.PageSpace.counts c.args.space.now pages gives) in
    let counted : IsCountOf c.in_ok-head.head c.count-there.result c.in_ok-count.count = c.in_ok-count.ensures.count in
    let long : length (rows_of t.0) ≡ length t.0 = length-map t.0 row_of in (
      rows.0,
      have_pages pages (rows_of t.0) c.in_ok-count.count (omega (arith, counted.within, there))
          (sym head.1 ∙ counted.form) (omega (arith, long, all)) rows.1,
    ))
    c.read_rows.ensures.rows c.read_rows.ensures.all

pub returns-clause-none : goal.returns-clause-none
returns-clause-none g c = λ e pages gives.
    let head = c.in_ok-head.ensures.pages pages gives in
    let there : c.count-there.result ≡ length pages =
    c.count-there.ensures ∙ sym (g.met.P.PageSpace.counts c.args.space.now pages gives) in
    let counted : IsCountOf (page_at pages 0) (length pages) c.in_ok-count.count =
    subst (λ (n : ℕ). IsCountOf (page_at pages 0) n c.in_ok-count.count) there
    (subst (λ (h : List ℕ). IsCountOf h c.count-there.result c.in_ok-count.count) head.1
    c.in_ok-count.ensures.count) in
    let bad = c.read_rows.ensures.none e pages head.0 in
    unrecorded pages c.in_ok-count.count bad.0 counted bad.1 bad.2

pub returns-clause-within : goal.returns-clause-within
returns-clause-within g c =
    let counted : IsCountOf c.in_ok-head.head c.count-there.result c.in_ok-count.count = c.in_ok-count.ensures.count in
    ok_map (λ (t : List (Option Stored) × ℕ). length t.0 + 1 ≡ c.in_ok-count.count)
    (λ (t : List (Option Stored) × ℕ). length t.0 + 1 ≤ g.P.PageSpace.count c.args.space.now) c.read_rows.result
    (λ t all. omega (arith, all, counted.within, c.count-there.ensures)) c.read_rows.ensures.all
