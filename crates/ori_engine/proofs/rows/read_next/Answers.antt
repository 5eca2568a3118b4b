use Rattle.std.proofs.Common.{◌≡◌, ◌∙◌, sym, subst, ℕ, length, arith}
use Rattle.std.proofs.lemmas.List.{length-map}
use Rattle.ori_table.specs.Kept.{row_of, rows_of}
use Rattle.ori_engine.specs.Reading.{IsRowAt}
use Rattle.ori_engine.proofs.ReadRows.{kept_more}
use Rattle.ori_engine.proofs.rows.read_next.Goals as goal

pub push-requires : goal.push-requires
push-requires g c =
    let rows = rows_of c.args.table.now.0 in
    let long : length rows ≡ length c.args.table.now.0 = length-map c.args.table.now.0 row_of in
    let is : IsRowAt (length rows) c.in_ok-page.page (row_of c.in_ok-row.row) = subst (λ
    (n : ℕ). IsRowAt n c.in_ok-page.page (row_of c.in_ok-row.row)) (c.len-place.ensures.count
    ∙ sym long) c.in_ok-row.ensures.row in
    kept_more rows c.in_ok-page.page (row_of c.in_ok-row.row) c.keeps.ensures is
    (omega (arith, long, c.requires.page, c.requires.few))
