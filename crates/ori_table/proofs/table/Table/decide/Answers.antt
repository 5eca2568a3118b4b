use Rattle.std.proofs.Common.{◌≡◌, ◌≤◌, ◌^◌, ℕ, List, [], ◌∷◌, length, map, sym, ap, ◌∙◌, subst, arith}
use Rattle.std.specs.List.{AllByRecursion}
use Rattle.ori_spec_data.specs.Base.{ClassData, BaseData, initial_base}
use Rattle.ori_spec_data.specs.Refusing.{refusal}
use Rattle.ori_model.specs.Data.{class_of, tx_of}
use Rattle.ori_decide.specs.declared.deciding.Decided.{Decided}
use Rattle.ori_decide.specs.Deciding.{base_over}
use Rattle.ori_decide.specs.Told.{Answers}
use Rattle.ori_rows.specs.Rows.{records_of, base_with}
use Rattle.ori_table.specs.Kept.{rows_of}
use Rattle.ori_table.proofs.Laying.{rows_length}
use Rattle.ori_table.proofs.table.Table.decide.Goals as goal

pub decide-requires-clause-next : goal.decide-requires-clause-next
decide-requires-clause-next c =
    subst (λ (ns : List ℕ). AllByRecursion (λ (n : ℕ). n ≤ 2 ^ 32) ns) (sym c.in_ok-next.ensures)
    (omega (arith, c.len.ensures.few), (omega arith, tt))

pub returns-clause-answers : goal.returns-clause-answers
returns-clause-answers c =
    let rows = rows_of c.args.self.now.0 in
    let classes = map class_of c.as_slice.result.now in
    let are : classes ≡ initial_base.schema.classes =
    ap (λ l. map class_of l) c.as_slice.ensures ∙ ap (λ s. s.classes) c.schema.ensures in
    let given : c.in_ok-next.next ≡ length rows ∷ 0 ∷ [] =
    c.in_ok-next.ensures ∙ ap (λ (n : ℕ). n ∷ 0 ∷ []) (c.len.ensures.count ∙ sym (rows_length c.args.self.now.0)) in
    let same : base_over classes c.in_ok-next.next (records_of rows) ≡ base_with rows =
    ap (λ (k : List ClassData). base_over k c.in_ok-next.next (records_of rows)) are
    ∙ ap (λ (ns : List ℕ). base_over initial_base.schema.classes ns (records_of rows)) given in
    subst (λ (b : BaseData). Answers {T = Decided} (refusal b (tx_of c.args.tx.now)) c.decide.result) same
    c.decide.ensures.answers
