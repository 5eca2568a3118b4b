use Rattle.std.proofs.Common.{List, Option, ℕ, ◌∙◌, ap, sym, subst, arith}
use Rattle.ori_model.specs.declared.record.Stored.{Stored}
use Rattle.ori_table.specs.Kept.{rows_of, AreKept}
use Rattle.ori_table.proofs.Laying.{put_there}
use Rattle.ori_table.proofs.table.Table.put.Goals as goal
use Rattle.ori_table.proofs.table.Table.put.Goals.{in-Some-1, in-None-1}

pub invariant_of-self : goal.invariant_of-self
invariant_of-self c =
    let now = ap (λ (v : List (Option Stored) × ℕ). v.0) c.self.view_is in (
      c.self.invariant.0,
      subst AreKept (put_there c.self.inside.rows.items c.args.self.now.0 c.args.outcome now (omega
          (arith, c.if-at-len.true, c.len.ensures, c.self.inside.rows.ok.0))) c.requires.kept,
    )

pub invariant_of-self-then-at-len-2 : goal.invariant_of-self-then-at-len-2
invariant_of-self-then-at-len-2 c =
    let now = ap (λ (v : List (Option Stored) × ℕ). v.0) c.self.view_is in (
      c.self.invariant.0,
      subst AreKept (put_there c.self.inside.rows.items c.args.self.now.0 c.args.outcome now (omega
          (arith, c.if-at-len.true, c.len.ensures, c.self.inside.rows.ok.0))) c.requires.kept,
    )

pub returns-then-at-len-clause-rows : goal.returns-then-at-len-clause-rows
returns-then-at-len-clause-rows c =
    let now = ap (λ (v : List (Option Stored) × ℕ). v.0) c.self.view_is in
    let same = put_there c.self.inside.rows.items c.args.self.now.0 c.args.outcome now (omega (
      arith,
      c.if-at-len.true,
      c.len.ensures,
      c.self.inside.rows.ok.0,
    )) in
    elim c.match-index_mut-row.branch [
      | in-Some-1 w ↦ ap (λ (v : List (Option Stored) × ℕ). rows_of v.0) w.self-is ∙ sym same
      | in-None-1 w ↦ ap (λ (v : List (Option Stored) × ℕ). rows_of v.0) w.self-is ∙ sym same
    ]
