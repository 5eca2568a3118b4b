use Rattle.std.proofs.Common.{◌≡◌, List, [], length, Option, sym, ap, ◌∙◌, subst, arith}
use Rattle.std.specs.Vec.Iter.{into_iter_items, into_iter_steps}
use Rattle.ori_spec_data.specs.Base.{RecordData}
use Rattle.ori_rows.specs.Outcomes.{put_rows}
use Rattle.ori_table.specs.declared.outcome.Outcome.{Outcome}
use Rattle.ori_table.specs.Kept.{rows_of}
use Rattle.ori_table.specs.Data.{outcomes_data, CanLay}
use Rattle.ori_table.proofs.Laying.{no_outcomes}
use Rattle.ori_table.proofs.table.Table.lay.Goals as goal

pub loop-outcome-init : goal.loop-outcome-init
loop-outcome-init c =
    let gives = c.into_iter-outcome-iterator.ensures.into_iter_gives in
    record {
      rows = ap (λ (l : List Outcome). put_rows (rows_of c.args.self.now.0) (outcomes_data l)) gives.0;
      kept = subst (λ (l : List Outcome). CanLay (rows_of c.args.self.now.0) (outcomes_data l)) (sym gives.0)
          c.requires.kept;
      room = omega (arith, ap length gives.0, c.requires.room);
      long = gives.1 ∙ c.args.outcomes.ok.0 ∙ sym (ap length gives.0);
    }

pub put-requires-clause-room : goal.put-requires-clause-room
put-requires-clause-room c =
    let steps = subst (λ (o : Option Outcome). into_iter_steps c.loop-outcome.outcome-iterator o c.next.new.self)
    c.in-Some.is c.next.ensures.steps in
    omega (arith, c.loop-outcome.invariant.room, ap length steps.0)

pub put-requires-clause-kept : goal.put-requires-clause-kept
put-requires-clause-kept c =
    let steps = subst (λ (o : Option Outcome). into_iter_steps c.loop-outcome.outcome-iterator o c.next.new.self)
    c.in-Some.is c.next.ensures.steps in
    (subst (λ (l : List Outcome). CanLay (rows_of c.loop-outcome.self.0) (outcomes_data l)) steps.0
    c.loop-outcome.invariant.kept).0

pub loop-outcome-preserved : goal.loop-outcome-preserved
loop-outcome-preserved c =
    let steps = subst (λ (o : Option Outcome). into_iter_steps c.loop-outcome.outcome-iterator o c.next.new.self)
    c.in-Some.is c.next.ensures.steps in
    let later = subst (λ (l : List Outcome). CanLay (rows_of c.loop-outcome.self.0) (outcomes_data l)) steps.0
    c.loop-outcome.invariant.kept in
    record {
      rows = ap (λ (l : List (Option RecordData)). put_rows l (outcomes_data (into_iter_items c.next.new.self)))
          c.put.ensures.rows
          ∙ ap (λ (l : List Outcome). put_rows (rows_of c.loop-outcome.self.0) (outcomes_data l)) (sym steps.0)
          ∙ c.loop-outcome.invariant.rows;
      kept = subst (λ (l : List (Option RecordData)). CanLay l (outcomes_data (into_iter_items c.next.new.self))) (sym
          c.put.ensures.rows) later.1;
      room = omega (arith, c.loop-outcome.invariant.room, ap length steps.0, c.put.ensures.room);
      long = omega (arith, c.loop-outcome.invariant.long, ap length steps.0, steps.1);
    }

pub returns : goal.returns
returns c =
    let steps = subst (λ (o : Option Outcome). into_iter_steps c.loop-outcome.outcome-iterator o c.next.new.self)
    c.in-None.is c.next.ensures.steps in
    let none : into_iter_items c.loop-outcome.outcome-iterator ≡ [] = no_outcomes (into_iter_items
    c.loop-outcome.outcome-iterator) (omega (arith, c.loop-outcome.invariant.long, steps.0)) in
    ap (λ (l : List Outcome). put_rows (rows_of c.loop-outcome.self.0) (outcomes_data l)) (sym none)
    ∙ c.loop-outcome.invariant.rows
