use Rattle.std.proofs.Common.{◌≡◌, List, [], length, map, Option, sym, ap, ◌∙◌, subst, arith, refl}
use Rattle.std.specs.Vec.Iter.{into_iter_items, into_iter_steps}
use Rattle.ori_decide.specs.declared.writing.Written.{Written}
use Rattle.ori_decide.specs.Deciding.{written_data}
use Rattle.ori_table.specs.Data.{outcomes_data, placed}
use Rattle.ori_table.proofs.Laying.{one_more, none_left, all_done}
use Rattle.ori_table.proofs.outcome.outcomes_of.Goals as goal

pub loop-one-init : goal.loop-one-init
loop-one-init c =
    let gives = c.into_iter-one-iterator.ensures.into_iter_gives in
    record {
      done = rw c.new-outcomes.ensures.items (ap (λ (l : List Written). map placed (map written_data l)) gives.0);
      long = gives.1 ∙ c.args.written.ok.0 ∙ sym (ap length gives.0);
    }

pub loop-one-preserved : goal.loop-one-preserved
loop-one-preserved c =
    let steps = subst (λ (o : Option Written). into_iter_steps c.loop-one.one-iterator o c.next.new.self) c.in-Some.is
    c.next.ensures.steps in
    record {
      done = one_more c.loop-one.outcomes.items c.push.new.self.items (into_iter_items c.loop-one.one-iterator)
          (into_iter_items c.next.new.self) c.in-Some.one c.place_in.result c.in-Some.one.left
          c.in_ok-push.ensures.items steps.0
          c.place_in.ensures refl ∙ c.loop-one.invariant.done;
      long = omega (arith, c.loop-one.invariant.long, ap length steps.0, steps.1);
    }

pub returns : goal.returns
returns c =
    let steps = subst (λ (o : Option Written). into_iter_steps c.loop-one.one-iterator o c.next.new.self) c.in-None.is
    c.next.ensures.steps in
    let none : into_iter_items c.loop-one.one-iterator ≡ [] =
    none_left (into_iter_items c.loop-one.one-iterator) (omega (arith, c.loop-one.invariant.long, steps.0)) in
    all_done (outcomes_data c.loop-one.outcomes.items) (into_iter_items c.loop-one.one-iterator) none
    ∙ c.loop-one.invariant.done
