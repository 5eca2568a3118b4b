use Rattle.std.proofs.Common.{sym, subst, arith}
use Rattle.ori_spec_data.specs.Soundness.{IsSoundBase}
use Rattle.ori_model.specs.Data.{base_of, entry_of}
use Rattle.ori_decide.proofs.Entries.{accepts, accepted_sound, legal_after, leads_after}
use Rattle.ori_decide.proofs.history.replay.Goals as goal

pub apply-requires-clause-accepted : goal.apply-requires-clause-accepted
apply-requires-clause-accepted c = accepts (base_of c.loop-entry.reached) c.as_slice-entry-items.result.now
    c.loop-entry.entry-index c.entry-item.result (omega arith) c.entry-item.is c.loop-entry.invariant.legal

pub loop-entry-preserved : goal.loop-entry-preserved
loop-entry-preserved c =
    let accepted = accepts (base_of c.loop-entry.reached) c.as_slice-entry-items.result.now c.loop-entry.entry-index
    c.entry-item.result (omega arith) c.entry-item.is c.loop-entry.invariant.legal in
    record {
      leads = leads_after (base_of c.loop-entry.reached) _ _ c.as_slice-entry-items.result.now c.loop-entry.entry-index
          c.entry-item.result (omega arith) c.entry-item.is c.in_ok-next.ensures c.loop-entry.invariant.leads;
      sound = subst IsSoundBase (sym c.in_ok-next.ensures) (accepted_sound (base_of c.loop-entry.reached) (entry_of
          c.entry-item.result) c.loop-entry.invariant.sound accepted);
      legal = legal_after (base_of c.loop-entry.reached) _ c.as_slice-entry-items.result.now c.loop-entry.entry-index
          c.entry-item.result (omega arith) c.entry-item.is c.in_ok-next.ensures c.loop-entry.invariant.legal;
    }
