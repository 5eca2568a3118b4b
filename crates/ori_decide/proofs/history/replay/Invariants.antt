use Rattle.std.proofs.Common.{◌≡◌, drop}
use Rattle.ori_spec_data.specs.Apply as spec
use Rattle.ori_spec_data.specs.Histories.{IsLegalHistory}
use Rattle.ori_spec_data.specs.Soundness.{IsSoundBase}
use Rattle.ori_model.specs.Data.{base_of, entries_of}
use Rattle.ori_decide.proofs.history.replay.Given as goal

abbrev pub invariant-loop-entry : goal.invariant-loop-entry
invariant-loop-entry l = record {
  leads : spec.replay (base_of l.reached) (entries_of (drop l.entry-index l.entry-items)) ≡ spec.replay (base_of
      l.fn.base) (entries_of l.entry-items);
  sound : IsSoundBase (base_of l.reached);
  legal : IsLegalHistory (base_of l.reached) (entries_of (drop l.entry-index l.entry-items));
}
