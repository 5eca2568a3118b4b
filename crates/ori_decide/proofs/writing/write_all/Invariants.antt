use Rattle.std.proofs.Common.{◌≡◌, ◌+◌, map, take, drop}
use Rattle.ori_bytes.specs.declared.limits.TheConstants.{BASE_WEIGHT}
use Rattle.ori_spec_data.specs.Refusing.{first_refused, too_large_of}
use Rattle.ori_spec_data.specs.Weighing.{changes_weight}
use Rattle.ori_model.specs.Data.{change_of}
use Rattle.ori_decide.specs.Deciding.{written_data, writes}
use Rattle.ori_decide.proofs.writing.write_all.Given as goal

abbrev pub invariant-loop-change : goal.invariant-loop-change
invariant-loop-change g l = record {
  sizes : first_refused (too_large_of (g.R.Records.stored l.records) l.pairs) (map change_of l.changes)
      ≡ first_refused (too_large_of (g.R.Records.stored l.records) l.pairs) (map change_of (drop l.change-index
      l.changes));
  written : map written_data l.work.written.items
      ≡ map (writes l.pairs (g.R.Records.stored l.records)) (map change_of (take l.change-index l.changes));
  weighs : l.work.weight
      ≡ BASE_WEIGHT + changes_weight (g.R.Records.stored l.records) l.pairs (map change_of (take l.change-index
      l.changes));
}
