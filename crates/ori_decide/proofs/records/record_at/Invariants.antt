use Rattle.std.proofs.Common.{◌≡◌, map, drop}
use Rattle.ori_spec_data.specs.Records as statement
use Rattle.ori_model.specs.Data.{record_of}
use Rattle.ori_decide.proofs.records.record_at.Given as goal

abbrev pub invariant-loop-record : goal.invariant-loop-record
invariant-loop-record l = statement.record_at (map record_of l.stored) l.rid ≡ statement.record_at (map record_of (drop
    l.record-index l.stored)) l.rid
