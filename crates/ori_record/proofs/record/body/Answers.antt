use Rattle.std.proofs.Common.{map}
use Rattle.ori_bytes.specs.declared.limits.TheConstants.{MAX_NESTING}
use Rattle.ori_record.specs.Reading.{value_at}
use Rattle.ori_record.specs.Seen.{head_data}
use Rattle.ori_record.proofs.OwnReads.{both_rise}
use Rattle.ori_record.proofs.Records.{own_heads_taken}
use Rattle.ori_record.proofs.record.body.Goals as goal

pub from_vec-requires : goal.from_vec-requires
from_vec-requires c =
    let up = (own_heads_taken _ _ _ c.in_ok-heads.ensures).1 in
    (both_rise (value_at MAX_NESTING) c.args.from (map head_data c.in_ok-heads.heads.items) _ _ _ _
    c.in_ok-pairs.ensures up).0

pub from_vec-requires-2 : goal.from_vec-requires-2
from_vec-requires-2 c =
    let up = (own_heads_taken _ _ _ c.in_ok-heads.ensures).1 in
    (both_rise (value_at MAX_NESTING) c.args.from (map head_data c.in_ok-heads.heads.items) _ _ _ _
    c.in_ok-pairs.ensures up).1
