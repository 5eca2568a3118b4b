use Rattle.std.proofs.Common.{◌≡◌, length, refl}
use Rattle.std.proofs.lemmas.Result.{on_ok_weaker}
use Rattle.ori_record.proofs.Putting.{both_added}
use Rattle.ori_record.specs.Spelling.{IsCount}
use Rattle.ori_record.proofs.leaves.put_bytes.Goals as goal

pub returns : goal.returns
returns c =
    on_ok_weaker c.extend_from_slice.result
    (λ e. both_added (IsCount (length c.args.bytes.now)) (λ b. b ≡ c.args.bytes.now) _ _ _ c.in_ok-put_count.ensures
    (c.args.bytes.now, refl, e)) c.extend_from_slice.ensures.ok
