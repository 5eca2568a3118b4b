use Rattle.std.proofs.Common.{◌≡◌}
use Rattle.ori_log.specs.declared.fault.LogFault.TheVariants.{NotALog}
use Rattle.ori_log.proofs.Reading.{passed_on, no_log_told}
use Rattle.ori_log.proofs.tail.Tail.read.Goals as goal

pub returns-in_err-read_record-clause-not_a_log : goal.returns-in_err-read_record-clause-not_a_log
returns-in_err-read_record-clause-not_a_log g c named is =
    let fault : NotALog named ≡ c.in_err-read_record.field-0.0 =
    passed_on c.in_err-read_record.field-0.0 c.from_residual.result c.from_residual.ensures.1 (NotALog named) is in
    let told = c.in_err-read_record.ensures.not_a_log named (cc fault) in (
      told.0,
      no_log_told (g.V.Volume.files c.args.volume.now) (g.V.Volume.files c.loop-tail.volume) c.args.file c.args.len
          c.loop-tail.tail c.loop-tail.invariant.same.files
          c.loop-tail.invariant.value told.1,
    )
