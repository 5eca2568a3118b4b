use Rattle.ori_log.proofs.Forms.{log_broken}
use Rattle.ori_log.proofs.form.read_active.Goals as goal

pub returns-clause-not_a_log : goal.returns-clause-not_a_log
returns-clause-not_a_log g c = λ named is.
    let broken = c.read.ensures.not_a_log named is in (
      broken.0,
      log_broken c.args.sizes.now c.args.file c.of-length.result _ c.of-length.ensures c.requires.measured
          broken.1,
    )
