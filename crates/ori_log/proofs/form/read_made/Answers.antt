use Rattle.std.proofs.Common.{rules, ◌≡◌, sym, ◌∙◌, true≢false}
use Rattle.ori_volume.specs.declared.file.FileNo.TheVariants.{Pages}
use Rattle.ori_log.proofs.Forms.{homes_broken}
use Rattle.ori_log.proofs.form.read_made.Goals as goal

pub returns-then-not-homes_stand-clause-not_a_log : goal.returns-then-not-homes_stand-clause-not_a_log
returns-then-not-homes_stand-clause-not_a_log g c = λ named is.
    let same : Pages ≡ named = search rules in
    homes_broken c.args.sizes.now c.args.file named c.in_ok-tail.tail _ c.requires.measured
    c.if-sizes-gt-MAX_LOG_BYTES.false c.if-sizes-gt-MAX_LOG_BYTES-2.false c.in_ok-tail.ensures.value
    (λ stands. true≢false (sym (c.homes_stand.ensures.1 stands) ∙ c.if-not-homes_stand.true)) same
