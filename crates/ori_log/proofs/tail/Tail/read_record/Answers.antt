use Rattle.std.proofs.Common.{arith, refl, sym, ap, true≢false, ◌≡◌, ◌+◌, ℕ}
use Rattle.ori_volume.proofs.OnlyRead.{read_then}
use Rattle.ori_log.specs.declared.fault.LogFault.TheVariants.{NotALog}
use Rattle.ori_log.proofs.Reading.{told_at_end, told_ends, told_unfit, told_broken, told_more, passed_on}
use Rattle.ori_log.proofs.tail.Tail.read_record.Goals as goal

pub returns-then-self-len-clause-not_a_log : goal.returns-then-self-len-clause-not_a_log
returns-then-self-len-clause-not_a_log g c named is =
    (cc, told_at_end (g.V.Volume.files c.args.volume.now) c.args.file c.args.len c.args.self.now (omega arith))

pub returns-then-head-clause-value : goal.returns-then-head-clause-value
returns-then-head-clause-value g c =
    told_ends (g.V.Volume.files c.args.volume.now) c.args.file c.args.len c.args.self.now c.in_ok-head.head
    (omega arith) c.in_ok-head.ensures.value c.if-head.true

pub returns-then-not-fits-clause-not_a_log : goal.returns-then-not-fits-clause-not_a_log
returns-then-not-fits-clause-not_a_log g c named is = (
  cc,
  told_unfit (g.V.Volume.files c.args.volume.now) c.args.file c.args.len c.args.self.now c.in_ok-head.head (omega arith)
      c.in_ok-head.ensures.value c.if-head.false
      c.if-not-fits.ensures.small.0 c.if-not-fits.ensures.small.1
      (λ fits. true≢false (sym (c.if-not-fits.ensures.value.1 fits))),
)

pub returns-in_err-read_images-clause-not_a_log : goal.returns-in_err-read_images-clause-not_a_log
returns-in_err-read_images-clause-not_a_log g c named is =
    let fault : NotALog named ≡ c.in_err-read_images.field-0.0 =
    passed_on c.in_err-read_images.field-0.0 c.from_residual-in_err-read_images.result
    c.from_residual-in_err-read_images.ensures.1 (NotALog named) is in
    let told = c.in_err-read_images.ensures.not_a_log named (cc fault) in (
      told.0,
      told_broken (g.V.Volume.files c.args.volume.now) c.args.file c.args.len c.args.self.now c.in_ok-head.head
          (omega arith) c.in_ok-head.ensures.value
          (g.V.Volume.files c.read.new.volume) c.read.ensures.same.files c.if-head.false
          (c.if-not-fits.ensures.value.0 refl)
          c.if-not-fits.ensures.small.0 c.if-not-fits.ensures.small.1 told.1,
    )

pub returns-in_err-read_images-clause-same : goal.returns-in_err-read_images-clause-same
returns-in_err-read_images-clause-same g c = read_then _ _ _ c.read.ensures.same c.read_images.ensures.same

pub returns-clause-value : goal.returns-clause-value
returns-clause-value g c =
    told_more (g.V.Volume.files c.args.volume.now) c.args.file c.args.len c.args.self.now c.in_ok-head.head
    (omega arith) c.in_ok-head.ensures.value (g.V.Volume.files c.read.new.volume)
    c.read.ensures.same.files c.if-head.false (c.if-not-fits.ensures.value.0 refl) c.read_images.new.self _
    c.in_ok-read_images.ensures.value refl refl
    (ap (λ (n : ℕ). n + (5 + c.in_ok-head.head.body)) c.read_images.ensures.place)
    (ap (λ (n : ℕ). n + 1) c.read_images.ensures.records)
