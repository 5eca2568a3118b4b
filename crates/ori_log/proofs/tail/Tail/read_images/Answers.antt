use Rattle.std.proofs.Common.{refl, ◌≡◌, ◌+◌, ◌*◌, arith}
use Rattle.ori_volume.proofs.OnlyRead.{read_then}
use Rattle.ori_log.specs.Images.{image_data}
use Rattle.ori_log.specs.declared.fault.LogFault.TheVariants.{NotALog}
use Rattle.ori_log.specs.declared.stage.TheConstants.{IMAGE_BYTES}
use Rattle.ori_log.proofs.Reading.{images_step, images_broken, bounded_more, passed_on}
use Rattle.ori_log.proofs.tail.Tail.read_images.Goals as goal

pub returns-in_err-page-clause-not_a_log : goal.returns-in_err-page-clause-not_a_log
returns-in_err-page-clause-not_a_log g c named is =
    let fault : NotALog named ≡ c.in_err-page.field-0.0 =
    passed_on c.in_err-page.field-0.0 c.from_residual.result c.from_residual.ensures.1 (NotALog named) is in
    let told = c.in_err-page.ensures.not_a_log named (cc fault) in (
      told.0,
      images_broken (g.V.Volume.files c.args.volume.now) (g.V.Volume.files c.loop-i.volume) c.args.file
          c.args.self.now.place c.args.count c.loop-i.i c.loop-i.low
          (c.args.self.now.place + 9 + IMAGE_BYTES * c.loop-i.i) c.args.self.now c.loop-i.self
          c.loop-i.invariant.same.files c.loop-i-test.true refl c.loop-i.invariant.value told.1,
    )

pub loop-i-preserved : goal.loop-i-preserved
loop-i-preserved g c = record {
  value =
      images_step (g.V.Volume.files c.args.volume.now) (g.V.Volume.files c.loop-i.volume) c.args.file
      c.args.self.now.place c.args.count c.loop-i.i c.loop-i.low
      (c.args.self.now.place + 9 + IMAGE_BYTES * c.loop-i.i) c.args.self.now c.loop-i.self _
      (image_data c.in_ok-page.field-0) c.loop-i.invariant.same.files c.loop-i-test.true refl
      c.loop-i.invariant.value c.in_ok-page.ensures.value c.in_ok-page.ensures.whole c.in_ok-page.ensures.follows.0
      c.in_ok-page.ensures.follows.1 c.in_ok-insert.ensures.updates.0 refl;
  place = c.loop-i.invariant.place;
  records = c.loop-i.invariant.records;
  bounded = λ before.
      bounded_more c.loop-i.self.pages c.insert.new.self c.in_ok-page.field-0.page c.in_ok-page.field-0.content
      c.in_ok-page.ensures.follows.1 c.in_ok-insert.ensures.updates.0
      (c.loop-i.invariant.bounded before);
  same = read_then _ _ _ c.loop-i.invariant.same c.in_ok-page.ensures.same;
  faults = omega (arith, c.in_ok-page.ensures.faults.later);
}
