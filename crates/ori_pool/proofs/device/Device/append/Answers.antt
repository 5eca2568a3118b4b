use Rattle.std.proofs.Common.{sym, subst}
use Rattle.ori_volume.specs.Story.{Tells}
use Rattle.ori_pool.specs.Devices.{Puts}
use Rattle.ori_cover.specs.Reading.{PutsRecordRead}
use Rattle.ori_cover.specs.Steps.{PutsRecord}
use Rattle.ori_pool.proofs.Answering.{puts_answer, puts_answer_read, answer_counts}
use Rattle.ori_pool.proofs.device.Device.append.Goals as goal

pub returns-clause-crash : goal.returns-clause-crash
returns-clause-crash g c = λ none.
    subst (λ v. Tells (Puts PutsRecord c.args.self.now.log c.answer.new.self.log c.args.images.now c.answer.result)
    (g.V.Volume.story c.args.self.now.volume) (g.V.Volume.story v)) (sym c.answer.ensures.same.0)
    (puts_answer _ _ _ _ c.in-Some-log.is c.answer.ensures.same.1 c.put_record-done.result c.answer.result
    c.answer.ensures.err _ _ c.args.images.now c.put_record-done.ensures.crash)

pub returns-clause-read : goal.returns-clause-read
returns-clause-read g c = λ none.
    subst (λ v. Tells (Puts PutsRecordRead c.args.self.now.log c.answer.new.self.log c.args.images.now c.answer.result)
    (g.V.Volume.files c.args.self.now.volume) (g.V.Volume.files v)) (sym c.answer.ensures.same.0)
    (puts_answer_read _ _ _ _ c.in-Some-log.is c.answer.ensures.same.1 c.put_record-done.result c.answer.result
    c.answer.ensures.err _ _ c.answer.ensures.ok _ _ c.args.images.now c.put_record-done.ensures.read)

pub returns-clause-counts : goal.returns-clause-counts
returns-clause-counts g c =
    answer_counts _ _ _ _ c.in-Some-log.is c.answer.ensures.same.1 c.put_record-done.result c.answer.result
    c.answer.ensures.err c.put_record-done.ensures.counts
