use Rattle.std.proofs.Common.{ℕ, ◌<◌, ◌-◌, List, Option, arith, subst}
use Rattle.std.proofs.lemmas.List.{take_all}
use Rattle.ori_bytes.specs.declared.limits.TheConstants.{MAX_PAGES}
use Rattle.ori_spec_data.specs.Base.{RecordData}
use Rattle.ori_log.specs.Images.{image_data}
use Rattle.ori_rows.specs.Outcomes.{IsWritable}
use Rattle.ori_rows.specs.Images.{AddsImages}
use Rattle.ori_table.specs.declared.outcome.Outcome.{Outcome}
use Rattle.ori_table.specs.Data.{outcomes_data}
use Rattle.ori_table.proofs.Imaging.{each_at, adds_step, adds_none}
use Rattle.ori_table.proofs.images.add_images.Goals as goal

pub loop-outcome-init : goal.loop-outcome-init
loop-outcome-init c = adds_none c.args.images.now

pub image_of-requires-clause-writable : goal.image_of-requires-clause-writable
image_of-requires-clause-writable c = each_at IsWritable c.args.outcomes.now c.loop-outcome.outcome-index
    c.outcome-item.result (omega arith) c.outcome-item.is c.requires.writable

pub image_of-requires-clause-few : goal.image_of-requires-clause-few
image_of-requires-clause-few c = each_at (λ (x : ℕ × Option RecordData). x.0 < MAX_PAGES - 1) c.args.outcomes.now
    c.loop-outcome.outcome-index c.outcome-item.result (omega arith) c.outcome-item.is c.requires.few

pub loop-outcome-preserved : goal.loop-outcome-preserved
loop-outcome-preserved c =
    adds_step c.args.images.now c.loop-outcome.images c.push.new.self c.args.outcomes.now c.loop-outcome.outcome-index
    c.outcome-item.result (image_data c.in_ok-image_of.field-0) (omega arith) c.outcome-item.is
    c.loop-outcome.invariant c.in_ok-push.ensures.ok c.in_ok-image_of.ensures

pub returns : goal.returns
returns c = subst (λ (l : List Outcome). AddsImages c.args.images.now c.loop-outcome.images (outcomes_data l))
    (take_all c.loop-outcome.outcome-index c.args.outcomes.now (omega arith)) c.loop-outcome.invariant
