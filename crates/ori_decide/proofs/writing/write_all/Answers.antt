use Rattle.std.proofs.Common.{map, arith, ℕ}
use Rattle.std.proofs.lemmas.Result.{err_from_is_err_and}
use Rattle.ori_bytes.specs.declared.limits.TheConstants.{BASE_WEIGHT}
use Rattle.ori_spec_data.specs.Refusing.{first_refused, too_large_of}
use Rattle.ori_model.specs.Data.{change_of}
use Rattle.ori_decide.specs.declared.writing.Work.{Work}
use Rattle.ori_decide.specs.declared.writing.Written.{Written}
use Rattle.ori_decide.proofs.Answering.{refused_on, refused_at, answers_as}
use Rattle.ori_decide.proofs.Decisions.{can_at, written_step, weight_step}
use Rattle.ori_decide.proofs.writing.write_all.Goals as goal

pub write_one-requires : goal.write_one-requires
write_one-requires g c =
    can_at (g.R.Records.stored c.args.records.now) c.args.changes.now c.loop-change.change-index c.change-item.result
    (omega arith) c.change-item.is c.requires

pub loop-change-preserved : goal.loop-change-preserved
loop-change-preserved g c =
    let stored = g.R.Records.stored c.args.records.now in
    record {
      sizes = refused_on (too_large_of stored c.args.pairs.now) _ c.args.changes.now c.loop-change.change-index
          c.change-item.result (omega arith) c.change-item.is c.loop-change.invariant.sizes c.in_ok-one.ensures.answers;
      written = written_step c.args.pairs.now stored c.args.changes.now c.loop-change.change-index c.change-item.result
          _ _ _
          (omega arith) c.change-item.is c.loop-change.invariant.written c.in_ok-add.ensures.written
          c.in_ok-one.ensures.written;
      weighs = weight_step stored c.args.pairs.now c.args.changes.now c.loop-change.change-index c.change-item.result
          BASE_WEIGHT
          _ _ _ (omega arith) c.change-item.is c.loop-change.invariant.weighs c.in_ok-add.ensures.weighs
          c.in_ok-one.ensures.weighs;
    }

pub returns-in_err-one-clause-answers : goal.returns-in_err-one-clause-answers
returns-in_err-one-clause-answers g c =
    let f = too_large_of (g.R.Records.stored c.args.records.now) c.args.pairs.now in
    let given = err_from_is_err_and c.from_residual.result c.from_residual.ensures.1 in
    answers_as Work (first_refused f (map change_of c.args.changes.now)) c.from_residual.result given.0
    c.in_err-one.field-0.0 given.1 given.2
    (refused_at (Written × ℕ) Work f (first_refused f (map change_of c.args.changes.now)) c.args.changes.now
    c.loop-change.change-index c.change-item.result c.in_err-one.field-0.0 (omega arith) c.change-item.is
    c.loop-change.invariant.sizes c.in_err-one.ensures.answers)
