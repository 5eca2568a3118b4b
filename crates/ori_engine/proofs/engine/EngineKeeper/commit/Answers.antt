use Rattle.std.proofs.Common.{◌≡◌, ◌<◌, refl, sym, subst, arith}
use Rattle.ori_bytes.specs.declared.causes.Causes.{Causes}
use Rattle.ori_decide.specs.Told.{told}
use Rattle.ori_engine.specs.Openings.{opening_of, troubles_of, HasRisenBy}
use Rattle.ori_engine.proofs.Engines.{halts_on, goes_on, troubled_on, waited_on, whole_on}
use Rattle.ori_engine.proofs.engine.EngineKeeper.commit.Goals as goal

pub returns-in-Ok-clause-decided : goal.returns-in-Ok-clause-decided
returns-in-Ok-clause-decided g c = c.in-Ok.ensures.decided (opening_of c.args.self.now.opened)

pub returns-in-Ok-clause-endures : goal.returns-in-Ok-clause-endures
returns-in-Ok-clause-endures g c = record {
  sound = λ first holds tells. c.in-Ok.ensures.sound tells.goes_on first (holds tells);
  lent = refl;
  below = refl;
}

pub returns-in-Err-clause-endures : goal.returns-in-Err-clause-endures
returns-in-Err-clause-endures g c = record {
  sound = λ first holds tells. c.in-Err.ensures.sound tells.goes_on first (holds tells);
  lent = refl;
  below = refl;
}

pub invariant_of-self : goal.invariant_of-self
invariant_of-self g c =
    let e = c.args.self.now in
    let works = c.in-Ok.ensures.works in
    let faults = works.faults in
    let log_faults = works.log_faults in
    record {
      doubts = c.in-Ok.ensures.doubts;
      later = omega (arith, e.later, faults);
      log_later = omega (arith, e.log_later, log_faults);
      halts = halts_on _ _ _ _ _ _ _ _ faults e.later e.log_later works.halts e.halts;
      goes_on = goes_on _ _ _ _ _ _ _ works.halts e.goes_on;
      troubled = let h = e.troubled in omega (arith, h, faults);
      waited = λ some. let w = e.waited some in let waits = works.waits in omega (arith, w, waits);
      head = c.in-Ok.ensures.head;
      undamaged = e.undamaged;
    }

pub invariant_of-self-in-Err : goal.invariant_of-self-in-Err
invariant_of-self-in-Err g c =
    let e = c.args.self.now in
    let d = told c.in-Err.fault in
    let works = c.in-Err.ensures.works in
    let faults = works.faults in
    let log_faults = works.log_faults in
    let counted = sym c.counts-self.ensures in
    let frames = c.commit.new.pool.overlay.source.frames in
    record {
      doubts = c.in-Err.ensures.doubts;
      later = omega (arith, e.later, faults);
      log_later = omega (arith, e.log_later, log_faults);
      halts = halts_on _ _ _ _ _ _ _ _ faults e.later e.log_later works.halts e.halts;
      goes_on = goes_on _ _ _ _ _ _ _ works.halts e.goes_on;
      troubled = subst (λ (causes : Causes). HasRisenBy (troubles_of causes) e.opened.faults
          (g.F.Frames.seat frames).last.faults) counted
          (troubled_on d e.causes _ _ _ faults works.fault_told works.device_told e.troubled);
      waited = subst (λ (causes : Causes). 0 < causes.busy → 0 < g.F.Frames.waits frames) counted
          (waited_on d e.causes _ _ works.waits works.busy_told e.waited);
      head = c.in-Err.ensures.head;
      undamaged = subst (λ (causes : Causes). causes.damaged ≡ 0) counted
          (whole_on d e.causes c.in-Err.ensures.whole e.undamaged);
    }
