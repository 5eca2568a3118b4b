use Rattle.std.proofs.Common.{◌≡◌, refl, sym, ap, ◌∙◌, arith}
use Rattle.ori_text.specs.Lines.{Reading}
use Rattle.ori_script.specs.declared.run.Stop.TheVariants as stops
use Rattle.ori_script.specs.Keeping.{sessions_of}
use Rattle.ori_script.specs.Script.{passed_by}
use Rattle.ori_script.proofs.Loops.{ends_first, begins_lines, ends_lines, ends_failed, next_stands, next_ends}
use Rattle.ori_script.proofs.script.run_openings.Goals as goal

pub returns-in_default-clause-over : goal.returns-in_default-clause-over
returns-in_default-clause-over g c = λ entry one b.
    let out = c.close_run in
    ends_first entry _ _ _ _ _ c.requires.first one b out.result.status _ _ _ out.ensures.status out.ensures.closed

pub returns-in_default-new-clause-over : goal.returns-in_default-new-clause-over
returns-in_default-new-clause-over g c = λ entry one b.
    let out = c.close_run-in_default-new in
    ends_first entry _ _ _ _ _ c.requires.first one b out.result.status _ _ _ out.ensures.status out.ensures.closed

pub openings-init : goal.openings-init
openings-init g c = record {
  stands = λ entry one b.
      begins_lines entry _ _ _ _ _ c.requires.first one b _ _ c.in-Ok-new.ensures c.in-Ok.ensures;
  ready = c.requires.ready;
  within = omega (arith, ap (λ (r : Reading). r.given) c.in-Ok-new.ensures);
  source_later = omega arith;
  sink_later = omega arith;
}

pub returns-in-Ended-clause-over : goal.returns-in-Ended-clause-over
returns-in-Ended-clause-over g c = λ entry one b.
    let out = c.close_run-in-Ended in
    let lines = c.in-Ended.ensures in
    let s = c.openings.invariant.stands entry one b in
    ends_lines entry _ _ _ _ _ _ _ c.run_lines.new.reader _ _ _ _ _ s lines.same lines.stays.opening lines.stays.sound
    (sessions_of c.run_lines.new.sessions) _ out.result.status _ _ _ out.ensures.status out.ensures.closed
    (lines.run entry.told.files (passed_by s.halts entry.faults s.begun.faults) _ _ s.goes_on)
    (λ five. lines.no_opening.0 (ap stops.Ended five)) (λ six. lines.no_opening.1 (ap stops.Ended six))

pub returns-in-Err-clause-over : goal.returns-in-Err-clause-over
returns-in-Err-clause-over g c = λ entry one b.
    let lines = c.in-Reopens.ensures in
    let s = c.openings.invariant.stands entry one b in
    ends_failed entry _ _ _ _ _ _ _ c.run_lines.new.reader _ _ _ _ _ s lines.same lines.stays.opening
    lines.stays.sound (sessions_of c.run_lines.new.sessions) _ _ _ _
    (lines.run entry.told.files (passed_by s.halts entry.faults s.begun.faults) _ _ s.goes_on) c.in-Err.ensures.fails

pub returns-in-Some-clause-over : goal.returns-in-Some-clause-over
returns-in-Some-clause-over g c = λ entry one b.
    let out = c.close_run-in-Some in
    let lines = c.in-Reopens.ensures in
    let s = c.openings.invariant.stands entry one b in
    let next = c.in-Ok-reopen.ensures in
    next_ends entry _ _ _ _ _ _ _ c.run_lines.new.reader _ _ _ _ _ s lines.same lines.stays.opening lines.stays.sound
    (sessions_of c.run_lines.new.sessions) _ _ _ (sessions_of c.reopen.new.sessions) _ one next.goes
    (lines.run entry.told.files (passed_by s.halts entry.faults s.begun.faults) _ _ s.goes_on) next.closed _
    out.result.status _ _ _
    c.in-Some.ensures.said out.ensures.status out.ensures.closed

pub openings-preserved : goal.openings-preserved
openings-preserved g c =
    let inv = c.openings.invariant in
    let lines = c.in-Reopens.ensures in
    let next = c.in-Ok-reopen.ensures in
    record {
      stands = λ entry one b.
          (let s = inv.stands entry one b in
          next_stands entry _ _ _ _ _ _ _ c.run_lines.new.reader _ _ _ _ _ s lines.same lines.stays.opening
          lines.stays.sound (sessions_of c.run_lines.new.sessions) _ _ _ (sessions_of c.reopen.new.sessions) _ one
          next.goes (lines.run entry.told.files (passed_by s.halts entry.faults s.begun.faults) _ _ s.goes_on)
          next.closed c.in_default-say_done.ensures.said);
      ready = next.ready;
      within = (lines.further refl).1;
      source_later = omega (arith, inv.source_later, lines.source_later);
      sink_later = omega (arith, inv.sink_later, lines.sink_later, c.in_default-say_done.ensures.later);
    }
