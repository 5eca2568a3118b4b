use Rattle.std.specs.Prelude.{option_map}
use Rattle.std.proofs.Common.{◌≡◌, Option, Some, None, IfSome, refl, sym, ap, ◌∙◌, subst, arith}
use Rattle.ori_engine.specs.Openings.{troubles_of}
use Rattle.ori_model.specs.Data.{entry_of}
use Rattle.ori_engine.specs.Doubts.{doubt_of}
use Rattle.ori_script.specs.Pasts.{earlier_of}
use Rattle.ori_script.specs.Openings.{volume_data}
use Rattle.ori_script.proofs.Going.{some_by}
use Rattle.ori_script.proofs.Nexts.{ran_out, comes_so}
use Rattle.ori_script.proofs.Rooms.{fresh_ready}
use Rattle.ori_script.proofs.reopening.reopen.Goals as goal

pub returns-in_default-clause-fails : goal.returns-in_default-clause-fails
returns-in_default-clause-fails g c =
    let seen = volume_data g.V.Volume.files g.V.Volume.story g.V.Volume.faults g.V.Volume.log_faults in
    let out = c.close_run in
    ran_out _ _ _ out.result.status _ (seen out.result.volume) out.ensures.status out.ensures.closed
    (some_by (g.V.Volume.story out.result.volume) _ (λ s is. g.met.V.Volume.reads_as_image out.result.volume s is))

pub returns-in_default-new-clause-fails : goal.returns-in_default-new-clause-fails
returns-in_default-new-clause-fails g c =
    let seen = volume_data g.V.Volume.files g.V.Volume.story g.V.Volume.faults g.V.Volume.log_faults in
    let out = c.close_run-in_default-new in
    ran_out _ _ _ out.result.status _ (seen out.result.volume) out.ensures.status out.ensures.closed
    (some_by (g.V.Volume.story out.result.volume) _ (λ s is. g.met.V.Volume.reads_as_image out.result.volume s is))

pub returns-in-Err-clause-fails : goal.returns-in-Err-clause-fails
returns-in-Err-clause-fails g c =
    let seen = volume_data g.V.Volume.files g.V.Volume.story g.V.Volume.faults g.V.Volume.log_faults in
    let mid = c.close-volume.result.volume in
    let left = c.in-Err.ensures in
    let status = c.start_status.ensures in
    record {
      mid = seen mid;
      left = option_map doubt_of c.close-volume.result.doubt;
      closed = c.close-volume.ensures.closed;
      doubt_is = c.entry_alone.ensures;
      read = some_by (g.V.Volume.story mid) _ (λ s is. g.met.V.Volume.reads_as_image mid s is);
      crash = left.left;
      why = status.why;
      fault = λ five. left.fault (status.volume five);
      form = λ six. left.not_a_database (status.form six).0 (status.form six).1;
      unchanged = λ six. left.refused (status.form six).0 (status.form six).1;
      later = left.later;
      log_later = left.log_later;
    }

pub returns-clause-goes : goal.returns-clause-goes
returns-clause-goes g c =
    let seen = volume_data g.V.Volume.files g.V.Volume.story g.V.Volume.faults g.V.Volume.log_faults in
    let mid = c.close-volume.result.volume in
    let engine = c.in-Ok-open_volume.engine in
    let start = c.in-Ok-open_volume.ensures in
    let held = g.F.Sole.held engine.pool.overlay.source.frames in
    comes_so _ _ (earlier_of c.close-volume.new.past) _ _ (seen mid) (seen held)
    (option_map doubt_of c.close-volume.result.doubt) c.tail.result engine.pool.known.tail c.opened.result
    c.close-volume.ensures.closed
    c.tail.ensures start.tail c.opened.ensures c.decide.ensures.decided
    (some_by (g.V.Volume.story mid) _ (λ s is. (g.met.V.Volume.tells_one mid s is).files_now))
    (record {
      started = start.found;
      fresh = start.fresh;
      no_fault = ap troubles_of start.causes;
      since = start.sound;
      since_end = start.since_end;
      opened_since = start.since;
      opened_at = some_by (g.V.Volume.story held) _
          (λ s is. start.moment ∙ g.met.V.Volume.counts_past held s is);
      stands = start.whole;
      read = some_by (g.V.Volume.story held) _ (λ s is. g.met.V.Volume.reads_as_image held s is);
    })

pub returns-clause-ready : goal.returns-clause-ready
returns-clause-ready g c = fresh_ready _ _ c.in-Ok-open_volume.ensures.fresh c.decide.ensures.left
