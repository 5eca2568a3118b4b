use Rattle.std.proofs.Common.{◌≡◌, Option, Some, None, IfSome, refl, sym, ap, ◌∙◌, subst, arith}
use Rattle.std.specs.Prelude.{option_map}
use Rattle.ori_turns.specs.Slots.{shown}
use Rattle.ori_engine.specs.Openings.{troubles_of}
use Rattle.ori_volume.specs.Story.{Story}
use Rattle.ori_model.specs.Data.{entry_of}
use Rattle.ori_script.specs.Pasts.{earlier_of}
use Rattle.ori_script.specs.Top.{outside}
use Rattle.ori_script.proofs.Going.{some_by}
use Rattle.ori_script.proofs.Outcomes.{not_opened, was_run, volume_in, some_base}
use Rattle.ori_script.proofs.script.run_script.Goals as goal

pub returns-in-Err-clause-promises : goal.returns-in-Err-clause-promises
returns-in-Err-clause-promises g c =
    let seen = outside g.V.Volume.files g.V.Volume.story g.V.Volume.faults g.V.Volume.log_faults g.S.Source.left
    g.S.Source.faults g.K.Sink.taken g.K.Sink.faults in
    let left = c.in-Err.ensures in
    let status = c.start_status.ensures in
    not_opened (seen c.args.volume c.args.source.now c.args.sink.now)
    (seen c.in-Err.field-0.volume c.args.source.now c.args.sink.now) _ _ status.why c.no_report.ensures.nothing refl
    refl left.left
    (λ five. left.fault (status.volume five))
    (λ six. left.not_a_database (status.form six).0 (status.form six).1)
    (λ six. left.refused (status.form six).0 (status.form six).1)
    (record { source = omega arith; sink = omega arith; volume = left.later; log = left.log_later })

pub returns-clause-promises : goal.returns-clause-promises
returns-clause-promises g c =
    let seen = outside g.V.Volume.files g.V.Volume.story g.V.Volume.faults g.V.Volume.log_faults g.S.Source.left
    g.S.Source.faults g.K.Sink.taken g.K.Sink.faults in
    let old = seen c.args.volume c.args.source.now c.args.sink.now in
    let out = c.run_openings-status in
    let new = seen out.result.volume out.new.source out.new.sink in
    let start = c.in-Ok.ensures in
    let held = (shown c.in-Ok.engine.pool.overlay.source.frames.device).volume in
    was_run old new out.result.status _ (earlier_of out.new.past) c.is_initial-was_empty.result
    (option_map entry_of out.result.doubt) c.report.ensures
    (out.ensures.over (volume_in old)
    (some_by (g.V.Volume.story c.args.volume) _ (λ s is. (g.met.V.Volume.tells_one c.args.volume s is).files_now))
    (record {
      started = start.found;
      fresh = start.fresh;
      no_fault = ap troubles_of start.causes;
      since = start.sound;
      since_end = start.since_end;
      opened_since = start.since;
      opened_at = some_by (g.V.Volume.story held) _
          (λ s is. start.moment ∙ g.met.V.Volume.counts_past held s is);
      stands = start.whole;
      read = some_by (g.V.Volume.story held) _ (λ s is. g.met.V.Volume.reads_as_image held s is);
    }))
    (λ found finds. some_base c.is_initial-was_empty.ensures (start.found found finds).base_is) start.database
    out.ensures.source_cause out.ensures.sink_cause out.ensures.source_later out.ensures.sink_later
