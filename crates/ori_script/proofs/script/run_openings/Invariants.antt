use Rattle.std.proofs.Common.{◌≤◌, ◌-◌}
use Rattle.ori_bytes.specs.declared.limits.TheConstants.{MAX_INPUT_BYTES}
use Rattle.ori_engine.specs.States.{kept_of, state_of}
use Rattle.ori_engine.specs.Openings.{opening_of}
use Rattle.ori_engine.specs.Reopening.{past_of}
use Rattle.ori_engine.specs.CacheRows.{IsKeptSince, TellsAsGiven, counted_in}
use Rattle.ori_script.specs.Pasts.{earlier_of, IsReady}
use Rattle.ori_script.specs.Keeping.{store_behind, sessions_of}
use Rattle.ori_script.specs.Openings.{VolumeData, EngineData, volume_data, TellsOne, Begins, StandsAt}
use Rattle.ori_script.proofs.script.run_openings.Given as goal

-- an opening stands behind the earlier ones, whose lines have their answers
abbrev pub invariant-openings : goal.invariant-openings
invariant-openings g l = record {
  stands : (entry : VolumeData) → TellsOne entry.told
      → Begins entry (record {
        state = state_of l.initial.engine.kept l.initial.engine.pool.known.halted (opening_of l.initial.engine.opened);
        causes = l.initial.engine.causes;
        holds = λ first. TellsAsGiven g.F.Frames.seat g.F.Frames.shares g.F.Frames.gives
            → IsKeptSince (kept_of l.initial.engine.kept l.initial.engine.pool.known.halted)
            (counted_in g.F.Frames.gives l.initial.engine.pool.overlay.source.frames l.initial.engine.pool.known)
            l.initial.engine.pool.overlay.source.count first (past_of g.V.Volume.files g.V.Volume.story
            (g.F.Frames.seat l.initial.engine.pool.overlay.source.frames));
      }) (volume_data g.V.Volume.files g.V.Volume.story g.V.Volume.faults g.V.Volume.log_faults
      (g.F.Sole.held l.initial.engine.pool.overlay.source.frames))
      → StandsAt entry (g.S.Source.left l.initial.source) (g.S.Source.left l.source)
      (g.K.Sink.taken l.initial.sink) (g.K.Sink.taken l.sink) l.reader (record {
        store = store_behind (earlier_of l.past) (state_of l.engine.kept l.engine.pool.known.halted
            (opening_of l.engine.opened)) l.engine.causes;
        sessions = sessions_of l.sessions;
      }) (earlier_of l.past) (record {
        state = state_of l.engine.kept l.engine.pool.known.halted (opening_of l.engine.opened);
        causes = l.engine.causes;
        holds = λ first. TellsAsGiven g.F.Frames.seat g.F.Frames.shares g.F.Frames.gives
            → IsKeptSince (kept_of l.engine.kept l.engine.pool.known.halted)
            (counted_in g.F.Frames.gives l.engine.pool.overlay.source.frames l.engine.pool.known)
            l.engine.pool.overlay.source.count first (past_of g.V.Volume.files g.V.Volume.story
            (g.F.Frames.seat l.engine.pool.overlay.source.frames));
      });
  ready : IsReady l.past (state_of l.engine.kept l.engine.pool.known.halted (opening_of l.engine.opened));
  within : l.reader.given ≤ MAX_INPUT_BYTES;
  source_later : g.S.Source.faults l.initial.source ≤ g.S.Source.faults l.source;
  sink_later : g.K.Sink.faults l.initial.sink ≤ g.K.Sink.faults l.sink;
}

abbrev pub decreases-openings : goal.decreases-openings
decreases-openings g l = MAX_INPUT_BYTES - l.reader.given
