use Rattle.std.proofs.Common.{◌≡◌, ◌≤◌, ◌-◌, ℕ, List, Option}
use Rattle.ori_bytes.specs.declared.limits.TheConstants.{MAX_INPUT_BYTES}
use Rattle.ori_volume.specs.Disk.{Files}
use Rattle.ori_engine.specs.Openings.{StaysOpen}
use Rattle.ori_script.specs.Pasts.{earlier_of, IsReady}
use Rattle.ori_script.specs.Keeping.{kept}
use Rattle.ori_script.specs.Script.{PassedData, GoesOn}
use Rattle.ori_script.proofs.run.run_lines.Given as goal

-- all lines so far have their answers, and nothing was lost
abbrev pub invariant-lines : goal.invariant-lines
invariant-lines g l = record {
  goes_on : (files : Option Files) (passed : PassedData) (left taken : Option (List ℕ))
      → GoesOn files passed left (g.S.Source.left l.initial.source) taken (g.K.Sink.taken l.initial.sink)
      l.initial.reader (kept g.D.Reader.state g.D.Reader.causes l.initial.past l.initial.database l.initial.sessions)
      → GoesOn files passed left (g.S.Source.left l.source) taken (g.K.Sink.taken l.sink) l.reader
      (kept g.D.Reader.state g.D.Reader.causes l.past l.database l.sessions);
  same : earlier_of l.past ≡ earlier_of l.initial.past;
  ready : IsReady l.initial.past (g.D.Reader.state l.initial.database)
      → IsReady l.past (g.D.Reader.state l.database);
  stays : StaysOpen g.D.Reader.state g.D.Reader.sound l.initial.database l.database;
  within : l.reader.given ≤ MAX_INPUT_BYTES;
  further : l.initial.reader.given ≤ l.reader.given;
  source_later : g.S.Source.faults l.initial.source ≤ g.S.Source.faults l.source;
  sink_later : g.K.Sink.faults l.initial.sink ≤ g.K.Sink.faults l.sink;
}

abbrev pub decreases-lines : goal.decreases-lines
decreases-lines g l = MAX_INPUT_BYTES - l.reader.given
