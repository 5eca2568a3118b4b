use Rattle.std.proofs.Common.{◌≤◌, ◌-◌, length, take}
use Rattle.ori_volume.specs.Streams.{Gave}
use Rattle.ori_text.proofs.printing.print.Given as goal

-- what was given so far is the text's front
abbrev pub invariant-loop-done : goal.invariant-loop-done
invariant-loop-done g l = record {
  within : l.done ≤ length l.bytes;
  gave : Gave (g.K.Sink.taken l.initial.sink) (g.K.Sink.taken l.sink) (take l.done l.bytes);
  later : g.K.Sink.faults l.initial.sink ≤ g.K.Sink.faults l.sink;
}

abbrev pub decreases-loop-done : goal.decreases-loop-done
decreases-loop-done g l = length l.bytes - l.done
