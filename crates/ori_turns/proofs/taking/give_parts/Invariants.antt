use Rattle.std.proofs.Common.{◌≡◌, ◌≤◌, ◌<◌, ◌+◌, ℕ, None, slice_index_or}
use Rattle.ori_bytes.specs.declared.limits.TheConstants.{PARTITIONS}
use Rattle.ori_turns.specs.Caches.{Cache, AreOwn}
use Rattle.ori_turns.specs.Hands.{EachHeld, HandIs, IsHandOf, GaveParts}
use Rattle.ori_turns.proofs.Giving.{LastOnes}
use Rattle.ori_turns.proofs.taking.give_parts.Given as goal

abbrev pub invariant-loop-step : goal.invariant-loop-step
invariant-loop-step g l = record {
  shares : g.F.Frames.shares l.initial.frames l.frames;
  held : IsHandOf (g.F.Frames.seat l.frames) l.hand.parts.items;
  range : EachHeld AreOwn l.hand.parts.items;
  rule : EachHeld (g.F.Frames.may_give l.frames) l.hand.parts.items;
  below : (k : ℕ) → k + l.step < PARTITIONS
      → slice_index_or l.hand.parts.items k None ≡ slice_index_or l.initial.hand.parts.items k None;
  above : (k : ℕ) → PARTITIONS ≤ k + l.step → slice_index_or l.hand.parts.items k None ≡ None;
  gave : GaveParts (LastOnes l.step) l.initial.hand.parts.items (g.F.Frames.seat l.initial.frames)
      (g.F.Frames.seat l.frames);
  gives : (cache : Cache) → g.F.Frames.gives l.initial.frames cache → HandIs cache l.initial.hand.parts.items
      → g.F.Frames.gives l.frames cache × HandIs cache l.hand.parts.items;
  waits : g.F.Frames.waits l.frames ≡ g.F.Frames.waits l.initial.frames;
}
