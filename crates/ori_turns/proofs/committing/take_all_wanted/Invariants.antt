use Rattle.std.proofs.Common.{◌≡◌, ◌≤◌, map}
use Rattle.ori_log.specs.Images.{image_data}
use Rattle.ori_turns.specs.Seats.{with_parts}
use Rattle.ori_turns.specs.Caches.{Cache, SamePages}
use Rattle.ori_turns.specs.Hands.{AreTaken, HandIs}
use Rattle.ori_turns.specs.Committed.{HasWanted}
use Rattle.ori_turns.proofs.committing.take_all_wanted.Given as goal

abbrev pub invariant-loop-part : goal.invariant-loop-part
invariant-loop-part g l = record {
  shares : g.F.Frames.shares l.initial.frames l.frames;
  taken : AreTaken (g.F.Frames.seat l.frames) (g.F.Frames.may_give l.frames) l.hand.parts.items;
  seat : g.F.Frames.seat l.frames ≡ with_parts l.hand.parts.items (g.F.Frames.seat l.initial.frames);
  wanted : HasWanted l.initial.due (map image_data l.initial.images) l.part l.hand.parts.items;
  gives : (cache : Cache) → g.F.Frames.gives l.initial.frames cache → (now : Cache) × SamePages cache now
      × g.F.Frames.gives l.frames now × HandIs now l.hand.parts.items;
  later : g.F.Frames.waits l.initial.frames ≤ g.F.Frames.waits l.frames;
}
