use Rattle.std.proofs.Common.{◌≡◌, ◌≤◌}
use Rattle.ori_volume.specs.Story.{Tells}
use Rattle.ori_pool.specs.Held.{AreOwn, AreSent, AreTended}
use Rattle.ori_cover.specs.Views.{on_disk, as_read}
use Rattle.ori_pool.specs.Sends.{Sends}
use Rattle.ori_pool.proofs.sending.send_home.Given as goal

-- the pages of so many partitions were sent
abbrev pub invariant-loop-at : goal.invariant-loop-at
invariant-loop-at g l = record {
  sends : Tells (Sends on_disk l.fn.hand.parts.items l.hand.parts.items) (g.V.Volume.story l.fn.device.volume)
      (g.V.Volume.story l.device.volume);
  reads : Tells (Sends as_read l.fn.hand.parts.items l.hand.parts.items) (g.V.Volume.files l.fn.device.volume)
      (g.V.Volume.files l.device.volume);
  own : AreOwn l.hand.parts.items;
  sent : AreSent l.at l.hand.parts.items;
  tended : AreTended l.fn.hand.parts.items l.hand.parts.items;
  log : l.device.log ≡ l.fn.device.log;
  halted : l.device.halted ≡ l.fn.device.halted;
  later : g.V.Volume.faults l.fn.device.volume ≤ g.V.Volume.faults l.device.volume;
  fine : g.V.Volume.log_faults l.device.volume ≡ g.V.Volume.log_faults l.fn.device.volume;
}
