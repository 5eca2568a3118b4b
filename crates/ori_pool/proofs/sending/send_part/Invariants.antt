use Rattle.std.proofs.Common.{◌≡◌, ◌≢◌, ◌≤◌, ℕ, get_or, None}
use Rattle.ori_volume.specs.Story.{Tells}
use Rattle.ori_pool.specs.Held.{AreOwn, AreTended, unsent_in}
use Rattle.ori_cover.specs.Views.{on_disk, as_read}
use Rattle.ori_pool.specs.Sends.{Sends}
use Rattle.ori_pool.proofs.sending.send_part.Given as goal

-- some pages were sent
abbrev pub invariant-pages : goal.invariant-pages
invariant-pages g l = record {
  sends : Tells (Sends on_disk l.fn.hand.parts.items l.hand.parts.items) (g.V.Volume.story l.fn.device.volume)
      (g.V.Volume.story l.device.volume);
  reads : Tells (Sends as_read l.fn.hand.parts.items l.hand.parts.items) (g.V.Volume.files l.fn.device.volume)
      (g.V.Volume.files l.device.volume);
  own : AreOwn l.hand.parts.items;
  others : (k : ℕ) → k ≢ l.at → get_or l.hand.parts.items k None ≡ get_or l.fn.hand.parts.items k None;
  tended : AreTended l.fn.hand.parts.items l.hand.parts.items;
  log : l.device.log ≡ l.fn.device.log;
  halted : l.device.halted ≡ l.fn.device.halted;
  later : g.V.Volume.faults l.fn.device.volume ≤ g.V.Volume.faults l.device.volume;
  fine : g.V.Volume.log_faults l.device.volume ≡ g.V.Volume.log_faults l.fn.device.volume;
}

abbrev pub decreases-pages : goal.decreases-pages
decreases-pages g l = unsent_in (get_or l.hand.parts.items l.at None)
