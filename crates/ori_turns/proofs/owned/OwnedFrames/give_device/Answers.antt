use Rattle.std.proofs.Common.{subst, sym}
use Rattle.ori_pool.specs.declared.device.Device.{Device}
use Rattle.ori_turns.specs.declared.slot.Slot.{Slot}
use Rattle.ori_turns.specs.Slots.{shown}
use Rattle.ori_turns.specs.Caches.{GivesCache}
use Rattle.ori_turns.proofs.Owning.{parts_go}
use Rattle.ori_turns.proofs.owned.OwnedFrames.give_device.Goals as goal

pub returns-clause-gives : goal.returns-clause-gives
returns-clause-gives g c = λ cache now gives only is. (
  parts_go c.args.self.now.parts.items c.args.self.now.device _ cache now gives.0 only,
  subst (λ (slot : Slot (Device g.row.V.Denot)). GivesCache (shown slot).log (shown slot).halted
      (g.V.Volume.story (shown slot).volume)
      (g.V.Volume.files (shown slot).volume) now) (sym c.give.ensures) is,
)
