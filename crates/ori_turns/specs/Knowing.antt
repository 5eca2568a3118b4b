-- What the engine knows of its device's log.
use Rattle.std.specs.Prelude.{◌≡◌, ℕ, false, None, IfSome}
use Rattle.ori_log.specs.declared.log.Log.{Log}
use Rattle.ori_pool.specs.Devices.{is_due}
use Rattle.ori_turns.specs.declared.known.Known.{Known}
use Rattle.ori_turns.specs.Seats.{Last}

-- it is so of the device that was last given
pub record Knows (last : Last) (known : Known) : Type 0 where
  pub tail : IfSome last.log (λ (log : Log). known.tail ≡ log.tail)
  pub due : IfSome last.log (λ (log : Log). known.due ≡ is_due log)
  pub closed : last.log ≡ None → (known.tail ≡ 0) × (known.due ≡ false)
  pub halted : known.halted ≡ last.halted
