-- What the cache's calls need of a device and of a hand.
use Rattle.std.specs.Prelude.{List, Option, IsSome}
use Rattle.ori_log.specs.declared.log.Log.{Log}
use Rattle.ori_part.specs.Parts.{PartData}
use Rattle.ori_pool.specs.Held.{HoldsAll, AreOwn}

-- the device is open, and the hand holds all partitions, each with pages of its own
pub record IsReady (log : Option Log) (hand : List (Option PartData)) : Type 0 where
  pub attached : IsSome log
  pub all : HoldsAll hand
  pub own : AreOwn hand
