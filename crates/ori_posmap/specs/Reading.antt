-- How a structure reads the pages that it names, and what its calls keep of the space that has them.
use Rattle.std.specs.Prelude.{◌≡◌, ◌⊎◌, ℕ, ◌+◌, ◌≤◌, Bool, false, ◌&&◌, nat_lt, List, length}
use Rattle.std.specs.Prelude.{Result, Ok, Err, OnOk}
use Rattle.ori_bytes.specs.declared.causes.Causes.{Causes}
use Rattle.ori_bytes.specs.declared.limits.TheConstants.{PARTITIONS}
use Rattle.ori_page.specs.declared.fault.PageFault.{PageFault}
use Rattle.ori_page.specs.declared.fault.PageFault.TheVariants.{NoMemory, Device, Busy, Damaged, PagesFull}
use Rattle.ori_page.specs.Faults.{one_more}

-- the number is that of a page, and not the head's
abbrev pub in_range : List (List ℕ) → ℕ → Bool
in_range pages p = nat_lt 0 p && nat_lt p (length pages)

-- A page that is named isn't there, or isn't as it has to be; or a cause outside.
abbrev pub WhyNotRead : Bool → ℕ → PageFault → Type 0
WhyNotRead good p NoMemory = Unit {0}
WhyNotRead good p Device = Unit {0}
WhyNotRead good p (Busy turn) = turn ≤ PARTITIONS
WhyNotRead good p (Damaged q) = (q ≡ p) × (good ≡ false)
WhyNotRead good p PagesFull = ⊥

-- Each cause of a refusal is one that the space has counted, but that a structure may find a page damaged by itself.
abbrev pub Caused : {T : Type 0} → Result T PageFault → Causes → Causes → Type 0
Caused (Ok value) old new = new ≡ old
Caused (Err NoMemory) old new = new ≡ old
Caused (Err Device) old new = new ≡ record old { device = one_more old.device }
Caused (Err (Busy turn)) old new = new ≡ record old { busy = one_more old.busy }
Caused (Err (Damaged page)) old new = (new ≡ old) ⊎ (new ≡ record old { damaged = one_more old.damaged })
Caused (Err PagesFull) old new = new ≡ old

-- What a call keeps of a space, refused or not: its pages don't become fewer, causes are counted, and it makes at most
-- so many reads.
pub record KeepsSpace {S T : Type 0} (keeps : S → S → Type 0) (count : S → ℕ) (causes : S → Causes) (reads : S → ℕ)
    (most : ℕ) (result : Result T PageFault) (old new : S) : Type 0 where
  pub kept : keeps old new
  pub more : OnOk result (count old ≤ count new)
  pub caused : Caused result (causes old) (causes new)
  pub few : reads new ≤ reads old + most
