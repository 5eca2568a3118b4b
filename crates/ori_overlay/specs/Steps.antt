-- What the steps of a call keep of the source.
use Rattle.std.specs.Prelude.{◌≡◌, ◌≤◌, ℕ, List, Result, Ok, Err}
use Rattle.ori_bytes.specs.declared.causes.Causes.{Causes}
use Rattle.ori_bytes.specs.declared.limits.TheConstants.{PARTITIONS, MAX_PAGES}
use Rattle.ori_page.specs.declared.fault.PageFault.{PageFault}
use Rattle.ori_page.specs.declared.fault.PageFault.TheVariants.{NoMemory, Device, Busy, Damaged, PagesFull}
use Rattle.ori_page.specs.Faults.{one_more}

-- what the source has counted: each cause but damage, which it doesn't know
abbrev pub outside_counted : {T : Type 0} → Result T PageFault → Causes → Causes
outside_counted (Ok value) causes = causes
outside_counted (Err NoMemory) causes = causes
outside_counted (Err Device) causes = record causes { device = one_more causes.device }
outside_counted (Err (Busy turn)) causes = record causes { busy = one_more causes.busy }
outside_counted (Err (Damaged page)) causes = causes
outside_counted (Err PagesFull) causes = causes

-- The source was read, and nothing else. It has counted the cause of a refusal.
pub record OnlyReads {S T : Type 0} (gives : S → List (List ℕ) → Type 0) (keeps : S → S → Type 0) (count : S → ℕ)
    (causes : S → Causes) (result : Result T PageFault) (old new : S) : Type 0 where
  pub stay : (base : List (List ℕ)) → gives old base → gives new base
  pub kept : keeps old new
  pub as_many : count new ≡ count old
  pub caused : causes new ≡ outside_counted result (causes old)

-- why no page was put behind so many
abbrev pub WhyNotGrown : ℕ → PageFault → Type 0
WhyNotGrown count NoMemory = Unit {0}
WhyNotGrown count Device = Unit {0}
WhyNotGrown count (Busy turn) = turn ≤ PARTITIONS
WhyNotGrown count (Damaged page) = ⊥
WhyNotGrown count PagesFull = count ≡ MAX_PAGES
