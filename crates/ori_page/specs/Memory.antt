-- Why pages in memory refuse a call.
use Rattle.std.specs.Prelude.{◌≡◌, ℕ, false, List, Result, Ok, Err}
use Rattle.ori_bytes.specs.declared.limits.TheConstants.{MAX_PAGES}
use Rattle.ori_page.specs.declared.fault.PageFault.{PageFault}
use Rattle.ori_page.specs.declared.fault.PageFault.TheVariants.{NoMemory, Device, Busy, Damaged, PagesFull}
use Rattle.ori_page.specs.Spaces.{AreFull, IsDamaged, is_listed}
use Rattle.ori_page.specs.Faults.{one_more}

-- out of memory, or so many pages are all that there may be
abbrev pub WhyNotGrown : ℕ → PageFault → Type 0
WhyNotGrown count NoMemory = Unit {0}
WhyNotGrown count Device = ⊥
WhyNotGrown count (Busy turn) = ⊥
WhyNotGrown count (Damaged page) = ⊥
WhyNotGrown count PagesFull = count ≡ MAX_PAGES

-- out of memory, or that page isn't free
abbrev pub WhyNotReused : List (List ℕ) → ℕ → PageFault → Type 0
WhyNotReused pages first NoMemory = Unit {0}
WhyNotReused pages first Device = ⊥
WhyNotReused pages first (Busy turn) = ⊥
WhyNotReused pages first (Damaged page) = (page ≡ first) × (is_listed pages page ≡ false)
WhyNotReused pages first PagesFull = ⊥

abbrev pub WhyNotTaken : List (List ℕ) → PageFault → Type 0
WhyNotTaken pages NoMemory = Unit {0}
WhyNotTaken pages Device = ⊥
WhyNotTaken pages (Busy turn) = ⊥
WhyNotTaken pages (Damaged page) = IsDamaged pages page
WhyNotTaken pages PagesFull = AreFull pages

abbrev pub WhyNotFreed : List (List ℕ) → PageFault → Type 0
WhyNotFreed pages NoMemory = Unit {0}
WhyNotFreed pages Device = ⊥
WhyNotFreed pages (Busy turn) = ⊥
WhyNotFreed pages (Damaged page) = IsDamaged pages page
WhyNotFreed pages PagesFull = ⊥

-- an answer of `Damaged` is counted
abbrev pub damaged_counted : {T : Type 0} → Result T PageFault → ℕ → ℕ
damaged_counted (Ok value) n = n
damaged_counted (Err NoMemory) n = n
damaged_counted (Err Device) n = n
damaged_counted (Err (Busy turn)) n = n
damaged_counted (Err (Damaged page)) n = one_more n
damaged_counted (Err PagesFull) n = n
