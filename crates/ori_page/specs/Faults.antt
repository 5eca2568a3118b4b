-- Why a call over pages is refused, and how refusals are counted.
use Rattle.std.specs.Prelude.{ℕ, ◌+◌, ◌-◌, ◌^◌, ◌≤◌, min, max, List, Result, Ok, Err}
use Rattle.ori_bytes.specs.declared.causes.Causes.{Causes}
use Rattle.ori_bytes.specs.declared.limits.TheConstants.{PARTITIONS}
use Rattle.ori_page.specs.declared.fault.PageFault.{PageFault}
use Rattle.ori_page.specs.declared.fault.PageFault.TheVariants.{NoMemory, Device, Busy, Damaged, PagesFull}
use Rattle.ori_page.specs.Spaces.{AreFull, IsDamaged}

-- one more, up to the end of a `u64`
abbrev pub one_more : ℕ → ℕ
one_more n = max n (min (n + 1) (2 ^ 64 - 1))

-- each cause is counted where it is answered, and nowhere else
abbrev pub page_counted : {T : Type 0} → Result T PageFault → Causes → Causes
page_counted (Ok value) causes = causes
page_counted (Err NoMemory) causes = causes
page_counted (Err Device) causes = record causes { device = one_more causes.device }
page_counted (Err (Busy turn)) causes = record causes { busy = one_more causes.busy }
page_counted (Err (Damaged page)) causes = record causes { damaged = one_more causes.damaged }
page_counted (Err PagesFull) causes = causes

-- want of memory, or a cause outside: the device, or a turn, of a cache partition or of the device
abbrev pub IsOutside : PageFault → Type 0
IsOutside NoMemory = Unit {0}
IsOutside Device = Unit {0}
IsOutside (Busy turn) = turn ≤ PARTITIONS
IsOutside (Damaged page) = ⊥
IsOutside PagesFull = ⊥

-- a page may not be taken: of these causes
abbrev pub MayNotTake : PageFault → Type 0
MayNotTake NoMemory = Unit {0}
MayNotTake Device = Unit {0}
MayNotTake (Busy turn) = turn ≤ PARTITIONS
MayNotTake (Damaged page) = Unit {0}
MayNotTake PagesFull = Unit {0}

-- a page may not be released: of these causes
abbrev pub MayNotRelease : PageFault → Type 0
MayNotRelease NoMemory = Unit {0}
MayNotRelease Device = Unit {0}
MayNotRelease (Busy turn) = turn ≤ PARTITIONS
MayNotRelease (Damaged page) = Unit {0}
MayNotRelease PagesFull = ⊥

-- what of these pages has refused it
abbrev pub WhyRefused : List (List ℕ) → PageFault → Type 0
WhyRefused pages NoMemory = Unit {0}
WhyRefused pages Device = Unit {0}
WhyRefused pages (Busy turn) = Unit {0}
WhyRefused pages (Damaged page) = IsDamaged pages page
WhyRefused pages PagesFull = AreFull pages
