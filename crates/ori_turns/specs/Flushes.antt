-- What a flush has done.
use Rattle.std.specs.Prelude.{◌≡◌, ℕ, true, false, List, Some, Result, Ok, Err, Bool, ⊤}
use Rattle.ori_volume.specs.declared.failed.Failed.{Failed}
use Rattle.ori_part.specs.Parts.{PartData, marked, unwritten_page}
use Rattle.ori_cover.specs.Dirty.{unwritten}
use Rattle.ori_pool.specs.Held.{dirty_of}
use Rattle.ori_pool.specs.declared.fault.TendFault.{TendFault}
use Rattle.ori_pool.specs.declared.fault.TendFault.TheVariants.{Fault, Halted, Busy}

-- where it wrote, or tried to, this holds of what the write answered
abbrev pub IfFlushed : Result Bool TendFault → (Result Unit Failed → Type 0) → Type 0
IfFlushed (Ok true) P = P (Ok tt)
IfFlushed (Ok false) P = ⊤
IfFlushed (Err Fault) P = P (Err (record {}))
IfFlushed (Err (Halted at_fault)) P = ⊤
IfFlushed (Err (Busy turn)) P = ⊤

-- the same of a sync of the homes
abbrev pub IfSynced : Result (Unit {0}) TendFault → (Result (Unit {0}) Failed → Type 0) → Type 0
IfSynced (Ok done) P = P (Ok tt)
IfSynced (Err Fault) P = P (Err (record {}))
IfSynced (Err (Halted at_fault)) P = ⊤
IfSynced (Err (Busy turn)) P = ⊤

-- the first unwritten page of a partition is marked, and nothing else of it has changed
abbrev pub MarksFirst : PartData → PartData → Type 0
MarksFirst old new = (page : ℕ) (content : List ℕ) → unwritten_page old.places ≡ Some page
    → dirty_of old page ≡ Some (unwritten content) → new ≡ marked old page content
