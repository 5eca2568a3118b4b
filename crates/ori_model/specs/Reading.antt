-- What a read of a record answers, and what it counts.
use Rattle.std.specs.Prelude.{◌≡◌, ℕ, Option, Some, None, option_map, Result, Ok, Err, IfSome}
use Rattle.ori_bytes.specs.declared.rid.Rid.{Rid}
use Rattle.ori_bytes.specs.declared.causes.Causes.{Causes}
use Rattle.ori_spec_data.specs.Records.{record_at}
use Rattle.ori_spec_data.specs.Views.{ViewData}
use Rattle.ori_spec_data.specs.Keeping.{raised_count, with_device, with_busy, with_damaged, IsTurn}
use Rattle.ori_model.specs.declared.record.Stored.{Stored}
use Rattle.ori_model.specs.declared.fault.ReadFault.{ReadFault}
use Rattle.ori_model.specs.declared.fault.ReadFault.TheVariants.{Device, Busy, Damaged, NoMemory}
use Rattle.ori_model.specs.Data.{record_of}

-- each cause is counted where it is answered, and nowhere else
abbrev pub read_counted : {T : Type 0} → Result T ReadFault → Causes → Causes
read_counted (Ok value) causes = causes
read_counted (Err Device) causes = with_device causes
read_counted (Err (Busy turn)) causes = with_busy causes
read_counted (Err (Damaged page)) causes = with_damaged causes
read_counted (Err NoMemory) causes = causes

-- A fault that may come: a turn is one that there is, and what tells a view is never damaged.
abbrev pub MayFail : Option ViewData → ReadFault → Type 0
MayFail view Device = Unit {0}
MayFail view (Busy turn) = IsTurn turn
MayFail view (Damaged page) = view ≡ None
MayFail view NoMemory = Unit {0}

-- the record with the identifier, or none where the view has none
abbrev pub IsFetched : Option ViewData → Rid → Option Stored → Type 0
IsFetched view rid found = IfSome view (λ shown. option_map record_of found ≡ record_at shown.records rid)

-- one record more was given, where one was
abbrev pub fetch_counted : Result (Option Stored) ReadFault → ℕ → ℕ
fetch_counted (Ok (Some stored)) n = raised_count n
fetch_counted (Ok None) n = n
fetch_counted (Err why) n = n
