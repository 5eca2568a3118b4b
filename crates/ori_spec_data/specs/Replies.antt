-- Replies and refusals as data.
use Rattle.std.specs.Prelude.{ℕ, Bool, true, false, List, [], Result, Ok, Err}
use Rattle.ori_bytes.specs.declared.rid.Rid.{Rid}
use Rattle.ori_spec_data.specs.Value.{Fields}
use Rattle.ori_spec_data.specs.Refusing.{CommitRefusalData}

-- Why a statement or a step was refused. A place is a byte's in the statement's text.
pub data RefusalData : Type 0 where
  bad_char : ℕ → RefusalData
  open_string : ℕ → RefusalData
  long_number : ℕ → RefusalData
  syntax : ℕ → RefusalData
  too_deep : ℕ → RefusalData
  in_transaction : RefusalData
  no_transaction : RefusalData
  not_in_transaction : RefusalData
  no_class_named : List ℕ → RefusalData
  no_record : Rid → RefusalData
  reserved : List ℕ → RefusalData
  use_create_edge : RefusalData
  use_delete_vertex : RefusalData
  use_delete_edge : RefusalData
  wrong_kind : List ℕ → RefusalData
  overflow : RefusalData
  exists : List ℕ → RefusalData
  no_property_named : List ℕ → RefusalData
  not_indexable : List ℕ → RefusalData
  not_number : List ℕ → RefusalData
  schema_full : List ℕ → RefusalData
  -- the base refuses the transaction
  by_base : CommitRefusalData → RefusalData
  -- the pages in use, and the transaction's weight
  pages_full : ℕ → ℕ → RefusalData
  -- the feed's entries, and its bytes with this entry's
  feed_full : ℕ → ℕ → RefusalData
  -- the log failed before, when so many calls of the volume had failed
  halted : ℕ → RefusalData
  -- the volume failed
  fault : RefusalData
  device : RefusalData
  damaged : ℕ → RefusalData
  -- out of memory
  no_memory : RefusalData
  busy : ℕ → RefusalData
  -- it can't be written yet
  unbuilt : RefusalData
  -- the log needs more bytes for the commit than it has room for
  log_full : ℕ → ℕ → RefusalData

-- the rows, by their columns; the temporary identifiers of a commit beside the real ones; a count, or why it was
-- refused
pub record ReplyData : Type 0 where
  pub rows : List Fields
  pub temps : List (Rid × Rid)
  pub told : Result ℕ RefusalData

-- a refused statement has no row
abbrev pub refused : RefusalData → ReplyData
refused refusal = record { rows = []; temps = []; told = Err refusal }

abbrev pub granted : List Fields → ℕ → ReplyData
granted rows n = record { rows = rows; temps = []; told = Ok n }

-- the refusals that a volume which doesn't fail never brings
abbrev pub is_fault_refusal : RefusalData → Bool
is_fault_refusal (halted faults) = true
is_fault_refusal fault = true
is_fault_refusal device = true
is_fault_refusal (damaged page) = true
is_fault_refusal (busy turn) = true
is_fault_refusal other = false

abbrev pub is_fault : Result ℕ RefusalData → Bool
is_fault (Ok n) = false
is_fault (Err why) = is_fault_refusal why
