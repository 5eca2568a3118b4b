-- How a disk in memory keeps its story: what it is now, and notes from which each earlier moment is told.
use Rattle.std.specs.Prelude.{ℕ, ◌+◌, ◌≤◌, min, max, Bool, true, ◌&&◌, ◌||◌, nat_le, nat_lt, List, [], ◌∷◌, ◌++◌}
use Rattle.std.specs.Prelude.{length, take, drop, replicate, reverse, Option, Some, None}
use Rattle.std.specs.List.{list_any}
use Rattle.ori_volmem.specs.declared.span.Span.{Span}
use Rattle.ori_volmem.specs.declared.change.Change.{Change}
use Rattle.ori_volmem.specs.declared.change.Change.TheVariants.{Write, Cut, Sync, Keep}
use Rattle.ori_volmem.specs.declared.change.Undo.{Undo}
use Rattle.ori_volmem.specs.declared.note.Note.{Note}
use Rattle.ori_volume.specs.Disk.{Four, of_file, with_file, FileData, Disk}
use Rattle.ori_volume.specs.Effects.{put, is_touched, changed, synced}
use Rattle.ori_bytes.specs.declared.limits.TheConstants.{MAX_FILE_BYTES}

abbrev pub is_before : ℕ → Option ℕ → Bool
is_before k None = true
is_before k (Some end) = nat_lt k end

-- the position lies in the span, or in one of them
abbrev pub in_span : Span → ℕ → Bool
in_span span k = nat_le span.from k && is_before k span.end

abbrev pub in_spans : List Span → ℕ → Bool
in_spans spans k = list_any (λ span. in_span span k) spans

-- a file as it is kept: its loose positions are those of its spans
pub record FileState : Type 0 where
  pub bytes : List ℕ
  pub spans : List Span
  pub least : ℕ
  pub greatest : ℕ

abbrev pub data_of : FileState → FileData
data_of state = record {
  bytes = state.bytes;
  loose = in_spans state.spans;
  least = state.least;
  greatest = state.greatest;
}

abbrev pub disk_of : Four FileState → Disk
disk_of states = record {
  master = data_of states.master;
  log_a = data_of states.log_a;
  log_b = data_of states.log_b;
  pages = data_of states.pages;
}

-- with other bytes and one span more
abbrev pub respanned : FileState → List ℕ → Span → FileState
respanned state xs span = record {
  bytes = xs;
  spans = state.spans ++ span ∷ [];
  least = min state.least (length xs);
  greatest = max state.greatest (length xs);
}

-- a piece stands at its place, and so many positions from there on are loose
abbrev pub after_write : ℕ → List ℕ → ℕ → FileState → FileState
after_write at piece count state = respanned state (put state.bytes at piece)
    (record { from = min at (length state.bytes); end = Some (at + count) })

-- the file ends at `keep`, and the positions from `to` on are loose
abbrev pub after_cut : ℕ → ℕ → FileState → FileState
after_cut to keep state = respanned state (take keep state.bytes) (record { from = to; end = None })

abbrev pub after_sync : FileState → FileState
after_sync state = record {
  bytes = state.bytes;
  spans = [];
  least = length state.bytes;
  greatest = length state.bytes;
}

-- a file after a change
abbrev pub after_change : Change → FileState → FileState
after_change (Write at piece count) state = after_write at piece.now count state
after_change (Cut to keep) state = after_cut to keep state
after_change Sync state = after_sync state
after_change Keep state = state

-- a change takes back: the bytes that it overwrote or cut off stand again, and of the spans those before it
abbrev pub undone : Undo → FileState → FileState
undone undo state = record {
  bytes = take undo.length (take undo.place state.bytes ++ undo.saved.items
      ++ drop (undo.place + length undo.saved.items) state.bytes);
  spans = undo.spans.items ++ take undo.kept state.spans;
  least = undo.least;
  greatest = undo.greatest;
}

-- the disk at each moment before now, the newest first: at each note, newest first, the disk as it was before it, once
-- for the change and once for each call before that left no note
abbrev pub told_past : Four FileState → List Note → List Disk
told_past states [] = []
told_past states (note ∷ notes) =
    replicate (note.unnoted + 1) (disk_of (with_file states note.file (undone note.undo (of_file states note.file))))
    ++ told_past (with_file states note.file (undone note.undo (of_file states note.file))) notes

-- the same, with so many calls since the newest note that left none; the notes are the oldest first
abbrev pub past_of : Four FileState → ℕ → List Note → List Disk
past_of states unnoted notes = replicate unnoted (disk_of states) ++ told_past states (reverse notes)

-- how many moments the notes tell of
abbrev pub moments_of : List Note → ℕ
moments_of [] = 0
moments_of (note ∷ notes) = note.unnoted + 1 + moments_of notes

-- within the greatest length of a file, and no piece longer than its range
abbrev pub IsInRange : Change → Type 0
IsInRange (Write at piece count) = (at + count ≤ MAX_FILE_BYTES) × (length piece.now ≤ count)
IsInRange _ = Unit {0}

-- a change of a file as it stands for its data
abbrev pub changed_by : Change → FileData → FileData
changed_by (Write at piece count) file = changed file (put file.bytes at piece.now)
    (λ k. file.loose k || is_touched (length file.bytes) at count k)
changed_by (Cut to keep) file = changed file (take keep file.bytes) (λ k. file.loose k || nat_le to k)
changed_by Sync file = synced file
changed_by Keep file = file
