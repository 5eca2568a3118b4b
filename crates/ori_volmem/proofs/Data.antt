-- A change of what is kept of a file is that change of its data.
use Rattle.std.proofs.Common.{◌≡◌, ℕ, ◌+◌, Bool, true, false, ◌||◌, ◌&&◌, min, max, nat_le, List, [], ◌∷◌, ◌++◌, length}
use Rattle.std.proofs.Common.{take, Some, None, refl, sym, ◌∙◌, ap}
use Rattle.ori_volume.specs.declared.file.FileNo.{FileNo}
use Rattle.ori_volume.specs.declared.file.FileNo.TheVariants.{Master, LogA, LogB, Pages}
use Rattle.ori_volmem.specs.declared.span.Span.{Span}
use Rattle.ori_volmem.specs.declared.change.Change.{Change}
use Rattle.ori_volmem.specs.declared.change.Change.TheVariants.{Write, Cut, Sync, Keep}
use Rattle.ori_volume.specs.Disk.{Four, of_file, with_file}
use Rattle.ori_volume.specs.Effects.{changed, put}
use Rattle.ori_volmem.specs.Record.{in_span, in_spans, FileState, data_of, disk_of, respanned, after_change, changed_by}

or-assoc : (a b c : Bool) → (a || b) || c ≡ a || (b || c)
or-assoc true b c = refl
or-assoc false b c = refl

and-true : (a : Bool) → a && true ≡ a
and-true true = refl
and-true false = refl

or-false : (a : Bool) → a || false ≡ a
or-false true = refl
or-false false = refl

pub spans_more : (spans : List Span) (span : Span) (k : ℕ) → in_spans (spans ++ span ∷ []) k ≡ in_spans spans k
    || in_span span k
spans_more [] span k = or-false (in_span span k)
spans_more (s ∷ spans) span k =
    ap (λ (b : Bool). in_span s k || b) (spans_more spans span k)
    ∙ sym (or-assoc (in_span s k) (in_spans spans k) (in_span span k))

respanned_data : (state : FileState) (xs : List ℕ) (span : Span)
    → data_of (respanned state xs span) ≡ changed (data_of state) xs (λ k. in_spans state.spans k || in_span span k)
respanned_data state xs span = λ i. record {
  bytes = xs;
  loose = λ k. spans_more state.spans span k i;
  least = min state.least (length xs);
  greatest = max state.greatest (length xs);
}

pub changed_data : (change : Change) (state : FileState) → data_of (after_change change state) ≡ changed_by change
    (data_of state)
changed_data (Write at piece count) state =
    respanned_data state (put state.bytes at piece.now) (record
    { from = min at (length state.bytes); end = Some (at + count) })
changed_data (Cut to keep) state = respanned_data state (take keep state.bytes) (record { from = to; end = None })
    ∙ ap (λ (test : ℕ → Bool). changed (data_of state) (take keep state.bytes) (λ k. in_spans state.spans k || test k))
    (λ i k. and-true (nat_le to k) i)
changed_data Sync state = refl
changed_data Keep state = refl

pub of_disk : (states : Four FileState) (file : FileNo) → of_file (disk_of states) file ≡ data_of (of_file states file)
of_disk states Master = refl
of_disk states LogA = refl
of_disk states LogB = refl
of_disk states Pages = refl

pub with_disk : (states : Four FileState) (file : FileNo) (state : FileState)
    → disk_of (with_file states file state) ≡ with_file (disk_of states) file (data_of state)
with_disk states Master state = refl
with_disk states LogA state = refl
with_disk states LogB state = refl
with_disk states Pages state = refl
