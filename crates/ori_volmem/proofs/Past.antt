-- The past that the notes tell of has as many moments as they count.
use Rattle.std.proofs.Common.{◌≡◌, ℕ, ◌+◌, List, [], ◌∷◌, ◌++◌, reverse, replicate, length, refl, sym, ◌∙◌, ap, ap₂}
use Rattle.std.proofs.Common.{length-append, add_comm, add-zero, zero-add, add_assoc}
use Rattle.std.proofs.lemmas.List.{length-replicate, reverse-append}
use Rattle.ori_volmem.specs.declared.note.Note.{Note}
use Rattle.ori_volume.specs.Disk.{Four, of_file, with_file}
use Rattle.ori_volmem.specs.Record.{FileState, disk_of, undone, told_past, past_of, moments_of}

length-told : (states : Four FileState) (notes : List Note) → length (told_past states notes) ≡ moments_of notes
length-told states [] = refl
length-told states (note ∷ notes) =
    let before = with_file states note.file (undone note.undo (of_file states note.file)) in
    length-append (replicate (note.unnoted + 1) (disk_of before)) (told_past before notes)
    ∙ ap₂ (λ (a b : ℕ). a + b) (length-replicate (note.unnoted + 1) (disk_of before)) (length-told before notes)

pub moments-append : (notes more : List Note) → moments_of (notes ++ more) ≡ moments_of notes + moments_of more
moments-append [] more = sym (zero-add (moments_of more))
moments-append (note ∷ notes) more =
    ap (λ (a : ℕ). note.unnoted + 1 + a) (moments-append notes more)
    ∙ sym (add_assoc (note.unnoted + 1) (moments_of notes) (moments_of more))

pub moments_noted : (old new : List Note) (note : Note) → new ≡ old ++ note ∷ []
    → moments_of new ≡ moments_of old + (note.unnoted + 1)
moments_noted old new note is =
    ap moments_of is ∙ moments-append old (note ∷ []) ∙ ap (λ (a : ℕ). moments_of old + a) (add-zero (note.unnoted + 1))

moments-reverse : (notes : List Note) → moments_of (reverse notes) ≡ moments_of notes
moments-reverse [] = refl
moments-reverse (note ∷ notes) =
    ap moments_of (reverse-append (note ∷ []) notes)
    ∙ moments_noted (reverse notes) (reverse notes ++ note ∷ []) note refl
    ∙ ap (λ (a : ℕ). a + (note.unnoted + 1)) (moments-reverse notes)
    ∙ add_comm (moments_of notes) (note.unnoted + 1)

pub length-past : (states : Four FileState) (unnoted : ℕ) (notes : List Note)
    → length (past_of states unnoted notes) ≡ unnoted + moments_of notes
length-past states unnoted notes =
    length-append (replicate unnoted (disk_of states)) (told_past states (reverse notes))
    ∙ ap₂ (λ (a b : ℕ). a + b) (length-replicate unnoted (disk_of states))
    (length-told states (reverse notes) ∙ moments-reverse notes)
