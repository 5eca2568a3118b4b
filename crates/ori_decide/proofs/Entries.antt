-- A legal history, an entry at a time.
use Rattle.std.proofs.Common.{◌≡◌, ℕ, ◌+◌, ◌<◌, List, ◌∷◌, length, drop, drop-cons, add-one, get_or, refl, subst}
use Rattle.ori_spec_data.specs.Base.{BaseData, EntryData, commit, define}
use Rattle.ori_spec_data.specs.Apply.{apply, replay}
use Rattle.ori_spec_data.specs.Histories.{IsLegalHistory}
use Rattle.ori_spec_data.specs.Soundness.{IsSoundBase}
use Rattle.ori_spec_data.proofs.Kept.{apply_sound}
use Rattle.ori_model.specs.declared.entry.Entry.{Entry}
use Rattle.ori_model.specs.Data.{entry_of, entries_of}
use Rattle.ori_decide.specs.Steps.{IsAccepted}

pub head_of : (base : BaseData) (e : EntryData) (es : List EntryData) → IsLegalHistory base (e ∷ es)
    → IsAccepted base e × IsLegalHistory (apply base e) es
head_of base e es h = ((h.0, h.1), h.3)

pub accepted_sound : (base : BaseData) (e : EntryData) → IsSoundBase base → IsAccepted base e
    → IsSoundBase (apply base e)
accepted_sound base (commit session tx rids) sound h = apply_sound base tx sound h.0 h.1
accepted_sound base (define session definition) sound h = absurd h.0

at_entry : (xs : List Entry) (i : ℕ) (x : Entry) → i < length xs → x ≡ get_or xs i x
    → entries_of (drop i xs) ≡ entry_of x ∷ entries_of (drop (i + 1) xs)
at_entry xs i x lt is = rw (drop-cons xs i x, ← is, add-one) refl

pub accepts : (base : BaseData) (xs : List Entry) (i : ℕ) (x : Entry) → i < length xs → x ≡ get_or xs i x
    → IsLegalHistory base (entries_of (drop i xs)) → IsAccepted base (entry_of x)
accepts base xs i x lt is h = (head_of base (entry_of x) (entries_of (drop (i + 1) xs)) (subst (IsLegalHistory base)
    (at_entry xs i x lt is) h)).0

pub legal_after : (base after : BaseData) (xs : List Entry) (i : ℕ) (x : Entry) → i < length xs → x ≡ get_or xs i x
    → after ≡ apply base (entry_of x) → IsLegalHistory base (entries_of (drop i xs))
    → IsLegalHistory after (entries_of (drop (i + 1) xs))
legal_after base after xs i x lt is e h = rw e (head_of base (entry_of x) (entries_of (drop (i + 1) xs)) (subst
    (IsLegalHistory base) (at_entry xs i x lt is) h)).1

pub leads_after : (base after first : BaseData) (xs : List Entry) (i : ℕ) (x : Entry) → i < length xs
    → x ≡ get_or xs i x → after ≡ apply base (entry_of x) → replay base (entries_of (drop i xs)) ≡ first
    → replay after (entries_of (drop (i + 1) xs)) ≡ first
leads_after base after first xs i x lt is e h = rw e (subst (λ es. replay base es ≡ first) (at_entry xs i x lt is) h)
