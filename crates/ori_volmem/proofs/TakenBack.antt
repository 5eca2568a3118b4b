-- The state of a file is its parts.
use Rattle.std.proofs.Common.{◌≡◌, ℕ, List, [], ◌∷◌, ◌++◌, length, take, take_at, refl}
use Rattle.ori_volmem.specs.declared.span.Span.{Span}
use Rattle.ori_volmem.specs.Record.{FileState}

pub same_state : (a b : FileState) → a.bytes ≡ b.bytes → a.spans ≡ b.spans → a.least ≡ b.least → a.greatest ≡ b.greatest
    → a ≡ b
same_state a b bytes spans least greatest =
    λ i. record { bytes = bytes i; spans = spans i; least = least i; greatest = greatest i }

-- the spans before the newest
pub spans_back : (gone old reserved new : List Span) (span : Span) (kept : ℕ) → gone ≡ [] → kept ≡ length old
    → reserved ≡ old → new ≡ reserved ++ span ∷ []
    → gone ++ take kept new ≡ old
spans_back gone old reserved new span kept none counts same pushed = cc (take_at old (span ∷ []) (length old) refl)
