-- Reading lines one after the other.
use Rattle.std.proofs.Common.{ℕ, ◌+◌, List, [], ◌∷◌, ◌++◌, length, sym, ap, inl, inr, arith}
use Rattle.std.proofs.Common.{subst, IsTrue}
use Rattle.std.proofs.lemmas.List.{length-append}
use Rattle.ori_spec_texts.specs.Line.{LineData, StopData, at_end, is_too_long, Reads}
use Rattle.ori_spec_texts.proofs.OneReading.{true_false}
use Rattle.ori_text.specs.Lines.{joined}

-- lines that were read to their end, and then others
pub Reads-then : (at : ℕ) (lines others : List (List ℕ)) (said more : List LineData) (stop : StopData)
    → Reads at lines said at_end
    → Reads (at + length (joined lines)) others more stop → Reads at (lines ++ others) (said ++ more) stop
Reads-then at [] others said more stop p q =
    subst (λ (s : List LineData). Reads at others (s ++ more) stop) (sym p.0)
    (subst (λ (n : ℕ). Reads n others more stop) (omega arith) q)
Reads-then at (line ∷ lines) others said more stop p q =
    let q' : Reads (at + length line + length (joined lines)) others more stop =
    subst (λ (n : ℕ). Reads n others more stop) (omega (arith, length-append line (joined lines))) q in
    elim p [
      | inl skipped ↦ inl (skipped.0, skipped.1, Reads-then (at + length line) lines others said more stop skipped.2 q')
      | inr p1 ↦ elim p1 [
        | inl first ↦ inr (inl (
          first.0,
          first.1 ++ more,
          ap (λ (s : List LineData). s ++ more) first.2,
          first.3,
          Reads-then (at + length line) lines others first.1 more stop first.4 q',
        ))
        | inr p2 ↦ elim p2 [
          | inl malformed ↦ absurd (cc (malformed.2))
          | inr p3 ↦ elim p3 [
            | inl long ↦ absurd (cc (long.2))
            | inr late ↦ absurd (cc (late.3))
          ]
        ]
      ]
    ]

-- a last line that is too long isn't read to its end
pub no_long : (at : ℕ) (front : List (List ℕ)) (last : List ℕ) (said : List LineData)
    → Reads at (front ++ last ∷ []) said at_end → IsTrue (is_too_long last) → ⊥
no_long at [] last said p long =
    elim p [
      | inl skipped ↦ true_false (is_too_long last) long skipped.0.short
      | inr p1 ↦ elim p1 [
        | inl first ↦ true_false (is_too_long last) long first.3.taken.short
        | inr p2 ↦ elim p2 [
          | inl malformed ↦ absurd (cc (malformed.2))
          | inr p3 ↦ elim p3 [
            | inl too_long ↦ absurd (cc (too_long.2))
            | inr late ↦ absurd (cc (late.3))
          ]
        ]
      ]
    ]
no_long at (line ∷ front) last said p long =
    elim p [
      | inl skipped ↦ no_long (at + length line) front last said skipped.2 long
      | inr p1 ↦ elim p1 [
        | inl first ↦ no_long (at + length line) front last first.1 first.4 long
        | inr p2 ↦ elim p2 [
          | inl malformed ↦ absurd (cc (malformed.2))
          | inr p3 ↦ elim p3 [
            | inl too_long ↦ absurd (cc (too_long.2))
            | inr late ↦ absurd (cc (late.3))
          ]
        ]
      ]
    ]
