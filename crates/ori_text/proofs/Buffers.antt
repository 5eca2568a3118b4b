-- The bytes that a reader holds in its buffer, and the line at their front.
use Rattle.std.proofs.Common.{◌≡◌, ℕ, ◌+◌, ◌-◌, ◌<◌, ◌≤◌, Bool, true, false, cond, List, [], ◌∷◌, ◌++◌, length, take}
use Rattle.std.proofs.Common.{drop, get_or, refl, sym, ◌∙◌, ap, subst, inl, inr, arith, Some, None}
use Rattle.std.specs.Prelude.{◌==◌, nat_lt, position}
use Rattle.std.specs.List.{position_or_len}
use Rattle.std.proofs.lemmas.Bool.{eqb-true, eqb-false, ltb-false, false≢true}
use Rattle.std.proofs.lemmas.List.{drop-take, drop-drop, length-take, take_more, get_or-take, take-append-drop}
use Rattle.std.proofs.lemmas.List.{append-nil}
use Rattle.std.proofs.lemmas.List.Quantifiers.{position-Some}
use Rattle.std.proofs.lemmas.List.Sums.{fails_before_first}
use Rattle.ori_spec_texts.specs.Line.{is_too_long}
use Rattle.ori_text.specs.Lines.{Reading}
use Rattle.ori_text.specs.LineSteps.{IsFront, HasNoFront}
use Rattle.ori_text.proofs.Cuts.{Lacks, lacks_from_places}

-- ---- places in the buffer

drop_held : (buffer : List ℕ) (start end len : ℕ) → start + len ≤ end
    → take (end - (start + len)) (drop (start + len) buffer) ≡ drop len (take (end - start) (drop start buffer))
drop_held buffer start end len fits =
    let rest : end - start ≡ len + (end - (start + len)) = omega arith in
    ap (λ t. take (end - (start + len)) t) (sym (drop-drop len start buffer))
    ∙ sym (drop-take len (end - (start + len)) (drop start buffer))
    ∙ ap (λ n. drop len (take n (drop start buffer))) (sym rest)

-- what a reader with this buffer shows
abbrev pub seen : List ℕ → ℕ → ℕ → ℕ → Bool → Reading
seen buffer start end given ended =
    record { given = given; held = take (end - start) (drop start buffer); ended = ended }

-- what is left behind bytes that were given
abbrev pub after_pass : Reading → ℕ → Reading
after_pass r len = record { given = r.given + len; held = drop len r.held; ended = r.ended }

pub passed : (buffer : List ℕ) (start end given len : ℕ) (ended : Bool) (view : Reading) → start ≤ end
    → seen buffer start end given ended ≡ view → len ≤ length view.held
    → seen buffer (start + len) end (given + len) ended ≡ after_pass view len
passed buffer start end given len ended view order e =
    let P : Reading → Type 0 = λ v. len ≤ length v.held → seen buffer (start + len) end (given + len) ended ≡ after_pass
    v len in
    let Q : List ℕ → Reading = λ t. record { given = given + len; held = t; ended = ended } in
    subst P e (λ fits. ap Q (drop_held buffer start end len (omega
    (arith, length-take (end - start) (drop start buffer)))))

-- ---- the first line

no_newline : (xs : List ℕ) → None ≡ position (λ b. b == 10) xs → Lacks 10 xs
no_newline xs e = lacks_from_places 10 xs (λ i l is. none (nat_lt (position_or_len (λ b. b == 10) xs) (length xs)) refl
    i l is) where
      none : (t : Bool) → nat_lt (position_or_len (λ b. b == 10) xs) (length xs) ≡ t → (i : ℕ) → i < length xs
          → get_or xs i 0 ≡ 10 → ⊥
      none true q i l is = absurd (some (e ∙ ap (λ c. cond c (Some (position_or_len (λ b. b == 10) xs)) None) q)) where
        some : (None ≡ Some (position_or_len (λ b. b == 10) xs)) → ⊥
        some p = cc
      none false q i l is =
          eqb-false (get_or xs i 0) 10 (fails_before_first (λ b. b == 10) xs i 0
          (omega (arith, ltb-false (position_or_len (λ b. b == 10) xs) (length xs) q))) is

pub newline_front : (ended : Bool) (held : List ℕ) (at : ℕ) → Some at ≡ position (λ b. b == 10) held → (rest : List ℕ)
    × IsFront ended held (take (at + 1) held) rest
newline_front ended held at e =
    let found = position-Some (λ b. b == 10) held at 0 (sym e) in
    let byte : get_or held at 0 ≡ 10 = eqb-true _ _ found.1 in
    let parts : take (at + 1) held ≡ take at held ++ 10 ∷ [] =
    take_more held at 0 found.0 ∙ ap (λ b. take at held ++ b ∷ []) byte in
    let lacks : Lacks 10 (take at held) = lacks_from_places 10 (take at held) (λ i l is.
    eqb-false (get_or held i 0) 10 (found.2 i (omega (arith, length-take at held)))
    (sym (get_or-take at held i 0 (omega (arith, length-take at held))) ∙ is)) in (
      drop (at + 1) held,
      record {
        parts = sym (take-append-drop (at + 1) held);
        some = omega (arith, found.0, length-take (at + 1) held);
        shape = inl (take at held, parts, lacks);
      },
    )

too_long_some : (line : List ℕ) → is_too_long line ≡ true → 0 < length line
too_long_some [] h = absurd (false≢true h)
too_long_some (x ∷ xs) h = omega arith

pub too_long_front : (ended : Bool) (held : List ℕ) → None ≡ position (λ b. b == 10) held → is_too_long held ≡ true
    → (rest : List ℕ) × IsFront ended held held rest
too_long_front ended held e long = (
  [],
  record {
    parts = sym (append-nil held);
    some = too_long_some held long;
    shape = inr (record { no_end = no_newline held e; nothing_behind = refl; why = inr long });
  },
)

pub last_front : (ended : Bool) (held : List ℕ) → None ≡ position (λ b. b == 10) held → ended ≡ true → 0 < length held
    → (rest : List ℕ) × IsFront ended held held rest
last_front ended held e end some = (
  [],
  record {
    parts = sym (append-nil held);
    some = some;
    shape = inr (record { no_end = no_newline held e; nothing_behind = refl; why = inl end });
  },
)

pub no_front : (given : ℕ) (ended : Bool) (held : List ℕ) → None ≡ position (λ b. b == 10) held
    → is_too_long held ≡ false → (ended ≡ true → held ≡ [])
    → HasNoFront (record { given = given; held = held; ended = ended })
no_front given ended held e short last =
    record { part = record { no_end = no_newline held e; short = short }; last = last }
