-- Hexadecimal digits, two at a time.
use Rattle.std.proofs.Common.{◌≡◌, ℕ, suc, ◌+◌, ◌*◌, ◌%◌, ◌<◌, ◌≤◌, List, [], ◌∷◌, ◌++◌, length, get_or}
use Rattle.std.proofs.Common.{drop}
use Rattle.std.proofs.Common.{Option, Some, None, refl, sym, ap, ◌∙◌, arith, drop-cons, append_assoc, append-nil}
use Rattle.std.proofs.lemmas.List.{drop_all}
use Rattle.ori_spec_data.specs.Fit.{hex_byte, hex_bytes, hex_digit}

-- the bytes so far before those of the other digits, where these name some
abbrev pub joined : List ℕ → Option (List ℕ) → Option (List ℕ)
joined done None = None
joined done (Some bytes) = Some (done ++ bytes)

pub odd_is_none : (text : List ℕ) → (length text % 2 ≡ 0 → ⊥) → hex_bytes text ≡ None
odd_is_none [] h = absurd (h (omega arith))
odd_is_none (c ∷ []) h = refl
odd_is_none (c ∷ d ∷ cs) h = rw (odd_is_none cs (λ e. h (omega arith))) (by (hex_digit c) (hex_digit d))
  where
    by : (high low : Option ℕ) → hex_byte high low None ≡ None
    by None low = refl
    by (Some x) None = refl
    by (Some x) (Some y) = refl

-- the digits from a place on
pair_at : (text : List ℕ) (at : ℕ) → 2 * at + 1 < length text → hex_bytes (drop (2 * at) text)
    ≡ hex_byte (hex_digit (get_or text (2 * at) 0)) (hex_digit (get_or text (2 * at + 1) 0))
    (hex_bytes (drop (2 * (at + 1)) text))
pair_at text at lt =
    let first : drop (2 * at) text ≡ get_or text (2 * at) 0 ∷ drop (suc (2 * at)) text =
    drop-cons text (2 * at) 0 (omega arith) in
    let second : drop (suc (2 * at)) text ≡ get_or text (suc (2 * at)) 0 ∷ drop (suc (suc (2 * at))) text =
    drop-cons text (suc (2 * at)) 0 (omega arith) in
    let one : suc (2 * at) ≡ 2 * at + 1 = omega arith in
    let two : suc (suc (2 * at)) ≡ 2 * (at + 1) = omega arith in
    rw (first, second, two, one) refl

no_high : (high low : Option ℕ) (rest : Option (List ℕ)) → None ≡ high → hex_byte high low rest ≡ None
no_high None low rest e = refl
no_high (Some x) low rest e = cc

no_low : (high low : Option ℕ) (rest : Option (List ℕ)) → None ≡ low → hex_byte high low rest ≡ None
no_low None low rest e = refl
no_low (Some x) None rest e = refl
no_low (Some x) (Some y) rest e = cc

pub high_is_none : (text done : List ℕ) (at : ℕ) (whole : Option (List ℕ)) → 2 * at + 1 < length text
    → None ≡ hex_digit (get_or text (2 * at) 0) → joined done (hex_bytes (drop (2 * at) text)) ≡ whole → None ≡ whole
high_is_none text done at whole lt e h =
    let none : hex_bytes (drop (2 * at) text) ≡ None = pair_at text at lt ∙ no_high _ _ _ e in
    let gone : joined done (hex_bytes (drop (2 * at) text)) ≡ None =
    ap (λ (o : Option (List ℕ)). joined done o) none in
    sym gone ∙ h

pub low_is_none : (text done : List ℕ) (at : ℕ) (whole : Option (List ℕ)) → 2 * at + 1 < length text
    → None ≡ hex_digit (get_or text (2 * at + 1) 0) → joined done (hex_bytes (drop (2 * at) text)) ≡ whole
    → None ≡ whole
low_is_none text done at whole lt e h =
    let none : hex_bytes (drop (2 * at) text) ≡ None = pair_at text at lt ∙ no_low _ _ _ e in
    let gone : joined done (hex_bytes (drop (2 * at) text)) ≡ None =
    ap (λ (o : Option (List ℕ)). joined done o) none in
    sym gone ∙ h

byte_joined : (done : List ℕ) (high low : ℕ) (rest : Option (List ℕ))
    → joined done (hex_byte (Some high) (Some low) rest) ≡ joined (done ++ (16 * high + low) ∷ []) rest
byte_joined done high low None = refl
byte_joined done high low (Some bytes) =
    ap (λ (l : List ℕ). Some l) (sym (append_assoc done ((16 * high + low) ∷ []) bytes))

two_digits : (high low : ℕ) (h l : Option ℕ) (rest : Option (List ℕ)) → Some high ≡ h → Some low ≡ l
    → hex_byte h l rest ≡ hex_byte (Some high) (Some low) rest
two_digits high low h l rest e f =
    ap (λ (o : Option ℕ). hex_byte o l rest) (sym e) ∙ ap (λ (o : Option ℕ). hex_byte (Some high) o rest) (sym f)

pub pair_joined : (text done next : List ℕ) (at high low : ℕ) (whole : Option (List ℕ)) → 2 * at + 1 < length text
    → Some high ≡ hex_digit (get_or text (2 * at) 0) → Some low ≡ hex_digit (get_or text (2 * at + 1) 0)
    → next ≡ done ++ (16 * high + low) ∷ [] → joined done (hex_bytes (drop (2 * at) text)) ≡ whole
    → joined next (hex_bytes (drop (2 * (at + 1)) text)) ≡ whole
pair_joined text done next at high low whole lt e f g h =
    let rest = hex_bytes (drop (2 * (at + 1)) text) in
    let there : hex_bytes (drop (2 * at) text) ≡ hex_byte (Some high) (Some low) rest =
    pair_at text at lt ∙ two_digits high low _ _ rest e f in
    let more : joined done (hex_bytes (drop (2 * at) text)) ≡ joined done (hex_byte (Some high) (Some low) rest) =
    ap (λ (o : Option (List ℕ)). joined done o) there in
    let all : joined next rest ≡ joined (done ++ (16 * high + low) ∷ []) rest =
    ap (λ (l : List ℕ). joined l rest) g in
    all ∙ sym (byte_joined done high low rest) ∙ sym more ∙ h

pub all_joined : (text done : List ℕ) (at : ℕ) (whole : Option (List ℕ)) → length text ≤ 2 * at
    → joined done (hex_bytes (drop (2 * at) text)) ≡ whole → Some done ≡ whole
all_joined text done at whole le h =
    sym (rw (drop_all (2 * at) text le) (ap (λ (l : List ℕ). Some l) (append-nil done))) ∙ h
