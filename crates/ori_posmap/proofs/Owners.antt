-- What stays, and what is read, of a page over which bytes are written.
use Rattle.std.proofs.Common.{◌≡◌, ℕ, zero, suc, ◌+◌, ◌-◌, ◌^◌, ◌<◌, ◌≤◌, List, [], ◌∷◌, ◌++◌, length, take, drop}
use Rattle.std.proofs.Common.{get_or, refl, sym, ap, subst, ◌∙◌, arith}
use Rattle.std.specs.Int.{w32, w64, byte_len, byte_worth, sum_through, to_be_bytes, from_be_bytes}
use Rattle.std.proofs.lemmas.Nat.{from_be_bytes-to_be_bytes_4}
use Rattle.std.proofs.lemmas.List.{append_assoc, length-append, length-drop, length-take-le, get_or-drop, get_or-take}
use Rattle.std.proofs.lemmas.List.{get_or_append_left}
use Rattle.std.proofs.Math.Seq.{drop-append_seam}
use Rattle.ori_page.specs.Pages.{owner_of, number_at}
use Rattle.ori_posmap.specs.Bytes.{patched, next_on}

pub patched_owner : (at : ℕ) (bytes page : List ℕ) → 4 ≤ at → 4 ≤ length page
    → owner_of (patched at bytes page) ≡ owner_of page
patched_owner (suc (suc (suc (suc n)))) bytes (a ∷ b ∷ c ∷ d ∷ rest) far long = refl
patched_owner zero bytes page far long = absurd (omega arith)
patched_owner (suc zero) bytes page far long = absurd (omega arith)
patched_owner (suc (suc zero)) bytes page far long = absurd (omega arith)
patched_owner (suc (suc (suc zero))) bytes page far long = absurd (omega arith)
patched_owner (suc (suc (suc (suc n)))) bytes [] far long = absurd (omega arith)
patched_owner (suc (suc (suc (suc n)))) bytes (a ∷ []) far long = absurd (omega arith)
patched_owner (suc (suc (suc (suc n)))) bytes (a ∷ b ∷ []) far long = absurd (omega arith)
patched_owner (suc (suc (suc (suc n)))) bytes (a ∷ b ∷ c ∷ []) far long = absurd (omega arith)

pub patched_length : (at : ℕ) (bytes page : List ℕ) → at + length bytes ≤ length page
    → length (patched at bytes page) ≡ length page
patched_length at bytes page low =
    omega (
      arith,
      low,
      length-append (take at page ++ bytes) (drop (at + length bytes) page),
      length-append (take at page) bytes,
      length-take-le at page (omega (arith, low)),
      length-drop (at + length bytes) page,
    )

-- the number that was written is read
pub patched_read : (at n : ℕ) (page : List ℕ) → at ≤ length page → n < 2 ^ 32
    → number_at at (patched at (to_be_bytes w32 n) page) ≡ n
patched_read at n page low fits =
    let bytes = to_be_bytes w32 n in
    let rest = drop (at + length bytes) page in
    let there : drop at (patched at bytes page) ≡ bytes ++ rest
    = ap (drop at) (append_assoc (take at page) bytes rest)
    ∙ subst (λ (k : ℕ). drop k (take at page ++ (bytes ++ rest)) ≡ bytes ++ rest) (length-take-le at page low)
    (drop-append_seam (take at page) (bytes ++ rest)) in
    ap (from_be_bytes w32) there ∙ from_be_bytes-to_be_bytes_4 n fits

patched_get : (at : ℕ) (bytes page : List ℕ) (j : ℕ) → j < at → at ≤ length page
    → get_or (patched at bytes page) j 0 ≡ get_or page j 0
patched_get at bytes page j below low =
    let front = length-take-le at page low in
    get_or_append_left (take at page ++ bytes) (drop (at + length bytes) page) 0 j
    (omega (arith, below, front, length-append (take at page) bytes))
    ∙ get_or_append_left (take at page) bytes 0 j (omega (arith, below, front)) ∙ get_or-take at page j 0 below

sum_same : (f g : ℕ → ℕ) (n : ℕ) → ((i : ℕ) → i ≤ n → f i ≡ g i) → sum_through f n ≡ sum_through g n
sum_same f g zero e = e 0 (omega arith)
sum_same f g (suc n) e =
    omega (arith, sum_same f g n (λ i low. e i (omega (arith, low))), e (suc n) (omega arith))

-- what is written past the next position leaves it
pub patched_next : (at : ℕ) (bytes page : List ℕ) → 16 ≤ at → at ≤ length page
    → next_on (patched at bytes page) ≡ next_on page
patched_next at bytes page far low =
    sum_same (λ i. byte_worth (byte_len w64 - 1 - i) (get_or (drop 8 (patched at bytes page)) i 0))
    (λ i. byte_worth (byte_len w64 - 1 - i) (get_or (drop 8 page) i 0)) 7
    (λ i small. ap (byte_worth (byte_len w64 - 1 - i)) (get_or-drop 8 (patched at bytes page) i 0
    ∙ patched_get at bytes page (8 + i) (omega (arith, small, far)) low ∙ sym (get_or-drop 8 page i 0)))
