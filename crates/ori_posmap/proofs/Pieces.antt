-- Lists that are spelled piece by piece, each piece of one length; and bytes written over a part of a list.
use Rattle.std.proofs.Common.{◌≡◌, ℕ, zero, suc, ◌+◌, ◌-◌, ◌*◌, ◌<◌, ◌≤◌, List, [], ◌∷◌, ◌++◌, length, take, drop}
use Rattle.std.proofs.Common.{set, replicate, get_or, flat_map, refl, sym, ap, subst, ◌∙◌, arith}
use Rattle.std.proofs.lemmas.List.{append_assoc, append-nil, length-append, get_or-set_same, take-set, drop-set-lt}
use Rattle.std.proofs.lemmas.List.{length-set}
use Rattle.std.proofs.lemmas.List.{replicate-append-replicate}
use Rattle.std.proofs.lemmas.List.{length-replicate}
use Rattle.std.proofs.Math.Seq.{drop-append-add, take-append_seam, drop-append_seam}
use Rattle.std.proofs.Math.Nat.{mul-suc, mul-zero}
use Rattle.ori_bytes.specs.declared.limits.TheConstants.{PAGE_BYTES}
use Rattle.ori_page.specs.Pages.{filled}
use Rattle.ori_posmap.specs.Bytes.{patched}

-- the pieces before the k-th, it, and those behind it
pub split_at : {X : Type 0} (f : X → List ℕ) (xs : List X) (k : ℕ) (d : X) → k < length xs
    → flat_map f xs ≡ flat_map f (take k xs) ++ (f (get_or xs k d) ++ flat_map f (drop (suc k) xs))
split_at f [] k d low = absurd (omega arith)
split_at f (x ∷ xs) zero d low = refl
split_at f (x ∷ xs) (suc k) d low =
    ap (λ (r : List ℕ). f x ++ r) (split_at f xs k d (omega arith))
    ∙ sym (append_assoc (f x) (flat_map f (take k xs)) _)

pub split_set : {X : Type 0} (f : X → List ℕ) (xs : List X) (k : ℕ) (y d : X) → k < length xs
    → flat_map f (set xs k y) ≡ flat_map f (take k xs) ++ (f y ++ flat_map f (drop (suc k) xs))
split_set f xs k y d low =
    let whole = split_at f (set xs k y) k d (omega (arith, length-set xs k y)) in
    rw (take-set xs k y, get_or-set_same xs k y d low, drop-set-lt (suc k) xs k y (omega arith)) at whole

pub pieces_length : {X : Type 0} (f : X → List ℕ) (w : ℕ) (each : (x : X) → length (f x) ≡ w) (xs : List X)
    → length (flat_map f xs) ≡ w * length xs
pieces_length f w each [] = sym (mul-zero w)
pieces_length f w each (x ∷ xs) =
    length-append (f x) (flat_map f xs)
    ∙ omega (arith, each x, pieces_length f w each xs, mul-suc w (length xs))

pub push_piece : {X : Type 0} (f : X → List ℕ) (xs : List X) (y : X)
    → flat_map f (xs ++ y ∷ []) ≡ flat_map f xs ++ f y
push_piece f [] y = simp append-nil
push_piece f (x ∷ xs) y =
    ap (λ (r : List ℕ). f x ++ r) (push_piece f xs y) ∙ sym (append_assoc (f x) (flat_map f xs) (f y))

-- ---- bytes written over

pub patched_part : (at : ℕ) (bytes a old b : List ℕ) → length a ≡ at → length old ≡ length bytes
    → patched at bytes (a ++ (old ++ b)) ≡ a ++ (bytes ++ b)
patched_part at bytes a old b place same =
    let front : take at (a ++ (old ++ b)) ≡ a
    = subst (λ (n : ℕ). take n (a ++ (old ++ b)) ≡ a) place (take-append_seam a (old ++ b)) in
    let back : drop (at + length bytes) (a ++ (old ++ b)) ≡ b
    = subst (λ (n : ℕ). drop n (a ++ (old ++ b)) ≡ b) (omega (arith, place, same))
    (drop-append-add a (old ++ b) (length old) ∙ drop-append_seam old b) in
    ap (λ (x : List ℕ). x ++ bytes ++ drop (at + length bytes) (a ++ (old ++ b))) front
    ∙ ap (λ (x : List ℕ). a ++ bytes ++ x) back ∙ append_assoc a bytes b

pub patched_filled : (at : ℕ) (bytes front a old b : List ℕ) → front ≡ a ++ (old ++ b) → length a ≡ at
    → length old ≡ length bytes → patched at bytes (filled front) ≡ filled (a ++ (bytes ++ b))
patched_filled at bytes front a old b is place same =
    let zeros : List ℕ = replicate (PAGE_BYTES - length front) 0 in
    let long : length front ≡ length (a ++ (bytes ++ b)) = ap length is ∙ simp (length-append) (omega (arith, same)) in
    let whole : front ++ zeros ≡ a ++ (old ++ (b ++ zeros))
    = ap (λ (x : List ℕ). x ++ zeros) is ∙ append_assoc a (old ++ b) zeros
    ∙ ap (λ (x : List ℕ). a ++ x) (append_assoc old b zeros) in
    ap (patched at bytes) whole ∙ patched_part at bytes a old (b ++ zeros) place same
    ∙ sym (ap (λ (n : ℕ). a ++ (bytes ++ b) ++ replicate (PAGE_BYTES - n) 0) (sym long)
    ∙ append_assoc a (bytes ++ b) zeros ∙ ap (λ (x : List ℕ). a ++ x) (append_assoc bytes b zeros))

pub patched_end : (at : ℕ) (bytes front : List ℕ) → length front ≡ at → at + length bytes ≤ PAGE_BYTES
    → patched at bytes (filled front) ≡ filled (front ++ bytes)
patched_end at bytes front place room =
    let n = PAGE_BYTES - length front in
    let rest = n - length bytes in
    let old : List ℕ = replicate (length bytes) 0 in
    let zeros : replicate n 0 ≡ old ++ replicate rest 0
    = ap (λ (k : ℕ). replicate k 0) (omega (arith, place))
    ∙ sym (replicate-append-replicate (length bytes) rest 0) in
    ap (λ (x : List ℕ). patched at bytes (front ++ x)) zeros
    ∙ patched_part at bytes front old (replicate rest 0) place (length-replicate (length bytes) 0)
    ∙ sym (append_assoc front bytes (replicate rest 0))
    ∙ ap (λ (k : ℕ). front ++ bytes ++ replicate k 0) (omega (arith, place, length-append front bytes))
