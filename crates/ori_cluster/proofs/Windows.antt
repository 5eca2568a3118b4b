-- Parts of a page over which bytes are written.
use Rattle.std.proofs.Common.{◌≡◌, ℕ, ◌+◌, ◌≤◌, List, [], ◌∷◌, ◌++◌, length, take, drop}
use Rattle.std.proofs.Common.{refl, sym, ap, subst, ◌∙◌, arith}
use Rattle.std.specs.Int.{w16, w32, to_be_bytes, from_be_bytes}
use Rattle.std.proofs.lemmas.List.{append_assoc, length-append, length-take-le, take-append-le, take-take, drop-take}
use Rattle.std.proofs.lemmas.List.{drop-drop}
use Rattle.std.proofs.lemmas.Slice.{drop-append-drop}
use Rattle.std.proofs.Math.Seq.{take-append_seam, drop-append_seam}
use Rattle.ori_bytes.specs.declared.limits.TheConstants.{PAGE_BYTES}
use Rattle.ori_cluster.specs.declared.chunk.Link.{Link}
use Rattle.ori_cluster.specs.Slots.{chunk_bytes}
use Rattle.ori_posmap.specs.Bytes.{patched}

-- so many bytes from a place on
abbrev pub window : ℕ → ℕ → List ℕ → List ℕ
window at n page = take n (drop at page)

front_length : (at : ℕ) (x page : List ℕ) → at + length x ≤ length page
    → length (take at page ++ x) ≡ at + length x
front_length at x page low =
    omega (arith, low, length-append (take at page) x, length-take-le at page (omega (arith, low)))

-- what stands behind
pub behind : (at b : ℕ) (x page : List ℕ) → at + length x ≤ b → at + length x ≤ length page
    → drop b (patched at x page) ≡ drop b page
behind at b x page past low =
    drop-append-drop (at + length x) page (take at page ++ x) b past (front_length at x page low)

-- what stands before
pub before : (at b n : ℕ) (x page : List ℕ) → b + n ≤ at → at + length x ≤ length page
    → window b n (patched at x page) ≡ window b n page
before at b n x page past low =
    let first : take (b + n) (patched at x page) ≡ take (b + n) page
    = take-append-le (b + n) (take at page ++ x) (drop (at + length x) page)
    (omega (arith, past, front_length at x page low))
    ∙ take-append-le (b + n) (take at page) x (omega (arith, past, length-take-le at page (omega (arith, low))))
    ∙ take-take (b + n) at page past in
    sym (drop-take b n (patched at x page)) ∙ ap (drop b) first ∙ drop-take b n page

-- what stands there
pub there : (at : ℕ) (x page : List ℕ) → at ≤ length page
    → drop at (patched at x page) ≡ x ++ drop (at + length x) page
there at x page low =
    let rest = drop (at + length x) page in
    ap (drop at) (append_assoc (take at page) x rest)
    ∙ subst (λ (k : ℕ). drop k (take at page ++ (x ++ rest)) ≡ x ++ rest) (length-take-le at page low)
    (drop-append_seam (take at page) (x ++ rest))

-- a part of a part
pub inner : (b n i m : ℕ) (page : List ℕ) → i + m ≤ n → window (b + i) m page ≡ window i m (window b n page)
inner b n i m page low =
    let y = drop b page in
    let whole : drop i (take (i + m) (take n y)) ≡ drop i (take (i + m) y)
    = ap (drop i) (take-take (i + m) n y low) in
    ap (take m) (sym (drop-drop i b page)) ∙ sym (drop-take i m y) ∙ sym whole ∙ drop-take i m (take n y)

-- parts of two pages that agree on a larger one
pub inner_same : (b n i m : ℕ) (x y : List ℕ) → i + m ≤ n → window b n x ≡ window b n y
    → window (b + i) m x ≡ window (b + i) m y
inner_same b n i m x y low same =
    inner b n i m x low ∙ ap (window i m) same ∙ sym (inner b n i m y low)

pub written_twice : (at k : ℕ) (x y page : List ℕ) → k ≡ at + length x → k + length y ≤ length page
    → patched k y (patched at x page) ≡ patched at (x ++ y) page
written_twice at k x y page is low =
    let front = take at page ++ x in
    let rest = drop (k + length y) page in
    let long : length front ≡ k = front_length at x page (omega (arith, is, low)) ∙ sym is in
    let first : take k (patched at x page) ≡ front
    = subst (λ (n : ℕ). take n (patched at x page) ≡ front) long
    (take-append_seam front (drop (at + length x) page)) in
    let last : drop (k + length y) (patched at x page) ≡ rest
    = behind at (k + length y) x page (omega (arith, is)) (omega (arith, is, low)) in
    ap (λ (z : List ℕ). z ++ y ++ drop (k + length y) (patched at x page)) first
    ∙ ap (λ (z : List ℕ). front ++ y ++ z) last
    ∙ ap (λ (z : List ℕ). z ++ rest) (append_assoc (take at page) x y)
    ∙ ap (λ (n : ℕ). take at page ++ (x ++ y) ++ drop n page) (omega (arith, is, length-append x y))

-- ---- numbers

-- two bytes tell a number, and so do four
pub two : (x : List ℕ) → from_be_bytes w16 (take 2 x) ≡ from_be_bytes w16 x
two [] = refl
two (a ∷ []) = refl
two (a ∷ b ∷ rest) = refl

pub four : (x : List ℕ) → from_be_bytes w32 (take 4 x) ≡ from_be_bytes w32 x
four [] = refl
four (a ∷ []) = refl
four (a ∷ b ∷ []) = refl
four (a ∷ b ∷ c ∷ []) = refl
four (a ∷ b ∷ c ∷ d ∷ rest) = refl

-- ---- writes of several parts

pub chunk_written : (page bytes : List ℕ) (next : Link) (at : ℕ) → length page ≡ PAGE_BYTES
    → at + 8 + length bytes ≤ PAGE_BYTES
    → patched (at + 8) bytes (patched (at + 6) (to_be_bytes w16 (length bytes))
    (patched (at + 4) (to_be_bytes w16 next.slot) (patched at (to_be_bytes w32 next.page) page)))
    ≡ patched at (chunk_bytes next bytes) page
chunk_written page bytes next at long room =
    let p = to_be_bytes w32 next.page in
    let s = to_be_bytes w16 next.slot in
    let l = to_be_bytes w16 (length bytes) in
    ap (λ (z : List ℕ). patched (at + 8) bytes (patched (at + 6) l z))
    (written_twice at (at + 4) p s page (omega arith) (omega (arith, long, room)))
    ∙ ap (patched (at + 8) bytes)
    (written_twice at (at + 6) (p ++ s) l page (omega arith) (omega (arith, long, room)))
    ∙ written_twice at (at + 8) (p ++ s ++ l) bytes page (omega arith) (omega (arith, long, room))

pub counts_written : (page : List ℕ) (count end : ℕ) → length page ≡ PAGE_BYTES
    → patched 10 (to_be_bytes w16 end) (patched 8 (to_be_bytes w16 count) page)
    ≡ patched 8 (to_be_bytes w16 count ++ to_be_bytes w16 end) page
counts_written page count end long =
    written_twice 8 10 (to_be_bytes w16 count) (to_be_bytes w16 end) page refl (omega (arith, long))
