-- Images and heads by their bytes.
use Rattle.std.proofs.Common.{◌≡◌, ℕ, zero, suc, ◌+◌, ◌-◌, ◌<◌, ◌≤◌, List, [], ◌∷◌, ◌++◌, length, take, drop, replicate}
use Rattle.std.proofs.Common.{get_or, refl, sym, ◌∙◌, ap, ap₂, arith, append-nil, length-drop, take_all, subst}
use Rattle.std.specs.List.{AllByRecursion}
use Rattle.std.proofs.lemmas.List.{places}
use Rattle.ori_log.proofs.Images.{each_byte}
use Rattle.std.specs.Int.{w32, to_be_bytes, from_be_bytes}
use Rattle.std.proofs.lemmas.Nat.{be_bytes_4}
use Rattle.ori_bytes.specs.declared.limits.TheConstants.{PAGE_BYTES}
use Rattle.ori_page.specs.Pages.{filled}

-- the first four of a list
four_front : (xs : List ℕ) → 4 ≤ length xs → xs ≡ get_or xs 0 0 ∷ get_or xs 1 0 ∷ get_or xs 2 0 ∷ get_or xs 3 0
    ∷ drop 4 xs
four_front [] long = absurd (omega (arith, long))
four_front (a ∷ []) long = absurd (omega (arith, long))
four_front (a ∷ b ∷ []) long = absurd (omega (arith, long))
four_front (a ∷ b ∷ c ∷ []) long = absurd (omega (arith, long))
four_front (a ∷ b ∷ c ∷ d ∷ xs) long = refl

each : (a b c d : ℕ) → a < 256 → b < 256 → c < 256 → d < 256 → (i : ℕ) → get_or (a ∷ b ∷ c ∷ d ∷ []) i 0 < 256
each a b c d small_a small_b small_c small_d zero = small_a
each a b c d small_a small_b small_c small_d (suc zero) = small_b
each a b c d small_a small_b small_c small_d (suc (suc zero)) = small_c
each a b c d small_a small_b small_c small_d (suc (suc (suc zero))) = small_d
each a b c d small_a small_b small_c small_d (suc (suc (suc (suc i)))) = omega arith

-- four bytes are those of the number that they spell
pub spelled : (a b c d n : ℕ) → a < 256 → b < 256 → c < 256 → d < 256 → n ≡ from_be_bytes w32 (a ∷ b ∷ c ∷ d ∷ [])
    → to_be_bytes w32 n ≡ a ∷ b ∷ c ∷ d ∷ []
spelled a b c d n small_a small_b small_c small_d is =
    be_bytes_4 (a ∷ b ∷ c ∷ d ∷ []) n refl (each a b c d small_a small_b small_c small_d) is

content_is_rest : (bytes content : List ℕ) → length bytes ≡ 4 + PAGE_BYTES
    → content ≡ filled (take (length bytes - 4) (drop 4 bytes)) → content ≡ drop 4 bytes
content_is_rest bytes content long is =
    let none : PAGE_BYTES - length (drop 4 bytes) ≡ 0 = omega (arith, length-drop 4 bytes, long) in
    is ∙ ap (λ (l : List ℕ). filled l) (take_all (length bytes - 4) (drop 4 bytes) (omega (arith, length-drop 4 bytes)))
    ∙ ap (λ (n : ℕ). drop 4 bytes ++ replicate n 0) none
    ∙ append-nil (drop 4 bytes)

-- a page of bytes is whole
pub image_whole : (bytes content : List ℕ) → length bytes ≡ 4 + PAGE_BYTES → ((i : ℕ) → get_or bytes i 0 < 256)
    → content ≡ filled (take (length bytes - 4) (drop 4 bytes))
    → (length content ≡ PAGE_BYTES) × AllByRecursion (λ b. b < 256) content
image_whole bytes content long small is =
    let rest : content ≡ drop 4 bytes = content_is_rest bytes content long is in (
      omega (arith, ap length rest, length-drop 4 bytes, long),
      subst (λ (l : List ℕ). AllByRecursion (λ b. b < 256) l) (sym rest)
          (each_byte (drop 4 bytes) (λ k within. let same : get_or (drop 4 bytes) k 0 ≡ get_or bytes (4 + k) 0 = search
          (arith, places) in subst (λ (n : ℕ). n < 256) (sym same) (small (4 + k)))),
    )

pub image_spelled : (bytes content : List ℕ) (page : ℕ) → length bytes ≡ 4 + PAGE_BYTES
    → ((i : ℕ) → get_or bytes i 0 < 256)
    → page ≡ from_be_bytes w32 (get_or bytes 0 0 ∷ get_or bytes 1 0 ∷ get_or bytes 2 0 ∷ get_or bytes 3 0 ∷ [])
    → content ≡ filled (take (length bytes - 4) (drop 4 bytes)) → to_be_bytes w32 page ++ content ≡ bytes
image_spelled bytes content page long small page_is content_is =
    let number = spelled (get_or bytes 0 0) (get_or bytes 1 0) (get_or bytes 2 0) (get_or bytes 3 0) page (small 0)
    (small 1) (small 2) (small 3) page_is in
    let rest : content ≡ drop 4 bytes = content_is_rest bytes content long content_is in
    ap (λ (l : List ℕ). l ++ content) number ∙ ap (λ (l : List ℕ). get_or bytes 0 0 ∷ get_or bytes 1 0
    ∷ get_or bytes 2 0 ∷ get_or bytes 3 0 ∷ l) rest
    ∙ sym (four_front bytes (omega (arith, long)))

pub head_spelled : (bytes : List ℕ) (body count : ℕ) → length bytes ≡ 9 → ((i : ℕ) → get_or bytes i 0 < 256)
    → body ≡ from_be_bytes w32 (get_or bytes 1 0 ∷ get_or bytes 2 0 ∷ get_or bytes 3 0 ∷ get_or bytes 4 0 ∷ [])
    → count ≡ from_be_bytes w32 (get_or bytes 5 0 ∷ get_or bytes 6 0 ∷ get_or bytes 7 0 ∷ get_or bytes 8 0 ∷ [])
    → get_or bytes 0 0 ∷ to_be_bytes w32 body ++ to_be_bytes w32 count ≡ bytes
head_spelled (g ∷ a ∷ b ∷ c ∷ d ∷ e ∷ f ∷ h ∷ i ∷ []) body count long small body_is count_is =
    ap₂ (λ (l m : List ℕ). g ∷ l ++ m) (spelled a b c d body (small 1) (small 2) (small 3) (small 4) body_is)
    (spelled e f h i count (small 5) (small 6) (small 7) (small 8) count_is)
head_spelled [] body count long small body_is count_is = absurd (omega (arith, long))
head_spelled (g ∷ []) body count long small body_is count_is = absurd (omega (arith, long))
head_spelled (g ∷ a ∷ []) body count long small body_is count_is = absurd (omega (arith, long))
head_spelled (g ∷ a ∷ b ∷ []) body count long small body_is count_is = absurd (omega (arith, long))
head_spelled (g ∷ a ∷ b ∷ c ∷ []) body count long small body_is count_is = absurd (omega (arith, long))
head_spelled (g ∷ a ∷ b ∷ c ∷ d ∷ []) body count long small body_is count_is = absurd (omega (arith, long))
head_spelled (g ∷ a ∷ b ∷ c ∷ d ∷ e ∷ []) body count long small body_is count_is = absurd (omega (arith, long))
head_spelled (g ∷ a ∷ b ∷ c ∷ d ∷ e ∷ f ∷ []) body count long small body_is count_is = absurd (omega (arith, long))
head_spelled (g ∷ a ∷ b ∷ c ∷ d ∷ e ∷ f ∷ h ∷ []) body count long small body_is count_is = absurd (omega (arith, long))
head_spelled (g ∷ a ∷ b ∷ c ∷ d ∷ e ∷ f ∷ h ∷ i ∷ j ∷ xs) body count long small body_is count_is =
    absurd (omega (arith, long))
