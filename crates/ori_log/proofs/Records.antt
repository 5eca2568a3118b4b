-- Records are told apart by their bytes.
use Rattle.std.proofs.Common.{max, ◌==◌, if◌then◌else◌, Option, Some, None, ◌≡◌, ℕ, ◌+◌, ◌<◌, ◌≤◌, ◌^◌, List, [], ◌∷◌}
use Rattle.std.proofs.Common.{◌++◌, length, take, drop, flat_map, refl, sym, ◌∙◌, ap, ap₂, arith, append_assoc}
use Rattle.std.specs.List.{AllByRecursion}
use Rattle.std.specs.Int.{w32, to_be_bytes, from_be_bytes}
use Rattle.std.proofs.lemmas.List.{take_at, drop_at}
use Rattle.std.proofs.lemmas.Nat.{from_be_bytes-to_be_bytes_4}
use Rattle.ori_bytes.specs.declared.limits.TheConstants.{PAGE_BYTES, MAX_PAGES}
use Rattle.ori_log.specs.Log.{ImageData, image_bytes, AreImages, pages_named, last_image, first_of}
use Rattle.ori_log.specs.Images.{IsWhole}

-- lists of one length that begin the same list are the same
pub same_front : (a b x y : List ℕ) → length a ≡ length b → a ++ x ≡ b ++ y → (a ≡ b) × (x ≡ y)
same_front a b x y long same =
    let front : a ≡ b = sym (take_at a x (length a) refl) ∙ ap (λ (l : List ℕ). take (length a) l) same
    ∙ take_at b y (length a) (sym long) in
    let rest : x ≡ y = sym (drop_at a x (length a) refl) ∙ ap (λ (l : List ℕ). drop (length a) l) same
    ∙ drop_at b y (length a) (sym long) in
    (front, rest)

pub same_number : (n m : ℕ) → n < 2 ^ 32 → m < 2 ^ 32 → to_be_bytes w32 n ≡ to_be_bytes w32 m → n ≡ m
same_number n m small_n small_m same =
    sym (from_be_bytes-to_be_bytes_4 n small_n) ∙ ap (λ (l : List ℕ). from_be_bytes w32 l) same
    ∙ from_be_bytes-to_be_bytes_4 m small_m

pub images_whole : (low : ℕ) (images : List ImageData) → AreImages low images → AllByRecursion IsWhole images
images_whole low [] are = tt
images_whole low (i ∷ images) are = ((are.2, are.3), images_whole (i.page + 1) images are.4)

same_image : (i j : ImageData) (x y : List ℕ) → i.page < 2 ^ 32 → j.page < 2 ^ 32 → length i.content ≡ PAGE_BYTES
    → length j.content ≡ PAGE_BYTES
    → image_bytes i ++ x ≡ image_bytes j ++ y → (i ≡ j) × (x ≡ y)
same_image i j x y small_i small_j long_i long_j same =
    let split = same_front (image_bytes i) (image_bytes j) x y (omega (arith, long_i, long_j)) same in
    let parts = same_front (to_be_bytes w32 i.page) (to_be_bytes w32 j.page) i.content j.content refl split.0 in
    let page : i.page ≡ j.page = same_number i.page j.page small_i small_j parts.0 in
    ((λ k. record { page = page k; content = parts.1 k }), split.1)

-- images that begin the same bytes are the same, as far as there are as many
pub same_images : (low low' : ℕ) (is js : List ImageData) (x y : List ℕ) → AreImages low is → AreImages low' js
    → length is ≡ length js
    → flat_map image_bytes is ++ x ≡ flat_map image_bytes js ++ y → (is ≡ js) × (x ≡ y)
same_images low low' [] [] x y are are' long same = (refl, same)
same_images low low' [] (j ∷ js) x y are are' long same = absurd (omega (arith, long))
same_images low low' (i ∷ is) [] x y are are' long same = absurd (omega (arith, long))
same_images low low' (i ∷ is) (j ∷ js) x y are are' long same =
    let here = same_image i j (flat_map image_bytes is ++ x) (flat_map image_bytes js ++ y) (omega (arith, are.1))
    (omega (arith, are'.1)) are.2 are'.2
    (sym (append_assoc (image_bytes i) (flat_map image_bytes is) x) ∙ same
    ∙ append_assoc (image_bytes j) (flat_map image_bytes js) y) in
    let there = same_images (i.page + 1) (j.page + 1) is js x y are.4 are'.4 (omega (arith, long)) here.1 in
    (ap₂ (λ (a : ImageData) (l : List ImageData). a ∷ l) here.0 there.0, there.1)

-- where an image stands behind others, one that stands there in a record is the same
pub stands_in : (low low' : ℕ) (done images : List ImageData) (image : ImageData) (x y : List ℕ) → AreImages low done
    → AreImages low' images → length done < length images
    → image.page < 2 ^ 32 → length image.content ≡ PAGE_BYTES → flat_map image_bytes done
    ++ (image_bytes image ++ x) ≡ flat_map image_bytes images ++ y
    → (low' ≤ image.page) × (pages_named done ≤ image.page) × (image.page < MAX_PAGES)
stands_in low low' done [] image x y are are' fewer small long same = absurd (omega (arith, fewer))
stands_in low low' [] (m ∷ ms) image x y are are' fewer small long same =
    let here = same_image image m x (flat_map image_bytes ms ++ y) small (omega (arith, are'.1)) long are'.2
    (same ∙ append_assoc (image_bytes m) (flat_map image_bytes ms) y) in
    let page : image.page ≡ m.page = ap (λ (i : ImageData). i.page) here.0 in
    (omega (arith, are'.0, page), omega arith, omega (arith, are'.1, page))
stands_in low low' (d ∷ ds) (m ∷ ms) image x y are are' fewer small long same =
    let here = same_image d m (flat_map image_bytes ds ++ (image_bytes image ++ x)) (flat_map image_bytes ms ++ y)
    (omega (arith, are.1)) (omega (arith, are'.1)) are.2 are'.2
    (sym (append_assoc (image_bytes d) (flat_map image_bytes ds) (image_bytes image ++ x)) ∙ same
    ∙ append_assoc (image_bytes m) (flat_map image_bytes ms) y) in
    let page : d.page ≡ m.page = ap (λ (i : ImageData). i.page) here.0 in
    let there = stands_in (d.page + 1) (m.page + 1) ds ms image x y are.4 are'.4 (omega (arith, fewer)) small long
    here.1 in
    (omega (arith, are'.0, there.0), omega (arith, page, there.0, there.1), there.2)

pub named_more : (images : List ImageData) (image : ImageData)
    → pages_named (images ++ image ∷ []) ≡ max (pages_named images) (image.page + 1)
named_more [] image = omega arith
named_more (i ∷ images) image = omega (arith, named_more images image)

pub named_append : (xs ys : List ImageData) → pages_named (xs ++ ys) ≡ max (pages_named xs) (pages_named ys)
named_append [] ys = omega arith
named_append (x ∷ xs) ys = omega (arith, named_append xs ys)

pub rising_more : (low : ℕ) (images : List ImageData) (image : ImageData) → AreImages low images → low ≤ image.page
    → pages_named images ≤ image.page → image.page < MAX_PAGES → IsWhole image
    → AreImages low (images ++ image ∷ [])
rising_more low [] image are above named small whole = (above, small, whole.0, whole.1, tt)
rising_more low (i ∷ images) image are above named small whole = (
  are.0,
  are.1,
  are.2,
  are.3,
  rising_more (i.page + 1) images image are.4 (omega (arith, named))
      (omega (arith, named)) small whole,
)

pub first_of_assoc : (a b c : Option (List ℕ)) → first_of (first_of a b) c ≡ first_of a (first_of b c)
first_of_assoc None b c = refl
first_of_assoc (Some x) b c = refl

pub first_of_none : (a : Option (List ℕ)) → first_of a None ≡ a
first_of_none None = refl
first_of_none (Some x) = refl

pub last_append : (page : ℕ) (xs ys : List ImageData) → last_image page (xs ++ ys) ≡ first_of (last_image page ys)
    (last_image page xs)
last_append page [] ys = sym (first_of_none (last_image page ys))
last_append page (x ∷ xs) ys =
    ap (λ (o : Option (List ℕ)). first_of o (if x.page == page then Some x.content else None)) (last_append page xs ys)
    ∙ first_of_assoc (last_image page ys) (last_image page xs) (if x.page == page then Some x.content else None)
