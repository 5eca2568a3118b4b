-- The bytes of images.
use Rattle.std.proofs.Common.{◌≡◌, ℕ, suc, ◌+◌, ◌*◌, ◌<◌, List, [], ◌∷◌, ◌++◌, length, take, map, flat_map, get_or}
use Rattle.std.proofs.Common.{refl, sym, ◌∙◌, ap, arith, append-nil, length-append}
use Rattle.std.specs.List.{AllByRecursion}
use Rattle.std.specs.Int.{w32, to_be_bytes}
use Rattle.std.proofs.lemmas.List.{take_more, map-append}
use Rattle.std.proofs.lemmas.Grind.{flat_map-append}
use Rattle.ori_bytes.specs.declared.limits.TheConstants.{PAGE_BYTES, CLOSED_GATE}
use Rattle.ori_log.specs.Log.{ImageData, image_bytes, body_bytes}
use Rattle.ori_log.specs.declared.image.PageImage.{PageImage}
use Rattle.ori_log.specs.Images.{image_data, IsWhole, behind_gate}

pub listed_more : (images : List PageImage) (i : ℕ) (item : PageImage) → i < length images → item ≡ get_or images i item
    → map image_data (take (i + 1) images) ≡ map image_data (take i images) ++ image_data item ∷ []
listed_more images i item within is =
    ap (λ (l : List PageImage). map image_data l) (take_more images i item within
    ∙ ap (λ (x : PageImage). take i images ++ x ∷ []) (sym is))
    ∙ map-append image_data (take i images) (item ∷ [])

pub images_more : (images : List PageImage) (i : ℕ) (item : PageImage) → i < length images → item ≡ get_or images i item
    → flat_map image_bytes (map image_data (take (i + 1) images)) ≡ flat_map image_bytes
    (map image_data (take i images)) ++ image_bytes (image_data item)
images_more images i item within is =
    ap (λ (l : List ImageData). flat_map image_bytes l) (listed_more images i item within is)
    ∙ flat_map-append image_bytes (map image_data (take i images)) (image_data item ∷ [])
    ∙ ap (λ (l : List ℕ). flat_map image_bytes (map image_data (take i images)) ++ l)
    (append-nil (image_bytes (image_data item)))

-- each byte is one
pub each_byte : (xs : List ℕ) → ((k : ℕ) → k < length xs → get_or xs k 0 < 256) → AllByRecursion (λ b. b < 256) xs
each_byte [] bytes = tt
each_byte (x ∷ xs) bytes = (bytes 0 (omega arith), each_byte xs (λ k within. bytes (suc k) (omega arith)))

-- an image is as long as any other
pub length-images : (images : List ImageData) → AllByRecursion IsWhole images
    → length (flat_map image_bytes images) ≡ (4 + PAGE_BYTES) * length images
length-images [] whole = refl
length-images (i ∷ images) whole =
    omega (
      arith,
      length-append (image_bytes i) (flat_map image_bytes images),
      length-images images whole.1,
      (whole.0).0,
    )

pub length-body : (images : List ImageData) → AllByRecursion IsWhole images
    → length (body_bytes images) ≡ 4 + (4 + PAGE_BYTES) * length images
length-body images whole = omega (arith, length-images images whole)

-- what is staged of a record, in its three pieces
pub record_pieces : (images : List ImageData) → AllByRecursion IsWhole images
    → (to_be_bytes w32 (4 + (4 + PAGE_BYTES) * length images) ++ to_be_bytes w32 (length images))
    ++ flat_map image_bytes images ++ CLOSED_GATE ∷ [] ≡ behind_gate images
record_pieces images whole = ap (λ (n : ℕ). to_be_bytes w32 n ++ body_bytes images ++ CLOSED_GATE ∷ [])
    (sym (length-body images whole))

pub length-behind : (images : List ImageData) → AllByRecursion IsWhole images
    → length (behind_gate images) ≡ 9 + (4 + PAGE_BYTES) * length images
length-behind images whole =
    omega (arith, length-append (body_bytes images) (CLOSED_GATE ∷ []), length-body images whole)
