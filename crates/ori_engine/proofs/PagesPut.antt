-- Images that an operation puts one by one, and why it is refused.
use Rattle.std.proofs.Common.{◌≡◌, ◌≢◌, inl, inr, ⊎_elim, ℕ, zero, suc, ◌+◌, ◌<◌, ◌≤◌, Bool, cond, List, [], ◌∷◌, ◌++◌, length}
use Rattle.std.proofs.Common.{map, take, drop, get_or, slice_set, Result, Ok, Err, IfErr, refl, sym, ap, ◌∙◌, subst, arith}
use Rattle.std.proofs.lemmas.List.{map-append}
use Rattle.std.proofs.lemmas.Bool.{cases_lt, lt-ltb, le-ltb}
use Rattle.ori_bytes.specs.declared.limits.TheConstants.{MAX_PAGES}
use Rattle.ori_bytes.specs.declared.causes.Causes.{Causes}
use Rattle.ori_volume.specs.Causes.{Rose}
use Rattle.ori_page.specs.declared.fault.PageFault.{PageFault}
use Rattle.ori_page.specs.declared.fault.PageFault.TheVariants.{NoMemory, Device, Busy, Damaged, PagesFull}
use Rattle.ori_page.specs.Faults.{IsOutside, page_counted, one_more}
use Rattle.ori_page.specs.Pages.{owner_of}
use Rattle.ori_log.specs.Log.{ImageData}
use Rattle.ori_log.specs.Images.{image_data, AreRising}
use Rattle.ori_log.specs.declared.image.PageImage.{PageImage}
use Rattle.ori_cache.specs.Ready.{HasCounted, CacheGives}
use Rattle.ori_cache.specs.Reads.{ReadsFrames}
use Rattle.ori_turns.specs.Seats.{Seat}
use Rattle.ori_turns.specs.Caches.{Cache}
use Rattle.ori_paged.specs.PageRows.{AreOwned, put_image, put_images}
use Rattle.ori_engine.specs.Writing.{PageFor}

-- ---- one image after others

split_at : {A : Type 0} (items : List A) (k : ℕ) (x : A) → k < length items → x ≡ get_or items k x
    → items ≡ take k items ++ x ∷ drop (suc k) items
split_at [] k x low is = absurd (omega (arith, low))
split_at {A} (y ∷ ys) zero x low is = ap (λ (z : A). z ∷ ys) (sym is)
split_at {A} (y ∷ ys) (suc k) x low is = ap (λ (l : List A). y ∷ l) (split_at ys k x (omega (arith, low)) is)

same_items : (xs : List PageImage) → map (λ (i : PageImage). i) xs ≡ xs
same_items [] = refl
same_items (x ∷ xs) = ap (λ (l : List PageImage). x ∷ l) (same_items xs)

-- the images are those before it, this one and further ones
pub record ComesNext (images : List ImageData) (before : List PageImage) (image : PageImage) : Type 0 where
  pub rest : List ImageData
  pub is : images ≡ map image_data before ++ image_data image ∷ rest

pub comes_next : (images : List ImageData) (items before : List PageImage) (image : PageImage)
    → map image_data items ≡ images → map (λ (i : PageImage). i) before ≡ take (length before) items
    → length before < length items → image ≡ get_or items (length before) image → ComesNext images before image
comes_next images items before image all so_far low is = record {
  rest = map image_data (drop (suc (length before)) items);
  is = sym all
      ∙ ap (map image_data) (split_at items (length before) image low is)
      ∙ map-append image_data (take (length before) items) (image ∷ drop (suc (length before)) items)
      ∙ ap (λ (l : List PageImage). map image_data l ++ image_data image ∷ map image_data (drop (suc (length before))
      items)) (sym so_far ∙ same_items before);
}

last_below : (low : ℕ) (before : List ImageData) (i : ImageData) (rest : List ImageData)
    → AreRising low (before ++ i ∷ rest) → i.page < MAX_PAGES
last_below low [] i rest rising = rising.1
last_below low (y ∷ ys) i rest rising = last_below (y.page + 1) ys i rest rising.2

last_owned : (before : List ImageData) (i : ImageData) (rest : List ImageData) → AreOwned (before ++ i ∷ rest)
    → owner_of i.content ≢ 0
last_owned [] i rest owned = owned.0
last_owned (y ∷ ys) i rest owned = last_owned ys i rest owned.1

module _ (images : List ImageData) (before : List PageImage) (image : PageImage) (turn : ComesNext images before image)
  where
    pub turn_below : AreRising 0 images → image.page < MAX_PAGES
    turn_below rising = last_below 0 (map image_data before) (image_data image) turn.rest
        (subst (AreRising 0) turn.is rising)

    pub turn_owned : AreOwned images → owner_of image.content ≢ 0
    turn_owned owned = last_owned (map image_data before) (image_data image) turn.rest (subst AreOwned turn.is owned)

put_last : (before : List ImageData) (i : ImageData) (pages : List (List ℕ)) → put_images pages (before ++ i ∷ [])
    ≡ put_image (put_images pages before) i
put_last [] i pages = refl
put_last (y ∷ ys) i pages = put_last ys i (put_image pages y)

pub put_more : (before : List PageImage) (image : PageImage) (pages : List (List ℕ))
    → put_images pages (map image_data (before ++ image ∷ []))
    ≡ put_image (put_images pages (map image_data before)) (image_data image)
put_more before image pages = ap (put_images pages) (map-append image_data before (image ∷ []))
    ∙ put_last (map image_data before) (image_data image) pages

-- all of them have come
pub all_came : (images : List ImageData) (items before : List PageImage) → map image_data items ≡ images
    → map (λ (i : PageImage). i) before ≡ items → map image_data before ≡ images
all_came images items before all came = ap (map image_data) (sym (same_items before) ∙ came) ∙ all

-- the image of a page that is there, or of one behind the last
pub put_at : (pages : List (List ℕ)) (i : ImageData) (count : ℕ) → length pages ≡ count → i.page < count
    → slice_set pages i.page i.content ≡ put_image pages i
put_at pages i count is low = sym (put_there' pages i (subst (λ (n : ℕ). i.page < n) (sym is) low)) where
  put_there' : (pages : List (List ℕ)) (i : ImageData) → i.page < length pages
      → put_image pages i ≡ slice_set pages i.page i.content
  put_there' pages i lt = ap (λ (b : Bool). cond b (slice_set pages i.page i.content) (pages ++ i.content ∷ []))
      (lt-ltb i.page (length pages) lt)

pub put_past : (pages : List (List ℕ)) (i : ImageData) (count : ℕ) → length pages ≡ count → count ≤ i.page
    → pages ++ i.content ∷ [] ≡ put_image pages i
put_past pages i count is high =
    sym (ap (λ (b : Bool). cond b (slice_set pages i.page i.content) (pages ++ i.content ∷ []))
    (le-ltb i.page (length pages) (omega (arith, is, high))))

-- the pages are given still
pub gives_on : {F D : Type 0} (seat_of : F → Seat D) (shows : F → Cache → Type 0) (one_sharing : F → F → Type 0)
    (waited : F → ℕ) (R : D → D → Type 0) (old new : F) (m n : ℕ) (base : List (List ℕ))
    → ReadsFrames seat_of shows one_sharing waited R old new → n ≡ m → CacheGives shows m old base
    → CacheGives shows n new base
gives_on seat_of shows one_sharing waited R old new m n base reads same given =
    let on = reads.gives given.cache given.gives in
    record {
      cache = on.0;
      gives = on.2;
      pages_are = on.1.pages ∙ given.pages_are;
      count = given.count ∙ sym same;
    }

-- ---- causes

counted_rose : (old new low now : ℕ) → (old < new → Rose low now) → new ≡ one_more old → old ≤ low → low ≤ now
    → Rose low now
counted_rose old new low now rose is caused later =
    elim (cases_lt old new) [
      | inl more ↦ rose more
      | inr same ↦ omega (arith, is, same, caused, later)
    ]

-- a refused call on a page has its cause, which is counted up to the end of a `u64`
pub page_why : {T : Type 0} (r : Result T PageFault) (old new : Causes) (d e f g v w : ℕ) → IfErr r IsOutside
    → HasCounted f g v w old new
    → record new { damaged = e } ≡ page_counted r (record old { damaged = d }) → old.device ≤ f → old.busy ≤ v → f ≤ g
    → v ≤ w → IfErr r (λ why. PageFor why f g v w)
page_why (Ok x) old new d e f g v w outside counted is device busy later waits = tt
page_why (Err NoMemory) old new d e f g v w outside counted is device busy later waits = tt
page_why (Err Device) old new d e f g v w outside counted is device busy later waits =
    counted_rose old.device new.device f g counted.device (ap (λ (c : Causes). c.device) is) device later
page_why (Err (Busy turn)) old new d e f g v w outside counted is device busy later waits =
    (outside, counted_rose old.busy new.busy v w counted.busy (ap (λ (c : Causes). c.busy) is) busy waits)
page_why (Err (Damaged page)) old new d e f g v w outside counted is device busy later waits = outside
page_why (Err PagesFull) old new d e f g v w outside counted is device busy later waits = outside

-- so it is since an earlier moment
pub page_since : (why : PageFault) (e f g u v w : ℕ) → e ≤ f → u ≤ v → PageFor why f g v w → PageFor why e g u w
page_since NoMemory e f g u v w later waits is = tt
page_since Device e f g u v w later waits is = omega (arith, later, is)
page_since (Busy turn) e f g u v w later waits is = (is.0, omega (arith, waits, is.1))
page_since (Damaged page) e f g u v w later waits is = is
page_since PagesFull e f g u v w later waits is = is
