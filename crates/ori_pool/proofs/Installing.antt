-- The images of a commit, one after the other.
use Rattle.std.proofs.Common.{◌≡◌, ℕ, zero, suc, ◌+◌, ◌<◌, ◌==◌, true, false, cond, List, [], ◌∷◌, ◌++◌}
use Rattle.std.proofs.Common.{length, map, get_or, Option, Some, None, refl, sym, ap, ◌∙◌, subst, arith}
use Rattle.std.proofs.lemmas.Bool.{eqb-true, eqb-false, eq-eqb, ne_eqb}
use Rattle.ori_bytes.specs.declared.limits.TheConstants.{MAX_PAGES}
use Rattle.ori_log.specs.Log.{ImageData, first_of, last_image}
use Rattle.ori_log.specs.Images.{image_data, AreRising}
use Rattle.ori_log.specs.declared.image.PageImage.{PageImage}
use Rattle.ori_cover.specs.Dirty.{DirtyPage, unwritten, installed_page}
use Rattle.ori_pool.specs.Held.{image_pages}

-- the page of the image there
pub page_there : (items : List PageImage) (k : ℕ) (item : PageImage) → k < length items → item ≡ get_or items k item
    → get_or (image_pages (map image_data items)) k 0 ≡ item.page
page_there [] k item low is = absurd (omega (arith, low))
page_there (x ∷ xs) zero item low is = ap (λ (i : PageImage). i.page) (sym is)
page_there (x ∷ xs) (suc k) item low is = page_there xs k item (omega (arith, low)) is

-- each page of rising images is below the number of pages
pub rising_few : (low : ℕ) (images : List ImageData) → AreRising low images → (k : ℕ) → k < length images
    → get_or (image_pages images) k 0 < MAX_PAGES
rising_few low [] rising k within = absurd (omega (arith, within))
rising_few low (i ∷ images) rising zero within = rising.1
rising_few low (i ∷ images) rising (suc k) within =
    rising_few (i.page + 1) images rising.2 k (omega (arith, within))

last_none : (o : Option (List ℕ)) → first_of o None ≡ o
last_none None = refl
last_none (Some content) = refl

last_first : (a b c : Option (List ℕ)) → first_of (first_of a b) c ≡ first_of a (first_of b c)
last_first None b c = refl
last_first (Some content) b c = refl

abbrev image_of : ℕ → PageImage → Option (List ℕ)
image_of page image = cond (image.page == page) (Some image.content) None

-- the last image of a page, with one image more
pub last_push : (page : ℕ) (images : List PageImage) (image : PageImage)
    → last_image page (map image_data (images ++ image ∷ []))
    ≡ first_of (image_of page image) (last_image page (map image_data images))
last_push page [] image = sym (last_none (image_of page image))
last_push page (x ∷ images) image =
    ap (λ o. first_of o (image_of page x)) (last_push page images image)
    ∙ last_first (image_of page image) (last_image page (map image_data images)) (image_of page x)

pub installs_more : (images : List PageImage) (image : PageImage) (page : ℕ) (o old : Option DirtyPage)
    → o ≡ installed_page (last_image page (map image_data images)) old
    → cond (page == image.page) (Some (unwritten image.content)) o
    ≡ installed_page (last_image page (map image_data (images ++ image ∷ []))) old
installs_more images image page o old so_far =
    let last = last_image page (map image_data images) in
    subst (λ (l : Option (List ℕ)). cond (page == image.page) (Some (unwritten image.content)) o ≡ installed_page l old)
    (sym (last_push page images image))
    ((elim (image.page == page) as (λ b. (image.page == page) ≡ b
    → cond (page == image.page) (Some (unwritten image.content)) o
    ≡ installed_page (first_of (cond b (Some image.content) None) last) old) [
      | true ↦ λ is. ap (λ b. cond b (Some (unwritten image.content)) o)
          (eq-eqb page image.page (sym (eqb-true image.page page is)))
      | false ↦ λ is. ap (λ b. cond b (Some (unwritten image.content)) o)
          (ne_eqb page image.page (λ e. eqb-false image.page page is (sym e))) ∙ so_far
    ]) refl)
