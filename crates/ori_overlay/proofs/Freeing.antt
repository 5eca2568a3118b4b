-- The pages after one is taken off the list of free ones, put behind the last, or put on the list.
use Rattle.std.proofs.Common.{◌≡◌, ◌≢◌, ℕ, ◌+◌, ◌-◌, ◌<◌, ◌^◌, Bool, true, false, cond, List, [], ◌∷◌, ◌++◌, length}
use Rattle.std.proofs.Common.{set}
use Rattle.std.proofs.Common.{Result, Ok, Err, refl, sym, ap, subst, ◌∙◌, true≢false, arith}
use Rattle.std.specs.Result.{IfErr, IsErrOf}
use Rattle.std.proofs.lemmas.Bool.{ne_eqb, eqb-true, ltb-true, and_parts}
use Rattle.ori_bytes.specs.declared.causes.Causes.{Causes}
use Rattle.ori_bytes.specs.declared.limits.TheConstants.{MAX_PAGES, FREE_KIND}
use Rattle.ori_page.specs.declared.head.Head.{Head}
use Rattle.ori_page.specs.declared.fault.PageFault.{PageFault}
use Rattle.ori_page.specs.declared.fault.PageFault.TheVariants.{NoMemory, Device, Busy, Damaged, PagesFull}
use Rattle.ori_page.specs.Pages.{kind_of, next_of, fresh_page, free_page}
use Rattle.ori_page.specs.Heads.{head_of, with_head, Fits32}
use Rattle.ori_page.specs.Spaces.{page_at, head_in, in_use, is_head, is_head_page, is_listed, is_free_page, HasFreeList}
use Rattle.ori_page.specs.Spaces.{IsDamaged, IsTaken, IsReleased}
use Rattle.ori_page.specs.Memory.{damaged_counted}
use Rattle.ori_page.specs.Faults.{page_counted, IsOutside, MayNotTake, MayNotRelease, WhyRefused}
use Rattle.ori_page.proofs.Listing.{reused, freed, grown, rest_of, more_of, grown_of, head_sound, listed_sound}
use Rattle.ori_page.proofs.Listing.{full_in_use}
use Rattle.ori_overlay.specs.Steps.{outside_counted, WhyNotGrown}

-- ---- what is given after it

pub is_reused : (pages : List (List ℕ)) (owner kind at : ℕ) (top free page : List ℕ) (head : Head)
    → top ≡ page_at pages 0 → free ≡ page_at pages at → at ≡ (head_of top).first_free → 0 < at → at < length pages
    → is_free_page free (length pages) ≡ true
    → head ≡ record (head_of top) { first_free = next_of free; free_count = (head_of top).free_count - 1 }
    → Fits32 head → page ≡ fresh_page owner kind
    → IsTaken owner kind at pages (set (set pages 0 (with_head head top)) at page)
is_reused pages owner kind at top free page head is_top is_free first above below listed is_head fits is_page =
    let kind_free : kind_of (page_at pages at) ≡ FREE_KIND
    = ap kind_of (sym is_free) ∙ eqb-true _ _ (and_parts _ _ (and_parts _ _ listed).0).1 in
    let headed : head ≡ rest_of pages at
    = is_head ∙ ap (λ (x : List ℕ). record (head_of x) {
      first_free = next_of free;
      free_count = (head_of x).free_count - 1;
    })
    is_top ∙ ap (λ (x : List ℕ). record (head_in pages) {
      first_free = next_of x;
      free_count = (head_in pages).free_count - 1;
    }) is_free in
    let e : set (set pages 0 (with_head head top)) at page
    ≡ set (set pages 0 (with_head (rest_of pages at) (page_at pages 0))) at (fresh_page owner kind)
    = ap (λ (x : Head). set (set pages 0 (with_head x top)) at page) headed
    ∙ ap (λ (x : List ℕ). set (set pages 0 (with_head (rest_of pages at) x)) at page) is_top
    ∙ ap (λ (x : List ℕ). set (set pages 0 (with_head (rest_of pages at) (page_at pages 0))) at x) is_page in
    subst (λ (a : List (List ℕ)). IsTaken owner kind at pages a) (sym e)
    (reused pages owner kind at (first ∙ ap (λ (x : List ℕ). (head_of x).first_free) is_top) above below kind_free
    (subst Fits32 headed fits))

pub is_grown : (pages : List (List ℕ)) (owner kind at : ℕ) (top page : List ℕ) (head : Head) → top ≡ page_at pages 0
    → at ≡ length pages → 0 < length pages → head ≡ record (head_of top) { count = at + 1 } → Fits32 head
    → page ≡ fresh_page owner kind
    → IsTaken owner kind at pages (set (pages ++ page ∷ []) 0 (with_head head top))
is_grown pages owner kind at top page head is_top is_at some is_head fits is_page =
    let headed : head ≡ grown_of pages
    = is_head ∙ ap (λ (x : List ℕ). record (head_of x) { count = at + 1 }) is_top
    ∙ ap (λ (n : ℕ). record (head_in pages) { count = n + 1 }) is_at in
    let e : set (pages ++ page ∷ []) 0 (with_head head top)
    ≡ set (pages ++ fresh_page owner kind ∷ []) 0 (with_head (grown_of pages) (page_at pages 0))
    = ap (λ (x : Head). set (pages ++ page ∷ []) 0 (with_head x top)) headed
    ∙ ap (λ (x : List ℕ). set (pages ++ page ∷ []) 0 (with_head (grown_of pages) x)) is_top
    ∙ ap (λ (x : List ℕ). set (pages ++ x ∷ []) 0 (with_head (grown_of pages) (page_at pages 0))) is_page in
    subst (λ (a : List (List ℕ)). IsTaken owner kind at pages a) (sym e)
    (subst (λ (n : ℕ). IsTaken owner kind n pages
    (set (pages ++ fresh_page owner kind ∷ []) 0 (with_head (grown_of pages) (page_at pages 0)))) (sym is_at)
    (grown pages owner kind some (subst Fits32 headed fits)))

pub is_freed : (pages : List (List ℕ)) (p : ℕ) (top page : List ℕ) (head : Head) → top ≡ page_at pages 0 → 0 < p
    → p < length pages → kind_of (page_at pages p) ≢ FREE_KIND
    → head ≡ record (head_of top) { first_free = p; free_count = (head_of top).free_count + 1 } → Fits32 head
    → (head_of top).first_free < 2 ^ 32 → page ≡ free_page (head_of top).first_free
    → IsReleased p pages (set (set pages 0 (with_head head top)) p page)
is_freed pages p top page head is_top above below used is_head fits small is_page =
    let headed : head ≡ more_of pages p
    = is_head ∙ ap (λ (x : List ℕ). record (head_of x) {
      first_free = p;
      free_count = (head_of x).free_count + 1;
    }) is_top in
    let e : set (set pages 0 (with_head head top)) p page
    ≡ set (set pages 0 (with_head (more_of pages p) (page_at pages 0))) p (free_page (head_in pages).first_free)
    = ap (λ (x : Head). set (set pages 0 (with_head x top)) p page) headed
    ∙ ap (λ (x : List ℕ). set (set pages 0 (with_head (more_of pages p) x)) p page) is_top
    ∙ ap (λ (x : List ℕ). set (set pages 0 (with_head (more_of pages p) (page_at pages 0))) p x)
    (is_page ∙ ap (λ (x : List ℕ). free_page (head_of x).first_free) is_top) in
    subst (λ (a : List (List ℕ)). IsReleased p pages a) (sym e)
    (freed pages p above below used (subst Fits32 headed fits)
    (subst (λ (x : List ℕ). (head_of x).first_free < 2 ^ 32) is_top small))

-- ---- a head's fields

pub first_below : (top : List ℕ) (count : ℕ) → is_head_page top count ≡ true → (head_of top).first_free < count
first_below top count h = ltb-true _ _ (and_parts _ _ (and_parts _ _ h).0).1

pub free_below : (top : List ℕ) (count : ℕ) → is_head_page top count ≡ true → (head_of top).free_count < count
free_below top count h = ltb-true _ _ (and_parts _ _ h).1

-- ---- why it is refused

pub head_damaged : (pages : List (List ℕ)) (top : List ℕ) (count : ℕ) → top ≡ page_at pages 0 → length pages ≡ count
    → 0 < count → is_head_page top count ≡ false → IsDamaged pages 0
head_damaged pages top count is_top is_count some fails =
    let none : is_head pages ≡ false
    = ap (λ (n : ℕ). is_head_page (page_at pages 0) n) is_count ∙ ap (λ (x : List ℕ). is_head_page x count) (sym is_top)
    ∙ fails in
    record {
      broken = none;
      unlisted = λ l. true≢false (sym (head_sound pages (omega (arith, is_count, some)) l) ∙ none);
    }

pub listed_damaged : (pages : List (List ℕ)) (top free : List ℕ) (at count : ℕ) → top ≡ page_at pages 0
    → free ≡ page_at pages at → length pages ≡ count → 0 < count → at ≡ (head_of top).first_free → 0 < at
    → is_free_page free count ≡ false → IsDamaged pages at
listed_damaged pages top free at count is_top is_free is_count some first above fails =
    let is_first : at ≡ (head_in pages).first_free = first ∙ ap (λ (x : List ℕ). (head_of x).first_free) is_top in
    let none : is_listed pages at ≡ false
    = ap (λ (n : ℕ). is_free_page (page_at pages at) n) is_count
    ∙ ap (λ (x : List ℕ). is_free_page x count) (sym is_free)
    ∙ fails in
    record {
      broken = subst (λ (b : Bool). cond b (is_head pages) (is_listed pages at) ≡ false)
          (sym (ne_eqb at 0 (λ e. absurd (omega (arith, e, above))))) none;
      unlisted = λ l.
          true≢false (sym (listed_sound pages (omega (arith, is_count, some)) l (omega (arith, above, is_first)))
          ∙ ap (λ (n : ℕ). is_listed pages n) (sym is_first) ∙ none);
    }

pub outside_why : (fault : PageFault) (pages : List (List ℕ)) → IsOutside fault → WhyRefused pages fault
outside_why NoMemory pages why = tt
outside_why Device pages why = tt
outside_why (Busy turn) pages why = tt
outside_why (Damaged page) pages why = absurd why
outside_why PagesFull pages why = absurd why

pub outside_release : (fault : PageFault) → IsOutside fault → MayNotRelease fault
outside_release NoMemory why = tt
outside_release Device why = tt
outside_release (Busy turn) why = why
outside_release (Damaged page) why = absurd why
outside_release PagesFull why = absurd why

pub outside_grown : (fault : PageFault) (count : ℕ) → IsOutside fault → WhyNotGrown count fault
outside_grown NoMemory count why = tt
outside_grown Device count why = tt
outside_grown (Busy turn) count why = why
outside_grown (Damaged page) count why = absurd why
outside_grown PagesFull count why = absurd why

pub release_take : (fault : PageFault) → MayNotRelease fault → MayNotTake fault
release_take NoMemory why = tt
release_take Device why = tt
release_take (Busy turn) why = why
release_take (Damaged page) why = tt
release_take PagesFull why = absurd why

pub grown_take : (fault : PageFault) (count : ℕ) → WhyNotGrown count fault → MayNotTake fault
grown_take NoMemory count why = tt
grown_take Device count why = tt
grown_take (Busy turn) count why = why
grown_take (Damaged page) count why = absurd why
grown_take PagesFull count why = tt

pub grown_why : (fault : PageFault) (pages : List (List ℕ)) (count : ℕ) → length pages ≡ count
    → (head_in pages).first_free ≡ 0 → WhyNotGrown count fault → WhyRefused pages fault
grown_why NoMemory pages count is none why = tt
grown_why Device pages count is none why = tt
grown_why (Busy turn) pages count is none why = tt
grown_why (Damaged page) pages count is none why = absurd why
grown_why PagesFull pages count is none why = record { count = is ∙ why; none = none }

-- PagesFull comes only where all pages are in use
pub full_answer : {T : Type 0} (r : Result T PageFault) (pages : List (List ℕ)) → IfErr r (WhyRefused pages)
    → IsErrOf r PagesFull → HasFreeList pages → in_use pages ≡ MAX_PAGES
full_answer (Ok at) pages why is l = cc
full_answer (Err fault) pages why is l =
    let e : fault ≡ PagesFull = cc in full_in_use pages (subst (WhyRefused pages) e why) l

-- ---- how it is counted

pub all_counted : {T : Type 0} (r : Result T PageFault) (old new : Causes) (d e : ℕ) → new ≡ outside_counted r old
    → e ≡ damaged_counted r d → record new { damaged = e } ≡ page_counted r (record old { damaged = d })
all_counted (Ok value) old new d e is more = cc (is, more)
all_counted (Err NoMemory) old new d e is more = cc (is, more)
all_counted (Err Device) old new d e is more = cc (is, more)
all_counted (Err (Busy turn)) old new d e is more = cc (is, more)
all_counted (Err (Damaged page)) old new d e is more = cc (is, more)
all_counted (Err PagesFull) old new d e is more = cc (is, more)

-- a cause outside is no damage
pub no_damage : {T : Type 0} (r : Result T PageFault) (d : ℕ) → IfErr r IsOutside → damaged_counted r d ≡ d
no_damage (Ok value) d why = refl
no_damage (Err NoMemory) d why = refl
no_damage (Err Device) d why = refl
no_damage (Err (Busy turn)) d why = refl
no_damage (Err (Damaged page)) d why = absurd why
no_damage (Err PagesFull) d why = refl
