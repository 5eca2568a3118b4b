-- What a call on pages in memory answers, from what its steps did.
use Rattle.std.proofs.Common.{◌≡◌, ◌≢◌, ℕ, ◌+◌, ◌-◌, ◌<◌, Bool, true, false, List, [], ◌∷◌, ◌++◌, length}
use Rattle.std.proofs.Common.{set, Result, Ok, Err, sym, ap, subst, ◌∙◌, true≢false, cond, arith}
use Rattle.std.specs.Result.{IfOk, IfErr, OnOk, IsErrOf}
use Rattle.std.proofs.lemmas.Bool.{ne_eqb, eqb-true, ltb-true, and_parts}
use Rattle.std.proofs.lemmas.List.{length-set}
use Rattle.ori_bytes.specs.declared.limits.TheConstants.{MAX_PAGES, FREE_KIND}
use Rattle.ori_page.specs.declared.head.Head.{Head}
use Rattle.ori_page.specs.declared.fault.PageFault.{PageFault}
use Rattle.ori_page.specs.declared.fault.PageFault.TheVariants.{NoMemory, Device, Busy, Damaged, PagesFull}
use Rattle.ori_page.specs.Pages.{kind_of, next_of, fresh_page, free_page}
use Rattle.ori_page.specs.Heads.{with_head, Fits32}
use Rattle.ori_page.specs.Spaces.{page_at, head_in, in_use, is_head, is_listed, HasFreeList, IsDamaged, IsTaken}
use Rattle.ori_page.specs.Spaces.{IsReleased}
use Rattle.ori_page.specs.Memory.{WhyNotReused, WhyNotTaken, WhyNotFreed}
use Rattle.ori_page.proofs.Listing.{reused, freed, grown, rest_of, more_of, grown_of, head_sound, listed_sound}
use Rattle.ori_page.proofs.Listing.{full_in_use}

-- ---- no head

head_damaged : (pages : List (List ℕ)) → 0 < length pages → is_head pages ≡ false → IsDamaged pages 0
head_damaged pages some fails = record {
  broken = fails;
  unlisted = λ l. true≢false (sym (head_sound pages some l) ∙ fails);
}

pub head_not_taken : (pages : List (List ℕ)) (fault : PageFault) → 0 < length pages
    → (fault ≡ Damaged 0) × (is_head pages ≡ false) → WhyNotTaken pages fault
head_not_taken pages fault some h = subst (WhyNotTaken pages) (sym h.0) (head_damaged pages some h.1)

pub head_not_freed : (pages : List (List ℕ)) (fault : PageFault) → 0 < length pages
    → (fault ≡ Damaged 0) × (is_head pages ≡ false) → WhyNotFreed pages fault
head_not_freed pages fault some h = subst (WhyNotFreed pages) (sym h.0) (head_damaged pages some h.1)

-- the first free page of a head is below the count
pub first_below : (pages : List (List ℕ)) → is_head pages ≡ true → (head_in pages).first_free < length pages
first_below pages h = ltb-true _ _ (and_parts _ _ (and_parts _ _ h).0).1

-- ---- the first free page

pub not_reused : (pages : List (List ℕ)) (fault : PageFault) → 0 < length pages → 0 < (head_in pages).first_free
    → WhyNotReused pages (head_in pages).first_free fault → WhyNotTaken pages fault
not_reused pages NoMemory some above h = tt
not_reused pages Device some above h = absurd h
not_reused pages (Busy turn) some above h = absurd h
not_reused pages (Damaged page) some above h =
    let first = (head_in pages).first_free in
    let fails : is_listed pages first ≡ false = subst (λ (p : ℕ). is_listed pages p ≡ false) h.0 h.1 in
    let damaged : IsDamaged pages first = record {
      broken = subst (λ (b : Bool). cond b (is_head pages) (is_listed pages first) ≡ false)
          (sym (ne_eqb first 0 (λ e. absurd (omega (arith, e))))) fails;
      unlisted = λ l. true≢false (sym (listed_sound pages some l above) ∙ fails);
    } in
    subst (IsDamaged pages) (sym h.0) damaged
not_reused pages PagesFull some above h = absurd h

pub is_not_reused : (r : Result ℕ PageFault) (pages : List (List ℕ)) (head : Head) → 0 < length pages
    → head ≡ head_in pages → 0 < head.first_free → IfErr r (WhyNotReused pages head.first_free)
    → IfErr r (WhyNotTaken pages)
is_not_reused (Ok at) pages head some same above h = tt
is_not_reused (Err e) pages head some same above h =
    not_reused pages e some (subst (λ (x : Head). 0 < x.first_free) same above)
    (subst (λ (x : Head). WhyNotReused pages x.first_free e) same h)

abbrev Reuses : List (List ℕ) → List (List ℕ) → Head → List ℕ → ℕ → Type 0
Reuses pages after head page at = (at ≡ head.first_free) × (is_listed pages at ≡ true)
    × (after ≡ set (set pages 0 (with_head (record head {
      first_free = next_of (page_at pages at);
      free_count = head.free_count - 1;
    }) (page_at pages 0))) at page)
    × Fits32 (record head { first_free = next_of (page_at pages at); free_count = head.free_count - 1 })

pub is_reused : (r : Result ℕ PageFault) (pages after : List (List ℕ)) (head : Head) (page : List ℕ) (owner kind : ℕ)
    → head ≡ head_in pages → page ≡ fresh_page owner kind → 0 < head.first_free → is_head pages ≡ true
    → IfOk r (Reuses pages after head page) → IfOk r (λ at. IsTaken owner kind at pages after)
is_reused (Err e) pages after head page owner kind same is above good h = tt
is_reused (Ok at) pages after head page owner kind same is above good h =
    let first : at ≡ (head_in pages).first_free = h.0 ∙ ap (λ (x : Head). x.first_free) same in
    let low : at < length pages = subst (λ (n : ℕ). n < length pages) (sym first) (first_below pages good) in
    let over : 0 < at = subst (λ (n : ℕ). 0 < n) (sym h.0) above in
    let free : kind_of (page_at pages at) ≡ FREE_KIND
    = eqb-true _ _ (and_parts _ _ (and_parts _ _ h.1).0).1 in
    let fits : Fits32 (rest_of pages at) = subst (λ (x : Head). Fits32 (record x {
      first_free = next_of (page_at pages at);
      free_count = x.free_count - 1;
    })) same h.3 in
    let e : after ≡ set (set pages 0 (with_head (rest_of pages at) (page_at pages 0))) at (fresh_page owner kind)
    = h.2 ∙ ap (λ (x : Head). set (set pages 0 (with_head (record x {
      first_free = next_of (page_at pages at);
      free_count = x.free_count - 1;
    }) (page_at pages 0))) at page) same
    ∙ ap (λ (x : List ℕ). set (set pages 0 (with_head (rest_of pages at) (page_at pages 0))) at x) is in
    subst (λ (a : List (List ℕ)). IsTaken owner kind at pages a) (sym e)
    (reused pages owner kind at first over low free fits)

-- PagesFull comes only where all pages are in use
pub full_answer : (r : Result ℕ PageFault) (pages : List (List ℕ)) → IfErr r (WhyNotTaken pages) → IsErrOf r PagesFull
    → HasFreeList pages → in_use pages ≡ MAX_PAGES
full_answer (Ok at) pages why is l = cc
full_answer (Err fault) pages why is l =
    let e : fault ≡ PagesFull = cc in full_in_use pages (subst (WhyNotTaken pages) e why) l

-- ---- a page behind the last

abbrev Grows : List (List ℕ) → List (List ℕ) → Head → List ℕ → ℕ → Type 0
Grows pages after head page at = (at ≡ length pages) × (at < MAX_PAGES)
    × (after ≡ set (pages ++ page ∷ []) 0 (with_head (record head { count = at + 1 }) (page_at pages 0)))
    × Fits32 (record head { count = at + 1 })

pub is_grown : (r : Result ℕ PageFault) (pages after : List (List ℕ)) (head : Head) (page : List ℕ) (owner kind : ℕ)
    → head ≡ head_in pages → page ≡ fresh_page owner kind → 0 < length pages
    → IfOk r (Grows pages after head page) → IfOk r (λ at. IsTaken owner kind at pages after)
is_grown (Err e) pages after head page owner kind same is some h = tt
is_grown (Ok at) pages after head page owner kind same is some h =
    let headed : record head { count = at + 1 } ≡ grown_of pages
    = ap (λ (x : Head). record x { count = at + 1 }) same
    ∙ ap (λ (n : ℕ). record (head_in pages) { count = n + 1 }) h.0 in
    let fits : Fits32 (grown_of pages) = subst Fits32 headed h.3 in
    let e : after ≡ set (pages ++ fresh_page owner kind ∷ []) 0 (with_head (grown_of pages) (page_at pages 0))
    = h.2 ∙ ap (λ (x : Head). set (pages ++ page ∷ []) 0 (with_head x (page_at pages 0))) headed
    ∙ ap (λ (x : List ℕ). set (pages ++ x ∷ []) 0 (with_head (grown_of pages) (page_at pages 0))) is in
    subst (λ (a : List (List ℕ)). IsTaken owner kind at pages a) (sym e)
    (subst (λ (n : ℕ). IsTaken owner kind n pages
    (set (pages ++ fresh_page owner kind ∷ []) 0 (with_head (grown_of pages) (page_at pages 0)))) (sym h.0)
    (grown pages owner kind some fits))

-- ---- a page is freed

pub is_freed : {T : Type 0} (r : Result T PageFault) (pages after : List (List ℕ)) (head new : Head) (page : List ℕ)
    (p : ℕ) → head ≡ head_in pages → Fits32 head → page ≡ free_page head.first_free → 0 < p → p < length pages
    → new ≡ record head { first_free = p; free_count = head.free_count + 1 }
    → Fits32 new → OnOk r (after ≡ set (set pages 0 (with_head new (page_at pages 0))) p page)
    → OnOk r (kind_of (page_at pages p) ≢ FREE_KIND → IsReleased p pages after)
is_freed (Err e) pages after head new page p same small is above below made fits h = tt
is_freed (Ok x) pages after head new page p same small is above below made fits h = λ used.
    let headed : new ≡ more_of pages p
    = made ∙ ap (λ (x : Head). record x { first_free = p; free_count = x.free_count + 1 }) same in
    let paged : page ≡ free_page (head_in pages).first_free = is ∙ ap (λ (x : Head). free_page x.first_free) same in
    let e : after ≡ set (set pages 0 (with_head (more_of pages p) (page_at pages 0))) p
    (free_page (head_in pages).first_free)
    = h ∙ ap (λ (x : Head). set (set pages 0 (with_head x (page_at pages 0))) p page) headed
    ∙ ap (λ (x : List ℕ). set (set pages 0 (with_head (more_of pages p) (page_at pages 0))) p x) paged in
    subst (λ (a : List (List ℕ)). IsReleased p pages a) (sym e)
    (freed pages p above below used (subst Fits32 headed fits) (subst Fits32 same small).first_free)

-- two pages are written
pub same_count : {T : Type 0} (r : Result T PageFault) (pages after : List (List ℕ)) (x y : List ℕ) (p : ℕ)
    → OnOk r (after ≡ set (set pages 0 x) p y) → OnOk r (length after ≡ length pages)
same_count (Ok v) pages after x y p h = ap length h ∙ length-set (set pages 0 x) p y ∙ length-set pages 0 x
same_count (Err e) pages after x y p h = tt
