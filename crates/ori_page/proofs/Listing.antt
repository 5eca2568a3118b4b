-- The list of free pages after a page is put in the place of another and new fields into the head.
use Rattle.std.proofs.Common.{◌≡◌, ◌≢◌, ℕ, zero, suc, ◌+◌, ◌-◌, ◌<◌, ◌≤◌, ◌^◌, ◌==◌, true}
use Rattle.std.proofs.Common.{not, cond, List, [], ◌∷◌, ◌++◌, length, set, Contains, refl, sym}
use Rattle.std.proofs.Common.{ap, subst, ◌∙◌, arith}
use Rattle.std.proofs.lemmas.List.{length-set, length-append, get_or-set_same, get_or-set_other}
use Rattle.std.proofs.lemmas.List.Sums.{sum_by-set, sum_by_push}
use Rattle.std.proofs.Math.Seq.{get_or-append_seam}
use Rattle.std.proofs.Math.ListN.{get_or-append}
use Rattle.std.proofs.lemmas.Bool.{eq-eqb, ne_eqb, lt-ltb, and_from}
use Rattle.std.proofs.Math.Nat.{max-eq_left, max-eq_right}
use Rattle.ori_bytes.specs.declared.limits.TheConstants.{MAX_PAGES, HEAD_KIND, FREE_KIND}
use Rattle.ori_page.specs.declared.head.Head.{Head}
use Rattle.ori_page.specs.Pages.{owner_of, kind_of, next_of, fresh_page, free_page}
use Rattle.ori_page.specs.Heads.{head_of, with_head, Fits32, KeepsHead}
use Rattle.ori_page.specs.Spaces.{page_at, head_in, is_used, in_use, IsFree, IsChain}
use Rattle.ori_page.specs.Spaces.{is_head, is_listed, HasFreeList, AreFull, KeepsFreeList, IsTaken, IsReleased}
use Rattle.ori_page.proofs.Heading.{ReadsAs, head_reads, head_rest, free_next, free_owner, free_kind}

-- ---- the pages after it

abbrev weight : List ℕ → ℕ
weight page = cond (is_used page) 1 0

used_from : (k : ℕ) → k ≢ 0 → not (k == 0) ≡ true
used_from k h = ap not (ne_eqb k 0 h)

pub weight_used : (page : List ℕ) → kind_of page ≢ FREE_KIND → weight page ≡ 1
weight_used page h = ap (λ b. cond b 1 0) (used_from (kind_of page) h)

pub weight_free : (page : List ℕ) → kind_of page ≡ FREE_KIND → weight page ≡ 0
weight_free page e = ap (λ k. cond (not (k == 0)) 1 0) e

-- the head and page p are these now, and the others stay
pub record Changed (p : ℕ) (head page : List ℕ) (before after : List (List ℕ)) : Type 0 where
  pub count : length after ≡ length before
  pub head_is : page_at after 0 ≡ head
  pub page_is : page_at after p ≡ page
  pub others : (q : ℕ) → 0 < q → q ≢ p → page_at after q ≡ page_at before q
  pub used : in_use after + weight (page_at before p) + weight (page_at before 0)
      ≡ in_use before + weight page + weight head

pub changed : (pages : List (List ℕ)) (p : ℕ) (head page : List ℕ) → 0 < p → p < length pages
    → Changed p head page pages (set (set pages 0 head) p page)
unfolding in_use
changed pages p head page above below =
    let mid = set pages 0 head in
    let len : length mid ≡ length pages = length-set pages 0 head in
    let apart : 0 ≢ p = λ e. absurd (omega (arith, e)) in
    let apart' : p ≢ 0 = λ e. absurd (omega (arith, e)) in
    let first : in_use mid + weight (page_at pages 0) ≡ in_use pages + weight head
    = sum_by-set weight pages 0 head [] (omega arith) in
    let second : in_use (set mid p page) + weight (page_at mid p) ≡ in_use mid + weight page
    = sum_by-set weight mid p page [] (omega arith) in
    let same : page_at mid p ≡ page_at pages p = get_or-set_other pages 0 p head [] apart' in
    let second' : in_use (set mid p page) + weight (page_at pages p) ≡ in_use mid + weight page
    = subst (λ (x : List ℕ). in_use (set mid p page) + weight x ≡ in_use mid + weight page) same second in
    record {
      count = length-set mid p page ∙ len;
      head_is = get_or-set_other mid p 0 page [] apart ∙ get_or-set_same pages 0 head [] (omega arith);
      page_is = get_or-set_same mid p page [] (omega arith);
      others = λ q low other. get_or-set_other mid p q page [] other
          ∙ get_or-set_other pages 0 q head [] (λ e. absurd (omega (arith, e)));
      used = omega (arith, first, second');
    }

-- ---- chains

here : (xs : List ℕ) (q : ℕ) → Contains (q ∷ xs) q
here xs q = (0, omega arith, refl)

there : (xs : List ℕ) (x q : ℕ) → Contains xs q → Contains (x ∷ xs) q
there xs x q (k, low, is) = (suc k, omega arith, is)

pub chain_stays : (before after : List (List ℕ)) (p : ℕ) (free : List ℕ) → length before ≤ length after
    → ((q : ℕ) → Contains free q → page_at after q ≡ page_at before q) → IsChain before p free → IsChain after p free
chain_stays before after p [] more stays h = h
chain_stays before after p (q ∷ rest) more stays h =
    let e : page_at after q ≡ page_at before q = stays q (here rest q) in
    let f = h.1 in (
      h.0,
      record { above = f.above; below = omega arith; owner = ap owner_of e ∙ f.owner; kind = ap kind_of e ∙ f.kind },
      h.2,
      subst (λ (n : ℕ). IsChain after n rest) (sym (ap next_of e))
          (chain_stays before after (next_of (page_at before q)) rest more (λ r c. stays r (there rest q r c)) h.3),
    )

pub chain_free : (pages : List (List ℕ)) (p : ℕ) (free : List ℕ) → IsChain pages p free → (q : ℕ) → Contains free q
    → IsFree pages q
chain_free pages p [] h q (k, low, is) = absurd (omega arith)
chain_free pages p (r ∷ rest) h q (zero, low, is) = subst (IsFree pages) is h.1
chain_free pages p (r ∷ rest) h q (suc k, low, is) =
    chain_free pages (next_of (page_at pages r)) rest h.3 q (k, omega arith, is)

some_free : (pages : List (List ℕ)) (p : ℕ) (free : List ℕ) → 0 < p → IsChain pages p free → 0 < length free
some_free pages p [] above h = absurd (omega (arith, h))
some_free pages p (q ∷ rest) above h = omega arith

pub first_within : (pages : List (List ℕ)) (p : ℕ) (free : List ℕ) → 0 < length pages → IsChain pages p free
    → p < length pages
first_within pages p [] some h = omega (arith, h)
first_within pages p (q ∷ rest) some h = omega (arith, h.0, h.1.below)

pub first_listed : (pages : List (List ℕ)) (p : ℕ) (free : List ℕ) → 0 < length pages → 0 < p → IsChain pages p free
    → is_listed pages p ≡ true
first_listed pages p [] some above h = absurd (omega (arith, h))
first_listed pages p (q ∷ rest) some above h =
    let next = first_within pages (next_of (page_at pages q)) rest some h.3 in
    let here : is_listed pages q ≡ true
    = and_from _ _ (and_from _ _ (eq-eqb _ _ h.1.owner) (eq-eqb _ _ h.1.kind)) (lt-ltb _ _ next) in
    subst (λ (x : ℕ). is_listed pages x ≡ true) (sym h.0) here

-- ---- a free page is taken

-- what becomes of the list whose first page is taken
rest_stands : (before after : List (List ℕ)) (first : ℕ) (free : List ℕ) (head page : List ℕ) (new : Head)
    → Changed first head page before after → ReadsAs new head → 0 < first → IsChain before first free
    → new.count ≡ length before → new.first_free ≡ next_of (page_at before first)
    → new.free_count + 1 ≡ length free → length free + in_use before ≡ length before
    → in_use after ≡ in_use before + 1 → HasFreeList after
rest_stands before after first [] head page new c r above chain count next number all more =
    absurd (omega (arith, chain))
rest_stands before after first (q ∷ rest) head page new c r above chain count next number all more =
    let is : first ≡ q = chain.0 in
    let stays : (x : ℕ) → Contains rest x → page_at after x ≡ page_at before x
    = λ x member. let f = chain_free before (next_of (page_at before q)) rest chain.3 x member in
    c.others x f.above (λ e. chain.2 (subst (Contains rest) (e ∙ is) member)) in
    let on : IsChain before new.first_free rest
    = subst (λ (n : ℕ). IsChain before n rest) (sym (next ∙ ap (λ p. next_of (page_at before p)) is)) chain.3 in
    record {
      owner = ap owner_of c.head_is ∙ r.owner;
      kind = ap kind_of c.head_is ∙ r.kind;
      count = ap (λ h. (head_of h).count) c.head_is ∙ r.count ∙ count ∙ sym c.count;
      free = rest;
      free_count = ap (λ h. (head_of h).free_count) c.head_is ∙ r.free_count ∙ omega (arith, number);
      chain = subst (λ (n : ℕ). IsChain after n rest)
          (sym (ap (λ h. (head_of h).first_free) c.head_is ∙ r.first_free))
          (chain_stays before after new.first_free rest (omega (arith, c.count)) stays on);
      all = omega (arith, all, more, c.count);
    }

kept_head : (new : Head) (old : List ℕ) → Fits32 new → new.format ≡ (head_of old).format
    → new.first_retired ≡ (head_of old).first_retired → new.next_index ≡ (head_of old).next_index
    → KeepsHead old (with_head new old)
kept_head new old fits a b c =
    let r = head_reads new old fits in
    record {
      format = r.format ∙ a;
      first_retired = r.first_retired ∙ b;
      next_index = r.next_index ∙ c;
      rest = head_rest new old;
    }

fresh_weight : (owner kind : ℕ) → kind ≢ FREE_KIND → weight (fresh_page owner kind) ≡ 1
fresh_weight owner kind h = weight_used (fresh_page owner kind) h

head_weight : (page : List ℕ) → kind_of page ≡ HEAD_KIND → weight page ≡ 1
head_weight page e = ap (λ k. cond (not (k == 0)) 1 0) e

-- the head after the first free page is taken
abbrev pub rest_of : List (List ℕ) → ℕ → Head
rest_of pages p = record (head_in pages) {
  first_free = next_of (page_at pages p);
  free_count = (head_in pages).free_count - 1;
}

taken_rest : (before after : List (List ℕ)) (p : ℕ) (l : HasFreeList before) (head page : List ℕ) (new : Head)
    → Changed p head page before after → ReadsAs new head → 0 < p → IsChain before p l.free
    → new.count ≡ length before → new ≡ rest_of before p → in_use after ≡ in_use before + 1 → HasFreeList after
taken_rest before after p l head page new c r above chain count is more =
    rest_stands before after p l.free head page new c r above chain count (ap (λ h. h.first_free) is)
    (omega (arith, ap (λ h. h.free_count) is, l.free_count, some_free before p l.free above chain)) l.all more

pub reused : (pages : List (List ℕ)) (owner kind p : ℕ) → p ≡ (head_in pages).first_free → 0 < p → p < length pages
    → kind_of (page_at pages p) ≡ FREE_KIND → Fits32 (rest_of pages p)
    → IsTaken owner kind p pages
    (set (set pages 0 (with_head (rest_of pages p) (page_at pages 0))) p (fresh_page owner kind))
reused pages owner kind p first above below free fits =
    let new = rest_of pages p in
    let head = with_head new (page_at pages 0) in
    let page = fresh_page owner kind in
    let after = set (set pages 0 head) p page in
    let c = changed pages p head page above below in
    let r = head_reads new (page_at pages 0) fits in
    record {
      above = above;
      at = omega arith;
      was_free = λ _. free;
      count = c.count ∙ sym (max-eq_left (omega arith));
      page = c.page_is;
      others = λ q low within other _. c.others q low other;
      head = subst (KeepsHead (page_at pages 0)) (sym c.head_is)
          (kept_head new (page_at pages 0) fits refl refl refl);
      listed = λ some l.
          let more : in_use after ≡ in_use pages + 1 = omega (
            arith,
            c.used,
            weight_free (page_at pages p) free,
            head_weight (page_at pages 0) l.kind,
            head_weight head r.kind,
            fresh_weight owner kind some,
          ) in
          let chain : IsChain pages p l.free = subst (λ (n : ℕ). IsChain pages n l.free) (sym first) l.chain in (
            taken_rest pages after p l head page new c r above chain (l.count) refl more,
            more,
          );
    }

-- ---- a page is freed

-- the head after a page is put on the list
abbrev pub more_of : List (List ℕ) → ℕ → Head
more_of pages p = record (head_in pages) { first_free = p; free_count = (head_in pages).free_count + 1 }

pub freed : (pages : List (List ℕ)) (p : ℕ) → 0 < p → p < length pages → kind_of (page_at pages p) ≢ FREE_KIND
    → Fits32 (more_of pages p) → (head_in pages).first_free < 2 ^ 32
    → IsReleased p pages
    (set (set pages 0 (with_head (more_of pages p) (page_at pages 0))) p (free_page (head_in pages).first_free))
freed pages p above below used fits small =
    let new = more_of pages p in
    let next = (head_in pages).first_free in
    let head = with_head new (page_at pages 0) in
    let page = free_page next in
    let after = set (set pages 0 head) p page in
    let c = changed pages p head page above below in
    let r = head_reads new (page_at pages 0) fits in
    record {
      count = c.count;
      next = next;
      page = c.page_is;
      others = λ q low within other _. c.others q low other;
      head = subst (KeepsHead (page_at pages 0)) (sym c.head_is)
          (kept_head new (page_at pages 0) fits refl refl refl);
      listed = λ l.
          let fewer : in_use after + 1 ≡ in_use pages = omega (
            arith,
            c.used,
            weight_used (page_at pages p) used,
            head_weight (page_at pages 0) l.kind,
            head_weight head r.kind,
            weight_free page (free_kind next),
          ) in
          let member : (x : ℕ) → Contains l.free x → IsFree pages x
          = λ x m. chain_free pages next l.free l.chain x m in
          let stays : (x : ℕ) → Contains l.free x → page_at after x ≡ page_at pages x
          = λ x m. let f = member x m in
          c.others x f.above (λ e. used (subst (λ (y : ℕ). kind_of (page_at pages y) ≡ FREE_KIND) e f.kind)) in (
            record {
              owner = ap owner_of c.head_is ∙ r.owner;
              kind = ap kind_of c.head_is ∙ r.kind;
              count = ap (λ h. (head_of h).count) c.head_is ∙ r.count ∙ l.count ∙ sym c.count;
              free = p ∷ l.free;
              free_count = ap (λ h. (head_of h).free_count) c.head_is ∙ r.free_count ∙ omega (arith, l.free_count);
              chain = (
                ap (λ h. (head_of h).first_free) c.head_is ∙ r.first_free,
                record {
                  above = above;
                  below = omega (arith, c.count);
                  owner = ap owner_of c.page_is ∙ free_owner next;
                  kind = ap kind_of c.page_is ∙ free_kind next;
                },
                λ m. used (member p m).kind,
                subst (λ (n : ℕ). IsChain after n l.free) (sym (ap next_of c.page_is ∙ free_next next small))
                    (chain_stays pages after next l.free (omega (arith, c.count)) stays l.chain),
              );
              all = omega (arith, l.all, fewer, c.count);
            },
            fewer,
          );
    }

-- ---- a page is added

-- the head after a page is put behind the last
abbrev pub grown_of : List (List ℕ) → Head
grown_of pages = record (head_in pages) { count = length pages + 1 }

pub grown : (pages : List (List ℕ)) (owner kind : ℕ) → 0 < length pages → Fits32 (grown_of pages)
    → IsTaken owner kind (length pages) pages
    (set (pages ++ fresh_page owner kind ∷ []) 0 (with_head (grown_of pages) (page_at pages 0)))
unfolding in_use
grown pages owner kind some fits =
    let p = length pages in
    let new = grown_of pages in
    let head = with_head new (page_at pages 0) in
    let page = fresh_page owner kind in
    let longer = pages ++ page ∷ [] in
    let after = set longer 0 head in
    let len : length longer ≡ p + 1 = simp length-append (omega arith) in
    let len' : length after ≡ p + 1 = length-set longer 0 head ∙ len in
    let was : (q : ℕ) → q < p → page_at longer q ≡ page_at pages q
    = λ q low. get_or-append pages (page ∷ []) [] q low in
    let head_is : page_at after 0 ≡ head = get_or-set_same longer 0 head [] (omega arith) in
    let page_is : page_at after p ≡ page
    = get_or-set_other longer 0 p head [] (λ e. absurd (omega (arith, e))) ∙ get_or-append_seam pages page [] [] in
    let others : (q : ℕ) → 0 < q → q < p → page_at after q ≡ page_at pages q
    = λ q low below. get_or-set_other longer 0 q head [] (λ e. absurd (omega (arith, e))) ∙ was q below in
    let r = head_reads new (page_at pages 0) fits in
    record {
      above = some;
      at = omega arith;
      was_free = λ low. absurd (omega arith);
      count = len' ∙ sym (max-eq_right (omega arith));
      page = page_is;
      others = λ q low below _ _. others q low below;
      head = subst (KeepsHead (page_at pages 0)) (sym head_is)
          (kept_head new (page_at pages 0) fits refl refl refl);
      listed = λ used l.
          let first : in_use after + weight (page_at longer 0) ≡ in_use longer + weight head
          = sum_by-set weight longer 0 head [] (omega arith) in
          let second : in_use longer ≡ in_use pages + weight page = sum_by_push weight pages page in
          let same : weight (page_at longer 0) ≡ weight (page_at pages 0) = ap weight (was 0 some) in
          let more : in_use after ≡ in_use pages + 1 = omega (
            arith,
            first,
            second,
            same,
            head_weight (page_at pages 0) l.kind,
            head_weight head r.kind,
            fresh_weight owner kind used,
          ) in
          let member : (x : ℕ) → Contains l.free x → IsFree pages x
          = λ x m. chain_free pages (head_in pages).first_free l.free l.chain x m in (
            record {
              owner = ap owner_of head_is ∙ r.owner;
              kind = ap kind_of head_is ∙ r.kind;
              count = ap (λ h. (head_of h).count) head_is ∙ r.count ∙ sym len';
              free = l.free;
              free_count = ap (λ h. (head_of h).free_count) head_is ∙ r.free_count ∙ l.free_count;
              chain = subst (λ (n : ℕ). IsChain after n l.free)
                  (sym (ap (λ h. (head_of h).first_free) head_is ∙ r.first_free))
                  (chain_stays pages after (head_in pages).first_free l.free (omega (arith, len'))
                  (λ x m. let f = member x m in others x f.above f.below) l.chain);
              all = omega (arith, l.all, more, len');
            },
            more,
          );
    }

-- ---- a list that stands has no damaged page

used_some : (pages : List (List ℕ)) → 0 < length pages → kind_of (page_at pages 0) ≡ HEAD_KIND → 0 < in_use pages
unfolding in_use
used_some pages some kind =
    let first : in_use (set pages 0 []) + weight (page_at pages 0) ≡ in_use pages + weight []
    = sum_by-set weight pages 0 [] [] some in
    omega (arith, first, head_weight (page_at pages 0) kind, weight_free [] refl)

pub head_sound : (pages : List (List ℕ)) → 0 < length pages → HasFreeList pages → is_head pages ≡ true
head_sound pages some l =
    let first : (head_in pages).first_free < length pages
    = first_within pages (head_in pages).first_free l.free some l.chain in
    let fewer : (head_in pages).free_count < length pages
    = omega (arith, l.free_count, l.all, used_some pages some l.kind) in
    and_from _ _ (and_from _ _ (and_from _ _ (and_from _ _ (eq-eqb _ _ l.owner) (eq-eqb _ _ l.kind))
    (eq-eqb _ _ l.count)) (lt-ltb _ _ first)) (lt-ltb _ _ fewer)

pub listed_sound : (pages : List (List ℕ)) → 0 < length pages → (l : HasFreeList pages)
    → 0 < (head_in pages).first_free → is_listed pages (head_in pages).first_free ≡ true
listed_sound pages some l above = first_listed pages (head_in pages).first_free l.free some above l.chain

-- ---- a page in use is written

-- a page that isn't free is there
pub used_below : (pages : List (List ℕ)) (p : ℕ) → kind_of (page_at pages p) ≢ FREE_KIND → p < length pages
used_below [] p used = absurd (used refl)
used_below (page ∷ rest) zero used = omega arith
used_below (page ∷ rest) (suc p) used = let below = used_below rest p used in omega (arith, below)

-- the list of free pages stays, with as many pages in use
pub kept_list : (pages : List (List ℕ)) (p : ℕ) (page : List ℕ) → KeepsFreeList p page pages (set pages p page)
unfolding in_use
kept_list pages p page above used is l =
    let after = set pages p page in
    let first = (head_in pages).first_free in
    let low : p < length pages = used_below pages p used in
    let change : in_use after + weight (page_at pages p) ≡ in_use pages + weight page
    = sum_by-set weight pages p page [] low in
    let same : in_use after ≡ in_use pages
    = omega (arith, change, weight_used (page_at pages p) used, weight_used page is) in
    let len : length after ≡ length pages = length-set pages p page in
    let head : page_at after 0 ≡ page_at pages 0 = get_or-set_other pages p 0 page [] (λ e. above (sym e)) in
    let stays : (q : ℕ) → Contains l.free q → page_at after q ≡ page_at pages q
    = λ q m. get_or-set_other pages p q page [] (λ e. used
    (subst (λ (x : ℕ). kind_of (page_at pages x) ≡ FREE_KIND) e (chain_free pages first l.free l.chain q m).kind)) in (
      record {
        owner = ap owner_of head ∙ l.owner;
        kind = ap kind_of head ∙ l.kind;
        count = ap (λ h. (head_of h).count) head ∙ l.count ∙ sym len;
        free = l.free;
        free_count = ap (λ h. (head_of h).free_count) head ∙ l.free_count;
        chain = subst (λ (n : ℕ). IsChain after n l.free) (sym (ap (λ h. (head_of h).first_free) head))
            (chain_stays pages after first l.free (omega (arith, len)) stays l.chain);
        all = omega (arith, l.all, same, len);
      },
      same,
    )

-- ---- the pages are full

none_listed : (pages : List (List ℕ)) (p : ℕ) (free : List ℕ) → p ≡ 0 → IsChain pages p free → length free ≡ 0
none_listed pages p [] none h = refl
none_listed pages p (q ∷ rest) none h = absurd (omega (arith, none, h.0, h.1.above))

-- all of the greatest number of pages are in use
pub full_in_use : (pages : List (List ℕ)) → AreFull pages → HasFreeList pages → in_use pages ≡ MAX_PAGES
full_in_use pages full l =
    let none : length l.free ≡ 0 = none_listed pages (head_in pages).first_free l.free full.none l.chain in
    omega (arith, l.all, none, full.count)
