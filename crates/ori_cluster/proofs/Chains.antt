-- What a chain of chunks says where it is read.
use Rattle.std.proofs.Common.{◌≡◌, ◌≢◌, ℕ, ◌+◌, ◌-◌, Bool, true, false, refl, List, [], ◌∷◌, ◌++◌, length, sym, ap}
use Rattle.std.proofs.Common.{subst, ◌∙◌, true≢false, append_assoc, append-nil, arith}
use Rattle.std.proofs.lemmas.Bool.{and_from, and_parts, lt-ltb}
use Rattle.ori_page.specs.declared.fault.PageFault.{PageFault}
use Rattle.ori_page.specs.declared.fault.PageFault.TheVariants.{NoMemory, Device, Busy, Damaged, PagesFull}
use Rattle.ori_page.specs.Spaces.{page_at}
use Rattle.ori_posmap.specs.Reading.{WhyNotRead}
use Rattle.ori_cluster.specs.declared.chunk.Link.{Link}
use Rattle.ori_cluster.specs.Slots.{Spot, Chunk, chunk_on, chunk_place, has_chunk, Links, has_spot, Adds, WhyBroken}
use Rattle.ori_cluster.specs.Drops.{has_slots}

-- the chunk of a page and slot
abbrev pub chunk_of : List (List ℕ) → ℕ → ℕ → Chunk
chunk_of pages p s = chunk_on (chunk_place s (page_at pages p)) (page_at pages p)

pub no_more : (pages : List (List ℕ)) (owner : ℕ) (chain : List Spot) (p s : ℕ) (bytes : List ℕ)
    → Links pages owner chain p s bytes → p ≡ 0 → bytes ≡ []
no_more pages owner [] p s bytes h none = h.1
no_more pages owner (spot ∷ rest) p s bytes h none = absurd (omega (arith, none, h.0, h.2.above))

-- the first chunk, and what follows it
pub record Step (pages : List (List ℕ)) (owner : ℕ) (chain : List Spot) (p s : ℕ) (bytes : List ℕ) : Type 0 where
  pub rest : List Spot
  pub later : List ℕ
  pub long : length chain ≡ length rest + 1
  pub has : has_spot pages owner p s ≡ true
  pub bytes_are : bytes ≡ (chunk_of pages p s).bytes ++ later
  pub on : Links pages owner rest (chunk_of pages p s).page (chunk_of pages p s).slot later

pub step : (pages : List (List ℕ)) (owner : ℕ) (chain : List Spot) (p s : ℕ) (bytes : List ℕ)
    → Links pages owner chain p s bytes → p ≢ 0 → Step pages owner chain p s bytes
step pages owner [] p s bytes h some = absurd (some h.0)
step pages owner (spot ∷ rest) p s bytes h some =
    let x = h.2 in
    let l = h.3 in
    let first : Step pages owner (spot ∷ rest) spot.page spot.slot bytes = record {
      rest = rest;
      later = l.0;
      long = omega arith;
      has = and_from _ _ (and_from _ _ (and_from _ _ (lt-ltb 0 spot.page x.above)
          (lt-ltb spot.page (length pages) x.below)) x.page) x.chunk;
      bytes_are = l.1;
      on = l.2;
    } in
    subst (λ (y : ℕ). Step pages owner (spot ∷ rest) y s bytes) (sym h.0)
    (subst (λ (y : ℕ). Step pages owner (spot ∷ rest) spot.page y bytes) (sym h.1) first)

-- ---- where no chunk stands

false_from : (b : Bool) → (b ≡ true → ⊥) → b ≡ false
false_from true none = absurd (none refl)
false_from false none = refl

pub no_spot : (pages : List (List ℕ)) (owner p s : ℕ) (page : List ℕ) → page ≡ page_at pages p
    → has_chunk s page ≡ false → has_spot pages owner p s ≡ false
no_spot pages owner p s page is none =
    false_from (has_spot pages owner p s)
    (λ x. true≢false (sym (and_parts (has_slots pages owner p) (has_chunk s (page_at pages p)) x).1
    ∙ ap (has_chunk s) (sym is) ∙ none))

pub no_slots : (pages : List (List ℕ)) (owner p s : ℕ) (fault : PageFault)
    → WhyNotRead (has_slots pages owner p) p fault → WhyNotRead (has_spot pages owner p s) p fault
no_slots pages owner p s NoMemory h = tt
no_slots pages owner p s Device h = tt
no_slots pages owner p s (Busy turn) h = h
no_slots pages owner p s (Damaged q) h = (
  h.0,
  false_from (has_spot pages owner p s)
      (λ x. true≢false (sym (and_parts (has_slots pages owner p) (has_chunk s (page_at pages p)) x).0 ∙ h.1)),
)
no_slots pages owner p s PagesFull h = h

-- ---- what is answered

pub none_left : (pages : List (List ℕ)) (owner : ℕ) (link : Link) (old : List ℕ) → link.page ≡ 0
    → (chain : List Spot) (later : List ℕ) → Links pages owner chain link.page link.slot later → old ≡ old ++ later
none_left pages owner link old none chain later h =
    sym (append-nil old)
    ∙ ap (λ (x : List ℕ). old ++ x) (sym (no_more pages owner chain link.page link.slot later h none))

pub why_chunk : (pages : List (List ℕ)) (owner : ℕ) (link : Link) (most : ℕ) (fault : PageFault) → link.page ≢ 0
    → WhyNotRead (has_spot pages owner link.page link.slot) link.page fault → WhyBroken pages owner link most fault
why_chunk pages owner link most NoMemory some h = tt
why_chunk pages owner link most Device some h = tt
why_chunk pages owner link most (Busy turn) some h = h
why_chunk pages owner link most (Damaged p) some h = λ chain bytes is few.
    true≢false (sym (step pages owner chain link.page link.slot bytes is some).has ∙ h.1)
why_chunk pages owner link most PagesFull some h = absurd h

-- the rest of a chain, from where its first chunk names
pub rest_links : (pages : List (List ℕ)) (owner : ℕ) (chain : List Spot) (link next : Link) (bytes old new : List ℕ)
    → Adds (page_at pages link.page) link.slot next old new
    → (x : Step pages owner chain link.page link.slot bytes) → Links pages owner x.rest next.page next.slot x.later
rest_links pages owner chain link next bytes old new a x =
    subst (λ (y : ℕ). Links pages owner x.rest y next.slot x.later) (sym a.0)
    (subst (λ (y : ℕ). Links pages owner x.rest (chunk_of pages link.page link.slot).page y x.later) (sym a.1) x.on)

pub all_added : (pages : List (List ℕ)) (owner : ℕ) (chain : List Spot) (link next : Link)
    (bytes old mid new : List ℕ) → Adds (page_at pages link.page) link.slot next old mid
    → (x : Step pages owner chain link.page link.slot bytes) → new ≡ mid ++ x.later → new ≡ old ++ bytes
all_added pages owner chain link next bytes old mid new a x e =
    e ∙ ap (λ (y : List ℕ). y ++ x.later) a.2 ∙ append_assoc old (chunk_of pages link.page link.slot).bytes x.later
    ∙ ap (λ (y : List ℕ). old ++ y) (sym x.bytes_are)

pub why_rest : (pages : List (List ℕ)) (owner : ℕ) (link next : Link) (old mid : List ℕ) (most : ℕ) (fault : PageFault)
    → link.page ≢ 0 → most ≢ 0 → Adds (page_at pages link.page) link.slot next old mid
    → WhyBroken pages owner next (most - 1) fault → WhyBroken pages owner link most fault
why_rest pages owner link next old mid most NoMemory some n a h = tt
why_rest pages owner link next old mid most Device some n a h = tt
why_rest pages owner link next old mid most (Busy turn) some n a h = h
why_rest pages owner link next old mid most (Damaged p) some n a h = λ chain bytes is few.
    let x = step pages owner chain link.page link.slot bytes is some in
    h x.rest x.later (rest_links pages owner chain link next bytes old mid a x) (omega (arith, few, x.long))
why_rest pages owner link next old mid most PagesFull some n a h = absurd h
