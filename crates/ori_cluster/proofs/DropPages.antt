-- What the pages say after a chunk was dropped from one of them.
use Rattle.std.proofs.Common.{◌≡◌, ◌≢◌, ◌⊎◌, inl, inr, ℕ, ◌+◌, ◌*◌, ◌<◌}
use Rattle.std.proofs.Common.{◌≤◌, Bool, true, false, List, [], length, drop, set}
use Rattle.std.proofs.Common.{refl, sym, ap, subst, ◌∙◌, true≢false, arith}
use Rattle.std.specs.Prelude.{◌&&◌, nat_lt, nat_le}
use Rattle.std.specs.Int.{w16, to_be_bytes, from_be_bytes}
use Rattle.std.proofs.lemmas.Bool.{and_parts, ltb-true, leb-true}
use Rattle.std.proofs.lemmas.List.{get_or-set_same}
use Rattle.ori_bytes.specs.declared.limits.TheConstants.{PAGE_BYTES, FREE_KIND}
use Rattle.ori_page.specs.declared.fault.PageFault.{PageFault}
use Rattle.ori_page.specs.declared.fault.PageFault.TheVariants.{NoMemory, Device, Busy, Damaged, PagesFull}
use Rattle.ori_page.specs.Faults.{IsOutside, MayNotRelease, WhyRefused}
use Rattle.ori_page.specs.Pages.{owner_of, kind_of, number_at}
use Rattle.ori_page.specs.Spaces.{page_at, IsReleased}
use Rattle.ori_posmap.specs.Bytes.{patched}
use Rattle.ori_posmap.proofs.Effects.{write_changes}
use Rattle.ori_posmap.proofs.Owners.{patched_owner}
use Rattle.ori_posmap.specs.Reading.{WhyNotRead}
use Rattle.ori_cluster.specs.declared.chunk.Link.{Link}
use Rattle.ori_cluster.specs.Slots.{short_at, slot_count, used_end, slot_place, chunk_place, is_slots, has_chunk}
use Rattle.ori_cluster.specs.Slots.{has_spot, IsSlotsPage, HasLess}
use Rattle.ori_cluster.specs.Drops.{has_slots, Names, NamesSome, NamesNone, IsLeft, IsDropped, WhyNotLeft}
use Rattle.ori_cluster.specs.Drops.{WhyNotDropped}
use Rattle.ori_cluster.proofs.Putting.{slots_kind}
use Rattle.ori_cluster.proofs.Windows.{window, before, two}

abbrev without : ℕ → List ℕ → List ℕ
without s page = patched (slot_place s) (to_be_bytes w16 0) page

-- ---- what stays of a page from which a slot's number goes

-- a number before the numbers of the slots
pub short_stays : (s at : ℕ) (page : List ℕ) → length page ≡ PAGE_BYTES → 16 + 2 * (s + 1) ≤ PAGE_BYTES → at + 2 ≤ 16
    → short_at at (without s page) ≡ short_at at page
short_stays s at page long fits low =
    let same : window at 2 (without s page) ≡ window at 2 page
    = before (slot_place s) at 2 (to_be_bytes w16 0) page (omega (arith, fits, low)) (omega (arith, long, fits)) in
    sym (two (drop at (without s page))) ∙ ap (from_be_bytes w16) same ∙ two (drop at page)

pub owner_stays : (s : ℕ) (page : List ℕ) → length page ≡ PAGE_BYTES → 16 + 2 * (s + 1) ≤ PAGE_BYTES
    → owner_of (without s page) ≡ owner_of page
owner_stays s page long fits =
    patched_owner (slot_place s) (to_be_bytes w16 0) page (omega (arith, fits)) (omega (arith, long))

-- ---- which chunks a page has

none_from : (b : Bool) → (b ≡ true → ⊥) → b ≡ false
none_from true none = absurd (none refl)
none_from false none = refl

-- a slots page in numbers
pub record Fits (page : List ℕ) : Type 0 where
  pub above : 16 ≤ used_end page
  pub room : used_end page + 2 * slot_count page ≤ PAGE_BYTES

pub fits : (owner : ℕ) (page : List ℕ) → is_slots owner page ≡ true → Fits page
fits owner page h =
    let x = and_parts _ _ h in
    record { above = leb-true _ _ (and_parts _ _ x.0).1; room = leb-true _ _ x.1 }

-- a slot that names no place has no chunk
pub no_chunk : (s : ℕ) (page : List ℕ) → (s < slot_count page → chunk_place s page ≡ 0) → has_chunk s page ≡ false
no_chunk s page none = none_from (has_chunk s page) (λ h.
    let at = chunk_place s page in
    let x = and_parts (nat_lt s (slot_count page) && nat_le 16 at)
    (nat_le (at + 8 + short_at (at + 6) page) (used_end page)) h in
    let y = and_parts (nat_lt s (slot_count page)) (nat_le 16 at) x.0 in
    absurd (omega (arith, leb-true 16 at y.1, none (ltb-true s (slot_count page) y.0))))

pub some_chunk : (owner : ℕ) (page : List ℕ) → IsSlotsPage owner page → NamesSome page
    → (r : ℕ) × (has_chunk r page ≡ true)
some_chunk owner page i (s, low, some) = (s, i.chunks s low some)

-- ---- why a page isn't read, or isn't left

pub outside_left : (pages : List (List ℕ)) (fault : PageFault) → IsOutside fault → WhyNotLeft pages fault
outside_left pages NoMemory out = tt
outside_left pages Device out = tt
outside_left pages (Busy turn) out = out
outside_left pages (Damaged page) out = absurd out
outside_left pages PagesFull out = absurd out

pub why_left : (pages : List (List ℕ)) (fault : PageFault) → MayNotRelease fault → WhyRefused pages fault
    → WhyNotLeft pages fault
why_left pages NoMemory may h = tt
why_left pages Device may h = tt
why_left pages (Busy turn) may h = may
why_left pages (Damaged page) may h = h
why_left pages PagesFull may h = absurd may

pub why_slots : (pages : List (List ℕ)) (owner : ℕ) (link : Link) (fault : PageFault)
    → WhyNotRead (has_slots pages owner link.page) link.page fault → WhyNotDropped pages owner link fault
why_slots pages owner link NoMemory h = tt
why_slots pages owner link Device h = tt
why_slots pages owner link (Busy turn) h = h
why_slots pages owner link (Damaged q) h =
    inl (h.0, none_from (has_spot pages owner link.page link.slot) (λ x. true≢false (sym (and_parts _ _ x).0 ∙ h.1)))
why_slots pages owner link PagesFull h = absurd h

pub why_chunk : (pages : List (List ℕ)) (owner : ℕ) (link : Link) (page : List ℕ) → page ≡ page_at pages link.page
    → has_chunk link.slot page ≡ false → WhyNotDropped pages owner link (Damaged link.page)
why_chunk pages owner link page is none =
    inl (
      refl,
      none_from (has_spot pages owner link.page link.slot)
          (λ x. true≢false (sym (and_parts _ _ x).1 ∙ ap (has_chunk link.slot) (sym is) ∙ none)),
    )

pub why_not_left : (pages : List (List ℕ)) (owner : ℕ) (link : Link) (fault : PageFault) → WhyNotLeft pages fault
    → WhyNotDropped pages owner link fault
why_not_left pages owner link NoMemory h = tt
why_not_left pages owner link Device h = tt
why_not_left pages owner link (Busy turn) h = h
why_not_left pages owner link (Damaged q) h = inr h
why_not_left pages owner link PagesFull h = absurd h

-- ---- the page is written or released

pub used_slots : (owner : ℕ) (page : List ℕ) → is_slots owner page ≡ true → kind_of page ≢ FREE_KIND
used_slots owner page h = λ e. absurd (omega (arith, e, slots_kind owner page h))

written : (owner current p s : ℕ) (content : List ℕ) (before : List (List ℕ)) → 0 < p → p < length before
    → IsSlotsPage owner (page_at before p) → HasLess owner s (page_at before p) content
    → (p ≡ current) ⊎ NamesSome content → IsDropped owner current p s before (set before p content)
written owner current p s content before above below i h keeps = record {
  page = inl (
    subst (HasLess owner s (page_at before p)) (sym there) h,
    by keeps,
  );
  changes = write_changes (λ q. q ≡ p) before p content above refl (used_slots owner (page_at before p) i.slots)
      (used_slots owner content h.slots.slots);
}
  where
    there : page_at (set before p content) p ≡ content
    there = get_or-set_same before p content [] below

    by : (p ≡ current) ⊎ NamesSome content
        → (p ≡ current) ⊎ ((r : ℕ) × (has_chunk r (page_at (set before p content) p) ≡ true))
    by (inl is) = inl is
    by (inr some) =
        let x = some_chunk owner content h.slots some in
        inr (x.0, ap (has_chunk x.0) there ∙ x.1)

released : (owner current p s : ℕ) (content : List ℕ) (before after : List (List ℕ))
    → HasLess owner s (page_at before p) content → IsReleased p before after → p ≢ current → NamesNone content
    → IsDropped owner current p s before after
released owner current p s content before after h r aside none = record {
  page = inr (aside, λ t other. sym (h.others t other).has ∙ no_chunk t content (none t));
  changes = record {
    count = omega (arith, r.count);
    others = λ q low below used other. r.others q low below other used;
    head = r.head;
    listed = λ l. let x = r.listed l in (x.0, omega (arith, x.1));
  };
}

pub dropped : (owner current p s : ℕ) (content : List ℕ) (before after : List (List ℕ)) → 0 < p → p < length before
    → IsSlotsPage owner (page_at before p) → HasLess owner s (page_at before p) content
    → IsLeft current p content before after → IsDropped owner current p s before after
dropped owner current p s content before after above below i h (inl (is, keeps)) =
    subst (IsDropped owner current p s before) (sym is) (written owner current p s content before above below i h keeps)
dropped owner current p s content before after above below i h (inr (r, aside, none)) =
    released owner current p s content before after h r aside none

-- where the next chunk stands, as it was read
pub names : (pages : List (List ℕ)) (p s at : ℕ) (page : List ℕ) (n t : ℕ) → page ≡ page_at pages p
    → at ≡ chunk_place s page → n ≡ number_at at page → t ≡ short_at (at + 4) page
    → Names (page_at pages p) s (record { page = n; slot = t })
names pages p s at page n t is place x y =
    let here : Names page s (record { page = n; slot = t }) = (
      x ∙ ap (λ (a : ℕ). number_at a page) place,
      y ∙ ap (λ (a : ℕ). short_at (a + 4) page) place,
    ) in
    subst (λ (z : List ℕ). Names z s (record { page = n; slot = t })) is here
