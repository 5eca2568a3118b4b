-- What a slots page says after a chunk has come or gone.
use Rattle.std.proofs.Common.{◌≡◌, ◌≢◌, ℕ, ◌+◌, ◌-◌, ◌*◌, ◌^◌, ◌<◌, ◌≤◌, ◌==◌, Bool, true, false}
use Rattle.std.proofs.Common.{List, ◌++◌, length, take, drop, replicate, get_or, refl, sym, ap, subst, ◌∙◌}
use Rattle.std.proofs.Common.{◌⊎◌, inl, inr, true≢false, arith}
use Rattle.std.specs.Int.{w16, w32, to_be_bytes, from_be_bytes}
use Rattle.std.proofs.lemmas.Nat.{from_be_bytes-to_be_bytes_2, from_be_bytes-to_be_bytes_4}
use Rattle.std.proofs.lemmas.Bool.{and_from, and_parts, cases_lt, cases_eq, eq-eqb, lt-ltb, le-leb, leb-true, ltb-true}
use Rattle.std.proofs.lemmas.List.{length-append, take-take, drop-take, drop-drop}
use Rattle.std.proofs.lemmas.List.{take-replicate, drop-replicate, length-replicate, get_or-take, take-append-drop}
use Rattle.std.proofs.Math.Seq.{take-append_seam}
use Rattle.ori_bytes.specs.declared.limits.TheConstants.{PAGE_BYTES, SLOTS_KIND}
use Rattle.ori_page.specs.Pages.{filled, page_head, owner_of, kind_of, number_at}
use Rattle.ori_posmap.specs.Bytes.{patched}
use Rattle.ori_posmap.proofs.Owners.{patched_length}
use Rattle.ori_cluster.specs.declared.chunk.Link.{Link}
use Rattle.ori_cluster.specs.Slots.{short_at, slot_count, used_end, slot_place, chunk_place, Chunk, chunk_on, is_slots}
use Rattle.ori_cluster.specs.Slots.{has_chunk, IsSlotsPage, chunk_bytes, KeepsChunk, HasMore, HasLess, IsBare, IsLone}
use Rattle.ori_cluster.specs.Slots.{bare_front}
use Rattle.ori_cluster.proofs.Windows.{window, behind, before, there, inner, inner_same, two, four}

-- ---- chunks that stay

short_same : (at : ℕ) (x y : List ℕ) → window at 2 x ≡ window at 2 y → short_at at x ≡ short_at at y
short_same at x y same = sym (two (drop at x)) ∙ ap (from_be_bytes w16) same ∙ two (drop at y)

first_same : (b n m : ℕ) (x y : List ℕ) → m ≤ n → window b n x ≡ window b n y → window b m x ≡ window b m y
first_same b n m x y low same =
    sym (take-take m n (drop b x) low) ∙ ap (take m) same ∙ take-take m n (drop b y) low

abbrev chunk : ℕ → ℕ → List ℕ → Chunk
chunk page slot bytes = record { page = page; slot = slot; bytes = bytes }

chunk_is : (p s q t : ℕ) (x y : List ℕ) → p ≡ q → s ≡ t → x ≡ y → chunk p s x ≡ chunk q t y
chunk_is p s q t x y a b c =
    ap (λ (z : ℕ). chunk z s x) a ∙ ap (λ (z : ℕ). chunk q z x) b ∙ ap (λ (z : List ℕ). chunk q t z) c

-- two pages with the same bytes from a place on have the same chunk there
length_same : (at n : ℕ) (x y : List ℕ) → 8 ≤ n → window at n x ≡ window at n y
    → short_at (at + 6) x ≡ short_at (at + 6) y
length_same at n x y head same =
    short_same (at + 6) x y (inner_same at n 6 2 x y (omega (arith, head)) same)

chunk_same : (at n : ℕ) (x y : List ℕ) → 8 + short_at (at + 6) y ≤ n → window at n x ≡ window at n y
    → chunk_on at x ≡ chunk_on at y
chunk_same at n x y low same =
    let long = length_same at n x y (omega (arith, low)) same in
    let page : number_at at x ≡ number_at at y
    = sym (four (drop at x)) ∙ ap (from_be_bytes w32) (first_same at n 4 x y (omega (arith, low)) same)
    ∙ four (drop at y) in
    let slot = short_same (at + 4) x y (inner_same at n 4 2 x y (omega (arith, low)) same) in
    let bytes : window (at + 8) (short_at (at + 6) x) x ≡ window (at + 8) (short_at (at + 6) y) y
    = ap (λ (k : ℕ). window (at + 8) k x) long
    ∙ inner_same at n 8 (short_at (at + 6) y) x y (omega (arith, low)) same in
    chunk_is _ _ _ _ _ _ page slot bytes

-- what a chunk says of its page
record Stands (s : ℕ) (page : List ℕ) : Type 0 where
  slot : s < slot_count page
  above : 16 ≤ chunk_place s page
  below : chunk_place s page + 8 + short_at (chunk_place s page + 6) page ≤ used_end page

stands : (s : ℕ) (page : List ℕ) → has_chunk s page ≡ true → Stands s page
stands s page h =
    let x = and_parts _ _ h in
    let y = and_parts _ _ x.0 in
    record { slot = ltb-true _ _ y.0; above = leb-true _ _ y.1; below = leb-true _ _ x.1 }

has : (s : ℕ) (page : List ℕ) → Stands s page → has_chunk s page ≡ true
has s page x = and_from _ _ (and_from _ _ (lt-ltb _ _ x.slot) (le-leb _ _ x.above)) (le-leb _ _ x.below)

not_has : (s : ℕ) (page : List ℕ) → (Stands s page → ⊥) → has_chunk s page ≡ false
not_has s page none = not_true (has_chunk s page) (λ h. none (stands s page h))
  where
    not_true : (b : Bool) → (b ≡ true → ⊥) → b ≡ false
    not_true true none = absurd (none refl)
    not_true false none = refl

pub none_low : (s : ℕ) (page : List ℕ) → chunk_place s page < 16 → has_chunk s page ≡ false
none_low s page low = not_has s page (λ x. absurd (omega (arith, low, x.above)))

pub none_past : (s : ℕ) (page : List ℕ) → slot_count page ≤ s → has_chunk s page ≡ false
none_past s page past = not_has s page (λ x. absurd (omega (arith, past, x.slot)))

-- A slot whose chunk stands where it stood, with the same bytes.
record Stays (s : ℕ) (old new : List ℕ) : Type 0 where
  count : s < slot_count new
  used : used_end old ≤ used_end new
  place : chunk_place s new ≡ chunk_place s old
  bytes : Stands s old → window (chunk_place s old) (used_end old - chunk_place s old) new
      ≡ window (chunk_place s old) (used_end old - chunk_place s old) old

stays_same : (s : ℕ) (old new : List ℕ) → Stays s old new → Stands s old
    → chunk_on (chunk_place s new) new ≡ chunk_on (chunk_place s old) old
stays_same s old new k x =
    ap (λ (at : ℕ). chunk_on at new) k.place
    ∙ chunk_same (chunk_place s old) (used_end old - chunk_place s old) new old (omega (arith, x.below)) (k.bytes x)

stays_stands : (s : ℕ) (old new : List ℕ) → Stays s old new → Stands s old → Stands s new
stays_stands s old new k x =
    let long : short_at (chunk_place s new + 6) new ≡ short_at (chunk_place s old + 6) old
    = ap (λ (at : ℕ). short_at (at + 6) new) k.place
    ∙ length_same (chunk_place s old) (used_end old - chunk_place s old) new old (omega (arith, x.below)) (k.bytes x)
    in
    record {
      slot = k.count;
      above = omega (arith, x.above, k.place);
      below = omega (arith, x.below, k.place, k.used, long);
    }

keeps : (owner s : ℕ) (old new : List ℕ) → IsSlotsPage owner old → s < slot_count old → Stays s old new
    → KeepsChunk s old new
keeps owner s old new i low k = record {
  has = by_place (cases_lt (chunk_place s old) 16);
  says = λ h. stays_same s old new k (stands s old h);
}
  where
    by_place : (chunk_place s old < 16) ⊎ (16 ≤ chunk_place s old) → has_chunk s new ≡ has_chunk s old
    by_place (inl under) =
        none_low s new (omega (arith, under, k.place)) ∙ sym (none_low s old under)
    by_place (inr over) =
        let h = i.chunks s low (λ e. absurd (omega (arith, e, over))) in
        has s new (stays_stands s old new k (stands s old h)) ∙ sym h

keeps_none : (s : ℕ) (old new : List ℕ) → slot_count old ≤ s → slot_count new ≤ s → KeepsChunk s old new
keeps_none s old new a b = record {
  has = none_past s new b ∙ sym (none_past s old a);
  says = λ h. absurd (true≢false (sym h ∙ none_past s old a));
}

-- ---- a chunk that goes

-- what a slots page says in numbers
record Numbers (owner : ℕ) (page : List ℕ) : Type 0 where
  owned : (owner_of page == owner) ≡ true
  kind : (kind_of page == SLOTS_KIND) ≡ true
  above : 16 ≤ used_end page
  room : used_end page + 2 * slot_count page ≤ PAGE_BYTES

numbers : (owner : ℕ) (page : List ℕ) → is_slots owner page ≡ true → Numbers owner page
numbers owner page h =
    let x = and_parts _ _ h in
    let y = and_parts _ _ x.0 in
    let z = and_parts _ _ y.0 in
    record { owned = z.0; kind = z.1; above = leb-true _ _ y.1; room = leb-true _ _ x.1 }

owner_same : (x y : List ℕ) → take 8 x ≡ take 8 y → owner_of x ≡ owner_of y
owner_same x y same =
    sym (four x) ∙ ap (from_be_bytes w32) (first_same 0 8 4 x y (omega arith) same) ∙ four y

kind_same : (x y : List ℕ) → take 8 x ≡ take 8 y → kind_of x ≡ kind_of y
kind_same x y same =
    sym (get_or-take 8 x 4 0 (omega arith)) ∙ ap (λ (z : List ℕ). get_or z 4 0) same ∙ get_or-take 8 y 4 0 (omega arith)

is_slots_still : (owner : ℕ) (old new : List ℕ) → Numbers owner old → take 8 new ≡ take 8 old → 16 ≤ used_end new
    → used_end new + 2 * slot_count new ≤ PAGE_BYTES → is_slots owner new ≡ true
is_slots_still owner old new n same above room =
    and_from _ _ (and_from _ _ (and_from _ _ (ap (λ (z : ℕ). z == owner) (owner_same new old same) ∙ n.owned)
    (ap (λ (z : ℕ). z == SLOTS_KIND) (kind_same new old same) ∙ n.kind)) (le-leb _ _ above)) (le-leb _ _ room)

abbrev without : ℕ → List ℕ → List ℕ
without s page = patched (slot_place s) (to_be_bytes w16 0) page

-- the bytes before a slot's number
front_less : (s b n : ℕ) (page : List ℕ) → length page ≡ PAGE_BYTES → s < slot_count page
    → used_end page + 2 * slot_count page ≤ PAGE_BYTES → b + n + 2 * slot_count page ≤ PAGE_BYTES
    → window b n (without s page) ≡ window b n page
front_less s b n page long low room past =
    before (slot_place s) b n (to_be_bytes w16 0) page (omega (arith, low, past)) (omega (arith, long, low, room))

less_place : (owner s r : ℕ) (page : List ℕ) → IsSlotsPage owner page → Stands s page → Numbers owner page
    → r < slot_count page → r ≢ s → (r < s) ⊎ (s ≤ r) → chunk_place r (without s page) ≡ chunk_place r page
less_place owner s r page i x n low other (inl under) =
    ap (from_be_bytes w16) (behind (slot_place s) (slot_place r) (to_be_bytes w16 0) page
    (omega (arith, under, x.slot, n.room)) (omega (arith, i.long, x.slot, n.room)))
less_place owner s r page i x n low other (inr over) =
    short_same (slot_place r) (without s page) page (before (slot_place s) (slot_place r) 2 (to_be_bytes w16 0) page
    (omega (arith, over, other, low, n.room)) (omega (arith, i.long, x.slot, n.room)))

less_keeps : (owner s r : ℕ) (page : List ℕ) → IsSlotsPage owner page → Stands s page → Numbers owner page
    → slot_count (without s page) ≡ slot_count page → used_end (without s page) ≡ used_end page → r ≢ s
    → (r < slot_count page) ⊎ (slot_count page ≤ r) → KeepsChunk r page (without s page)
less_keeps owner s r page i x n count used other (inr past) =
    keeps_none r page (without s page) past (omega (arith, past, count))
less_keeps owner s r page i x n count used other (inl low) =
    keeps owner r page (without s page) i low (record {
      count = omega (arith, low, count);
      used = omega (arith, used);
      place = less_place owner s r page i x n low other (cases_lt r s);
      bytes = λ y. front_less s (chunk_place r page) (used_end page - chunk_place r page) page i.long x.slot n.room
          (omega (arith, y.below, n.room));
    })

-- a page whose other slots keep their chunks names no chunk that isn't there
still : (owner r : ℕ) (old new : List ℕ) → IsSlotsPage owner old → r < slot_count old
    → chunk_place r new ≡ chunk_place r old → KeepsChunk r old new → chunk_place r new ≢ 0 → has_chunk r new ≡ true
still owner r old new i low place k some = k.has ∙ i.chunks r low (λ e. some (place ∙ e))

abbrev zeros_on : ℕ → ℕ → List ℕ → Type 0
zeros_on count used page = window used (PAGE_BYTES - 2 * count - used) page
    ≡ replicate (PAGE_BYTES - 2 * count - used) 0

abbrev head_on : ℕ → ℕ → ℕ → List ℕ
head_on owner count used = page_head owner SLOTS_KIND ++ to_be_bytes w16 count ++ to_be_bytes w16 used
    ++ to_be_bytes w32 0

-- a slots page, of its numbers
slots_page : (owner count used : ℕ) (page : List ℕ) → length page ≡ PAGE_BYTES → is_slots owner page ≡ true
    → slot_count page ≡ count → used_end page ≡ used → take 16 page ≡ head_on owner count used
    → zeros_on count used page
    → ((s : ℕ) → s < slot_count page → chunk_place s page ≢ 0 → has_chunk s page ≡ true) → IsSlotsPage owner page
slots_page owner count used page long slots c u head zeros chunks = record {
  long = long;
  slots = slots;
  head = head ∙ ap (λ (k : ℕ). head_on owner k used) (sym c) ∙ ap (head_on owner (slot_count page)) (sym u);
  zeros = subst (λ (k : ℕ). zeros_on k (used_end page) page) (sym c)
      (subst (λ (k : ℕ). zeros_on count k page) (sym u) zeros);
  chunks = chunks;
}

-- the slots of a page that has lost a chunk
less_chunks : (owner s r : ℕ) (page : List ℕ) → IsSlotsPage owner page → Stands s page → Numbers owner page
    → slot_count (without s page) ≡ slot_count page → used_end (without s page) ≡ used_end page
    → chunk_place s (without s page) ≡ 0 → r < slot_count page → (r ≡ s) ⊎ (r ≡ s → ⊥)
    → chunk_place r (without s page) ≢ 0 → has_chunk r (without s page) ≡ true
less_chunks owner s r page i x n count used gone low (inl is) some =
    absurd (some (ap (λ (k : ℕ). chunk_place k (without s page)) is ∙ gone))
less_chunks owner s r page i x n count used gone low (inr other) some =
    still owner r page (without s page) i low (less_place owner s r page i x n low other (cases_lt r s))
    (less_keeps owner s r page i x n count used other (inl low)) some

pub less : (owner s : ℕ) (page : List ℕ) → IsSlotsPage owner page → has_chunk s page ≡ true
    → HasLess owner s page (without s page)
less owner s page i h =
    let x = stands s page h in
    let n = numbers owner page i.slots in
    let new = without s page in
    let head : take 16 new ≡ take 16 page
    = front_less s 0 16 page i.long x.slot n.room (omega (arith, n.above, n.room)) in
    let count : slot_count new ≡ slot_count page
    = short_same 8 new page (front_less s 8 2 page i.long x.slot n.room (omega (arith, n.above, n.room))) in
    let used : used_end new ≡ used_end page
    = short_same 10 new page (front_less s 10 2 page i.long x.slot n.room (omega (arith, n.above, n.room))) in
    let gone : chunk_place s new ≡ 0
    = ap (from_be_bytes w16) (there (slot_place s) (to_be_bytes w16 0) page (omega (arith, i.long))) in
    record {
      slots = slots_page owner (slot_count page) (used_end page) new
          (patched_length (slot_place s) (to_be_bytes w16 0) page (omega (arith, i.long, x.slot, n.room)) ∙ i.long)
          (is_slots_still owner page new n (first_same 0 16 8 new page (omega arith) head)
          (omega (arith, used, n.above)) (omega (arith, used, count, n.room)))
          count used (head ∙ i.head)
          (front_less s (used_end page) (PAGE_BYTES - 2 * slot_count page - used_end page) page i.long x.slot n.room
          (omega (arith, n.room)) ∙ i.zeros)
          (λ r low some. less_chunks owner s r page i x n count used gone (omega (arith, low, count)) (cases_eq r s)
          some);
      count = count;
      used = used;
      gone = none_low s new (omega (arith, gone));
      others = λ r other. less_keeps owner s r page i x n count used other (cases_lt r (slot_count page));
    }

-- ---- a chunk that comes

abbrev with_bytes : Link → List ℕ → List ℕ → List ℕ
with_bytes next bytes page = patched (used_end page) (chunk_bytes next bytes) page

abbrev with_slot : Link → List ℕ → List ℕ → List ℕ
with_slot next bytes page =
    patched (slot_place (slot_count page)) (to_be_bytes w16 (used_end page)) (with_bytes next bytes page)

abbrev counts : ℕ → ℕ → List ℕ
counts count used = to_be_bytes w16 count ++ to_be_bytes w16 used

abbrev with_chunk : Link → List ℕ → List ℕ → List ℕ
with_chunk next bytes page = patched 8 (counts (slot_count page + 1) (used_end page + 8 + length bytes))
    (with_slot next bytes page)

-- a chunk that has room on a slots page
record Room (owner : ℕ) (next : Link) (bytes page : List ℕ) : Type 0 where
  number : next.page < 2 ^ 32
  slot : next.slot < 2 ^ 16
  is : IsSlotsPage owner page
  room : used_end page + 8 + length bytes + 2 * (slot_count page + 1) ≤ PAGE_BYTES
  above : 16 ≤ used_end page
  first : length (with_bytes next bytes page) ≡ PAGE_BYTES
  second : length (with_slot next bytes page) ≡ PAGE_BYTES
  third : length (with_chunk next bytes page) ≡ PAGE_BYTES

pub chunk_length : (next : Link) (bytes : List ℕ) → length (chunk_bytes next bytes) ≡ 8 + length bytes
chunk_length next bytes =
    length-append (to_be_bytes w32 next.page ++ to_be_bytes w16 next.slot ++ to_be_bytes w16 (length bytes)) bytes

has_place : (owner : ℕ) (next : Link) (bytes page : List ℕ) → next.page < 2 ^ 32 → next.slot < 2 ^ 16
    → IsSlotsPage owner page → used_end page + 8 + length bytes + 2 * (slot_count page + 1) ≤ PAGE_BYTES
    → Room owner next bytes page
has_place owner next bytes page p s i room =
    let first : length (with_bytes next bytes page) ≡ PAGE_BYTES
    = patched_length (used_end page) (chunk_bytes next bytes) page
    (omega (arith, i.long, room, chunk_length next bytes)) ∙ i.long in
    let second : length (with_slot next bytes page) ≡ PAGE_BYTES
    = patched_length (slot_place (slot_count page)) (to_be_bytes w16 (used_end page)) (with_bytes next bytes page)
    (omega (arith, first, room)) ∙ first in
    let third : length (with_chunk next bytes page) ≡ PAGE_BYTES
    = patched_length 8 (counts (slot_count page + 1) (used_end page + 8 + length bytes)) (with_slot next bytes page)
    (omega (arith, second)) ∙ second in
    record {
      number = p;
      slot = s;
      is = i;
      room = room;
      above = (numbers owner page i.slots).above;
      first = first;
      second = second;
      third = third;
    }

-- what stands behind the counts
from_counts : (owner : ℕ) (next : Link) (bytes page : List ℕ) (b : ℕ) → Room owner next bytes page → 12 ≤ b
    → drop b (with_chunk next bytes page) ≡ drop b (with_slot next bytes page)
from_counts owner next bytes page b r past =
    behind 8 b (counts (slot_count page + 1) (used_end page + 8 + length bytes)) (with_slot next bytes page)
    (omega (arith, past)) (omega (arith, r.second))

-- the bytes between the counts and the new slot
to_slot : (owner : ℕ) (next : Link) (bytes page : List ℕ) (b n : ℕ) → Room owner next bytes page → 12 ≤ b
    → b + n + 2 * (slot_count page + 1) ≤ PAGE_BYTES
    → window b n (with_chunk next bytes page) ≡ window b n (with_bytes next bytes page)
to_slot owner next bytes page b n r past low =
    ap (take n) (from_counts owner next bytes page b r past)
    ∙ before (slot_place (slot_count page)) b n (to_be_bytes w16 (used_end page)) (with_bytes next bytes page)
    (omega (arith, low)) (omega (arith, r.first, r.room))

-- the old chunks
to_end : (owner : ℕ) (next : Link) (bytes page : List ℕ) (b n : ℕ) → Room owner next bytes page → 12 ≤ b
    → b + n ≤ used_end page → window b n (with_chunk next bytes page) ≡ window b n page
to_end owner next bytes page b n r past low =
    to_slot owner next bytes page b n r past (omega (arith, low, r.room))
    ∙ before (used_end page) b n (chunk_bytes next bytes) page low
    (omega (arith, r.is.long, r.room, chunk_length next bytes))

-- the zeros between the chunks and the slots
past_end : (owner : ℕ) (next : Link) (bytes page : List ℕ) (b n : ℕ) → Room owner next bytes page
    → used_end page + 8 + length bytes ≤ b → b + n + 2 * (slot_count page + 1) ≤ PAGE_BYTES
    → window b n (with_chunk next bytes page) ≡ window b n page
past_end owner next bytes page b n r past low =
    to_slot owner next bytes page b n r (omega (arith, past, r.above)) low
    ∙ ap (take n) (behind (used_end page) b (chunk_bytes next bytes) page (omega (arith, past, chunk_length next bytes))
    (omega (arith, r.is.long, r.room, chunk_length next bytes)))

-- the old slots
old_slots : (owner : ℕ) (next : Link) (bytes page : List ℕ) (s : ℕ) → Room owner next bytes page
    → s < slot_count page → 2 * (s + 1) ≤ PAGE_BYTES → chunk_place s (with_chunk next bytes page) ≡ chunk_place s page
old_slots owner next bytes page s r low fits =
    ap (from_be_bytes w16) (from_counts owner next bytes page (slot_place s) r (omega (arith, low, r.room, r.above))
    ∙ behind (slot_place (slot_count page)) (slot_place s) (to_be_bytes w16 (used_end page))
    (with_bytes next bytes page) (omega (arith, low, r.room)) (omega (arith, r.first, r.room))
    ∙ behind (used_end page) (slot_place s) (chunk_bytes next bytes) page
    (omega (arith, low, r.room, chunk_length next bytes))
    (omega (arith, r.is.long, r.room, chunk_length next bytes)))

-- the first 16 bytes
front_is : (owner : ℕ) (next : Link) (bytes page : List ℕ) → Room owner next bytes page
    → take 8 (with_chunk next bytes page) ≡ take 8 page
front_is owner next bytes page r =
    before 8 0 8 (counts (slot_count page + 1) (used_end page + 8 + length bytes)) (with_slot next bytes page)
    (omega arith) (omega (arith, r.second))
    ∙ before (slot_place (slot_count page)) 0 8 (to_be_bytes w16 (used_end page)) (with_bytes next bytes page)
    (omega (arith, r.room, r.above)) (omega (arith, r.first, r.room))
    ∙ before (used_end page) 0 8 (chunk_bytes next bytes) page (omega (arith, r.above))
    (omega (arith, r.is.long, r.room, chunk_length next bytes))

counts_are : (owner : ℕ) (next : Link) (bytes page : List ℕ) → Room owner next bytes page
    → drop 8 (with_chunk next bytes page) ≡ counts (slot_count page + 1) (used_end page + 8 + length bytes)
    ++ drop 12 (with_slot next bytes page)
counts_are owner next bytes page r =
    there 8 (counts (slot_count page + 1) (used_end page + 8 + length bytes)) (with_slot next bytes page)
    (omega (arith, r.second))

count_is : (owner : ℕ) (next : Link) (bytes page : List ℕ) → Room owner next bytes page
    → slot_count (with_chunk next bytes page) ≡ slot_count page + 1
count_is owner next bytes page r =
    ap (from_be_bytes w16) (counts_are owner next bytes page r)
    ∙ from_be_bytes-to_be_bytes_2 (slot_count page + 1) (omega (arith, r.room))

used_is : (owner : ℕ) (next : Link) (bytes page : List ℕ) → Room owner next bytes page
    → used_end (with_chunk next bytes page) ≡ used_end page + 8 + length bytes
used_is owner next bytes page r =
    ap (from_be_bytes w16) (sym (drop-drop 2 8 (with_chunk next bytes page))
    ∙ ap (drop 2) (counts_are owner next bytes page r))
    ∙ from_be_bytes-to_be_bytes_2 (used_end page + 8 + length bytes) (omega (arith, r.room))

place_is : (owner : ℕ) (next : Link) (bytes page : List ℕ) → Room owner next bytes page
    → chunk_place (slot_count page) (with_chunk next bytes page) ≡ used_end page
place_is owner next bytes page r =
    ap (from_be_bytes w16) (from_counts owner next bytes page (slot_place (slot_count page)) r
    (omega (arith, r.room, r.above))
    ∙ there (slot_place (slot_count page)) (to_be_bytes w16 (used_end page)) (with_bytes next bytes page)
    (omega (arith, r.first))) ∙ from_be_bytes-to_be_bytes_2 (used_end page) (omega (arith, r.room))

-- the chunk as it is written
written_at : (at : ℕ) (next : Link) (bytes page : List ℕ) → next.page < 2 ^ 32 → next.slot < 2 ^ 16
    → length bytes < 2 ^ 16 → at ≤ length page
    → (chunk_on at (patched at (chunk_bytes next bytes) page) ≡ chunk next.page next.slot bytes)
    × (short_at (at + 6) (patched at (chunk_bytes next bytes) page) ≡ length bytes)
written_at at next bytes page p s few low =
    let new = patched at (chunk_bytes next bytes) page in
    let rest = drop (at + length (chunk_bytes next bytes)) page in
    let here : drop at new ≡ chunk_bytes next bytes ++ rest = there at (chunk_bytes next bytes) page low in
    let page_is : number_at at new ≡ next.page
    = ap (from_be_bytes w32) here ∙ from_be_bytes-to_be_bytes_4 next.page p in
    let slot_is : short_at (at + 4) new ≡ next.slot
    = ap (from_be_bytes w16) (sym (drop-drop 4 at new) ∙ ap (drop 4) here)
    ∙ from_be_bytes-to_be_bytes_2 next.slot s in
    let long_is : short_at (at + 6) new ≡ length bytes
    = ap (from_be_bytes w16) (sym (drop-drop 6 at new) ∙ ap (drop 6) here)
    ∙ from_be_bytes-to_be_bytes_2 (length bytes) few in
    let bytes_are : window (at + 8) (short_at (at + 6) new) new ≡ bytes
    = ap (λ (k : ℕ). window (at + 8) k new) long_is
    ∙ ap (take (length bytes)) (sym (drop-drop 8 at new) ∙ ap (drop 8) here)
    ∙ take-append_seam bytes rest in
    (chunk_is _ _ _ _ _ _ page_is slot_is bytes_are, long_is)

-- the new chunk on the page
new_bytes : (owner : ℕ) (next : Link) (bytes page : List ℕ) → Room owner next bytes page
    → window (used_end page) (8 + length bytes) (with_chunk next bytes page)
    ≡ window (used_end page) (8 + length bytes) (with_bytes next bytes page)
new_bytes owner next bytes page r =
    to_slot owner next bytes page (used_end page) (8 + length bytes) r (omega (arith, r.above)) (omega (arith, r.room))

new_says : (owner : ℕ) (next : Link) (bytes page : List ℕ) → Room owner next bytes page
    → (chunk_on (used_end page) (with_chunk next bytes page) ≡ chunk next.page next.slot bytes)
    × (short_at (used_end page + 6) (with_chunk next bytes page) ≡ length bytes)
new_says owner next bytes page r =
    let w = written_at (used_end page) next bytes page r.number r.slot (omega (arith, r.room))
    (omega (arith, r.is.long, r.room)) in
    let same = new_bytes owner next bytes page r in (
      chunk_same (used_end page) (8 + length bytes) (with_chunk next bytes page) (with_bytes next bytes page)
          (omega (arith, w.1)) same ∙ w.0,
      length_same (used_end page) (8 + length bytes) (with_chunk next bytes page) (with_bytes next bytes page)
          (omega arith) same ∙ w.1,
    )

new_stands : (owner : ℕ) (next : Link) (bytes page : List ℕ) → Room owner next bytes page
    → Stands (slot_count page) (with_chunk next bytes page)
new_stands owner next bytes page r =
    let at = place_is owner next bytes page r in
    let long : short_at (chunk_place (slot_count page) (with_chunk next bytes page) + 6) (with_chunk next bytes page)
    ≡ length bytes
    = ap (λ (k : ℕ). short_at (k + 6) (with_chunk next bytes page)) at ∙ (new_says owner next bytes page r).1 in
    record {
      slot = omega (arith, count_is owner next bytes page r);
      above = omega (arith, at, r.above);
      below = omega (arith, at, long, used_is owner next bytes page r);
    }

more_keeps : (owner : ℕ) (next : Link) (bytes page : List ℕ) (s : ℕ) → Room owner next bytes page
    → s ≢ slot_count page → (s < slot_count page) ⊎ (slot_count page ≤ s)
    → KeepsChunk s page (with_chunk next bytes page)
more_keeps owner next bytes page s r other (inr past) =
    keeps_none s page (with_chunk next bytes page) past (omega (arith, past, other, count_is owner next bytes page r))
more_keeps owner next bytes page s r other (inl low) =
    keeps owner s page (with_chunk next bytes page) r.is low (record {
      count = omega (arith, low, count_is owner next bytes page r);
      used = omega (arith, used_is owner next bytes page r);
      place = old_slots owner next bytes page s r low (omega (arith, low, r.room));
      bytes = λ y. to_end owner next bytes page (chunk_place s page) (used_end page - chunk_place s page) r
          (omega (arith, y.above)) (omega (arith, y.below));
    })

more_chunks : (owner : ℕ) (next : Link) (bytes page : List ℕ) (s : ℕ) → Room owner next bytes page
    → s < slot_count page + 1 → (s ≡ slot_count page) ⊎ (s ≡ slot_count page → ⊥)
    → chunk_place s (with_chunk next bytes page) ≢ 0 → has_chunk s (with_chunk next bytes page) ≡ true
more_chunks owner next bytes page s r low (inl is) some =
    ap (λ (k : ℕ). has_chunk k (with_chunk next bytes page)) is
    ∙ has (slot_count page) (with_chunk next bytes page) (new_stands owner next bytes page r)
more_chunks owner next bytes page s r low (inr other) some =
    let under : s < slot_count page = omega (arith, low, other) in
    still owner s page (with_chunk next bytes page) r.is under
    (old_slots owner next bytes page s r under (omega (arith, under, r.room)))
    (more_keeps owner next bytes page s r other (inl under)) some

-- the first 16 bytes are those of its counts
more_head : (owner : ℕ) (next : Link) (bytes page : List ℕ) → Room owner next bytes page
    → take 16 (with_chunk next bytes page)
    ≡ head_on owner (slot_count page + 1) (used_end page + 8 + length bytes)
more_head owner next bytes page r =
    let new = with_chunk next bytes page in
    let c = counts (slot_count page + 1) (used_end page + 8 + length bytes) in
    let first : take 8 new ≡ page_head owner SLOTS_KIND
    = front_is owner next bytes page r ∙ sym (take-take 8 16 page (omega arith)) ∙ ap (take 8) r.is.head in
    let last : window 12 4 new ≡ to_be_bytes w32 0
    = to_end owner next bytes page 12 4 r (omega arith) (omega (arith, r.above))
    ∙ sym (drop-take 12 4 page) ∙ ap (drop 12) r.is.head in
    let middle : window 8 4 new ≡ c = ap (take 4) (counts_are owner next bytes page r) in
    sym (take-append-drop 8 (take 16 new))
    ∙ ap (λ (z : List ℕ). z ++ drop 8 (take 16 new)) (take-take 8 16 new (omega arith) ∙ first)
    ∙ ap (λ (z : List ℕ). page_head owner SLOTS_KIND ++ z) (drop-take 8 8 new
    ∙ sym (take-append-drop 4 (window 8 8 new))
    ∙ ap (λ (z : List ℕ). z ++ drop 4 (window 8 8 new)) (take-take 4 8 (drop 8 new) (omega arith) ∙ middle)
    ∙ ap (λ (z : List ℕ). c ++ z) (drop-take 4 4 (drop 8 new) ∙ ap (take 4) (drop-drop 4 8 new) ∙ last))

more_zeros : (owner : ℕ) (next : Link) (bytes page : List ℕ) → Room owner next bytes page
    → zeros_on (slot_count page + 1) (used_end page + 8 + length bytes) (with_chunk next bytes page)
more_zeros owner next bytes page r =
    let e = used_end page in
    let n = PAGE_BYTES - 2 * slot_count page - e in
    let k = PAGE_BYTES - 2 * (slot_count page + 1) - (e + 8 + length bytes) in
    past_end owner next bytes page (e + 8 + length bytes) k r (omega arith) (omega (arith, r.room))
    ∙ ap (λ (b : ℕ). window b k page) (omega arith)
    ∙ inner e n (8 + length bytes) k page (omega (arith, r.room))
    ∙ ap (window (8 + length bytes) k) r.is.zeros
    ∙ ap (take k) (drop-replicate (8 + length bytes) n 0)
    ∙ take-replicate k (n - (8 + length bytes)) 0 (omega (arith, r.room))

more : (owner : ℕ) (next : Link) (bytes page : List ℕ) → next.page < 2 ^ 32 → next.slot < 2 ^ 16
    → used_end page + 8 + length bytes + 2 * (slot_count page + 1) ≤ PAGE_BYTES → IsSlotsPage owner page
    → HasMore owner next bytes page (with_chunk next bytes page)
more owner next bytes page p s room i =
    let r = has_place owner next bytes page p s i room in
    let new = with_chunk next bytes page in
    let count = count_is owner next bytes page r in
    let used = used_is owner next bytes page r in
    record {
      slots = slots_page owner (slot_count page + 1) (used_end page + 8 + length bytes) new r.third
          (is_slots_still owner page new (numbers owner page i.slots) (front_is owner next bytes page r)
          (omega (arith, used, r.above)) (omega (arith, used, count, room)))
          count used (more_head owner next bytes page r) (more_zeros owner next bytes page r)
          (λ t low some. more_chunks owner next bytes page t r (omega (arith, low, count))
          (cases_eq t (slot_count page)) some);
      count = count;
      used = used;
      has = has (slot_count page) new (new_stands owner next bytes page r);
      says = ap (λ (at : ℕ). chunk_on at new) (place_is owner next bytes page r)
          ∙ (new_says owner next bytes page r).0;
      others = λ t other. more_keeps owner next bytes page t r other (cases_lt t (slot_count page));
    }

-- the same, write by write
pub more_after : (owner : ℕ) (next : Link) (bytes page : List ℕ) (count end : ℕ) (a b new : List ℕ)
    → next.page < 2 ^ 32 → next.slot < 2 ^ 16
    → used_end page + 8 + length bytes + 2 * (slot_count page + 1) ≤ PAGE_BYTES → IsSlotsPage owner page
    → count ≡ slot_count page → end ≡ used_end page → a ≡ patched end (chunk_bytes next bytes) page
    → b ≡ patched (slot_place count) (to_be_bytes w16 end) a
    → new ≡ patched 8 (counts (count + 1) (end + 8 + length bytes)) b → HasMore owner next bytes page new
more_after owner next bytes page count end a b new p s room i c e x y z =
    let l = length bytes in
    let k = chunk_bytes next bytes in
    let is : new ≡ with_chunk next bytes page
    = z ∙ ap (patched 8 (counts (count + 1) (end + 8 + l)))
    (y ∙ ap (patched (slot_place count) (to_be_bytes w16 end)) x)
    ∙ ap (λ (n : ℕ). patched 8 (counts (n + 1) (end + 8 + l))
    (patched (slot_place n) (to_be_bytes w16 end) (patched end k page))) c
    ∙ ap (λ (n : ℕ). patched 8 (counts (slot_count page + 1) (n + 8 + l))
    (patched (slot_place (slot_count page)) (to_be_bytes w16 n) (patched n k page))) e in
    subst (HasMore owner next bytes page) (sym is) (more owner next bytes page p s room i)

-- ---- a page without a chunk, and one with one

pub bare : (owner : ℕ) → owner < 2 ^ 32 → IsBare owner (filled (bare_front owner))
bare owner fits =
    let page = filled (bare_front owner) in
    let rest : List ℕ = replicate (PAGE_BYTES - 12) 0 in
    let owned : owner_of page ≡ owner = from_be_bytes-to_be_bytes_4 owner fits in
    let count : slot_count page ≡ 0 = refl in
    let used : used_end page ≡ 16 = refl in
    record {
      slots = slots_page owner 0 16 page (length-append (bare_front owner) rest
          ∙ ap (λ (n : ℕ). 12 + n) (length-replicate {A = ℕ} (PAGE_BYTES - 12) 0))
          (and_from _ _ (and_from _ _ (and_from _ _ (eq-eqb _ _ owned) refl)
          (le-leb 16 (used_end page) (omega (arith, used))))
          (le-leb (used_end page + 2 * slot_count page) PAGE_BYTES (omega (arith, used, count))))
          count used
          (ap (λ (z : List ℕ). bare_front owner ++ z) (take-replicate 4 (PAGE_BYTES - 12) 0 (omega arith)))
          (ap (take (PAGE_BYTES - 2 * 0 - 16)) (drop-replicate 4 (PAGE_BYTES - 12) 0)
          ∙ take-replicate (PAGE_BYTES - 2 * 0 - 16) (PAGE_BYTES - 12 - 4) 0 (omega arith))
          (λ s low some. absurd (omega (arith, low, count)));
      count = count;
      used = used;
    }

pub lone : (owner : ℕ) (next : Link) (bytes old page : List ℕ) → IsBare owner old → HasMore owner next bytes old page
    → IsLone owner next bytes page
lone owner next bytes old page b h = record {
  slots = h.slots;
  has = subst (λ (s : ℕ). has_chunk s page ≡ true) b.count h.has;
  says = subst (λ (s : ℕ). chunk_on (chunk_place s page) page ≡ chunk next.page next.slot bytes) b.count h.says;
  only = λ s other. none_past s page (omega (arith, other, h.count, b.count));
}

pub each_more : (P : ℕ → Type 0) (i : ℕ) → ((j : ℕ) → j < i → P j) → P i → (j : ℕ) → j < i + 1 → P j
each_more P i below here j high = by (cases_eq j i)
  where
    by : (j ≡ i) ⊎ (j ≡ i → ⊥) → P j
    by (inl same) = subst P (sym same) here
    by (inr other) = below j (omega (arith, other, high))
