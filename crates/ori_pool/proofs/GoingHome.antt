-- Pages of a hand go home, one after the other.
use Rattle.std.proofs.Common.{◌≡◌, ◌≢◌, ℕ, suc, ◌<◌, ◌%◌, Bool, true, false, not, ◌&&◌, ◌==◌, cond}
use Rattle.std.proofs.Common.{List, [], ◌∷◌, length, get_or, set, Option, Some, None, Ok, Err, nat_eq, is_some}
use Rattle.std.proofs.Common.{refl, sym, ap, subst, ◌∙◌, arith, true≢false, Result}
use Rattle.std.proofs.lemmas.Bool.{eqb-true, eqb-false, eq-eqb}
use Rattle.std.proofs.lemmas.Map.{length-set_value}
use Rattle.std.specs.Map.{lookup, set_value}
use Rattle.ori_bytes.specs.declared.limits.TheConstants.{PARTITIONS}
use Rattle.ori_volume.specs.Disk.{Files}
use Rattle.ori_volume.specs.Story.{Story, Tells}
use Rattle.ori_volume.proofs.Known.{tells_then}
use Rattle.ori_part.specs.declared.place.Place.{Place}
use Rattle.ori_part.specs.Parts.{PartData, place_at, has_place, marked, written, is_unwritten, first_unwritten}
use Rattle.ori_part.specs.Parts.{unwritten_page}
use Rattle.ori_part.specs.Parts as part
use Rattle.ori_part.proofs.Places.{first_within}
use Rattle.ori_cover.specs.Dirty.{Dirty, DirtyPage, unwritten, IsMarked}
use Rattle.ori_cover.specs.Reading.{WritesHomeRead}
use Rattle.ori_cover.specs.Steps.{WritesHome}
use Rattle.ori_cover.specs.Views.{View, on_disk, as_read}
use Rattle.ori_cover.proofs.Views.{Laws, HomeWrites, disk_laws, read_laws, disk_writes, read_writes}
use Rattle.ori_pool.specs.Held.{dirty_place, dirty_of, held_at, placed_in, dirty_held, dirty_with}
use Rattle.ori_pool.specs.Held.{HasOwn, AreOwn, KeepsPlaces, SamePlaces, IsSent, AreSent, HoldsAll, unsent_in}
use Rattle.ori_pool.specs.Finishes.{AreWritten}
use Rattle.ori_pool.specs.Sends.{FlushesFirst, Sent, Sends}
use Rattle.ori_pool.proofs.Held.{set_here, set_other, has_dirty, marks}
use Rattle.ori_pool.proofs.Holding.{changes, slots, now_here}

-- ---- the first unwritten page of a partition

-- its mark leaves fewer places from the first unwritten one on
rises : (page : ℕ) (w : Place) → is_unwritten w ≡ false → (es : List (ℕ × Place)) (place : Place)
    → unwritten_page es ≡ Some page → lookup (nat_eq page) es ≡ Some place → is_unwritten place ≡ true
    → first_unwritten es < first_unwritten (set_value (nat_eq page) es w)
rises page w bare [] place first found is = cc
rises page w bare (e ∷ es) place first found is =
    let on = rises page w bare es place in
    let more = set_value (nat_eq page) es w in
    (elim (is_unwritten e.1) as (λ u. is_unwritten e.1 ≡ u → cond u (Some e.0) (unwritten_page es) ≡ Some page
    → cond u 0 (suc (first_unwritten es)) < first_unwritten (cond (nat_eq page e.0) ((e.0, w) ∷ es) (e ∷ more))) [
      | true ↦ λ u at.
          let same : page ≡ e.0 = cc in
          subst (λ (t : Bool). 0 < first_unwritten (cond t ((e.0, w) ∷ es) (e ∷ more))) (sym (eq-eqb page e.0 same))
          (subst (λ (b : Bool). 0 < cond b 0 (suc (first_unwritten es))) (sym bare) (omega arith))
      | false ↦ λ u at.
          (elim (nat_eq page e.0) as (λ t. cond t (Some e.1) (lookup (nat_eq page) es) ≡ Some place
          → suc (first_unwritten es) < first_unwritten (cond t ((e.0, w) ∷ es) (e ∷ more))) [
            | true ↦ λ here.
                let same : e.1 ≡ place = cc in
                absurd (true≢false (sym is ∙ sym (ap (λ (p : Place). is_unwritten p) same) ∙ u))
            | false ↦ λ there.
                let less = on at there is in
                subst (λ (b : Bool). suc (first_unwritten es) < cond b 0 (suc (first_unwritten more))) (sym u)
                (omega (arith, less))
          ]) found
    ]) refl first

pub sends_fewer : (old new : PartData) (page : ℕ) (content : List ℕ) → unwritten_page old.places ≡ Some page
    → place_at old page ≡ Some (part.unwritten content) → new ≡ marked old page content
    → unsent_in (Some new) < unsent_in (Some old)
sends_fewer old new page content first found is =
    let less = rises page (written content) refl old.places (part.unwritten content) first found refl in
    let long = length-set_value (nat_eq page) old.places (written content) in
    let within = first_within (marked old page content).places in
    subst (λ (p : PartData). unsent_in (Some p) < unsent_in (Some old)) (sym is) (omega (arith, less, long, within))

-- where there is none, each dirty page is written
all_sent : (page : ℕ) (es : List (ℕ × Place)) → unwritten_page es ≡ None → (place : Place)
    → lookup (nat_eq page) es ≡ Some place → is_unwritten place ≡ false
all_sent page [] none place found = cc
all_sent page (e ∷ es) none place found =
    (elim (is_unwritten e.1) as (λ u. is_unwritten e.1 ≡ u → cond u (Some e.0) (unwritten_page es) ≡ None
    → is_unwritten place ≡ false) [
      | true ↦ λ u some. cc
      | false ↦ λ u on.
          (elim (nat_eq page e.0) as (λ t. cond t (Some e.1) (lookup (nat_eq page) es) ≡ Some place
          → is_unwritten place ≡ false) [
            | true ↦ λ here.
                let same : e.1 ≡ place = cc in sym (ap (λ (p : Place). is_unwritten p) same) ∙ u
            | false ↦ λ there. all_sent page es on place there
          ]) found
    ]) refl none

abbrev mark_of : Option DirtyPage → Bool
mark_of None = true
mark_of (Some d) = d.written

written_of : (o : Option Place) (d : DirtyPage) → dirty_place o ≡ Some d
    → ((place : Place) → o ≡ Some place → is_unwritten place ≡ false) → d.written ≡ true
written_of None d is sent = cc
written_of (Some place) d is sent = by place.content place.written is (sent place refl)
  where
    by : (content : Option (List ℕ)) (w : Bool)
        → (let p : Place = record { content = content; written = w } in dirty_place (Some p)) ≡ Some d
        → (is_some content && not w) ≡ false → d.written ≡ true
    by None w here bare = cc
    by (Some c) true here bare = sym (ap mark_of here)
    by (Some c) false here bare = absurd (true≢false bare)

sent_part : (o : Option PartData) (other : Option DirtyPage) (page : ℕ) (d : DirtyPage) → is_some o ≡ true → IsSent o
    → dirty_held other o page ≡ Some d → d.written ≡ true
sent_part None other page d there sent is = cc
sent_part (Some p) other page d there sent is =
    written_of (place_at p page) d is (λ place found. all_sent page p.places sent place found)

pub sent_written : (hand : List (Option PartData)) (others : Dirty) → HoldsAll hand → AreSent PARTITIONS hand
    → AreWritten (dirty_with others hand)
sent_written hand others all sent page d is =
    sent_part (held_at hand page) (others page) page d (all page)
    (sent (page % PARTITIONS) (omega arith)) is

-- ---- of the hand

module _ {S : Type 0} (view : View S) (laws : Laws view) where
  -- nothing is sent
  sends_none : (old new : List (Option PartData)) (x : S)
      → ((k : ℕ) → get_or new k None ≡ get_or old k None) → Sends view old new x x
  sends_none old new x same others log pages records stands = record {
    moments = laws.holds_at pages x;
    stands = laws.stands_same log records (dirty_with others old) (dirty_with others new) pages x
        (λ q. ap (λ o. dirty_held (others q) o q) (same (q % PARTITIONS))) stands;
  }

  -- one after the other
  sends_more : (old mid new : List (Option PartData)) (x y z : S) → Sends view old mid x y → Sends view mid new y z
      → Sends view old new x z
  sends_more old mid new x y z first second others log pages records stands =
      let a = first others log pages records stands in
      let b = second others log pages records a.stands in
      record { moments = laws.holds_then pages x y z a.moments b.moments; stands = b.stands }

  pub told_more : (old mid new : List (Option PartData)) (a b c : Option S) → Tells (Sends view old mid) a b
      → Tells (Sends view mid new) b c → Tells (Sends view old new) a c
  told_more old mid new a b c first second =
      tells_then (Sends view old mid) (Sends view mid new) (Sends view old new) a b c
      (λ x y z one two. sends_more old mid new x y z one two) first second

-- by another kind of write
flushes_map : {S E : Type 0} (W U : ℕ → List ℕ → Result (Unit {0}) E → S → S → Type 0)
    → ((page : ℕ) (content : List ℕ) (r : Result (Unit {0}) E) (x y : S) → W page content r x y → U page content r x y)
    → (old new : PartData) (result : Result Bool E) (x y : S) → FlushesFirst W old new result x y
    → FlushesFirst U old new result x y
flushes_map W U step old new (Ok false) x y flushed = flushed
flushes_map W U step old new (Ok true) x y (page, content, dirty, is, writes) =
    (page, content, dirty, is, step page content (Ok tt) x y writes)
flushes_map W U step old new (Err fault) x y (page, content, dirty, is, writes) =
    (page, content, dirty, is, step page content (Err fault) x y writes)

module _ (hand : List (Option PartData)) (i : ℕ) (low : i < length hand) (taken : Option PartData)
    (old now : PartData) (was : get_or hand i None ≡ Some old) where
  abbrev made : List (Option PartData)
  made = set (set hand i taken) i (Some now)

  module _ (own : HasOwn i (Some old)) (page : ℕ) (content : List ℕ)
      (dirty : dirty_of old page ≡ Some (unwritten content)) (others : Dirty) where
    of_part : page % PARTITIONS ≡ i
    of_part = (own page (has_dirty (place_at old page) (unwritten content) dirty)).0

    here_dirty : dirty_with others hand page ≡ Some (unwritten content)
    here_dirty = ap (λ o. dirty_held (others page) o page) (ap (λ k. get_or hand k None) of_part ∙ was) ∙ dirty

    hand_marked : now ≡ marked old page content
        → IsMarked page content (dirty_with others hand) (dirty_with others made)
    hand_marked is =
        let m = marks old page content dirty in
        record {
          dirty = here_dirty;
          here = ap (λ o. dirty_held (others page) o page)
              (ap (λ k. get_or made k None) of_part ∙ now_here hand i low taken old now was)
              ∙ ap (λ p. dirty_of p page) is ∙ m.here;
          others = changes hand i low taken old now was
              (λ q a b. q ≢ page → dirty_held (others q) b q ≡ dirty_held (others q) a q)
              (λ q same other. ap (λ p. dirty_of p q) is ∙ m.others q other)
              (λ q o apart other. refl);
        }

  hand_same : now ≡ old → (others : Dirty) (q : ℕ) → dirty_with others made q ≡ dirty_with others hand q
  hand_same is others = changes hand i low taken old now was
      (λ q a b. dirty_held (others q) b q ≡ dirty_held (others q) a q)
      (λ q same. ap (λ p. dirty_of p q) is) (λ q o apart. refl)

  module _ {S : Type 0} (view : View S) (laws : Laws view) where
    sends_first : {E : Type 0} (result : Result Bool E) (x y : S) → HasOwn i (Some old)
        → FlushesFirst {E = E} (HomeWrites view) old now result x y → Sends view hand made x y
    sends_first (Ok false) x y own flushed others log pages records stands =
        subst (λ (s : S). Sent view log (dirty_with others made) pages records x s) (sym flushed.1) (record {
          moments = laws.holds_at pages x;
          stands = laws.stands_same log records (dirty_with others hand) (dirty_with others made) pages x
              (hand_same flushed.0 others) stands;
        })
    sends_first (Ok true) x y own (page, content, dirty, is, writes) others log pages records stands =
        let w = writes log records (dirty_with others hand) pages (here_dirty own page content dirty others) stands in
        record {
          moments = w.moments;
          stands = w.done (dirty_with others made) (hand_marked own page content dirty others is);
        }
    sends_first (Err fault) x y own (page, content, dirty, is, writes) others log pages records stands =
        let w = writes log records (dirty_with others hand) pages (here_dirty own page content dirty others) stands in
        record {
          moments = w.moments;
          stands = laws.stands_same log records (dirty_with others hand) (dirty_with others made) pages y
              (hand_same is others) w.stays;
        }

  pub sends_disk : {E : Type 0} (result : Result Bool E) (x y : Story) → HasOwn i (Some old)
      → FlushesFirst {E = E} WritesHome old now result x y → Sends on_disk hand made x y
  sends_disk {E} result x y own flushed = sends_first on_disk disk_laws result x y own
      (flushes_map {E = E} WritesHome (HomeWrites on_disk) disk_writes old now result x y flushed)

  pub sends_read : {E : Type 0} (result : Result Bool E) (x y : Files) → HasOwn i (Some old)
      → FlushesFirst {E = E} WritesHomeRead old now result x y → Sends as_read hand made x y
  sends_read {E} result x y own flushed = sends_first as_read read_laws result x y own
      (flushes_map {E = E} WritesHomeRead (HomeWrites as_read) read_writes old now result x y flushed)

  pub keeps_slots : ((page : ℕ) → has_place now page ≡ has_place old page) → SamePlaces hand made
  keeps_slots places = slots hand i low taken old now was (λ k a b. KeepsPlaces a b)
      (record { held = refl; places = places }) (λ k o apart. record { held = refl; places = λ page. refl })

-- ---- places

pub same_places : (old new : List (Option PartData)) → ((k : ℕ) → get_or new k None ≡ get_or old k None)
    → SamePlaces old new
same_places old new same k = record {
  held = ap is_some (same k);
  places = λ page. ap (λ o. placed_in o page) (same k);
}

pub places_more : (old mid new : List (Option PartData)) → SamePlaces old mid → SamePlaces mid new
    → SamePlaces old new
places_more old mid new first second k = record {
  held = (second k).held ∙ (first k).held;
  places = λ page. (second k).places page ∙ (first k).places page;
}

pub own_on : (old new : List (Option PartData)) → SamePlaces old new → AreOwn old → AreOwn new
own_on old new same own k page there = own k page (sym ((same k).places page) ∙ there)

pub all_on : (old new : List (Option PartData)) → SamePlaces old new → HoldsAll old → HoldsAll new
all_on old new same all q = (same (q % PARTITIONS)).held ∙ all q

pub marked_places : (old new : PartData) (page : ℕ) (place : Place) (content : List ℕ)
    → place_at old page ≡ Some place → new ≡ marked old page content → (q : ℕ) → has_place new q ≡ has_place old q
marked_places old new page place content found is q =
    ap (λ p. has_place p q) is
    ∙ (elim (q == page) as (λ b. (q == page) ≡ b → has_place (marked old page content) q ≡ has_place old q) [
      | true ↦ λ same.
          let e : q ≡ page = eqb-true q page same in
          ap (λ k. has_place (marked old page content) k) e
          ∙ ap is_some (set_here page (written content) old.places (ap is_some found))
          ∙ sym (ap is_some found) ∙ ap (has_place old) (sym e)
      | false ↦ λ other. ap is_some (set_other page (written content) q (λ e. eqb-false q page other e) old.places)
    ]) refl
