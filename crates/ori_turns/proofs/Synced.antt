-- What work over a hand makes of the cache.
use Rattle.std.proofs.Common.{◌≡◌, ℕ, ◌%◌, ◌<◌, true, false, List, Option, Some, None}
use Rattle.std.proofs.Common.{IfSome, IfOk, is_some, Result, Ok, Err, OnOk, slice_index_or, refl, sym, ap, ◌∙◌, subst}
use Rattle.std.proofs.Common.{cond, arith, ◌≢◌, ⊎_elim}
use Rattle.std.proofs.lemmas.Bool.{cases_eq}
use Rattle.ori_bytes.specs.declared.limits.TheConstants.{PARTITIONS}
use Rattle.ori_volume.specs.declared.failed.Failed.{Failed}
use Rattle.ori_volume.specs.Story.{Tells}
use Rattle.ori_volume.proofs.Known.{some_then, some_told, tells_both, tells_same}
use Rattle.std.specs.Option.{option_map}
use Rattle.std.specs.Result.{OnErr}
use Rattle.ori_part.specs.declared.place.Place.{Place}
use Rattle.ori_part.specs.Parts.{PartData, HoldsNoMore, place_at}
use Rattle.ori_cover.specs.Dirty.{Dirty, DirtyPage, AreSettled, settled_page}
use Rattle.ori_pool.specs.Held.{dirty_of, dirty_with, dirty_held, HoldsAll, placed_in, dirty_place, KeepsPlaces}
use Rattle.ori_pool.specs.Held.{HasOwn, HasNoMore, HaveNoMore, AreTended}
use Rattle.ori_pool.specs.declared.fault.TendFault.{TendFault}
use Rattle.ori_pool.specs.declared.fault.TendFault.TheVariants.{Fault, Halted, Busy}
use Rattle.ori_turns.specs.Seats.{Seat, Told, Last, IsTold, held_part, told_at, told_device, gave_device, took_device}
use Rattle.ori_turns.specs.Seats.{PartsStay}
use Rattle.ori_turns.specs.Caches.{Cache, AreOwn, IsPart, SameHeld, OnlyHeld}
use Rattle.ori_turns.specs.Hands.{EachHeld, HandIs, NoneWritten, IsHandOf, GivesParts, GaveParts, told_part_or}
use Rattle.ori_turns.specs.Hands.{PartsSettle}
use Rattle.ori_turns.specs.Flushes.{IfSynced}
use Rattle.ori_turns.proofs.Homes.{moved}
use Rattle.ori_turns.proofs.Marking.{part_stays}

abbrev pub Hand : Type 0
Hand = List (Option PartData)

-- ---- the cache, by what a hand holds dirty

module _ (cache : Cache) (hand : Hand) where
  -- the dirty pages are those of the hand's partitions, and those of the others
  pub dirty_same : HandIs cache hand → (q : ℕ) → dirty_with cache.dirty hand q ≡ cache.dirty q
  dirty_same is q = by (slice_index_or hand (q % PARTITIONS) None) refl
    where
      by : (o : Option PartData) → slice_index_or hand (q % PARTITIONS) None ≡ o
          → dirty_held (cache.dirty q) o q ≡ cache.dirty q
      by None e = refl
      by (Some part) e = sym ((is (q % PARTITIONS) part e).dirty q refl)

  -- of a partition that it holds
  pub dirty_here : (others : Dirty) (k : ℕ) (part : PartData) → slice_index_or hand k None ≡ Some part → (q : ℕ)
      → q % PARTITIONS ≡ k → dirty_with others hand q ≡ dirty_of part q
  dirty_here others k part is q same =
      ap (λ (o : Option PartData). dirty_held (others q) o q) (ap (λ j. slice_index_or hand j None) same ∙ is)

  -- and of one that it doesn't hold
  pub dirty_there : (others : Dirty) (q : ℕ) → slice_index_or hand (q % PARTITIONS) None ≡ None
      → dirty_with others hand q ≡ others q
  dirty_there others q none = ap (λ (o : Option PartData). dirty_held (others q) o q) none

pub none_is : (o : Option PartData) (part : PartData) → o ≡ None → o ≡ Some part → ⊥
none_is o part none some = cc

-- a partition that the hand has now it had
pub was_there : (a b : Option PartData) → HasNoMore a b → (part : PartData) → b ≡ Some part
    → (was : PartData) × (a ≡ Some was) × HoldsNoMore was part
was_there None b gone part is = absurd (none_is b part gone is)
was_there (Some was) None never part is = absurd never
was_there (Some was) (Some now) fewer part is =
    let same : now ≡ part = cc in (was, refl, subst (HoldsNoMore was) same fewer)

-- the cache with the dirty pages of the hand as it is now
abbrev pub with_hand : Cache → Hand → Cache
with_hand cache hand = moved cache (dirty_with cache.dirty hand)

pub hand_now : (cache : Cache) (old new : Hand) → HandIs cache old → HaveNoMore old new
    → HandIs (with_hand cache new) new
hand_now cache old new is fewer k part here =
    let was = was_there (slice_index_or old k None) (slice_index_or new k None) (fewer k) part here in
    let before : IsPart cache k was.0 = is k was.0 was.1 in
    record {
      own = λ q l holds. before.own q l (was.2 q l holds);
      within = λ q l holds. before.within q l (was.2 q l holds);
      contents = λ q l holds. before.contents q l (was.2 q l holds);
      dirty = λ q same. dirty_here cache new cache.dirty k part here q same;
    }

-- ---- what a handle changes so is of partitions that it holds

pub none_then : (a b : Option PartData) → is_some a ≡ is_some b → a ≡ None → b ≡ None
none_then None None same none = refl
none_then None (Some part) same none = cc
none_then (Some held) b same none = cc

pub only_hand : {D : Type 0} (seat : Seat D) (cache : Cache) (hand : Hand) → IsHandOf seat hand
    → OnlyHeld seat cache (with_hand cache hand)
only_hand seat cache hand held = record {
  same = λ other. record { pages = refl; doubt = refl; records = refl };
  count = omega arith;
  pages = λ q lt free. refl;
  dirty = λ q free. dirty_there cache hand cache.dirty q
      (none_then (held_part seat (q % PARTITIONS)) (slice_index_or hand (q % PARTITIONS) None)
      (held (q % PARTITIONS)) free);
}

-- another handle leaves a hand
pub hand_stays : {D : Type 0} (seat : Seat D) (hand : Hand) → seat.parts ≡ hand → (c now : Cache)
    → SameHeld seat c now → HandIs c hand → HandIs now hand
hand_stays seat hand mine c now same is k part here =
    part_stays seat k part (ap (λ (l : Hand). slice_index_or l k None) mine ∙ here) c now same (is k part here)

-- ---- the sync

none_written : (o : Option DirtyPage) (d : DirtyPage) → settled_page o ≡ Some d → d.written ≡ false
none_written None d is = cc
none_written (Some e) d is =
    (elim e.written as (λ b. e.written ≡ b → cond b None (Some e) ≡ Some d → d.written ≡ false) [
      | true ↦ λ w h. cc
      | false ↦ λ w h. let same : e ≡ d = cc in sym (ap (λ (x : DirtyPage). x.written) same) ∙ w
    ]) refl is

module _ (cache : Cache) (old new : Hand) (is : HandIs cache old)
    (settled : (others : Dirty) → AreSettled (dirty_with others old) (dirty_with others new)) where
  pub are_settled : AreSettled cache.dirty (dirty_with cache.dirty new)
  are_settled q = settled cache.dirty q ∙ ap settled_page (dirty_same cache old is q)

  pub settled_none : NoneWritten (dirty_with cache.dirty new)
  settled_none q d some = none_written (cache.dirty q) d (sym (are_settled q) ∙ some)

-- ---- the places

own_kept : (a b : Option PartData) (k : ℕ) → KeepsPlaces a b → ((p : PartData) → a ≡ Some p → AreOwn k p)
    → (part : PartData) → b ≡ Some part → AreOwn k part
own_kept None b k kept own part is page there =
    absurd (cc (sym (ap is_some is) ∙ kept.held))
own_kept (Some p) b k kept own part is page there =
    own p refl page (sym (kept.places page) ∙ ap (λ o. placed_in o page) is ∙ there)

pub each_kept : (old new : Hand) → AreTended old new → EachHeld AreOwn old → EachHeld AreOwn new
each_kept old new kept own k part is = own_kept (slice_index_or old k None) (slice_index_or new k None) k
    (kept k).places (own k) part is

-- a hand has those that it had
pub held_kept : {D : Type 0} (seat : Seat D) (old new : Hand) → AreTended old new → seat.parts ≡ old
    → IsHandOf seat new
held_kept seat old new kept is k =
    ap (λ (l : Hand). is_some (slice_index_or l k None)) is ∙ sym (kept k).places.held

pub no_more : (old new : Hand) → AreTended old new → HaveNoMore old new
no_more old new kept k = (kept k).contents

-- ---- what is told of all partitions

dirty_there_is : (o : Option Place) (d : DirtyPage) → dirty_place o ≡ Some d → is_some o ≡ true
dirty_there_is None d is = cc
dirty_there_is (Some place) d is = refl

-- this holds of each dirty page
abbrev pub EachDirty : (DirtyPage → Type 0) → Dirty → Type 0
EachDirty R dirty = (page : ℕ) (d : DirtyPage) → dirty page ≡ Some d → R d

-- what holds of each dirty page of a hand holds of those of each partition that it has
pub part_each : (R : DirtyPage → Type 0) (hand : Hand) (k : ℕ) (part : PartData) → EachHeld AreOwn hand
    → ((others : Dirty) → EachDirty R (dirty_with others hand)) → slice_index_or hand k None ≡ Some part
    → EachDirty R (dirty_of part)
part_each R hand k part own each is q d some =
    let same : q % PARTITIONS ≡ k = (own k part is q (dirty_there_is (place_at part q) d some)).0 in
    each (λ page. None) q d
    (ap (λ (o : Option PartData). dirty_held None o q) (ap (λ j. slice_index_or hand j None) same ∙ is) ∙ some)

part_at : (o : Option PartData) → is_some o ≡ true → (part : PartData) × (o ≡ Some part)
part_at None there = cc
part_at (Some part) there = (part, refl)

each_at : (R : DirtyPage → Type 0) (hand : Hand) → HoldsAll hand → EachHeld AreOwn hand
    → ((others : Dirty) → EachDirty R (dirty_with others hand)) → (k : ℕ) → k < PARTITIONS → (old : PartData)
    → EachDirty R (dirty_of (told_part_or (slice_index_or hand k None) old))
each_at R hand all own each k low old =
    let at : k % PARTITIONS ≡ k = omega (arith, low) in
    let there = part_at (slice_index_or hand k None)
    (subst (λ j. is_some (slice_index_or hand j None) ≡ true) at (all k)) in
    subst (λ (o : Option PartData). EachDirty R (dirty_of (told_part_or o old))) (sym there.1)
    (part_each R hand k there.0 own each there.1)

module _ {D : Type 0} (R : DirtyPage → Type 0) (hand : Hand) (all : HoldsAll hand) (own : EachHeld AreOwn hand)
    (each : (others : Dirty) → EachDirty R (dirty_with others hand)) where
  told_all : (o p : Option (Told D)) → Tells (GivesParts (λ k. k < PARTITIONS) hand) o p
      → IfSome p (λ (told : Told D). (k : ℕ) → k < PARTITIONS → EachDirty R (dirty_of (told_at told k)))
  told_all None p gave = subst (λ (o : Option (Told D)). IfSome o (λ (told : Told D). (k : ℕ) → k < PARTITIONS
      → EachDirty R (dirty_of (told_at told k)))) (sym gave) tt
  told_all (Some t) p gave = subst (λ (o : Option (Told D)). IfSome o (λ (told : Told D). (k : ℕ) → k < PARTITIONS
      → EachDirty R (dirty_of (told_at told k)))) (sym gave.1)
      (λ k low. subst (λ (x : PartData). EachDirty R (dirty_of x)) (sym (gave.2.given k low))
      (each_at R hand all own each k low (told_at t k)))

  -- so it is told once they are given back
  pub told_each : (a b : Seat D) → GaveParts (λ k. k < PARTITIONS) hand a b
      → IsTold (λ told. (k : ℕ) → k < PARTITIONS → EachDirty R (dirty_of (told_at told k))) b
  told_each a b gave = told_all a.told b.told gave.told

-- ---- the device as it is told

device_kept : {D : Type 0} (G : ℕ → Type 0) (hand : Hand) (x : D) (o p : Option (Told D))
    → Tells (GivesParts G hand) o p → IfSome o (λ (told : Told D). x ≡ told.device)
    → IfSome p (λ (told : Told D). x ≡ told.device)
device_kept {D} G hand x None p gave is =
    subst (λ (o : Option (Told D)). IfSome o (λ (told : Told D). x ≡ told.device)) (sym gave) tt
device_kept {D} G hand x (Some t) p gave is =
    subst (λ (o : Option (Told D)). IfSome o (λ (told : Told D). x ≡ told.device)) (sym gave.1)
    (is ∙ sym gave.2.device)

pub told_kept : {D : Type 0} (G : ℕ → Type 0) (hand : Hand) (x : D) (a b : Seat D) → GaveParts G hand a b
    → IsTold (λ told. x ≡ told.device) a → IsTold (λ told. x ≡ told.device) b
told_kept G hand x a b gave is = device_kept G hand x a.told b.told gave.told is

given_device : {D : Type 0} (given : D) (o : Option (Told D))
    → IfSome (option_map (told_device given) o) (λ (told : Told D). given ≡ told.device)
given_device given None = tt
given_device given (Some t) = refl

pub told_given : {D : Type 0} (taken given : D) (last : Last) (a b : Seat D)
    → b ≡ gave_device given last (took_device taken a) → IsTold (λ told. given ≡ told.device) b
told_given taken given last a b gave = subst (IsTold (λ told. given ≡ told.device)) (sym gave)
    (given_device given a.told)

-- the partitions stay
parts_given : {D : Type 0} (given : D) (o : Option (Told D)) (P : Told D → Type 0)
    → ((t : Told D) → P t → P (told_device given t)) → IfSome o P → IfSome (option_map (told_device given) o) P
parts_given given None P step holds = tt
parts_given given (Some t) P step holds = step t holds

pub told_parts : {D : Type 0} (taken given : D) (last : Last) (a b : Seat D) (hand : Hand)
    → b ≡ gave_device given last (took_device taken a)
    → IsTold (λ told. EachHeld (λ k part. part ≡ told_at told k) hand) a
    → IsTold (λ told. EachHeld (λ k part. part ≡ told_at told k) hand) b
told_parts taken given last a b hand gave holds =
    subst (IsTold (λ told. EachHeld (λ k part. part ≡ told_at told k) hand)) (sym gave)
    (parts_given given a.told (λ told. EachHeld (λ k part. part ≡ told_at told k) hand) (λ t same. same) holds)

parts_stay : {D : Type 0} (given : D) (o : Option (Told D)) → Tells PartsStay o (option_map (told_device given) o)
parts_stay given None = refl
parts_stay given (Some t) = (told_device given t, refl, refl)

pub told_stay : {D : Type 0} (taken given : D) (last : Last) (a b : Seat D)
    → b ≡ gave_device given last (took_device taken a) → Tells PartsStay a.told b.told
told_stay taken given last a b gave =
    subst (λ (s : Seat _). Tells PartsStay a.told s.told) (sym gave) (parts_stay given a.told)

-- what is so of the device that is told is so once partitions are given back
device_so : {D : Type 0} (G : ℕ → Type 0) (hand : Hand) (P : D → Type 0) (o p : Option (Told D))
    → Tells (GivesParts G hand) o p → IfSome o (λ (told : Told D). P told.device)
    → IfSome p (λ (told : Told D). P told.device)
device_so {D} G hand P None p gave is =
    subst (λ (o : Option (Told D)). IfSome o (λ (told : Told D). P told.device)) (sym gave) tt
device_so {D} G hand P (Some t) p gave is =
    subst (λ (o : Option (Told D)). IfSome o (λ (told : Told D). P told.device)) (sym gave.1)
    (subst P (sym gave.2.device) is)

pub told_so : {D : Type 0} (G : ℕ → Type 0) (hand : Hand) (P : D → Type 0) (a b : Seat D) → GaveParts G hand a b
    → IsTold (λ told. P told.device) a → IsTold (λ told. P told.device) b
told_so G hand P a b gave is = device_so G hand P a.told b.told gave.told is

pub err_is : {T E : Type 0} (r : Result T E) (e : E) (P : Type 0) → r ≡ Err e → OnErr r P → P
err_is (Ok value) e P is holds = cc
err_is (Err fault) e P is holds = holds

pub ok_is : {T E : Type 0} (r : Result T E) (x : T) (P : Type 0) → r ≡ Ok x → OnOk r P → P
ok_is (Ok value) x P is holds = holds
ok_is (Err fault) x P is holds = cc

pub ok_so : {T E : Type 0} (r : Result T E) (P Q : T → Type 0) → ((x : T) → P x → Q x) → IfOk r P → IfOk r Q
ok_so (Ok value) P Q step holds = step value holds
ok_so (Err fault) P Q step holds = tt

pub told_stays : {D : Type 0} (a b : Seat D) → b.told ≡ a.told → Tells PartsStay a.told b.told
told_stays a b same = tells_same PartsStay a.told b.told (λ t. refl) same

-- ---- what each partition holds dirty is settled

no_place : (k : ℕ) (part : PartData) → AreOwn k part → (q : ℕ) → (q % PARTITIONS ≡ k → ⊥) → dirty_of part q ≡ None
no_place k part own q apart = by_dirty (dirty_of part q) refl
  where
    by_dirty : (o : Option DirtyPage) → dirty_of part q ≡ o → dirty_of part q ≡ None
    by_dirty None is = is
    by_dirty (Some d) is = absurd (apart (own q (dirty_there_is (place_at part q) d is)).0)

module _ (old new : Hand) (own_old : EachHeld AreOwn old) (own_new : EachHeld AreOwn new)
    (settled : (others : Dirty) → AreSettled (dirty_with others old) (dirty_with others new)) where
  held_is : (hand : Hand) (k : ℕ) (part : PartData) → slice_index_or hand k None ≡ Some part → (q : ℕ)
      → q % PARTITIONS ≡ k → dirty_with (λ page. None) hand q ≡ dirty_of part q
  held_is hand k part is q same =
      ap (λ (o : Option PartData). dirty_held None o q) (ap (λ j. slice_index_or hand j None) same ∙ is)

  part_settled : (k : ℕ) (was part : PartData) → slice_index_or old k None ≡ Some was
      → slice_index_or new k None ≡ Some part → AreSettled (dirty_of was) (dirty_of part)
  part_settled k was part is_was is_part q =
      ⊎_elim
      (λ (same : q % PARTITIONS ≡ k). sym (held_is new k part is_part q same) ∙ settled (λ page. None) q
      ∙ ap settled_page (held_is old k was is_was q same))
      (λ (apart : q % PARTITIONS ≢ k). no_place k part (own_new k part is_part) q apart
      ∙ sym (ap settled_page (no_place k was (own_old k was is_was) q apart)))
      (cases_eq (q % PARTITIONS) k)

  -- by what is told of them
  pub told_settled : {D : Type 0} (seat : Seat D)
      → ((k : ℕ) → is_some (slice_index_or old k None) ≡ is_some (slice_index_or new k None))
      → IsTold (λ told. EachHeld (λ k part. part ≡ told_at told k) old) seat
      → IsTold (λ told. EachHeld (λ k part. AreSettled (dirty_of (told_at told k)) (dirty_of part)) new) seat
  told_settled seat same told = some_then seat.told _ _
      (λ t each k part is.
      let was = part_at (slice_index_or old k None) (same k ∙ ap is_some is) in
      subst (λ (x : PartData). AreSettled (dirty_of x) (dirty_of part)) (each k was.0 was.1)
      (part_settled k was.0 part was.1 is)) told

-- once they are given back
pub gives_settled : {D : Type 0} (hand : Hand) → HoldsAll hand → (o p q : Option (Told D)) → Tells PartsStay o p
    → Tells (GivesParts (λ k. k < PARTITIONS) hand) p q
    → IfSome o (λ (t : Told D). EachHeld (λ k part. AreSettled (dirty_of (told_at t k)) (dirty_of part)) hand)
    → Tells PartsSettle o q
gives_settled {D} hand all o p q first second each =
    tells_both PartsStay (GivesParts (λ k. k < PARTITIONS) hand) PartsSettle o p q
    (λ t y u was then stay gives k low.
    let at : k % PARTITIONS ≡ k = omega (arith, low) in
    let there = part_at (slice_index_or hand k None)
    (subst (λ j. is_some (slice_index_or hand j None) ≡ true) at (all k)) in
    subst (λ (x : PartData). AreSettled (dirty_of (told_at t k)) (dirty_of x))
    (sym (gives.given k low ∙ ap (λ (h : Option PartData). told_part_or h (told_at y k)) there.1))
    (some_told (λ (x : Told D). EachHeld (λ j part. AreSettled (dirty_of (told_at x j)) (dirty_of part)) hand) o t was
    each k there.0 there.1))
    first second

pub synced_map : (r : Result (Unit {0}) TendFault) (P Q : Result (Unit {0}) Failed → Type 0)
    → ((done : Result (Unit {0}) Failed) → P done → Q done) → IfSynced r P → IfSynced r Q
synced_map (Ok value) P Q step holds = step (Ok tt) holds
synced_map (Err Fault) P Q step holds = step (Err (record {})) holds
synced_map (Err (Halted at_fault)) P Q step holds = tt
synced_map (Err (Busy turn)) P Q step holds = tt

pub ok_both : {T E : Type 0} (done : Result T E) (P Q R : Type 0) → (P → Q → R) → OnOk done P → OnOk done Q
    → OnOk done R
ok_both (Ok value) P Q R step p q = step p q
ok_both (Err fault) P Q R step p q = tt

-- ---- a hand's places, in the words of the device's half

pub pool_own : (hand : Hand) → EachHeld AreOwn hand → (k : ℕ) → HasOwn k (slice_index_or hand k None)
pool_own hand own k = by (slice_index_or hand k None) refl
  where
    by : (o : Option PartData) → slice_index_or hand k None ≡ o → HasOwn k o
    by None is = λ page there. cc
    by (Some part) is = own k part is

pub no_dirty : (o : Option DirtyPage) → ((d : DirtyPage) → o ≡ Some d → ⊥) → o ≡ None
no_dirty None never = refl
no_dirty (Some d) never = absurd (never d refl)

pub not_none : (o : Option DirtyPage) (d : DirtyPage) → o ≡ None → o ≡ Some d → ⊥
not_none o d none some = cc
