-- What a commit makes of the cache.
use Rattle.std.proofs.Common.{◌≡◌, ⊎_elim, ℕ, ◌%◌, ◌<◌, ◌++◌, Bool, true, true≢false, List, [], ◌∷◌, length, Option}
use Rattle.std.proofs.Common.{Some, None, IsSome, IfSome, IsErrOf, Result, Ok, Err, OnOk, OnErr, refl, sym, ap, ◌∙◌}
use Rattle.std.proofs.Common.{subst, arith, slice_index_or, inr}
use Rattle.ori_bytes.specs.declared.limits.TheConstants.{PARTITIONS}
use Rattle.ori_volume.specs.Disk.{Files}
use Rattle.ori_volume.specs.Runs.{EachImage}
use Rattle.ori_volume.specs.Story.{Story, Tells}
use Rattle.ori_volume.proofs.Known.{tells_same}
use Rattle.ori_volume.proofs.RunSteps.{run_begins}
use Rattle.ori_log.specs.Log.{ImageData, last_image}
use Rattle.ori_log.specs.declared.log.Log.{Log}
use Rattle.ori_part.specs.Parts.{Holds}
use Rattle.ori_page.specs.Spaces.{page_at}
use Rattle.ori_cover.specs.Dirty.{Dirty}
use Rattle.ori_cover.specs.Given.{ArePut, HoldsEither}
use Rattle.ori_cover.specs.Views.{View, on_disk, as_read}
use Rattle.ori_cover.proofs.Given.{image_named}
use Rattle.ori_cover.proofs.Moments.{covers_either, either_same, stands_holds}
use Rattle.ori_cover.proofs.Views.{Laws, disk_laws, read_laws}
use Rattle.ori_pool.specs.declared.fault.OpFault.{OpFault}
use Rattle.ori_pool.specs.declared.fault.OpFault.TheVariants.{Fault, Halted, Busy, NoMemory}
use Rattle.ori_pool.specs.Commits.{Commits, CommitsOn, Committed, doubt_of, records_after}
use Rattle.ori_pool.specs.Devices.{HaltsOp, is_due}
use Rattle.ori_pool.specs.declared.device.Device.{Device}
use Rattle.ori_pool.specs.Operating.{Operated}
use Rattle.ori_turns.specs.Works.{LogWork, StaysHalted, seen}
use Rattle.ori_pool.specs.Held.{dirty_with, HaveParts, HaveFrom, HaveNoMore}
use Rattle.ori_turns.specs.Seats.{Seat, held_part}
use Rattle.ori_turns.specs.Caches.{Cache, GivesCache, Opened, IsPart, OnlyHeld, SamePages}
use Rattle.ori_turns.specs.Hands.{HandIs, IsHandOf}
use Rattle.ori_turns.specs.Committed.{left_by, CommitsCache, LeavesNow, IsWhole, IfDone}
use Rattle.ori_turns.proofs.Marking.{only_same}
use Rattle.ori_turns.proofs.Started.{from_there}
use Rattle.ori_turns.proofs.Synced.{Hand, dirty_same, dirty_here, dirty_there, hand_now, none_then}
use Rattle.ori_turns.proofs.Wanted.{unnamed}

abbrev PageList : Type 0
PageList = List (List ℕ)

abbrev pub committed : {T : Type 0} → Result T OpFault → List ImageData → Bool → PageList → Cache → Hand → Cache
committed (Ok value) images due put cache new = record {
  pages = put;
  doubt = put;
  records = left_by due cache.records ++ images ∷ [];
  dirty = dirty_with cache.dirty new;
}
committed (Err why) images due put cache new = record {
  pages = cache.pages;
  doubt = doubt_of why cache.doubt put;
  records = records_after why (left_by due cache.records) cache.records;
  dirty = dirty_with cache.dirty new;
}

-- the log stands over the pages of the cache, or where it is halted they are covered
abbrev StateNow : {S : Type 0} → View S → Option ℕ → Log → Cache → S → Type 0
StateNow view None log c y = view.stands log c.records c.dirty c.pages y × (c.doubt ≡ c.pages)
StateNow view (Some at) log c y = view.covers c.dirty c.pages c.doubt c.records y

module _ (images : List ImageData) (due : Bool) (put : PageList) (cache : Cache) (old new : Hand)
    (is : HandIs cache old) (are_put : ArePut images cache.pages put) where
  module _ {S T : Type 0} (view : View S) (laws : Laws view) (m : Log) (halted : Option ℕ) (done : Result T OpFault)
      (x y : S) where
    abbrev Ends : Type 0
    Ends = Committed view m images (dirty_with cache.dirty new) cache.pages put (left_by due cache.records)
        cache.records halted done x y

    by_view : (l : Log) → due ≡ is_due l
        → CommitsOn view l m images (dirty_with cache.dirty old) (dirty_with cache.dirty new) halted done x y
        → view.stands l cache.records cache.dirty cache.pages x → Ends
    by_view l told commits stands =
        subst (λ (b : Bool). Committed view m images (dirty_with cache.dirty new) cache.pages put
        (left_by b cache.records) cache.records halted done x y) (sym told)
        (commits cache.pages put cache.records (laws.stands_same l cache.records cache.dirty
        (dirty_with cache.dirty old) cache.pages x (dirty_same cache old is) stands) are_put)

  state : {S T : Type 0} (view : View S) (laws : Laws view) (m : Log) (halted : Option ℕ) (done : Result T OpFault)
      (x y : S) (a b c : ℕ) (log : Option Log) → cache.doubt ≡ cache.pages → HaltsOp a b c log halted done
      → Ends view laws m halted done x y → StateNow view halted m (committed done images due put cache new) y
  state view laws m None (Ok value) x y a b c log sure halts ends = (ends.done, refl)
  state view laws m (Some at) (Ok value) x y a b c log sure halts ends = absurd (cc halts)
  state view laws m None (Err (Fault None)) x y a b c log sure halts ends = (ends.unhalted refl, sure)
  state view laws m (Some at) (Err (Fault None)) x y a b c log sure halts ends =
      subst (λ (doubt : PageList). view.covers (dirty_with cache.dirty new) cache.pages doubt cache.records y)
      (sym sure) ends.failed
  state view laws m None (Err (Fault (Some n))) x y a b c log sure halts ends = absurd (cc halts.0)
  state view laws m (Some at) (Err (Fault (Some n))) x y a b c log sure halts ends = ends.failed
  state view laws m halted (Err (Halted at)) x y a b c log sure halts ends = absurd halts
  state view laws m halted (Err (Busy turn)) x y a b c log sure halts ends = absurd halts
  state view laws m None (Err NoMemory) x y a b c log sure halts ends = (ends.unhalted refl, sure)
  state view laws m (Some at) (Err NoMemory) x y a b c log sure halts ends = absurd (cc halts)

  from_disk : (m : Log) (halted : Option ℕ) (y : Story) (g : Option Files) (now : Cache)
      → StateNow on_disk halted m now y → GivesCache (Some m) halted (Some y) g now
  from_disk m None y g now stays = record { stands = stays.0; sure = stays.1 }
  from_disk m (Some at) y g now stays = stays

  from_read : (m : Log) (halted : Option ℕ) (y : Files) (now : Cache)
      → StateNow as_read halted m now y → GivesCache (Some m) halted None (Some y) now
  from_read m None y now stays = record { stands = stays.0; sure = stays.1 }
  from_read m (Some at) y now stays = stays

  module _ {T : Type 0} (l : Log) (told_due : due ≡ is_due l) (halted : Option ℕ) (done : Result T OpFault)
      (a b c : ℕ) (halts : HaltsOp a b c (Some l) halted done) where
    abbrev Now : Cache
    Now = committed done images due put cache new

    pub commit_gives : (log : Option Log) (s t : Option Story) (f g : Option Files)
        → Tells (Commits on_disk (Some l) log old new images halted done) s t
        → Tells (Commits as_read (Some l) log old new images halted done) f g → Opened l cache s f
        → GivesCache log halted t g Now
    commit_gives None (Some x) t f g told read opened = absurd (told.2 cache.dirty)
    commit_gives None None t (Some x) g told read opened = absurd (read.2 cache.dirty)
    commit_gives None None t None g told read opened = absurd opened.stands
    commit_gives (Some m) (Some x) t f g told read opened =
        subst (λ (o : Option Story). GivesCache (Some m) halted o g Now) (sym told.1)
        (from_disk m halted told.0 g Now (state on_disk disk_laws m halted done x told.0 a b c (Some l) opened.sure
        halts (by_view on_disk disk_laws m halted done x told.0 l told_due (told.2 cache.dirty) opened.stands)))
    commit_gives (Some m) None t (Some x) g told read opened =
        subst (λ (o : Option Story). GivesCache (Some m) halted o g Now) (sym told)
        (subst (λ (o : Option Files). GivesCache (Some m) halted None o Now) (sym read.1)
        (from_read m halted read.0 Now (state as_read read_laws m halted done x read.0 a b c (Some l) opened.sure
        halts (by_view as_read read_laws m halted done x read.0 l told_due (read.2 cache.dirty) opened.stands))))
    commit_gives (Some m) None t None g told read opened = absurd opened.stands

    leaves : (m : Log) (x y : Story) → (IsErrOf done NoMemory → y ≡ x)
        → Ends on_disk disk_laws m halted done x y → LeavesNow cache.pages put done x y
    leaves m x y = by done halts
      where
        by : (r : Result T OpFault) → HaltsOp a b c (Some l) halted r → (IsErrOf r NoMemory → y ≡ x)
            → Ends on_disk disk_laws m halted r x y → LeavesNow cache.pages put r x y
        by (Ok value) h same ends = stands_holds m _ _ put y.now.disk ends.done
        by (Err (Fault None)) h same ends = λ image allowed. either_same cache.pages image
            (covers_either _ cache.pages cache.pages _ y.now.disk ends.failed image allowed)
        by (Err (Fault (Some n))) h same ends = covers_either _ cache.pages put _ y.now.disk ends.failed
        by (Err (Halted at)) h same ends = absurd h
        by (Err (Busy turn)) h same ends = absurd h
        by (Err NoMemory) h same ends = (
          same refl,
          λ image allowed. either_same cache.pages image
              (covers_either _ cache.pages cache.pages _ y.now.disk ends.failed image allowed),
        )

    -- at every moment of it each image holds the pages, or those of the operation
    pub commit_moments : (log : Option Log) (s t : Option Story) (f : Option Files)
        → Tells (Commits on_disk (Some l) log old new images halted done) s t → (IsErrOf done NoMemory → t ≡ s)
        → Opened l cache s f → Tells (IsWhole cache.pages put done) s t
    commit_moments None (Some x) t f told same opened = absurd (told.2 cache.dirty)
    commit_moments (Some m) (Some x) t f told same opened =
        let ends = by_view on_disk disk_laws m halted done x told.0 l told_due (told.2 cache.dirty) opened.stands in (
          told.0,
          told.1,
          record {
            moments = ends.moments;
            now = leaves m x told.0 (λ none. some_same told.0 x (sym told.1 ∙ same none)) ends;
          },
        )
      where
        some_same : (y x : Story) → Some y ≡ Some x → y ≡ x
        some_same y x same = cc
    commit_moments log None t f told same opened = told

-- ---- with the turns

module _ {D : Type 0} (seat : Seat D) (engine : seat.engine ≡ true) (images : List ImageData) (due : Bool)
    (put : PageList) (cache : Cache) (old new : Hand) (is : HandIs cache old) (mine : seat.parts ≡ old)
    (have : HaveParts old images) (held : IsHandOf seat new) (are_put : ArePut images cache.pages put) where
  hand_put : HaveFrom images old new → (now : Cache) → now.pages ≡ put → now.dirty ≡ dirty_with cache.dirty new
      → HandIs now new
  hand_put from now pages dirty k part here =
      let was = from_there images k (slice_index_or old k None) (slice_index_or new k None) (from k) part here in
      let before : IsPart cache k was.0 = is k was.0 was.1 in
      record {
        own = λ q l holds. ⊎_elim (λ (image : (q % PARTITIONS ≡ k) × (last_image q images ≡ Some l)). image.0)
            (λ (kept : (q % PARTITIONS ≡ k → last_image q images ≡ None) × Holds was.0 q l).
            before.own q l kept.1) (was.2 q l holds);
        within = λ q l holds. subst (λ (p : PageList). q < length p) (sym pages)
            (⊎_elim (λ (image : (q % PARTITIONS ≡ k) × (last_image q images ≡ Some l)).
            omega (arith, image_named q l images image.1, are_put.count))
            (λ (kept : (q % PARTITIONS ≡ k → last_image q images ≡ None) × Holds was.0 q l).
            omega (arith, before.within q l kept.1, are_put.count)) (was.2 q l holds));
        contents = λ q l holds. subst (λ (p : PageList). page_at p q ≡ l) (sym pages)
            (⊎_elim (λ (image : (q % PARTITIONS ≡ k) × (last_image q images ≡ Some l)). are_put.image q l image.1)
            (λ (kept : (q % PARTITIONS ≡ k → last_image q images ≡ None) × Holds was.0 q l).
            are_put.kept q (kept.0 (before.own q l kept.1)) ∙ before.contents q l kept.1) (was.2 q l holds));
        dirty = λ q same. ap (λ (d : Dirty). d q) dirty ∙ dirty_here cache new cache.dirty k part here q same;
      }

  hand_of : {T : Type 0} (done : Result T OpFault) → OnOk done (HaveFrom images old new)
      → OnErr done (HaveNoMore old new) → HandIs (committed done images due put cache new) new
  hand_of (Ok value) from fewer = hand_put from (committed (Ok value) images due put cache new) refl refl
  hand_of (Err why) from fewer = λ k part here. let p = hand_now cache old new is fewer k part here in
      record { own = p.own; within = p.within; contents = p.contents; dirty = p.dirty }

  dirty_free : (q : ℕ) → held_part seat (q % PARTITIONS) ≡ None → dirty_with cache.dirty new q ≡ cache.dirty q
  dirty_free q free = dirty_there cache new cache.dirty q
      (none_then (held_part seat (q % PARTITIONS)) (slice_index_or new (q % PARTITIONS) None)
      (held (q % PARTITIONS)) free)

  only_of : {T : Type 0} (done : Result T OpFault) → OnlyHeld seat cache (committed done images due put cache new)
  only_of (Ok value) = record {
    same = λ other. absurd (true≢false (sym engine ∙ other));
    count = omega (arith, are_put.count);
    pages = λ q lt free. are_put.kept q (unnamed images old have q
        (ap (λ (l : Hand). slice_index_or l (q % PARTITIONS) None) (sym mine) ∙ free));
    dirty = dirty_free;
  }
  only_of (Err why) = record {
    same = λ other. absurd (true≢false (sym engine ∙ other));
    count = omega arith;
    pages = λ q lt free. refl;
    dirty = dirty_free;
  }

  commits_of : {T : Type 0} (done : Result T OpFault)
      → CommitsCache images due put done cache (committed done images due put cache new)
  commits_of (Ok value) = record { pages = refl; sure = refl; records = refl }
  commits_of (Err why) = record { pages = refl; doubt = refl; records = refl }

  halted_now : {T : Type 0} (done : Result T OpFault) (at : ℕ) → done ≡ Err (Halted at)
      → CommitsCache images due put done cache cache
  halted_now done at stays = subst (λ (r : Result _ OpFault). CommitsCache images due put r cache cache) (sym stays)
      (record { pages = refl; doubt = refl; records = refl })

  abbrev After : {T : Type 0} → Result T OpFault → Option Log → Option ℕ → Option Story → Option Files → Type 0
  After done log halted t g = (now : Cache) × CommitsCache images due put done cache now × OnlyHeld seat cache now
      × GivesCache log halted t g now × HandIs now new

  pub after_commit : {T : Type 0} (done : Result T OpFault) (was log : Option Log) (halted halted_now : Option ℕ)
      (s t : Option Story) (f g : Option Files) (a b c : ℕ) → IsSome was → IfSome was (λ (l : Log). due ≡ is_due l)
      → (halted ≡ None → Tells (Commits on_disk was log old new images halted_now done) s t)
      → (halted ≡ None → Tells (Commits as_read was log old new images halted_now done) f g)
      → (halted ≡ None → HaltsOp a b c was halted_now done)
      → ((at : ℕ) → halted ≡ Some at → (done ≡ Err (Halted at))
      × (GivesCache was halted s f cache → GivesCache log halted_now t g cache) × (new ≡ old))
      → OnOk done (HaveFrom images old new) → OnErr done (HaveNoMore old new)
      → GivesCache was halted s f cache → After done log halted_now t g
  after_commit done None log halted now s t f g a b c some told_due told read halts stays from fewer gives =
      absurd (true≢false (sym some))
  after_commit done (Some l) log None now s t f g a b c some told_due told read halts stays from fewer gives = (
    committed done images due put cache new,
    commits_of done,
    only_of done,
    commit_gives images due put cache old new is are_put l told_due now done a b c (halts refl) log s t f g
        (told refl) (read refl) gives,
    hand_of done from fewer,
  )
  after_commit done (Some l) log (Some at) now s t f g a b c some told_due told read halts stays from fewer gives =
      let stay = stays at refl in (
        cache,
        halted_now done at stay.0,
        only_same seat cache,
        stay.1 gives,
        subst (HandIs cache) (sym stay.2) is,
      )

-- where it is halted nothing has changed
pub whole_of : {T : Type 0} (images : List ImageData) (due : Bool) (put : PageList) (cache : Cache) (old new : Hand)
    → HandIs cache old → ArePut images cache.pages put → (done : Result T OpFault) (was log : Option Log)
    (halted halted_now : Option ℕ) (s t : Option Story) (f : Option Files) (a b c : ℕ) → IsSome was
    → IfSome was (λ (l : Log). due ≡ is_due l)
    → (halted ≡ None → Tells (Commits on_disk was log old new images halted_now done) s t)
    → (halted ≡ None → HaltsOp a b c was halted_now done)
    → ((at : ℕ) → halted ≡ Some at → (done ≡ Err (Halted at)) × (t ≡ s)) → (IsErrOf done NoMemory → t ≡ s)
    → GivesCache was halted s f cache → Tells (IsWhole cache.pages put done) s t
whole_of images due put cache old new is are_put done None log halted now s t f a b c some told_due told halts stays
    same gives = absurd (true≢false (sym some))
whole_of images due put cache old new is are_put done (Some l) log None now s t f a b c some told_due told halts stays
    same gives =
    commit_moments images due put cache old new is are_put l told_due now done a b c (halts refl) log s t f (told refl)
    same gives
whole_of images due put cache old new is are_put done (Some l) log (Some at) now s t f a b c some told_due told halts
    stays same gives =
    let stay = stays at refl in
    subst (λ (r : Result _ OpFault). Tells (IsWhole cache.pages put r) s t) (sym stay.0)
    (tells_same (IsWhole cache.pages put (Err (Halted at))) s t
    (λ x. record { moments = run_begins (EachImage (HoldsEither cache.pages cache.pages)) x x refl; now = refl }) stay.1)

-- ---- what was answered

pub done_of : {T : Type 0} (done : Result T OpFault) (P : Result T OpFault → Type 0) → P done → IfDone done P
done_of (Ok value) P holds = holds
done_of (Err (Fault doubt)) P holds = holds
done_of (Err (Halted at)) P holds = holds
done_of (Err (Busy turn)) P holds = tt
done_of (Err NoMemory) P holds = holds

pub done_map : {T : Type 0} (done : Result T OpFault) (P Q : Result T OpFault → Type 0)
    → ((r : Result T OpFault) → P r → Q r) → IfDone done P → IfDone done Q
done_map (Ok value) P Q step holds = step (Ok value) holds
done_map (Err (Fault doubt)) P Q step holds = step (Err (Fault doubt)) holds
done_map (Err (Halted at)) P Q step holds = step (Err (Halted at)) holds
done_map (Err (Busy turn)) P Q step holds = tt
done_map (Err NoMemory) P Q step holds = step (Err NoMemory) holds

pub commits_then : {T : Type 0} (images : List ImageData) (due : Bool) (put : PageList) (done : Result T OpFault)
    (a b c : Cache) → SamePages a b → CommitsCache images due put done b c → CommitsCache images due put done a c
commits_then images due put (Ok value) a b c same did = record {
  pages = did.pages;
  sure = did.sure;
  records = did.records ∙ ap (λ (r : List (List ImageData)). left_by due r ++ images ∷ []) same.records;
}
commits_then images due put (Err why) a b c same did = record {
  pages = did.pages ∙ same.pages;
  doubt = did.doubt ∙ ap (λ (d : PageList). doubt_of why d put) same.doubt;
  records = did.records ∙ ap (λ (r : List (List ImageData)). records_after why (left_by due r) r) same.records;
}

-- the device's half never answers that it is busy
pub never_busy : {T : Type 0} (halted now : Option ℕ) (done : Result T OpFault) (a b c : ℕ) (log : Option Log)
    → (halted ≡ None → HaltsOp a b c log now done) → ((at : ℕ) → halted ≡ Some at → done ≡ Err (Halted at))
    → (turn : ℕ) → IsErrOf done (Busy turn) → ⊥
never_busy {T} halted now done a b c log halts stays turn busy = by halted refl
  where
    of_busy : (r : Result T OpFault) → IsErrOf r (Busy turn) → HaltsOp a b c log now r → ⊥
    of_busy (Ok value) is halts = cc is
    of_busy (Err (Fault doubt)) is halts = cc is
    of_busy (Err (Halted at)) is halts = halts
    of_busy (Err (Busy other)) is halts = halts
    of_busy (Err NoMemory) is halts = cc is

    of_halted : (r : Result T OpFault) (at : ℕ) → r ≡ Err (Halted at) → IsErrOf r (Busy turn) → ⊥
    of_halted (Ok value) at same is = cc is
    of_halted (Err e) at same is = cc (same, is)

    by : (o : Option ℕ) → halted ≡ o → ⊥
    by None none = of_busy done busy (halts none)
    by (Some at) some = of_halted done at (stays at some) busy

-- ---- the device's half as log work

module _ {V : Type 0} (story : V → Option Story) (files : V → Option Files) (moment faults log_faults : V → ℕ)
    (old new : Device V) (images : List ImageData) (was now : Hand) (done : Result ℕ OpFault) where
  stays_halted : (o : Option ℕ) → old.halted ≡ o
      → ((at : ℕ) → old.halted ≡ Some at → (new ≡ old) × (now ≡ was)) → IsSome old.halted
      → StaysHalted was now (seen story files faults log_faults old) (seen story files faults log_faults new)
  stays_halted None is stays some = absurd (cc (some, is))
  stays_halted (Some at) is stays some = record {
    device = ap (λ d. seen story files faults log_faults d) (stays at is).0;
    hand = (stays at is).1;
  }

  pub work_of : Operated moment faults log_faults old new done
      → (old.halted ≡ None → Tells (Commits on_disk old.log new.log was now images new.halted done)
      (story old.volume) (story new.volume))
      → (old.halted ≡ None → Tells (Commits as_read old.log new.log was now images new.halted done)
      (files old.volume) (files new.volume))
      → ((at : ℕ) → old.halted ≡ Some at → (new ≡ old) × (now ≡ was))
      → OnOk done (HaveFrom images was now) → OnErr done (HaveNoMore was now)
      → LogWork was now (seen story files faults log_faults old) (seen story files faults log_faults new)
  work_of did told read stays from fewer = inr (inr (
    done,
    images,
    record {
      story = told;
      files = read;
      halted = stays_halted old.halted refl stays;
      log = did.kept;
      faults = (did.cause None).later;
      log_faults = (did.log_cause 0).later;
      contents = from;
      no_more = fewer;
    },
  ))
