-- What a checkpoint makes of the cache.
use Rattle.std.proofs.Common.{◌≡◌, ℕ, ◌%◌, ◌≤◌, true, true≢false, [], Option, Some, None, IsSome, Result}
use Rattle.std.proofs.Common.{◌⊎◌, inl, inr}
use Rattle.std.specs.Result.{OnErr}
use Rattle.std.proofs.Common.{Ok, Err, OnOk, refl, sym, ◌∙◌, subst, slice_index_or, arith}
use Rattle.ori_bytes.specs.declared.limits.TheConstants.{PARTITIONS}
use Rattle.ori_volume.specs.Causes.{Rose}
use Rattle.ori_volume.specs.Disk.{Files}
use Rattle.ori_volume.specs.Story.{Story, Tells}
use Rattle.ori_volume.proofs.Known.{tells_same}
use Rattle.ori_log.specs.declared.log.Log.{Log}
use Rattle.ori_cover.specs.Dirty.{Dirty, AreClean}
use Rattle.ori_cover.specs.Views.{View, on_disk, as_read}
use Rattle.ori_cover.proofs.Views.{Laws, disk_laws, read_laws}
use Rattle.ori_pool.specs.declared.fault.TendFault.{TendFault}
use Rattle.ori_pool.specs.declared.fault.TendFault.TheVariants.{Fault, Halted, Busy}
use Rattle.ori_pool.specs.Devices.{HaltsTend}
use Rattle.ori_pool.specs.Finishes.{Checkpoints, FinishesOn, Finished}
use Rattle.ori_pool.specs.Held.{dirty_with, HaveNoMore}
use Rattle.ori_turns.specs.Seats.{Seat, held_part}
use Rattle.ori_turns.specs.Caches.{Cache, GivesCache, Opened, OnlyHeld, SamePages}
use Rattle.ori_turns.specs.Checkpointed.{WasCheckpointed, IfMade}
use Rattle.ori_turns.specs.Hands.{HandIs, IsHandOf}
use Rattle.ori_turns.proofs.Marking.{only_same}
use Rattle.ori_turns.proofs.Synced.{Hand, dirty_same, dirty_there, hand_now, none_then}

abbrev pub checkpointed : {T : Type 0} → Result T TendFault → Cache → Hand → Cache
checkpointed (Ok value) cache new = record {
  pages = cache.pages;
  doubt = cache.pages;
  records = [];
  dirty = dirty_with cache.dirty new;
}
checkpointed (Err why) cache new = record {
  pages = cache.pages;
  doubt = cache.pages;
  records = cache.records;
  dirty = dirty_with cache.dirty new;
}

module _ (cache : Cache) (old new : Hand) (is : HandIs cache old) where
  by_view : {S T E : Type 0} (view : View S) → Laws view → (l m : Log) (halted : Option ℕ) (done : Result T E)
      (x y : S) → FinishesOn view l m (dirty_with cache.dirty old) (dirty_with cache.dirty new) halted done x y
      → view.stands l cache.records cache.dirty cache.pages x
      → Finished view m (dirty_with cache.dirty new) cache.pages [] cache.records halted done x y
  by_view view laws l m halted done x y finishes stands = finishes cache.pages cache.records
      (laws.stands_same l cache.records cache.dirty (dirty_with cache.dirty old) cache.pages x
      (dirty_same cache old is) stands)

  from_disk : {T : Type 0} (m : Log) (halted : Option ℕ) (done : Result T TendFault) (x y : Story)
      (g : Option Files) → OnOk done (halted ≡ None)
      → Finished on_disk m (dirty_with cache.dirty new) cache.pages [] cache.records halted done x y
      → GivesCache (Some m) halted (Some y) g (checkpointed done cache new)
  from_disk m None (Ok value) x y g none fin = record { stands = fin.done; sure = refl }
  from_disk m (Some at) (Ok value) x y g none fin = absurd (cc none)
  from_disk m None (Err why) x y g none fin = record { stands = fin.unhalted refl; sure = refl }
  from_disk m (Some at) (Err why) x y g none fin = fin.failed

  from_read : {T : Type 0} (m : Log) (halted : Option ℕ) (done : Result T TendFault) (x y : Files)
      → OnOk done (halted ≡ None)
      → Finished as_read m (dirty_with cache.dirty new) cache.pages [] cache.records halted done x y
      → GivesCache (Some m) halted None (Some y) (checkpointed done cache new)
  from_read m None (Ok value) x y none fin = record { stands = fin.done; sure = refl }
  from_read m (Some at) (Ok value) x y none fin = absurd (cc none)
  from_read m None (Err why) x y none fin = record { stands = fin.unhalted refl; sure = refl }
  from_read m (Some at) (Err why) x y none fin = fin.failed

  pub checkpoint_gives : {T : Type 0} (l : Log) (log : Option Log) (halted : Option ℕ) (done : Result T TendFault)
      (s t : Option Story) (f g : Option Files) → OnOk done (halted ≡ None)
      → Tells (Checkpoints on_disk (Some l) log old new halted done) s t
      → Tells (Checkpoints as_read (Some l) log old new halted done) f g → Opened l cache s f
      → GivesCache log halted t g (checkpointed done cache new)
  checkpoint_gives l None halted done (Some x) t f g none told read opened = absurd (told.2 cache.dirty)
  checkpoint_gives l None halted done None t (Some x) g none told read opened = absurd (read.2 cache.dirty)
  checkpoint_gives l None halted done None t None g none told read opened = absurd opened.stands
  checkpoint_gives l (Some m) halted done (Some x) t f g none told read opened =
      subst (λ (o : Option Story). GivesCache (Some m) halted o g (checkpointed done cache new)) (sym told.1)
      (from_disk m halted done x told.0 g none (by_view on_disk disk_laws l m halted done x told.0
      (told.2 cache.dirty) opened.stands))
  checkpoint_gives l (Some m) halted done None t (Some x) g none told read opened =
      subst (λ (o : Option Story). GivesCache (Some m) halted o g (checkpointed done cache new)) (sym told)
      (subst (λ (o : Option Files). GivesCache (Some m) halted None o (checkpointed done cache new)) (sym read.1)
      (from_read m halted done x read.0 none (by_view as_read read_laws l m halted done x read.0
      (read.2 cache.dirty) opened.stands)))
  checkpoint_gives l (Some m) halted done None t None g none told read opened = absurd opened.stands

  -- at every moment of it each image holds the pages
  pub checkpoint_moments : {T : Type 0} (l : Log) (log : Option Log) (halted : Option ℕ) (done : Result T TendFault)
      (s t : Option Story) (f : Option Files) → Tells (Checkpoints on_disk (Some l) log old new halted done) s t
      → Opened l cache s f → Tells (on_disk.holds cache.pages) s t
  checkpoint_moments l None halted done (Some x) t f told opened = absurd (told.2 cache.dirty)
  checkpoint_moments l (Some m) halted done (Some x) t f told opened = (
    told.0,
    told.1,
    (by_view on_disk disk_laws l m halted done x told.0 (told.2 cache.dirty) opened.stands).moments,
  )
  checkpoint_moments l log halted done None t f told opened = told

-- ---- with the turns

tend_ok : {T : Type 0} (done : Result T TendFault) (a b c : ℕ) (halted : Option ℕ) → HaltsTend a b c halted done
    → OnOk done (halted ≡ None)
tend_ok (Ok value) a b c halted halts = halts
tend_ok (Err why) a b c halted halts = tt

module _ {D : Type 0} (seat : Seat D) (engine : seat.engine ≡ true) (cache : Cache) (old new : Hand)
    (is : HandIs cache old) (fewer : HaveNoMore old new) (held : IsHandOf seat new) where
  hand_of : {T : Type 0} (done : Result T TendFault) → HandIs (checkpointed done cache new) new
  hand_of (Ok value) k part here = let p = hand_now cache old new is fewer k part here in
      record { own = p.own; within = p.within; contents = p.contents; dirty = p.dirty }
  hand_of (Err why) k part here = let p = hand_now cache old new is fewer k part here in
      record { own = p.own; within = p.within; contents = p.contents; dirty = p.dirty }

  dirty_free : (q : ℕ) → held_part seat (q % PARTITIONS) ≡ None → dirty_with cache.dirty new q ≡ cache.dirty q
  dirty_free q free = dirty_there cache new cache.dirty q
      (none_then (held_part seat (q % PARTITIONS)) (slice_index_or new (q % PARTITIONS) None)
      (held (q % PARTITIONS)) free)

  only_of : {T : Type 0} (done : Result T TendFault) → OnlyHeld seat cache (checkpointed done cache new)
  only_of (Ok value) = record {
    same = λ other. absurd (true≢false (sym engine ∙ other));
    count = omega arith;
    pages = λ q lt free. refl;
    dirty = dirty_free;
  }
  only_of (Err why) = record {
    same = λ other. absurd (true≢false (sym engine ∙ other));
    count = omega arith;
    pages = λ q lt free. refl;
    dirty = dirty_free;
  }

  pages_of : {T : Type 0} (done : Result T TendFault) → (checkpointed done cache new).pages ≡ cache.pages
  pages_of (Ok value) = refl
  pages_of (Err why) = refl

  was_made : {T : Type 0} (done : Result T TendFault) → OnOk done ((others : Dirty) → AreClean (dirty_with others new))
      → OnOk done (WasCheckpointed (checkpointed done cache new))
  was_made (Ok value) clean = record { sure = refl; records = refl; clean = clean cache.dirty }
  was_made (Err why) clean = tt

  abbrev After : {T : Type 0} → Result T TendFault → Option Log → Option ℕ → Option Story → Option Files → Type 0
  After done log halted t g = (now : Cache) × (now.pages ≡ cache.pages) × OnlyHeld seat cache now
      × GivesCache log halted t g now × HandIs now new × OnOk done (WasCheckpointed now)
      × OnErr done (SamePages cache now)

  same_pages : {T : Type 0} (done : Result T TendFault) → cache.doubt ≡ cache.pages
      → OnErr done (SamePages cache (checkpointed done cache new))
  same_pages (Ok value) sure = tt
  same_pages (Err why) sure = record { pages = refl; doubt = sym sure; records = refl }

  any_err : {T : Type 0} (done : Result T TendFault) (P : Type 0) → P → OnErr done P
  any_err (Ok value) P holds = tt
  any_err (Err why) P holds = holds

  err_now : {T : Type 0} (done : Result T TendFault) (why : TendFault) → done ≡ Err why
      → OnOk done (WasCheckpointed cache)
  err_now (Ok value) why is = cc
  err_now (Err e) why is = tt

  pub after_checkpoint : {T : Type 0} (done : Result T TendFault) (was log : Option Log)
      (halted halted_now : Option ℕ) (s t : Option Story) (f g : Option Files) (a b c : ℕ) → IsSome was
      → (halted ≡ None → Tells (Checkpoints on_disk was log old new halted_now done) s t)
      → (halted ≡ None → Tells (Checkpoints as_read was log old new halted_now done) f g)
      → (halted ≡ None → HaltsTend a b c halted_now done)
      → ((at : ℕ) → halted ≡ Some at → (why : TendFault) × (done ≡ Err why)
      × (GivesCache was halted s f cache → GivesCache log halted_now t g cache) × (new ≡ old))
      → OnOk done ((others : Dirty) → AreClean (dirty_with others new))
      → GivesCache was halted s f cache → After done log halted_now t g
  after_checkpoint done None log halted halted_now s t f g a b c some told read halts stays clean gives =
      absurd (true≢false (sym some))
  after_checkpoint done (Some l) log None halted_now s t f g a b c some told read halts stays clean gives = (
    checkpointed done cache new,
    pages_of done,
    only_of done,
    checkpoint_gives cache old new is l log halted_now done s t f g (tend_ok done a b c halted_now (halts refl))
        (told refl) (read refl) gives,
    hand_of done,
    was_made done clean,
    same_pages done gives.sure,
  )
  after_checkpoint done (Some l) log (Some at) halted_now s t f g a b c some told read halts stays clean gives =
      let stay = stays at refl in (
        cache,
        refl,
        only_same seat cache,
        stay.2 gives,
        subst (HandIs cache) (sym stay.3) is,
        err_now done stay.0 stay.1,
        any_err done _ (record { pages = refl; doubt = refl; records = refl }),
      )

-- where it is halted nothing has changed
pub moments_of : {T : Type 0} (cache : Cache) (old new : Hand) (is : HandIs cache old) (done : Result T TendFault)
    (was log : Option Log) (halted halted_now : Option ℕ) (s t : Option Story) (f : Option Files) → IsSome was
    → (halted ≡ None → Tells (Checkpoints on_disk was log old new halted_now done) s t)
    → ((at : ℕ) → halted ≡ Some at → t ≡ s) → GivesCache was halted s f cache
    → Tells (on_disk.holds cache.pages) s t
moments_of cache old new is done None log halted halted_now s t f some told stays gives = absurd (true≢false (sym some))
moments_of cache old new is done (Some l) log None halted_now s t f some told stays gives =
    checkpoint_moments cache old new is l log halted_now done s t f (told refl) gives
moments_of cache old new is done (Some l) log (Some at) halted_now s t f some told stays gives =
    tells_same (on_disk.holds cache.pages) s t (λ x. disk_laws.holds_at cache.pages x) (stays at refl)

-- ---- a device that was halted

-- is refused with Halted alone, and then nothing has changed
pub halted_same : {T : Type 0} (done : Result T TendFault) (a b c : ℕ) (halted now : Option ℕ) (Same : Type 0)
    (at : ℕ) → done ≡ Err (Halted at) → (halted ≡ None → HaltsTend a b c now done)
    → ((h : ℕ) → halted ≡ Some h → Same) → Same
halted_same {T} done a b c None now Same at is halts stays =
    absurd (subst (λ (r : Result T TendFault). HaltsTend a b c now r) is (halts refl))
halted_same done a b c (Some h) now Same at is halts stays = stays h refl

busy_halted : {T : Type 0} (r : Result T TendFault) (turn h : ℕ) → r ≡ Err (Busy turn) → r ≡ Err (Halted h) → ⊥
busy_halted r turn h busy halted = cc

pub never_busy : {T : Type 0} (done : Result T TendFault) (a b c : ℕ) (halted now : Option ℕ) (turn : ℕ)
    → done ≡ Err (Busy turn) → (halted ≡ None → HaltsTend a b c now done)
    → ((h : ℕ) → halted ≡ Some h → done ≡ Err (Halted h)) → ⊥
never_busy {T} done a b c None now turn is halts stays =
    subst (λ (r : Result T TendFault). HaltsTend a b c now r) is (halts refl)
never_busy {T} done a b c (Some h) now turn is halts stays =
    busy_halted done turn h is (stays h refl)

-- ---- counts

pub some_at : (o : Option ℕ) → IsSome o → (at : ℕ) × (o ≡ Some at)
some_at None some = absurd (true≢false (sym some))
some_at (Some at) some = (at, refl)

pub ok_then : {T E : Type 0} (done : Result T E) (P Q : Type 0) → (P → Q) → OnOk done P → OnOk done Q
ok_then (Ok value) P Q step holds = step holds
ok_then (Err why) P Q step holds = tt

pub rose_from : (a b c : ℕ) → a ≤ b → Rose b c → Rose a c
rose_from a b c later rose = omega (arith, later, rose)

-- ---- what was answered

pub made : {T : Type 0} (done : Result T TendFault) (P : Result T TendFault → Type 0) → P done → IfMade done P
made (Ok value) P holds = holds
made (Err Fault) P holds = holds
made (Err (Halted at)) P holds = holds
made (Err (Busy turn)) P holds = tt

pub made_map : {T : Type 0} (done : Result T TendFault) (P Q : Result T TendFault → Type 0)
    → ((r : Result T TendFault) → P r → Q r) → IfMade done P → IfMade done Q
made_map (Ok value) P Q step holds = step (Ok value) holds
made_map (Err Fault) P Q step holds = step (Err Fault) holds
made_map (Err (Halted at)) P Q step holds = step (Err (Halted at)) holds
made_map (Err (Busy turn)) P Q step holds = tt

-- by the refusal: none but a fault leaves what is told otherwise
pub by_why : {T : Type 0} (done : Result T TendFault) (why : TendFault) (P : Type 0) → done ≡ Err why
    → (why ≡ Fault → ⊥) → ((at : ℕ) → done ≡ Err (Halted at) → P) → ((turn : ℕ) → done ≡ Err (Busy turn) → ⊥) → P
by_why done Fault P is other halted never = absurd (other refl)
by_why done (Halted at) P is other halted never = halted at is
by_why done (Busy turn) P is other halted never = absurd (never turn is)

pub err_then : {T E : Type 0} (done : Result T E) (P Q : Type 0) → (P → Q) → OnErr done P → OnErr done Q
err_then (Ok value) P Q step holds = tt
err_then (Err why) P Q step holds = step holds

pub ok_or_err : {T E : Type 0} (done : Result T E) (P Q : Type 0) → OnOk done P → OnErr done Q → P ⊎ Q
ok_or_err (Ok value) P Q p q = inl p
ok_or_err (Err why) P Q p q = inr q
