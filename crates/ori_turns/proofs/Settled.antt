-- What a sync of the homes makes of the cache.
use Rattle.std.proofs.Common.{◌≡◌, ℕ, List, Option, Some, None, Result, Ok, Err, OnOk, refl, sym, subst, ap, ◌∙◌}
use Rattle.std.specs.Result.{OnErr}
use Rattle.ori_volume.specs.declared.file.FileNo.TheVariants.{Pages}
use Rattle.ori_volume.specs.Disk.{Files, files_of, with_file}
use Rattle.ori_volume.specs.Story.{Story, Tells}
use Rattle.ori_volume.proofs.Known.{tells_map}
use Rattle.ori_log.specs.declared.log.Log.{Log}
use Rattle.ori_cover.specs.Dirty.{Dirty, DirtyPage, AreSettled, AreClean, settled_page}
use Rattle.ori_cover.specs.Given.{HoldsPages}
use Rattle.ori_cover.specs.Homes.{no_page}
use Rattle.ori_cover.specs.Steps.{SyncsHomes}
use Rattle.ori_cover.specs.Reading.{CoversRead}
use Rattle.ori_cover.proofs.HomeSteps.{home_last}
use Rattle.ori_pool.specs.Held.{dirty_with}
use Rattle.ori_turns.specs.Seats.{Seat}
use Rattle.ori_turns.specs.Caches.{Cache, GivesCache, HoldNow, Unopened, SamePages, OnlyHeld}
use Rattle.ori_turns.specs.Hands.{HandIs, NoneWritten, IsHandOf}
use Rattle.ori_turns.proofs.Homes.{moved, keeps_cache, DiskStep, FileStep}
use Rattle.ori_turns.proofs.Marking.{only_same}
use Rattle.ori_turns.proofs.Synced.{Hand, with_hand, only_hand, are_settled, settled_none}

-- what is told of the disk stays, where the bytes stay
pub same_told : (f g : Option Files) (a b : Files) → g ≡ f → f ≡ Some a → g ≡ Some b → b ≡ a
same_told f g a b same first second = cc

module _ (cache : Cache) (now : Dirty) (s t : Option Story) (f g : Option Files)
    (same_disk : (x y : Story) → s ≡ Some x → t ≡ Some y → files_of y.now.disk ≡ files_of x.now.disk)
    (same_files : g ≡ f) where
  -- a device that isn't open
  unopened_on : (R : Story → Story → Type 0) (o : Option Story) → s ≡ o → Tells R o t → AreClean now
      → Unopened cache o f → Unopened (moved cache now) t g
  unopened_on R (Some x) known told clean opened = record {
    holds = subst (λ (p : Option Story). HoldNow cache.pages p g) (sym told.1)
        (subst (HoldsPages cache.pages) (sym (same_disk x told.0 known told.1)) opened.holds);
    sure = opened.sure;
    tail = opened.tail;
    clean = clean;
  }
  unopened_on R None known told clean opened = record {
    holds = subst (λ (p : Option Story). HoldNow cache.pages p g) (sym told)
        (subst (λ (p : Option Files). HoldNow cache.pages None p) (sym same_files) opened.holds);
    sure = opened.sure;
    tail = opened.tail;
    clean = clean;
  }

  -- any device
  module _ {T E : Type 0} (done : Result T E) (F : Files → Files → Type 0) (told : Tells (SyncsHomes done) s t)
      (read : Tells F f g)
      (disk_step : (x y : Story) → SyncsHomes done x y
      → DiskStep cache now x.now.disk y.now.disk)
      (file_step : (x y : Files) → F x y → FileStep cache now x y) where
    pub synced_on : (log : Option Log) (halted : Option ℕ) → (AreClean cache.dirty → AreClean now)
        → GivesCache log halted s f cache → GivesCache log halted t g (moved cache now)
    synced_on None halted clean gives = unopened_on (SyncsHomes done) s refl told (clean gives.clean) gives
    synced_on (Some l) halted clean gives = keeps_cache cache now l halted s t f g
        (tells_map _ _ s t (λ x y was syncs. disk_step x y syncs) told)
        (tells_map _ _ f g (λ x y was syncs. file_step x y syncs) read) gives

-- ---- settled, or not

same_clean : (o p : Option DirtyPage) → p ≡ settled_page o → o ≡ None → p ≡ None
same_clean o p is none = is ∙ ap settled_page none

module _ {D : Type 0} (seat : Seat D) (cache : Cache) (old new : Hand) (is : HandIs cache old)
    (held : IsHandOf seat new) (s t : Option Story) (f g : Option Files)
    (same_disk : (x y : Story) → s ≡ Some x → t ≡ Some y → files_of y.now.disk ≡ files_of x.now.disk)
    (same_files : g ≡ f) (log : Option Log) (halted : Option ℕ) (gives : GivesCache log halted s f cache) where
  abbrev After : {T E : Type 0} → Result T E → Type 0
  After done = (now : Cache) × SamePages cache now × OnlyHeld seat cache now × GivesCache log halted t g now
      × HandIs now new × OnOk done (NoneWritten now.dirty)

  pub after_settle : {T E : Type 0} (done : Result T E) (F : Files → Files → Type 0) → Tells (SyncsHomes done) s t
      → Tells F f g
      → ((x y : Files) → F x y → (doubt : List (List ℕ))
      → CoversRead cache.dirty cache.pages cache.doubt cache.records x
      → (y ≡ with_file x Pages y.pages) × CoversRead cache.dirty cache.pages cache.doubt cache.records y
      × OnOk done ((now : Dirty) → AreSettled cache.dirty now
      → CoversRead now cache.pages cache.doubt cache.records y))
      → OnOk done ((others : Dirty) → AreSettled (dirty_with others old) (dirty_with others new))
      → OnErr done (new ≡ old) → HandIs (with_hand cache new) new → After done
  after_settle (Ok value) F told read step settled same hand_is =
      let now : Dirty = dirty_with cache.dirty new in
      let changed : AreSettled cache.dirty now = are_settled cache old new is settled in (
        with_hand cache new,
        record { pages = refl; doubt = refl; records = refl },
        only_hand seat cache new held,
        synced_on cache now s t f g same_disk same_files (Ok value) F told read
            (λ x y syncs covers.
            let y_syncs = syncs cache.dirty cache.pages cache.doubt cache.records covers in
            let last = home_last no_page cache.dirty cache.pages cache.doubt cache.records x y covers y_syncs.moments in
            (last.only, y_syncs.done now changed))
            (λ x y syncs covers. let did = step x y syncs cache.doubt covers in (did.0, did.2 now changed))
            log halted (λ clean q. same_clean (cache.dirty q) (now q) (changed q) (clean q)) gives,
        hand_is,
        settled_none cache old new is settled,
      )
  after_settle (Err fault) F told read step settled same hand_is = (
    cache,
    record { pages = refl; doubt = refl; records = refl },
    only_same seat cache,
    synced_on cache cache.dirty s t f g same_disk same_files (Err fault) F told read
        (λ x y syncs covers.
        let y_syncs = syncs cache.dirty cache.pages cache.doubt cache.records covers in
        let last = home_last no_page cache.dirty cache.pages cache.doubt cache.records x y covers y_syncs.moments in
        (last.only, last.covers))
        (λ x y syncs covers. let did = step x y syncs cache.doubt covers in (did.0, did.1))
        log halted (λ clean. clean) gives,
    subst (HandIs cache) (sym same) is,
    tt,
  )
