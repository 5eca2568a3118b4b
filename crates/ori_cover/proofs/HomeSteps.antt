-- A write of a page's home and a sync of the homes, at each moment and after Ok.
use Rattle.std.proofs.Common.{◌≡◌, ℕ, ◌*◌, List, length, Some, Result, Ok, Err, OnOk, refl, sym, subst}
use Rattle.ori_bytes.specs.declared.limits.TheConstants.{PAGE_BYTES}
use Rattle.ori_volume.specs.declared.file.FileNo.TheVariants.{Pages}
use Rattle.ori_volume.specs.Disk.{with_file, FileData, Disk, files_of, IsImage}
use Rattle.ori_volume.specs.Effects.{written, synced, Torn}
use Rattle.ori_volume.specs.Story.{Story, ChangesFile, Writes, Syncs}
use Rattle.ori_volume.specs.Runs.{Run, EachImage}
use Rattle.ori_volume.proofs.Data.{with_of}
use Rattle.ori_volume.proofs.Lasting.{written_torn}
use Rattle.ori_volume.proofs.RunSteps.{run_weaker, run_last, run_ends}
use Rattle.ori_log.specs.Opening.{IsFirm}
use Rattle.ori_log.specs.declared.log.Log.{Log}
use Rattle.ori_cover.specs.Homes.{IsHome, IsFirmHome, HomesStay, this_page, no_page}
use Rattle.ori_cover.specs.Dirty.{AreOfTail, Dirty, unwritten, IsMarked, AreSettled}
use Rattle.ori_cover.specs.Given.{HoldsEither}
use Rattle.ori_cover.specs.Cover.{IsCovered, Stands, Covers}
use Rattle.ori_cover.specs.Steps.{HomeMoment, WritesHome, SyncsHomes}
use Rattle.ori_cover.proofs.Homes.{home_put, home_firm, torn_stay, sync_stay, same_stay}
use Rattle.ori_cover.proofs.Covering.{tail_covered, Records, PageList, covered_marked, covered_settled}
use Rattle.ori_cover.proofs.Moments.{covers_run, covers_fewer, marked_fewer, settled_fewer, pages_attached, covers_torn}
use Rattle.ori_cover.proofs.Moments.{covers_synced, covers_same}

-- what the last moment of such a call has
pub home_last : (but : ℕ → Type 0) (dirty : Dirty) (pages doubt : PageList) (records : Records) (old new : Story)
    → Covers dirty pages doubt records old.now.disk
    → Run (HomeMoment but dirty pages doubt records old.now.disk) old new
    → HomeMoment but dirty pages doubt records old.now.disk new.now.disk
home_last but dirty pages doubt records old new covers run =
    run_last (HomeMoment but dirty pages doubt records old.now.disk) old new
    (record { only = sym (with_of old.now.disk Pages); covers = covers; stay = same_stay but old.now.disk.pages }) run

-- its moments are covered
pub home_covers : (but : ℕ → Type 0) (dirty : Dirty) (pages doubt : PageList) (records : Records) (old new : Story)
    → Run (HomeMoment but dirty pages doubt records old.now.disk) old new
    → Run (Covers dirty pages doubt records) old new
home_covers but dirty pages doubt records old new run =
    run_weaker (HomeMoment but dirty pages doubt records old.now.disk) (Covers dirty pages doubt records) old new
    (λ disk moment. moment.covers) run

-- and hold the pages, or those in doubt
pub home_holds : (but : ℕ → Type 0) (dirty : Dirty) (pages doubt : PageList) (records : Records) (old new : Story)
    → Run (HomeMoment but dirty pages doubt records old.now.disk) old new
    → Run (EachImage (HoldsEither pages doubt)) old new
home_holds but dirty pages doubt records old new run =
    covers_run dirty pages doubt records old new (home_covers but dirty pages doubt records old new run)

-- the log goes on standing
pub stands_on : (log : Log) (records : Records) (dirty now : Dirty) (pages doubt : PageList) (old new : Disk)
    → Stands log records dirty pages old → new ≡ with_file old Pages new.pages → Covers now pages doubt records new
    → Stands log records now pages new
stands_on log records dirty now pages doubt old new stands only covers =
    record {
      sized = covers.sized;
      attached = pages_attached log records old new stands.attached only;
      covered = covers.covered;
    }

-- also with the pages that its tail names as the dirty ones
pub stands_of_tail : (log : Log) (records : Records) (dirty now : Dirty) (pages : PageList) (disk : Disk)
    → Stands log records dirty pages disk → AreOfTail records now → Stands log records now pages disk
stands_of_tail log records dirty now pages disk stands of_tail = record {
  sized = stands.sized;
  attached = stands.attached;
  covered = tail_covered now pages records disk.pages of_tail stands.covered.gives;
}

-- ---- a write of a page's home

module _ {T E : Type 0} (page : ℕ) (content : List ℕ) (result : Result T E) (old new : Story)
    (size : length content ≡ PAGE_BYTES) (sound : IsImage old.now.disk (files_of old.now.disk))
    (writes : Writes Pages (PAGE_BYTES * page) content result old new) where
  torn_moment : (dirty : Dirty) (pages doubt : PageList) (records : Records)
      → dirty page ≡ Some (unwritten content) → Covers dirty pages doubt records old.now.disk
      → ChangesFile Pages (Torn (PAGE_BYTES * page) (length content)) old.now.disk new.now.disk
      → HomeMoment (this_page page) dirty pages doubt records old.now.disk new.now.disk
  torn_moment dirty pages doubt records is covers change =
      let torn : Torn (PAGE_BYTES * page) PAGE_BYTES old.now.disk.pages new.now.disk.pages =
      subst (λ (n : ℕ). Torn (PAGE_BYTES * page) n old.now.disk.pages new.now.disk.pages) size change.here in
      record {
        only = change.elsewhere;
        covers = covers_torn dirty pages doubt records old.now.disk new.now.disk covers sound page content is
            (record { here = torn; elsewhere = change.elsewhere });
        stay = torn_stay page old.now.disk.pages new.now.disk.pages (sound Pages) torn;
      }

  home_moments : (dirty : Dirty) (pages doubt : PageList) (records : Records)
      → dirty page ≡ Some (unwritten content) → Covers dirty pages doubt records old.now.disk
      → Run (HomeMoment (this_page page) dirty pages doubt records old.now.disk) old new
  home_moments dirty pages doubt records is covers =
      run_ends (HomeMoment (this_page page) dirty pages doubt records old.now.disk) Pages
      (λ f g. g ≡ written f (PAGE_BYTES * page) content) (Torn (PAGE_BYTES * page) (length content)) result old new
      (λ change. torn_moment dirty pages doubt records is covers (record {
        here = written_torn (PAGE_BYTES * page) content old.now.disk.pages new.now.disk.pages change.here;
        elsewhere = change.elsewhere;
      })) (torn_moment dirty pages doubt records is covers) writes

  home_now : (answer : Result T E) → Writes Pages (PAGE_BYTES * page) content answer old new
      → OnOk answer (IsHome page content new.now.disk.pages.bytes)
  home_now (Err fault) failed = tt
  home_now (Ok value) passes =
      subst (λ (f : FileData). IsHome page content f.bytes) (sym passes.change.here)
      (home_put page content old.now.disk.pages.bytes size)

  home_marked : (dirty : Dirty) (pages doubt : PageList) (records : Records)
      → Covers dirty pages doubt records new.now.disk → (answer : Result T E)
      → OnOk answer (IsHome page content new.now.disk.pages.bytes)
      → OnOk answer ((now : Dirty) → IsMarked page content dirty now → Covers now pages doubt records new.now.disk)
  home_marked dirty pages doubt records last (Err fault) home = tt
  home_marked dirty pages doubt records last (Ok value) home = λ now marked.
      covers_fewer dirty now pages doubt records new.now.disk last (marked_fewer page content dirty now marked)
      (covered_marked dirty pages records new.now.disk.pages last.covered page content now marked home)

  pub writes_home : WritesHome page content result old new
  writes_home dirty pages doubt records is covers =
      let run = home_moments dirty pages doubt records is covers in
      let last = home_last (this_page page) dirty pages doubt records old new covers run in
      record {
        moments = run;
        home = home_now result writes;
        done = home_marked dirty pages doubt records last.covers result (home_now result writes);
      }

-- ---- a sync of the homes

module _ {T E : Type 0} (result : Result T E) (old new : Story)
    (sound : IsImage old.now.disk (files_of old.now.disk)) (syncs : Syncs Pages result old new) where
  sync_moments : (dirty : Dirty) (pages doubt : PageList) (records : Records)
      → Covers dirty pages doubt records old.now.disk
      → Run (HomeMoment no_page dirty pages doubt records old.now.disk) old new
  sync_moments dirty pages doubt records covers =
      run_ends (HomeMoment no_page dirty pages doubt records old.now.disk) Pages (λ f g. g ≡ synced f) (λ f g. g ≡ f)
      result old new
      (λ change. record {
        only = change.elsewhere;
        covers = covers_synced dirty pages doubt records old.now.disk new.now.disk covers sound change;
        stay = subst (λ (f : FileData). HomesStay no_page old.now.disk.pages f) (sym change.here)
            (sync_stay old.now.disk.pages (sound Pages));
      })
      (λ change. record {
        only = change.elsewhere;
        covers = covers_same dirty pages doubt records old.now.disk new.now.disk covers sound change;
        stay = subst (λ (f : FileData). HomesStay no_page old.now.disk.pages f) (sym change.here)
            (same_stay no_page old.now.disk.pages);
      })
      syncs

  sync_firm : (answer : Result T E) → Syncs Pages answer old new → OnOk answer (IsFirm new.now.disk.pages)
  sync_firm (Err fault) failed = tt
  sync_firm (Ok value) passes =
      subst (λ (f : FileData). IsFirm f) (sym passes.change.here)
      (record { firm = λ k. refl; least = refl; greatest = refl })

  sync_stable : (answer : Result T E) → Syncs Pages answer old new
      → OnOk answer ((page : ℕ) (content : List ℕ) → IsHome page content old.now.disk.pages.bytes
      → IsFirmHome page content new.now.disk.pages)
  sync_stable (Err fault) failed = tt
  sync_stable (Ok value) passes = λ page content home.
      subst (λ (f : FileData). IsFirmHome page content f) (sym passes.change.here)
      (home_firm page content old.now.disk.pages.bytes home)

  sync_done : (dirty : Dirty) (pages doubt : PageList) (records : Records)
      → Covers dirty pages doubt records old.now.disk → (answer : Result T E) → Syncs Pages answer old new
      → OnOk answer ((now : Dirty) → AreSettled dirty now → Covers now pages doubt records new.now.disk)
  sync_done dirty pages doubt records covers (Err fault) failed = tt
  sync_done dirty pages doubt records covers (Ok value) passes = λ now settled.
      covers_fewer dirty now pages doubt records new.now.disk
      (covers_synced dirty pages doubt records old.now.disk new.now.disk covers sound passes.change)
      (settled_fewer dirty now settled)
      (subst (λ (f : FileData). IsCovered now pages records f) (sym passes.change.here)
      (covered_settled dirty pages records old.now.disk.pages covers.covered now (sound Pages) settled))

  pub syncs_homes : SyncsHomes result old new
  syncs_homes dirty pages doubt records covers = record {
    moments = sync_moments dirty pages doubt records covers;
    firm = sync_firm result syncs;
    stable = sync_stable result syncs;
    done = sync_done dirty pages doubt records covers result syncs;
  }
