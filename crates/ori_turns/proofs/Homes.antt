-- What a write of a home keeps of the pages that a device gives.
use Rattle.std.proofs.Common.{◌≡◌, ℕ, List, Option, Some, None, Result, Ok, sym, subst}
use Rattle.ori_volume.specs.declared.file.FileNo.TheVariants.{Pages}
use Rattle.ori_volume.specs.Disk.{Disk, Files, with_file}
use Rattle.ori_volume.specs.Story.{Story, Tells}
use Rattle.ori_volume.proofs.Known.{tells_map}
use Rattle.ori_log.specs.declared.log.Log.{Log}
use Rattle.ori_cover.specs.Homes.{this_page}
use Rattle.ori_cover.specs.Dirty.{Dirty, DirtyPage, unwritten, IsMarked}
use Rattle.ori_cover.specs.Cover.{Covers}
use Rattle.ori_cover.specs.Steps.{WritesHome}
use Rattle.ori_cover.specs.Reading.{CoversRead, WritesHomeRead}
use Rattle.ori_cover.proofs.Moments.{stands_covers}
use Rattle.ori_cover.proofs.HomeSteps.{home_last, stands_on}
use Rattle.ori_cover.proofs.ReadSteps.{stands_covers_read, stands_on_read}
use Rattle.ori_turns.specs.Caches.{Cache, GivesCache, StandsNow, CoversNow}

module _ (cache : Cache) (now : Dirty) where
  abbrev pub moved : Cache
  moved = record cache { dirty = now }

  -- only the file of pages changes, and the pages are covered with these dirty ones
  abbrev pub DiskStep : Disk → Disk → Type 0
  DiskStep old new = Covers cache.dirty cache.pages cache.doubt cache.records old
      → (new ≡ with_file old Pages new.pages) × Covers now cache.pages cache.doubt cache.records new

  abbrev pub FileStep : Files → Files → Type 0
  FileStep old new = CoversRead cache.dirty cache.pages cache.doubt cache.records old
      → (new ≡ with_file old Pages new.pages) × CoversRead now cache.pages cache.doubt cache.records new

  pub keeps_cache : (log : Log) (halted : Option ℕ) (s t : Option Story) (f g : Option Files)
      → Tells (λ old new. DiskStep old.now.disk new.now.disk) s t → Tells FileStep f g
      → GivesCache (Some log) halted s f cache → GivesCache (Some log) halted t g moved
  keeps_cache log None (Some old) t f g told read opened =
      let step = told.2 (stands_covers log cache.records cache.dirty cache.pages cache.doubt old.now.disk
      opened.stands) in
      record {
        stands = subst (λ (o : Option Story). StandsNow log moved o g) (sym told.1)
            (stands_on log cache.records cache.dirty now cache.pages cache.doubt old.now.disk told.0.now.disk
            opened.stands step.0 step.1);
        sure = opened.sure;
      }
  keeps_cache log None None t (Some old) g told read opened =
      let step = read.2 (stands_covers_read log cache.records cache.dirty cache.pages cache.doubt old opened.stands) in
      record {
        stands = subst (λ (o : Option Story). StandsNow log moved o g) (sym told)
            (subst (λ (o : Option Files). StandsNow log moved None o) (sym read.1)
            (stands_on_read log cache.records cache.dirty now cache.pages cache.doubt old read.0 opened.stands step.0
            step.1));
        sure = opened.sure;
      }
  keeps_cache log None None t None g told read opened = absurd opened.stands
  keeps_cache log (Some at) (Some old) t f g told read covers =
      subst (λ (o : Option Story). CoversNow moved o g) (sym told.1) (told.2 covers).1
  keeps_cache log (Some at) None t (Some old) g told read covers =
      subst (λ (o : Option Story). CoversNow moved o g) (sym told)
      (subst (λ (o : Option Files). CoversNow moved None o) (sym read.1) (read.2 covers).1)
  keeps_cache log (Some at) None t None g told read covers = absurd covers

module _ {T E : Type 0} (cache : Cache) (page : ℕ) (content : List ℕ) (is : cache.dirty page ≡ Some (unwritten content))
    (result : Result T E) (halted : Option ℕ) (s t : Option Story) (f g : Option Files) where
  -- without a mark
  pub home_kept : Tells (WritesHome page content result) s t → Tells (WritesHomeRead page content result) f g
      → (l : Log) → GivesCache (Some l) halted s f cache → GivesCache (Some l) halted t g cache
  home_kept told read l gives = keeps_cache cache cache.dirty l halted s t f g
      (tells_map _ _ s t (λ old new was writes. λ covers.
      let wrote = writes cache.dirty cache.pages cache.doubt cache.records is covers in
      let last = home_last (this_page page) cache.dirty cache.pages cache.doubt cache.records old new covers
      wrote.moments in
      (last.only, last.covers)) told)
      (tells_map _ _ f g (λ old new was writes. λ covers.
      let wrote = writes cache.dirty cache.pages cache.doubt cache.records is covers in
      (wrote.only, wrote.covers)) read)
      gives

module _ {T : Type 0} (E : Type 0) (cache : Cache) (page : ℕ) (content : List ℕ)
    (is : cache.dirty page ≡ Some (unwritten content)) (value : T) (halted : Option ℕ) (s t : Option Story)
    (f g : Option Files) where
  -- with it
  pub home_marked : Tells (WritesHome {E = E} page content (Ok value)) s t
      → Tells (WritesHomeRead {E = E} page content (Ok value)) f g → (now : Dirty)
      → IsMarked page content cache.dirty now
      → (l : Log) → GivesCache (Some l) halted s f cache → GivesCache (Some l) halted t g (moved cache now)
  home_marked told read now marked l gives = keeps_cache cache now l halted s t f g
      (tells_map _ _ s t (λ old new was writes. λ covers.
      let wrote = writes cache.dirty cache.pages cache.doubt cache.records is covers in
      let last = home_last (this_page page) cache.dirty cache.pages cache.doubt cache.records old new covers
      wrote.moments in
      (last.only, wrote.done now marked)) told)
      (tells_map _ _ f g (λ old new was writes. λ covers.
      let wrote = writes cache.dirty cache.pages cache.doubt cache.records is covers in
      (wrote.only, wrote.done now marked)) read)
      gives

-- of any device: one that isn't open has no dirty page
absent : (cache : Cache) (page : ℕ) (d : DirtyPage) → cache.dirty page ≡ Some d → cache.dirty page ≡ None → ⊥
absent cache page d is none = cc

module _ {T E : Type 0} (cache : Cache) (page : ℕ) (content : List ℕ) (is : cache.dirty page ≡ Some (unwritten content))
    (halted : Option ℕ) (s t : Option Story) (f g : Option Files) where
  pub kept_by : (result : Result T E) → Tells (WritesHome page content result) s t
      → Tells (WritesHomeRead page content result) f g → (log : Option Log) → GivesCache log halted s f cache
      → GivesCache log halted t g cache
  kept_by result told read None gives = absurd (absent cache page (unwritten content) is (gives.clean page))
  kept_by result told read (Some l) gives =
      home_kept cache page content is result halted s t f g told read l gives

  pub marked_by : (result : Result T E) (value : T) → result ≡ Ok value → Tells (WritesHome page content result) s t
      → Tells (WritesHomeRead page content result) f g → (now : Dirty)
      → IsMarked page content cache.dirty now
      → (log : Option Log) → GivesCache log halted s f cache → GivesCache log halted t g (moved cache now)
  marked_by result value ok told read now marked None gives =
      absurd (absent cache page (unwritten content) is (gives.clean page))
  marked_by result value ok told read now marked (Some l) gives =
      home_marked E cache page content is value halted s t f g
      (subst (λ (r : Result T E). Tells (WritesHome page content r) s t) ok told)
      (subst (λ (r : Result T E). Tells (WritesHomeRead page content r) f g) ok read) now marked l gives
