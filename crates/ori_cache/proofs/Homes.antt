-- The home of a page that no partition holds dirty.
use Rattle.std.proofs.Common.{◌≡◌, ℕ, ◌+◌, ◌*◌, ◌<◌, ◌≤◌, List, length, Option, Some, None, IsSome, refl, sym, subst}
use Rattle.std.proofs.Common.{arith}
use Rattle.ori_bytes.specs.declared.limits.TheConstants.{PAGE_BYTES}
use Rattle.ori_volume.specs.declared.file.FileNo.TheVariants.{Pages}
use Rattle.ori_volume.specs.Disk.{Disk, FileData, Files, files_of, IsImage}
use Rattle.ori_volume.specs.Story.{Story, Tells, Reads}
use Rattle.ori_page.specs.Spaces.{page_at}
use Rattle.ori_log.specs.Log.{ImageData}
use Rattle.ori_log.specs.declared.log.Log.{Log}
use Rattle.ori_cover.specs.Given.{HoldsPages}
use Rattle.ori_cover.specs.Homes.{IsHome}
use Rattle.ori_cover.specs.Cover.{IsCovered, Stands, Covers}
use Rattle.ori_turns.specs.Caches.{Cache, GivesCache}

-- what a volume tells of the disk and of the bytes is one
abbrev pub TellsOne : Option Story → Option Files → Type 0
TellsOne story files = (x : Story) → story ≡ Some x
    → (files ≡ Some (files_of x.now.disk)) × IsImage x.now.disk (files_of x.now.disk)

-- the page's home is the page, and one that is whole is that of a page
pub record HomeIs (cache : Cache) (page : ℕ) (fs : Files) : Type 0 where
  pub reads : page < length cache.pages → IsHome page (page_at cache.pages page) fs.pages
  pub below : PAGE_BYTES * (page + 1) ≤ length fs.pages → page < length cache.pages

no_log : IsSome {T = Log} None → ⊥
no_log attached = cc

module _ (cache : Cache) (page : ℕ) (clean : cache.dirty page ≡ None) where
  covered_below : (whole bytes greatest pages : ℕ) → PAGE_BYTES * (whole + 1) ≤ bytes → bytes ≤ greatest
      → greatest ≤ PAGE_BYTES * pages → whole < pages
  covered_below whole bytes greatest pages first second third = omega arith

  home_in : (records : List (List ImageData)) (file : FileData) (fs : Files) → fs.pages ≡ file.bytes
      → length file.bytes ≤ file.greatest → IsCovered cache.dirty cache.pages records file → HomeIs cache page fs
  home_in records file fs same short covered = record {
    reads = λ below. subst (IsHome page (page_at cache.pages page)) (sym same) (covered.clean page below clean).home;
    below = λ whole. covered_below page (length file.bytes) file.greatest (length cache.pages)
        (subst (λ (bytes : List ℕ). PAGE_BYTES * (page + 1) ≤ length bytes) same whole) short covered.gives.greatest;
  }

  on_disk : (records : List (List ImageData)) (x : Story) (files : Option Files) → TellsOne (Some x) files
      → IsCovered cache.dirty cache.pages records x.now.disk.pages
      → (fs : Files) × (files ≡ Some fs) × HomeIs cache page fs
  on_disk records x files told covered = (
    files_of x.now.disk,
    (told x refl).0,
    home_in records x.now.disk.pages (files_of x.now.disk) refl ((told x refl).1 Pages).no_longer covered,
  )

  -- whatever a device gives that has a log
  pub known_home : (log : Option Log) (halted : Option ℕ) (story : Option Story) (files : Option Files) → IsSome log
      → TellsOne story files → GivesCache log halted story files cache
      → (fs : Files) × (files ≡ Some fs) × HomeIs cache page fs
  known_home None halted story files attached told gives = absurd (no_log attached)
  known_home (Some log) None (Some x) files attached told gives =
      on_disk cache.records x files told gives.stands.covered
  known_home (Some log) None None (Some fs) attached told gives =
      (fs, refl, home_in cache.records _ fs refl (omega arith) gives.stands.covered)
  known_home (Some log) None None None attached told gives = absurd gives.stands
  known_home (Some log) (Some at_fault) (Some x) files attached told gives =
      on_disk cache.records x files told gives.covered
  known_home (Some log) (Some at_fault) None (Some fs) attached told gives =
      (fs, refl, home_in cache.records _ fs refl (omega arith) gives.covered)
  known_home (Some log) (Some at_fault) None None attached told gives = absurd gives

-- ---- a device that was read gives what it gave

same_disk : (log : Option Log) (halted : Option ℕ) (x y : Story) (f g : Option Files) → y.now.disk ≡ x.now.disk
    → (cache : Cache) → GivesCache log halted (Some x) f cache → GivesCache log halted (Some y) g cache
same_disk None halted x y f g same cache gives = record {
  holds = subst (λ (d : Disk). HoldsPages cache.pages (files_of d)) (sym same) gives.holds;
  sure = gives.sure;
  tail = gives.tail;
  clean = gives.clean;
}
same_disk (Some log) None x y f g same cache gives = record {
  stands = subst (Stands log cache.records cache.dirty cache.pages) (sym same) gives.stands;
  sure = gives.sure;
}
same_disk (Some log) (Some at_fault) x y f g same cache gives =
    subst (Covers cache.dirty cache.pages cache.doubt cache.records) (sym same) gives

pub read_gives : (log : Option Log) (halted : Option ℕ) (s t : Option Story) (f g : Option Files) → Tells Reads s t
    → g ≡ f → (cache : Cache) → GivesCache log halted s f cache → GivesCache log halted t g cache
read_gives log halted (Some x) t f g told same cache gives =
    subst (λ (o : Option Story). GivesCache log halted o g cache) (sym told.1)
    (same_disk log halted x told.0 f g told.2.disk cache gives)
read_gives log halted None t f g told same cache gives =
    subst (λ (o : Option Story). GivesCache log halted o g cache) (sym told)
    (subst (λ (o : Option Files). GivesCache log halted None o cache) (sym same) gives)
