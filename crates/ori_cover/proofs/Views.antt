-- What holds in both views of a volume, and what each step is in either of them.
use Rattle.std.specs.Prelude.{⊤}
use Rattle.std.proofs.Common.{◌≡◌, ℕ, List, [], ◌∷◌, ◌++◌, Some, Result, Ok, Err, OnOk, OnErr, refl, sym, ◌∙◌}
use Rattle.ori_volume.specs.Disk.{FileData, Disk, Files}
use Rattle.ori_volume.specs.Story.{Story}
use Rattle.ori_volume.specs.Runs.{EachImage}
use Rattle.ori_volume.proofs.RunSteps.{run_begins, run_then, run_last}
use Rattle.ori_log.specs.Log.{ImageData}
use Rattle.ori_log.specs.Opening.{IsFirm}
use Rattle.ori_log.specs.declared.log.Log.{Log}
use Rattle.ori_cover.specs.Homes.{this_page, no_page}
use Rattle.ori_cover.specs.Dirty.{Dirty, unwritten, AreClean, AreInstalled, IsMarked, AreSettled}
use Rattle.ori_cover.specs.Given.{ArePut, HoldsPages, HoldsEither}
use Rattle.ori_cover.specs.Cover.{IsCovered, Stands, Covers}
use Rattle.ori_cover.specs.Reading.{StandsRead, WritesHomeRead, SyncsHomesRead, PutsRecordRead}
use Rattle.ori_cover.specs.Reading.{SwitchesLogRead}
use Rattle.ori_cover.specs.Steps.{WritesHome, SyncsHomes, PutsRecord, SwitchesLog}
use Rattle.ori_cover.specs.Views.{View, on_disk, as_read}
use Rattle.ori_cover.proofs.Covering.{Records, PageList}
use Rattle.ori_cover.proofs.Moments.{stands_covers, covers_run, sure_run, either_run, covers_fewer}
use Rattle.ori_cover.proofs.HomeSteps.{home_last, home_covers, stands_on}
use Rattle.ori_cover.proofs.ReadSteps.{stands_covers_read, stands_on_read, read_fewer}

-- ---- whichever way the dirty pages are told

covered_same : (records : Records) (was now : Dirty) (pages : PageList) (file : FileData)
    → ((q : ℕ) → now q ≡ was q) → IsCovered was pages records file → IsCovered now pages records file
covered_same records was now pages file same covered = record {
  gives = covered.gives;
  clean = λ page low none. covered.clean page low (sym (same page) ∙ none);
  last = λ page d some. covered.last page d (sym (same page) ∙ some);
  written = λ page d some. covered.written page d (sym (same page) ∙ some);
}

disk_same : (log : Log) (records : Records) (was now : Dirty) (pages : PageList) (disk : Disk)
    → ((q : ℕ) → now q ≡ was q) → Stands log records was pages disk → Stands log records now pages disk
disk_same log records was now pages disk same stands = record {
  sized = stands.sized;
  attached = stands.attached;
  covered = covered_same records was now pages disk.pages same stands.covered;
}

read_same : (log : Log) (records : Records) (was now : Dirty) (pages : PageList) (files : Files)
    → ((q : ℕ) → now q ≡ was q) → StandsRead log records was pages files → StandsRead log records now pages files
read_same log records was now pages files same stands = record {
  sized = stands.sized;
  stands = stands.stands;
  holds = stands.holds;
  counts = stands.counts;
  place = stands.place;
  covered = covered_same records was now pages _ same stands.covered;
}

-- ---- of both

pub record Laws {S : Type 0} (view : View S) : Type 1 where
  pub covers_of : (log : Log) (records : Records) (dirty : Dirty) (pages doubt : PageList) (x : S)
      → view.stands log records dirty pages x → view.covers dirty pages doubt records x
  pub stands_same : (log : Log) (records : Records) (was now : Dirty) (pages : PageList) (x : S)
      → ((q : ℕ) → now q ≡ was q) → view.stands log records was pages x → view.stands log records now pages x
  pub covers_same : (records : Records) (was now : Dirty) (pages doubt : PageList) (x : S)
      → ((q : ℕ) → now q ≡ was q) → view.covers was pages doubt records x → view.covers now pages doubt records x
  pub holds_at : (pages : PageList) (x : S) → view.holds pages x x
  pub holds_then : (pages : PageList) (x y z : S) → view.holds pages x y → view.holds pages y z
      → view.holds pages x z
  pub either_of : (pages doubt : PageList) (x y : S) → view.holds pages x y → view.either pages doubt x y
  pub either_then : (pages doubt : PageList) (x y z : S) → view.either pages doubt x y → view.either pages doubt y z
      → view.either pages doubt x z

pub disk_laws : Laws on_disk
disk_laws = record {
  covers_of = λ log records dirty pages doubt x stands.
      stands_covers log records dirty pages doubt x.now.disk stands;
  stands_same = λ log records was now pages x same stands. disk_same log records was now pages x.now.disk same stands;
  covers_same = λ records was now pages doubt x same covers.
      covers_fewer was now pages doubt records x.now.disk covers (λ page d some. (d, sym (same page) ∙ some))
      (covered_same records was now pages x.now.disk.pages same covers.covered);
  holds_at = λ pages x. run_begins (EachImage (HoldsPages pages)) x x refl;
  holds_then = λ pages x y z first second. run_then (EachImage (HoldsPages pages)) x y z first second;
  either_of = λ pages doubt x y holds. either_run pages doubt x y holds;
  either_then = λ pages doubt x y z first second. run_then (EachImage (HoldsEither pages doubt)) x y z first second;
}

pub read_laws : Laws as_read
read_laws = record {
  covers_of = λ log records dirty pages doubt x stands. stands_covers_read log records dirty pages doubt x stands;
  stands_same = λ log records was now pages x same stands. read_same log records was now pages x same stands;
  covers_same = λ records was now pages doubt x same covers.
      read_fewer was pages doubt records now x covers (λ page d some. (d, sym (same page) ∙ some))
      (covered_same records was now pages _ same covers.covered);
  holds_at = λ pages x. tt;
  holds_then = λ pages x y z first second. tt;
  either_of = λ pages doubt x y holds. tt;
  either_then = λ pages doubt x y z first second. tt;
}

-- ---- the steps

-- a write of a page's home
pub record HomeWritten {S T E : Type 0} (view : View S) (page : ℕ) (content : List ℕ) (log : Log) (records : Records)
    (was : Dirty) (pages : PageList) (result : Result T E) (x y : S) : Type 0 where
  pub moments : view.holds pages x y
  pub stays : view.stands log records was pages y
  pub done : OnOk result ((now : Dirty) → IsMarked page content was now → view.stands log records now pages y)

abbrev pub HomeWrites : {S T E : Type 0} → View S → ℕ → List ℕ → Result T E → S → S → Type 0
HomeWrites view page content result x y = (log : Log) (records : Records) (was : Dirty) (pages : PageList)
    → was page ≡ Some (unwritten content) → view.stands log records was pages x
    → HomeWritten view page content log records was pages result x y

-- a sync of the homes, after which they are firm
pub record HomesSynced {S T E : Type 0} (view : View S) (Firm : S → Type 0) (log : Log) (records : Records)
    (was : Dirty) (pages : PageList) (result : Result T E) (x y : S) : Type 0 where
  pub moments : view.holds pages x y
  pub stays : view.stands log records was pages y
  pub firm : OnOk result (Firm y)
  pub done : OnOk result ((now : Dirty) → AreSettled was now → view.stands log records now pages y)

abbrev pub HomesSync : {S T E : Type 0} → View S → (S → Type 0) → Result T E → S → S → Type 0
HomesSync view Firm result x y = (log : Log) (records : Records) (was : Dirty) (pages : PageList)
    → view.stands log records was pages x → HomesSynced view Firm log records was pages result x y

-- an append
pub record RecordPut {S T E : Type 0} (view : View S) (new_log : Log) (images : List ImageData) (was : Dirty)
    (pages put : PageList) (records : Records) (result : Result T E) (x y : S) : Type 0 where
  pub moments : view.either pages put x y
  pub failed : OnErr result (view.covers was pages put records y)
  pub done : OnOk result ((now : Dirty) → AreInstalled images was now
      → view.stands new_log (records ++ images ∷ []) now put y)

abbrev pub RecordPuts : {S T E : Type 0} → View S → Log → Log → List ImageData → Result T E → S → S → Type 0
RecordPuts view log new_log images result x y = (was : Dirty) (pages put : PageList) (records : Records)
    → view.stands log records was pages x → ArePut images pages put
    → RecordPut view new_log images was pages put records result x y

-- a switch, where no page is dirty and the homes are firm
pub record LogSwitched {S T E : Type 0} (view : View S) (new_log : Log) (was : Dirty) (pages : PageList)
    (records : Records) (result : Result T E) (x y : S) : Type 0 where
  pub moments : view.holds pages x y
  pub failed : OnErr result (view.covers was pages pages records y)
  pub done : OnOk result (view.stands new_log [] was pages y)

abbrev pub LogSwitches : {S T E : Type 0} → View S → (S → Type 0) → Log → Log → Result T E → S → S → Type 0
LogSwitches view Firm log new_log result x y = (was : Dirty) (pages : PageList) (records : Records)
    → view.stands log records was pages x → AreClean was → Firm x
    → LogSwitched view new_log was pages records result x y

-- ---- of the disk

abbrev pub homes_firm : Story → Type 0
homes_firm x = IsFirm x.now.disk.pages

any_err : {T E : Type 0} (P : Type 0) (result : Result T E) → P → OnErr result P
any_err P (Ok value) holds = tt
any_err P (Err fault) holds = holds

on_ok_map : {T E : Type 0} (P Q : Type 0) (result : Result T E) → (P → Q) → OnOk result P → OnOk result Q
on_ok_map P Q (Ok value) step holds = step holds
on_ok_map P Q (Err fault) step holds = tt

pub disk_writes : {T E : Type 0} (page : ℕ) (content : List ℕ) (result : Result T E) (x y : Story)
    → WritesHome page content result x y → HomeWrites on_disk page content result x y
disk_writes page content result x y writes log records was pages is stands =
    let covers = stands_covers log records was pages pages x.now.disk stands in
    let w = writes was pages pages records is covers in
    let last = home_last (this_page page) was pages pages records x y covers w.moments in
    record {
      moments = sure_run pages x y (covers_run was pages pages records x y
          (home_covers (this_page page) was pages pages records x y w.moments));
      stays = stands_on log records was was pages pages x.now.disk y.now.disk stands last.only last.covers;
      done = on_ok_map _ _ result (λ marks now marked.
          stands_on log records was now pages pages x.now.disk y.now.disk stands last.only (marks now marked)) w.done;
    }

pub disk_syncs : {T E : Type 0} (result : Result T E) (x y : Story) → SyncsHomes result x y
    → HomesSync on_disk homes_firm result x y
disk_syncs result x y syncs log records was pages stands =
    let covers = stands_covers log records was pages pages x.now.disk stands in
    let s = syncs was pages pages records covers in
    let last = home_last no_page was pages pages records x y covers s.moments in
    record {
      moments = sure_run pages x y (covers_run was pages pages records x y
          (home_covers no_page was pages pages records x y s.moments));
      stays = stands_on log records was was pages pages x.now.disk y.now.disk stands last.only last.covers;
      firm = s.firm;
      done = on_ok_map _ _ result (λ settles now settled.
          stands_on log records was now pages pages x.now.disk y.now.disk stands last.only (settles now settled))
          s.done;
    }

pub disk_puts : {T E : Type 0} (log new_log : Log) (images : List ImageData) (result : Result T E) (x y : Story)
    → PutsRecord log new_log images result x y → RecordPuts on_disk log new_log images result x y
disk_puts log new_log images result x y puts was pages put records stands are_put =
    let p = puts was pages put records stands are_put in
    record {
      moments = covers_run was pages put records x y p.moments;
      failed = any_err _ result (run_last (Covers was pages put records) x y
          (stands_covers log records was pages put x.now.disk stands) p.moments);
      done = p.done;
    }

pub disk_switches : {T E : Type 0} (log new_log : Log) (result : Result T E) (x y : Story)
    → SwitchesLog log new_log result x y → LogSwitches on_disk homes_firm log new_log result x y
disk_switches log new_log result x y switches was pages records stands clean firm =
    let s = switches was pages records stands clean firm in
    record {
      moments = sure_run pages x y (covers_run was pages pages records x y s.moments);
      failed = any_err _ result (run_last (Covers was pages pages records) x y
          (stands_covers log records was pages pages x.now.disk stands) s.moments);
      done = s.done;
    }

-- ---- of the bytes alone

abbrev pub nothing_told : Files → Type 0
nothing_told x = ⊤

any_ok : {T E : Type 0} (P : Type 0) (result : Result T E) → P → OnOk result P
any_ok P (Ok value) holds = holds
any_ok P (Err fault) holds = tt

pub read_writes : {T E : Type 0} (page : ℕ) (content : List ℕ) (result : Result T E) (x y : Files)
    → WritesHomeRead page content result x y → HomeWrites as_read page content result x y
read_writes page content result x y writes log records was pages is stands =
    let w = writes was pages pages records is (stands_covers_read log records was pages pages x stands) in
    record {
      moments = tt;
      stays = stands_on_read log records was was pages pages x y stands w.only w.covers;
      done = on_ok_map _ _ result (λ marks now marked.
          stands_on_read log records was now pages pages x y stands w.only (marks now marked)) w.done;
    }

pub read_syncs : {T E : Type 0} (result : Result T E) (x y : Files) → SyncsHomesRead result x y
    → HomesSync as_read nothing_told result x y
read_syncs result x y syncs log records was pages stands =
    let s = syncs was pages pages records (stands_covers_read log records was pages pages x stands) in
    record {
      moments = tt;
      stays = stands_on_read log records was was pages pages x y stands s.only s.covers;
      firm = any_ok ⊤ result tt;
      done = on_ok_map _ _ result (λ settles now settled.
          stands_on_read log records was now pages pages x y stands s.only (settles now settled)) s.done;
    }

pub read_puts : {T E : Type 0} (log new_log : Log) (images : List ImageData) (result : Result T E) (x y : Files)
    → PutsRecordRead log new_log images result x y → RecordPuts as_read log new_log images result x y
read_puts log new_log images result x y puts was pages put records stands are_put =
    let p = puts was pages put records stands are_put in
    record { moments = tt; failed = p.failed; done = p.done }

pub read_switches : {T E : Type 0} (log new_log : Log) (result : Result T E) (x y : Files)
    → SwitchesLogRead log new_log result x y → LogSwitches as_read nothing_told log new_log result x y
read_switches log new_log result x y switches was pages records stands clean firm =
    let s = switches was pages records stands clean in
    record { moments = tt; failed = s.failed; done = s.done }
