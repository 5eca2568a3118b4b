-- The rows that pages are read as.
use Rattle.std.specs.Prelude.{◌≡◌, ◌⊎◌, ℕ, ◌+◌, ◌<◌, ◌≤◌, List, [], ◌∷◌, ◌++◌, length, get_or, Option, None, Result}
use Rattle.std.specs.Prelude.{Ok, Err}
use Rattle.ori_bytes.specs.declared.causes.Causes.{Causes}
use Rattle.ori_bytes.specs.declared.limits.TheConstants.{MAX_PAGES}
use Rattle.ori_page.specs.Faults.{one_more}
use Rattle.ori_page.specs.Spaces.{page_at}
use Rattle.ori_page.specs.declared.fault.PageFault.{PageFault}
use Rattle.ori_page.specs.declared.fault.PageFault.TheVariants as page
use Rattle.ori_spec_data.specs.Base.{RecordData, BaseData}
use Rattle.ori_record.specs.Spelling.{Spells}
use Rattle.ori_rows.specs.Rows.{AreAt}
use Rattle.ori_rows.specs.Stage.{head_page, record_page, IsPageOf, StandFor}
use Rattle.ori_table.specs.Kept.{AreOwn}
use Rattle.ori_engine.specs.declared.fault.TableFault.{TableFault}
use Rattle.ori_engine.specs.declared.fault.TableFault.TheVariants.{Device, Busy, NotATable, NoMemory}

-- ---- page 0

-- it is of the form and counts so many pages of those that are there, which are no more than a database may have
pub record IsCountOf (head : List ℕ) (there count : ℕ) : Type 0 where
  pub some : 0 < count
  pub within : count ≤ there
  pub few : there ≤ MAX_PAGES
  pub form : head ≡ head_page count

-- it counts none that are there
abbrev pub HasNoCount : List ℕ → ℕ → Type 0
HasNoCount head there = there ≤ MAX_PAGES → (count : ℕ) → 0 < count → count ≤ there → head ≡ head_page count → ⊥

-- these pages stand for no base
abbrev pub IsNoTable : List (List ℕ) → Type 0
IsNoTable pages = length pages ≤ MAX_PAGES → (base : BaseData) → StandFor pages base → ⊥

-- ---- the pages of positions

-- the page of a position, with a record or without one
abbrev pub IsRecordPage : List ℕ → Type 0
IsRecordPage page = (page ≡ record_page [])
    ⊎ ((bytes : List ℕ) × (r : RecordData) × Spells bytes r [] × (page ≡ record_page bytes))

-- the page has this record or none, which is as one at that position may be
pub record IsRowAt (place : ℕ) (page : List ℕ) (row : Option RecordData) : Type 0 where
  pub has : IsPageOf page row
  pub at : AreAt place (row ∷ [])
  pub own : AreOwn (row ∷ [])

-- the row of the next position was read from its page
abbrev pub IsRead : List (List ℕ) → List (Option RecordData) → List (Option RecordData) → Type 0
IsRead pages old new = (row : Option RecordData) × (new ≡ old ++ row ∷ [])
    × IsPageOf (page_at pages (length old + 1)) row

-- the page behind that of each position has its row
abbrev pub AreReadFrom : List (List ℕ) → List (Option RecordData) → Type 0
AreReadFrom pages rows = (q : ℕ) → q < length rows → IsPageOf (page_at pages (q + 1)) (get_or rows q None)

-- ---- causes

-- why a page isn't read
abbrev pub table_fault : PageFault → TableFault
table_fault page.Device = Device
table_fault (page.Busy turn) = Busy turn
table_fault page.NoMemory = NoMemory
table_fault (page.Damaged n) = NoMemory
table_fault page.PagesFull = NoMemory

-- each cause is counted where it is answered, and nowhere else
abbrev pub table_counted : {T : Type 0} → Result T TableFault → Causes → Causes
table_counted (Ok value) causes = causes
table_counted (Err Device) causes = record causes { device = one_more causes.device }
table_counted (Err (Busy turn)) causes = record causes { busy = one_more causes.busy }
table_counted (Err NotATable) causes = causes
table_counted (Err NoMemory) causes = causes
