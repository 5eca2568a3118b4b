-- The form of the pages, as yet one record a page, and what a crash's leavings open to.
use Rattle.std.specs.Prelude.{◌≡◌, ◌⊎◌, ℕ, ◌+◌, ◌<◌, List, [], ◌∷◌, ◌++◌, length, get_or, Option, Some, None}
use Rattle.std.specs.Int.{w16, w32, to_be_bytes}
use Rattle.ori_bytes.specs.declared.limits.TheConstants.{HEAD_OWNER, HEAD_KIND, SLOTS_KIND, STAGE_FORMAT}
use Rattle.ori_bytes.specs.declared.limits.TheConstants.{FIRST_CLUSTER_OWNER}
use Rattle.ori_spec_data.specs.Base.{RecordData, BaseData, initial_base}
use Rattle.ori_spec_data.specs.Apply.{rid_at}
use Rattle.ori_spec_data.specs.Records.{record_at}
use Rattle.ori_spec_data.specs.Soundness.{IsSoundBase}
use Rattle.ori_volume.specs.Disk.{Files}
use Rattle.ori_log.specs.Files.{files_data}
use Rattle.ori_page.specs.Pages.{filled, page_head}
use Rattle.ori_record.specs.Spelling.{Spells}
use Rattle.ori_log.specs.Log.{ImageData, FilesData, IsUnmade, IsMade, pages_of}

-- ---- pages of this form

-- page 0: the form's number, and the number of pages
abbrev pub head_page : ℕ → List ℕ
head_page count = filled (page_head HEAD_OWNER HEAD_KIND ++ to_be_bytes w32 STAGE_FORMAT ++ to_be_bytes w32 count)

-- a page with the bytes of one record. A length of 0 says that the position has no record.
abbrev pub record_page : List ℕ → List ℕ
record_page bytes = filled (page_head FIRST_CLUSTER_OWNER SLOTS_KIND ++ to_be_bytes w16 (length bytes) ++ bytes)

-- The page of a position, where the base has this record there or none. A record has no bags yet, and a page of one
-- with bags is no database's.
abbrev pub IsPageOf : List ℕ → Option RecordData → Type 0
IsPageOf page None = page ≡ record_page []
IsPageOf page (Some r) = (bytes : List ℕ) × Spells bytes r [] × (page ≡ record_page bytes)

-- The pages stand for the base: its schema is the initial one, cluster 2 has given no position, nothing is grown; page
-- 0 has the
-- next position of cluster 1, and page p + 1 the record at position p.
pub record StandFor (pages : List (List ℕ)) (base : BaseData) : Type 0 where
  pub schema : base.schema ≡ initial_base.schema
  pub grown : base.grown ≡ []
  pub next : base.next ≡ get_or base.next 0 0 ∷ 0 ∷ []
  pub head : get_or pages 0 [] ≡ head_page (get_or base.next 0 0 + 1)
  pub each : (p : ℕ) → p < get_or base.next 0 0 → IsPageOf (get_or pages (p + 1) [])
      (record_at base.stored (rid_at 1 p))

-- ---- what files open to

pub record StandsMade (files : FilesData) (records : List (List ImageData)) (base : BaseData) : Type 0 where
  pub form : IsMade files records
  pub stands : ((records ≡ []) × (files.pages ≡ []) × (base ≡ initial_base)) ⊎ StandFor (pages_of files records) base

-- The files are of the form: those of no volume yet, or those of one whose pages stand for some base, be it sound or
-- not.
abbrev pub IsDatabase : FilesData → Type 0
IsDatabase files = IsUnmade files ⊎ ((records : List (List ImageData)) × (base : BaseData)
    × StandsMade files records base)

-- The files are of the form and stand for this base. Files before a volume is made stand for the initial one.
pub record Opens (files : FilesData) (base : BaseData) : Type 0 where
  pub sound : IsSoundBase base
  pub stands : (IsUnmade files × (base ≡ initial_base)) ⊎ ((records : List (List ImageData))
      × StandsMade files records base)

-- the files of a volume do so
abbrev pub OpensTo : Files → BaseData → Type 0
OpensTo files base = Opens (files_data files) base
