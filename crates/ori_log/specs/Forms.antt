-- The form of a log's files, file by file, and what was read of a volume that has it.
use Rattle.std.specs.Prelude.{◌≡◌, ℕ, ◌≤◌, List, [], ◌∷◌, length}
use Rattle.ori_bytes.specs.declared.limits.TheConstants.{MAX_LOG_BYTES, MAX_PAGES_BYTES}
use Rattle.ori_volume.specs.declared.file.FileNo.{FileNo}
use Rattle.ori_volume.specs.declared.file.FileNo.TheVariants.{Master, LogA, LogB, Pages}
use Rattle.ori_volume.specs.Disk.{Files}
use Rattle.ori_log.specs.Log.{ImageData, IsLog, IsTail, AreWhole}
use Rattle.ori_log.specs.Files.{file_named, files_data}

-- a log that is read: its length, and records that it has
pub record StandsAsLog (log : List ℕ) : Type 0 where
  pub short : length log ≤ MAX_LOG_BYTES
  pub records : List (List ImageData)
  pub reads : IsLog log records

-- each file as the form asks, by the master's bytes
abbrev pub LogStands : FileNo → List ℕ → List ℕ → Type 0
LogStands which [] log = length log ≤ 1
LogStands which (byte ∷ bytes) log = (length log ≤ MAX_LOG_BYTES)
    × (file_named byte ≡ which → (records : List (List ImageData)) × IsLog log records)

abbrev pub PagesStand : Files → List ℕ → Type 0
PagesStand files [] = files.pages ≡ []
PagesStand files (byte ∷ bytes) = (length files.pages ≤ MAX_PAGES_BYTES)
    × ((records : List (List ImageData)) → IsTail (files_data files) records → AreWhole (files_data files) records)

abbrev pub Stands : Files → FileNo → Type 0
Stands files Master = length files.master ≤ 1
Stands files LogA = LogStands LogA files.master files.log_a
Stands files LogB = LogStands LogB files.master files.log_b
Stands files Pages = PagesStand files files.master

-- the first of Master, LogA, LogB and Pages that isn't as the form asks
abbrev pub BreaksFirst : Files → FileNo → Type 0
BreaksFirst files Master = Stands files Master → ⊥
BreaksFirst files LogA = Stands files Master × (Stands files LogA → ⊥)
BreaksFirst files LogB = Stands files Master × Stands files LogA × (Stands files LogB → ⊥)
BreaksFirst files Pages = Stands files Master × Stands files LogA × Stands files LogB × (Stands files Pages → ⊥)
