-- What is known of the files while their form is tested.
use Rattle.std.specs.Prelude.{◌≡◌, ℕ, ◌+◌, ◌-◌, ◌*◌, ◌/◌, ◌<◌, ◌≤◌, max, List, length, slice_index, None}
use Rattle.std.specs.Ordering.{nat_cmp}
use Rattle.std.specs.BTreeMap.{get}
use Rattle.ori_bytes.specs.declared.limits.TheConstants.{PAGE_BYTES, MAX_LOG_BYTES, MAX_PAGES_BYTES}
use Rattle.ori_volume.specs.declared.file.FileNo.{FileNo}
use Rattle.ori_volume.specs.Disk.{of_file, Files}
use Rattle.ori_log.specs.Log.{ImageData, IsLog, AreWhole}
use Rattle.ori_log.specs.Files.{file_named, files_data}
use Rattle.ori_log.specs.Tails.{ReadTo}
use Rattle.ori_log.specs.declared.sizes.Sizes.{Sizes}
use Rattle.ori_log.specs.declared.tail.Tail.{Tail}

-- the lengths of these files
pub record Measures (sizes : Sizes) (files : Files) : Type 0 where
  pub master : sizes.master ≡ length files.master
  pub log_a : sizes.log_a ≡ length files.log_a
  pub log_b : sizes.log_b ≡ length files.log_b
  pub pages : sizes.pages ≡ length files.pages

-- the lengths of these files, and the log that their master's one byte names
pub record HasActive (sizes : Sizes) (file : FileNo) (files : Files) : Type 0 where
  pub measures : Measures sizes files
  pub one : length files.master ≡ 1
  pub named : file ≡ file_named (slice_index files.master 0)

-- each page without an image in the tail is whole in a file of pages of so many bytes, or isn't there at all
abbrev pub HomesStand : Tail → ℕ → Type 0
HomesStand tail long = (page : ℕ) → page < max tail.end ((long + (PAGE_BYTES - 1)) / PAGE_BYTES)
    → get nat_cmp tail.pages page ≡ None → PAGE_BYTES * (page + 1) ≤ long

-- The files of a made volume are of the form, and this is what was read of the log in use.
pub record IsRead (files : Files) (file : FileNo) (records : List (List ImageData)) (tail : Tail) : Type 0 where
  pub log : IsLog (of_file files file) records
  pub read : ReadTo (of_file files file) records tail
  pub log_a : length files.log_a ≤ MAX_LOG_BYTES
  pub log_b : length files.log_b ≤ MAX_LOG_BYTES
  pub pages : length files.pages ≤ MAX_PAGES_BYTES
  pub homes : AreWhole (files_data files) records
