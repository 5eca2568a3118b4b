-- Which file breaks the form of a log's files.
use Rattle.std.proofs.Common.{◌≡◌, ℕ, ◌≤◌, Option, IfSome, List, [], ◌∷◌, length, slice_index, refl, sym, ◌∙◌, subst}
use Rattle.std.proofs.Common.{arith}
use Rattle.ori_bytes.specs.declared.limits.TheConstants.{MAX_LOG_BYTES}
use Rattle.ori_volume.specs.declared.file.FileNo.{FileNo}
use Rattle.ori_volume.specs.declared.file.FileNo.TheVariants.{LogA, LogB, Pages}
use Rattle.ori_volume.specs.Disk.{of_file, Files}
use Rattle.ori_log.specs.Log.{ImageData, IsLog, IsTail, AreWhole}
use Rattle.ori_log.specs.Files.{file_named, files_data}
use Rattle.ori_log.specs.Forms.{StandsAsLog, LogStands, PagesStand, BreaksFirst}
use Rattle.ori_log.specs.Measures.{Measures, HasActive, HomesStand}
use Rattle.ori_log.specs.Tails.{IsNoLog, ReadTo}
use Rattle.ori_log.specs.declared.sizes.Sizes.{Sizes}
use Rattle.ori_log.specs.declared.tail.Tail.{Tail}
use Rattle.ori_volume.proofs.Known.{some_both}
use Rattle.ori_log.proofs.Logs.{tail_named}

pub log_broken : (sizes : Sizes) (file : FileNo) (n : ℕ) (told : Option Files)
    → ((fs : Files) → Measures sizes fs → n ≡ length (of_file fs file)) → IfSome told (λ fs. Measures sizes fs)
    → IfSome told (λ fs. n ≡ length (of_file fs file) → IsNoLog (of_file fs file))
    → IfSome told (λ fs. StandsAsLog (of_file fs file) → ⊥)
log_broken sizes file n told is measured none =
    some_both told told (λ fs. Measures sizes fs) (λ fs. n ≡ length (of_file fs file) → IsNoLog (of_file fs file))
    (λ fs. StandsAsLog (of_file fs file) → ⊥) refl
    (λ fs measures absent stands. absent (is fs measures) stands.records stands.reads)
    measured none

log_stands : (which file : FileNo) (master log : List ℕ) (records : List (List ImageData)) → length master ≡ 1
    → file ≡ file_named (slice_index master 0) → length log ≤ MAX_LOG_BYTES
    → (file ≡ which → IsLog log records) → LogStands which master log
log_stands which file [] log records one named short reads = absurd (omega (arith, one))
log_stands which file (byte ∷ bytes) log records one named short reads = (short, λ is. (records, reads (named ∙ is)))

homes_of : (files : Files) (n : ℕ) (records : List (List ImageData)) (tail : Tail) (log : List ℕ)
    → n ≡ length files.pages → ReadTo log records tail → AreWhole (files_data files) records → HomesStand tail n
homes_of files n records tail log is read whole = λ page within unnamed.
    let stands = whole page (omega (arith, within, read.end, is)) (sym (read.last page) ∙ unnamed) in
    omega (arith, is, stands)

pages_fall : (files : Files) (master : List ℕ) (n : ℕ) (records : List (List ImageData)) (tail : Tail) (log : List ℕ)
    → length master ≡ 1 → n ≡ length files.pages → ReadTo log records tail
    → IsTail (files_data files) records → (HomesStand tail n → ⊥) → PagesStand files master → ⊥
pages_fall files [] n records tail log one is read stands broken pages = absurd (omega (arith, one))
pages_fall files (byte ∷ bytes) n records tail log one is read stands broken pages =
    broken (homes_of files n records tail log is read (pages.1 records stands))

pages_break : (sizes : Sizes) (file : FileNo) (files : Files) (records : List (List ImageData)) (tail : Tail)
    → HasActive sizes file files → sizes.log_a ≤ MAX_LOG_BYTES → sizes.log_b ≤ MAX_LOG_BYTES
    → IsLog (of_file files file) records → ReadTo (of_file files file) records tail → (HomesStand tail sizes.pages → ⊥)
    → BreaksFirst files Pages
pages_break sizes file files records tail has short_a short_b log read broken =
    let stands : IsTail (files_data files) records =
    tail_named files.master files records (omega (arith, has.one))
    (subst (λ (which : FileNo). IsLog (of_file files which) records) has.named log) in (
      omega (arith, has.one),
      log_stands LogA file files.master files.log_a records has.one has.named (omega (arith, has.measures.log_a))
          (λ is. subst (λ (which : FileNo). IsLog (of_file files which) records) is log),
      log_stands LogB file files.master files.log_b records has.one has.named (omega (arith, has.measures.log_b))
          (λ is. subst (λ (which : FileNo). IsLog (of_file files which) records) is log),
      pages_fall files files.master sizes.pages records tail (of_file files file) has.one has.measures.pages read stands
          broken,
    )

pub homes_broken : (sizes : Sizes) (file named : FileNo) (tail : Tail) (told : Option Files)
    → IfSome told (λ fs. HasActive sizes file fs) → sizes.log_a ≤ MAX_LOG_BYTES → sizes.log_b ≤ MAX_LOG_BYTES
    → IfSome told (λ fs. (length (of_file fs file) ≤ MAX_LOG_BYTES) × (records : List (List ImageData))
    × IsLog (of_file fs file) records × ReadTo (of_file fs file) records tail)
    → (HomesStand tail sizes.pages → ⊥) → Pages ≡ named → IfSome told (λ fs. BreaksFirst fs named)
homes_broken sizes file named tail told has short_a short_b read broken is =
    some_both told told (λ fs. HasActive sizes file fs)
    (λ fs. (length (of_file fs file) ≤ MAX_LOG_BYTES) × (records : List (List ImageData))
    × IsLog (of_file fs file) records
    × ReadTo (of_file fs file) records tail)
    (λ fs. BreaksFirst fs named) refl
    (λ fs active held.
    subst (λ (which : FileNo). BreaksFirst fs which) is (pages_break sizes file fs held.1 tail active short_a short_b
    held.2 held.3 broken))
    has read
