-- What staging does to the bytes of the files.
use Rattle.std.proofs.Common.{◌≡◌, ℕ, ◌+◌, ◌≤◌, List, [], length, take, Result, Ok, Err, refl, sym}
use Rattle.std.proofs.Common.{subst, ap, arith, length-take}
use Rattle.std.specs.Result.{IsErr}
use Rattle.ori_bytes.specs.declared.limits.TheConstants.{MAX_LOG_BYTES}
use Rattle.ori_volume.specs.declared.failed.Failed.{Failed}
use Rattle.ori_volume.specs.declared.file.FileNo.{FileNo}
use Rattle.ori_volume.specs.Disk.{of_file, Files, firm_file}
use Rattle.ori_volume.specs.Effects.{put, written, TornBytes}
use Rattle.ori_volume.specs.Story.{ChangesFile, FilesWrite}
use Rattle.ori_volume.proofs.Lasting.{written_torn}
use Rattle.ori_log.specs.Staging.{FilesBehind, Staged, StagesFiles}
use Rattle.ori_log.specs.declared.stage.Stage.{Stage}
use Rattle.ori_log.proofs.Behind.{take_agree}
use Rattle.ori_log.proofs.Stages.{on_err, staged_flush, FilesOk}

pub torn_files : (file : FileNo) (low at count : ℕ) (old new : Files) → low ≤ at → at ≤ length (of_file old file)
    → at + count ≤ MAX_LOG_BYTES → ChangesFile file (TornBytes at count) old new → FilesBehind file low old new
torn_files file low at count old new behind no_gap room change = record {
  only = change.elsewhere;
  same = take_agree low (of_file new file) (of_file old file) (omega (arith, change.here.no_shorter)) (omega arith)
      (λ k before. change.here.before k (omega arith) (omega arith));
  long = change.here.no_shorter;
  short = omega (arith, change.here.no_longer, room);
}

pub put_torn : (xs bytes : List ℕ) (at : ℕ) → TornBytes at (length bytes) xs (put xs at bytes)
put_torn xs bytes at = (written_torn at bytes (firm_file xs) (written (firm_file xs) at bytes) refl).torn

pub put_files : (file : FileNo) (low at : ℕ) (bytes : List ℕ) (old new : Files) → low ≤ at
    → at ≤ length (of_file old file) → at + length bytes ≤ MAX_LOG_BYTES
    → ChangesFile file (λ xs ys. ys ≡ put xs at bytes) old new → FilesBehind file low old new
put_files file low at bytes old new behind no_gap room change =
    torn_files file low at (length bytes) old new behind no_gap room (record {
      here = subst (λ (l : List ℕ). TornBytes at (length bytes) (of_file old file) l) (sym change.here)
          (put_torn (of_file old file) bytes at);
      elsewhere = change.elsewhere;
    })

-- what waits is written
module _ (file : FileNo) (s0 s1 : Stage) (bytes : List ℕ) (old new : Files)
    (room : s0.at + s0.filled ≤ MAX_LOG_BYTES) (waits : bytes ≡ take s0.filled s0.buffer.items) where
  within : s0.at + length bytes ≤ MAX_LOG_BYTES
  within = omega (arith, room, ap length waits, length-take s0.filled s0.buffer.items)

  pub flush_files_failed : (fault : Failed) (result : Result (Unit {0}) Failed) → IsErr result
      → FilesWrite {T = Unit {0}} {E = Failed} file s0.at bytes (Err fault) old new
      → StagesFiles {T = Unit {0}} {E = Failed} file s0 s0 [] result old new
  flush_files_failed fault result failed writes = λ low ready. (
    torn_files file low s0.at (length bytes) old new ready.behind ready.no_gap within writes,
    on_err (Staged low s0 s0 [] _ _) result failed,
  )

  pub flush_files_done : s1.at ≡ s0.at + s0.filled → s1.filled ≡ 0
      → FilesWrite {T = Unit {0}} {E = Failed} file s0.at bytes (Ok tt) old new → FilesOk file s0 s1 [] old new
  flush_files_done reached empty writes = λ low ready. (
    put_files file low s0.at bytes old new ready.behind ready.no_gap within writes,
    staged_flush low s0 s1 bytes (of_file old file) (of_file new file) waits reached empty ready writes.here,
  )
