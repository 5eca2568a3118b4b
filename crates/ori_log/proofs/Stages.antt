-- How bytes are staged, one piece after another.
use Rattle.std.proofs.Common.{true≢false, ◌≡◌, ℕ, ◌+◌, ◌-◌, ◌≤◌, List, [], ◌++◌, length, take, drop, replicate, Result}
use Rattle.std.proofs.Common.{Ok, Err, OnOk, refl, sym, ◌∙◌, ap, ap₂, arith, append-nil, length-append}
use Rattle.std.proofs.Common.{length-take, take_at}
use Rattle.std.proofs.lemmas.List.{length-replicate}
use Rattle.std.specs.Result.{IsErr}
use Rattle.ori_bytes.specs.declared.limits.TheConstants.{MAX_LOG_BYTES}
use Rattle.ori_volume.specs.declared.failed.Failed.{Failed}
use Rattle.ori_volume.specs.declared.file.FileNo.{FileNo}
use Rattle.ori_volume.specs.Disk.{of_file, with_file, FileData, Disk, Files, files_of, IsImage}
use Rattle.ori_volume.specs.Effects.{put, padded, written, Torn}
use Rattle.ori_volume.specs.Story.{Story, Writes}
use Rattle.ori_volume.specs.Runs.{Run}
use Rattle.ori_volume.proofs.Data.{with_of}
use Rattle.ori_volume.proofs.Lasting.{written_torn}
use Rattle.ori_volume.proofs.RunSteps.{run_begins, run_then, run_weaker, run_last, run_ends}
pub use Rattle.ori_volume.proofs.Known.{tells_map, tells_then, tells_both}
use Rattle.ori_log.specs.Files.{Behind}
use Rattle.ori_log.specs.Staging.{ahead, IsReady, Staged, StagesOn, disk_bytes, KeepsFront, Stages, file_bytes}
use Rattle.ori_log.specs.Staging.{FilesBehind, StagesFiles}
use Rattle.ori_log.specs.declared.stage.Stage.{Stage}
use Rattle.ori_log.proofs.Behind.{behind_refl, behind_then, torn_behind, with_twice}
use Rattle.ori_log.proofs.Puts.{put_nil, put_put, length-put}

pub on_ok : {T E : Type 0} (P Q : Type 0) (result : Result T E) → (P → Q) → OnOk result P → OnOk result Q
on_ok P Q (Ok x) step holds = step holds
on_ok P Q (Err e) step holds = holds

-- these bytes were staged, and all calls succeeded
abbrev pub StagesOk : FileNo → Stage → Stage → List ℕ → Story → Story → Type 0
StagesOk file s0 s1 bytes old new = Stages {T = Unit {0}} {E = Failed} file s0 s1 bytes (Ok tt) old new

pub on_err : {T E : Type 0} (P : Type 0) (result : Result T E) → IsErr result → OnOk result P
on_err P (Ok x) failed = absurd (true≢false (sym failed))
on_err P (Err e) failed = tt

pub waiting : (stage : Stage) → length (take stage.filled stage.buffer.items) ≡ stage.filled
waiting stage = omega (arith, length-take stage.filled stage.buffer.items, stage.sized, stage.within)

pub ahead_long : (stage : Stage) (file : List ℕ) → stage.at ≤ length file
    → stage.at + stage.filled ≤ length (ahead stage file)
ahead_long stage file no_gap =
    omega (arith, length-put file (take stage.filled stage.buffer.items) stage.at no_gap, waiting stage)

-- ---- whatever has the file

module _ {S : Type 0} (file_of : S → List ℕ) (Keeps : ℕ → S → S → Type 0) (still : (low : ℕ) (a : S) → Keeps low a a)
    (on : (low : ℕ) (a b c : S) → Keeps low a b → Keeps low b c → Keeps low a c) where
  abbrev On : Stage → Stage → List ℕ → Result (Unit {0}) Failed → S → S → Type 0
  On s0 s1 bytes result a b = StagesOn file_of Keeps s0 s1 bytes result a b

  -- nothing was staged or written
  nothing_on : (stage : Stage) (a : S) → On stage stage [] (Ok tt) a a
  nothing_on stage a = λ low ready. (
    still low a,
    record {
      ready = ready;
      reached = omega arith;
      reads = sym (put_nil _ _ (ahead_long stage (file_of a) ready.no_gap));
    },
  )

  then_on : (s0 s1 s2 : Stage) (xs ys : List ℕ) (result : Result (Unit {0}) Failed) (a b c : S)
      → On s0 s1 xs (Ok tt) a b → On s1 s2 ys result b c → On s0 s2 (xs ++ ys) result a c
  then_on s0 s1 s2 xs ys result a b c first second = λ low ready.
      let one = first low ready in
      let two = second low (one.1).ready in (
        on low a b c one.0 two.0,
        on_ok (Staged low s1 s2 ys (file_of b) (file_of c)) (Staged low s0 s2 (xs ++ ys) (file_of a) (file_of c)) result
            (λ more. record {
              ready = more.ready;
              reached = omega (arith, more.reached, (one.1).reached, length-append xs ys);
              reads = more.reads ∙ ap₂ (λ (l : List ℕ) (n : ℕ). put l n ys) (one.1).reads (one.1).reached
                  ∙ put_put _ xs ys (s0.at + s0.filled) (ahead_long s0 (file_of a) ready.no_gap);
            }) two.1,
      )

  -- a failure says the same whatever was to be staged
  fails_on : (s0 s1 : Stage) (xs zs : List ℕ) (fault : Failed) (result : Result (Unit {0}) Failed) (a b : S)
      → IsErr result → On s0 s1 xs (Err fault) a b → On s0 s1 zs result a b
  fails_on s0 s1 xs zs fault result a b failed first = λ low ready. (
    (first low ready).0,
    on_err (Staged low s0 s1 zs (file_of a) (file_of b)) result failed,
  )

  failed_on : (s0 s1 s2 : Stage) (xs ys zs : List ℕ) (fault : Failed) (result : Result (Unit {0}) Failed) (a b c : S)
      → IsErr result → On s0 s1 xs (Ok tt) a b → On s1 s2 ys (Err fault) b c → On s0 s2 zs result a c
  failed_on s0 s1 s2 xs ys zs fault result a b c failed first second =
      fails_on s0 s2 (xs ++ ys) zs fault result a c failed
      (then_on s0 s1 s2 xs ys (Err fault) a b c first second)

  -- bytes that were put behind those that wait
  copied_on : (s0 s1 s2 : Stage) (bytes : List ℕ) (a b : S) → s2.at ≡ s1.at
      → take s2.filled s2.buffer.items ≡ take s1.filled s1.buffer.items ++ bytes
      → On s0 s1 [] (Ok tt) a b → On s0 s2 bytes (Ok tt) a b
  copied_on s0 s1 s2 bytes a b place waits first = λ low ready.
      let one = first low ready in (
        one.0,
        record {
          ready = record {
            behind = omega (arith, place, (one.1).ready.behind);
            no_gap = omega (arith, place, (one.1).ready.no_gap);
          };
          reached = omega (
            arith,
            place,
            (one.1).reached,
            waiting s2,
            waiting s1,
            ap length waits,
            length-append (take s1.filled s1.buffer.items) bytes,
          );
          reads =
              ap₂ (λ (n : ℕ) (l : List ℕ). put (file_of b) n l) place waits
              ∙ sym (put_put (file_of b) (take s1.filled s1.buffer.items) bytes s1.at (one.1).ready.no_gap)
              ∙ ap₂ (λ (l : List ℕ) (n : ℕ). put l n bytes)
              ((one.1).reads ∙ put_nil _ _ (ahead_long s0 (file_of a) ready.no_gap))
              (omega (arith, waiting s1, (one.1).reached));
        },
      )

-- ---- the disk at every moment

keeps_still : (file : FileNo) (low : ℕ) (a : Story) → KeepsFront file low a a
keeps_still file low a = run_begins (Behind file low MAX_LOG_BYTES a.now.disk) a a refl

keeps_on : (file : FileNo) (low : ℕ) (a b c : Story) → KeepsFront file low a b → KeepsFront file low b c
    → KeepsFront file low a c
keeps_on file low a b c first second =
    let Q : Disk → Type 0 = Behind file low MAX_LOG_BYTES a.now.disk in
    let reached : Q b.now.disk = run_last Q a b (behind_refl file low MAX_LOG_BYTES a.now.disk) first in
    run_then Q a b c first (run_weaker (Behind file low MAX_LOG_BYTES b.now.disk) Q b c
    (λ disk later. behind_then file low MAX_LOG_BYTES a.now.disk b.now.disk disk reached later) second)

module _ (file : FileNo) where
  pub nothing_staged : (stage : Stage) (story : Story) → StagesOk file stage stage [] story story
  nothing_staged = nothing_on (disk_bytes file) (KeepsFront file) (keeps_still file) (keeps_on file)

  pub stages_then : (s0 s1 s2 : Stage) (xs ys : List ℕ) (result : Result (Unit {0}) Failed) (a b c : Story)
      → StagesOk file s0 s1 xs a b → Stages {T = Unit {0}} {E = Failed} file s1 s2 ys result b c
      → Stages {T = Unit {0}} {E = Failed} file s0 s2 (xs ++ ys) result a c
  stages_then = then_on (disk_bytes file) (KeepsFront file) (keeps_still file) (keeps_on file)

  pub stages_failed : (s0 s1 s2 : Stage) (xs ys zs : List ℕ) (fault : Failed) (result : Result (Unit {0}) Failed)
      (a b c : Story) → IsErr result → StagesOk file s0 s1 xs a b
      → Stages {T = Unit {0}} {E = Failed} file s1 s2 ys (Err fault) b c
      → Stages {T = Unit {0}} {E = Failed} file s0 s2 zs result a c
  stages_failed = failed_on (disk_bytes file) (KeepsFront file) (keeps_still file) (keeps_on file)

  pub stages_copied : (s0 s1 s2 : Stage) (bytes : List ℕ) (a b : Story) → s2.at ≡ s1.at
      → take s2.filled s2.buffer.items ≡ take s1.filled s1.buffer.items ++ bytes
      → StagesOk file s0 s1 [] a b → StagesOk file s0 s2 bytes a b
  stages_copied = copied_on (disk_bytes file) (KeepsFront file) (keeps_still file) (keeps_on file)

-- ---- the bytes alone

-- these bytes were staged, and all calls succeeded
abbrev pub FilesOk : FileNo → Stage → Stage → List ℕ → Files → Files → Type 0
FilesOk file s0 s1 bytes old new = StagesFiles {T = Unit {0}} {E = Failed} file s0 s1 bytes (Ok tt) old new

files_still : (file : FileNo) (low : ℕ) (files : Files) → FilesBehind file low files files
files_still file low files =
    record { only = sym (with_of files file); same = refl; long = omega arith; short = omega arith }

files_on : (file : FileNo) (low : ℕ) (a b c : Files) → FilesBehind file low a b → FilesBehind file low b c
    → FilesBehind file low a c
files_on file low a b c first second = record {
  only = second.only ∙ ap (λ (f : Files). with_file f file (of_file c file)) first.only
      ∙ with_twice a file (of_file b file) (of_file c file);
  same = second.same ∙ first.same;
  long = omega (arith, first.long, second.long);
  short = omega (arith, first.short, second.short);
}

module _ (file : FileNo) where
  pub no_files : (stage : Stage) (files : Files) → FilesOk file stage stage [] files files
  no_files = nothing_on (file_bytes file) (FilesBehind file) (files_still file) (files_on file)

  pub files_then : (s0 s1 s2 : Stage) (xs ys : List ℕ) (result : Result (Unit {0}) Failed) (a b c : Files)
      → FilesOk file s0 s1 xs a b → StagesFiles {T = Unit {0}} {E = Failed} file s1 s2 ys result b c
      → StagesFiles {T = Unit {0}} {E = Failed} file s0 s2 (xs ++ ys) result a c
  files_then = then_on (file_bytes file) (FilesBehind file) (files_still file) (files_on file)

  pub files_failed : (s0 s1 s2 : Stage) (xs ys zs : List ℕ) (fault : Failed) (result : Result (Unit {0}) Failed)
      (a b c : Files) → IsErr result → FilesOk file s0 s1 xs a b
      → StagesFiles {T = Unit {0}} {E = Failed} file s1 s2 ys (Err fault) b c
      → StagesFiles {T = Unit {0}} {E = Failed} file s0 s2 zs result a c
  files_failed = failed_on (file_bytes file) (FilesBehind file) (files_still file) (files_on file)

  pub files_fails : (s0 s1 : Stage) (xs zs : List ℕ) (fault : Failed) (result : Result (Unit {0}) Failed) (a b : Files)
      → IsErr result → StagesFiles {T = Unit {0}} {E = Failed} file s0 s1 xs (Err fault) a b
      → StagesFiles {T = Unit {0}} {E = Failed} file s0 s1 zs result a b
  files_fails = fails_on (file_bytes file) (FilesBehind file) (files_still file) (files_on file)

  pub files_copied : (s0 s1 s2 : Stage) (bytes : List ℕ) (a b : Files) → s2.at ≡ s1.at
      → take s2.filled s2.buffer.items ≡ take s1.filled s1.buffer.items ++ bytes
      → FilesOk file s0 s1 [] a b → FilesOk file s0 s2 bytes a b
  files_copied = copied_on (file_bytes file) (FilesBehind file) (files_still file) (files_on file)

-- ---- what waits is written

-- the front of a file after a write that leaves no gap
pub put_front : (old bytes : List ℕ) (at : ℕ) → at ≤ length old
    → take (at + length bytes) (put old at bytes) ≡ take at old ++ bytes
put_front old bytes at no_gap =
    let none : at - length old ≡ 0 = omega arith in
    let front : take at (padded old at) ≡ take at old =
    ap (λ (n : ℕ). take at (old ++ replicate n 0)) none ∙ ap (λ (l : List ℕ). take at l) (append-nil old) in
    let size : length (take at (padded old at) ++ bytes) ≡ at + length bytes =
    ap (λ (l : List ℕ). length (l ++ bytes)) front ∙ omega
    (arith, length-append (take at old) bytes, length-take at old) in
    take_at (take at (padded old at) ++ bytes) (drop (at + length bytes) old) (at + length bytes) size
    ∙ ap (λ (l : List ℕ). l ++ bytes) front

pub put_long : (old bytes : List ℕ) (at : ℕ) → at + length bytes ≤ length (put old at bytes)
put_long old bytes at =
    omega (
      arith,
      length-append (take at (padded old at) ++ bytes) (drop (at + length bytes) old),
      length-append (take at (padded old at)) bytes,
      length-take at (padded old at),
      length-append old (replicate (at - length old) 0),
      length-replicate {A = ℕ} (at - length old) 0,
    )

-- once it is, nothing waits
pub staged_flush : (low : ℕ) (s0 s1 : Stage) (bytes old new : List ℕ) → bytes ≡ take s0.filled s0.buffer.items
    → s1.at ≡ s0.at + s0.filled → s1.filled ≡ 0 → IsReady low s0 old → new ≡ put old s0.at bytes
    → Staged low s0 s1 [] old new
staged_flush low s0 s1 bytes old new waits reached empty ready reads =
    let count : length bytes ≡ s0.filled = omega (arith, ap length waits, waiting s0) in
    let long : s1.at ≤ length new = omega (arith, reached, count, ap length reads, put_long old bytes s0.at) in
    record {
      ready = record { behind = omega (arith, reached, ready.behind); no_gap = long };
      reached = omega (arith, reached, empty);
      reads =
          ap (λ (m : ℕ). put new s1.at (take m s1.buffer.items)) empty
          ∙ put_nil new s1.at long
          ∙ reads ∙ ap (λ (l : List ℕ). put old s0.at l) waits
          ∙ sym (put_nil _ _ (ahead_long s0 old ready.no_gap));
    }

module _ (file : FileNo) (s0 s1 : Stage) (bytes : List ℕ) (old new : Story)
    (sound : IsImage old.now.disk (files_of old.now.disk)) (room : s0.at + s0.filled ≤ MAX_LOG_BYTES)
    (waits : bytes ≡ take s0.filled s0.buffer.items) where
  short : length bytes ≤ s0.filled
  short = omega (arith, ap length waits, length-take s0.filled s0.buffer.items)

  written_run : (low : ℕ) (result : Result (Unit {0}) Failed) → IsReady low s0 (disk_bytes file old)
      → Writes {T = Unit {0}} {E = Failed} file s0.at bytes result old new
      → Run (Behind file low MAX_LOG_BYTES old.now.disk) old new
  written_run low result ready writes =
      run_ends (Behind file low MAX_LOG_BYTES old.now.disk) file (λ f g. g ≡ written f s0.at bytes)
      (Torn s0.at (length bytes)) result old new
      (λ change. torn_behind file low MAX_LOG_BYTES s0.at (length bytes) old.now.disk new.now.disk sound ready.behind
      ready.no_gap (omega (arith, short))
      (record { here = written_torn s0.at bytes _ _ change.here; elsewhere = change.elsewhere }))
      (torn_behind file low MAX_LOG_BYTES s0.at (length bytes) old.now.disk new.now.disk sound ready.behind ready.no_gap
      (omega (arith, short)))
      writes

  -- what waits is written
  pub flush_failed : (fault : Failed) (result : Result (Unit {0}) Failed) → IsErr result
      → Writes {T = Unit {0}} {E = Failed} file s0.at bytes (Err fault) old new
      → Stages {T = Unit {0}} {E = Failed} file s0 s0 [] result old new
  flush_failed fault result failed writes =
      λ low ready. (written_run low (Err fault) ready writes, on_err (Staged low s0 s0 [] _ _) result failed)

  pub flush_done : s0.filled ≤ length s0.buffer.items → s1.at ≡ s0.at + s0.filled → s1.filled ≡ 0
      → Writes {T = Unit {0}} {E = Failed} file s0.at bytes (Ok tt) old new → StagesOk file s0 s1 [] old new
  flush_done held reached empty writes = λ low ready. (
    written_run low (Ok tt) ready writes,
    staged_flush low s0 s1 bytes (disk_bytes file old) (disk_bytes file new) waits reached empty ready
        (ap (λ (d : FileData). d.bytes) writes.change.here),
  )
