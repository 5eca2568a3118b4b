-- What an append does to the bytes of the files.
use Rattle.std.proofs.Common.{◌≡◌, inl, inr, ℕ, ◌+◌, max, List, [], ◌∷◌, ◌++◌, length, take, replicate}
use Rattle.std.proofs.Common.{Result, slice_index}
use Rattle.std.proofs.Common.{Ok, Err, OnOk, refl, sym, ◌∙◌, ap, ap₂, subst, arith, true≢false}
use Rattle.std.specs.Result.{IsErr}
use Rattle.ori_bytes.specs.declared.limits.TheConstants.{OPEN_GATE}
use Rattle.ori_volume.specs.declared.failed.Failed.{Failed}
use Rattle.ori_volume.specs.declared.file.FileNo.{FileNo}
use Rattle.ori_volume.specs.Disk.{of_file, with_file, Files}
use Rattle.ori_volume.specs.Effects.{put, TornBytes}
use Rattle.ori_volume.specs.Story.{FilesWrite}
use Rattle.ori_volume.proofs.Data.{with_of}
use Rattle.ori_log.specs.Log.{ImageData}
use Rattle.ori_log.specs.Files.{file_named, zeros_behind, appended}
use Rattle.ori_log.specs.Images.{behind_gate}
use Rattle.ori_log.specs.Appending.{StandsIn, AppendCutShort, AppendsFiles, WritesBodyFiles, GateFiles}
use Rattle.ori_log.specs.Staging.{StagesFiles}
use Rattle.ori_log.specs.declared.fault.LogFault.{LogFault}
use Rattle.ori_log.specs.declared.log.Log.{Log}
use Rattle.ori_log.specs.declared.stage.Stage.{Stage}
use Rattle.ori_log.proofs.Behind.{with_twice}
use Rattle.ori_log.proofs.Joins.{both_read, both_long}
use Rattle.ori_log.proofs.Puts.{put_nil}
use Rattle.ori_log.proofs.Stages.{on_err, FilesOk}
use Rattle.ori_log.proofs.StageFiles.{put_torn}
use Rattle.ori_log.proofs.Switching.{log_master}

-- the body, which was staged

pub body_files_failed : (file : FileNo) (place : ℕ) (images : List ImageData) (fill : ℕ) (s0 s1 : Stage)
    (fault : Failed) (result : Result (Unit {0}) Failed) (old new : Files) → IsErr result → s0.at ≡ place + 1
    → StagesFiles {T = Unit {0}} {E = Failed} file s0 s1 (behind_gate images ++ replicate fill 0) (Err fault) old new
    → WritesBodyFiles file place images fill result old new
body_files_failed file place images fill s0 s1 fault result old new failed at stages = λ within. record {
  behind = (stages (place + 1) (record { behind = omega (arith, at); no_gap = omega (arith, at, within) })).0;
  reads = on_err _ result failed;
}

pub body_files : (file : FileNo) (place : ℕ) (images : List ImageData) (fill : ℕ) (s0 s1 : Stage)
    (result : Result (Unit {0}) Failed) (old new : Files) → s0.at ≡ place + 1 → s0.filled ≡ 0 → s1.filled ≡ 0
    → FilesOk file s0 s1 (behind_gate images ++ replicate fill 0) old new
    → WritesBodyFiles file place images fill result old new
body_files file place images fill s0 s1 result old new at empty flushed stages = λ within.
    let bytes = behind_gate images ++ replicate fill 0 in
    let done = stages (place + 1) (record { behind = omega (arith, at); no_gap = omega (arith, at, within) }) in
    let reads : of_file new file ≡ put (of_file old file) (place + 1) bytes =
    sym (put_nil (of_file new file) s1.at (done.1).ready.no_gap)
    ∙ ap (λ (k : ℕ). put (of_file new file) s1.at (take k s1.buffer.items)) (sym flushed)
    ∙ (done.1).reads
    ∙ ap₂ (λ (n : ℕ) (k : ℕ). put (put (of_file old file) n (take k s0.buffer.items)) (n + k) bytes) at empty
    ∙ ap (λ (l : List ℕ). put l (place + 1 + 0) bytes) (put_nil (of_file old file) (place + 1) (omega (arith, within)))
    ∙ ap (λ (n : ℕ). put (of_file old file) n bytes) (omega arith) in
    record { behind = done.0; reads = on_any result reads }
  where
    on_any : {P : Type 0} (result : Result (Unit {0}) Failed) → P → OnOk result P
    on_any (Ok value) p = p
    on_any (Err fault) p = tt

-- the gate

pub gate_files_failed : (file : FileNo) (place : ℕ) (fault : Failed) (result : Result (Unit {0}) Failed)
    (old new : Files) → IsErr result
    → FilesWrite {T = Unit {0}} {E = Failed} file place (OPEN_GATE ∷ []) (Err fault) old new
    → GateFiles file place result old new
gate_files_failed file place fault result old new failed writes =
    record { torn = writes; reads = on_err _ result failed }

pub gate_files : (file : FileNo) (place : ℕ) (result : Result (Unit {0}) Failed) (old new : Files)
    → FilesWrite {T = Unit {0}} {E = Failed} file place (OPEN_GATE ∷ []) (Ok tt) old new
    → GateFiles file place result old new
gate_files file place result old new writes = record {
  torn = record {
    here = subst (λ (l : List ℕ). TornBytes place 1 (of_file old file) l) (sym writes.here)
        (put_torn (of_file old file) (OPEN_GATE ∷ []) place);
    elsewhere = writes.elsewhere;
  };
  reads = on_any result writes.here;
}
  where
    on_any : {P : Type 0} (result : Result (Unit {0}) Failed) → P → OnOk result P
    on_any (Ok value) p = p
    on_any (Err fault) p = tt

-- the call

appends_err : (log new_log : Log) (images : List ImageData) (result : Result (Unit {0}) LogFault) (old new : Files)
    → IsErr result → (StandsIn log old → AppendCutShort log images old new)
    → AppendsFiles log new_log images result old new
appends_err log new_log images (Ok value) old new failed short = absurd (true≢false (sym failed))
appends_err log new_log images (Err fault) old new failed short = short

module _ (log new_log : Log) (images : List ImageData) where
  abbrev behind_place : ℕ
  behind_place = log.place + 1 + length (behind_gate images)

  pub append_full : (result : Result (Unit {0}) LogFault) (files : Files) → IsErr result
      → AppendsFiles log new_log images result files files
  append_full result files failed = appends_err log new_log images result files files failed
      (λ stands. record { only = sym (with_of files log.file); short = omega arith; either = inl refl })

  pub append_body_fails : (fill : ℕ) (fault : Failed) (result : Result (Unit {0}) LogFault) (old new : Files)
      → IsErr result → WritesBodyFiles {T = Unit {0}} {E = Failed} log.file log.place images fill (Err fault) old new
      → AppendsFiles log new_log images result old new
  append_body_fails fill fault result old new failed writes =
      appends_err log new_log images result old new failed (λ stands.
      let body = writes stands.within in
      record { only = body.behind.only; short = body.behind.short; either = inl body.behind.same })

  -- both change the log's file alone
  both_alone : (a b c : Files) → b ≡ with_file a log.file (of_file b log.file)
      → c ≡ with_file b log.file (of_file c log.file) → c ≡ with_file a log.file (of_file c log.file)
  both_alone a b c first second =
      second ∙ ap (λ (f : Files). with_file f log.file (of_file c log.file)) first
      ∙ with_twice a log.file (of_file b log.file) (of_file c log.file)

  pub append_gate_fails : (fill : ℕ) (fault : Failed) (result : Result (Unit {0}) LogFault) (a b c : Files)
      → IsErr result → fill ≡ zeros_behind log.length behind_place
      → WritesBodyFiles {T = Unit {0}} {E = Failed} log.file log.place images fill (Ok tt) a b
      → GateFiles {T = Unit {0}} {E = Failed} log.file log.place (Err fault) b c
      → AppendsFiles log new_log images result a c
  append_gate_fails fill fault result a b c failed is writes gate =
      appends_err log new_log images result a c failed (λ stands.
      let body = writes stands.within in
      record {
        only = both_alone a b c body.behind.only gate.torn.elsewhere;
        short = omega (arith, body.behind.short, gate.torn.here.no_longer, log.within);
        either = inr (subst (λ (l : List ℕ). TornBytes log.place 1 l (of_file c log.file))
            (body.reads ∙ ap (λ (n : ℕ). put (of_file a log.file) (log.place + 1) (behind_gate images ++ replicate n 0))
            is) gate.torn.here);
      })

  pub append_files : (fill : ℕ) (a b c : Files) → fill ≡ zeros_behind log.length behind_place
      → new_log.master ≡ log.master → new_log.file ≡ log.file
      → new_log.place ≡ log.place + length (behind_gate images)
      → new_log.length ≡ max log.length (behind_place + fill)
      → WritesBodyFiles {T = Unit {0}} {E = Failed} log.file log.place images fill (Ok tt) a b
      → GateFiles {T = Unit {0}} {E = Failed} log.file log.place (Ok tt) b c
      → AppendsFiles {T = Unit {0}} {E = LogFault} log new_log images (Ok tt) a c
  append_files fill a b c is master file place size writes gate = λ stands.
      let body = writes stands.within in
      let reads : of_file c log.file ≡ appended (of_file a log.file) log.place images =
      both_read log new_log images fill (of_file a log.file) (of_file b log.file) (of_file c log.file) stands.within
      stands.long is body.reads gate.reads in
      let long : length (of_file c log.file) ≡ max log.length (behind_place + fill) =
      both_long log new_log images (of_file a log.file) (of_file c log.file) fill stands.within stands.long is reads in
      let here : of_file c new_log.file ≡ of_file c log.file = ap (λ (f : FileNo). of_file c f) file in
      let only : c ≡ with_file a log.file (appended (of_file a log.file) log.place images) =
      both_alone a b c body.behind.only gate.torn.elsewhere ∙ ap (λ (l : List ℕ). with_file a log.file l) reads in (
        only,
        record {
          some = omega (arith, stands.some, ap length (same_master only));
          byte = master ∙ stands.byte ∙ sym (ap (λ (l : List ℕ). slice_index l 0) (same_master only));
          named = file ∙ stands.named ∙ sym (ap file_named master);
          long = size ∙ sym (ap (λ (l : List ℕ). length l) here ∙ long);
          within = omega (arith, place, ap (λ (l : List ℕ). length l) here, long);
        },
      )
    where
      same_master : c ≡ with_file a log.file (appended (of_file a log.file) log.place images) → c.master ≡ a.master
      same_master only =
          ap (λ (f : Files). f.master) only
          ∙ log_master log.file a (appended (of_file a log.file) log.place images) log.in_log

-- the same of the file and the place that another log has
pub gate_there : (log mid_log : Log) (result : Result (Unit {0}) Failed) (mid new : Files) → mid_log.file ≡ log.file
    → mid_log.place ≡ log.place → GateFiles mid_log.file mid_log.place result mid new
    → GateFiles log.file log.place result mid new
gate_there log mid_log result mid new file place gate =
    subst (λ (f : FileNo). GateFiles f log.place result mid new) file
    (subst (λ (n : ℕ). GateFiles mid_log.file n result mid new) place gate)
