-- The moments of an append.
use Rattle.std.proofs.Common.{◌≡◌, inl, ℕ, ◌+◌, ◌<◌, max, true, List, [], ◌∷◌, ◌++◌, length, take, flat_map}
use Rattle.std.proofs.Common.{slice_index, replicate, take_at, get_or, Result, Ok, Err, OnOk, sym, ◌∙◌, ap, ap₂, subst}
use Rattle.std.proofs.Common.{arith, append_assoc}
use Rattle.std.proofs.Common.{length-append, length-take}
use Rattle.std.specs.List.{AllByRecursion}
use Rattle.std.specs.Result.{IsErr}
use Rattle.std.proofs.lemmas.List.{places, take-take, length-replicate}
use Rattle.std.proofs.Math.Seq.{get_or-append_seam}
use Rattle.ori_bytes.specs.declared.limits.TheConstants.{MAX_LOG_BYTES, OPEN_GATE}
use Rattle.ori_volume.specs.declared.failed.Failed.{Failed}
use Rattle.ori_volume.specs.declared.file.FileNo.{FileNo}
use Rattle.ori_volume.specs.Disk.{of_file, with_file, FileData, Disk, files_of, IsImage}
use Rattle.ori_volume.specs.Effects.{put, written, synced, Torn}
use Rattle.ori_volume.specs.Story.{Story, ChangesFile, Writes, Syncs}
use Rattle.ori_volume.specs.Runs.{Run}
use Rattle.ori_volume.proofs.Lasting.{written_torn}
use Rattle.ori_volume.proofs.RunSteps.{run_then, run_weaker, run_last, run_ends}
use Rattle.ori_log.specs.Log.{ImageData, record_bytes, IsLogRecord}
use Rattle.ori_log.specs.Files.{is_log_file, Behind}
use Rattle.ori_log.specs.Images.{behind_gate}
use Rattle.ori_log.specs.Staging.{IsReady, Staged, Stages}
use Rattle.ori_log.specs.Logs.{Names, HoldsLog, HoldsOneMore}
use Rattle.ori_log.specs.Appending.{AppendMoment, WroteBody, OpenedGate}
use Rattle.ori_log.specs.declared.stage.Stage.{Stage}
use Rattle.ori_log.proofs.Behind.{with_twice, behind_refl, behind_then, torn_behind, synced_behind, same_behind}
use Rattle.ori_log.proofs.Puts.{put_nil, length-put}
use Rattle.ori_log.proofs.Stages.{on_err, put_front, StagesOk}
use Rattle.ori_log.proofs.Logs.{all_more, each_has_tail, behind_holds, names_same, each_has_either, torn_gate}
use Rattle.ori_log.proofs.Logs.{synced_log, synced_one_more}

abbrev Answer : Type 0
Answer = Result (Unit {0}) Failed

module _ (file : FileNo) (place : ℕ) (records : List (List ImageData)) (images : List ImageData)
    (in_log : is_log_file file ≡ true) where
  -- a moment at which the file has changed behind its closed gate
  pub behind_moment : (old new : Disk) → Names old.master file → HoldsLog records place (of_file old file)
      → Behind file (place + 1) MAX_LOG_BYTES old new
      → AppendMoment file records images old new
  behind_moment old new names holds behind = record {
    only = behind.only;
    short = behind.greatest;
    either = λ image allowed.
        inl (each_has_tail records place file new (names_same old new file in_log behind.only names)
        (behind_holds records place MAX_LOG_BYTES file old new holds behind) image allowed);
  }

  -- a moment at which the gate before a whole record may be open
  pub gate_moment : (gate low : ℕ) (old new : Disk) → Names old.master file
      → HoldsOneMore records images place gate (of_file new file) → Behind file low MAX_LOG_BYTES old new
      → AppendMoment file records images old new
  gate_moment gate low old new names holds behind = record {
    only = behind.only;
    short = behind.greatest;
    either = each_has_either records images place gate file new (names_same old new file in_log behind.only names)
        holds;
  }

  pub moment_then : (old mid new : Disk) → AppendMoment file records images old mid
      → AppendMoment file records images mid new → AppendMoment file records images old new
  moment_then old mid new first second = record {
    only = second.only ∙ ap (λ (d : Disk). with_file d file (of_file new file)) first.only
        ∙ with_twice old file (of_file mid file) (of_file new file);
    short = omega (arith, first.short, second.short);
    either = second.either;
  }

  -- what is staged waits for the place behind the closed gate
  ready_behind : (stage : Stage) (disk : Disk) → stage.at ≡ place + 1 → HoldsLog records place (of_file disk file)
      → IsReady (place + 1) stage (of_file disk file).bytes
  ready_behind stage disk at holds = record { behind = omega (arith, at); no_gap = omega (arith, at, holds.long) }

  pub body_failed : (fill : ℕ) (s0 s1 : Stage) (fault : Failed) (result : Answer) (old new : Story) → IsErr result
      → s0.at ≡ place + 1
      → Stages {T = Unit {0}} {E = Failed} file s0 s1 (behind_gate images ++ replicate fill 0) (Err fault) old new
      → Names old.now.disk.master file → HoldsLog records place (of_file old.now.disk file)
      → WroteBody file place records images fill result old new
  body_failed fill s0 s1 fault result old new failed at stages names holds =
      record {
        moments = run_weaker (Behind file (place + 1) MAX_LOG_BYTES old.now.disk)
            (AppendMoment file records images old.now.disk) old new
            (λ disk. behind_moment old.now.disk disk names holds)
            (stages (place + 1) (ready_behind s0 old.now.disk at holds)).0;
        behind = on_err _ result failed;
        reads = on_err _ result failed;
      }

  -- the file once all that was staged is written
  body_written : (fill : ℕ) (s0 s1 : Stage) (old mid : Disk) → s0.at ≡ place + 1 → s0.filled ≡ 0 → s1.filled ≡ 0
      → (holds : HoldsLog records place (of_file old file))
      → Staged (place + 1) s0 s1 (behind_gate images ++ replicate fill 0) (of_file old file).bytes
      (of_file mid file).bytes
      → (of_file mid file).bytes ≡ put (of_file old file).bytes (place + 1) (behind_gate images ++ replicate fill 0)
  body_written fill s0 s1 old mid at empty flushed holds more =
      sym (put_nil (of_file mid file).bytes s1.at more.ready.no_gap)
      ∙ ap (λ (k : ℕ). put (of_file mid file).bytes s1.at (take k s1.buffer.items)) (sym flushed)
      ∙ more.reads
      ∙ ap₂ (λ (n : ℕ) (k : ℕ). put (put (of_file old file).bytes n (take k s0.buffer.items)) (n + k)
      (behind_gate images ++ replicate fill 0)) at empty
      ∙ ap (λ (l : List ℕ). put l (place + 1 + 0) (behind_gate images ++ replicate fill 0))
      (put_nil (of_file old file).bytes (place + 1) (omega (arith, holds.long)))
      ∙ ap (λ (n : ℕ). put (of_file old file).bytes n (behind_gate images ++ replicate fill 0)) (omega arith)

  -- it reads as the records, the gate, and the record behind it
  body_reads : (fill : ℕ) (old mid : List ℕ) (gate : ℕ) → place < length old
      → take (place + 1) old ≡ flat_map record_bytes records ++ gate ∷ []
      → mid ≡ put old (place + 1) (behind_gate images ++ replicate fill 0)
      → (place + length (behind_gate images) < length mid)
      × (take (place + 1 + length (behind_gate images)) mid
      ≡ flat_map record_bytes records ++ gate ∷ behind_gate images)
  body_reads fill old mid gate long front is =
      let bytes = behind_gate images in
      let more = bytes ++ replicate fill 0 in
      let count : length more ≡ length bytes + fill =
      omega (arith, length-append bytes (replicate fill 0), length-replicate {A = ℕ} fill 0) in
      let size : length mid ≡ max (length old) (place + 1 + length more) =
      ap length is ∙ length-put old more (place + 1) (omega (arith, long)) in
      let head : length (take (place + 1) old) ≡ place + 1 = omega (arith, length-take (place + 1) old, long) in (
        omega (arith, size, count),
        sym (take-take (place + 1 + length bytes) (place + 1 + length more) mid (omega (arith, count)))
            ∙ ap (λ (l : List ℕ). take (place + 1 + length bytes) l)
            (ap (λ (l : List ℕ). take (place + 1 + length more) l) is
            ∙ put_front old more (place + 1) (omega (arith, long))
            ∙ sym (append_assoc (take (place + 1) old) bytes (replicate fill 0)))
            ∙ take_at (take (place + 1) old ++ bytes) (replicate fill 0) (place + 1 + length bytes)
            (omega (arith, head, length-append (take (place + 1) old) bytes))
            ∙ ap (λ (l : List ℕ). l ++ bytes) front
            ∙ append_assoc (flat_map record_bytes records) (gate ∷ []) bytes,
      )

  -- a body that reads as it was written is firm once it is synced
  firm_body : (result : Answer) (gate : ℕ) (mid new : Story) → Syncs {T = Unit {0}} {E = Failed} file result mid new
      → take (place + 1 + length (behind_gate images)) (of_file mid.now.disk file).bytes ≡ flat_map record_bytes records
      ++ gate ∷ behind_gate images
      → IsLogRecord images → AllByRecursion IsLogRecord records → place ≡ length (flat_map record_bytes records)
      → place + length (behind_gate images) < length (of_file mid.now.disk file).bytes
      → OnOk result ((gate : ℕ) × HoldsOneMore records images place gate (of_file new.now.disk file))
  firm_body (Ok value) gate mid new syncs reads is_record whole place_is long =
      let is : of_file new.now.disk file ≡ synced (of_file mid.now.disk file) = syncs.change.here in (
        gate,
        record {
          whole = all_more IsLogRecord records images whole is_record;
          reads = ap (λ (d : FileData). take (place + 1 + length (behind_gate images)) d.bytes) is ∙ reads;
          place_is = place_is;
          firm = λ k within other. ap (λ (d : FileData). d.loose k) is;
          least = omega (arith, ap (λ (d : FileData). d.least) is);
          long = omega (arith, ap (λ (d : FileData). length d.bytes) is);
        },
      )
  firm_body (Err fault) gate mid new syncs reads is_record whole place_is long = tt

  body_synced : (fill : ℕ) (result : Answer) (old mid new : Story)
      → (of_file mid.now.disk file).bytes ≡ put (of_file old.now.disk file).bytes (place + 1)
      (behind_gate images ++ replicate fill 0)
      → Syncs {T = Unit {0}} {E = Failed} file result mid new
      → OnOk result ((of_file new.now.disk file).bytes ≡ put (of_file old.now.disk file).bytes (place + 1)
      (behind_gate images ++ replicate fill 0))
  body_synced fill (Ok value) old mid new is syncs = ap (λ (d : FileData). d.bytes) syncs.change.here ∙ is
  body_synced fill (Err fault) old mid new is syncs = tt

  pub body_done : (fill : ℕ) (s0 s1 : Stage) (result : Answer) (old mid new : Story) → s0.at ≡ place + 1 → s0.filled ≡ 0
      → s1.filled ≡ 0
      → IsImage mid.now.disk (files_of mid.now.disk)
      → StagesOk file s0 s1 (behind_gate images ++ replicate fill 0) old mid
      → Syncs {T = Unit {0}} {E = Failed} file result mid new
      → IsLogRecord images → Names old.now.disk.master file → HoldsLog records place (of_file old.now.disk file)
      → WroteBody file place records images fill result old new
  body_done fill s0 s1 result old mid new at empty written sound stages syncs is_record names holds =
      let Q : Disk → Type 0 = Behind file (place + 1) MAX_LOG_BYTES old.now.disk in
      let put = stages (place + 1) (ready_behind s0 old.now.disk at holds) in
      let reached : Q mid.now.disk =
      run_last Q old mid (behind_refl file (place + 1) MAX_LOG_BYTES old.now.disk) put.0 in
      let held : HoldsLog records place (of_file mid.now.disk file) =
      behind_holds records place MAX_LOG_BYTES file old.now.disk mid.now.disk holds reached in
      let sync = run_ends Q file (λ f g. g ≡ synced f) (λ f g. g ≡ f) result mid new
      (λ change. behind_then file (place + 1) MAX_LOG_BYTES old.now.disk mid.now.disk new.now.disk reached
      (synced_behind file (place + 1) MAX_LOG_BYTES mid.now.disk new.now.disk sound (omega (arith, held.long)) change))
      (λ change. behind_then file (place + 1) MAX_LOG_BYTES old.now.disk mid.now.disk new.now.disk reached
      (same_behind file (place + 1) MAX_LOG_BYTES mid.now.disk new.now.disk change))
      syncs in
      let is = body_written fill s0 s1 old.now.disk mid.now.disk at empty written holds put.1 in
      let body = body_reads fill (of_file old.now.disk file).bytes (of_file mid.now.disk file).bytes holds.gate
      holds.long holds.reads is in
      record {
        moments = run_weaker Q (AppendMoment file records images old.now.disk) old new
            (λ disk. behind_moment old.now.disk disk names holds) (run_then Q old mid new put.0 sync);
        behind = firm_body result holds.gate mid new syncs body.1 is_record holds.whole holds.place_is body.0;
        reads = body_synced fill result old mid new is syncs;
      }

  -- the gate is written, done or failed
  torn_moment : (gate : ℕ) (old new : Disk) → place < MAX_LOG_BYTES → IsImage old (files_of old) → Names old.master file
      → HoldsOneMore records images place gate (of_file old file)
      → ChangesFile file (Torn place 1) old new → AppendMoment file records images old new
  torn_moment gate old new room sound names holds change =
      gate_moment (slice_index (of_file new file).bytes place) place old new names
      (torn_gate records images place gate (of_file old file) (of_file new file) holds change.here)
      (torn_behind file place MAX_LOG_BYTES place 1 old new sound (omega arith) (omega (arith, holds.long))
      (omega arith) change)

  write_gate : (gate : ℕ) (result : Answer) (old new : Story) → place < MAX_LOG_BYTES
      → IsImage old.now.disk (files_of old.now.disk) → Names old.now.disk.master file
      → HoldsOneMore records images place gate (of_file old.now.disk file)
      → Writes {T = Unit {0}} {E = Failed} file place (OPEN_GATE ∷ []) result old new
      → Run (AppendMoment file records images old.now.disk) old new
  write_gate gate result old new room sound names holds writes =
      run_ends (AppendMoment file records images old.now.disk) file (λ f g. g ≡ written f place (OPEN_GATE ∷ []))
      (Torn place 1) result old new
      (λ change. torn_moment gate old.now.disk new.now.disk room sound names holds
      (record { here = written_torn place (OPEN_GATE ∷ []) _ _ change.here; elsewhere = change.elsewhere }))
      (torn_moment gate old.now.disk new.now.disk room sound names holds)
      writes

  pub gate_failed : (gate : ℕ) (fault : Failed) (result : Answer) (old new : Story) → IsErr result
      → place < MAX_LOG_BYTES → IsImage old.now.disk (files_of old.now.disk)
      → Writes {T = Unit {0}} {E = Failed} file place (OPEN_GATE ∷ []) (Err fault) old new
      → Names old.now.disk.master file → HoldsOneMore records images place gate (of_file old.now.disk file)
      → OpenedGate file place records images result old new
  gate_failed gate fault result old new failed room sound writes names holds = record {
    moments = write_gate gate (Err fault) old new room sound names holds writes;
    holds = on_err _ result failed;
    reads = on_err _ result failed;
  }

  -- the gate reads as it was written
  open_reads : (f g : FileData) → place < length f.bytes → g ≡ written f place (OPEN_GATE ∷ [])
      → slice_index g.bytes place ≡ OPEN_GATE
  open_reads f g long is =
      let front : take (place + 1) g.bytes ≡ take place f.bytes ++ OPEN_GATE ∷ [] =
      ap (λ (d : FileData). take (place + 1) d.bytes) is ∙ put_front f.bytes (OPEN_GATE ∷ []) place (omega arith) in
      let size : length (take place f.bytes) ≡ place = omega (arith, length-take place f.bytes) in
      let same : get_or (take (place + 1) g.bytes) place 0 ≡ get_or g.bytes place 0 = grind (arith, places) in
      sym same ∙ ap (λ (l : List ℕ). get_or l place 0) front ∙ ap
      (λ (n : ℕ). get_or (take place f.bytes ++ OPEN_GATE ∷ []) n 0) (sym size)
      ∙ get_or-append_seam (take place f.bytes) OPEN_GATE [] 0

  open_log : (result : Answer) (mid new : Story) → HoldsOneMore records images place OPEN_GATE
      (of_file mid.now.disk file) → Syncs {T = Unit {0}} {E = Failed} file result mid new
      → OnOk result (HoldsLog (records ++ images ∷ []) (place + length (behind_gate images))
      (of_file new.now.disk file))
  open_log (Ok value) mid new holds syncs =
      synced_log records images place (of_file mid.now.disk file) (of_file new.now.disk file) holds syncs.change.here
  open_log (Err fault) mid new holds syncs = tt

  gate_reads : (result : Answer) (old mid new : Story)
      → Writes {T = Unit {0}} {E = Failed} file place (OPEN_GATE ∷ []) (Ok tt) old mid
      → Syncs {T = Unit {0}} {E = Failed} file result mid new
      → OnOk result ((of_file new.now.disk file).bytes ≡ put (of_file old.now.disk file).bytes place (OPEN_GATE ∷ []))
  gate_reads (Ok value) old mid new writes syncs =
      ap (λ (d : FileData). d.bytes) syncs.change.here ∙ ap (λ (d : FileData). d.bytes) writes.change.here
  gate_reads (Err fault) old mid new writes syncs = tt

  pub gate_done : (gate : ℕ) (result : Answer) (old mid new : Story) → place < MAX_LOG_BYTES
      → IsImage old.now.disk (files_of old.now.disk) → IsImage mid.now.disk (files_of mid.now.disk)
      → Writes {T = Unit {0}} {E = Failed} file place (OPEN_GATE ∷ []) (Ok tt) old mid
      → Syncs {T = Unit {0}} {E = Failed} file result mid new
      → Names old.now.disk.master file → HoldsOneMore records images place gate (of_file old.now.disk file)
      → OpenedGate file place records images result old new
  gate_done gate result old mid new room sound sound_mid writes syncs names holds =
      let Q : Disk → Type 0 = AppendMoment file records images old.now.disk in
      let put = write_gate gate (Ok tt) old mid room sound names holds writes in
      let first : Q old.now.disk =
      gate_moment gate place old.now.disk old.now.disk names holds
      (behind_refl file place MAX_LOG_BYTES old.now.disk) in
      let reached : Q mid.now.disk = run_last Q old mid first put in
      let names_mid : Names mid.now.disk.master file =
      names_same old.now.disk mid.now.disk file in_log reached.only names in
      let torn : Torn place 1 (of_file old.now.disk file) (of_file mid.now.disk file) =
      written_torn place (OPEN_GATE ∷ []) _ _ writes.change.here in
      let is_open : slice_index (of_file mid.now.disk file).bytes place ≡ OPEN_GATE =
      open_reads (of_file old.now.disk file) (of_file mid.now.disk file) (omega (arith, holds.long))
      writes.change.here in
      let held : HoldsOneMore records images place OPEN_GATE (of_file mid.now.disk file) =
      subst (λ (b : ℕ). HoldsOneMore records images place b (of_file mid.now.disk file)) is_open
      (torn_gate records images place gate (of_file old.now.disk file) (of_file mid.now.disk file) holds torn) in
      let sync = run_ends Q file (λ f g. g ≡ synced f) (λ f g. g ≡ f) result mid new
      (λ change. moment_then old.now.disk mid.now.disk new.now.disk reached
      (gate_moment OPEN_GATE place mid.now.disk new.now.disk names_mid
      (synced_one_more records images place OPEN_GATE (of_file mid.now.disk file) (of_file new.now.disk file) held
      change.here)
      (synced_behind file place MAX_LOG_BYTES mid.now.disk new.now.disk sound_mid (omega (arith, held.long)) change)))
      (λ change. moment_then old.now.disk mid.now.disk new.now.disk reached
      (gate_moment OPEN_GATE place mid.now.disk new.now.disk names_mid
      (subst (λ (f : FileData). HoldsOneMore records images place OPEN_GATE f) (sym change.here) held)
      (same_behind file place MAX_LOG_BYTES mid.now.disk new.now.disk change)))
      syncs in
      record {
        moments = run_then Q old mid new put sync;
        holds = open_log result mid new held syncs;
        reads = gate_reads result old mid new writes syncs;
      }
