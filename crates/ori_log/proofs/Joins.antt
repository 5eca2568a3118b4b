-- A record joins a log: its body is written, and then its gate is opened.
use Rattle.std.proofs.Common.{◌≡◌, ℕ, ◌+◌, ◌<◌, ◌≤◌, max, List, [], ◌∷◌, ◌++◌, length, replicate, slice_index, Result}
use Rattle.std.proofs.Common.{Ok, Err, refl, sym, ◌∙◌, ap, subst}
use Rattle.std.proofs.Common.{arith, length-append}
use Rattle.std.specs.List.{AllByRecursion}
use Rattle.std.proofs.lemmas.List.{length-replicate}
use Rattle.std.specs.Result.{IsErr}
use Rattle.ori_bytes.specs.declared.limits.TheConstants.{MAX_LOG_BYTES, MAX_WEIGHT, OPEN_GATE}
use Rattle.ori_volume.specs.declared.failed.Failed.{Failed}
use Rattle.ori_volume.specs.declared.file.FileNo.{FileNo}
use Rattle.ori_volume.specs.Disk.{of_file, FileData, Disk}
use Rattle.ori_volume.specs.Effects.{put}
use Rattle.ori_volume.specs.Story.{Story}
use Rattle.ori_volume.specs.Runs.{Run}
use Rattle.ori_volume.proofs.RunSteps.{run_begins, run_then, run_weaker, run_last}
use Rattle.ori_log.specs.Log.{ImageData, IsLogRecord, AreImages}
use Rattle.ori_log.specs.Files.{zeros_behind, appended}
use Rattle.ori_log.specs.Images.{behind_gate, IsWhole, AreRising}
use Rattle.ori_log.specs.Logs.{Names, HoldsLog}
use Rattle.ori_log.specs.Appending.{IsAttached, AppendMoment, Appends, WroteBody, WritesBody, OpensGate}
use Rattle.ori_log.specs.declared.log.Log.{Log}
use Rattle.ori_log.specs.declared.fault.LogFault.{LogFault}
use Rattle.ori_log.proofs.Behind.{behind_refl}
use Rattle.ori_log.proofs.Puts.{put_before, length-put}
use Rattle.ori_log.proofs.Stages.{on_err}
use Rattle.ori_log.proofs.Logs.{each_has_tail, names_same, master_same}
use Rattle.ori_log.proofs.Appends.{behind_moment, moment_then}

rising_images : (low : ℕ) (images : List ImageData) → AreRising low images → AllByRecursion IsWhole images
    → AreImages low images
rising_images low [] rising whole = tt
rising_images low (i ∷ images) rising whole =
    (rising.0, rising.1, (whole.0).0, (whole.0).1, rising_images (i.page + 1) images rising.2 whole.1)

pub log_record : (images : List ImageData) → 0 < length images → length images ≤ MAX_WEIGHT → AreRising 0 images
    → AllByRecursion IsWhole images → IsLogRecord images
log_record images some few rising whole =
    record { some = some; few = few; rising = rising_images 0 images rising whole }

module _ (log new_log : Log) (images : List ImageData) where
  abbrev Q : List (List ImageData) → Story → Disk → Type 0
  Q records old disk = AppendMoment log.file records images old.now.disk disk

  pub full_joins : (result : Result (Unit {0}) LogFault) (story : Story) → IsErr result
      → Appends {T = Unit {0}} {E = LogFault} log new_log images result story story
  full_joins result story failed = λ records attached. record {
    moments = run_begins (Q records story) story story refl;
    attached = on_err _ result failed;
    firm = on_err _ result failed;
    reads = on_err _ result failed;
  }

  pub body_fails : (fill : ℕ) (fault : Failed) (result : Result (Unit {0}) LogFault) (old new : Story) → IsErr result
      → IsLogRecord images
      → WritesBody {T = Unit {0}} {E = Failed} log.file log.place images fill (Err fault) old new
      → Appends {T = Unit {0}} {E = LogFault} log new_log images result old new
  body_fails fill fault result old new failed is_record body = λ records attached. record {
    moments = (body records is_record attached.names attached.holds).moments;
    attached = on_err _ result failed;
    firm = on_err _ result failed;
    reads = on_err _ result failed;
  }

  module _ (fill : ℕ) (records : List (List ImageData)) (old mid : Story)
      (attached : IsAttached log records old.now.disk)
      (body : WroteBody {T = Unit {0}} {E = Failed} log.file log.place records images fill (Ok tt) old mid) where
    begins : Q records old old.now.disk
    begins = behind_moment log.file log.place records images log.in_log old.now.disk old.now.disk attached.names
        attached.holds (behind_refl log.file (log.place + 1) MAX_LOG_BYTES old.now.disk)

    reached : Q records old mid.now.disk
    reached = run_last (Q records old) old mid begins body.moments

    names_mid : Names mid.now.disk.master log.file
    names_mid = names_same old.now.disk mid.now.disk log.file log.in_log reached.only attached.names

    both : (new : Story) → Run (Q records mid) mid new → Run (Q records old) old new
    both new gate =
        run_then (Q records old) old mid new body.moments
        (run_weaker (Q records mid) (Q records old) mid new (λ disk later. moment_then log.file log.place records images
        log.in_log old.now.disk mid.now.disk disk reached later) gate)

  pub gate_fails : (fill : ℕ) (fault : Failed) (result : Result (Unit {0}) LogFault) (old mid new : Story)
      → IsErr result
      → IsLogRecord images
      → WritesBody {T = Unit {0}} {E = Failed} log.file log.place images fill (Ok tt) old mid
      → OpensGate {T = Unit {0}} {E = Failed} log.file log.place (Err fault) mid new
      → Appends {T = Unit {0}} {E = LogFault} log new_log images result old new
  gate_fails fill fault result old mid new failed is_record writes opens = λ records attached.
      let body = writes records is_record attached.names attached.holds in
      let gate = opens records images (body.behind).0 (names_mid fill records old mid attached body) (body.behind).1 in
      record {
        moments = both fill records old mid attached body new gate.moments;
        attached = on_err _ result failed;
        firm = on_err _ result failed;
        reads = on_err _ result failed;
      }

  -- the file as its record and its gate were written
  pub both_read : (fill : ℕ) (xs ys zs : List ℕ) → log.place < length xs → log.length ≡ length xs
      → fill ≡ zeros_behind log.length (log.place + 1 + length (behind_gate images))
      → ys ≡ put xs (log.place + 1) (behind_gate images ++ replicate fill 0)
      → zs ≡ put ys log.place (OPEN_GATE ∷ []) → zs ≡ appended xs log.place images
  both_read fill xs ys zs within long is body gate =
      gate ∙ ap (λ (l : List ℕ). put l log.place (OPEN_GATE ∷ [])) body
      ∙ put_before xs (behind_gate images ++ replicate fill 0) log.place OPEN_GATE within
      ∙ ap (λ (n : ℕ). put xs log.place (OPEN_GATE ∷ behind_gate images ++ replicate n 0))
      (is ∙ ap (λ (n : ℕ). zeros_behind n (log.place + 1 + length (behind_gate images))) long)

  pub both_long : (xs zs : List ℕ) (fill : ℕ) → log.place < length xs → log.length ≡ length xs
      → fill ≡ zeros_behind log.length (log.place + 1 + length (behind_gate images)) → zs ≡ appended xs log.place images
      → length zs ≡ max log.length (log.place + 1 + length (behind_gate images) + fill)
  both_long xs zs fill within long is reads =
      let n : ℕ = zeros_behind (length xs) (log.place + 1 + length (behind_gate images)) in
      let same : fill ≡ n =
      is ∙ ap (λ (m : ℕ). zeros_behind m (log.place + 1 + length (behind_gate images))) long in
      omega (
        arith,
        ap length reads,
        length-put xs (OPEN_GATE ∷ behind_gate images ++ replicate n 0) log.place (omega (arith, within)),
        length-append (behind_gate images) (replicate n 0),
        length-replicate {A = ℕ} n 0,
        same,
        long,
      )

  pub joins : (fill : ℕ) (old mid new : Story) → IsLogRecord images → new_log.file ≡ log.file
      → new_log.place ≡ log.place + length (behind_gate images) → new_log.tail ≡ log.tail + 1
      → new_log.master ≡ log.master
      → new_log.length ≡ max log.length (log.place + 1 + length (behind_gate images) + fill)
      → fill ≡ zeros_behind log.length (log.place + 1 + length (behind_gate images))
      → WritesBody {T = Unit {0}} {E = Failed} log.file log.place images fill (Ok tt) old mid
      → OpensGate {T = Unit {0}} {E = Failed} log.file log.place (Ok tt) mid new
      → Appends {T = Unit {0}} {E = LogFault} log new_log images (Ok tt) old new
  joins fill old mid new is_record file place tail master length_is zeros_is writes opens = λ records attached.
      let body = writes records is_record attached.names attached.holds in
      let gate = opens records images (body.behind).0 (names_mid fill records old mid attached body) (body.behind).1 in
      let run = both fill records old mid attached body new gate.moments in
      let last : Q records old new.now.disk =
      run_last (Q records old) old new (begins fill records old mid attached body) run in
      let names : Names new.now.disk.master log.file =
      names_same old.now.disk new.now.disk log.file log.in_log last.only attached.names in
      let holds : HoldsLog (records ++ images ∷ []) new_log.place (of_file new.now.disk log.file) =
      subst (λ (n : ℕ). HoldsLog (records ++ images ∷ []) n (of_file new.now.disk log.file)) (sym place) gate.holds in
      let reads : (of_file new.now.disk log.file).bytes
      ≡ appended (of_file old.now.disk log.file).bytes log.place images =
      both_read fill (of_file old.now.disk log.file).bytes (of_file mid.now.disk log.file).bytes
      (of_file new.now.disk log.file).bytes attached.holds.long attached.long zeros_is body.reads gate.reads in
      record {
        moments = run;
        attached = record {
          names = subst (λ (f : FileNo). Names new.now.disk.master f) (sym file) names;
          holds = subst (λ (f : FileNo). HoldsLog (records ++ images ∷ []) new_log.place (of_file new.now.disk f))
              (sym file) holds;
          counts = omega (arith, tail, attached.counts, length-append records (images ∷ []));
          byte = master ∙ attached.byte ∙ ap (λ (m : FileData). slice_index m.bytes 0)
              (sym (master_same old.now.disk new.now.disk log.file _ log.in_log last.only));
          long = length_is
              ∙ sym (both_long (of_file old.now.disk log.file).bytes (of_file new.now.disk log.file).bytes fill
              attached.holds.long attached.long zeros_is reads)
              ∙ ap (λ (f : FileNo). length (of_file new.now.disk f).bytes) (sym file);
        };
        firm = each_has_tail (records ++ images ∷ []) new_log.place log.file new.now.disk names holds;
        reads = reads;
      }

-- the same of the file and the place that another log has
pub opens_there : {T E : Type 0} (log mid_log : Log) (result : Result T E) (mid new : Story) → mid_log.file ≡ log.file
    → mid_log.place ≡ log.place
    → OpensGate mid_log.file mid_log.place result mid new → OpensGate log.file log.place result mid new
opens_there log mid_log result mid new file place opens =
    subst (λ (f : FileNo). OpensGate f log.place result mid new) file
    (subst (λ (n : ℕ). OpensGate mid_log.file n result mid new) place opens)
