-- A log that was attached stands in the files as they read.
use Rattle.std.proofs.Common.{◌≡◌, ℕ, ◌<◌, List, [], ◌∷◌, length, flat_map, Option, Some, None, Ok, Err, IfOk}
use Rattle.std.proofs.Common.{IfSome}
use Rattle.std.proofs.Common.{◌∙◌, ap, subst, arith, sym, length-append, slice_index}
use Rattle.ori_bytes.specs.declared.limits.TheConstants.{CLOSED_GATE}
use Rattle.ori_volume.specs.declared.file.FileNo.{FileNo}
use Rattle.ori_volume.specs.declared.file.FileNo.TheVariants.{LogA}
use Rattle.ori_volume.specs.Disk.{of_file, Files}
use Rattle.ori_volume.specs.Story.{Tells}
use Rattle.ori_log.specs.Log.{ImageData, record_bytes, IsLog}
use Rattle.ori_log.specs.Files.{file_named}
use Rattle.ori_log.specs.Opening.{IsNew, made_files}
use Rattle.ori_log.specs.Appending.{StandsIn}
use Rattle.ori_log.specs.Attaching.{AttachesMade}
use Rattle.ori_log.specs.declared.log.Log.{Log}
use Rattle.ori_log.proofs.Attaching.{Attachment, log_of}

gate_within : (log : List ℕ) (records : List (List ImageData)) → IsLog log records
    → length (flat_map record_bytes records) < length log
gate_within log records (gate, rest, reads, closed, whole) =
    omega (arith, ap length reads, length-append (flat_map record_bytes records) (gate ∷ rest))

made_stands : (files : Files) (records : List (List ImageData)) (log : Log) (images : List ImageData)
    → AttachesMade files records log images → StandsIn log files
made_stands files records log images made =
    let some : 0 < length files.master = omega (arith, made.made.master) in
    let within = gate_within (of_file files log.file) records
    (log_of files.master files log.file records some made.file made.made.tail) in
    record {
      some = some;
      byte = made.byte;
      named = made.file ∙ ap file_named (sym made.byte);
      long = made.long;
      within = omega (arith, made.place, within);
    }

pub made_stands_told : (result : Attachment) (o : Option Files)
    → IfOk result (λ pair. IfSome o (λ fs. (records : List (List ImageData)) × AttachesMade fs records pair.0 pair.1))
    → IfOk result (λ pair. IfSome o (λ fs. StandsIn pair.0 fs))
made_stands_told (Ok (log, images)) (Some files) (records, made) = made_stands files records log images made
made_stands_told (Ok pair) None made = tt
made_stands_told (Err fault) o made = tt

pub new_stands : (log : Log) (old new : Option Files) → log.master ≡ 0 → log.file ≡ LogA → log.place ≡ 0
    → log.length ≡ 1 → IfSome old (λ fs. IsNew fs) → Tells (λ a b. IsNew a → b ≡ made_files) old new
    → IfSome new (λ fs. StandsIn log fs)
new_stands log None new byte file place size is_new told =
    subst (λ (o : Option Files). IfSome o (λ fs. StandsIn log fs)) (sym told) tt
new_stands log (Some a) new byte file place size is_new (b, is, made) =
    subst (λ (o : Option Files). IfSome o (λ fs. StandsIn log fs)) (sym is)
    (let here : of_file b log.file ≡ CLOSED_GATE ∷ [] =
    ap (λ (which : FileNo). of_file b which) file ∙ ap (λ (f : Files). f.log_a) (made is_new) in
    record {
      some = omega (arith, ap (λ (f : Files). length f.master) (made is_new));
      byte = byte ∙ sym (ap (λ (f : Files). slice_index f.master 0) (made is_new));
      named = file ∙ sym (ap file_named byte);
      long = omega (arith, size, ap length here);
      within = omega (arith, place, ap length here);
    })
