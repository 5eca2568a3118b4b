-- How a log is attached to a volume that a crash may have left.
use Rattle.std.proofs.Common.{◌≡◌, inl, inr, ℕ, ◌+◌, ◌<◌, ◌%◌, ◌==◌, List, [], ◌∷◌, ◌++◌, length, take, flat_map}
use Rattle.std.proofs.Common.{slice_index, Result, Ok, Err, OnOk, IfOk, refl, sym, ◌∙◌, ap, subst, arith, append_assoc}
use Rattle.std.proofs.Common.{length-append, take_at}
use Rattle.std.specs.Result.{IsErr}
use Rattle.ori_volume.specs.declared.failed.Failed.{Failed}
use Rattle.ori_volume.specs.declared.file.FileNo.{FileNo}
use Rattle.ori_volume.specs.declared.file.FileNo.TheVariants.{Master, LogA, LogB, Pages}
use Rattle.ori_volume.specs.Disk.{of_file, Disk, Files, files_of, IsImage}
use Rattle.ori_volume.specs.Story.{Story, Reads}
use Rattle.ori_volume.specs.Runs.{Run, EachImage}
use Rattle.ori_volume.proofs.RunSteps.{run_begins, run_weaker, run_reads, run_then}
use Rattle.ori_volume.proofs.Data.{of_files}
use Rattle.ori_bytes.specs.declared.limits.TheConstants.{CLOSED_GATE, OPEN_GATE}
use Rattle.ori_log.specs.Log.{ImageData, record_bytes, IsLog, IsTailOf}
use Rattle.ori_log.specs.Files.{file_named, files_data}
use Rattle.ori_log.specs.Opening.{AllFirm, IsNew, IsEmpty, made_files, Settles, Makes}
use Rattle.ori_log.specs.Appending.{IsAttached}
use Rattle.ori_log.specs.Attaching.{IsKeptOrMade, IsKeptOrEmpty, ListsLast, AttachesTo, AttachesMade, Attaches}
use Rattle.ori_log.specs.Attaching.{AttachedFirm, AttachesFirm}
use Rattle.ori_log.specs.declared.log.Log.{Log}
use Rattle.ori_log.specs.declared.fault.LogFault.{LogFault}
use Rattle.ori_log.proofs.Stages.{on_err}
use Rattle.ori_log.proofs.Told.{if_err}
use Rattle.ori_log.proofs.Logs.{chosen}
use Rattle.ori_log.proofs.Making.{firm_image}

abbrev pub Attachment : Type 0
Attachment = Result (Log × List ImageData) LogFault

-- of a volume of which all is firm, a crash leaves the files as they read
pub each_as_read : (disk : Disk) → AllFirm disk → EachImage (λ image. image ≡ files_of disk) disk
each_as_read disk firm image allowed = λ i. record {
  master = firm_image disk.master image.master (firm Master) (allowed Master) i;
  log_a = firm_image disk.log_a image.log_a (firm LogA) (allowed LogA) i;
  log_b = firm_image disk.log_b image.log_b (firm LogB) (allowed LogB) i;
  pages = firm_image disk.pages image.pages (firm Pages) (allowed Pages) i;
}

-- a log whose files are firm is attached
firm_attached : (disk : Disk) (log : Log) (records : List (List ImageData)) → AllFirm disk
    → 0 < length disk.master.bytes → log.file ≡ file_named (slice_index disk.master.bytes 0)
    → IsLog (of_file disk log.file).bytes records → log.place ≡ length (flat_map record_bytes records)
    → log.tail ≡ length records → log.master ≡ slice_index disk.master.bytes 0
    → log.length ≡ length (of_file disk log.file).bytes → IsAttached log records disk
firm_attached disk log records firm some file (gate, rest, reads, closed, whole) place counts byte size =
    let front : List ℕ = flat_map record_bytes records in
    let long : log.place < length (of_file disk log.file).bytes =
    omega (arith, ap length reads, length-append front (gate ∷ rest), place) in
    record {
      names = record {
        named = sym file;
        firm = (firm Master).firm 0;
        least = omega (arith, (firm Master).least, some);
      };
      holds = record {
        whole = whole;
        gate = gate;
        closed = closed;
        reads = ap (λ (l : List ℕ). take (log.place + 1) l) (reads ∙ sym (append_assoc front (gate ∷ []) rest))
            ∙ take_at (front ++ gate ∷ []) rest (log.place + 1) (omega (arith, length-append front (gate ∷ []), place));
        place_is = place;
        firm = λ k within. (firm log.file).firm k;
        least = omega (arith, (firm log.file).least, long);
        long = long;
      };
      counts = counts;
      byte = byte;
      long = size;
    }

-- ---- a new volume

made_moments : (a b : Story) → IsNew (files_of a.now.disk) → Run (EachImage IsEmpty) a b
    → Run (EachImage (IsKeptOrEmpty (files_of a.now.disk))) a b
made_moments a b new run =
    run_weaker (EachImage IsEmpty) (EachImage (IsKeptOrEmpty (files_of a.now.disk))) a b
    (λ disk each image allowed. inr (new, each image allowed)) run

pub new_fails : (fault : Failed) (result : Attachment) (a b : Story) → IsErr result → IsNew (files_of a.now.disk)
    → Makes {T = Unit {0}} {E = Failed} (Err fault) a b → AttachesFirm result a b
new_fails fault result a b failed new makes = λ firm.
    let made = makes (record { firm = firm; new = new }) in
    record {
      making = made_moments a b new made.moments;
      firm = on_err (AllFirm b.now.disk) result failed;
      reads = on_err (IsKeptOrMade (files_of a.now.disk) (files_of b.now.disk)) result failed;
      attached = if_err _ result failed;
    }

-- the log of files that have just been made
new_attached : (disk : Disk) (log : Log) → AllFirm disk → files_of disk ≡ made_files → log.master ≡ 0 → log.file ≡ LogA
    → log.place ≡ 0 → log.tail ≡ 0 → log.length ≡ 1 → IsAttached log [] disk
new_attached disk log firm made byte file place counts size =
    let master : disk.master.bytes ≡ 0 ∷ [] = ap (λ (f : Files). f.master) made in
    let log_a : disk.log_a.bytes ≡ CLOSED_GATE ∷ [] = ap (λ (f : Files). f.log_a) made in
    let here : (of_file disk log.file).bytes ≡ CLOSED_GATE ∷ [] =
    ap (λ (which : FileNo). (of_file disk which).bytes) file ∙ log_a in
    firm_attached disk log [] firm (omega (arith, ap length master))
    (file ∙ sym (ap (λ (l : List ℕ). file_named (slice_index l 0)) master))
    (CLOSED_GATE, [], here, (λ (same : CLOSED_GATE ≡ OPEN_GATE). omega arith), tt) place counts
    (byte ∙ sym (ap (λ (l : List ℕ). slice_index l 0) master)) (omega (arith, size, ap length here))

pub new_done : (log : Log) (images : List ImageData) (a b : Story) → IsNew (files_of a.now.disk) → log.master ≡ 0
    → log.file ≡ LogA → log.place ≡ 0 → log.tail ≡ 0 → log.length ≡ 1 → images ≡ []
    → Makes {T = Unit {0}} {E = Failed} (Ok tt) a b → AttachesFirm {E = LogFault} (Ok (log, images)) a b
new_done log images a b new byte file place counts size none makes = λ firm.
    let made = makes (record { firm = firm; new = new }) in
    record {
      making = made_moments a b new made.moments;
      firm = made.firm;
      reads = inr (new, made.made);
      attached = (
        [],
        record {
          form = inl (new, refl);
          counts = counts;
          place = place;
          lists = subst
              (λ (l : List ImageData). ListsLast [] l) (sym none) (record { rising = tt; last = λ page. refl });
        },
        new_attached b.now.disk log made.firm made.made byte file place counts size,
      );
    }

-- ---- a made one

pub log_of : (master : List ℕ) (image : Files) (file : FileNo) (records : List (List ImageData)) → 0 < length master
    → file ≡ file_named (slice_index master 0) → IsTailOf master (files_data image) records
    → IsLog (of_file image file) records
log_of [] image file records some is tail = absurd (omega (arith, some))
log_of (byte ∷ bytes) image file records some is tail =
    subst (λ (which : FileNo). IsLog (of_file image which) records) (sym is)
    (subst (λ (l : List ℕ). IsLog l records) (chosen (byte % 2 == 0) image) tail)

made_attached : (disk : Disk) (log : Log) (records : List (List ImageData)) (images : List ImageData) → AllFirm disk
    → AttachesMade (files_of disk) records log images → IsAttached log records disk
made_attached disk log records images firm made =
    firm_attached disk log records firm (omega (arith, made.made.master)) made.file
    (subst (λ (l : List ℕ). IsLog l records) (of_files disk log.file)
    (log_of disk.master.bytes (files_of disk) log.file records (omega (arith, made.made.master)) made.file
    made.made.tail)) made.place made.counts made.byte
    (made.long ∙ ap length (of_files disk log.file))

kept : (result : Attachment) (a b : Story) → Reads a b → AllFirm a.now.disk
    → IfOk result (λ pair. (records : List (List ImageData)) × AttachesMade (files_of a.now.disk) records pair.0 pair.1)
    → AttachedFirm result a b
kept (Ok (log, images)) a b reads firm made =
    let same : b.now.disk ≡ a.now.disk = reads.disk in
    record {
      making = run_reads (EachImage (IsKeptOrEmpty (files_of a.now.disk))) a b reads;
      firm = subst (λ (d : Disk). AllFirm d) (sym same) firm;
      reads = inl (ap (λ (d : Disk). files_of d) same);
      attached = (
        made.0,
        record { form = inr (made.1).made; counts = (made.1).counts; place = (made.1).place; lists = (made.1).lists },
        subst (λ (d : Disk). IsAttached log made.0 d) (sym same)
            (made_attached a.now.disk log made.0 images firm made.1),
      );
    }
kept (Err fault) a b reads firm made = record {
  making = run_reads (EachImage (IsKeptOrEmpty (files_of a.now.disk))) a b reads;
  firm = tt;
  reads = tt;
  attached = tt;
}

-- reads first, and then the rest
pub reads_first : (result : Attachment) (a b c : Story) → Reads a b → AttachesFirm result b c → AttachesFirm result a c
reads_first result a b c reads later = λ firm.
    let same : b.now.disk ≡ a.now.disk = reads.disk in
    let done = later (subst (λ (d : Disk). AllFirm d) (sym same) firm) in
    let Q : Disk → Type 0 = EachImage (IsKeptOrEmpty (files_of a.now.disk)) in
    record {
      making = run_then Q a b c (run_reads Q a b reads) (subst
          (λ (d : Disk). Run (EachImage (IsKeptOrEmpty (files_of d))) b c) same done.making);
      firm = done.firm;
      reads = subst (λ (d : Disk). OnOk result (IsKeptOrMade (files_of d) (files_of c.now.disk))) same done.reads;
      attached = subst (λ (d : Disk). IfOk result (λ pair. (records : List (List ImageData))
          × AttachesTo (files_of d) records pair.0 pair.1 × IsAttached pair.0 records c.now.disk)) same done.attached;
    }

reads_both : (a b c : Story) → Reads a b → Reads b c → Reads a c
reads_both a b c first second = record { past = second.past ∙ first.past; disk = second.disk ∙ first.disk }

pub made_read : (result : Attachment) (a b c : Story) → Reads a b → Reads b c
    → IfOk result (λ pair. (records : List (List ImageData)) × AttachesMade (files_of a.now.disk) records pair.0 pair.1)
    → AttachesFirm result a c
made_read result a b c first second made = λ firm. kept result a c (reads_both a b c first second) firm made

-- ---- all files are made firm first

pub not_begun : (result : Attachment) (a : Story) → IsErr result → Attaches result a a
not_begun result a failed = record {
  firmed = a;
  settling = run_begins (EachImage (λ image. IsImage a.now.disk image)) a a refl;
  soon = omega arith;
  making = run_begins (EachImage (IsKeptOrEmpty (files_of a.now.disk))) a a refl;
  firm = on_err (AllFirm a.now.disk) result failed;
  reads = on_err (IsKeptOrMade (files_of a.now.disk) (files_of a.now.disk)) result failed;
  attached = if_err _ result failed;
}

pub firm_then : (result : Attachment) (a b c : Story) → Settles {T = Unit {0}} {E = Failed} (Ok tt) a b
    → AttachesFirm result b c → Attaches result a c
firm_then result a b c settles later =
    let done = later settles.firm in
    let same : files_of b.now.disk ≡ files_of a.now.disk = settles.reads in
    record {
      firmed = b;
      settling = settles.moments;
      soon = settles.soon;
      making = subst (λ (f : Files). Run (EachImage (IsKeptOrEmpty f)) b c) same done.making;
      firm = done.firm;
      reads = subst (λ (f : Files). OnOk result (IsKeptOrMade f (files_of c.now.disk))) same done.reads;
      attached = subst (λ (f : Files). IfOk result (λ pair. (records : List (List ImageData))
          × AttachesTo f records pair.0 pair.1 × IsAttached pair.0 records c.now.disk)) same done.attached;
    }
