-- How a new volume is made.
use Rattle.std.proofs.Common.{◌≡◌, inl, inr, ◌⊎◌, ⊎_elim, ℕ, ◌+◌, ◌%◌, ◌==◌, if◌then◌else◌, ◌≤◌, Bool, true, false}
use Rattle.std.proofs.Common.{List, [], ◌∷◌, length, Ok, Err, refl, sym, ◌∙◌, ap, subst, arith}
use Rattle.std.specs.Result.{IsErr}
use Rattle.std.proofs.lemmas.List.{ext_get_or, drop_all}
use Rattle.ori_bytes.specs.declared.limits.TheConstants.{CLOSED_GATE, OPEN_GATE}
use Rattle.ori_volume.specs.declared.failed.Failed.{Failed}
use Rattle.ori_volume.specs.declared.file.FileNo.{FileNo}
use Rattle.ori_volume.specs.declared.file.FileNo.TheVariants.{Master, LogA, LogB, Pages}
use Rattle.ori_volume.specs.Disk.{of_file, with_file, FileData, Disk, Files, files_of, IsFileImage}
use Rattle.ori_volume.specs.Effects.{put, written}
use Rattle.ori_volume.specs.Story.{Story, FilesWrite}
use Rattle.ori_volume.specs.Runs.{Run, EachImage, Lasts}
use Rattle.ori_volume.proofs.RunSteps.{run_then, run_weaker, run_last, run_writes}
use Rattle.ori_log.specs.Log.{FilesData, IsTailOf, AreWhole, pages_at_home}
use Rattle.ori_log.specs.Files.{files_data}
use Rattle.ori_log.specs.Opening.{IsFirm, AllFirm, SyncsSound, WritesSound, IsNew, IsEmpty, HasLogs, made_files}
use Rattle.ori_log.specs.Opening.{IsFirmNew, MakesLogs, MakesMaster, Makes}
use Rattle.ori_log.proofs.Stages.{on_err}
use Rattle.ori_log.proofs.Settling.{Answer, sync_of, Syncing, begins, sync_run, sync_more, firm_synced}

pub firm_image : (f : FileData) (ys : List ℕ) → IsFirm f → IsFileImage f ys → ys ≡ f.bytes
firm_image f ys is image =
    let long : length ys ≡ length f.bytes = omega (arith, image.no_shorter, image.no_longer, is.least, is.greatest) in
    ext_get_or 0 ys f.bytes long (λ k within. image.firm k within (is.firm k))

-- one byte written at the start
pub write_of : FileNo → List ℕ → Disk → Disk
write_of file bytes disk = with_file disk file (written (of_file disk file) 0 bytes)

write_run : (P : Files → Type 0) (after : Disk → Disk) (file : FileNo) (byte : ℕ) (result : Answer) (a b c : Story)
    → ((s n : ℕ) → s + n ≤ 1 → Lasts file s n P) → Syncing P after a b
    → WritesSound {T = Unit {0}} {E = Failed} file (byte ∷ []) result b c → Run (EachImage P) b c
write_run P after file byte result a b c lasts before step =
    run_writes {T = Unit {0}} {E = Failed} P file 0 (byte ∷ []) result b c step.sound before.holds
    (lasts _ _ (omega arith)) step.writes

pub write_fails : (P : Files → Type 0) (after : Disk → Disk) (file : FileNo) (byte : ℕ) (result : Answer)
    (a b c : Story) → ((s n : ℕ) → s + n ≤ 1 → Lasts file s n P) → Syncing P after a b
    → WritesSound {T = Unit {0}} {E = Failed} file (byte ∷ []) result b c → Run (EachImage P) a c
write_fails P after file byte result a b c lasts before step =
    run_then (EachImage P) a b c before.run (write_run P after file byte result a b c lasts before step)

pub write_more : (P : Files → Type 0) (after : Disk → Disk) (file : FileNo) (byte : ℕ) (a b c : Story)
    → ((s n : ℕ) → s + n ≤ 1 → Lasts file s n P) → Syncing P after a b
    → WritesSound {T = Unit {0}} {E = Failed} file (byte ∷ []) (Ok tt) b c
    → Syncing P (λ d. write_of file (byte ∷ []) (after d)) a c
unfolding write_of
write_more P after file byte a b c lasts before step =
    let run = write_run P after file byte (Ok tt) a b c lasts before step in
    record {
      run = run_then (EachImage P) a b c before.run run;
      holds = run_last (EachImage P) b c before.holds run;
      disk =
          step.writes.change.elsewhere ∙ ap (λ (f : FileData). with_file b.now.disk file f) step.writes.change.here
          ∙ ap (λ (d : Disk). with_file d file (written (of_file d file) 0 (byte ∷ []))) before.disk;
    }

put_first : (old : List ℕ) (byte : ℕ) → length old ≤ 1 → put old 0 (byte ∷ []) ≡ byte ∷ []
put_first old byte short = ap (λ (l : List ℕ). byte ∷ l) (drop_all 1 old short)

-- ---- the logs

pub new_lasts_a : (s n : ℕ) → s + n ≤ 1 → Lasts LogA s n IsNew
new_lasts_a s n short old new change was = record {
  master = ap (λ (f : Files). f.master) change.elsewhere ∙ was.master;
  log_a = omega (arith, change.here.no_longer, was.log_a);
  log_b = omega (arith, ap (λ (f : Files). length f.log_b) change.elsewhere, was.log_b);
  pages = ap (λ (f : Files). f.pages) change.elsewhere ∙ was.pages;
}

pub new_lasts_b : (s n : ℕ) → s + n ≤ 1 → Lasts LogB s n IsNew
new_lasts_b s n short old new change was = record {
  master = ap (λ (f : Files). f.master) change.elsewhere ∙ was.master;
  log_a = omega (arith, ap (λ (f : Files). length f.log_a) change.elsewhere, was.log_a);
  log_b = omega (arith, change.here.no_longer, was.log_b);
  pages = ap (λ (f : Files). f.pages) change.elsewhere ∙ was.pages;
}

each_new : (disk : Disk) → IsFirmNew disk → EachImage IsNew disk
each_new disk is image allowed = record {
  master = firm_image disk.master image.master (is.firm Master) (allowed Master) ∙ is.new.master;
  log_a = omega (arith, ap length (firm_image disk.log_a image.log_a (is.firm LogA) (allowed LogA)), is.new.log_a);
  log_b = omega (arith, ap length (firm_image disk.log_b image.log_b (is.firm LogB) (allowed LogB)), is.new.log_b);
  pages = firm_image disk.pages image.pages (is.firm Pages) (allowed Pages) ∙ is.new.pages;
}

abbrev Gate : List ℕ
Gate = CLOSED_GATE ∷ []

-- what the calls leave, one after the other
abbrev pub WroteA : Story → Story → Type 0
WroteA a b = IsFirmNew a.now.disk → Syncing IsNew (λ d. write_of LogA Gate d) a b

abbrev pub WroteB : Story → Story → Type 0
WroteB a b = IsFirmNew a.now.disk → Syncing IsNew (λ d. write_of LogB Gate (write_of LogA Gate d)) a b

abbrev pub SyncedA : Story → Story → Type 0
SyncedA a b = IsFirmNew a.now.disk → Syncing IsNew (λ d. sync_of LogA (write_of LogB Gate (write_of LogA Gate d))) a b

at_first : (a : Story) → IsFirmNew a.now.disk → Syncing IsNew (λ d. d) a a
at_first a is = begins IsNew a (each_new a.now.disk is)

logs_failed : (result : Answer) (a b : Story) → IsErr result → (IsFirmNew a.now.disk → Run (EachImage IsNew) a b)
    → MakesLogs {T = Unit {0}} {E = Failed} result a b
logs_failed result a b failed run = λ is. record {
  moments = run is;
  firm = on_err (AllFirm b.now.disk) result failed;
  logs = on_err (HasLogs (files_of b.now.disk)) result failed;
}

pub write_a : (a b : Story) → WritesSound {T = Unit {0}} {E = Failed} LogA Gate (Ok tt) a b → WroteA a b
write_a a b step = λ is. write_more IsNew (λ d. d) LogA CLOSED_GATE a a b new_lasts_a (at_first a is) step

pub write_a_fails : (fault : Failed) (result : Answer) (a b : Story) → IsErr result
    → WritesSound {T = Unit {0}} {E = Failed} LogA Gate (Err fault) a b
    → MakesLogs {T = Unit {0}} {E = Failed} result a b
write_a_fails fault result a b failed step =
    logs_failed result a b failed (λ is. write_fails IsNew (λ d. d) LogA CLOSED_GATE (Err fault) a a b new_lasts_a
    (at_first a is) step)

pub write_b : (a b c : Story) → WroteA a b → WritesSound {T = Unit {0}} {E = Failed} LogB Gate (Ok tt) b c → WroteB a c
write_b a b c before step = λ is. write_more IsNew (λ d. write_of LogA Gate d) LogB CLOSED_GATE a b c new_lasts_b
    (before is) step

pub write_b_fails : (fault : Failed) (result : Answer) (a b c : Story) → IsErr result → WroteA a b
    → WritesSound {T = Unit {0}} {E = Failed} LogB Gate (Err fault) b c
    → MakesLogs {T = Unit {0}} {E = Failed} result a c
write_b_fails fault result a b c failed before step =
    logs_failed result a c failed (λ is. write_fails IsNew (λ d. write_of LogA Gate d) LogB CLOSED_GATE (Err fault) a b
    c new_lasts_b (before is) step)

pub sync_a : (a b c : Story) → WroteB a b → SyncsSound {T = Unit {0}} {E = Failed} LogA (Ok tt) b c → SyncedA a c
sync_a a b c before step = λ is. sync_more IsNew (λ d. write_of LogB Gate (write_of LogA Gate d)) LogA a b c (before is)
    step

pub sync_a_fails : (fault : Failed) (result : Answer) (a b c : Story) → IsErr result → WroteB a b
    → SyncsSound {T = Unit {0}} {E = Failed} LogA (Err fault) b c
    → MakesLogs {T = Unit {0}} {E = Failed} result a c
sync_a_fails fault result a b c failed before step =
    logs_failed result a c failed (λ is. sync_run IsNew (λ d. write_of LogB Gate (write_of LogA Gate d)) LogA
    (Err fault) a b c (before is) step)

abbrev logs_disk : Disk → Disk
logs_disk d = sync_of LogB (sync_of LogA (write_of LogB Gate (write_of LogA Gate d)))

logs_firm : (d : Disk) → IsFirmNew d → AllFirm (logs_disk d)
unfolding write_of
logs_firm d is Master = is.firm Master
logs_firm d is LogA = firm_synced (written d.log_a 0 Gate)
logs_firm d is LogB = firm_synced (written d.log_b 0 Gate)
logs_firm d is Pages = is.firm Pages

logs_stand : (d : Disk) → IsFirmNew d → HasLogs (files_of (logs_disk d))
unfolding write_of
logs_stand d is = record {
  master = omega (arith, ap length is.new.master);
  log_a = put_first d.log_a.bytes CLOSED_GATE is.new.log_a;
  log_b = put_first d.log_b.bytes CLOSED_GATE is.new.log_b;
  pages = is.new.pages;
}

pub sync_b : (result : Answer) (a b c : Story) → SyncedA a b → SyncsSound {T = Unit {0}} {E = Failed} LogB result b c
    → MakesLogs {T = Unit {0}} {E = Failed} result a c
sync_b (Ok tt) a b c before step = λ is.
    let all = sync_more IsNew (λ d. sync_of LogA (write_of LogB Gate (write_of LogA Gate d))) LogB a b c (before is)
    step in
    record {
      moments = all.run;
      firm = subst (λ (d : Disk). AllFirm d) (sym all.disk) (logs_firm a.now.disk is);
      logs = subst (λ (d : Disk). HasLogs (files_of d)) (sym all.disk) (logs_stand a.now.disk is);
    }
sync_b (Err fault) a b c before step = λ is. record {
  moments = sync_run IsNew (λ d. sync_of LogA (write_of LogB Gate (write_of LogA Gate d))) LogB (Err fault) a b c
      (before is) step;
  firm = tt;
  logs = tt;
}

-- the same of the bytes alone
pub files_logs : (old mid new : Files) → FilesWrite {T = Unit {0}} {E = Failed} LogA 0 Gate (Ok tt) old mid
    → FilesWrite {T = Unit {0}} {E = Failed} LogB 0 Gate (Ok tt) mid new → IsNew old → HasLogs new
files_logs old mid new first second is = record {
  master = omega (
    arith,
    ap (λ (f : Files). length f.master) first.elsewhere,
    ap (λ (f : Files). length f.master)
        second.elsewhere,
    ap length is.master,
  );
  log_a = ap (λ (f : Files). f.log_a) second.elsewhere ∙ first.here ∙ put_first old.log_a CLOSED_GATE is.log_a;
  log_b =
      second.here ∙ ap (λ (f : Files). put f.log_b 0 Gate) first.elsewhere ∙ put_first old.log_b CLOSED_GATE is.log_b;
  pages = ap (λ (f : Files). f.pages) second.elsewhere ∙ ap (λ (f : Files). f.pages) first.elsewhere ∙ is.pages;
}

pub files_master : (old new : Files) → FilesWrite {T = Unit {0}} {E = Failed} Master 0 (0 ∷ []) (Ok tt) old new
    → HasLogs old → new ≡ made_files
files_master old new write logs =
    write.elsewhere ∙ ap (λ (l : List ℕ). with_file old Master l) (write.here ∙ put_first old.master 0 logs.master)
    ∙ (λ i. record { master = 0 ∷ []; log_a = logs.log_a i; log_b = logs.log_b i; pages = logs.pages i })

-- ---- the master

master_lasts : (s n : ℕ) → s + n ≤ 1 → Lasts Master s n HasLogs
master_lasts s n short old new change was = record {
  master = omega (arith, change.here.no_longer, was.master);
  log_a = ap (λ (f : Files). f.log_a) change.elsewhere ∙ was.log_a;
  log_b = ap (λ (f : Files). f.log_b) change.elsewhere ∙ was.log_b;
  pages = ap (λ (f : Files). f.pages) change.elsewhere ∙ was.pages;
}

each_logs : (disk : Disk) → AllFirm disk → HasLogs (files_of disk) → EachImage HasLogs disk
each_logs disk firm logs image allowed = record {
  master = omega (arith, ap length (firm_image disk.master image.master (firm Master) (allowed Master)), logs.master);
  log_a = firm_image disk.log_a image.log_a (firm LogA) (allowed LogA) ∙ logs.log_a;
  log_b = firm_image disk.log_b image.log_b (firm LogB) (allowed LogB) ∙ logs.log_b;
  pages = firm_image disk.pages image.pages (firm Pages) (allowed Pages) ∙ logs.pages;
}

abbrev pub WroteMaster : Story → Story → Type 0
WroteMaster a b = AllFirm a.now.disk → HasLogs (files_of a.now.disk)
    → Syncing HasLogs (λ d. write_of Master (0 ∷ []) d) a b

logs_first : (a : Story) → AllFirm a.now.disk → HasLogs (files_of a.now.disk) → Syncing HasLogs (λ d. d) a a
logs_first a firm logs = begins HasLogs a (each_logs a.now.disk firm logs)

pub write_master : (a b : Story) → WritesSound {T = Unit {0}} {E = Failed} Master (0 ∷ []) (Ok tt) a b → WroteMaster a b
write_master a b step = λ firm logs. write_more HasLogs (λ d. d) Master 0 a a b master_lasts (logs_first a firm logs)
    step

pub write_master_fails : (fault : Failed) (result : Answer) (a b : Story) → IsErr result
    → WritesSound {T = Unit {0}} {E = Failed} Master (0 ∷ []) (Err fault) a b
    → MakesMaster {T = Unit {0}} {E = Failed} result a b
write_master_fails fault result a b failed step = λ firm logs. record {
  moments = write_fails HasLogs (λ d. d) Master 0 (Err fault) a a b master_lasts (logs_first a firm logs) step;
  firm = on_err (AllFirm b.now.disk) result failed;
  made = on_err (files_of b.now.disk ≡ made_files) result failed;
}

abbrev master_disk : Disk → Disk
master_disk d = sync_of Master (write_of Master (0 ∷ []) d)

master_firm : (d : Disk) → AllFirm d → AllFirm (master_disk d)
unfolding write_of
master_firm d firm Master = firm_synced (written d.master 0 (0 ∷ []))
master_firm d firm LogA = firm LogA
master_firm d firm LogB = firm LogB
master_firm d firm Pages = firm Pages

master_made : (d : Disk) → HasLogs (files_of d) → files_of (master_disk d) ≡ made_files
unfolding write_of
master_made d logs = λ i. record {
  master = put_first d.master.bytes 0 logs.master i;
  log_a = logs.log_a i;
  log_b =
      logs.log_b i;
  pages = logs.pages i;
}

pub sync_master : (result : Answer) (a b c : Story) → WroteMaster a b
    → SyncsSound {T = Unit {0}} {E = Failed} Master result b c → MakesMaster {T = Unit {0}} {E = Failed} result a c
sync_master (Ok tt) a b c before step = λ firm logs.
    let all = sync_more HasLogs (λ d. write_of Master (0 ∷ []) d) Master a b c (before firm logs) step in
    record {
      moments = all.run;
      firm = subst (λ (d : Disk). AllFirm d) (sym all.disk) (master_firm a.now.disk firm);
      made = ap (λ (d : Disk). files_of d) all.disk ∙ master_made a.now.disk logs;
    }
sync_master (Err fault) a b c before step = λ firm logs. record {
  moments = sync_run HasLogs (λ d. write_of Master (0 ∷ []) d) Master (Err fault) a b c (before firm logs) step;
  firm = tt;
  made = tt;
}

-- ---- both

closed_either : (test : Bool) (files : FilesData) → files.log_a ≡ Gate → files.log_b ≡ Gate
    → (if test then files.log_a else files.log_b) ≡ Gate
closed_either true files a b = a
closed_either false files a b = b

no_tail : (master : List ℕ) (files : FilesData) → files.log_a ≡ Gate → files.log_b ≡ Gate → IsTailOf master files []
no_tail [] files a b = refl
no_tail (byte ∷ bytes) files a b =
    (CLOSED_GATE, [], closed_either (byte % 2 == 0) files a b, (λ (same : CLOSED_GATE ≡ OPEN_GATE). omega arith), tt)

no_homes : (files : FilesData) → files.pages ≡ [] → AreWhole files []
no_homes files none page within unnamed =
    let here : pages_at_home files.pages ≡ 0 = ap pages_at_home none in
    absurd (omega (arith, here, within))

one_or_none : (xs : List ℕ) → length xs ≤ 1 → (xs ≡ []) ⊎ (length xs ≡ 1)
one_or_none [] short = inl refl
one_or_none (x ∷ xs) short = inr (omega arith)

pub logs_empty : (image : Files) → HasLogs image → IsEmpty image
logs_empty image logs =
    ⊎_elim (λ (none : image.master ≡ []). inl (record {
      master = none;
      log_a = omega (arith, ap length logs.log_a);
      log_b = omega (arith, ap length logs.log_b);
      pages = logs.pages;
    }))
    (λ (one : length image.master ≡ 1). inr (
      record {
        master = one;
        log_a = omega (arith, ap length logs.log_a);
        log_b = omega (arith, ap length logs.log_b);
        pages = omega (arith, ap length logs.pages);
        tail = no_tail image.master (files_data image) logs.log_a logs.log_b;
        homes = no_homes (files_data image) logs.pages;
      },
      logs.pages,
    ))
    (one_or_none image.master logs.master)

new_moments : (a b : Story) → Run (EachImage IsNew) a b → Run (EachImage IsEmpty) a b
new_moments a b run = run_weaker (EachImage IsNew) (EachImage IsEmpty) a b
    (λ disk each image allowed. inl (each image allowed)) run

logs_moments : (a b : Story) → Run (EachImage HasLogs) a b → Run (EachImage IsEmpty) a b
logs_moments a b run = run_weaker (EachImage HasLogs) (EachImage IsEmpty) a b
    (λ disk each image allowed. logs_empty image (each image allowed)) run

pub make_fails : (fault : Failed) (result : Answer) (a b : Story) → IsErr result
    → MakesLogs {T = Unit {0}} {E = Failed} (Err fault) a b → Makes {T = Unit {0}} {E = Failed} result a b
make_fails fault result a b failed logs = λ is. record {
  moments = new_moments a b (logs is).moments;
  firm = on_err (AllFirm b.now.disk) result failed;
  made = on_err (files_of b.now.disk ≡ made_files) result failed;
}

pub make_ends : (result : Answer) (a b c : Story) → MakesLogs {T = Unit {0}} {E = Failed} (Ok tt) a b
    → MakesMaster {T = Unit {0}} {E = Failed} result b c → Makes {T = Unit {0}} {E = Failed} result a c
make_ends result a b c logs master = λ is.
    let first = logs is in
    let second = master first.firm first.logs in
    record {
      moments = run_then (EachImage IsEmpty) a b c (new_moments a b first.moments) (logs_moments b c second.moments);
      firm = second.firm;
      made = second.made;
    }
