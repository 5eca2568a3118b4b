-- Cover through the calls of the log: an append and a switch.
use Rattle.std.proofs.Common.{◌<◌, ◌≤◌, true, ◌≡◌, inl, inr, ⊎_elim, true, List, [], ◌∷◌, ◌++◌}
use Rattle.std.proofs.Common.{Result, Ok, Err, OnOk, refl, sym, ◌∙◌, ap, subst, arith, length-append}
use Rattle.std.proofs.lemmas.Option.{none-some}
use Rattle.ori_bytes.specs.declared.limits.TheConstants.{MAX_LOG_BYTES}
use Rattle.ori_volume.specs.declared.file.FileNo.{FileNo}
use Rattle.ori_volume.specs.declared.file.FileNo.TheVariants.{Master, LogA, LogB, Pages}
use Rattle.ori_volume.specs.Disk.{of_file, with_file, FileData, Disk, files_of, firm_file}
use Rattle.ori_volume.specs.Story.{Story}
use Rattle.ori_volume.proofs.Data.{with_of}
use Rattle.ori_volume.proofs.RunSteps.{run_weaker, run_last}
use Rattle.ori_log.specs.Log.{ImageData, pages_of}
use Rattle.ori_log.specs.Files.{is_log_file, other_log, files_data}
use Rattle.ori_log.specs.Logs.{HasTail, GivesPages}
use Rattle.ori_log.specs.Opening.{IsFirm}
use Rattle.ori_log.specs.Appending.{IsAttached, AppendMoment, Joins, Appends}
use Rattle.ori_log.specs.Switching.{AreHome, SwitchMoment, Switched, Switches}
use Rattle.ori_log.specs.declared.log.Log.{Log}
use Rattle.ori_log.proofs.Behind.{behind_refl}
use Rattle.ori_log.proofs.Logs.{each_has_tail}
use Rattle.ori_log.proofs.Switching.{clearing, other_in_log}
use Rattle.ori_cover.specs.Dirty.{Dirty, AreClean, AreInstalled}
use Rattle.ori_cover.specs.Given.{Gives, ArePut}
use Rattle.ori_cover.specs.Cover.{IsSized, IsCovered, Stands, Covers}
use Rattle.ori_cover.specs.Steps.{PutsRecord, SwitchesLog}
use Rattle.ori_cover.proofs.Given.{gives_pages, gives_put, homes_given}
use Rattle.ori_cover.proofs.Covering.{Records, PageList, named_more, covered_installed, all_home, covered_switched}
use Rattle.ori_cover.proofs.Covering.{are_home}

-- a file of which all is firm
pub firm_is : (file : FileData) → IsFirm file → file ≡ firm_file file.bytes
firm_is file firm = λ i. record {
  bytes = file.bytes;
  loose = λ k. firm.firm k i;
  least = firm.least i;
  greatest = firm.greatest i;
}

-- a log file is no file of pages
pages_kept : (old new : Disk) (file : FileNo) (f : FileData) → is_log_file file ≡ true → new ≡ with_file old file f
    → new.pages ≡ old.pages
pages_kept old new Master f in_log only = absurd (cc in_log)
pages_kept old new LogA f in_log only = ap (λ (d : Disk). d.pages) only
pages_kept old new LogB f in_log only = ap (λ (d : Disk). d.pages) only
pages_kept old new Pages f in_log only = absurd (cc in_log)

other_pages : (file : FileNo) (old : Disk) (f : FileData) → (with_file old (other_log file) f).pages ≡ old.pages
other_pages Master old f = refl
other_pages LogA old f = refl
other_pages LogB old f = refl
other_pages Pages old f = refl

-- no log gets longer than it may be while one of them changes to a file that isn't
pub log_sized : (file : FileNo) (old new : Disk) (f : FileData) → is_log_file file ≡ true → IsSized old
    → new ≡ with_file old file f → f.greatest ≤ MAX_LOG_BYTES → IsSized new
log_sized Master old new f in_log sized only short = absurd (cc in_log)
log_sized LogA old new f in_log sized only short =
    subst (λ (d : Disk). IsSized d) (sym only)
    (record { some = sized.some; one = sized.one; log_a = short; log_b = sized.log_b })
log_sized LogB old new f in_log sized only short =
    subst (λ (d : Disk). IsSized d) (sym only)
    (record { some = sized.some; one = sized.one; log_a = sized.log_a; log_b = short })
log_sized Pages old new f in_log sized only short = absurd (cc in_log)

pub log_short : (file : FileNo) (disk : Disk) → is_log_file file ≡ true → IsSized disk
    → (of_file disk file).greatest ≤ MAX_LOG_BYTES
log_short Master disk in_log sized = absurd (cc in_log)
log_short LogA disk in_log sized = sized.log_a
log_short LogB disk in_log sized = sized.log_b
log_short Pages disk in_log sized = absurd (cc in_log)

-- nor while the other one and the master change so
pub switch_sized : (file : FileNo) (old new : Disk) (f m : FileData) → IsSized old
    → new ≡ with_file (with_file old (other_log file) f) Master m → f.greatest ≤ MAX_LOG_BYTES → 0 < m.least
    → m.greatest ≤ 1 → IsSized new
switch_sized file old new f m sized only short some one =
    let cleared = with_file old (other_log file) f in
    let mid : IsSized cleared = log_sized (other_log file) old cleared f (other_in_log file) sized refl short in
    subst (λ (d : Disk). IsSized d) (sym only)
    (record { some = some; one = one; log_a = mid.log_a; log_b = mid.log_b })

-- ---- an append

module _ (log : Log) (images : List ImageData) (dirty : Dirty) (pages put : PageList) (records : Records) (old : Disk)
    (stands : Stands log records dirty pages old) (are_put : ArePut images pages put) where
  abbrev Q : Disk → Type 0
  Q = AppendMoment log.file records images old

  same_pages : (disk : Disk) → Q disk → old.pages ≡ disk.pages
  same_pages disk moment = sym (pages_kept old disk log.file (of_file disk log.file) log.in_log moment.only)

  append_covers : (disk : Disk) → Q disk → Covers dirty pages put records disk
  append_covers disk moment =
      let same : old.pages ≡ disk.pages = same_pages disk moment in
      record {
        sized = log_sized log.file old disk (of_file disk log.file) log.in_log stands.sized moment.only
            (omega (arith, moment.short, log_short log.file old log.in_log stands.sized));
        covered = subst (λ (f : FileData). IsCovered dirty pages records f) same stands.covered;
        tail = λ image allowed. ⊎_elim (λ (tail : HasTail records image). inl tail)
            (λ (tail : HasTail (records ++ images ∷ []) image). inr (record {
              found = records ++ images ∷ [];
              tail = tail;
              gives = gives_put images records pages put disk.pages
                  (subst (λ (f : FileData). Gives pages records f) same stands.covered.gives) are_put;
              named = λ page d some. named_more page records images d.content (stands.covered.last page d some);
              number = inl (length-append records (images ∷ []));
            }))
            (moment.either image allowed);
      }

  append_begins : Q old
  append_begins = record {
    only = sym (with_of old log.file);
    short = omega arith;
    either = λ image allowed. inl (each_has_tail records log.place log.file old stands.attached.names
        stands.attached.holds image allowed);
  }

  append_stands : (new_log : Log) (now : Dirty) (disk : Disk) → Q disk
      → IsAttached new_log (records ++ images ∷ []) disk → AreInstalled images dirty now
      → Stands new_log (records ++ images ∷ []) now put disk
  append_stands new_log now disk moment attached installed = record {
    sized = log_sized log.file old disk (of_file disk log.file) log.in_log stands.sized moment.only
        (omega (arith, moment.short, log_short log.file old log.in_log stands.sized));
    attached = attached;
    covered = subst (λ (f : FileData). IsCovered now put (records ++ images ∷ []) f) (same_pages disk moment)
        (covered_installed dirty pages records old.pages stands.covered images put now are_put installed);
  }

-- an append
pub puts_record : {T E : Type 0} (log new_log : Log) (images : List ImageData) (result : Result T E) (old new : Story)
    → Appends log new_log images result old new → PutsRecord log new_log images result old new
puts_record {T} {E} log new_log images result old new appends dirty pages put records stands are_put = record {
  moments = run_weaker (AppendMoment log.file records images old.now.disk) (Covers dirty pages put records) old new
      (append_covers log images dirty pages put records old.now.disk stands are_put) joins.moments;
  done = on_ok result joins.attached;
}
  where
    joins : Joins log new_log records images result old new
    joins = appends records stands.attached

    last : AppendMoment log.file records images old.now.disk new.now.disk
    last = run_last (AppendMoment log.file records images old.now.disk) old new
        (append_begins log images dirty pages put records old.now.disk stands are_put) joins.moments

    on_ok : (answer : Result T E) → OnOk answer (IsAttached new_log (records ++ images ∷ []) new.now.disk)
        → OnOk answer ((now : Dirty) → AreInstalled images dirty now
        → Stands new_log (records ++ images ∷ []) now put new.now.disk)
    on_ok (Err fault) attached = tt
    on_ok (Ok value) attached = λ now installed.
        append_stands log images dirty pages put records old.now.disk stands are_put new_log now new.now.disk last
        attached installed

-- ---- a switch

module _ (log : Log) (dirty : Dirty) (pages : PageList) (records : Records) (old : Disk)
    (stands : Stands log records dirty pages old) (clean : AreClean dirty) (firm : IsFirm old.pages) where
  abbrev old_pages : PageList
  old_pages = pages_of (files_data (files_of old)) records

  abbrev S : Disk → Type 0
  S = SwitchMoment log.file old_pages old

  pages_now : old_pages ≡ pages
  pages_now =
      gives_pages pages records (files_data (files_of old))
      (subst (λ (f : FileData). Gives pages records f) (firm_is old.pages firm) stands.covered.gives)

  homes : AreHome records old.pages
  homes = are_home dirty pages records old.pages stands.covered clean firm

  still_pages : (disk : Disk) → S disk → old.pages ≡ disk.pages
  still_pages disk moment =
      sym (ap (λ (d : Disk). d.pages) moment.only
      ∙ other_pages log.file old (of_file disk (other_log log.file)))

  switch_covers : (disk : Disk) → S disk → Covers dirty pages pages records disk
  switch_covers disk moment =
      let same : old.pages ≡ disk.pages = still_pages disk moment in
      record {
        sized = switch_sized log.file old disk (of_file disk (other_log log.file)) disk.master stands.sized moment.only
            (omega (arith, moment.other, log_short (other_log log.file) old (other_in_log log.file) stands.sized))
            moment.some
            (omega (arith, moment.master, stands.sized.one));
        covered = subst (λ (f : FileData). IsCovered dirty pages records f) same stands.covered;
        tail = λ image allowed.
            let gives : GivesPages old_pages image = moment.gives image allowed in
            inr (record {
              found = gives.records;
              tail = gives.tail;
              gives = subst (λ (f : FileData). Gives pages gives.records f) same
                  (homes_given pages (files_data image) gives.records old.pages (gives.gives ∙ pages_now)
                  (all_home dirty pages records old.pages stands.covered clean) stands.covered.gives.few
                  stands.covered.gives.greatest);
              named = λ page d some. absurd (none-some d (sym (clean page) ∙ some));
              number = inr refl;
            });
      }

  switch_begins : S old
  switch_begins = clearing log records old stands.attached homes old (behind_refl (other_log log.file) 0 1 old)

  switch_stands : (new_log : Log) (disk : Disk) → S disk → IsAttached new_log [] disk
      → Stands new_log [] dirty pages disk
  switch_stands new_log disk moment attached = record {
    sized = switch_sized log.file old disk (of_file disk (other_log log.file)) disk.master stands.sized moment.only
        (omega (arith, moment.other, log_short (other_log log.file) old (other_in_log log.file) stands.sized))
        moment.some
        (omega (arith, moment.master, stands.sized.one));
    attached = attached;
    covered = subst (λ (f : FileData). IsCovered dirty pages [] f) (still_pages disk moment)
        (covered_switched dirty pages records old.pages stands.covered clean);
  }

-- a switch
pub switches_log : {T E : Type 0} (log new_log : Log) (result : Result T E) (old new : Story)
    → Switches log new_log result old new → SwitchesLog log new_log result old new
switches_log {T} {E} log new_log result old new switches dirty pages records stands clean firm = record {
  moments = run_weaker
      (SwitchMoment log.file (pages_of (files_data (files_of old.now.disk)) records) old.now.disk)
      (Covers dirty pages pages records) old new
      (switch_covers log dirty pages records old.now.disk stands clean firm) switched.moments;
  done = on_ok result switched.attached;
}
  where
    switched : Switched log new_log records result old new
    switched = switches records stands.attached (homes log dirty pages records old.now.disk stands clean firm)

    last : SwitchMoment log.file (pages_of (files_data (files_of old.now.disk)) records) old.now.disk new.now.disk
    last = run_last (SwitchMoment log.file (pages_of (files_data (files_of old.now.disk)) records) old.now.disk) old new
        (switch_begins log dirty pages records old.now.disk stands clean firm) switched.moments

    on_ok : (answer : Result T E) → OnOk answer (IsAttached new_log [] new.now.disk)
        → OnOk answer (Stands new_log [] dirty pages new.now.disk)
    on_ok (Err fault) attached = tt
    on_ok (Ok value) attached =
        switch_stands log dirty pages records old.now.disk stands clean firm new_log new.now.disk last attached
