-- The moments of a switch, and what each image gives at them.
use Rattle.std.proofs.Common.{◌≡◌, inl, inr, ◌⊎◌, ⊎_elim, ℕ, zero, suc, ◌+◌, ◌%◌, ◌^◌, ◌<◌, ◌≤◌, max, ◌==◌}
use Rattle.std.proofs.Common.{if◌then◌else◌, Bool, true, false, List, [], ◌∷◌, length, take, slice_index, Option, Some}
use Rattle.std.proofs.Common.{None, unwrap_or, Result, Ok, Err, OnOk, refl, sym, ◌∙◌, ap, ap₂, subst, arith, rules}
use Rattle.std.proofs.Common.{true≢false}
use Rattle.std.specs.Result.{IsErr}
use Rattle.std.proofs.lemmas.List.{same_lists, places}
use Rattle.ori_bytes.specs.declared.limits.TheConstants.{CLOSED_GATE, OPEN_GATE}
use Rattle.ori_volume.specs.declared.failed.Failed.{Failed}
use Rattle.ori_volume.specs.declared.file.FileNo.{FileNo}
use Rattle.ori_volume.specs.declared.file.FileNo.TheVariants.{Master, LogA, LogB, Pages}
use Rattle.ori_volume.specs.Disk.{Four, of_file, with_file, FileData, Disk, Files, files_of, IsFileImage, IsImage}
use Rattle.ori_volume.specs.Disk.{firm_file}
use Rattle.ori_volume.specs.Effects.{put, written, cut_to, synced, Torn, MaybeCut}
use Rattle.ori_volume.specs.Story.{Story, ChangesFile}
use Rattle.ori_volume.specs.Runs.{Run}
use Rattle.ori_volume.proofs.Lasting.{written_torn, cut_maybe}
use Rattle.ori_volume.proofs.RunSteps.{run_then, run_weaker, run_last, run_ends}
use Rattle.ori_log.specs.Log.{FilesData, ImageData, IsLog, images_of, first_of, last_image, home_of, page_of}
use Rattle.ori_log.specs.Log.{pages_named}
use Rattle.ori_log.specs.Log.{pages_at_home, pages_from, pages_of}
use Rattle.ori_log.specs.Files.{is_log_file, other_log, file_named, files_data, Behind}
use Rattle.ori_log.specs.Logs.{HasTail, GivesPages, Names, HoldsLog}
use Rattle.ori_log.specs.Opening.{SyncsSound, WritesSound}
use Rattle.ori_log.specs.Appending.{IsAttached}
use Rattle.ori_log.specs.Switching.{AreHome, SwitchMoment, Switches, CutsSound, Cleared, MasterMoment, SetMaster}
use Rattle.ori_log.specs.declared.log.Log.{Log}
use Rattle.ori_log.specs.declared.fault.LogFault.{LogFault}
use Rattle.ori_log.proofs.Behind.{take_agree, sound_file, behind_refl, behind_then, torn_behind, synced_behind}
use Rattle.ori_log.proofs.Behind.{same_behind}
use Rattle.ori_log.proofs.Puts.{length-put}
use Rattle.ori_log.proofs.Stages.{on_err}
use Rattle.ori_log.proofs.Logs.{tail_named, image_log, each_has_tail}
use Rattle.ori_log.proofs.Making.{firm_image}

-- ---- the same pages

page_same : (o : Option (List ℕ)) (home : List ℕ) → ((content : List ℕ) → o ≡ Some content → home ≡ content)
    → unwrap_or o home ≡ home
page_same None home is = refl
page_same (Some content) home is = sym (is content refl)

from_same : (f g : FilesData) (records others : List (List ImageData))
    → ((page : ℕ) → page_of f records page ≡ page_of g others page)
    → (page n : ℕ) → pages_from f records page n ≡ pages_from g others page n
from_same f g records others each page zero = refl
from_same f g records others each page (suc n) =
    ap₂ (λ (x : List ℕ) (l : List (List ℕ)). x ∷ l) (each page) (from_same f g records others each (page + 1) n)

some_either : (o : Option (List ℕ)) (x : List ℕ) → (content : List ℕ) × (first_of o (Some x) ≡ Some content)
some_either None x = (x, refl)
some_either (Some y) x = (y, refl)

-- a page's own number is its number
own_number : (i : ImageData) → (if i.page == i.page then Some i.content else None) ≡ Some i.content
own_number i = grind arith

-- where each page with an image is below a number, so is the greatest
named_below : (images : List ImageData) (n : ℕ)
    → ((page : ℕ) (content : List ℕ) → last_image page images ≡ Some content → page < n) → pages_named images ≤ n
named_below [] n each = omega arith
named_below (i ∷ images) n each =
    let rest : pages_named images ≤ n =
    named_below images n (λ page content is. each page content (ap (λ (o : Option (List ℕ)). first_of o
    (if i.page == page then Some i.content else None)) is)) in
    let own = some_either (last_image i.page images) i.content in
    let here : i.page < n =
    each i.page own.0 (ap (λ (o : Option (List ℕ)). first_of (last_image i.page images) o) (own_number i) ∙ own.1) in
    omega (arith, rest, here)

module _ (records : List (List ImageData)) (pages : FileData) (home : AreHome records pages) where
  all_home : (page : ℕ) (content : List ℕ) → last_image page (images_of records) ≡ Some content
      → page < pages_at_home pages.bytes
  all_home page content is = omega (arith, home.whole page content is)

  -- the homes alone are the pages
  pub homes_are : (f g : FilesData) → f.pages ≡ pages.bytes → g.pages ≡ pages.bytes → pages_of f [] ≡ pages_of g records
  homes_are f g is_f is_g =
      ap (λ (n : ℕ). pages_from f [] 0 n) (omega (
        arith,
        named_below (images_of records) (pages_at_home pages.bytes) all_home,
        ap (λ (l : List ℕ). pages_at_home l) is_f,
        ap (λ (l : List ℕ). pages_at_home l) is_g,
      ))
      ∙ from_same f g [] records
      (λ page. ap (λ (l : List ℕ). home_of l page) is_f
      ∙ sym (page_same (last_image page (images_of records)) (home_of pages.bytes page) (home.home page))
      ∙ ap (λ (l : List ℕ). unwrap_or (last_image page (images_of records)) (home_of l page)) (sym is_g))
      0 (max (pages_named (images_of records)) (pages_at_home g.pages))

  -- with the same records the pages are the same
  pub pages_are : (f g : FilesData) → f.pages ≡ pages.bytes → g.pages ≡ pages.bytes
      → pages_of f records ≡ pages_of g records
  pages_are f g is_f is_g =
      ap (λ (l : List ℕ). pages_from f records 0 (max (pages_named (images_of records)) (pages_at_home l)))
      (is_f ∙ sym is_g)
      ∙ from_same f g records records
      (λ page. ap (λ (l : List ℕ). unwrap_or (last_image page (images_of records)) (home_of l page)) (is_f ∙ sym is_g))
      0 (max (pages_named (images_of records)) (pages_at_home g.pages))

  pub gives_before : (old image : Files) → old.pages ≡ pages.bytes → IsFileImage pages image.pages
      → HasTail records image → GivesPages (pages_of (files_data old) records) image
  gives_before old image is allowed tail = record {
    records = records;
    tail = tail;
    gives = pages_are (files_data image) (files_data old) (firm_image pages image.pages home.firm allowed) is;
  }

  pub gives_after : (old image : Files) → old.pages ≡ pages.bytes → IsFileImage pages image.pages
      → HasTail [] image → GivesPages (pages_of (files_data old) records) image
  gives_after old image is allowed tail = record {
    records = [];
    tail = tail;
    gives = homes_are (files_data image) (files_data old) (firm_image pages image.pages home.firm allowed) is;
  }

-- ---- one file

cut_behind : (file : FileNo) (old new : Disk) → IsImage old (files_of old) → ChangesFile file (MaybeCut 0) old new
    → Behind file 0 1 old new
cut_behind file old new sound change =
    let f = of_file old file in
    let g = of_file new file in
    let is_sound : IsFileImage f f.bytes = sound_file old file sound in
    let cut : MaybeCut 0 f g = change.here in
    let short : length g.bytes ≤ length f.bytes =
    ⊎_elim (λ (same : g.bytes ≡ f.bytes). omega (arith, ap length same))
    (λ (less : g.bytes ≡ take 0 f.bytes). omega (arith, ap length less)) cut.maybe in
    record {
      only = change.elsewhere;
      same = take_agree 0 g.bytes f.bytes (omega arith) (omega arith) (λ k within. absurd (omega arith));
      firm = λ k within is. absurd (omega arith);
      least = omega arith;
      greatest = omega (arith, cut.loosened.greatest, short, is_sound.no_longer);
    }

module _ (file : FileNo) (result : Result (Unit {0}) Failed) (a b : Story) where
  cut_run : CutsSound file result a b → Run (Behind file 0 1 a.now.disk) a b
  cut_run step =
      run_ends (Behind file 0 1 a.now.disk) file (λ f g. g ≡ cut_to f 0) (MaybeCut 0) result a b
      (λ change. cut_behind file a.now.disk b.now.disk step.sound
      (record { here = cut_maybe 0 _ _ change.here; elsewhere = change.elsewhere }))
      (cut_behind file a.now.disk b.now.disk step.sound)
      step.cuts

  write_run : (byte : ℕ) → WritesSound file (byte ∷ []) result a b → Run (Behind file 0 1 a.now.disk) a b
  write_run byte step =
      run_ends (Behind file 0 1 a.now.disk) file (λ f g. g ≡ written f 0 (byte ∷ [])) (Torn 0 1) result a b
      (λ change. torn_behind file 0 1 0 1 a.now.disk b.now.disk step.sound (omega arith) (omega arith) (omega arith)
      (record { here = written_torn 0 (byte ∷ []) _ _ change.here; elsewhere = change.elsewhere }))
      (torn_behind file 0 1 0 1 a.now.disk b.now.disk step.sound (omega arith) (omega arith) (omega arith))
      step.writes

  sync_run : SyncsSound file result a b → Run (Behind file 0 1 a.now.disk) a b
  sync_run step =
      run_ends (Behind file 0 1 a.now.disk) file (λ f g. g ≡ synced f) (λ f g. g ≡ f) result a b
      (synced_behind file 0 1 a.now.disk b.now.disk step.sound (omega arith))
      (same_behind file 0 1 a.now.disk b.now.disk)
      step.syncs

then_behind : (file : FileNo) (a b c : Story) → Run (Behind file 0 1 a.now.disk) a b
    → Run (Behind file 0 1 b.now.disk) b c → Run (Behind file 0 1 a.now.disk) a c
then_behind file a b c first second =
    let Q : Disk → Type 0 = Behind file 0 1 a.now.disk in
    let reached : Q b.now.disk = run_last Q a b (behind_refl file 0 1 a.now.disk) first in
    run_then Q a b c first (run_weaker (Behind file 0 1 b.now.disk) Q b c
    (λ disk later. behind_then file 0 1 a.now.disk b.now.disk disk reached later) second)

-- ---- the other log becomes the one byte of a closed gate

pub one_byte : (xs : List ℕ) (byte : ℕ) → put (take 0 xs) 0 (byte ∷ []) ≡ byte ∷ []
one_byte xs byte = same_lists _ _ (search (rules, places)) (λ k d h. grind (arith, places))

-- the three calls, of which each succeeded
abbrev CutsOk : FileNo → Story → Story → Type 0
CutsOk file a b = CutsSound {T = Unit {0}} {E = Failed} file (Ok tt) a b

abbrev GateOk : FileNo → Story → Story → Type 0
GateOk file a b = WritesSound {T = Unit {0}} {E = Failed} file (CLOSED_GATE ∷ []) (Ok tt) a b

pub cut_fails : (file : FileNo) (fault : Failed) (result : Result (Unit {0}) Failed) (a b : Story) → IsErr result
    → CutsSound {T = Unit {0}} {E = Failed} file (Err fault) a b → Cleared file result a b
cut_fails file fault result a b failed cuts =
    record { moments = cut_run file (Err fault) a b cuts; done = on_err _ result failed }

pub gate_write_fails : (file : FileNo) (fault : Failed) (result : Result (Unit {0}) Failed) (a b c : Story)
    → IsErr result
    → CutsOk file a b → WritesSound {T = Unit {0}} {E = Failed} file (CLOSED_GATE ∷ []) (Err fault) b c
    → Cleared file result a c
gate_write_fails file fault result a b c failed cuts writes = record {
  moments = then_behind file a b c (cut_run file (Ok tt) a b cuts) (write_run file (Err fault) b c CLOSED_GATE writes);
  done = on_err _ result failed;
}

-- both are done
pub record CutWritten (file : FileNo) (a c : Story) : Type 0 where
  pub moments : Run (Behind file 0 1 a.now.disk) a c
  pub reads : (of_file c.now.disk file).bytes ≡ CLOSED_GATE ∷ []

pub cut_written : (file : FileNo) (a b c : Story) → CutsOk file a b → GateOk file b c → CutWritten file a c
cut_written file a b c cuts writes = record {
  moments = then_behind file a b c (cut_run file (Ok tt) a b cuts) (write_run file (Ok tt) b c CLOSED_GATE writes);
  reads = ap (λ (f : FileData). f.bytes) writes.writes.change.here
      ∙ ap (λ (f : FileData). put f.bytes 0 (CLOSED_GATE ∷ [])) cuts.cuts.change.here
      ∙ one_byte (of_file a.now.disk file).bytes CLOSED_GATE;
}

cleared_firm : (file : FileNo) (result : Result (Unit {0}) Failed) (a c d : Story) → CutWritten file a c
    → SyncsSound {T = Unit {0}} {E = Failed} file result c d → Run (Behind file 0 1 a.now.disk) a d
    → OnOk result (d.now.disk ≡ with_file a.now.disk file (firm_file (CLOSED_GATE ∷ [])))
cleared_firm file (Ok value) a c d before step run =
    (run_last (Behind file 0 1 a.now.disk) a d (behind_refl file 0 1 a.now.disk) run).only
    ∙ ap (λ (f : FileData). with_file a.now.disk file f) (step.syncs.change.here
    ∙ ap (λ (l : List ℕ). firm_file l) before.reads)
cleared_firm file (Err fault) a c d before step run = tt

pub cleared : (file : FileNo) (result : Result (Unit {0}) Failed) (a c d : Story) → CutWritten file a c
    → SyncsSound {T = Unit {0}} {E = Failed} file result c d → Cleared file result a d
cleared file result a c d before step =
    let run = then_behind file a c d before.moments (sync_run file result c d step) in
    record { moments = run; done = cleared_firm file result a c d before step run }

-- ---- the master

master_refl : (disk : Disk) → MasterMoment disk disk
master_refl disk = record { behind = behind_refl Master 0 1 disk; least = λ some. some }

master_then : (old mid new : Disk) → MasterMoment old mid → MasterMoment mid new → MasterMoment old new
master_then old mid new first second = record {
  behind = behind_then Master 0 1 old mid new first.behind second.behind;
  least = λ some. second.least (first.least some);
}

master_torn : (old new : Disk) → IsImage old (files_of old) → ChangesFile Master (Torn 0 1) old new
    → MasterMoment old new
master_torn old new sound change =
    let is_sound : IsFileImage old.master old.master.bytes = sound_file old Master sound in
    let torn : Torn 0 1 old.master new.master = change.here in
    record {
      behind = torn_behind Master 0 1 0 1 old new sound (omega arith) (omega arith) (omega arith) change;
      least = λ some. omega (arith, some, torn.loosened.least, torn.torn.no_shorter, is_sound.no_shorter);
    }

master_synced : (old new : Disk) → IsImage old (files_of old) → ChangesFile Master (λ f g. g ≡ synced f) old new
    → MasterMoment old new
master_synced old new sound change =
    let is_sound : IsFileImage old.master old.master.bytes = sound_file old Master sound in
    let least : new.master.least ≡ length old.master.bytes = ap (λ (f : FileData). f.least) change.here in
    record {
      behind = synced_behind Master 0 1 old new sound (omega arith) change;
      least = λ some. omega (arith, some, least, is_sound.no_shorter);
    }

master_kept : (old new : Disk) → ChangesFile Master (λ f g. g ≡ f) old new → MasterMoment old new
master_kept old new change = record {
  behind = same_behind Master 0 1 old new change;
  least = λ some. subst (λ (f : FileData). 0 < f.least) (sym change.here) some;
}

master_run : (byte : ℕ) (result : Result (Unit {0}) Failed) (a b : Story) → WritesSound Master (byte ∷ []) result a b
    → Run (MasterMoment a.now.disk) a b
master_run byte result a b step =
    run_ends (MasterMoment a.now.disk) Master (λ f g. g ≡ written f 0 (byte ∷ [])) (Torn 0 1) result a b
    (λ change. master_torn a.now.disk b.now.disk step.sound
    (record { here = written_torn 0 (byte ∷ []) _ _ change.here; elsewhere = change.elsewhere }))
    (master_torn a.now.disk b.now.disk step.sound)
    step.writes

pub master_fails : (byte : ℕ) (fault : Failed) (result : Result (Unit {0}) Failed) (a b : Story) → IsErr result
    → WritesSound {T = Unit {0}} {E = Failed} Master (byte ∷ []) (Err fault) a b → SetMaster byte result a b
master_fails byte fault result a b failed step =
    record { moments = master_run byte (Err fault) a b step; done = on_err _ result failed }

master_firm : (byte : ℕ) (result : Result (Unit {0}) Failed) (a b c : Story)
    → WritesSound {T = Unit {0}} {E = Failed} Master (byte ∷ []) (Ok tt) a b
    → SyncsSound {T = Unit {0}} {E = Failed} Master result b c → Run (MasterMoment a.now.disk) a c
    → OnOk result (c.now.disk ≡ with_file a.now.disk Master (firm_file (put a.now.disk.master.bytes 0 (byte ∷ []))))
master_firm byte (Ok value) a b c writes step run =
    (run_last (MasterMoment a.now.disk) a c (master_refl a.now.disk) run).behind.only
    ∙ ap (λ (f : FileData). with_file a.now.disk Master f) (step.syncs.change.here
    ∙ ap (λ (f : FileData). synced f) writes.writes.change.here)
master_firm byte (Err fault) a b c writes step run = tt

pub master_set : (byte : ℕ) (result : Result (Unit {0}) Failed) (a b c : Story)
    → WritesSound {T = Unit {0}} {E = Failed} Master (byte ∷ []) (Ok tt) a b
    → SyncsSound {T = Unit {0}} {E = Failed} Master result b c → SetMaster byte result a c
master_set byte result a b c writes step =
    let Q : Disk → Type 0 = MasterMoment a.now.disk in
    let first : Run Q a b = master_run byte (Ok tt) a b writes in
    let reached : Q b.now.disk = run_last Q a b (master_refl a.now.disk) first in
    let second : Run (MasterMoment b.now.disk) b c =
    run_ends (MasterMoment b.now.disk) Master (λ f g. g ≡ synced f) (λ f g. g ≡ f) result b c
    (master_synced b.now.disk c.now.disk step.sound) (master_kept b.now.disk c.now.disk) step.syncs in
    let run : Run Q a c =
    run_then Q a b c first (run_weaker (MasterMoment b.now.disk) Q b c
    (λ disk later. master_then a.now.disk b.now.disk disk reached later) second) in
    record { moments = run; done = master_firm byte result a b c writes step run }

-- ---- the two logs

pub other_in_log : (file : FileNo) → is_log_file (other_log file) ≡ true
other_in_log Master = refl
other_in_log LogA = refl
other_in_log LogB = refl
other_in_log Pages = refl

-- the other log changes neither the log nor the master nor the pages
apart : {T : Type 0} (file : FileNo) (four : Four T) (x : T) → is_log_file file ≡ true
    → of_file (with_file four (other_log file) x) file ≡ of_file four file
apart Master four x in_log = absurd (true≢false (sym in_log))
apart LogA four x in_log = refl
apart LogB four x in_log = refl
apart Pages four x in_log = absurd (true≢false (sym in_log))

pub other_master : {T : Type 0} (file : FileNo) (four : Four T) (x : T)
    → (with_file four (other_log file) x).master ≡ four.master
other_master Master four x = refl
other_master LogA four x = refl
other_master LogB four x = refl
other_master Pages four x = refl

other_pages : {T : Type 0} (file : FileNo) (four : Four T) (x : T)
    → (with_file four (other_log file) x).pages ≡ four.pages
other_pages Master four x = refl
other_pages LogA four x = refl
other_pages LogB four x = refl
other_pages Pages four x = refl

pub other_here : {T : Type 0} (file : FileNo) (four : Four T) (x : T) → of_file (with_file four (other_log file) x)
    (other_log file) ≡ x
other_here Master four x = refl
other_here LogA four x = refl
other_here LogB four x = refl
other_here Pages four x = refl

-- the master changes no log
pub master_apart : {T : Type 0} (file : FileNo) (four : Four T) (x : T) → is_log_file file ≡ true
    → of_file (with_file four Master x) file ≡ of_file four file
master_apart Master four x in_log = absurd (true≢false (sym in_log))
master_apart LogA four x in_log = refl
master_apart LogB four x in_log = refl
master_apart Pages four x in_log = absurd (true≢false (sym in_log))

-- a log changes no master
pub log_master : {T : Type 0} (file : FileNo) (four : Four T) (x : T) → is_log_file file ≡ true
    → (with_file four file x).master ≡ four.master
log_master Master four x in_log = absurd (true≢false (sym in_log))
log_master LogA four x in_log = refl
log_master LogB four x in_log = refl
log_master Pages four x in_log = refl

pub with_master : {T : Type 0} (four : Four T) → with_file four Master four.master ≡ four
with_master four = refl

-- a byte names one of the two
names_either : (byte : ℕ) (file : FileNo) → is_log_file file ≡ true
    → (file_named byte ≡ file) ⊎ (file_named byte ≡ other_log file)
names_either byte Master in_log = absurd (true≢false (sym in_log))
names_either byte LogA in_log = by_test (byte % 2 == 0)
  where
    by_test : (test : Bool) → ((if test then LogA else LogB) ≡ LogA) ⊎ ((if test then LogA else LogB) ≡ LogB)
    by_test true = inl refl
    by_test false = inr refl
names_either byte LogB in_log = by_test (byte % 2 == 0)
  where
    by_test : (test : Bool) → ((if test then LogA else LogB) ≡ LogB) ⊎ ((if test then LogA else LogB) ≡ LogA)
    by_test true = inr refl
    by_test false = inl refl
names_either byte Pages in_log = absurd (true≢false (sym in_log))

parity : (byte : ℕ) → (byte % 2 ≡ 0) ⊎ (byte % 2 ≡ 1)
parity byte = halves (byte % 2) (omega arith)
  where
    halves : (n : ℕ) → n < 2 → (n ≡ 0) ⊎ (n ≡ 1)
    halves zero small = inl refl
    halves (suc zero) small = inr refl
    halves (suc (suc n)) small = absurd (omega arith)

-- the next byte names the other
pub next_names : (byte : ℕ) → file_named ((byte + 1) % 2 ^ 8) ≡ other_log (file_named byte)
next_names byte =
    let pick : ℕ → FileNo = λ n. if n == 0 then LogA else LogB in
    ⊎_elim (λ (even : byte % 2 ≡ 0).
    let odd : ((byte + 1) % 2 ^ 8) % 2 ≡ 1 = omega (arith, even) in
    ap pick odd ∙ sym (ap (λ (n : ℕ). other_log (pick n)) even))
    (λ (odd : byte % 2 ≡ 1).
    let even : ((byte + 1) % 2 ^ 8) % 2 ≡ 0 = omega (arith, odd) in
    ap pick even ∙ sym (ap (λ (n : ℕ). other_log (pick n)) odd))
    (parity byte)

-- a file of one closed gate is a log without records
gate_log : HoldsLog [] 0 (firm_file (CLOSED_GATE ∷ []))
gate_log = record {
  whole = tt;
  gate = CLOSED_GATE;
  closed = λ (same : CLOSED_GATE ≡ OPEN_GATE). omega arith;
  reads = refl;
  place_is = refl;
  firm = λ k within. refl;
  least = omega arith;
  long = omega arith;
}

pub first_byte : (xs : List ℕ) (byte : ℕ) → slice_index (put xs 0 (byte ∷ [])) 0 ≡ byte
first_byte xs byte = search (rules, places)

module _ (log : Log) (records : List (List ImageData)) (old : Disk) (attached : IsAttached log records old)
    (home : AreHome records old.pages) where
  abbrev other : FileNo
  other = other_log log.file

  abbrev the_pages : List (List ℕ)
  the_pages = pages_of (files_data (files_of old)) records

  abbrev Q : Disk → Type 0
  Q = SwitchMoment log.file the_pages old

  -- while the other log changes
  pub clearing : (disk : Disk) → Behind other 0 1 old disk → Q disk
  clearing disk behind =
      let master : disk.master ≡ old.master =
      ap (λ (d : Disk). d.master) behind.only ∙ other_master log.file old (of_file disk other) in
      let pages : disk.pages ≡ old.pages =
      ap (λ (d : Disk). d.pages) behind.only ∙ other_pages log.file old (of_file disk other) in
      let here : of_file disk log.file ≡ of_file old log.file =
      ap (λ (d : Disk). of_file d log.file) behind.only ∙ apart log.file old (of_file disk other) log.in_log in
      record {
        only = sym (with_master disk) ∙ ap (λ (d : Disk). with_file d Master disk.master) behind.only;
        other = behind.greatest;
        master = omega (arith, ap (λ (f : FileData). f.greatest) master);
        some = omega (arith, attached.names.least, ap (λ (f : FileData). f.least) master);
        gives = λ image allowed. gives_before records old.pages home (files_of old) image refl
            (subst (λ (f : FileData). IsFileImage f image.pages) pages (allowed Pages))
            (each_has_tail records log.place log.file disk
            (subst (λ (f : FileData). Names f log.file) (sym master) attached.names)
            (subst (λ (f : FileData). HoldsLog records log.place f) (sym here) attached.holds) image allowed);
      }

  module _ (mid : Disk) (cleared_is : mid ≡ with_file old other (firm_file (CLOSED_GATE ∷ []))) where
    mid_master : mid.master ≡ old.master
    mid_master = ap (λ (d : Disk). d.master) cleared_is ∙ other_master log.file old (firm_file (CLOSED_GATE ∷ []))

    -- while the master changes
    pub naming : (disk : Disk) → MasterMoment mid disk → Q disk
    naming disk moment =
        let only : disk ≡ with_file (with_file old other (firm_file (CLOSED_GATE ∷ []))) Master disk.master =
        moment.behind.only ∙ ap (λ (d : Disk). with_file d Master disk.master) cleared_is in
        let fresh : of_file disk other ≡ firm_file (CLOSED_GATE ∷ []) =
        ap (λ (d : Disk). of_file d other) only
        ∙ master_apart other (with_file old other (firm_file (CLOSED_GATE ∷ []))) disk.master (other_in_log log.file)
        ∙ other_here log.file old (firm_file (CLOSED_GATE ∷ [])) in
        let here : of_file disk log.file ≡ of_file old log.file =
        ap (λ (d : Disk). of_file d log.file) only
        ∙ master_apart log.file (with_file old other (firm_file (CLOSED_GATE ∷ []))) disk.master log.in_log
        ∙ apart log.file old (firm_file (CLOSED_GATE ∷ [])) log.in_log in
        let pages : disk.pages ≡ old.pages =
        ap (λ (d : Disk). d.pages) only ∙ other_pages log.file old (firm_file (CLOSED_GATE ∷ [])) in
        let least : 0 < disk.master.least =
        moment.least (subst (λ (f : FileData). 0 < f.least) (sym mid_master) attached.names.least) in
        record {
          only = only
              ∙ ap (λ (f : FileData). with_file (with_file old other f) Master disk.master) (sym fresh);
          other = omega (arith, ap (λ (f : FileData). f.greatest) fresh);
          master = omega (arith, moment.behind.greatest, ap (λ (f : FileData). f.greatest) mid_master);
          some = least;
          gives = λ image allowed.
              let some : 0 < length image.master = omega (arith, least, (allowed Master).no_shorter) in
              let in_pages : IsFileImage old.pages image.pages =
              subst (λ (f : FileData). IsFileImage f image.pages) pages (allowed Pages) in
              ⊎_elim (λ (is : file_named (slice_index image.master 0) ≡ log.file).
              gives_before records old.pages home (files_of old) image refl in_pages
              (tail_named image.master image records some (subst (λ (f : FileNo). IsLog (of_file image f) records)
              (sym is) (image_log records log.place (of_file disk log.file) (of_file image log.file)
              (subst (λ (f : FileData). HoldsLog records log.place f) (sym here) attached.holds)
              (allowed log.file)))))
              (λ (is : file_named (slice_index image.master 0) ≡ other).
              gives_after records old.pages home (files_of old) image refl in_pages
              (tail_named image.master image [] some (subst (λ (f : FileNo). IsLog (of_file image f) [])
              (sym is) (image_log [] 0 (of_file disk other) (of_file image other)
              (subst (λ (f : FileData). HoldsLog [] 0 f) (sym fresh) gate_log) (allowed other)))))
              (names_either (slice_index image.master 0) log.file log.in_log);
        }

    -- once the master names the other log
    pub now_attached : (new_log : Log) (new : Disk) → new ≡ with_file mid Master (firm_file (put mid.master.bytes 0
        ((log.master + 1) % 2 ^ 8 ∷ []))) → new_log.file ≡ other → new_log.tail ≡ 0 → new_log.place ≡ 0
        → new_log.length ≡ 1 → new_log.master ≡ (log.master + 1) % 2 ^ 8
        → IsAttached new_log [] new × (of_file new other ≡ firm_file (CLOSED_GATE ∷ []))
        × (new.master ≡ firm_file (put old.master.bytes 0 ((log.master + 1) % 2 ^ 8 ∷ [])))
    now_attached new_log new is file tail place size byte =
        let next : ℕ = (log.master + 1) % 2 ^ 8 in
        let only : new ≡ with_file (with_file old other (firm_file (CLOSED_GATE ∷ []))) Master new.master =
        is ∙ ap₂ (λ (d : Disk) (f : FileData). with_file d Master f) cleared_is
        (sym (ap (λ (d : Disk). d.master) is)) in
        let fresh : of_file new other ≡ firm_file (CLOSED_GATE ∷ []) =
        ap (λ (d : Disk). of_file d other) only
        ∙ master_apart other (with_file old other (firm_file (CLOSED_GATE ∷ []))) new.master (other_in_log log.file)
        ∙ other_here log.file old (firm_file (CLOSED_GATE ∷ [])) in
        let master : new.master ≡ firm_file (put old.master.bytes 0 (next ∷ [])) =
        ap (λ (d : Disk). d.master) is ∙ ap (λ (f : FileData). firm_file (put f.bytes 0 (next ∷ []))) mid_master in
        let first : slice_index new.master.bytes 0 ≡ next =
        ap (λ (f : FileData). slice_index f.bytes 0) master ∙ first_byte old.master.bytes next in
        let here : of_file new new_log.file ≡ firm_file (CLOSED_GATE ∷ []) =
        ap (λ (f : FileNo). of_file new f) file ∙ fresh in
        let long : 0 < new.master.least =
        omega (arith, ap (λ (f : FileData). f.least) master, put_some old.master.bytes next) in (
          record {
            names = record {
              named = ap file_named first ∙ next_names log.master
                  ∙ ap other_log (ap file_named attached.byte ∙ attached.names.named) ∙ sym file;
              firm = ap (λ (f : FileData). f.loose 0) master;
              least = long;
            };
            holds = subst (λ (n : ℕ). HoldsLog [] n (of_file new new_log.file)) (sym place)
                (subst (λ (f : FileData). HoldsLog [] 0 f) (sym here) gate_log);
            counts = tail;
            byte = byte ∙ sym first;
            long = size ∙ sym (ap (λ (f : FileData). length f.bytes) here);
          },
          fresh,
          master,
        )
      where
        put_some : (xs : List ℕ) (byte : ℕ) → 0 < length (put xs 0 (byte ∷ []))
        put_some xs byte = omega (arith, length-put xs (byte ∷ []) 0 (omega arith))

-- ---- the call

module _ (log new_log : Log) (which : FileNo) (which_is : which ≡ other_log log.file) where
  clear_run : (a b : Story) (records : List (List ImageData)) → IsAttached log records a.now.disk
      → AreHome records a.now.disk.pages → Run (Behind which 0 1 a.now.disk) a b
      → Run (SwitchMoment log.file (pages_of (files_data (files_of a.now.disk)) records) a.now.disk) a b
  clear_run a b records attached home run =
      run_weaker (Behind which 0 1 a.now.disk) _ a b
      (λ disk behind. clearing log records a.now.disk attached home disk
      (subst (λ (f : FileNo). Behind f 0 1 a.now.disk disk) which_is behind)) run

  pub switch_fails_early : (fault : Failed) (result : Result (Unit {0}) LogFault) (a b : Story) → IsErr result
      → Cleared {T = Unit {0}} {E = Failed} which (Err fault) a b → Switches log new_log result a b
  switch_fails_early fault result a b failed clears = λ records attached home. record {
    moments = clear_run a b records attached home clears.moments;
    attached = on_err _ result failed;
    fresh = on_err _ result failed;
    named = on_err _ result failed;
  }

  module _ (byte : ℕ) (a b c : Story) (clears : Cleared {T = Unit {0}} {E = Failed} which (Ok tt) a b)
      (records : List (List ImageData)) (attached : IsAttached log records a.now.disk)
      (home : AreHome records a.now.disk.pages) where
    cleared_now : b.now.disk ≡ with_file a.now.disk (other_log log.file) (firm_file (CLOSED_GATE ∷ []))
    cleared_now = clears.done ∙ ap (λ (f : FileNo). with_file a.now.disk f (firm_file (CLOSED_GATE ∷ []))) which_is

    both_runs : Run (MasterMoment b.now.disk) b c
        → Run (SwitchMoment log.file (pages_of (files_data (files_of a.now.disk)) records) a.now.disk) a c
    both_runs run =
        run_then _ a b c (clear_run a b records attached home clears.moments)
        (run_weaker (MasterMoment b.now.disk) _ b c
        (λ disk moment. naming log records a.now.disk attached home b.now.disk cleared_now disk moment) run)

  pub switch_fails_late : (byte : ℕ) (fault : Failed) (result : Result (Unit {0}) LogFault) (a b c : Story)
      → IsErr result → Cleared {T = Unit {0}} {E = Failed} which (Ok tt) a b
      → SetMaster {T = Unit {0}} {E = Failed} byte (Err fault) b c → Switches log new_log result a c
  switch_fails_late byte fault result a b c failed clears sets = λ records attached home. record {
    moments = both_runs byte a b c clears records attached home sets.moments;
    attached = on_err _ result failed;
    fresh = on_err _ result failed;
    named = on_err _ result failed;
  }

  pub switch_done : (byte : ℕ) (a b c : Story) → byte ≡ (log.master + 1) % 2 ^ 8 → new_log.file ≡ which
      → new_log.tail ≡ 0 → new_log.place ≡ 0 → new_log.length ≡ 1 → new_log.master ≡ byte
      → Cleared {T = Unit {0}} {E = Failed} which (Ok tt) a b
      → SetMaster {T = Unit {0}} {E = Failed} byte (Ok tt) b c
      → Switches {T = Unit {0}} {E = LogFault} log new_log (Ok tt) a c
  switch_done byte a b c is file tail place size master clears sets = λ records attached home.
      let now = now_attached log records a.now.disk attached home b.now.disk
      (cleared_now byte a b c clears records attached home) new_log c.now.disk
      (sets.done ∙ ap (λ (n : ℕ). with_file b.now.disk Master (firm_file (put b.now.disk.master.bytes 0 (n ∷ [])))) is)
      (file ∙ which_is) tail place size (master ∙ is) in
      record {
        moments = both_runs byte a b c clears records attached home sets.moments;
        attached = now.0;
        fresh = now.1;
        named = now.2;
      }
