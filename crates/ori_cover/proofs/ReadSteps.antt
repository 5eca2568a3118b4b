-- Cover of the bytes alone: what follows from the cover of the disk, and the steps.
use Rattle.std.proofs.Common.{◌≡◌, inl, inr, ◌⊎◌, ⊎_elim, ℕ, ◌+◌, ◌-◌, ◌*◌, ◌%◌, ◌<◌, ◌≤◌, max, ◌==◌, if◌then◌else◌}
use Rattle.std.proofs.Common.{Bool, true, false, List, [], ◌∷◌, ◌++◌, length, flat_map, slice_index, Some}
use Rattle.std.proofs.Common.{Result, Ok, Err, OnOk, refl, sym, ◌∙◌, ap, subst, arith, length-append}
use Rattle.std.proofs.lemmas.Option.{none-some}
use Rattle.std.specs.Int.{w32, to_be_bytes}
use Rattle.ori_bytes.specs.declared.limits.TheConstants.{PAGE_BYTES, MAX_LOG_BYTES, OPEN_GATE, CLOSED_GATE}
use Rattle.ori_volume.specs.declared.file.FileNo.{FileNo}
use Rattle.ori_volume.specs.declared.file.FileNo.TheVariants.{Master, LogA, LogB, Pages}
use Rattle.ori_volume.specs.Disk.{Four, of_file, with_file, FileData, Disk, Files, files_of, AreBytes, IsImage}
use Rattle.ori_volume.specs.Disk.{firm_file, firm_disk}
use Rattle.ori_volume.specs.Effects.{put, written, TornBytes}
use Rattle.ori_volume.specs.Story.{ChangesFile, FilesWrite}
use Rattle.ori_volume.proofs.Data.{with_of, of_with, of_files}
use Rattle.ori_volume.proofs.Lasting.{written_torn}
use Rattle.ori_log.specs.Log.{ImageData, body_bytes, record_bytes, IsLogRecord, IsLog, IsTailOf}
use Rattle.ori_log.specs.Files.{is_log_file, other_log, file_named, files_data, zeros_behind, appended}
use Rattle.ori_log.specs.Images.{behind_gate}
use Rattle.ori_log.specs.Logs.{HasTail}
use Rattle.ori_log.specs.Appending.{need_of, room_of, StandsIn, AppendCutShort, AppendsFiles}
use Rattle.ori_log.specs.Switching.{switched_files, CutShort, SwitchesFiles}
use Rattle.ori_log.specs.declared.log.Log.{Log}
use Rattle.ori_log.proofs.Puts.{length-put}
use Rattle.ori_log.proofs.Logs.{tail_named, image_log, opened}
use Rattle.ori_log.proofs.Switching.{other_in_log, master_apart, other_here}
use Rattle.ori_cover.specs.Homes.{IsHome}
use Rattle.ori_cover.specs.Dirty.{Dirty, unwritten, AreClean, AreInstalled, IsMarked, AreSettled}
use Rattle.ori_cover.specs.Given.{ArePut, HoldsPages}
use Rattle.ori_cover.specs.Cover.{IsSized, IsCovered, Stands, InDoubt, Covers}
use Rattle.ori_cover.specs.Reading.{StandsRead, CoversRead, WritesHomeRead, PutsRecordRead}
use Rattle.ori_cover.specs.Reading.{SwitchesLogRead, SyncsHomesRead}
use Rattle.ori_cover.proofs.Homes.{home_put, bytes_stay}
use Rattle.ori_cover.proofs.Given.{gives_image, gives_stay, gives_put}
use Rattle.ori_cover.proofs.Holding.{image_holds}
use Rattle.ori_cover.proofs.Covering.{Records, PageList, covered_stay, covered_marked, covered_synced}
use Rattle.ori_cover.proofs.Covering.{covered_installed}
use Rattle.ori_cover.proofs.Covering.{covered_settled}
use Rattle.ori_cover.proofs.Covering.{covered_switched, homes_give, named_more}
use Rattle.ori_cover.proofs.Moments.{same_dirty, doubt_on, pages_sized, Fewer, marked_fewer, settled_fewer, pages_apart}
use Rattle.ori_cover.proofs.Logging.{log_sized, log_short, switch_sized}
use Rattle.ori_cover.proofs.ReadLogs.{appended_short, closed_log, firm_sound, appended_log, same_log, torn_log}

-- ---- from the disk

read_sized : (disk : Disk) → IsSized disk → IsImage disk (files_of disk) → IsSized (firm_disk (files_of disk))
read_sized disk sized sound = record {
  some = omega (arith, sized.some, (sound Master).no_shorter);
  one = omega (arith, sized.one, (sound Master).no_longer);
  log_a = omega (arith, sized.log_a, (sound LogA).no_longer);
  log_b = omega (arith, sized.log_b, (sound LogB).no_longer);
}

pub covers_read : (dirty : Dirty) (pages doubt : PageList) (records : Records) (disk : Disk)
    → Covers dirty pages doubt records disk → IsImage disk (files_of disk)
    → CoversRead dirty pages doubt records (files_of disk)
covers_read dirty pages doubt records disk covers sound = record {
  sized = read_sized disk covers.sized sound;
  covered = covered_synced dirty pages records disk.pages covers.covered (sound Pages);
  tail = doubt_on dirty dirty pages doubt disk.pages (firm_file disk.pages.bytes) (files_of disk) (files_of disk)
      records (same_dirty dirty) (λ others tail. tail)
      (λ other. gives_image doubt other.found disk.pages disk.pages.bytes other.gives (sound Pages))
      (covers.tail (files_of disk) sound);
}

pub stands_read : (log : Log) (records : Records) (dirty : Dirty) (pages : PageList) (disk : Disk)
    → Stands log records dirty pages disk → IsImage disk (files_of disk)
    → StandsRead log records dirty pages (files_of disk)
stands_read log records dirty pages disk stands sound =
    let attached = stands.attached in
    let same : length (of_file (files_of disk) log.file) ≡ length (of_file disk log.file).bytes =
    ap length (of_files disk log.file) in
    record {
      sized = read_sized disk stands.sized sound;
      stands = record {
        some = omega (arith, attached.names.least, (sound Master).no_shorter);
        byte = attached.byte;
        named = sym attached.names.named ∙ ap file_named (sym attached.byte);
        long = attached.long ∙ sym same;
        within = omega (arith, attached.holds.long, same);
      };
      holds = image_log records log.place (of_file disk log.file) (of_file (files_of disk) log.file) attached.holds
          (sound log.file);
      counts = attached.counts;
      place = attached.holds.place_is;
      covered = covered_synced dirty pages records disk.pages stands.covered (sound Pages);
    }

-- ---- the tail

-- the log of these files is their tail, as long as the master names it
log_tail : (log : Log) (files : Files) (records : Records) → 0 < length files.master
    → log.file ≡ file_named (slice_index files.master 0) → IsLog (of_file files log.file) records
    → HasTail records files
log_tail log files records some named is =
    tail_named files.master files records some
    (subst (λ (which : FileNo). IsLog (of_file files which) records) named is)

pub read_tail : (log : Log) (records : Records) (dirty : Dirty) (pages : PageList) (files : Files)
    → StandsRead log records dirty pages files → HasTail records files
read_tail log records dirty pages files stands =
    log_tail log files records stands.stands.some (stands.stands.named ∙ ap file_named stands.stands.byte) stands.holds

all_sound : (files : Files) → ((file : FileNo) → AreBytes (of_file files file)) → IsImage (firm_disk files) files
all_sound files bytes Master = firm_sound files.master (bytes Master)
all_sound files bytes LogA = firm_sound files.log_a (bytes LogA)
all_sound files bytes LogB = firm_sound files.log_b (bytes LogB)
all_sound files bytes Pages = firm_sound files.pages (bytes Pages)

pub stands_covers_read : (log : Log) (records : Records) (dirty : Dirty) (pages doubt : PageList) (files : Files)
    → StandsRead log records dirty pages files → CoversRead dirty pages doubt records files
stands_covers_read log records dirty pages doubt files stands = record {
  sized = stands.sized;
  covered = stands.covered;
  tail = inl (read_tail log records dirty pages files stands);
}

-- what is opened again holds the pages
pub read_holds : (log : Log) (records : Records) (dirty : Dirty) (pages : PageList) (files : Files)
    → StandsRead log records dirty pages files → ((file : FileNo) → AreBytes (of_file files file))
    → HoldsPages pages files
read_holds log records dirty pages files stands bytes =
    image_holds pages records (firm_disk files) files stands.sized stands.covered.gives (all_sound files bytes)
    (read_tail log records dirty pages files stands)

-- homes are no part of it
tail_with : (master : List ℕ) (files : Files) (xs : List ℕ) (records : Records)
    → IsTailOf master (files_data files) records → IsTailOf master (files_data (with_file files Pages xs)) records
tail_with [] files xs records tail = tail
tail_with (byte ∷ bytes) files xs records tail = tail

tail_stays : (old new : Files) (records : Records) → new ≡ with_file old Pages new.pages → HasTail records old
    → HasTail records new
tail_stays old new records only tail =
    subst (λ (f : Files). HasTail records f) (sym only) (tail_with old.master old new.pages records tail)

-- ---- a write of a page's home

module _ (dirty : Dirty) (pages doubt : PageList) (records : Records) where
  pub read_fewer : (now : Dirty) (files : Files) → CoversRead dirty pages doubt records files → Fewer dirty now
      → IsCovered now pages records (firm_file files.pages) → CoversRead now pages doubt records files
  read_fewer now files covers fewer covered = record {
    sized = covers.sized;
    covered = covered;
    tail = doubt_on dirty now pages doubt (firm_file files.pages) (firm_file files.pages) files files records fewer
        (λ others tail. tail) (λ other. other.gives) covers.tail;
  }

  torn_read : (page : ℕ) (content : List ℕ) (old new : Files) → dirty page ≡ Some (unwritten content)
      → CoversRead dirty pages doubt records old → ChangesFile Pages (TornBytes (PAGE_BYTES * page) PAGE_BYTES) old new
      → CoversRead dirty pages doubt records new
  torn_read page content old new is covers change =
      let stay = bytes_stay page old.pages new.pages change.here in
      let long : length new.pages ≤ max (length old.pages) (PAGE_BYTES * (page + 1)) =
      omega (arith, change.here.no_longer) in
      record {
        sized = pages_sized (firm_disk old) (firm_disk new) covers.sized (ap firm_disk change.elsewhere);
        covered = covered_stay dirty pages records (firm_file old.pages) covers.covered page content
            (firm_file new.pages) is stay long;
        tail = doubt_on dirty dirty pages doubt (firm_file old.pages) (firm_file new.pages) old new records
            (same_dirty dirty)
            (λ others tail. tail_stays old new others change.elsewhere tail)
            (λ other. let named = other.named page (unwritten content) is in
            gives_stay doubt other.found page named.0 (firm_file old.pages) (firm_file new.pages) other.gives named.1
            stay long)
            covers.tail;
      }

module _ {T E : Type 0} (page : ℕ) (content : List ℕ) (old new : Files) (size : length content ≡ PAGE_BYTES) where
  bytes_torn : (result : Result T E) → FilesWrite Pages (PAGE_BYTES * page) content result old new
      → ChangesFile Pages (TornBytes (PAGE_BYTES * page) PAGE_BYTES) old new
  bytes_torn (Ok value) writes =
      let torn : TornBytes (PAGE_BYTES * page) (length content) old.pages (put old.pages (PAGE_BYTES * page) content) =
      (written_torn (PAGE_BYTES * page) content (firm_file old.pages)
      (written (firm_file old.pages) (PAGE_BYTES * page) content) refl).torn in
      record {
        here = subst (λ (n : ℕ). TornBytes (PAGE_BYTES * page) n old.pages new.pages) size
            (subst (λ (l : List ℕ). TornBytes (PAGE_BYTES * page) (length content) old.pages l) (sym writes.here) torn);
        elsewhere = writes.elsewhere;
      }
  bytes_torn (Err fault) writes = record {
    here = subst (λ (n : ℕ). TornBytes (PAGE_BYTES * page) n old.pages new.pages) size writes.here;
    elsewhere = writes.elsewhere;
  }

  pub bytes_home : (result : Result T E) → FilesWrite Pages (PAGE_BYTES * page) content result old new
      → OnOk result (IsHome page content new.pages)
  bytes_home (Ok value) writes =
      subst (λ (l : List ℕ). IsHome page content l) (sym writes.here) (home_put page content old.pages size)
  bytes_home (Err fault) writes = tt

  marked_read : (dirty : Dirty) (pages doubt : PageList) (records : Records) → CoversRead dirty pages doubt records new
      → (result : Result T E) → OnOk result (IsHome page content new.pages)
      → OnOk result ((now : Dirty) → IsMarked page content dirty now → CoversRead now pages doubt records new)
  marked_read dirty pages doubt records covers (Err fault) home = tt
  marked_read dirty pages doubt records covers (Ok value) home = λ now marked.
      read_fewer dirty pages doubt records now new covers (marked_fewer page content dirty now marked)
      (covered_marked dirty pages records (firm_file new.pages) covers.covered page content now marked home)

  pub writes_home_read : (result : Result T E) → FilesWrite Pages (PAGE_BYTES * page) content result old new
      → WritesHomeRead page content result old new
  writes_home_read result writes dirty pages doubt records is covers =
      let change = bytes_torn result writes in
      let now = torn_read dirty pages doubt records page content old new is covers change in
      record {
        only = change.elsewhere;
        covers = now;
        stay = bytes_stay page old.pages new.pages change.here;
        home = bytes_home result writes;
        done = marked_read dirty pages doubt records now result (bytes_home result writes);
      }

-- ---- a sync of the homes

pub syncs_homes_read : {T E : Type 0} (result : Result T E) (files : Files) → AreBytes files.pages
    → SyncsHomesRead result files files
syncs_homes_read {T} {E} result files bytes dirty pages doubt records covers = record {
  only = sym (with_of files Pages);
  covers = covers;
  done = by result;
}
  where
    by : (answer : Result T E) → OnOk answer ((now : Dirty) → AreSettled dirty now
        → CoversRead now pages doubt records files)
    by (Err fault) = tt
    by (Ok value) = λ now settled.
        read_fewer dirty pages doubt records now files covers (settled_fewer dirty now settled)
        (covered_settled dirty pages records (firm_file files.pages) covers.covered now (firm_sound files.pages bytes)
        settled)

-- the log goes on standing while it and the master stay
pub stands_on_read : (log : Log) (records : Records) (dirty now : Dirty) (pages doubt : PageList) (old new : Files)
    → StandsRead log records dirty pages old → new ≡ with_file old Pages new.pages
    → CoversRead now pages doubt records new → StandsRead log records now pages new
stands_on_read log records dirty now pages doubt old new stands only covers =
    let master : old.master ≡ new.master = sym (ap (λ (f : Files). f.master) only) in
    let here : of_file old log.file ≡ of_file new log.file = sym (pages_apart old new log.file log.in_log only) in
    record {
      sized = pages_sized (firm_disk old) (firm_disk new) stands.sized (ap firm_disk only);
      stands = record {
        some = subst (λ (l : List ℕ). 0 < length l) master stands.stands.some;
        byte = stands.stands.byte ∙ ap (λ (l : List ℕ). slice_index l 0) master;
        named = stands.stands.named;
        long = stands.stands.long ∙ ap length here;
        within = subst (λ (l : List ℕ). log.place < length l) here stands.stands.within;
      };
      holds = subst (λ (l : List ℕ). IsLog l records) here stands.holds;
      counts = stands.counts;
      place = stands.place;
      covered = covers.covered;
    }

-- ---- an append

log_apart : {T : Type 0} (file : FileNo) (old : Four T) (x : T) → is_log_file file ≡ true
    → ((with_file old file x).master ≡ old.master) × ((with_file old file x).pages ≡ old.pages)
log_apart Master old x in_log = absurd (cc in_log)
log_apart LogA old x in_log = (refl, refl)
log_apart LogB old x in_log = (refl, refl)
log_apart Pages old x in_log = absurd (cc in_log)

-- all of it firm, one file changes to one that is firm
firm_with : (files : Files) (file : FileNo) (xs : List ℕ)
    → firm_disk (with_file files file xs) ≡ with_file (firm_disk files) file (firm_file xs)
firm_with files Master xs = refl
firm_with files LogA xs = refl
firm_with files LogB xs = refl
firm_with files Pages xs = refl

firm_of : (files : Files) (file : FileNo) → of_file (firm_disk files) file ≡ firm_file (of_file files file)
firm_of files Master = refl
firm_of files LogA = refl
firm_of files LogB = refl
firm_of files Pages = refl

record_long : (records : Records) (images : List ImageData) → length (flat_map record_bytes (records ++ images ∷ []))
    ≡ length (flat_map record_bytes records) + (need_of images - 1)
record_long records images =
    let front : List ℕ = flat_map record_bytes records in
    let number : List ℕ = to_be_bytes w32 (length (body_bytes images)) in
    omega (
      arith,
      ap length (opened records images),
      length-append front (OPEN_GATE ∷ behind_gate images),
      length-append (flat_map record_bytes (records ++ images ∷ [])) (CLOSED_GATE ∷ []),
      length-append (number ++ body_bytes images) (CLOSED_GATE ∷ []),
      length-append number (body_bytes images),
    )

module _ (log : Log) (images : List ImageData) (dirty : Dirty) (pages put : PageList) (records : Records)
    (old new : Files) (stands : StandsRead log records dirty pages old) (record_is : IsLogRecord images)
    (fits : need_of images ≤ room_of log) (are_put : ArePut images pages put) where
  old_short : length (of_file old log.file) ≤ MAX_LOG_BYTES
  old_short = omega (
    arith,
    log_short log.file (firm_disk old) log.in_log stands.sized,
    ap (λ (f : FileData). f.greatest) (firm_of old log.file),
  )

  put_read : (new_log : Log) (now : Dirty)
      → new ≡ with_file old log.file (appended (of_file old log.file) log.place images) → StandsIn new_log new
      → new_log.file ≡ log.file → new_log.place ≡ log.place + (need_of images - 1)
      → new_log.tail ≡ log.tail + 1 → AreInstalled images dirty now
      → StandsRead new_log (records ++ images ∷ []) now put new
  put_read new_log now is stands_in file place more installed =
      let log_now : List ℕ = appended (of_file old log.file) log.place images in
      let apart = log_apart log.file old log_now log.in_log in
      let master : new.master ≡ old.master = ap (λ (f : Files). f.master) is ∙ apart.0 in
      let homes : old.pages ≡ new.pages = sym (ap (λ (f : Files). f.pages) is ∙ apart.1) in
      let here : log_now ≡ of_file new new_log.file =
      sym (ap (λ (n : FileNo). of_file new n) file ∙ ap (λ (f : Files). of_file f log.file) is
      ∙ of_with old log.file log_now) in
      record {
        sized = log_sized log.file (firm_disk old) (firm_disk new) (firm_file log_now) log.in_log stands.sized
            (ap firm_disk is ∙ firm_with old log.file log_now)
            (appended_short (of_file old log.file) log.place records images stands.holds stands.place record_is
            old_short (omega (arith, fits, log.within)));
        stands = stands_in;
        holds = subst (λ (l : List ℕ). IsLog l (records ++ images ∷ [])) here
            (appended_log (of_file old log.file) log.place records images stands.holds stands.place record_is);
        counts = more ∙ ap (λ (n : ℕ). n + 1) stands.counts ∙ sym (length-append records (images ∷ []));
        place = omega (arith, place, stands.place, record_long records images);
        covered = subst (λ (l : List ℕ). IsCovered now put (records ++ images ∷ []) (firm_file l)) homes
            (covered_installed dirty pages records (firm_file old.pages) stands.covered images put now are_put
            installed);
      }

  put_fails_read : AppendCutShort log images old new → AreBytes (of_file new log.file)
      → CoversRead dirty pages put records new
  put_fails_read cut bytes =
      let log_now : List ℕ = of_file new log.file in
      let apart = log_apart log.file old log_now log.in_log in
      let master : new.master ≡ old.master = ap (λ (f : Files). f.master) cut.only ∙ apart.0 in
      let homes : old.pages ≡ new.pages = sym (ap (λ (f : Files). f.pages) cut.only ∙ apart.1) in
      let some : 0 < length new.master = omega (arith, ap length master, stands.stands.some) in
      let named : log.file ≡ file_named (slice_index new.master 0) =
      stands.stands.named ∙ ap file_named (stands.stands.byte ∙ sym (ap (λ (l : List ℕ). slice_index l 0) master)) in
      let covered : IsCovered dirty pages records (firm_file new.pages) =
      subst (λ (l : List ℕ). IsCovered dirty pages records (firm_file l)) homes stands.covered in
      let either : IsLog log_now records ⊎ IsLog log_now (records ++ images ∷ []) =
      ⊎_elim (λ (same : _ ≡ _). inl (same_log (of_file old log.file) log.place records images stands.holds stands.place
      record_is log_now same))
      (λ (torn : TornBytes log.place 1 _ log_now). torn_log (of_file old log.file) log.place records images stands.holds
      stands.place record_is (zeros_behind log.length (log.place + 1 + length (behind_gate images))) log_now torn bytes)
      cut.either in
      record {
        sized = log_sized log.file (firm_disk old) (firm_disk new) (firm_file log_now) log.in_log stands.sized
            (ap firm_disk cut.only ∙ firm_with old log.file log_now) (omega (arith, cut.short, old_short));
        covered = covered;
        tail = ⊎_elim (λ (is : IsLog log_now records). inl (log_tail log new records some named is))
            (λ (is : IsLog log_now (records ++ images ∷ [])). inr (record {
              found = records ++ images ∷ [];
              tail = log_tail log new (records ++ images ∷ []) some named is;
              gives = gives_put images records pages put (firm_file new.pages) covered.gives are_put;
              named = λ page d some. named_more page records images d.content (covered.last page d some);
              number = inl (length-append records (images ∷ []));
            }))
            either;
      }

-- an append
pub puts_record_read : {T E : Type 0} (log new_log : Log) (images : List ImageData) (result : Result T E)
    (old new : Files) → IsLogRecord images → need_of images ≤ room_of log
    → AppendsFiles log new_log images result old new → AreBytes (of_file new log.file)
    → OnOk result ((new_log.tail ≡ log.tail + 1) × (new_log.place ≡ log.place + (need_of images - 1))
    × (new_log.file ≡ log.file))
    → PutsRecordRead log new_log images result old new
puts_record_read log new_log images (Ok value) old new record_is fits appends bytes counts dirty pages put records
    stands are_put =
    let done = appends stands.stands in
    record {
      failed = tt;
      done = λ now installed. put_read log images dirty pages put records old new stands record_is fits are_put
          new_log now
          done.0 done.1 counts.2 counts.1 counts.0 installed;
    }
puts_record_read log new_log images (Err fault) old new record_is fits appends bytes counts dirty pages put records
    stands are_put =
    record {
      failed = put_fails_read log images dirty pages put records old new stands record_is fits are_put
          (appends stands.stands) bytes;
      done = tt;
    }

-- ---- a switch

homes_apart : {T : Type 0} (file : FileNo) (old : Four T) (x m : T)
    → (with_file (with_file old (other_log file) x) Master m).pages ≡ old.pages
homes_apart Master old x m = refl
homes_apart LogA old x m = refl
homes_apart LogB old x m = refl
homes_apart Pages old x m = refl

log_there : {T : Type 0} (file : FileNo) (old : Four T) (x m : T) → is_log_file file ≡ true
    → of_file (with_file (with_file old (other_log file) x) Master m) file ≡ of_file old file
log_there Master old x m in_log = absurd (cc in_log)
log_there LogA old x m in_log = refl
log_there LogB old x m in_log = refl
log_there Pages old x m in_log = absurd (cc in_log)

-- a byte names the log or the other file
names_one : (test : Bool) (file : FileNo) → is_log_file file ≡ true
    → (file ≡ (if test then LogA else LogB)) ⊎ (other_log file ≡ (if test then LogA else LogB))
names_one test Master in_log = absurd (cc in_log)
names_one true LogA in_log = inl refl
names_one false LogA in_log = inr refl
names_one true LogB in_log = inr refl
names_one false LogB in_log = inl refl
names_one test Pages in_log = absurd (cc in_log)

module _ (log : Log) (dirty : Dirty) (pages : PageList) (records : Records) (old new : Files)
    (stands : StandsRead log records dirty pages old) (clean : AreClean dirty) where
  switch_read : (new_log : Log) → new ≡ switched_files log.file log.master old → StandsIn new_log new
      → new_log.tail ≡ 0 → new_log.place ≡ 0 → new_log.file ≡ other_log log.file
      → StandsRead new_log [] dirty pages new
  switch_read new_log is stands_in counts place file =
      let byte : List ℕ = ((log.master + 1) % 256) ∷ [] in
      let homes : old.pages ≡ new.pages =
      sym (ap (λ (f : Files). f.pages) is ∙ homes_apart log.file old (CLOSED_GATE ∷ []) (put_bytes old.master byte)) in
      let here : CLOSED_GATE ∷ [] ≡ of_file new new_log.file =
      sym (ap (λ (n : FileNo). of_file new n) file ∙ ap (λ (f : Files). of_file f (other_log log.file)) is
      ∙ master_apart (other_log log.file) (with_file old (other_log log.file) (CLOSED_GATE ∷ []))
      (put_bytes old.master byte) (other_in_log log.file)
      ∙ other_here log.file old (CLOSED_GATE ∷ [])) in
      record {
        sized = switch_sized log.file (firm_disk old) (firm_disk new) (firm_file (CLOSED_GATE ∷ []))
            (firm_file (put_bytes old.master byte)) stands.sized
            (ap firm_disk is ∙ firm_with (with_file old (other_log log.file) (CLOSED_GATE ∷ [])) Master
            (put_bytes old.master byte)
            ∙ ap (λ (d : Disk). with_file d Master (firm_file (put_bytes old.master byte)))
            (firm_with old (other_log log.file) (CLOSED_GATE ∷ []))) (omega arith)
            (omega (arith, length-put old.master byte 0 (omega arith)))
            (omega (arith, length-put old.master byte 0 (omega arith), stands.sized.one));
        stands = stands_in;
        holds = subst (λ (l : List ℕ). IsLog l []) here closed_log;
        counts = counts;
        place = place;
        covered = subst (λ (l : List ℕ). IsCovered dirty pages [] (firm_file l)) homes
            (covered_switched dirty pages records (firm_file old.pages) stands.covered clean);
      }
    where
      put_bytes : List ℕ → List ℕ → List ℕ
      put_bytes xs ys = put xs 0 ys

  switch_fails_read : CutShort log.file old new → CoversRead dirty pages pages records new
  switch_fails_read cut =
      let other : FileNo = other_log log.file in
      let homes : old.pages ≡ new.pages =
      sym (ap (λ (f : Files). f.pages) cut.only ∙ homes_apart log.file old (of_file new other) new.master) in
      let covered : IsCovered dirty pages records (firm_file new.pages) =
      subst (λ (l : List ℕ). IsCovered dirty pages records (firm_file l)) homes stands.covered in
      let holds : IsLog (of_file new log.file) records =
      subst (λ (l : List ℕ). IsLog l records)
      (sym (ap (λ (f : Files). of_file f log.file) cut.only
      ∙ log_there log.file old (of_file new other) new.master log.in_log)) stands.holds in
      let none : HasTail [] new → InDoubt dirty pages pages records (firm_file new.pages) new = λ tail. record {
        found = [];
        tail = tail;
        gives = homes_give dirty pages records (firm_file new.pages) covered clean;
        named = λ page d some. absurd (none-some d (sym (clean page) ∙ some));
        number = inr refl;
      } in
      let some : 0 < length new.master =
      ⊎_elim (λ (same : new.master ≡ old.master). omega (arith, ap length same, stands.stands.some))
      (λ (tried : (of_file new other ≡ CLOSED_GATE ∷ []) × TornBytes 0 1 old.master new.master).
      omega (arith, tried.1.no_shorter, stands.stands.some)) cut.either in
      let one : length new.master ≤ 1 =
      ⊎_elim (λ (same : new.master ≡ old.master). omega (arith, ap length same, stands.sized.one))
      (λ (tried : (of_file new other ≡ CLOSED_GATE ∷ []) × TornBytes 0 1 old.master new.master).
      omega (arith, tried.1.no_longer, stands.sized.one)) cut.either in
      record {
        sized = switch_sized log.file (firm_disk old) (firm_disk new) (firm_file (of_file new other))
            (firm_file new.master) stands.sized
            (ap firm_disk cut.only ∙ firm_with (with_file old other (of_file new other)) Master new.master
            ∙ ap (λ (d : Disk). with_file d Master (firm_file new.master)) (firm_with old other (of_file new other)))
            (omega (
              arith,
              cut.short,
              log_short other (firm_disk old) (other_in_log log.file) stands.sized,
              ap (λ (f : FileData). f.greatest) (firm_of old other),
            ))
            some one;
        covered = covered;
        tail = ⊎_elim (λ (same : new.master ≡ old.master). inl
            (log_tail log new records some (stands.stands.named ∙ ap file_named (stands.stands.byte
            ∙ sym (ap (λ (l : List ℕ). slice_index l 0) same))) holds))
            (λ (tried : (of_file new other ≡ CLOSED_GATE ∷ []) × TornBytes 0 1 old.master new.master).
            ⊎_elim (λ (this : log.file ≡ file_named (slice_index new.master 0)). inl
            (log_tail log new records some this holds))
            (λ (that : other ≡ file_named (slice_index new.master 0)). inr (none
            (tail_named new.master new [] some (subst (λ (which : FileNo). IsLog (of_file new which) []) that
            (subst (λ (l : List ℕ). IsLog l []) (sym tried.0) closed_log)))))
            (names_one (slice_index new.master 0 % 2 == 0) log.file log.in_log))
            cut.either;
      }

-- a switch
pub switches_log_read : {T E : Type 0} (log new_log : Log) (result : Result T E) (old new : Files)
    → SwitchesFiles log new_log result old new
    → OnOk result ((new_log.tail ≡ 0) × (new_log.place ≡ 0) × (new_log.file ≡ other_log log.file))
    → SwitchesLogRead log new_log result old new
switches_log_read log new_log (Ok value) old new switches counts dirty pages records stands clean = record {
  failed = tt;
  done = switch_read log dirty pages records old new stands clean new_log switches.0 (switches.1 stands.stands) counts.0
      counts.1 counts.2;
}
switches_log_read log new_log (Err fault) old new switches counts dirty pages records stands clean =
    record { failed = switch_fails_read log dirty pages records old new stands clean switches; done = tt }
