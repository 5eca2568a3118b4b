-- What a crash leaves of a log.
use Rattle.std.proofs.Common.{◌≡◌, ◌≢◌, inl, inr, ◌⊎◌, ⊎_elim, ℕ, zero, suc, ◌+◌, ◌<◌, ◌≤◌, ◌%◌, ◌==◌, if◌then◌else◌}
use Rattle.std.proofs.Common.{Bool, true, false, List, [], ◌∷◌, ◌++◌, length, take, drop, flat_map, get_or, slice_index}
use Rattle.std.proofs.Common.{refl, sym, ◌∙◌, ap, subst, arith, append_assoc, append-nil, length-append, length-take}
use Rattle.std.proofs.Common.{length-drop, take-append-drop, drop-cons, true≢false, add-one}
use Rattle.std.specs.List.{AllByRecursion}
use Rattle.std.proofs.lemmas.List.{places, take_at, drop_at, take-take, drop-take}
use Rattle.std.proofs.lemmas.Grind.{flat_map-append}
use Rattle.std.proofs.lemmas.Bool.Decides.{leb_tells, nat_tests}
use Rattle.ori_bytes.specs.declared.limits.TheConstants.{OPEN_GATE, CLOSED_GATE}
use Rattle.ori_volume.specs.declared.file.FileNo.{FileNo}
use Rattle.ori_volume.specs.declared.file.FileNo.TheVariants.{Master, LogA, LogB, Pages}
use Rattle.ori_volume.specs.Disk.{of_file, with_file, FileData, Disk, Files, IsFileImage}
use Rattle.ori_volume.specs.Effects.{synced, is_touched, Torn}
use Rattle.ori_volume.specs.Runs.{EachImage}
use Rattle.ori_log.specs.Log.{ImageData, record_bytes, IsLogRecord, IsLog, IsTailOf}
use Rattle.ori_log.specs.Files.{is_log_file, file_named, files_data, Behind}
use Rattle.ori_log.specs.Images.{behind_gate}
use Rattle.ori_log.specs.Logs.{HasTail, Names, HoldsLog, HoldsOneMore}
use Rattle.ori_log.proofs.Behind.{take_agree, firm_still}

all_front : {X : Type 0} (P : X → Type 0) (xs ys : List X) → AllByRecursion P (xs ++ ys) → AllByRecursion P xs
all_front P [] ys all = tt
all_front P (x ∷ xs) ys all = (all.0, all_front P xs ys all.1)

pub all_more : {X : Type 0} (P : X → Type 0) (xs : List X) (x : X) → AllByRecursion P xs → P x
    → AllByRecursion P (xs ++ x ∷ [])
all_more P [] x all here = (here, tt)
all_more P (y ∷ xs) x all here = (all.0, all_more P xs x all.1 here)

-- a list in three parts, by its front
pub front_split : (xs front : List ℕ) (n : ℕ) → take n xs ≡ front → xs ≡ front ++ drop n xs
front_split xs front n is = sym (take-append-drop n xs) ∙ ap (λ (l : List ℕ). l ++ drop n xs) is

-- the file that a byte names, by cases
pub chosen : (test : Bool) (image : Files) → (if test then image.log_a else image.log_b) ≡ of_file image
    (if test then LogA else LogB)
chosen true image = refl
chosen false image = refl

-- an image whose master names a file that is a log has that tail
pub tail_named : (master : List ℕ) (image : Files) (records : List (List ImageData)) → 0 < length master
    → IsLog (of_file image (file_named (slice_index master 0))) records
    → IsTailOf master (files_data image) records
tail_named [] image records some log = absurd (omega arith)
tail_named (byte ∷ bytes) image records some log =
    subst (λ (l : List ℕ). IsLog l records) (sym (chosen (byte % 2 == 0) image)) log

pub tail_of : (master : FileData) (file : FileNo) (image : Files) (records : List (List ImageData)) → Names master file
    → IsFileImage master image.master
    → IsLog (of_file image file) records → HasTail records image
tail_of master file image records names allowed log =
    let some : 0 < length image.master = omega (arith, allowed.no_shorter, names.least) in
    let byte : slice_index image.master 0 ≡ slice_index master.bytes 0 = allowed.firm 0 some names.firm in
    tail_named image.master image records some
    (subst (λ (which : FileNo). IsLog (of_file image which) records)
    (sym (ap (λ (b : ℕ). file_named b) byte ∙ names.named)) log)

-- an image of a file that holds a log is that log
pub image_log : (records : List (List ImageData)) (place : ℕ) (file : FileData) (image : List ℕ)
    → HoldsLog records place file → IsFileImage file image → IsLog image records
image_log records place file image holds allowed =
    let front : take (place + 1) image ≡ take (place + 1) file.bytes =
    take_agree (place + 1) image file.bytes (omega (arith, allowed.no_shorter, holds.least)) (omega (arith, holds.long))
    (λ k within. allowed.firm k (omega (arith, allowed.no_shorter, holds.least)) (holds.firm k within)) in (
      holds.gate,
      drop (place + 1) image,
      front_split image _ (place + 1) (front ∙ holds.reads) ∙ append_assoc (flat_map record_bytes records)
          (holds.gate ∷ []) (drop (place + 1) image),
      holds.closed,
      holds.whole,
    )

pub each_has_tail : (records : List (List ImageData)) (place : ℕ) (file : FileNo) (disk : Disk) → Names disk.master file
    → HoldsLog records place (of_file disk file)
    → EachImage (HasTail records) disk
each_has_tail records place file disk names holds image allowed =
    tail_of disk.master file image records names (allowed Master)
    (image_log records place (of_file disk file) (of_file image file) holds (allowed file))

-- what a file holds below a place it still holds after a change behind that place
pub behind_holds : (records : List (List ImageData)) (place limit : ℕ) (file : FileNo) (old new : Disk)
    → HoldsLog records place (of_file old file) → Behind file (place + 1) limit old new
    → HoldsLog records place (of_file new file)
behind_holds records place limit file old new holds behind = record {
  whole = holds.whole;
  gate = holds.gate;
  closed = holds.closed;
  reads = behind.same ∙ holds.reads;
  place_is = holds.place_is;
  firm = λ k within. behind.firm k within (holds.firm k within);
  least = omega (arith, behind.least, holds.least);
  long =
      omega (
        arith,
        ap length behind.same,
        length-take (place + 1) (of_file new file).bytes,
        length-take (place + 1)
            (of_file old file).bytes,
        holds.long,
      );
}

pub master_same : (old new : Disk) (file : FileNo) (f : FileData) → is_log_file file ≡ true → new ≡ with_file old file f
    → new.master ≡ old.master
master_same old new Master f in_log is = absurd (true≢false (sym in_log))
master_same old new LogA f in_log is = ap (λ (d : Disk). d.master) is
master_same old new LogB f in_log is = ap (λ (d : Disk). d.master) is
master_same old new Pages f in_log is = absurd (true≢false (sym in_log))

pub names_same : (old new : Disk) (file : FileNo) → is_log_file file ≡ true
    → new ≡ with_file old file (of_file new file) → Names old.master file → Names new.master file
names_same old new file in_log only names =
    subst (λ (m : FileData). Names m file) (sym (master_same old new file (of_file new file) in_log only)) names

-- Two lists that agree but at one place, of which one reads as a front, a gate there and what is behind it, read alike
-- but for
-- that gate.
pub but_gate : (xs ys front behind : List ℕ) (gate place : ℕ) → place ≡ length front
    → take (place + 1 + length behind) xs ≡ front ++ gate ∷ behind
    → place + length behind < length xs → place + length behind < length ys
    → ((k : ℕ) → k < place + 1 + length behind → k ≢ place → slice_index ys k ≡ slice_index xs k)
    → take (place + 1 + length behind) ys ≡ front ++ slice_index ys place ∷ behind
but_gate xs ys front behind gate place place_is reads long_xs long_ys same =
    let n = length behind in
    let front_xs : take place xs ≡ front =
    sym (take-take place (place + 1 + n) xs (omega arith)) ∙ ap (λ (l : List ℕ). take place l) reads
    ∙ take_at front (gate ∷ behind) place (sym place_is) in
    let front_ys : take place ys ≡ front =
    take_agree place ys xs (omega arith) (omega arith) (λ k within. same k (omega arith) (omega arith)) ∙ front_xs in
    let behind_xs : take n (drop (place + 1) xs) ≡ behind =
    sym (drop-take (place + 1) n xs) ∙ ap (λ (l : List ℕ). drop (place + 1) (l))
    (reads ∙ sym (append_assoc front (gate ∷ []) behind))
    ∙ drop_at (front ++ gate ∷ []) behind (place + 1) (omega (arith, length-append front (gate ∷ []))) in
    let behind_ys : take n (drop (place + 1) ys) ≡ behind =
    take_agree n (drop (place + 1) ys) (drop (place + 1) xs) (omega (arith, length-drop (place + 1) ys))
    (omega (arith, length-drop (place + 1) xs))
    (λ k within.
    let left : get_or (drop (place + 1) ys) k 0 ≡ get_or ys (place + 1 + k) 0 = search (arith, places) in
    let right : get_or (drop (place + 1) xs) k 0 ≡ get_or xs (place + 1 + k) 0 = search (arith, places) in
    left ∙ same (place + 1 + k) (omega arith) (omega arith) ∙ sym right)
    ∙ behind_xs in
    let parts : ys ≡ (front ++ slice_index ys place ∷ behind) ++ drop n (drop (place + 1) ys) =
    front_split ys front place front_ys
    ∙ ap (λ (l : List ℕ). front ++ l) (drop-cons ys place 0 (omega arith))
    ∙ ap (λ (j : ℕ). front ++ slice_index ys place ∷ drop j ys) (sym (add-one place))
    ∙ ap (λ (l : List ℕ). front ++ slice_index ys place ∷ l) (front_split (drop (place + 1) ys) behind n behind_ys)
    ∙ sym (append_assoc front (slice_index ys place ∷ behind) (drop n (drop (place + 1) ys))) in
    ap (λ (l : List ℕ). take (place + 1 + n) l) parts
    ∙ take_at (front ++ slice_index ys place ∷ behind) (drop n (drop (place + 1) ys)) (place + 1 + n)
    (omega (arith, length-append front (slice_index ys place ∷ behind)))

-- the gate before a record opens it
pub opened : (records : List (List ImageData)) (images : List ImageData) → flat_map record_bytes records ++ OPEN_GATE
    ∷ behind_gate images ≡ flat_map record_bytes (records ++ images ∷ []) ++ CLOSED_GATE ∷ []
opened records images =
    let one : flat_map record_bytes (records ++ images ∷ []) ≡ flat_map record_bytes records ++ record_bytes images =
    flat_map-append record_bytes records (images ∷ []) ∙ ap (λ (l : List ℕ). flat_map record_bytes records ++ l)
    (append-nil (record_bytes images)) in
    sym (ap (λ (l : List ℕ). l ++ CLOSED_GATE ∷ []) one ∙ append_assoc (flat_map record_bytes records)
    (record_bytes images) (CLOSED_GATE ∷ []))

equal_cases : (a b : ℕ) → (a ≡ b) ⊎ (a ≢ b)
equal_cases zero zero = inl refl
equal_cases zero (suc b) = inr (λ is. omega arith)
equal_cases (suc a) zero = inr (λ is. omega arith)
equal_cases (suc a) (suc b) = ⊎_elim (λ (is : a ≡ b). inl (ap suc is)) (λ (is : a ≢ b). inr (λ same. is (omega arith)))
    (equal_cases a b)

-- an image of a file with one record more behind a gate that isn't firm is the log without it or with it
pub image_either : (records : List (List ImageData)) (images : List ImageData) (place gate : ℕ) (file : FileData)
    (image : List ℕ) → HoldsOneMore records images place gate file
    → IsFileImage file image → IsLog image records ⊎ IsLog image (records ++ images ∷ [])
image_either records images place gate file image holds allowed =
    let m = place + 1 + length (behind_gate images) in
    let long : place + length (behind_gate images) < length image = omega (arith, allowed.no_shorter, holds.least) in
    let reads : take m image ≡ flat_map record_bytes records ++ slice_index image place ∷ behind_gate images =
    but_gate file.bytes image (flat_map record_bytes records) (behind_gate images) gate place holds.place_is holds.reads
    holds.long long
    (λ k within other. allowed.firm k (omega arith) (holds.firm k within other)) in
    ⊎_elim
    (λ (is : slice_index image place ≡ OPEN_GATE). inr (
      CLOSED_GATE,
      drop m image,
      front_split image _ m (reads ∙ ap (λ (b : ℕ). flat_map record_bytes records ++ b ∷ behind_gate images) is
          ∙ opened records images)
          ∙ append_assoc (flat_map record_bytes (records ++ images ∷ [])) (CLOSED_GATE ∷ []) (drop m image),
      (λ (same : CLOSED_GATE ≡ OPEN_GATE). omega arith),
      holds.whole,
    ))
    (λ (isnt : slice_index image place ≢ OPEN_GATE). inl (
      slice_index image place,
      behind_gate images ++ drop m image,
      front_split image _ m reads ∙ append_assoc (flat_map record_bytes records)
          (slice_index image place ∷ behind_gate images) (drop m image),
      isnt,
      all_front IsLogRecord records (images ∷ []) holds.whole,
    ))
    (equal_cases (slice_index image place) OPEN_GATE)

pub each_has_either : (records : List (List ImageData)) (images : List ImageData) (place gate : ℕ) (file : FileNo)
    (disk : Disk) → Names disk.master file
    → HoldsOneMore records images place gate (of_file disk file)
    → EachImage (λ image. HasTail records image ⊎ HasTail (records ++ images ∷ []) image) disk
each_has_either records images place gate file disk names holds image allowed =
    ⊎_elim (λ (log : IsLog (of_file image file) records). inl
    (tail_of disk.master file image records names (allowed Master) log))
    (λ (log : IsLog (of_file image file) (records ++ images ∷ [])). inr
    (tail_of disk.master file image (records ++ images ∷ []) names (allowed Master) log))
    (image_either records images place gate (of_file disk file) (of_file image file) holds (allowed file))

only_gate : (len place k : ℕ) → place < len → k ≢ place → is_touched len place 1 k ≡ false
only_gate len place k within other = grind (arith, nat_tests)

-- a write of the gate, done or failed, leaves all but the gate
pub torn_gate : (records : List (List ImageData)) (images : List ImageData) (place gate : ℕ) (f g : FileData)
    → HoldsOneMore records images place gate f → Torn place 1 f g
    → HoldsOneMore records images place (slice_index g.bytes place) g
torn_gate records images place gate f g holds torn =
    let n = length (behind_gate images) in
    let long : place + n < length g.bytes = omega (arith, torn.torn.no_shorter, holds.long) in
    record {
      whole = holds.whole;
      reads = but_gate f.bytes g.bytes (flat_map record_bytes records) (behind_gate images) gate place holds.place_is
          holds.reads holds.long long
          (λ k within other.
          ⊎_elim (λ (after : (_ ≡ true) × (place + 1 ≤ k)). torn.torn.after k after.1)
          (λ (before : (_ ≡ false) × (k < place + 1)). torn.torn.before k (omega (arith, holds.long, before.1))
          (omega (arith, before.1)))
          (leb_tells (place + 1) k));
      place_is = holds.place_is;
      firm = λ k within other. firm_still (is_touched (length f.bytes) place 1) f g k torn.loosened
          (holds.firm k within other) (only_gate (length f.bytes) place k (omega (arith, holds.long)) other);
      least = omega (arith, torn.loosened.least, torn.torn.no_shorter, holds.least, holds.long);
      long = long;
    }

-- once all is firm and the gate open, the log has the record
pub synced_log : (records : List (List ImageData)) (images : List ImageData) (place : ℕ) (f g : FileData)
    → HoldsOneMore records images place OPEN_GATE f → g ≡ synced f
    → HoldsLog (records ++ images ∷ []) (place + length (behind_gate images)) g
synced_log records images place f g holds is =
    let n = length (behind_gate images) in
    let reads : take (place + n + 1) g.bytes ≡ flat_map record_bytes (records ++ images ∷ []) ++ CLOSED_GATE ∷ [] =
    ap (λ (d : FileData). take (place + n + 1) d.bytes) is ∙ ap (λ (j : ℕ). take j f.bytes) (omega arith) ∙ holds.reads
    ∙ opened records images in
    let same : length g.bytes ≡ length f.bytes = ap (λ (d : FileData). length d.bytes) is in
    record {
      whole = holds.whole;
      gate = CLOSED_GATE;
      closed = λ (same : CLOSED_GATE ≡ OPEN_GATE). omega arith;
      reads = reads;
      place_is = omega (
        arith,
        ap length reads,
        length-take (place + n + 1) g.bytes,
        length-append
            (flat_map record_bytes (records ++ images ∷ [])) (CLOSED_GATE ∷ []),
        holds.long,
        same,
      );
      firm = λ k within. ap (λ (d : FileData). d.loose k) is;
      least = omega (arith, ap (λ (d : FileData). d.least) is, holds.long);
      long = omega (arith, holds.long, same);
    }

-- a sync keeps what a file holds but for the gate
pub synced_one_more : (records : List (List ImageData)) (images : List ImageData) (place gate : ℕ) (f g : FileData)
    → HoldsOneMore records images place gate f → g ≡ synced f
    → HoldsOneMore records images place gate g
synced_one_more records images place gate f g holds is = record {
  whole = holds.whole;
  reads = ap (λ (d : FileData). take (place + 1 + length (behind_gate images)) d.bytes) is ∙ holds.reads;
  place_is = holds.place_is;
  firm = λ k within other. ap (λ (d : FileData). d.loose k) is;
  least = omega (arith, ap (λ (d : FileData). d.least) is, holds.long);
  long = omega (arith, ap (λ (d : FileData). length d.bytes) is, holds.long);
}
