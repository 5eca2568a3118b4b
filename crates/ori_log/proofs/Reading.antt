-- What one more image, and one more record, adds to what was read of a log.
use Rattle.std.proofs.Common.{max, ◌==◌, if◌then◌else◌, cond, Option, Some, None, IfSome, Result, Ok, Err, IsErrAnd}
use Rattle.std.proofs.Common.{IsErrOf, ◌≡◌, ◌≢◌, ℕ, ◌+◌, ◌*◌, ◌-◌, ◌<◌, ◌≤◌, ◌^◌, Bool, true, false, List, [], ◌∷◌}
use Rattle.std.proofs.Common.{◌++◌, length, take, drop, replicate, flat_map, get_or, refl, sym, ◌∙◌, ap, ap₂, subst}
use Rattle.std.proofs.Common.{arith, append_assoc, append-nil, length-append, length-drop}
use Rattle.std.specs.List.{AllByRecursion}
use Rattle.std.specs.Cmp.{unsigned_tied}
use Rattle.std.specs.Ordering.{nat_cmp, is_eq}
use Rattle.std.specs.BTreeMap.{BTreeMap, get}
use Rattle.std.specs.Int.{w32, to_be_bytes}
use Rattle.std.proofs.lemmas.List.{take-append-le, drop-drop}
use Rattle.std.proofs.lemmas.Bool.Decides.{nat_tests}
use Rattle.std.proofs.lemmas.Grind.{flat_map-append}
use Rattle.std.proofs.Math.Seq.{take-add}
use Rattle.ori_bytes.specs.declared.limits.TheConstants.{PAGE_BYTES, MAX_PAGES, OPEN_GATE}
use Rattle.ori_volume.specs.declared.file.FileNo.{FileNo}
use Rattle.ori_volume.specs.Disk.{Files, of_file}
use Rattle.ori_volume.specs.Effects.{read_bytes}
use Rattle.ori_log.specs.Log.{ImageData, image_bytes, body_bytes, record_bytes, AreImages, IsLogRecord, IsLog}
use Rattle.ori_log.specs.Log.{images_of, pages_named, last_image, first_of}
use Rattle.ori_log.specs.Images.{IsWhole}
use Rattle.ori_log.specs.Tails.{head_bytes, Fits, ReadTo, AddsImages, AreNoImages, IsNoLog, BreaksOff}
use Rattle.ori_log.specs.declared.stage.TheConstants.{IMAGE_BYTES}
use Rattle.ori_log.specs.declared.tail.Head.{Head}
use Rattle.ori_log.specs.declared.tail.Tail.{Tail}
use Rattle.ori_log.specs.declared.fault.LogFault.{LogFault}
use Rattle.ori_volume.proofs.Known.{some_always, some_both, some_then}
use Rattle.ori_log.proofs.Images.{length-body}
use Rattle.ori_log.proofs.Logs.{all_more, front_split}
use Rattle.ori_log.proofs.Records.{same_front, same_number, images_whole, stands_in, named_more, named_append}
use Rattle.ori_log.proofs.Records.{rising_more, last_append, first_of_assoc}

-- ---- pieces of a file

-- a read inside the file gives what stands there
pub read_inside : (file : List ℕ) (at count : ℕ) → at + count ≤ length file
    → read_bytes file at count ≡ take count (drop at file)
read_inside file at count inside =
    take-append-le count (drop at file) (replicate (count - length (drop at file)) 0)
    (omega (arith, length-drop at file))

pub take_on : (file : List ℕ) (at n m : ℕ) → take (n + m) (drop at file) ≡ take n (drop at file)
    ++ take m (drop (at + n) file)
take_on file at n m = take-add n m (drop at file) ∙ ap (λ (l : List ℕ). take n (drop at file) ++ take m l)
    (drop-drop n at file)

-- ---- images

-- so many images were read, all of pages below `low`
pub record SoFar (log : List ℕ) (at count : ℕ) (images : List ImageData) (low : ℕ) (old new : Tail) : Type 0 where
  pub many : length images ≡ count
  pub rising : AreImages 0 images
  pub reads : take (IMAGE_BYTES * count) (drop at log) ≡ flat_map image_bytes images
  pub last : (page : ℕ) → get nat_cmp new.pages page ≡ first_of (last_image page images) (get nat_cmp old.pages page)
  pub named : low ≡ pages_named images
  pub end : new.end ≡ old.end

pub so_far_none : (log : List ℕ) (at : ℕ) (tail : Tail) → SoFar log at 0 [] 0 tail tail
so_far_none log at tail = record {
  many = refl;
  rising = tt;
  reads = refl;
  last = λ page. refl;
  named = refl;
  end = refl;
}

pub page_tied : (a page : ℕ) → is_eq (nat_cmp a page) ≡ (a == page)
page_tied a page = unsigned_tied a page

first_of_one : (a page : ℕ) (content : List ℕ) (before : Option (List ℕ))
    → cond (a == page) (Some content) before ≡ first_of (if a == page then Some content else None) before
first_of_one a page content before =
    elim (a == page) as (λ (b : Bool). cond b (Some content) before ≡ first_of (if b then Some content else None)
    before) [ true ↦ refl | false ↦ refl ]

pub so_far_more : (log : List ℕ) (at count : ℕ) (images : List ImageData) (low : ℕ) (old mid new : Tail)
    (image : ImageData) → at + IMAGE_BYTES * count + IMAGE_BYTES ≤ length log
    → SoFar log at count images low old mid → read_bytes log (at + IMAGE_BYTES * count) IMAGE_BYTES ≡ image_bytes image
    → IsWhole image → low ≤ image.page → image.page < MAX_PAGES
    → ((page : ℕ) → get nat_cmp new.pages page ≡ cond (is_eq (nat_cmp image.page page)) (Some image.content)
    (get nat_cmp mid.pages page)) → new.end ≡ mid.end
    → SoFar log at (count + 1) (images ++ image ∷ []) (image.page + 1) old new
so_far_more log at count images low old mid new image inside so_far read whole above small puts end = record {
  many = omega (arith, length-append images (image ∷ []), so_far.many);
  rising = rising_more 0 images image so_far.rising (omega arith) (omega (arith, so_far.named, above)) small whole;
  reads =
      ap (λ (n : ℕ). take n (drop at log)) (omega arith) ∙ take_on log at (IMAGE_BYTES * count) IMAGE_BYTES
      ∙ ap₂ (λ (xs ys : List ℕ). xs ++ ys) so_far.reads (sym (read_inside log (at + IMAGE_BYTES * count) IMAGE_BYTES
      inside) ∙ read)
      ∙ ap (λ (l : List ℕ). flat_map image_bytes images ++ l) (sym (append-nil (image_bytes image)))
      ∙ sym (flat_map-append image_bytes images (image ∷ []));
  last = λ page.
      puts page ∙ ap₂ (λ (b : Bool) (o : Option (List ℕ)). cond b (Some image.content) o) (page_tied image.page page)
      (so_far.last page)
      ∙ first_of_one image.page page image.content (first_of (last_image page images) (get nat_cmp old.pages page))
      ∙ sym (first_of_assoc (if image.page == page then Some image.content else None) (last_image page images)
      (get nat_cmp old.pages page))
      ∙ ap (λ (o : Option (List ℕ)). first_of o (get nat_cmp old.pages page))
      (sym (last_append page images (image ∷ [])));
  named = omega (arith, named_more images image, so_far.named, above);
  end = end ∙ so_far.end;
}

pub so_far_all : (log : List ℕ) (at count : ℕ) (images : List ImageData) (low : ℕ) (old mid new : Tail)
    → SoFar log at count images low old mid → new.pages ≡ mid.pages → new.end ≡ max mid.end low
    → AddsImages log at count images old new
so_far_all log at count images low old mid new so_far pages end = record {
  many = so_far.many;
  rising = so_far.rising;
  reads = so_far.reads;
  last = λ page. ap (λ (m : BTreeMap ℕ (List ℕ)). get nat_cmp m page) pages ∙ so_far.last page;
  end = end ∙ ap₂ (λ (a b : ℕ). max a b) so_far.end so_far.named;
}

-- where the next image can't stand in a record, no record's images stand there
pub breaks_off : (log : List ℕ) (at count all : ℕ) (images : List ImageData) (low : ℕ) (old new : Tail)
    (image : ImageData) → at + IMAGE_BYTES * all ≤ length log → count < all
    → SoFar log at count images low old new → BreaksOff (read_bytes log (at + IMAGE_BYTES * count) IMAGE_BYTES) low
    image → AreNoImages (drop at log) all
breaks_off log at count all images low old new image inside fewer so_far breaks others rest are many same =
    let room : at + IMAGE_BYTES * count + IMAGE_BYTES ≤ length log = omega (arith, inside, fewer) in
    let next : take IMAGE_BYTES (drop (at + IMAGE_BYTES * count) log) ≡ image_bytes image =
    sym (read_inside log (at + IMAGE_BYTES * count) IMAGE_BYTES room) ∙ breaks.reads in
    let rest_is : drop (IMAGE_BYTES * count) (drop at log) ≡ image_bytes image
    ++ drop IMAGE_BYTES (drop (at + IMAGE_BYTES * count) log) =
    drop-drop (IMAGE_BYTES * count) at log ∙ front_split (drop (at + IMAGE_BYTES * count) log) (image_bytes image)
    IMAGE_BYTES next in
    let all_is : drop at log ≡ flat_map image_bytes images ++ (image_bytes image
    ++ drop IMAGE_BYTES (drop (at + IMAGE_BYTES * count) log)) =
    front_split (drop at log) (flat_map image_bytes images) (IMAGE_BYTES * count) so_far.reads
    ∙ ap (λ (l : List ℕ). flat_map image_bytes images ++ l) rest_is in
    let stands = stands_in 0 0 images others image (drop IMAGE_BYTES (drop (at + IMAGE_BYTES * count) log)) rest
    so_far.rising are (omega (arith, so_far.many, many, fewer)) breaks.small breaks.whole
    (sym all_is ∙ same) in
    breaks.breaks (omega (arith, so_far.named, stands.1), stands.2)

-- the image that was read breaks off there
pub broken_there : (files : Option Files) (file : FileNo) (at low : ℕ) (image : ImageData)
    → IfSome files (λ fs. read_bytes (of_file fs file) at IMAGE_BYTES ≡ image_bytes image)
    → length image.content ≡ PAGE_BYTES → image.page < 2 ^ 32 → ((low ≤ image.page) × (image.page < MAX_PAGES) → ⊥)
    → IfSome files (λ fs. (i : ImageData) × BreaksOff (read_bytes (of_file fs file) at IMAGE_BYTES) low i)
broken_there None file at low image reads whole small breaks = tt
broken_there (Some fs) file at low image reads whole small breaks = (
  image,
  record {
    reads = reads;
    whole = whole;
    small = small;
    breaks = breaks;
  },
)

-- ---- the same of the files that a volume tells

abbrev pub ReadImages : FileNo → ℕ → ℕ → ℕ → ℕ → Tail → Tail → Files → Type 0
ReadImages file place all count low old new fs =
    place + 9 + IMAGE_BYTES * all ≤ length (of_file fs file) → (images : List ImageData)
    × SoFar (of_file fs file) (place + 9) count images low old new

pub images_step : (files now : Option Files) (file : FileNo) (place all count low at : ℕ) (old mid new : Tail)
    (image : ImageData) → now ≡ files → count < all → at ≡ place + 9 + IMAGE_BYTES * count
    → IfSome files (ReadImages file place all count low old mid)
    → IfSome now (λ fs. read_bytes (of_file fs file) at IMAGE_BYTES ≡ image_bytes image) → IsWhole image
    → low ≤ image.page → image.page < MAX_PAGES
    → ((page : ℕ) → get nat_cmp new.pages page ≡ cond (is_eq (nat_cmp image.page page)) (Some image.content)
    (get nat_cmp mid.pages page)) → new.end ≡ mid.end
    → IfSome files (ReadImages file place all (count + 1) (image.page + 1) old new)
images_step files now file place all count low at old mid new image same fewer at_is so_far read whole above small puts
    end =
    some_both files now (ReadImages file place all count low old mid)
    (λ fs. read_bytes (of_file fs file) at IMAGE_BYTES ≡ image_bytes image)
    (ReadImages file place all (count + 1) (image.page + 1) old new) same
    (λ fs before reads inside.
    let images = before inside in (
      images.0 ++ image ∷ [],
      so_far_more (of_file fs file) (place + 9) count images.0 low old mid new image (omega (arith, inside, fewer))
          images.1
          (ap (λ (n : ℕ). read_bytes (of_file fs file) n IMAGE_BYTES) (sym at_is) ∙ reads) whole above small puts end,
    ))
    so_far read

pub images_broken : (files now : Option Files) (file : FileNo) (place all count low at : ℕ) (old mid : Tail)
    → now ≡ files → count < all → at ≡ place + 9 + IMAGE_BYTES * count
    → IfSome files (ReadImages file place all count low old mid)
    → IfSome now (λ fs. (image : ImageData) × BreaksOff (read_bytes (of_file fs file) at IMAGE_BYTES) low image)
    → IfSome files (λ fs. place + 9 + IMAGE_BYTES * all ≤ length (of_file fs file)
    → AreNoImages (drop (place + 9) (of_file fs file)) all)
images_broken files now file place all count low at old mid same fewer at_is so_far breaks =
    some_both files now (ReadImages file place all count low old mid)
    (λ fs. (image : ImageData) × BreaksOff (read_bytes (of_file fs file) at IMAGE_BYTES) low image)
    (λ fs. place + 9 + IMAGE_BYTES * all ≤ length (of_file fs file)
    → AreNoImages (drop (place + 9) (of_file fs file)) all) same
    (λ fs before broken inside.
    let images = before inside in
    breaks_off (of_file fs file) (place + 9) count all images.0 low old mid broken.0 inside fewer images.1
    (subst (λ (n : ℕ). BreaksOff (read_bytes (of_file fs file) n IMAGE_BYTES) low broken.0) at_is broken.1))
    so_far breaks

pub images_all : (files : Option Files) (file : FileNo) (place all low : ℕ) (old mid new : Tail)
    → IfSome files (ReadImages file place all all low old mid) → new.pages ≡ mid.pages → new.end ≡ max mid.end low
    → IfSome files (λ fs. place + 9 + IMAGE_BYTES * all ≤ length (of_file fs file) → (images : List ImageData)
    × AddsImages (of_file fs file) (place + 9) all images old new)
images_all files file place all low old mid new so_far pages end =
    some_then files (ReadImages file place all all low old mid)
    (λ fs. place + 9 + IMAGE_BYTES * all ≤ length (of_file fs file) → (images : List ImageData)
    × AddsImages (of_file fs file) (place + 9) all images old new)
    (λ fs before inside. let images = before inside in (
      images.0,
      so_far_all (of_file fs file) (place + 9) all images.0
          low old mid new images.1 pages end,
    ))
    so_far

-- a page is put below the number of pages, and those from there on have none still
pub bounded_more : (old new : BTreeMap ℕ (List ℕ)) (page : ℕ) (content : List ℕ) → page < MAX_PAGES
    → ((q : ℕ) → get nat_cmp new q ≡ cond (is_eq (nat_cmp page q)) (Some content) (get nat_cmp old q))
    → ((q : ℕ) → MAX_PAGES ≤ q → get nat_cmp old q ≡ None) → (q : ℕ) → MAX_PAGES ≤ q → get nat_cmp new q ≡ None
bounded_more old new page content small puts bounded q beyond =
    let apart : (page == q) ≡ false = grind (arith, nat_tests) in
    puts q ∙ ap (λ (b : Bool). cond b (Some content) (get nat_cmp old q)) (page_tied page q ∙ apart) ∙ bounded q beyond

-- a fault that a call passed on
pub passed_on : {T : Type 0} (fault : LogFault) (result : Result T LogFault) → IsErrAnd result (λ f. f ≡ fault)
    → (other : LogFault) → IsErrOf result other → other ≡ fault
passed_on fault (Ok x) failed other is = cc
passed_on fault (Err f) failed other is = cc (failed, is)

-- ---- records

length-record : (images : List ImageData) → length (record_bytes images) ≡ 5 + length (body_bytes images)
length-record images = omega (arith, length-append (body_bytes images) [])

pub body_small : (images : List ImageData) → IsLogRecord images → length (body_bytes images) < 2 ^ 32
body_small images is = omega (arith, length-body images (images_whole 0 images is.rising), is.few)

pub count_small : (images : List ImageData) → IsLogRecord images → length images < 2 ^ 32
count_small images is = omega (arith, is.few)

-- records that begin the same bytes end in the same place
record_rest : (a b : List ImageData) (x y : List ℕ) → IsLogRecord a → IsLogRecord b → record_bytes a
    ++ x ≡ record_bytes b ++ y → x ≡ y
record_rest a b x y is_a is_b same =
    let head = same_front (OPEN_GATE ∷ to_be_bytes w32 (length (body_bytes a)))
    (OPEN_GATE ∷ to_be_bytes w32 (length (body_bytes b))) (body_bytes a ++ x) (body_bytes b ++ y) refl same in
    let long : length (body_bytes a) ≡ length (body_bytes b) =
    same_number (length (body_bytes a)) (length (body_bytes b)) (body_small a is_a) (body_small b is_b)
    (ap (λ (l : List ℕ). drop 1 l) head.0) in
    (same_front (body_bytes a) (body_bytes b) x y long head.1).1

-- A log's records begin with those that were read of it.
rest_is_log : (records others : List (List ImageData)) (x rest : List ℕ) (gate : ℕ) → AllByRecursion IsLogRecord records
    → AllByRecursion IsLogRecord others → gate ≢ OPEN_GATE
    → flat_map record_bytes records ++ x ≡ flat_map record_bytes others ++ gate ∷ rest → (more : List (List ImageData))
    × IsLog x more
rest_is_log [] others x rest gate whole whole' closed same = (others, (gate, rest, same, closed, whole'))
rest_is_log (r ∷ rs) [] x rest gate whole whole' closed same =
    absurd (closed (sym (ap (λ (l : List ℕ). get_or l 0 0) same)))
rest_is_log (r ∷ rs) (o ∷ os) x rest gate whole whole' closed same =
    rest_is_log rs os x rest gate whole.1 whole'.1 closed
    (record_rest r o (flat_map record_bytes rs ++ x) (flat_map record_bytes os ++ gate ∷ rest) whole.0 whole'.0
    (sym (append_assoc (record_bytes r) (flat_map record_bytes rs) x) ∙ same
    ∙ append_assoc (record_bytes o) (flat_map record_bytes os) (gate ∷ rest)))

pub log_behind : (log : List ℕ) (records others : List (List ImageData)) (tail : Tail) → ReadTo log records tail
    → IsLog log others → (more : List (List ImageData)) × IsLog (drop tail.place log) more
log_behind log records others tail read is =
    rest_is_log records others (drop tail.place log) is.1 is.0 read.whole is.4 is.3
    (sym (front_split log (flat_map record_bytes records) tail.place read.reads) ∙ is.2)

-- what is no log behind the records that were read is no log
pub no_log : (log : List ℕ) (records : List (List ImageData)) (tail : Tail) → ReadTo log records tail
    → IsNoLog (drop tail.place log) → IsNoLog log
no_log log records tail read none others is =
    let behind = log_behind log records others tail read is in none behind.0 behind.1

no_log_short : (x : List ℕ) → length x ≡ 0 → IsNoLog x
no_log_short x short records is =
    omega (arith, ap length is.2, length-append (flat_map record_bytes records) (is.0 ∷ is.1), short)

-- A log's first record has the head that stands there.
pub record HasHead (x : List ℕ) (head : Head) (images : List ImageData) (rest : List ℕ) : Type 0 where
  pub is_record : IsLogRecord images
  pub parts : x ≡ record_bytes images ++ rest
  pub count : head.count ≡ length images
  pub body : head.body ≡ length (body_bytes images)
  pub more : 0 < length rest

head_of : (x rest : List ℕ) (head : Head) (images : List ImageData) → head.body < 2 ^ 32 → head.count < 2 ^ 32
    → IsLogRecord images → x ≡ record_bytes images ++ rest
    → read_bytes x 0 9 ≡ head_bytes head → (head.count ≡ length images) × (head.body ≡ length (body_bytes images))
head_of x rest head images small_body small_count is parts reads =
    let same : to_be_bytes w32 (length (body_bytes images)) ++ to_be_bytes w32 (length images) ≡ to_be_bytes w32
    head.body ++ to_be_bytes w32 head.count =
    ap (λ (l : List ℕ). drop 1 l) (sym (ap (λ (l : List ℕ). read_bytes l 0 9) parts) ∙ reads) in
    let split = same_front (to_be_bytes w32 (length (body_bytes images))) (to_be_bytes w32 head.body)
    (to_be_bytes w32 (length images)) (to_be_bytes w32 head.count) refl same in (
      sym (same_number (length images) head.count (count_small images is) small_count split.1),
      sym (same_number (length (body_bytes images)) head.body (body_small images is) small_body split.0),
    )

has_head : (x : List ℕ) (head : Head) (records : List (List ImageData)) → head.gate ≡ OPEN_GATE → head.body < 2 ^ 32
    → head.count < 2 ^ 32 → read_bytes x 0 9 ≡ head_bytes head → IsLog x records
    → (images : List ImageData) × (rest : List ℕ) × HasHead x head images rest
has_head x head [] opened small_body small_count reads is =
    absurd (is.3 (ap (λ (l : List ℕ). get_or l 0 0) (sym (ap (λ (l : List ℕ). read_bytes l 0 9) is.2) ∙ reads)
    ∙ opened))
has_head x head (images ∷ records) opened small_body small_count reads is =
    let rest : List ℕ = flat_map record_bytes records ++ is.0 ∷ is.1 in
    let parts : x ≡ record_bytes images ++ rest =
    is.2 ∙ append_assoc (record_bytes images) (flat_map record_bytes records) (is.0 ∷ is.1) in
    let numbers = head_of x rest head images small_body small_count is.4.0 parts reads in (
      images,
      rest,
      record {
        is_record = is.4.0;
        parts = parts;
        count = numbers.0;
        body = numbers.1;
        more = omega (arith, length-append (flat_map record_bytes records) (is.0 ∷ is.1));
      },
    )

head_fits : (x rest : List ℕ) (head : Head) (images : List ImageData) → HasHead x head images rest
    → Fits head (length x)
head_fits x rest head images has = record {
  some = omega (arith, has.count, has.is_record.some);
  few = omega (arith, has.count, has.is_record.few);
  body = omega (arith, has.body, has.count, length-body images (images_whole 0 images has.is_record.rising));
  ends = omega (
    arith,
    ap length has.parts,
    length-append (record_bytes images) rest,
    length-record images,
    has.body,
    has.more,
  );
}

-- ---- the record at the place

first_byte : (x : List ℕ) (head : Head) → 0 < length x → read_bytes x 0 9 ≡ head_bytes head → (rest : List ℕ)
    × (x ≡ head.gate ∷ rest)
first_byte [] head some reads = absurd (omega (arith, some))
first_byte (b ∷ rest) head some reads = (rest, ap (λ (n : ℕ). n ∷ rest) (ap (λ (l : List ℕ). get_or l 0 0) reads))

module _ (log : List ℕ) (records : List (List ImageData)) (old : Tail) (read : ReadTo log records old) where
  log_parts : log ≡ flat_map record_bytes records ++ drop old.place log
  log_parts = front_split log (flat_map record_bytes records) old.place read.reads

  pub no_log_at_end : length log ≤ old.place → IsNoLog log
  no_log_at_end past = no_log log records old read (no_log_short (drop old.place log)
      (omega (arith, length-drop old.place log)))

  module _ (head : Head) (inside : old.place < length log) (reads : read_bytes log old.place 9 ≡ head_bytes head) where
    pub ends_there : head.gate ≢ OPEN_GATE → IsLog log records
    ends_there closed =
        let first = first_byte (drop old.place log) head (omega (arith, length-drop old.place log)) reads in (
          head.gate,
          first.0,
          log_parts ∙ ap (λ (l : List ℕ). flat_map record_bytes records ++ l) first.1,
          closed,
          read.whole,
        )

    pub no_log_unfit : head.gate ≡ OPEN_GATE → head.body < 2 ^ 32 → head.count < 2 ^ 32
        → (Fits head (length log - old.place) → ⊥) → IsNoLog log
    no_log_unfit opened small_body small_count unfit =
        no_log log records old read (λ others is.
        let has = has_head (drop old.place log) head others opened small_body small_count reads is in
        unfit (subst (λ (n : ℕ). Fits head n) (length-drop old.place log)
        (head_fits (drop old.place log) has.1 head has.0 has.2)))

    pub no_log_broken : head.gate ≡ OPEN_GATE → head.body < 2 ^ 32 → head.count < 2 ^ 32
        → AreNoImages (drop (old.place + 9) log) head.count → IsNoLog log
    no_log_broken opened small_body small_count none =
        no_log log records old read (λ others is.
        let has = has_head (drop old.place log) head others opened small_body small_count reads is in
        none has.0 has.1 has.2.is_record.rising (sym has.2.count)
        (sym (drop-drop 9 old.place log) ∙ ap (λ (l : List ℕ). drop 9 l) has.2.parts))

    pub one_more : (images : List ImageData) (mid new : Tail) → head.gate ≡ OPEN_GATE
        → Fits head (length log - old.place) → AddsImages log (old.place + 9) head.count images old mid
        → new.pages ≡ mid.pages → new.end ≡ mid.end → new.place ≡ old.place + (5 + head.body)
        → new.records ≡ old.records + 1 → ReadTo log (records ++ images ∷ []) new
    one_more images mid new opened fits adds pages end place counts =
        let is_record : IsLogRecord images =
        record {
          some = omega (arith, adds.many, fits.some);
          few = omega (arith, adds.many, fits.few);
          rising =
              adds.rising;
        } in
        let body : head.body ≡ length (body_bytes images) =
        omega (arith, length-body images (images_whole 0 images adds.rising), adds.many, fits.body) in
        let bytes : flat_map record_bytes (records ++ images ∷ []) ≡ flat_map record_bytes records
        ++ record_bytes images =
        flat_map-append record_bytes records (images ∷ []) ∙ ap (λ (l : List ℕ). flat_map record_bytes records ++ l)
        (append-nil (record_bytes images)) in
        let long : length (flat_map record_bytes (records ++ images ∷ [])) ≡ old.place + (5 + head.body) =
        omega (
          arith,
          ap length bytes,
          length-append (flat_map record_bytes records) (record_bytes images),
          length-record images,
          body,
          read.place,
        ) in
        let gate : take 9 (drop old.place log) ≡ head_bytes head =
        sym (read_inside log old.place 9 (omega (arith, fits.ends, fits.body))) ∙ reads in
        let record_there : take (5 + head.body) (drop old.place log) ≡ record_bytes images =
        ap (λ (n : ℕ). take n (drop old.place log)) (omega (arith, fits.body))
        ∙ take_on log old.place 9 (IMAGE_BYTES * head.count) ∙ ap₂ (λ (xs ys : List ℕ). xs ++ ys) gate adds.reads
        ∙ ap₂ (λ (g b : ℕ). (g ∷ to_be_bytes w32 b ++ to_be_bytes w32 head.count) ++ flat_map image_bytes images) opened
        body
        ∙ ap (λ (n : ℕ). (OPEN_GATE ∷ to_be_bytes w32 (length (body_bytes images)) ++ to_be_bytes w32 n)
        ++ flat_map image_bytes images) (sym adds.many) in
        let named : images_of (records ++ images ∷ []) ≡ images_of records ++ images =
        flat_map-append (λ (l : List ImageData). l) records (images ∷ [])
        ∙ ap (λ (l : List ImageData). images_of records ++ l) (append-nil images) in
        record {
          whole = all_more IsLogRecord records images read.whole is_record;
          place = place ∙ sym long;
          reads =
              ap (λ (n : ℕ). take n log) place ∙ take-add old.place (5 + head.body) log
              ∙ ap₂ (λ (xs ys : List ℕ). xs ++ ys) read.reads record_there ∙ sym bytes;
          within = omega (arith, place, fits.ends);
          count = omega (arith, counts, read.count, length-append records (images ∷ []));
          last = λ page.
              ap (λ (m : BTreeMap ℕ (List ℕ)). get nat_cmp m page) pages ∙ adds.last page
              ∙ ap (λ (o : Option (List ℕ)). first_of (last_image page images) o) (read.last page)
              ∙ sym (last_append page (images_of records) images)
              ∙ ap (λ (l : List ImageData). last_image page l) (sym named);
          end = end ∙ adds.end ∙ ap (λ (n : ℕ). max n (pages_named images)) read.end
              ∙ sym (named_append (images_of records) images) ∙ ap pages_named (sym named);
        }

-- ---- the same of the files that a volume tells

module _ (files : Option Files) (file : FileNo) (len : ℕ) (old : Tail) where
  abbrev Told : (List ℕ → List (List ImageData) → Type 0) → Files → Type 0
  Told X fs = len ≡ length (of_file fs file) → (records : List (List ImageData)) → ReadTo (of_file fs file) records old
      → X (of_file fs file) records

  pub told_at_end : len ≤ old.place → IfSome files (Told (λ log records. IsNoLog log))
  told_at_end past = some_always files (Told (λ log records. IsNoLog log))
      (λ fs long records read. no_log_at_end (of_file fs file) records old read (omega (arith, past, long)))

  module _ (head : Head) (inside : old.place < len) (reads : IfSome files
      (λ fs. read_bytes (of_file fs file) old.place 9 ≡ head_bytes head)) where
    pub told_ends : head.gate ≢ OPEN_GATE → IfSome files (Told (λ log records. IsLog log records × (old ≡ old)))
    told_ends closed =
        some_then files (λ fs. read_bytes (of_file fs file) old.place 9 ≡ head_bytes head)
        (Told (λ log records. IsLog log records × (old ≡ old)))
        (λ fs there long records read. (
          ends_there (of_file fs file) records old read head (omega (arith, inside, long))
              there closed,
          refl,
        ))
        reads

    pub told_unfit : head.gate ≡ OPEN_GATE → head.body < 2 ^ 32 → head.count < 2 ^ 32
        → (Fits head (len - old.place) → ⊥) → IfSome files (Told (λ log records. IsNoLog log))
    told_unfit opened small_body small_count unfit =
        some_then files (λ fs. read_bytes (of_file fs file) old.place 9 ≡ head_bytes head)
        (Told (λ log records. IsNoLog log))
        (λ fs there long records read.
        no_log_unfit (of_file fs file) records old read head (omega (arith, inside, long)) there opened small_body
        small_count
        (λ fits. unfit (subst (λ (n : ℕ). Fits head (n - old.place)) (sym long) fits)))
        reads

    module _ (now : Option Files) (same : now ≡ files) (opened : head.gate ≡ OPEN_GATE)
        (fits : Fits head (len - old.place)) where
      pub told_broken : head.body < 2 ^ 32 → head.count < 2 ^ 32
          → IfSome now (λ fs. old.place + 9 + IMAGE_BYTES * head.count ≤ length (of_file fs file)
          → AreNoImages (drop (old.place + 9) (of_file fs file)) head.count)
          → IfSome files (Told (λ log records. IsNoLog log))
      told_broken small_body small_count none =
          some_both files now (λ fs. read_bytes (of_file fs file) old.place 9 ≡ head_bytes head)
          (λ fs. old.place + 9 + IMAGE_BYTES * head.count ≤ length (of_file fs file)
          → AreNoImages (drop (old.place + 9) (of_file fs file)) head.count)
          (Told (λ log records. IsNoLog log)) same
          (λ fs there broken long records read.
          no_log_broken (of_file fs file) records old read head (omega (arith, inside, long)) there opened small_body
          small_count (broken (omega (arith, fits.ends, fits.body, long))))
          reads none

      pub told_more : (mid new : Tail)
          → IfSome now (λ fs. old.place + 9 + IMAGE_BYTES * head.count ≤ length (of_file fs file)
          → (images : List ImageData) × AddsImages (of_file fs file) (old.place + 9) head.count images old mid)
          → new.pages ≡ mid.pages → new.end ≡ mid.end → new.place ≡ old.place + (5 + head.body)
          → new.records ≡ old.records + 1
          → IfSome files (Told (λ log records. (images : List ImageData) × ReadTo log (records ++ images ∷ []) new))
      told_more mid new adds pages end place counts =
          some_both files now (λ fs. read_bytes (of_file fs file) old.place 9 ≡ head_bytes head)
          (λ fs. old.place + 9 + IMAGE_BYTES * head.count ≤ length (of_file fs file) → (images : List ImageData)
          × AddsImages (of_file fs file) (old.place + 9) head.count images old mid)
          (Told (λ log records. (images : List ImageData) × ReadTo log (records ++ images ∷ []) new)) same
          (λ fs there added long records read.
          let images = added (omega (arith, fits.ends, fits.body, long)) in (
            images.0,
            one_more (of_file fs file) records old read head (omega (arith, inside, long)) there images.0 mid new opened
                (subst (λ (n : ℕ). Fits head (n - old.place)) long fits) images.1 pages end place
                counts,
          ))
          reads adds

pub no_log_told : (files now : Option Files) (file : FileNo) (len : ℕ) (tail : Tail) → now ≡ files
    → IfSome files (λ fs. len ≡ length (of_file fs file) → (records : List (List ImageData))
    × ReadTo (of_file fs file) records tail)
    → IfSome now (Told now file len tail (λ log records. IsNoLog log))
    → IfSome files (λ fs. len ≡ length (of_file fs file) → IsNoLog (of_file fs file))
no_log_told files now file len tail same read none =
    some_both files now (λ fs. len ≡ length (of_file fs file) → (records : List (List ImageData))
    × ReadTo (of_file fs file) records tail) (Told now file len tail (λ log records. IsNoLog log))
    (λ fs. len ≡ length (of_file fs file) → IsNoLog (of_file fs file)) same
    (λ fs before no long. let records = before long in no long records.0 records.1) read none
