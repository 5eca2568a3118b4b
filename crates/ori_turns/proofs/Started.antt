-- What an opening makes of the cache.
use Rattle.std.proofs.Common.{◌≡◌, ◌⊎◌, ⊎_elim, ℕ, ◌%◌, true, true≢false, is_some, List}
use Rattle.std.proofs.Common.{Option, Some, None, IsSome, Result, Ok, Err, OnOk, refl, sym, ap, ◌∙◌, subst}
use Rattle.std.proofs.Common.{slice_index_or, arith, ◌∷◌, length, min, max, IfSome, IfOk}
use Rattle.ori_bytes.specs.declared.limits.TheConstants.{PARTITIONS, MAX_PAGES}
use Rattle.ori_volume.specs.Disk.{Disk, Files, FileData, files_of}
use Rattle.ori_volume.specs.Runs.{Run, EachImage}
use Rattle.ori_volume.specs.Story.{Story, Tells, Reads}
use Rattle.ori_volume.proofs.Known.{tells_map, tells_then, some_told}
use Rattle.ori_volume.proofs.RunSteps.{run_last, run_weaker}
use Rattle.ori_log.specs.Attaching.{IsKeptOrMade}
use Rattle.ori_log.specs.Opening.{IsNew, made_files}
use Rattle.ori_log.specs.Log.{ImageData, images_of, last_image, pages_at_home, pages_named}
use Rattle.ori_log.specs.declared.log.Log.{Log}
use Rattle.ori_log.specs.declared.fault.LogFault.{LogFault}
use Rattle.ori_part.specs.Parts.{PartData, Holds}
use Rattle.ori_cover.specs.Dirty.{Dirty, AreClean, AreInstalled, AreOfTail, installed_page, unwritten}
use Rattle.ori_cover.specs.Cover.{IsCovered, Stands}
use Rattle.ori_cover.specs.Given.{HoldsPages}
use Rattle.ori_cover.specs.Steps.{OpenedPages}
use Rattle.ori_cover.proofs.Holding.{holds_given, holds_one}
use Rattle.ori_cover.proofs.Given.{image_named}
use Rattle.ori_pool.specs.Devices.{Opens, OpensRead}
use Rattle.ori_pool.specs.Held.{dirty_with, HasFrom, HaveFrom, HasNoMore, HaveNoMore, HasOwn}
use Rattle.ori_turns.specs.Seats.{Seat, held_part}
use Rattle.ori_turns.specs.Caches.{Cache, AreOwn, GivesCache, HoldNow, Unopened, IsPart, OnlyHeld}
use Rattle.ori_turns.specs.Hands.{EachHeld, HandIs, IsHandOf}
use Rattle.ori_turns.specs.declared.opening.StartFault.{StartFault}
use Rattle.ori_turns.specs.declared.opening.StartFault.TheVariants.{Fault, NotADatabase, Busy, NoMemory}
use Rattle.ori_turns.specs.Openings.{IfTried, StillHolds}
use Rattle.ori_turns.proofs.Synced.{Hand, dirty_same, dirty_here, dirty_there, none_then, none_is}

-- ---- what the hand has then

from_some : (images : List ImageData) (k : ℕ) (a b : Option PartData) → HasFrom images k a b → is_some a ≡ is_some b
from_some images k None b gone = sym (ap is_some gone)
from_some images k (Some was) None never = absurd never
from_some images k (Some was) (Some now) from = refl

more_some : (a b : Option PartData) → HasNoMore a b → is_some a ≡ is_some b
more_some None b gone = sym (ap is_some gone)
more_some (Some was) None never = absurd never
more_some (Some was) (Some now) fewer = refl

pub held_from : {D : Type 0} (seat : Seat D) (images : List ImageData) (old new : Hand) → HaveFrom images old new
    → seat.parts ≡ old → IsHandOf seat new
held_from seat images old new from is k = ap (λ (l : Hand). is_some (slice_index_or l k None)) is
    ∙ from_some images k (slice_index_or old k None) (slice_index_or new k None) (from k)

pub held_more : {D : Type 0} (seat : Seat D) (old new : Hand) → HaveNoMore old new → seat.parts ≡ old
    → IsHandOf seat new
held_more seat old new fewer is k = ap (λ (l : Hand). is_some (slice_index_or l k None)) is
    ∙ more_some (slice_index_or old k None) (slice_index_or new k None) (fewer k)

pub each_own : (hand : Hand) → ((k : ℕ) → HasOwn k (slice_index_or hand k None)) → EachHeld AreOwn hand
each_own hand own k part is = subst (HasOwn k) is (own k)

-- what a partition has then, by what it had
abbrev HasBy : List ImageData → ℕ → PartData → PartData → Type 0
HasBy images k was part = (page : ℕ) (content : List ℕ) → Holds part page content
    → ((page % PARTITIONS ≡ k) × (last_image page images ≡ Some content))
    ⊎ ((page % PARTITIONS ≡ k → last_image page images ≡ None) × Holds was page content)

pub from_there : (images : List ImageData) (k : ℕ) (a b : Option PartData) → HasFrom images k a b → (part : PartData)
    → b ≡ Some part → (was : PartData) × (a ≡ Some was) × HasBy images k was part
from_there images k None b gone part is = absurd (none_is b part gone is)
from_there images k (Some was) None never part is = absurd never
from_there images k (Some was) (Some now) from part is =
    let same : now ≡ part = cc in (was, refl, subst (HasBy images k was) same from)

-- ---- the cache

abbrev pub started : Cache → Hand → List (List ImageData) → Cache
started cache new records = record {
  pages = cache.pages;
  doubt = cache.pages;
  records = records;
  dirty = dirty_with cache.dirty new;
}

module _ (cache : Cache) (old new : Hand) (images : List ImageData) (is : HandIs cache old)
    (from : HaveFrom images old new)
    (installed : (others : Dirty) → AreInstalled images (dirty_with others old) (dirty_with others new)) where
  module _ (records : List (List ImageData)) (file : FileData)
      (covered : IsCovered (dirty_with cache.dirty new) cache.pages records file) where
    imaged : (page : ℕ) (content : List ℕ) → last_image page images ≡ Some content
        → last_image page (images_of records) ≡ Some content
    imaged page content last = covered.last page (unwritten content) (installed cache.dirty page
        ∙ ap (λ o. installed_page o (dirty_with cache.dirty old page)) last)

    pub hand_started : HandIs (started cache new records) new
    hand_started k part here =
        let was = from_there images k (slice_index_or old k None) (slice_index_or new k None) (from k) part here in
        let before : IsPart cache k was.0 = is k was.0 was.1 in
        record {
          own = λ q l holds. ⊎_elim (λ (image : (q % PARTITIONS ≡ k) × (last_image q images ≡ Some l)). image.0)
              (λ (kept : (q % PARTITIONS ≡ k → last_image q images ≡ None) × Holds was.0 q l).
              before.own q l kept.1) (was.2 q l holds);
          within = λ q l holds.
              ⊎_elim (λ (image : (q % PARTITIONS ≡ k) × (last_image q images ≡ Some l)).
              omega (arith, image_named q l (images_of records) (imaged q l image.1), covered.gives.named))
              (λ (kept : (q % PARTITIONS ≡ k → last_image q images ≡ None) × Holds was.0 q l).
              before.within q l kept.1) (was.2 q l holds);
          contents = λ q l holds.
              ⊎_elim (λ (image : (q % PARTITIONS ≡ k) × (last_image q images ≡ Some l)).
              covered.gives.image q l (imaged q l image.1))
              (λ (kept : (q % PARTITIONS ≡ k → last_image q images ≡ None) × Holds was.0 q l).
              before.contents q l kept.1) (was.2 q l holds);
          dirty = λ q same. dirty_here cache new cache.dirty k part here q same;
        }

  clean_old : AreClean cache.dirty → AreClean (dirty_with cache.dirty old)
  clean_old clean q = dirty_same cache old is q ∙ clean q

  abbrev After : Option Log → Option ℕ → Option Story → Option Files → Type 0
  After log halted t g = (records : List (List ImageData)) × GivesCache log halted t g (started cache new records)
      × HandIs (started cache new records) new × AreOfTail records (dirty_with cache.dirty new)
      × IfSome log (λ (l : Log). l.tail ≡ length records)

  pub start_gives : (log : Option Log) (halted : Option ℕ) (s t : Option Story) (f g : Option Files) → IsSome log
      → halted ≡ None → Tells (Opens {E = LogFault} (Ok images) log) s t
      → Tells (OpensRead {E = LogFault} (Ok images) log) f g → Unopened cache s f → After log halted t g
  start_gives None halted s t f g some none told read unopened = absurd (true≢false (sym some))
  start_gives (Some l) halted (Some x) t f g some none told read unopened =
      let opened = told.2 cache.pages unopened.holds in
      let stands = opened.done.1 (dirty_with cache.dirty old) (dirty_with cache.dirty new) (clean_old unopened.clean)
      (installed cache.dirty) in (
        opened.done.0,
        subst (λ (h : Option ℕ). GivesCache (Some l) h t g (started cache new opened.done.0)) (sym none)
            (subst (λ (o : Option Story). GivesCache (Some l) None o g (started cache new opened.done.0)) (sym told.1)
            (record { stands = stands.1; sure = refl })),
        hand_started opened.done.0 _ stands.1.covered,
        stands.0,
        stands.1.attached.counts,
      )
  start_gives (Some l) halted None t (Some x) g some none told read unopened =
      let stands = read.2.1 cache.pages (dirty_with cache.dirty old) (dirty_with cache.dirty new) unopened.holds
      (clean_old unopened.clean) (installed cache.dirty) in (
        read.2.0,
        subst (λ (h : Option ℕ). GivesCache (Some l) h t g (started cache new read.2.0)) (sym none)
            (subst (λ (o : Option Story). GivesCache (Some l) None o g (started cache new read.2.0)) (sym told)
            (subst (λ (o : Option Files). GivesCache (Some l) None None o (started cache new read.2.0)) (sym read.1)
            (record { stands = stands.1; sure = refl }))),
        hand_started read.2.0 _ stands.1.covered,
        stands.0,
        stands.1.counts,
      )
  start_gives (Some l) halted None t None g some none told read unopened = absurd unopened.holds

-- ---- a read after it

run_read : (Q : Disk → Type 0) (a b c : Story) → Run Q a b → Reads b c → Run Q a c
run_read Q a b c run reads = record {
  added = run.added;
  goes_on = (λ i. reads.disk i ∷ reads.past i) ∙ run.goes_on;
  each = run.each;
}

opened_on : {E : Type 0} (pages : List (List ℕ)) (result : Result (Log × List ImageData) E) (a b c : Story)
    → OpenedPages pages result a b → Reads b c → OpenedPages pages result a c
opened_on pages result a b c opened reads = record {
  firmed = opened.firmed;
  settling = opened.settling;
  soon = opened.soon;
  making = run_read (EachImage (HoldsPages pages)) opened.firmed b c opened.making reads;
  done = subst (λ (d : Disk). IfOk result (λ pair. (records : List (List ImageData))
      × ((dirty now : Dirty) → AreClean dirty → AreInstalled pair.1 dirty now
      → AreOfTail records now × Stands pair.0 records now pages d))) (sym reads.disk) opened.done;
}

opens_on : {E : Type 0} (result : Result (List ImageData) E) (log : Option Log) (a b c : Story) → Opens result log a b
    → Reads b c → Opens result log a c
opens_on (Err fault) log a b c opens reads = λ pages holds. opened_on pages (Err fault) a b c (opens pages holds) reads
opens_on (Ok images) None a b c opens reads = opens
opens_on (Ok images) (Some log) a b c opens reads = λ pages holds.
    opened_on pages (Ok (log, images)) a b c (opens pages holds) reads

pub tells_on : {E : Type 0} (result : Result (List ImageData) E) (log : Option Log) (a b c : Option Story)
    → Tells (Opens result log) a b → Tells Reads b c → Tells (Opens result log) a c
tells_on result log a b c first second =
    tells_then (Opens result log) Reads (Opens result log) a b c (opens_on result log) first second

-- ---- an opening that is tried again

run_held : {P Q : Files → Type 0} (a b c : Story) → ((image : Files) → P image → Q image) → EachImage Q a.now.disk
    → Run (EachImage P) a b → Run (EachImage Q) b c → EachImage Q c.now.disk
run_held {P} {Q} a b c step before first second =
    run_last (EachImage Q) b c
    (run_last (EachImage Q) a b before
    (run_weaker (EachImage P) (EachImage Q) a b (λ disk each image allowed. step image (each image allowed)) first))
    second

still_opened : {E : Type 0} (pages : List (List ℕ)) (result : Result (Log × List ImageData) E) (a b : Story)
    → OpenedPages pages result a b → EachImage (HoldsPages pages) a.now.disk → EachImage (HoldsPages pages) b.now.disk
still_opened pages result a b opened each =
    run_held a opened.firmed b (λ image allowed. each image allowed) each opened.settling opened.making

still_holds : {E : Type 0} (result : Result (List ImageData) E) (log : Option Log) (a b : Story)
    → Opens result log a b → StillHolds a b
still_holds (Err fault) log a b opens pages holds each = still_opened pages (Err fault) a b (opens pages holds) each
still_holds (Ok images) None a b opens pages holds each = absurd opens
still_holds (Ok images) (Some log) a b opens pages holds each =
    still_opened pages (Ok (log, images)) a b (opens pages holds) each

pub tells_still : {E : Type 0} (result : Result (List ImageData) E) (log : Option Log) (a b : Option Story)
    → Tells (Opens result log) a b → Tells StillHolds a b
tells_still result log a b told =
    tells_map (Opens result log) StillHolds a b (λ x y was opens. still_holds result log x y opens) told

-- ---- how many pages there are

kept_homes : (old new : Files) → IsKeptOrMade old new → old.pages ≡ new.pages
kept_homes old new kept =
    ⊎_elim (λ (same : new ≡ old). sym (ap (λ (f : Files). f.pages) same))
    (λ (made : IsNew old × (new ≡ made_files)). made.0.pages ∙ sym (ap (λ (f : Files). f.pages) made.1))
    kept

pub read_counted : (images : List ImageData) (count : ℕ) (f g : Option Files) → Tells IsKeptOrMade f g
    → IfSome f (λ fs. (pages : List (List ℕ)) × HoldsPages pages fs
    × (length pages ≡ max (pages_named images) (pages_at_home fs.pages)))
    → IfSome g (λ fs. count ≡ min (max (pages_at_home fs.pages) (pages_named images)) MAX_PAGES)
    → IfSome f (λ fs. (pages : List (List ℕ)) × HoldsPages pages fs × (length pages ≡ count))
read_counted images count None g kept holds is = tt
read_counted images count (Some fs) g kept holds is =
    let now : count ≡ min (max (pages_at_home kept.0.pages) (pages_named images)) MAX_PAGES =
    some_told (λ (gs : Files). count ≡ min (max (pages_at_home gs.pages) (pages_named images)) MAX_PAGES) g kept.0
    kept.1 is in (
      holds.0,
      holds.1,
      omega (
        arith,
        now,
        holds.2,
        (holds_given holds.0 fs holds.1).few,
        ap (λ (l : List ℕ). pages_at_home l) (kept_homes fs kept.0 kept.2),
      ),
    )

pub ok_err : {T E : Type 0} (x : T) (r : Result T E) (e : E) → r ≡ Ok x → r ≡ Err e → ⊥
ok_err x r e ok err = cc

-- ---- what the handle changes so

pub only_started : {D : Type 0} (seat : Seat D) → seat.engine ≡ true → (cache : Cache) (new : Hand)
    (records : List (List ImageData)) → IsHandOf seat new → OnlyHeld seat cache (started cache new records)
only_started seat engine cache new records held = record {
  same = λ other. absurd (true≢false (sym engine ∙ other));
  count = omega arith;
  pages = λ q lt free. refl;
  dirty = λ q free. dirty_there cache new cache.dirty q
      (none_then (held_part seat (q % PARTITIONS)) (slice_index_or new (q % PARTITIONS) None)
      (held (q % PARTITIONS)) free);
}

-- the log's number of records, by what is known
pub tail_is : (o : Option Log) (k n : ℕ) → IsSome o → IfSome o (λ (l : Log). k ≡ l.tail)
    → IfSome o (λ (l : Log). l.tail ≡ n) → n ≡ k
tail_is None k n some one two = absurd (true≢false (sym some))
tail_is (Some l) k n some one two = sym (one ∙ two)

-- the pages that are held are as many as were read
pub count_now : (pages : List (List ℕ)) (s : Option Story) (f : Option Files) (count : ℕ)
    → ((x : Story) → s ≡ Some x → f ≡ Some (files_of x.now.disk)) → HoldNow pages s f
    → IfSome f (λ fs. (ps : List (List ℕ)) × HoldsPages ps fs × (length ps ≡ count)) → length pages ≡ count
count_now pages (Some x) f count one holds is =
    let there = some_told (λ (fs : Files). (ps : List (List ℕ)) × HoldsPages ps fs × (length ps ≡ count)) f
    (files_of x.now.disk) (one x refl) is in
    ap length (holds_one (files_of x.now.disk) pages there.0 holds there.1) ∙ there.2
count_now pages None (Some fs) count one holds is = ap length (holds_one fs pages is.0 holds is.1) ∙ is.2
count_now pages None None count one holds is = absurd holds

-- ---- what was answered

pub ok_with : {T E : Type 0} (r : Result T E) (A : Type 0) (P Q S : T → Type 0) → ((x : T) → A → P x → Q x → S x)
    → OnOk r A → IfOk r P → IfOk r Q → IfOk r S
ok_with (Ok value) A P Q S step a p q = step value a p q
ok_with (Err fault) A P Q S step a p q = tt

pub tried_ok : {T : Type 0} (r : Result T StartFault) (P : Result T StartFault → Type 0) (Q : T → Type 0)
    → ((x : T) → P (Ok x) → Q x) → IfTried r P → IfOk r Q
tried_ok (Ok value) P Q step holds = step value holds
tried_ok (Err why) P Q step holds = tt

pub tried : {T : Type 0} (done : Result T StartFault) (P : Result T StartFault → Type 0) → P done → IfTried done P
tried (Ok value) P holds = holds
tried (Err Fault) P holds = holds
tried (Err (NotADatabase file)) P holds = holds
tried (Err (Busy turn)) P holds = tt
tried (Err NoMemory) P holds = holds

pub tried_map : {T : Type 0} (done : Result T StartFault) (P Q : Result T StartFault → Type 0)
    → ((r : Result T StartFault) → P r → Q r) → IfTried done P → IfTried done Q
tried_map (Ok value) P Q step holds = step (Ok value) holds
tried_map (Err Fault) P Q step holds = step (Err Fault) holds
tried_map (Err (NotADatabase file)) P Q step holds = step (Err (NotADatabase file)) holds
tried_map (Err (Busy turn)) P Q step holds = tt
tried_map (Err NoMemory) P Q step holds = step (Err NoMemory) holds
