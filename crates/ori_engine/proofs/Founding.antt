-- What an opening and the reads behind it have found, and what they leave.
use Rattle.std.proofs.Common.{◌≡◌, inl, inr, ◌⊎◌, ⊎_elim, ℕ, ◌+◌, ◌%◌, ◌<◌, ◌≤◌, ◌==◌, List, [], ◌∷◌, length}
use Rattle.std.proofs.Common.{Option, Some, None, IfSome, IsSome, IsSomeAnd, Result, Ok, Err, OnOk}
use Rattle.std.proofs.Common.{refl, sym, ◌∙◌, ap, subst, arith, true≢false}
use Rattle.ori_bytes.specs.declared.limits.TheConstants.{MAX_PAGES, MAX_LOG_BYTES, MAX_PAGES_BYTES}
use Rattle.ori_volume.specs.declared.file.FileNo.{FileNo}
use Rattle.ori_volume.specs.declared.file.FileNo.TheVariants.{Master, LogA, LogB, Pages}
use Rattle.ori_volume.specs.Disk.{Files, of_file, files_of, AreBytes, IsImage}
use Rattle.ori_volume.specs.Story.{Story, Tells, Reads}
use Rattle.ori_volume.specs.Runs.{EachImage}
use Rattle.ori_volume.proofs.Known.{tells_so, tells_then}
use Rattle.ori_volume.proofs.OnlyRead.{no_read}
use Rattle.ori_volume.proofs.RunSteps.{run_begins}
use Rattle.ori_spec_data.specs.Base.{RecordData, BaseData}
use Rattle.ori_spec_data.specs.Soundness.{IsSoundBase}
use Rattle.ori_spec_crash.specs.Crash.{CrashSafe}
use Rattle.ori_log.specs.Log.{ImageData, IsLog, IsTailOf, IsTail, IsUnmade, IsMade, AreWhole, active_log}
use Rattle.ori_log.specs.Files.{files_data, file_named}
use Rattle.ori_log.specs.Forms.{LogStands, PagesStand, BreaksFirst, Stands}
use Rattle.ori_log.specs.Logs.{HasTail}
use Rattle.ori_log.specs.Attaching.{IsKeptOrMade}
use Rattle.ori_log.specs.Opening.{made_files, IsNew}
use Rattle.ori_log.specs.declared.log.Log.{Log}
use Rattle.ori_log.specs.declared.fault.LogFault.{LogFault}
use Rattle.ori_log.specs.declared.fault.LogFault.TheVariants.{Failed}
use Rattle.ori_log.proofs.Logs.{chosen}
use Rattle.ori_log.proofs.OneTail.{one_tail}
use Rattle.ori_cover.specs.Given.{HoldsPages}
use Rattle.ori_cover.specs.Steps.{OpenedPages}
use Rattle.ori_cover.specs.Cover as cover
use Rattle.ori_cover.specs.Reading.{StandsRead}
use Rattle.ori_cover.proofs.Holding.{IsForm, holds_one, holds_given, unmade_tail}
use Rattle.ori_cover.proofs.Moments.{stands_holds}
use Rattle.ori_cover.proofs.ReadLogs.{closed_log}
use Rattle.ori_cover.proofs.ReadSteps.{stands_read, read_tail, read_holds}
use Rattle.ori_pool.specs.Devices.{Opens}
use Rattle.ori_turns.specs.Caches.{Cache, GivesCache, HoldNow, Opened, unread}
use Rattle.ori_rows.specs.Rows.{AreAt, base_with}
use Rattle.ori_rows.specs.Stage.{OpensTo, IsDatabase}
use Rattle.ori_paged.specs.PageRows.{ArePagesOf, StandOrInitial, begun}
use Rattle.ori_paged.proofs.PageRows.{opens_pages, holds_open, read_is, rows_database, have_stand, begun_have}
use Rattle.ori_engine.specs.CacheRows.{OpenedTo}
use Rattle.ori_engine.specs.Openings.{GivesAll, LeavesBase}
use Rattle.ori_engine.specs.Reading.{IsNoTable}
use Rattle.ori_engine.specs.Reopening.{HasTailOf, told_now}
use Rattle.ori_engine.specs.Starting.{FindsRows, StartsSafely, StartsSince, GivesRows, HasFound, IsOpenSince}
use Rattle.ori_engine.specs.Starting.{BreaksForm}
use Rattle.ori_engine.proofs.Found.{FoundPages, opened_pages, no_database}
use Rattle.ori_engine.proofs.OpeningSafe.{pages_safely}

abbrev Rows : Type 0
Rows = List (Option RecordData)

-- ---- the form of files that hold pages

named_log : (which : FileNo) (byte : ℕ) (files : Files) (records : List (List ImageData))
    → IsLog (active_log byte (files_data files)) records → file_named byte ≡ which
    → IsLog (of_file files which) records
named_log which byte files records log is =
    subst (λ (f : FileNo). IsLog (of_file files f) records) is
    (subst (λ (l : List ℕ). IsLog l records) (chosen (byte % 2 == 0) files) log)

made_log : (which : FileNo) (master : List ℕ) (files : Files) (records : List (List ImageData)) → length master ≡ 1
    → IsTailOf master (files_data files) records → length (of_file files which) ≤ MAX_LOG_BYTES
    → LogStands which master (of_file files which)
made_log which [] files records one tail short = absurd (omega (arith, one))
made_log which (byte ∷ bytes) files records one tail short =
    (short, λ is. (records, named_log which byte files records tail is))

made_pages : (master : List ℕ) (files : Files) (records : List (List ImageData)) → length master ≡ 1
    → IsTail (files_data files) records → AreWhole (files_data files) records → length files.pages ≤ MAX_PAGES_BYTES
    → PagesStand files master
made_pages [] files records one tail whole short = absurd (omega (arith, one))
made_pages (byte ∷ bytes) files records one tail whole short = (
  short,
  λ others there. subst (λ (l : List (List ImageData)). AreWhole (files_data files) l)
      (one_tail (files_data files) records others tail there) whole,
)

unmade_log : (which : FileNo) (master log : List ℕ) → master ≡ [] → length log ≤ 1 → LogStands which master log
unmade_log which master log none short = subst (λ (m : List ℕ). LogStands which m log) (sym none) short

form_stands : (files : Files) (records : List (List ImageData)) → IsForm files records → (file : FileNo)
    → Stands files file
form_stands files records (inl (unmade, none)) Master = omega (arith, ap length unmade.master)
form_stands files records (inl (unmade, none)) LogA =
    unmade_log LogA files.master files.log_a unmade.master unmade.log_a
form_stands files records (inl (unmade, none)) LogB =
    unmade_log LogB files.master files.log_b unmade.master unmade.log_b
form_stands files records (inl (unmade, none)) Pages =
    subst (λ (m : List ℕ). PagesStand files m) (sym unmade.master) unmade.pages
form_stands files records (inr made) Master = omega (arith, made.master)
form_stands files records (inr made) LogA =
    made_log LogA files.master files records made.master made.tail made.log_a
form_stands files records (inr made) LogB =
    made_log LogB files.master files records made.master made.tail made.log_b
form_stands files records (inr made) Pages =
    made_pages files.master files records made.master made.tail made.homes made.pages

none_breaks : (files : Files) → ((file : FileNo) → Stands files file) → (file : FileNo) → BreaksFirst files file → ⊥
none_breaks files stands Master breaks = breaks (stands Master)
none_breaks files stands LogA breaks = breaks.1 (stands LogA)
none_breaks files stands LogB breaks = breaks.2 (stands LogB)
none_breaks files stands Pages breaks = breaks.3 (stands Pages)

-- files that hold pages break no form
pub holds_unbroken : (pages : List (List ℕ)) (files : Files) → HoldsPages pages files → (file : FileNo)
    → BreaksFirst files file → ⊥
holds_unbroken pages files holds file breaks =
    none_breaks files (form_stands files holds.records holds.form) file breaks

-- nor do those of a database
pub database_unbroken : (files : Files) (file : FileNo) → BreaksFirst files file → IsDatabase (files_data files) → ⊥
database_unbroken files file breaks (inl unmade) =
    none_breaks files (form_stands files [] (inl (unmade, refl))) file breaks
database_unbroken files file breaks (inr (records, base, made)) =
    none_breaks files (form_stands files records (inr made.form)) file breaks

-- ---- what is told

-- a story speaks of these files
abbrev pub TellsOne : Option Story → Option Files → Type 0
TellsOne story files = (x : Story) → story ≡ Some x → files ≡ Some (files_of x.now.disk)

pub one_value : {T : Type 0} (o : Option T) (a b : T) → o ≡ Some a → o ≡ Some b → a ≡ b
one_value o a b is_a is_b = let both : Some a ≡ Some b = sym is_a ∙ is_b in cc

pub none_value : {T : Type 0} (o : Option T) (a : T) → o ≡ None → o ≡ Some a → ⊥
none_value o a none some = let both : None ≡ Some a = sym none ∙ some in cc

pub hold_now : (pages : List (List ℕ)) (story : Option Story) (files : Option Files) (f : Files) → TellsOne story files
    → files ≡ Some f → HoldsPages pages f → HoldNow pages story files
hold_now pages (Some x) files f one is holds =
    subst (HoldsPages pages) (one_value files f (files_of x.now.disk) is (one x refl)) holds
hold_now pages None (Some g) f one is holds =
    let same : g ≡ f = cc in subst (HoldsPages pages) (sym same) holds
hold_now pages None None f one is holds = absurd (none_value None f refl is)

pub files_now : (pages : List (List ℕ)) (story : Option Story) (files : Option Files) → TellsOne story files
    → HoldNow pages story files → (f : Files) × (files ≡ Some f) × HoldsPages pages f
files_now pages (Some x) files one holds = (files_of x.now.disk, one x refl, holds)
files_now pages None (Some f) one holds = (f, refl, holds)
files_now pages None None one holds = absurd holds

was_told : {T : Type 0} (R : T → T → Type 0) (a b : Option T) (y : T) → Tells R a b → b ≡ Some y
    → (x : T) × (a ≡ Some x) × R x y
was_told R None b y told is = absurd (none_value b y told is)
was_told R (Some x) b y told is = (x, refl, subst (R x) (one_value b told.0 y told.1 is) told.2)

is_told : {T : Type 0} (R : T → T → Type 0) (a b : Option T) (x : T) → Tells R a b → a ≡ Some x
    → (y : T) × (b ≡ Some y) × R x y
is_told R None b x told is = absurd (none_value None x refl is)
is_told R (Some z) b x told is =
    let same : z ≡ x = cc in (told.0, told.1, subst (λ (k : _). R k told.0) same told.2)

tells_at : {T : Type 0} (R : T → T → Type 0) (a : Option T) → ((x : T) → a ≡ Some x → R x x) → Tells R a a
tells_at R None step = refl
tells_at R (Some x) step = (x, refl, step x refl)

if_told : {T : Type 0} (P : T → Type 0) (o : Option T) → ((x : T) → o ≡ Some x → P x) → IfSome o P
if_told P None step = tt
if_told P (Some x) step = step x refl

told_if : {T : Type 0} (P : T → Type 0) (o : Option T) (x : T) → o ≡ Some x → IfSome o P → P x
told_if P o x is holds = subst (λ (p : Option _). IfSome p P) is holds

some_is : {T : Type 0} (o : Option T) (x : T) → o ≡ Some x → IsSome o
some_is o x is = subst (λ (p : Option _). IsSome p) (sym is) refl

-- ---- a crash in an opening

opened_by : {E : Type 0} (attached : Result (List ImageData) E) (log : Option Log) (old new : Story)
    → Opens attached log old new → (pages : List (List ℕ)) → HoldsPages pages (files_of old.now.disk)
    → (result : Result (Log × List ImageData) E) × OpenedPages pages result old new
opened_by (Err fault) log old new opens pages holds = (Err fault, opens pages holds)
opened_by (Ok images) None old new opens pages holds = absurd opens
opened_by (Ok images) (Some log) old new opens pages holds = (Ok (log, images), opens pages holds)

-- whatever is answered, it leaves the base
pub opens_leave : {E : Type 0} (attached : Result (List ImageData) E) (log : Option Log) (old mid new : Story)
    → Opens attached log old mid → Reads mid new → LeavesBase old new
opens_leave attached log old mid new opens reads base opened =
    let found = opens_pages (files_of old.now.disk) base opened in
    let did = opened_by attached log old mid opens found.0 found.1 in
    pages_safely base found.0 did.0 old mid new did.1 reads found.2 opened.sound

-- and so does what changes nothing
nothing_leaves : (story : Story) (base : BaseData) (pages : List (List ℕ)) → StandOrInitial pages base
    → IsSoundBase base → CrashSafe OpensTo base [] [] [] story story
nothing_leaves story base pages stand sound =
    let failed : Result (Log × List ImageData) LogFault = Err Failed in
    pages_safely base pages failed story story story (record {
      firmed = story;
      settling = run_begins (EachImage (λ image. IsImage story.now.disk image)) story story refl;
      soon = omega arith;
      making = run_begins (EachImage (HoldsPages pages)) story story refl;
      done = tt;
    }) (no_read story) stand sound

pub same_leave : (old : Option Story) → Tells LeavesBase old old
same_leave old = tells_at LeavesBase old (λ x is base opened.
    let found = opens_pages (files_of x.now.disk) base opened in
    nothing_leaves x base found.0 found.2 opened.sound)

-- ---- what an opening and the reads behind it say

-- these pages are given after them, and have the rows
pub record Given (rows : Rows) (gives : Cache → Type 0) (count tail : ℕ) (pages : List (List ℕ)) : Type 0 where
  pub now : Cache
  pub given : gives now
  pub same : now.pages ≡ pages
  pub sure : now.doubt ≡ pages
  pub count_is : length now.pages ≡ count
  pub records : length now.records ≡ tail
  pub are : ArePagesOf rows now.pages

-- The log is attached.
abbrev pub AttachedTo : Option Log → Cache → Option Story → Option Files → Type 0
AttachedTo log cache story files = (l : Log) × (log ≡ Some l) × Opened l cache story files

pub attached_so : (log : Option Log) (halted : Option ℕ) (cache : Cache) (story : Option Story) (files : Option Files)
    → IsSome log → halted ≡ None → GivesCache log halted story files cache → AttachedTo log cache story files
attached_so None halted cache story files some none gives = absurd (true≢false (sym some))
attached_so (Some l) None cache story files some none gives = (l, refl, gives)
attached_so (Some l) (Some at) cache story files some none gives = absurd (none_value (Some at) at none refl)

abbrev pub HoldPages : ℕ → Files → Type 0
HoldPages count files = (pages : List (List ℕ)) × HoldsPages pages files × (length pages ≡ count)

-- what is read of the rows, without what a crash leaves
pub record ReadRows (rows : Rows) (gives_old gives : Cache → Type 0) (count tail : ℕ) (s : Option Story)
    (f : Option Files) : Type 0 where
  pub one : TellsOne s f
  pub holds : IfSome f (HoldPages count)
  pub given : (pages : List (List ℕ)) → gives_old (unread pages) → length pages ≡ count
      → Given rows gives count tail pages
  pub at : AreAt 0 rows
  pub few : length rows < MAX_PAGES

module _ (rows : Rows) (gives_old gives : Cache → Type 0) (count tail : ℕ) (s : Option Story) (f : Option Files)
    (read : ReadRows rows gives_old gives count tail s f) (all : GivesAll gives_old (told_now f s)) where
  -- the pages that are held are given
  given_at : (pages : List (List ℕ)) → HoldNow pages s f → Given rows gives count tail pages
  given_at pages holds =
      let file = files_now pages s f read.one holds in
      let there = told_if (HoldPages count) f file.0 file.1 read.holds in
      let same : there.0 ≡ pages = holds_one file.0 there.0 pages there.1 file.2 in
      read.given pages (all pages holds) (ap length (sym same) ∙ there.2)

  given_of : (x : Files) → f ≡ Some x → (pages : List (List ℕ)) × HoldsPages pages x
      × Given rows gives count tail pages
  given_of x is =
      let there = told_if (HoldPages count) f x is read.holds in
      (there.0, there.1, given_at there.0 (hold_now there.0 s f x read.one is there.1))

  -- they are of the base that they stand for
  finds_in : (pages : List (List ℕ)) (base : BaseData) → Given rows gives count tail pages
      → StandOrInitial pages base → IsSoundBase base → FindsRows rows base
  finds_in pages base given stand sound = record {
    sound = sound;
    rows_are = read_is rows pages base (subst (ArePagesOf rows) given.same given.are) read.at read.few stand sound;
  }

  pub finds_so : (base : BaseData) → OpenedTo base (told_now f s) → FindsRows rows base
  finds_so base opened =
      let found = opened_pages base s f read.one opened in
      finds_in found.pages base (given_at found.pages found.hold) found.stand found.sound

  pub database_so : IfSome f (λ files. IsDatabase (files_data files))
  database_so = if_told (λ files. IsDatabase (files_data files)) f (λ x is.
      let there = given_of x is in
      rows_database rows there.0 x there.1 (subst (ArePagesOf rows) there.2.same there.2.are) read.at)

  gives_rows : (pages : List (List ℕ)) → Given rows gives count tail pages → GivesRows rows gives count
  gives_rows pages given = record {
    cache = given.now;
    given = given.given;
    count_is = given.count_is;
    pages = given.are;
    sure = given.sure ∙ sym given.same;
  }

-- What an opening says with the reads behind it of what is told.
pub record Passed (gives : Cache → Type 0) (log : Option Log) (s0 s1 s2 : Option Story) (f0 f1 f2 : Option Files)
    : Type 0 where
  pub one : TellsOne s2 f2
  pub sound : (x : Story) → s2 ≡ Some x → IsImage x.now.disk (files_of x.now.disk)
  pub bytes : (x : Files) → f2 ≡ Some x → (file : FileNo) → AreBytes (of_file x file)
  pub kept : Tells IsKeptOrMade f0 f1
  pub same : f2 ≡ f1
  pub images : List ImageData
  pub opens : Tells (Opens {E = LogFault} (Ok images) log) s0 s1
  pub reads : Tells Reads s1 s2
  pub attached : (cache : Cache) → gives cache → (l : Log) × Opened l cache s2 f2

pub stands_now : (l : Log) (cache : Cache) (s : Option Story) (f : Option Files) (x : Files) → TellsOne s f
    → ((y : Story) → s ≡ Some y → IsImage y.now.disk (files_of y.now.disk)) → Opened l cache s f → f ≡ Some x
    → StandsRead l cache.records cache.dirty cache.pages x
stands_now l cache (Some y) f x one sound opened is =
    subst (StandsRead l cache.records cache.dirty cache.pages) (one_value f (files_of y.now.disk) x (one y refl) is)
    (stands_read l cache.records cache.dirty cache.pages y.now.disk opened.stands (sound y refl))
stands_now l cache None (Some g) x one sound opened is =
    let same : g ≡ x = cc in subst (StandsRead l cache.records cache.dirty cache.pages) same opened.stands
stands_now l cache None None x one sound opened is = absurd (none_value None x refl is)

stands_disk : (l : Log) (cache : Cache) (s : Option Story) (f : Option Files) (x : Story) → Opened l cache s f
    → s ≡ Some x → cover.Stands l cache.records cache.dirty cache.pages x.now.disk
stands_disk l cache (Some y) f x opened is =
    let same : y ≡ x = cc in
    subst (λ (z : Story). cover.Stands l cache.records cache.dirty cache.pages z.now.disk) same opened.stands
stands_disk l cache None f x opened is = absurd (none_value None x refl is)

module _ (rows : Rows) (gives_old gives : Cache → Type 0) (count tail : ℕ) (log : Option Log)
    (s0 s1 s2 : Option Story) (f0 f1 f2 : Option Files) (read : ReadRows rows gives_old gives count tail s0 f0)
    (passed : Passed gives log s0 s1 s2 f0 f1 f2) (all : GivesAll gives_old (told_now f0 s0)) where
  -- the files as they read hold the pages still
  holds_then : (pages : List (List ℕ)) → Given rows gives count tail pages → (x : Files) → f2 ≡ Some x
      → HoldsPages pages x
  holds_then pages given x is =
      let at = passed.attached given.now given.given in
      let stands = stands_now at.0 given.now s2 f2 x passed.one passed.sound at.1 is in
      subst (λ (l : List (List ℕ)). HoldsPages l x) given.same
      (read_holds at.0 given.now.records given.now.dirty given.now.pages x stands (passed.bytes x is))

  -- and so does each image that a crash leaves now
  each_holds : (pages : List (List ℕ)) → Given rows gives count tail pages → (x : Story) → s2 ≡ Some x
      → EachImage (HoldsPages pages) x.now.disk
  each_holds pages given x is =
      let at = passed.attached given.now given.given in
      let stands = stands_disk at.0 given.now s2 f2 x at.1 is in
      subst (λ (l : List (List ℕ)). EachImage (HoldsPages l) x.now.disk) given.same
      (stands_holds at.0 given.now.records given.now.dirty given.now.pages x.now.disk stands)

  file_was : (x : Files) → f2 ≡ Some x → (y : Files) × (f0 ≡ Some y) × IsKeptOrMade y x
  file_was x is = was_told IsKeptOrMade f0 f1 x passed.kept (sym passed.same ∙ is)

  still_told : (x : Files) → f0 ≡ Some x → IsSome f2
  still_told x is =
      let now = is_told IsKeptOrMade f0 f1 x passed.kept is in some_is f2 now.0 (passed.same ∙ now.1)

  whole_in : (pages : List (List ℕ)) (base : BaseData) (x : Story) → EachImage (HoldsPages pages) x.now.disk
      → StandOrInitial pages base → IsSoundBase base → EachImage (λ image. OpensTo image base) x.now.disk
  whole_in pages base x each stand sound = λ image allowed.
      holds_open pages image base (each image allowed) stand sound

  held_old : (base : BaseData) → OpenedTo base (told_now f0 s0) → HasFound rows gives count base (told_now f2 s2)
  held_old base opened =
      let found = opened_pages base s0 f0 read.one opened in
      let given = given_at rows gives_old gives count tail s0 f0 read all found.pages found.hold in
      let file = files_now found.pages s0 f0 read.one found.hold in
      record {
        found = finds_in rows gives_old gives count tail s0 f0 read all found.pages base given found.stand found.sound;
        given = gives_rows rows gives_old gives count tail s0 f0 read all found.pages given;
        told = still_told file.0 file.1;
      }

  held_now : (base : BaseData) → OpenedTo base (told_now f2 s2) → HasFound rows gives count base (told_now f2 s2)
  held_now base opened =
      let found = opened_pages base s2 f2 passed.one opened in
      let file = files_now found.pages s2 f2 passed.one found.hold in
      let was = file_was file.0 file.1 in
      let there = given_of rows gives_old gives count tail s0 f0 read all was.0 was.1 in
      let same : found.pages ≡ there.0 =
      holds_one file.0 found.pages there.0 file.2 (holds_then there.0 there.2 file.0 file.1) in
      record {
        found = finds_in rows gives_old gives count tail s0 f0 read all there.0 base there.2
            (subst (λ (l : List (List ℕ)). StandOrInitial l base) same found.stand) found.sound;
        given = gives_rows rows gives_old gives count tail s0 f0 read all there.0 there.2;
        told = some_is f2 file.0 file.1;
      }

  -- from the opening on
  safe_from : (x z y : Story) → s0 ≡ Some x → s2 ≡ Some z → Opens {E = LogFault} (Ok passed.images) log x y
      → Reads y z → StartsSince rows x z
  safe_from x z y was is opens reads base opened =
      let found = opens_pages (files_of x.now.disk) base opened in
      let given = given_at rows gives_old gives count tail s0 f0 read all found.0
      (hold_now found.0 s0 f0 (files_of x.now.disk) read.one (read.one x was) found.1) in
      let did = opened_by (Ok passed.images) log x y opens found.0 found.1 in
      record {
        crash = pages_safely base found.0 did.0 x y z did.1 reads found.2 opened.sound;
        whole = whole_in found.0 base z (each_holds found.0 given z is) found.2 opened.sound;
        found = finds_in rows gives_old gives count tail s0 f0 read all found.0 base given found.2 opened.sound;
      }

  -- and from its end on
  safe_at : (z : Story) → s2 ≡ Some z → StartsSince rows z z
  safe_at z is base opened =
      let file = passed.one z is in
      let was = file_was (files_of z.now.disk) file in
      let there = given_of rows gives_old gives count tail s0 f0 read all was.0 was.1 in
      let found = opens_pages (files_of z.now.disk) base opened in
      let same : found.0 ≡ there.0 = holds_one (files_of z.now.disk) found.0 there.0 found.1
      (holds_then there.0 there.2 (files_of z.now.disk) file) in
      let stand : StandOrInitial there.0 base = subst (λ (l : List (List ℕ)). StandOrInitial l base) same found.2 in
      record {
        crash = nothing_leaves z base there.0 stand opened.sound;
        whole = whole_in there.0 base z (each_holds there.0 there.2 z is) stand opened.sound;
        found = finds_in rows gives_old gives count tail s0 f0 read all there.0 base there.2 stand opened.sound;
      }

  pub since_so : IsOpenSince rows gives count (told_now f0 s0) (told_now f2 s2)
  since_so = record {
    safe = tells_so (λ (x z : Story). (y : Story) × Opens {E = LogFault} (Ok passed.images) log x y × Reads y z)
        (StartsSince rows) s0 s2 (λ x z was is did. safe_from x z did.0 was is did.1 did.2)
        (tells_then (Opens {E = LogFault} (Ok passed.images) log) Reads _ s0 s1 s2
        (λ x y z opens reads. (y, opens, reads)) passed.opens passed.reads);
    held = held_old;
  }

  pub end_so : IsOpenSince rows gives count (told_now f2 s2) (told_now f2 s2)
  end_so = record { safe = tells_at (StartsSince rows) s2 safe_at; held = held_now }

  -- the tail is that of the files as they were
  tail_of : (x y : Files) (records : List (List ImageData)) → HasTail records y → length records ≡ tail
      → IsKeptOrMade x y → HasTailOf x tail
  tail_of x y records there count (inl same) =
      (records, subst (λ (g : Files). HasTail records g) same there, count)
  tail_of x y records there count (inr (new, made)) =
      let none : records ≡ [] = one_tail (files_data made_files) records []
      (subst (λ (g : Files). HasTail records g) made there) closed_log in
      ([], unmade_tail x new, ap length (sym none) ∙ count)

  pub tail_so : IfSome f0 (λ files. HasTailOf files tail)
  tail_so = if_told (λ files. HasTailOf files tail) f0 (λ x is.
      let there = given_of rows gives_old gives count tail s0 f0 read all x is in
      let now = is_told IsKeptOrMade f0 f1 x passed.kept is in
      let file : f2 ≡ Some now.0 = passed.same ∙ now.1 in
      let at = passed.attached there.2.now there.2.given in
      let stands = stands_now at.0 there.2.now s2 f2 now.0 passed.one passed.sound at.1 file in
      tail_of x now.0 there.2.now.records
      (read_tail at.0 there.2.now.records there.2.now.dirty there.2.now.pages now.0 stands) there.2.records now.2)

-- ---- pages that are no table

-- these pages are given after an opening, which were held before
pub record NoTable (gives_old : Cache → Type 0) (count : ℕ) (s : Option Story) (f : Option Files) : Type 0 where
  pub one : TellsOne s f
  pub holds : IfSome f (HoldPages count)
  pub none : (pages : List (List ℕ)) → gives_old (unread pages) → length pages ≡ count → IsNoTable (begun pages)

module _ (gives_old : Cache → Type 0) (count : ℕ) (s : Option Story) (f : Option Files)
    (read : NoTable gives_old count s f) where
  none_of : GivesAll gives_old (told_now f s) → (x : Files) → f ≡ Some x → (pages : List (List ℕ))
      × HoldsPages pages x × IsNoTable (begun pages)
  none_of all x is =
      let there = told_if (HoldPages count) f x is read.holds in (
        there.0,
        there.1,
        read.none there.0 (all there.0 (hold_now there.0 s f x read.one is there.1)) there.2,
      )

  pub none_database : GivesAll gives_old (told_now f s) → IfSome f (λ files. IsDatabase (files_data files) → ⊥)
  none_database all = if_told (λ files. IsDatabase (files_data files) → ⊥) f (λ x is database.
      let there = none_of all x is in
      no_database x there.0 there.1 (holds_given there.0 x there.1).few there.2 database)

  pub none_broken : IfSome f (λ files. BreaksForm files Pages)
  none_broken = if_told (λ files. BreaksForm files Pages) f (λ x is.
      let there = told_if (HoldPages count) f x is read.holds in
      inr (refl, λ other breaks. holds_unbroken there.0 x there.1 other breaks))

  -- a volume that was made in the opening has the initial base
  unmade_has : (x : Files) (pages : List (List ℕ)) → HoldsPages pages x → IsNew x → IsNoTable (begun pages) → ⊥
  unmade_has x pages holds new none =
      no_database x pages holds (holds_given pages x holds).few none (inl new)

  kept_same : (x y : Files) (pages : List (List ℕ)) → HoldsPages pages x → IsNoTable (begun pages)
      → IsKeptOrMade x y → y ≡ x
  kept_same x y pages holds none (inl same) = same
  kept_same x y pages holds none (inr (new, made)) = absurd (unmade_has x pages holds new none)

  pub none_changed : GivesAll gives_old (told_now f s) → (now : Option Files) → Tells IsKeptOrMade f now → now ≡ f
  none_changed all now kept = by f refl kept where
    by : (g : Option Files) → f ≡ g → Tells IsKeptOrMade g now → now ≡ f
    by None is told = told ∙ sym is
    by (Some x) is told =
        let there = none_of all x is in
        told.1 ∙ ap Some (kept_same x told.0 there.0 there.1 there.2 told.2) ∙ sym is
