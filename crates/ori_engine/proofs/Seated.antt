-- What a handle tells of an opening and of the reads behind it.
use Rattle.std.proofs.Common.{◌≡◌, ℕ, List, [], ◌∷◌, length, Option, Some, None, IfSome, IsSome, Result, Ok, Err}
use Rattle.std.proofs.Common.{◌⊎◌, ◌≤◌, is_some, refl, sym, ◌∙◌, ap, subst, true≢false, inl, inr, arith}
use Rattle.ori_volume.specs.Causes.{Rose}
use Rattle.ori_volume.specs.declared.file.FileNo.{FileNo}
use Rattle.ori_volume.specs.declared.file.FileNo.TheVariants.{Pages}
use Rattle.ori_volume.specs.Disk.{Files, of_file, files_of, AreBytes, IsImage}
use Rattle.ori_volume.specs.Story.{Story, Tells, Reads}
use Rattle.ori_spec_data.specs.Base.{RecordData, BaseData}
use Rattle.ori_log.specs.Files.{files_data}
use Rattle.ori_log.specs.Log.{ImageData}
use Rattle.ori_log.specs.declared.fault.LogFault.{LogFault}
use Rattle.ori_log.specs.declared.log.Log.{Log}
use Rattle.ori_model.specs.Standing.{PastData}
use Rattle.ori_pool.specs.Devices.{Opens}
use Rattle.ori_pool.specs.declared.device.Device.{Device}
use Rattle.ori_volume.proofs.OnlyRead.{no_read}
use Rattle.ori_volume.proofs.Known.{tells_map, tells_then, some_then}
use Rattle.ori_rows.specs.Rows.{AreAt}
use Rattle.ori_rows.specs.Stage.{IsDatabase}
use Rattle.ori_table.specs.Kept.{AreKept}
use Rattle.ori_turns.specs.declared.known.Known.{Known}
use Rattle.ori_turns.specs.declared.opening.Opening.{Opening}
use Rattle.ori_turns.specs.declared.opening.StartFault.{StartFault}
use Rattle.ori_turns.specs.declared.opening.StartFault.TheVariants.{Fault, NotADatabase, Busy, NoMemory}
use Rattle.ori_turns.specs.Seats.{Seat, Told, IsTold, Last, last_of}
use Rattle.ori_turns.specs.Caches.{Cache, GivesCache, SamePages, unread}
use Rattle.ori_turns.specs.Openings.{AreRead, AreOpened, WasOpened, WasStarted, IfTried}
use Rattle.ori_cache.specs.Reads.{ReadsDevice, ReadsTold}
use Rattle.ori_paged.specs.PageRows.{ArePagesOf, begun}
use Rattle.ori_engine.specs.CacheRows.{OpenedTo}
use Rattle.ori_engine.specs.Openings.{GivesAll, LeavesBase}
use Rattle.ori_engine.specs.Reading.{IsNoTable}
use Rattle.ori_engine.specs.Reopening.{HasTailOf, told_now, told_by, past_of}
use Rattle.ori_engine.specs.Starting.{FindsRows, IsOpenSince, BreaksForm}
use Rattle.ori_engine.proofs.Founding.{TellsOne, Given, ReadRows, Passed, NoTable, HoldPages, attached_so}
use Rattle.ori_engine.proofs.Founding.{finds_so, database_so, since_so, end_so, tail_so, none_database, none_broken}
use Rattle.ori_engine.proofs.Founding.{none_changed, opens_leave, same_leave, holds_unbroken, database_unbroken}

-- ---- a cache that is opened and read

-- after an opening these pages are given, and after reads still
pub given_so : (rows : List (Option RecordData)) (opening : Opening) (known : Known) (g0 g1 g2 : Cache → Type 0)
    → known ≡ opening.known → ((cache : Cache) → g0 cache → (now : Cache) × WasStarted opening cache now × g1 now)
    → ((cache : Cache) → g1 cache → (now : Cache) × SamePages cache now × g2 now)
    → ((cache : Cache) → g1 cache → length cache.pages ≡ opening.count → ArePagesOf rows cache.pages)
    → (pages : List (List ℕ)) → g0 (unread pages) → length pages ≡ opening.count
    → Given rows (λ cache. g2 cache × (known.halted ≡ None → length cache.records ≡ known.tail)) opening.count known.tail
    pages
given_so rows opening known g0 g1 g2 is started read are pages given many =
    let one = started (unread pages) given in
    let two = read one.0 one.2 in
    let tail : length two.0.records ≡ known.tail =
    ap length two.1.records ∙ one.1.records ∙ sym (ap (λ (k : Known). k.tail) is) in
    record {
      now = two.0;
      given = (two.2, λ going. tail);
      same = two.1.pages ∙ one.1.pages;
      sure = two.1.doubt ∙ one.1.sure;
      count_is = ap length two.1.pages ∙ one.1.count;
      records = tail;
      are = subst (ArePagesOf rows) (sym two.1.pages) (are one.0 one.2 one.1.count);
    }

pub no_table_so : (opening : Opening) (g0 g1 : Cache → Type 0)
    → ((cache : Cache) → g0 cache → (now : Cache) × WasStarted opening cache now × g1 now)
    → ((cache : Cache) → g1 cache → length cache.pages ≡ opening.count → IsNoTable (begun cache.pages))
    → (pages : List (List ℕ)) → g0 (unread pages) → length pages ≡ opening.count → IsNoTable (begun pages)
no_table_so opening g0 g1 started none pages given many =
    let one = started (unread pages) given in
    subst (λ (l : List (List ℕ)). IsNoTable (begun l)) one.1.pages (none one.0 one.2 one.1.count)

-- ---- what a crash leaves of an opening

pub left_refused : (why : StartFault) (log : Option Log) (old new : Option Story)
    → AreOpened {T = Opening} (Err why) log old new → Tells LeavesBase old new
left_refused why log old new opened =
    let did = opened.refused in
    tells_map (Opens did.0 did.1) LeavesBase old new (λ x y was opens.
    opens_leave did.0 did.1 x y y opens (no_read y)) did.2

pub left_done : (opening : Opening) (log : Option Log) (old mid new : Option Story)
    → AreOpened (Ok opening) log old mid → Tells Reads mid new → Tells LeavesBase old new
left_done opening log old mid new opened reads =
    let did = opened.done in
    tells_then (Opens {E = LogFault} (Ok did.0) log) Reads LeavesBase old mid new (λ x y z opens then.
    opens_leave (Ok did.0) log x y z opens then) did.1 reads

-- ---- what is told

abbrev pub no_past : PastData
no_past = told_now None None

module _ {V : Type 0} (holds : V → Option Files) (tells : V → Option Story) (time failed counted : V → ℕ) where
  abbrev pub past_with : Device V → PastData
  past_with device = told_now (holds device.volume) (tells device.volume)

  abbrev pub Same : Device V → Seat (Device V) → Type 0
  Same device seat = IsTold (λ told. device ≡ told.device) seat

  pub told_one : (P : PastData → Type 0) (seat : Seat (Device V)) (device : Device V) → Same device seat → P no_past
      → P (past_with device) → P (past_of holds tells seat)
  told_one P seat device was none some = by seat.told was where
    by : (a : Option (Told (Device V))) → IfSome a (λ t. device ≡ t.device) → P (told_by holds tells a)
    by None is = none
    by (Some t) is = subst (λ (d : Device V). P (past_with d)) is some

  pub told_both : (P : PastData → PastData → Type 0) (old new : Seat (Device V)) (taken given : Device V)
      → is_some new.told ≡ is_some old.told → Same taken old → Same given new → P no_past no_past
      → P (past_with taken) (past_with given) → P (past_of holds tells old) (past_of holds tells new)
  told_both P old new taken given same was now none both = by old.told new.told same was now where
    by : (a b : Option (Told (Device V))) → is_some b ≡ is_some a → IfSome a (λ t. taken ≡ t.device)
        → IfSome b (λ t. given ≡ t.device) → P (told_by holds tells a) (told_by holds tells b)
    by None None same was now = none
    by None (Some u) same was now = absurd (true≢false same)
    by (Some t) None same was now = absurd (true≢false (sym same))
    by (Some t) (Some u) same was now =
        subst (λ (d : Device V). P (past_with d) (past_with u.device)) was
        (subst (λ (e : Device V). P (past_with taken) (past_with e)) now both)

  -- the same where reads have come behind it
  pub told_read : (P : PastData → PastData → Type 0) (old mid new : Seat (Device V)) (taken given : Device V)
      → is_some mid.told ≡ is_some old.told → Same taken old → Same given mid
      → Tells (ReadsTold (ReadsDevice holds tells time failed counted)) mid.told new.told → P no_past no_past
      → ((read : Device V) → IsSome new.told → Same read new → ReadsDevice holds tells time failed counted given read
      → P (past_with taken) (past_with read))
      → P (past_of holds tells old) (past_of holds tells new)
  told_read P old mid new taken given same was now reads none both =
      by old.told mid.told new.told same was now reads refl where
        Reads : Told (Device V) → Told (Device V) → Type 0
        Reads = ReadsTold (ReadsDevice holds tells time failed counted)

        by : (a b c : Option (Told (Device V))) → is_some b ≡ is_some a → IfSome a (λ t. taken ≡ t.device)
            → IfSome b (λ t. given ≡ t.device) → Tells Reads b c → new.told ≡ c
            → P (told_by holds tells a) (told_by holds tells c)
        by None None c same was now reads is = subst (λ (o : Option _). P no_past (told_by holds tells o)) (sym reads) none
        by None (Some u) c same was now reads is = absurd (true≢false same)
        by (Some t) None c same was now reads is = absurd (true≢false (sym same))
        by (Some t) (Some u) c same was now reads is =
            let x : Told (Device V) = reads.0 in
            let told : Same x.device new =
            subst (λ (o : Option (Told (Device V))). IfSome o (λ t. x.device ≡ t.device)) (sym (is ∙ reads.1)) refl in
            let read : ReadsDevice holds tells time failed counted given x.device =
            subst (λ (d : Device V). ReadsDevice holds tells time failed counted d x.device) (sym now) (reads.2).device in
            let some : IsSome new.told = subst (λ (o : Option _). IsSome o) (sym (is ∙ reads.1)) refl in
            subst (λ (o : Option _). P (past_with t.device) (told_by holds tells o)) (sym reads.1)
            (subst (λ (d : Device V). P (past_with d) (past_with x.device)) was (both x.device some told read))

  -- what holds of what it tells holds of the device
  pub at_told : (P : Device V → Type 0) (seat : Seat (Device V)) (device : Device V) → IsSome seat.told
      → Same device seat → IsTold (λ told. P told.device) seat → P device
  at_told P seat device some same holds = by seat.told some same holds where
    by : (a : Option (Told (Device V))) → IsSome a → IfSome a (λ t. device ≡ t.device) → IfSome a (λ t. P t.device)
        → P device
    by None some same holds = absurd (true≢false (sym some))
    by (Some t) some same holds = subst P (sym same) holds

  -- ---- an opening

  pub passed_so : ((v : V) → TellsOne (tells v) (holds v))
      → ((v : V) (x : Story) → tells v ≡ Some x → IsImage x.now.disk (files_of x.now.disk))
      → ((v : V) (x : Files) → holds v ≡ Some x → (file : FileNo) → AreBytes (of_file x file))
      → (gives : Cache → Type 0) (opening : Opening) (taken given read : Device V)
      → AreRead (Ok opening) (holds taken.volume) (holds given.volume)
      → AreOpened (Ok opening) given.log (tells taken.volume) (tells given.volume)
      → ReadsDevice holds tells time failed counted given read → IsSome given.log → given.halted ≡ None
      → ((cache : Cache) → gives cache → GivesCache read.log read.halted (tells read.volume) (holds read.volume) cache)
      → Passed gives given.log (tells taken.volume) (tells given.volume) (tells read.volume) (holds taken.volume)
      (holds given.volume) (holds read.volume)
  passed_so one sound bytes gives opening taken given read files crash reads log halted at = record {
    one = one read.volume;
    sound = sound read.volume;
    bytes = bytes read.volume;
    kept = files.kept;
    same = reads.volume.files;
    images = crash.done.0;
    opens = crash.done.1;
    reads = reads.volume.story;
    attached = λ cache is.
        let there = attached_so read.log read.halted cache (tells read.volume) (holds read.volume)
        (subst (λ (o : Option Log). IsSome o) (sym reads.log) log) (reads.halted ∙ halted) (at cache is) in
        (there.0, there.2);
  }

  -- what an opening has made of the outside, whatever it answers
  abbrev pub WasTried : Seat (Device V) → Seat (Device V) → Result Opening StartFault → Type 0
  WasTried old new done = (taken given : Device V) × Same taken old × Same given new
      × (new.last ≡ last_of failed counted given) × WasOpened done old.last new.last
      × AreRead done (holds taken.volume) (holds given.volume)
      × AreOpened done given.log (tells taken.volume) (tells given.volume)

  refused_with : (why : StartFault) (old new : Seat (Device V)) → is_some new.told ≡ is_some old.told
      → WasTried old new (Err why) → Tells LeavesBase (past_of holds tells old).story (past_of holds tells new).story
  refused_with why old new same did =
      told_both (λ a b. Tells LeavesBase a.story b.story) old new did.0 did.1 same did.2 did.3 (same_leave None)
      (left_refused why did.1.log (tells did.0.volume) (tells did.1.volume) did.7)

  pub refused_left : (why : StartFault) (old new : Seat (Device V)) → is_some new.told ≡ is_some old.told
      → IfTried (Err why) (WasTried old new) → ((turn : ℕ) → why ≡ Busy turn → new.told ≡ old.told)
      → Tells LeavesBase (past_of holds tells old).story (past_of holds tells new).story
  refused_left Fault old new same did busy = refused_with Fault old new same did
  refused_left (NotADatabase file) old new same did busy = refused_with (NotADatabase file) old new same did
  refused_left NoMemory old new same did busy = refused_with NoMemory old new same did
  refused_left (Busy turn) old new same did busy =
      subst (λ (o : Option _). Tells LeavesBase (past_of holds tells old).story (told_by holds tells o).story)
      (sym (busy turn refl)) (same_leave (past_of holds tells old).story)

  pub refused_later : (why : StartFault) (old new : Seat (Device V)) → IfTried (Err why) (WasTried old new)
      → ((turn : ℕ) → why ≡ Busy turn → new.last ≡ old.last)
      → (old.last.faults ≤ new.last.faults) × (old.last.log_faults ≤ new.last.log_faults)
  refused_later Fault old new did busy = (did.5.faults, did.5.log_faults)
  refused_later (NotADatabase file) old new did busy = (did.5.faults, did.5.log_faults)
  refused_later NoMemory old new did busy = (did.5.faults, did.5.log_faults)
  refused_later (Busy turn) old new did busy =
      let same = busy turn refl in
      (omega (arith, ap (λ (l : Last). l.faults) same), omega (arith, ap (λ (l : Last). l.log_faults) same))

  pub refused_rose : (why : StartFault) (old new : Seat (Device V)) → why ≡ Fault
      → IfTried (Err why) (WasTried old new) → Rose old.last.faults new.last.faults
  refused_rose why old new is did =
      let tried : WasTried old new (Err Fault) = subst (λ (w : StartFault). IfTried (Err w) (WasTried old new)) is did in
      tried.5.fault refl

  -- the files aren't of the form
  unformed : (why : StartFault) (file : FileNo) (old new : Seat (Device V)) → why ≡ NotADatabase file
      → IfTried (Err why) (WasTried old new) → WasTried old new (Err (NotADatabase file))
  unformed why file old new is did = subst (λ (w : StartFault). IfTried (Err w) (WasTried old new)) is did

  pub refused_names : (why : StartFault) (file : FileNo) (old new : Seat (Device V)) → why ≡ NotADatabase file
      → IfTried (Err why) (WasTried old new)
      → IfSome (past_of holds tells old).files (λ files. BreaksForm files file)
  refused_names why file old new is did =
      let tried = unformed why file old new is did in
      told_one (λ a. IfSome a.files (λ files. BreaksForm files file)) old tried.0 tried.2 tt
      (some_then (holds tried.0.volume) _ _ (λ x breaks. inl breaks) (tried.6.breaks file refl).0)

  pub refused_database : (why : StartFault) (file : FileNo) (old new : Seat (Device V)) → why ≡ NotADatabase file
      → IfTried (Err why) (WasTried old new)
      → IfSome (past_of holds tells old).files (λ files. IsDatabase (files_data files) → ⊥)
  refused_database why file old new is did =
      let tried = unformed why file old new is did in
      told_one (λ a. IfSome a.files (λ files. IsDatabase (files_data files) → ⊥)) old tried.0 tried.2 tt
      (some_then (holds tried.0.volume) _ _ (λ x breaks. database_unbroken x file breaks)
      (tried.6.breaks file refl).0)

  pub refused_files : (why : StartFault) (file : FileNo) (old new : Seat (Device V)) → why ≡ NotADatabase file
      → is_some new.told ≡ is_some old.told → IfTried (Err why) (WasTried old new)
      → (past_of holds tells new).files ≡ (past_of holds tells old).files
  refused_files why file old new is same did =
      let tried = unformed why file old new is did in
      told_both (λ a b. b.files ≡ a.files) old new tried.0 tried.1 same tried.2 tried.3 refl
      (tried.6.breaks file refl).1

-- why it isn't opened
abbrev pub refusal : StartFault → Result Opening StartFault
refusal why = Err why

no_memory : (why : StartFault) → refusal why ≡ refusal NoMemory → why ≡ NoMemory
no_memory why is = cc

-- an opening that changed nothing for want of memory, or was tried
pub tried_of : {A : Type 0} (why : StartFault) (P : Result Opening StartFault → Type 0) → (why ≡ NoMemory → ⊥)
    → ((refusal why ≡ refusal NoMemory) × A) ⊎ IfTried (refusal why) P → IfTried (refusal why) P
tried_of why P other (inl (is, same)) = absurd (other (no_memory why is))
tried_of why P other (inr did) = did
