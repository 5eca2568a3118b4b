-- What work on the homes and the log keeps of what an engine knows of the outside.
use Rattle.std.proofs.Common.{◌≡◌, ◌⊎◌, ◌<◌, inl, inr, ℕ, Bool, true, false, List, length, Option, Some, None, is_some}
use Rattle.std.proofs.Common.{IsSome, IfSome, IsErrOf, OnOk, OnErr, Result, Ok, Err, ◌%◌, refl, sym, ap, ◌∙◌, subst}
use Rattle.std.specs.Option.{option_map, option_and_then}
use Rattle.ori_bytes.specs.declared.limits.TheConstants.{PARTITIONS}
use Rattle.ori_volume.specs.Disk.{Disk, Files, files_of}
use Rattle.ori_volume.specs.Story.{Story, Tells}
use Rattle.ori_volume.specs.Runs.{Run, EachImage}
use Rattle.ori_volume.proofs.Known.{tells_same, tells_so, tells_map, some_told, some_then}
use Rattle.ori_volume.proofs.RunSteps.{run_weaker, run_begins}
use Rattle.ori_spec_data.specs.Base.{RecordData, BaseData}
use Rattle.ori_spec_data.specs.Soundness.{IsSoundBase}
use Rattle.ori_rows.specs.Rows.{base_with}
use Rattle.ori_paged.specs.PageRows.{ArePagesOf}
use Rattle.ori_engine.specs.Doubts.{DoubtData}
use Rattle.ori_model.specs.Standing.{PastData}
use Rattle.ori_log.specs.declared.log.Log.{Log}
use Rattle.ori_cover.specs.Cover.{Covers}
use Rattle.ori_cover.specs.Given.{HoldsPages, HoldsEither}
use Rattle.ori_cover.specs.Dirty.{DirtyPage, unwritten}
use Rattle.ori_cover.specs.Steps.{HomeMoment, WritesHome, SyncsHomes}
use Rattle.ori_cover.specs.Homes.{this_page, no_page}
use Rattle.ori_cover.specs.Views.{on_disk}
use Rattle.ori_cover.proofs.Moments.{covers_either, stands_covers}
use Rattle.ori_volume.specs.declared.failed.Failed.{Failed}
use Rattle.ori_part.specs.Parts.{place_at, unwritten_page}
use Rattle.ori_part.specs.declared.place.Place.{Place}
use Rattle.ori_pool.specs.Held.{dirty_of, dirty_place}
use Rattle.ori_pool.specs.declared.device.Device.{Device}
use Rattle.ori_pool.specs.declared.fault.TendFault.{TendFault}
use Rattle.ori_pool.specs.declared.fault.TendFault.TheVariants.{Fault, Halted, Busy}
use Rattle.ori_table.specs.Kept.{AreKept}
use Rattle.ori_turns.specs.declared.known.Known.{Known}
use Rattle.ori_turns.specs.Caches.{Cache, GivesCache, IsPart, SamePages}
use Rattle.ori_turns.specs.Seats.{Seat, Told, HoldsNothing, IsTold, NothingChanged, told_at}
use Rattle.ori_turns.specs.Knowing.{Knows}
use Rattle.ori_turns.specs.Checkpointed.{IfMade, WasCheckpointed}
use Rattle.ori_turns.specs.Flushes.{IfFlushed, IfSynced}
use Rattle.ori_engine.specs.Safety.{KeptData, StaysSafe}
use Rattle.ori_engine.specs.CacheRows.{HoldsDoubt, IsHeld, OpenedTo, IsKeptSince, TellsAsGiven, counted_in}
use Rattle.ori_engine.specs.Reopening.{told_by, past_of}
use Rattle.ori_engine.proofs.Engines.{safe_on}
use Rattle.ori_engine.proofs.StaysSafe.{SameFeed}
use Rattle.ori_engine.proofs.Writing.{tended_safe, held_same}

-- ---- what a handle tells

module _ {V : Type 0} (files : V → Option Files) (story : V → Option Story) where
  -- from the device that was taken to that which was given
  pub past_step : (R : Story → Story → Type 0) (old new : Seat (Device V)) (taken given : Device V)
      → is_some new.told ≡ is_some old.told → IsTold (λ told. taken ≡ told.device) old
      → IsTold (λ told. given ≡ told.device) new → Tells R (story taken.volume) (story given.volume)
      → Tells R (past_of files story old).story (past_of files story new).story
  past_step R old new taken given goes was is step = by old.told new.told goes was is where
    by : (o n : Option (Told (Device V))) → is_some n ≡ is_some o → IfSome o (λ told. taken ≡ told.device)
        → IfSome n (λ told. given ≡ told.device)
        → Tells R (told_by files story o).story (told_by files story n).story
    by None None goes was is = refl
    by None (Some y) goes was is = absurd (cc goes)
    by (Some x) None goes was is = absurd (cc goes)
    by (Some x) (Some y) goes was is =
        subst (λ (d : Device V). Tells R (story d.volume) (story y.device.volume)) was
        (subst (λ (d : Device V). Tells R (story taken.volume) (story d.volume)) is step)

  -- nothing that is told has changed
  pub past_same : (R : Story → Story → Type 0) → ((x : Story) → R x x) → (old new : Seat (Device V))
      → is_some new.told ≡ is_some old.told → IsTold (λ was. new.told ≡ old.told) old
      → Tells R (past_of files story old).story (past_of files story new).story
  past_same R same old new goes was = by old.told new.told goes was where
    by : (o n : Option (Told (Device V))) → is_some n ≡ is_some o → IfSome o (λ was. n ≡ o)
        → Tells R (told_by files story o).story (told_by files story n).story
    by None None goes was = refl
    by None (Some y) goes was = absurd (cc goes)
    by (Some x) n goes was = tells_same R (told_by files story (Some x)).story (told_by files story n).story same
        (ap (λ (p : Option (Told (Device V))). (told_by files story p).story) was)

  -- a volume that gives pages tells its files
  gives_files : (one : (s : Story) (v : V) → story v ≡ Some s → files v ≡ Some (files_of s.now.disk))
      → (v : V) (log : Option Log) (halted : Option ℕ) (cache : Cache)
      → GivesCache log halted (story v) (files v) cache → IsSome (files v)
  gives_files one v log halted cache gives = by (story v) refl (files v) refl gives where
    none : (l : Option Log) (h : Option ℕ) → GivesCache l h None None cache → ⊥
    none None h is = is.holds
    none (Some x) None is = is.stands
    none (Some x) (Some at) is = is

    by : (o : Option Story) → story v ≡ o → (f : Option Files) → files v ≡ f → GivesCache log halted o f cache
        → IsSome f
    by (Some s) told f is given = ap is_some (sym is ∙ one s v told)
    by None told (Some x) is given = refl
    by None told None is given = absurd (none log halted given)

  told_some : (o : Option (Told (Device V))) → IsSome (told_by files story o).files → is_some o ≡ true
  told_some None is = is
  told_some (Some x) is = refl

  files_some : (o : Option (Told (Device V))) → is_some o ≡ true
      → ((told : Told (Device V)) → o ≡ Some told → IsSome (files told.device.volume))
      → IsSome (told_by files story o).files
  files_some None is here = absurd (cc is)
  files_some (Some x) is here = here x refl

  -- ---- what is known stays so

  module _ {F : Type 0} (seat_of : F → Seat (Device V)) (shows : F → Cache → Type 0)
      (one : (s : Story) (v : V) → story v ≡ Some s → files v ≡ Some (files_of s.now.disk))
      (told_gives : (f : F) (cache : Cache) → shows f cache → IsTold (λ told. GivesCache told.device.log
      told.device.halted (story told.device.volume) (files told.device.volume) cache) (seat_of f)) where
    files_now : (f : F) (cache : Cache) → shows f cache → is_some (seat_of f).told ≡ true
        → IsSome (past_of files story (seat_of f)).files
    files_now f cache given is = files_some (seat_of f).told is (λ told here.
        gives_files one told.device.volume told.device.log told.device.halted cache
        (subst (λ (o : Option (Told (Device V))). IfSome o (λ t. GivesCache t.device.log t.device.halted
        (story t.device.volume) (files t.device.volume) cache)) here (told_gives f cache given)))

    -- What was safe stays so, and the cache goes on holding what is kept.
    pub since_on : (old new : F) (old_known new_known : Known) (kept new_kept : KeptData) (count new_count : ℕ)
        (first : PastData) → is_some (seat_of new).told ≡ is_some (seat_of old).told
        → (IsHeld kept (counted_in shows old old_known) count
        → Tells (StaysSafe kept new_kept) (past_of files story (seat_of old)).story
        (past_of files story (seat_of new)).story)
        → (is_some (seat_of new).told ≡ true → IsHeld kept (counted_in shows old old_known) count
        → IsHeld new_kept (counted_in shows new new_known) new_count)
        → IsKeptSince kept (counted_in shows old old_known) count first (past_of files story (seat_of old))
        → IsKeptSince new_kept (counted_in shows new new_known) new_count first (past_of files story (seat_of new))
    since_on old new old_known new_known kept new_kept count new_count first goes stays keep since = record {
      safe = λ base opened. safe_on kept new_kept first.story (past_of files story (seat_of old)).story
          (past_of files story (seat_of new)).story (since.safe base opened) (stays (since.held base opened));
      told = λ base opened. files_now new (held base opened).cache (held base opened).given.0 (told base opened);
      held = held;
    } where
      told : (base : BaseData) → OpenedTo base first → is_some (seat_of new).told ≡ true
      told base opened = goes ∙ told_some (seat_of old).told (since.told base opened)

      held : (base : BaseData) → OpenedTo base first → IsHeld new_kept (counted_in shows new new_known) new_count
      held base opened = keep (told base opened) (since.held base opened)

    -- Work by which each image holds the pages, or those in doubt, and the cache goes on holding what is kept.
    pub kept_on : (old new : F) (old_known new_known : Known) (kept new_kept : KeptData) (count new_count : ℕ)
        (first : PastData) → is_some (seat_of new).told ≡ is_some (seat_of old).told → AreKept kept.rows
        → SameFeed kept new_kept
        → ((cache : Cache) → counted_in shows old old_known cache → length cache.pages ≡ count
        → Tells (Run (EachImage (HoldsEither cache.pages cache.doubt))) (past_of files story (seat_of old)).story
        (past_of files story (seat_of new)).story)
        → (is_some (seat_of new).told ≡ true → IsHeld kept (counted_in shows old old_known) count
        → IsHeld new_kept (counted_in shows new new_known) new_count)
        → IsKeptSince kept (counted_in shows old old_known) count first (past_of files story (seat_of old))
        → IsKeptSince new_kept (counted_in shows new new_known) new_count first (past_of files story (seat_of new))
    kept_on old new old_known new_known kept new_kept count new_count first goes rows same runs keep since =
        since_on old new old_known new_known kept new_kept count new_count first goes
        (λ h. tells_map (Run (EachImage (HoldsEither h.cache.pages h.cache.doubt))) (StaysSafe kept new_kept)
        (past_of files story (seat_of old)).story (past_of files story (seat_of new)).story
        (λ y z is run. λ other start was. tended_safe other start y z kept new_kept h.cache was rows h.holds same run)
        (runs h.cache h.given h.count_is)) keep since

    -- While nothing is halted the log of a device that is told has as many records as the cache.
    pub counted_now : (f : F) (known : Known) → Knows (seat_of f).last known → is_some (seat_of f).last.log ≡ true
        → IsTold (λ told. (told.device.log ≡ (seat_of f).last.log) × (told.device.halted ≡ (seat_of f).last.halted))
        (seat_of f) → is_some (seat_of f).told ≡ true → (cache : Cache) → shows f cache → known.halted ≡ None
        → length cache.records ≡ known.tail
    counted_now f known knows attached device is cache given going =
        by (seat_of f).told is device (told_gives f cache given) where
          stands : (l : Option Log) (o : Option Story) (fs : Option Files) → GivesCache l None o fs cache
              → IfSome l (λ (log : Log). known.tail ≡ log.tail) → is_some l ≡ true → length cache.records ≡ known.tail
          stands None o fs gives tail some = absurd (cc some)
          stands (Some log) (Some s) fs gives tail some = sym gives.stands.attached.counts ∙ sym tail
          stands (Some log) None (Some x) gives tail some = sym gives.stands.counts ∙ sym tail
          stands (Some log) None None gives tail some = absurd gives.stands

          by : (o : Option (Told (Device V))) → is_some o ≡ true
              → IfSome o (λ told. (told.device.log ≡ (seat_of f).last.log)
              × (told.device.halted ≡ (seat_of f).last.halted))
              → IfSome o (λ told. GivesCache told.device.log told.device.halted (story told.device.volume)
              (files told.device.volume) cache) → length cache.records ≡ known.tail
          by None some same gives = absurd (cc some)
          by (Some t) some same gives = stands (seat_of f).last.log (story t.device.volume) (files t.device.volume)
              (subst (λ (h : Option ℕ). GivesCache (seat_of f).last.log h (story t.device.volume)
              (files t.device.volume) cache) (same.1 ∙ sym knows.halted ∙ going)
              (subst (λ (l : Option Log). GivesCache l t.device.halted (story t.device.volume)
              (files t.device.volume) cache) same.0 gives))
              knows.tail attached

-- ---- what is held

module _ {F : Type 0} (shows : F → Cache → Type 0) (old new : F) (old_known new_known : Known)
    (kept new_kept : KeptData) (count new_count : ℕ) (same : SameFeed kept new_kept) (counts : new_count ≡ count)
    (counted : (cache : Cache) → shows new cache → new_known.halted ≡ None → length cache.records ≡ new_known.tail)
  where
    -- the pages, those in doubt and the tail are the same
    pub keep_same : ((cache : Cache) → shows old cache → (now : Cache) × SamePages cache now × shows new now)
        → IsHeld kept (counted_in shows old old_known) count
        → IsHeld new_kept (counted_in shows new new_known) new_count
    keep_same gives h = held_same kept new_kept (counted_in shows old old_known) (counted_in shows new new_known) count
        new_count h same (λ cache given many.
        let n = gives cache given.0 in
        (n.0, (n.2, counted n.0 n.2), ap length n.1.pages ∙ many ∙ sym counts, n.1))

    -- after a checkpoint nothing is in doubt
    keep_checked : kept.halted ≡ None → ((cache : Cache) → shows old cache → (now : Cache)
        × (now.pages ≡ cache.pages) × shows new now × (now.doubt ≡ now.pages))
        → IsHeld kept (counted_in shows old old_known) count
        → IsHeld new_kept (counted_in shows new new_known) new_count
    keep_checked going gives h =
        let n = gives h.cache h.given.0 in
        let none : new_kept.doubt ≡ None = same.doubt ∙ h.no_doubt going in
        record {
          cache = n.0;
          given = (n.2, counted n.0 n.2);
          count_is = ap length n.1 ∙ h.count_is ∙ sym counts;
          holds = record {
            pages = subst (λ (r : List (Option RecordData)). ArePagesOf r n.0.pages) (sym same.rows)
                (subst (λ (l : List (List ℕ)). ArePagesOf kept.rows l) (sym n.1) h.holds.pages);
            sure = λ _. n.3;
            in_doubt = subst (λ (o : Option DoubtData). IfSome o (λ d. HoldsDoubt new_kept.rows d n.0)) (sym none) tt;
          };
          sound = subst (λ (r : List (Option RecordData)). IsSoundBase (base_with r)) (sym same.rows) h.sound;
          no_doubt = λ _. none;
        }

    pub keep_checkpoint : {T : Type 0} (made : Result T TendFault) → (OnOk made (kept.halted ≡ None))
        → ((cache : Cache) → shows old cache → (now : Cache) × (now.pages ≡ cache.pages) × shows new now
        × OnOk made (WasCheckpointed now) × OnErr made (SamePages cache now))
        → IsHeld kept (counted_in shows old old_known) count
        → IsHeld new_kept (counted_in shows new new_known) new_count
    keep_checkpoint (Ok value) going gives h = keep_checked going
        (λ cache is. let n = gives cache is in (n.0, n.1, n.2, n.3.sure)) h
    keep_checkpoint (Err why) going gives h = keep_same
        (λ cache is. let n = gives cache is in (n.0, n.4, n.2)) h

-- ---- work on the homes

-- an open device covers the pages that it gives
given_covers : (log : Option Log) (halted : Option ℕ) (s : Story) (files : Option Files) (cache : Cache)
    → is_some log ≡ true → GivesCache log halted (Some s) files cache
    → Covers cache.dirty cache.pages cache.doubt cache.records s.now.disk
given_covers None halted s files cache is gives = absurd (cc is)
given_covers (Some log) None s files cache is gives =
    stands_covers log cache.records cache.dirty cache.pages cache.doubt s.now.disk gives.stands
given_covers (Some log) (Some at) s files cache is gives = gives

-- what each image holds at each moment of it
abbrev pub Keeps : Cache → Story → Story → Type 0
Keeps cache = Run (EachImage (HoldsEither cache.pages cache.doubt))

home_moments : (but : ℕ → Type 0) (cache : Cache) (old : Disk) (from to : Story)
    → Run (HomeMoment but cache.dirty cache.pages cache.doubt cache.records old) from to → Keeps cache from to
home_moments but cache old from to run = run_weaker
    (HomeMoment but cache.dirty cache.pages cache.doubt cache.records old)
    (EachImage (HoldsEither cache.pages cache.doubt)) from to
    (λ disk moment. covers_either cache.dirty cache.pages cache.doubt cache.records disk moment.covers) run

flush_runs : {T E : Type 0} (page : ℕ) (content : List ℕ) (done : Result T E) (cache : Cache) (x y : Story)
    → cache.dirty page ≡ Some (unwritten content)
    → Covers cache.dirty cache.pages cache.doubt cache.records x.now.disk → WritesHome page content done x y
    → Keeps cache x y
flush_runs page content done cache x y dirty covers writes = home_moments (this_page page) cache x.now.disk x y
    (writes cache.dirty cache.pages cache.doubt cache.records dirty covers).moments

settle_runs : {T E : Type 0} (done : Result T E) (cache : Cache) (x y : Story)
    → Covers cache.dirty cache.pages cache.doubt cache.records x.now.disk → SyncsHomes done x y → Keeps cache x y
settle_runs done cache x y covers syncs = home_moments no_page cache x.now.disk x y
    (syncs cache.dirty cache.pages cache.doubt cache.records covers).moments

holds_runs : (cache : Cache) (x y : Story) → Run (EachImage (HoldsPages cache.pages)) x y → Keeps cache x y
holds_runs cache x y run = run_weaker (EachImage (HoldsPages cache.pages))
    (EachImage (HoldsEither cache.pages cache.doubt)) x y (λ disk each image allowed. inl (each image allowed)) run

keeps_refl : (cache : Cache) (x : Story) → Keeps cache x x
keeps_refl cache x = run_begins (EachImage (HoldsEither cache.pages cache.doubt)) x x refl

-- a dirty page is one of its partition's
dirty_held : (place : Option Place) (content : List ℕ) → dirty_place place ≡ Some (unwritten content)
    → option_and_then (λ (p : Place). p.content) place ≡ Some content
dirty_held None content is = absurd (cc is)
dirty_held (Some p) content is = by p.content is where
  content_or : List ℕ → Option DirtyPage → List ℕ
  content_or c None = c
  content_or c (Some d) = d.content

  by : (o : Option (List ℕ)) → option_map (λ c. let page : DirtyPage = record { content = c; written = p.written } in
      page) o ≡ Some (unwritten content) → o ≡ Some content
  by None none = absurd (cc none)
  by (Some c) some = ap Some (ap (λ (o : Option DirtyPage). content_or c o) some)

module _ {V F : Type 0} (files : V → Option Files) (story : V → Option Story) (seat_of : F → Seat (Device V))
    (one_sharing : F → F → Type 0) (shows : F → Cache → Type 0) (tells : TellsAsGiven seat_of one_sharing shows)
    (told_gives : (f : F) (cache : Cache) → shows f cache → IsTold (λ told. GivesCache told.device.log
    told.device.halted (story told.device.volume) (files told.device.volume) cache) (seat_of f)) (old new : F)
    (shares : one_sharing old new) where
  abbrev was : Seat (Device V)
  was = seat_of old

  abbrev now : Seat (Device V)
  now = seat_of new

  goes : is_some now.told ≡ is_some was.told
  goes = tells.goes_on old new shares

  -- nothing that is told has changed
  idle_story : (cache : Cache) → IsTold (λ t. now.told ≡ was.told) was
      → Tells (Keeps cache) (past_of files story was).story (past_of files story now).story
  idle_story cache same = past_same files story (Keeps cache) (keeps_refl cache) was now goes same

  same_story : (cache : Cache) → NothingChanged was now
      → Tells (Keeps cache) (past_of files story was).story (past_of files story now).story
  same_story cache same = idle_story cache (always was.told) where
    always : (o : Option (Told (Device V))) → IfSome o (λ t. now.told ≡ was.told)
    always None = tt
    always (Some t) = same.told

  -- a checkpoint, made or refused by the device
  pub checkpoint_story : {T : Type 0} (done : Result T TendFault) (cache : Cache) → shows old cache
      → ((turn : ℕ) → IsErrOf done (Busy turn) → NothingChanged was now)
      → IfMade done (λ d. (taken given : Device V) × IsTold (λ told. taken ≡ told.device) was
      × IsTold (λ told. given ≡ told.device) now × ((c : Cache) → shows old c
      → Tells (on_disk.holds c.pages) (story taken.volume) (story given.volume)))
      → Tells (Keeps cache) (past_of files story was).story (past_of files story now).story
  checkpoint_story {T} done cache given busy made = by done busy made where
    made_story : ((taken given : Device V) × IsTold (λ told. taken ≡ told.device) was
        × IsTold (λ told. given ≡ told.device) now × ((c : Cache) → shows old c
        → Tells (on_disk.holds c.pages) (story taken.volume) (story given.volume)))
        → Tells (Keeps cache) (past_of files story was).story (past_of files story now).story
    made_story m = past_step files story (Keeps cache) was now m.0 m.1 goes m.2 m.3
        (tells_map (on_disk.holds cache.pages) (Keeps cache) (story m.0.volume) (story m.1.volume)
        (λ x y is run. holds_runs cache x y run) (m.4 cache given))

    by : (d : Result T TendFault) → ((turn : ℕ) → IsErrOf d (Busy turn) → NothingChanged was now)
        → IfMade d (λ r. (taken given : Device V) × IsTold (λ told. taken ≡ told.device) was
        × IsTold (λ told. given ≡ told.device) now × ((c : Cache) → shows old c
        → Tells (on_disk.holds c.pages) (story taken.volume) (story given.volume)))
        → Tells (Keeps cache) (past_of files story was).story (past_of files story now).story
    by (Ok value) busy m = made_story m
    by (Err Fault) busy m = made_story m
    by (Err (Halted at)) busy m = made_story m
    by (Err (Busy turn)) busy m = same_story cache (busy turn refl)

  module _ (engine : was.engine ≡ true) (free : HoldsNothing was) (attached : is_some was.last.log ≡ true)
      (cache : Cache) (given : shows old cache) where
    -- what the device covers that is told
    told_covers : (t : Told (Device V)) → was.told ≡ Some t → (s : Story) → story t.device.volume ≡ Some s
        → Covers cache.dirty cache.pages cache.doubt cache.records s.now.disk
    told_covers t is s tells_s = given_covers t.device.log t.device.halted s (files t.device.volume) cache
        (ap is_some (some_told (λ (x : Told (Device V)). (x.device.log ≡ was.last.log)
        × (x.device.halted ≡ was.last.halted)) was.told t is (tells.device old engine free)).0 ∙ attached)
        (subst (λ (o : Option Story). GivesCache t.device.log t.device.halted o (files t.device.volume) cache) tells_s
        (some_told (λ (x : Told (Device V)). GivesCache x.device.log x.device.halted (story x.device.volume)
        (files x.device.volume) cache) was.told t is (told_gives old cache given)))

    -- work on the device that is told
    step : (W : Story → Story → Type 0) (taken got : Device V) → IsTold (λ told. taken ≡ told.device) was
        → IsTold (λ told. got ≡ told.device) now → Tells W (story taken.volume) (story got.volume)
        → ((t : Told (Device V)) → was.told ≡ Some t → (x y : Story) → story t.device.volume ≡ Some x → W x y
        → Keeps cache x y)
        → Tells (Keeps cache) (past_of files story was).story (past_of files story now).story
    step W taken got first second works keeps = tells_so W (Keeps cache) (past_of files story was).story
        (past_of files story now).story (λ x y is_x is_y w. on was.told refl x y is_x w)
        (past_step files story W was now taken got goes first second works)
      where
        on : (o : Option (Told (Device V))) → was.told ≡ o → (x y : Story) → (told_by files story o).story ≡ Some x
            → W x y → Keeps cache x y
        on None is x y tells_x w = absurd (cc tells_x)
        on (Some t) is x y tells_x w = keeps t is x y tells_x w

    settled : {T E : Type 0} (done : Result T E) → ((taken got : Device V)
        × IsTold (λ told. taken ≡ told.device) was × IsTold (λ told. got ≡ told.device) now
        × Tells (SyncsHomes done) (story taken.volume) (story got.volume))
        → Tells (Keeps cache) (past_of files story was).story (past_of files story now).story
    settled done m = step (SyncsHomes done) m.0 m.1 m.2 m.3 m.4
        (λ t is x y tells_x syncs. settle_runs done cache x y (told_covers t is x tells_x) syncs)

    pub settle_story : (done : Result (Unit {0}) TendFault)
        → ((turn : ℕ) → IsErrOf done (Busy turn) → NothingChanged was now)
        → ((at : ℕ) → IsErrOf done (Halted at) → ⊥)
        → IfSynced done (λ d. (taken got : Device V) × IsTold (λ told. taken ≡ told.device) was
        × IsTold (λ told. got ≡ told.device) now × Tells (SyncsHomes d) (story taken.volume) (story got.volume))
        → Tells (Keeps cache) (past_of files story was).story (past_of files story now).story
    settle_story (Ok value) busy never m = settled {T = Unit {0}} {E = Failed} (Ok tt) m
    settle_story (Err Fault) busy never m = settled {T = Unit {0}} {E = Failed} (Err (record {})) m
    settle_story (Err (Halted at)) busy never m = absurd (never at refl)
    settle_story (Err (Busy turn)) busy never m = same_story cache (busy turn refl)

    module _ (part : ℕ) (below : part < PARTITIONS) where
      -- an unwritten page of the partition is so in the cache
      told_dirty : (t : Told (Device V)) → was.told ≡ Some t → (page : ℕ) (content : List ℕ)
          → dirty_of (told_at t part) page ≡ Some (unwritten content) → cache.dirty page ≡ Some (unwritten content)
      told_dirty t is page content dirty =
          let here : IsPart cache part (told_at t part) = some_told (λ (x : Told (Device V)). IsPart cache part
          (told_at x part)) was.told t is (tells.parts old cache part below free given) in
          let own : page % PARTITIONS ≡ part = here.own page content
          (inl (dirty_held (place_at (told_at t part) page) content dirty)) in
          here.dirty page own ∙ dirty

      flushed : {T E : Type 0} (done : Result T E) → ((taken got : Device V) × (page : ℕ) × (content : List ℕ)
          × IsTold (λ told. (taken ≡ told.device) × (unwritten_page (told_at told part).places ≡ Some page)
          × (dirty_of (told_at told part) page ≡ Some (unwritten content))) was
          × IsTold (λ told. got ≡ told.device) now
          × Tells (WritesHome page content done) (story taken.volume) (story got.volume))
          → Tells (Keeps cache) (past_of files story was).story (past_of files story now).story
      flushed done m = step (WritesHome m.2 m.3 done) m.0 m.1 (some_then was.told _ _ (λ x h. h.0) m.4) m.5 m.6
          (λ t is x y tells_x writes. flush_runs m.2 m.3 done cache x y
          (told_dirty t is m.2 m.3 (some_told (λ (z : Told (Device V)). (m.0 ≡ z.device)
          × (unwritten_page (told_at z part).places ≡ Some m.2)
          × (dirty_of (told_at z part) m.2 ≡ Some (unwritten m.3))) was.told t is m.4).2)
          (told_covers t is x tells_x) writes)

      pub flush_story : (done : Result Bool TendFault)
          → ((turn : ℕ) → IsErrOf done (Busy turn) → NothingChanged was now)
          → ((at : ℕ) → IsErrOf done (Halted at) → ⊥)
          → (done ≡ Ok false → IsTold (λ t. now.told ≡ was.told) was)
          → IfFlushed done (λ d. (taken got : Device V) × (page : ℕ) × (content : List ℕ)
          × IsTold (λ told. (taken ≡ told.device) × (unwritten_page (told_at told part).places ≡ Some page)
          × (dirty_of (told_at told part) page ≡ Some (unwritten content))) was
          × IsTold (λ told. got ≡ told.device) now
          × Tells (WritesHome page content d) (story taken.volume) (story got.volume))
          → Tells (Keeps cache) (past_of files story was).story (past_of files story now).story
      flush_story (Ok true) busy never idle m = flushed {T = Unit {0}} {E = Failed} (Ok tt) m
      flush_story (Ok false) busy never idle m = idle_story cache (idle refl)
      flush_story (Err Fault) busy never idle m = flushed {T = Unit {0}} {E = Failed} (Err (record {})) m
      flush_story (Err (Halted at)) busy never idle m = absurd (never at refl)
      flush_story (Err (Busy turn)) busy never idle m = same_story cache (busy turn refl)
