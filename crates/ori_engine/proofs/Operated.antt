-- What an operation over the cache makes of the turns, refused or committed.
use Rattle.std.proofs.Common.{◌≡◌, ◌≢◌, ◌⊎◌, inl, inr, ⊎_elim, ℕ, zero, suc, ◌+◌, ◌<◌, ◌≤◌, Bool, true, false, if◌then◌else◌, List, [], ◌∷◌, length}
use Rattle.std.proofs.Common.{Option, Some, None, IfSome, IsSome, Result, Ok, Err, IfOk, OnOk, IfErr, IsErrOf, refl, sym, ap, ◌∙◌}
use Rattle.std.proofs.Common.{subst, arith}
use Rattle.std.proofs.lemmas.Bool.{cases_lt}
use Rattle.std.proofs.lemmas.List.{ext_get_or}
use Rattle.ori_volume.specs.Causes.{Rose}
use Rattle.ori_volume.specs.Disk.{Files}
use Rattle.ori_volume.specs.Story.{Story, Tells, Reads}
use Rattle.ori_volume.specs.Runs.{Run, EachImage}
use Rattle.ori_volume.proofs.Known.{tells_map, tells_then, tells_same}
use Rattle.ori_volume.proofs.RunSteps.{run_reads, run_then}
use Rattle.ori_page.specs.declared.fault.PageFault.{PageFault}
use Rattle.ori_log.specs.Log.{ImageData}
use Rattle.ori_log.specs.declared.log.Log.{Log}
use Rattle.ori_cover.specs.Given.{ArePut, HoldsPages, HoldsEither}
use Rattle.ori_pool.specs.declared.device.Device.{Device}
use Rattle.ori_pool.specs.declared.fault.OpFault.{OpFault}
use Rattle.ori_pool.specs.declared.fault.OpFault.TheVariants.{Fault, Halted, Busy, NoMemory}
use Rattle.ori_pool.specs.Commits.{put_by}
use Rattle.ori_pool.specs.Devices.{HaltsOp, is_due, kept_tail}
use Rattle.ori_turns.specs.declared.known.Known.{Known}
use Rattle.ori_turns.specs.Knowing.{Knows}
use Rattle.ori_turns.specs.Seats.{Seat, Told, Last, NothingChanged, TurnHeld}
use Rattle.ori_turns.specs.Caches.{Cache, SamePages}
use Rattle.ori_turns.specs.Committed.{CommitsCache, IfDone, IsWhole, LeavesNow, WasCommitted, left_by}
use Rattle.ori_overlay.specs.declared.changes.Changes.{Changes}
use Rattle.ori_overlay.specs.Changed.{Shows, number_of}
use Rattle.ori_cache.specs.Pools.{CommitsPool, CommitsOperation, IsOkOrBusy}
use Rattle.ori_cache.specs.Reads.{IsSame, ReadsDevice, ReadsTold, ReadsFrames}
use Rattle.ori_paged.specs.PageRows.{begun, put_images}
use Rattle.ori_engine.specs.declared.committing.WriteFault.{WriteFault}
use Rattle.ori_engine.specs.declared.committing.WriteFault.TheVariants.{Page, Commit}
use Rattle.ori_engine.specs.CacheRows.{counted_in}
use Rattle.ori_engine.specs.States.{HaltsBy}
use Rattle.ori_engine.specs.Writing.{WritesPages, WritesStory, WritesCache, WritesFor, RefusesFor, PageFor, GoesOn}
use Rattle.ori_engine.specs.Writing.{come_by}

abbrev pub PageList : Type 0
PageList = List (List ℕ)

-- what a commit's answer becomes
abbrev pub written : Result ℕ OpFault → Result ℕ WriteFault
written (Ok moment) = Ok moment
written (Err why) = Err (Commit why)

-- ---- counts

-- what the device's counts say of an answer
record Counts (result : Result ℕ WriteFault) (old new : Last) (waits_old waits_new : ℕ) : Type 0 where
  pub faults : old.faults ≤ new.faults
  pub log_faults : old.log_faults ≤ new.log_faults
  pub halts : HaltsBy old.halted new.halted old.faults new.faults old.log_faults new.log_faults
  pub goes_on : GoesOn result new.halted new.faults
  pub why : IfErr result (λ why. WritesFor why old.faults new.faults waits_old waits_new)

module _ (old new : Last) (none : old.halted ≡ None) (v w : ℕ) where
  counts_done : (r : Result ℕ OpFault) → WasCommitted r old new → Counts (written r) old new v w
  counts_done (Ok moment) was = record {
    faults = was.faults;
    log_faults = was.log_faults;
    halts = inl (was.halts none ∙ sym none, was.fine);
    goes_on = was.halts none;
    why = tt;
  }
  counts_done (Err (Fault None)) was = record {
    faults = was.faults;
    log_faults = was.log_faults;
    halts =
        elim (was.halts none) [
          | inl on ↦ inl (on.0 ∙ sym none, on.1)
          | inr ended ↦ inr (none, ended.0, was.fault None refl, ended.1)
        ];
    goes_on = tt;
    why = was.fault None refl;
  }
  counts_done (Err (Fault (Some doubt))) was = record {
    faults = was.faults;
    log_faults = was.log_faults;
    halts = inr (none, (was.halts none).0, was.fault (Some doubt) refl, was.append doubt refl);
    goes_on = (was.halts none).0;
    why = was.fault (Some doubt) refl;
  }
  counts_done (Err (Halted at_fault)) was = absurd (was.halts none)
  counts_done (Err (Busy turn)) was = absurd (was.halts none)
  counts_done (Err NoMemory) was = record {
    faults = was.faults;
    log_faults = was.log_faults;
    halts = inl (was.halts none ∙ sym none, (was.memory refl).2);
    goes_on = was.halts none;
    why = tt;
  }

  -- nothing was done to the log, and it isn't a fault
  counts_same : (r : Result ℕ OpFault) → old.faults ≤ new.faults → new.halted ≡ old.halted
      → new.log_faults ≡ old.log_faults → GoesOn (written r) None new.faults
      → IfErr (written r) (λ why. WritesFor why old.faults new.faults v w) → Counts (written r) old new v w
  counts_same r later halted log_same goes why = record {
    faults = later;
    log_faults = omega (arith, log_same);
    halts = inl (halted, log_same);
    goes_on = subst (λ (o : Option ℕ). GoesOn (written r) o new.faults) (sym (halted ∙ none)) goes;
    why = why;
  }

-- ---- stories

module _ (pages put : PageList) where
  story_refused : (why : PageFault) (old new : Story) → Reads old new → WritesStory pages put (Err (Page why)) old new
  story_refused why old new reads = record {
    moments = run_reads (EachImage (HoldsEither pages pages)) old new reads;
    whole = tt;
  }

  -- the volume was only read
  story_read : (r : Result ℕ OpFault) (old new : Story) → Reads old new → OnOk r (put ≡ pages)
      → WritesStory pages put (written r) old new
  story_read (Ok moment) old new reads same = record {
    moments = run_reads (EachImage (HoldsEither pages put)) old new reads;
    whole = inr (same, reads);
  }
  story_read (Err why) old new reads same = record {
    moments = run_reads (EachImage (HoldsEither pages (come_by (Err (Commit why)) pages put))) old new reads;
    whole = tt;
  }

  story_done : (r : Result ℕ OpFault) (old new : Story) → IsWhole pages put r old new
      → WritesStory pages put (written r) old new
  story_done (Ok moment) old new is = record { moments = is.moments; whole = inl is.now }
  story_done (Err (Fault None)) old new is = record { moments = is.moments; whole = tt }
  story_done (Err (Fault (Some doubt))) old new is = record { moments = is.moments; whole = tt }
  story_done (Err (Halted at_fault)) old new is = record { moments = is.moments; whole = tt }
  story_done (Err (Busy turn)) old new is = record { moments = is.moments; whole = tt }
  story_done (Err NoMemory) old new is = record { moments = is.moments; whole = tt }

  story_then : (r : Result ℕ WriteFault) (old mid new : Story) → Reads old mid → WritesStory pages put r mid new
      → WritesStory pages put r old new
  story_then r old mid new reads is = record {
    moments = run_then (EachImage (HoldsEither pages (come_by r pages put))) old mid new
        (run_reads (EachImage (HoldsEither pages (come_by r pages put))) old mid reads) is.moments;
    whole = by r is.whole;
  } where
    by : (s : Result ℕ WriteFault)
        → OnOk s (EachImage (HoldsPages put) new.now.disk ⊎ ((put ≡ pages) × Reads mid new))
        → OnOk s (EachImage (HoldsPages put) new.now.disk ⊎ ((put ≡ pages) × Reads old new))
    by (Ok moment) (inl holds) = inl holds
    by (Ok moment) (inr (same, on)) = inr (same, record { past = on.past ∙ reads.past; disk = on.disk ∙ reads.disk })
    by (Err why) holds = tt

-- ---- caches

cache_same : (r : Result ℕ OpFault) (put : PageList) (old new : Cache) → SamePages old new → OnOk r (put ≡ old.pages)
    → IsOkOrBusy r → new.doubt ≡ new.pages → WritesCache put (written r) old new
cache_same (Ok moment) put old new same is fine sure = (same.pages ∙ sym is, sure ∙ same.pages ∙ sym is)
cache_same (Err (Fault doubt)) put old new same is fine sure = absurd fine
cache_same (Err (Halted at_fault)) put old new same is fine sure = absurd fine
cache_same (Err (Busy turn)) put old new same is fine sure = same
cache_same (Err NoMemory) put old new same is fine sure = absurd fine

no_images : (images : List ImageData) (old put : PageList) → length images ≡ 0 → ArePut images old put → put ≡ old
no_images [] old put none are =
    ext_get_or [] put old (omega (arith, are.count)) (λ q low. are.kept q refl)
no_images (i ∷ images) old put none are = absurd (omega (arith, none))

-- where no page was changed, the pages are as they were
pub none_put : (n : ℕ) (due : Bool) (r : Result ℕ OpFault) (put : PageList) (old new : Cache) → n ≡ 0
    → CommitsOperation n due put r old new → OnOk r (put ≡ old.pages)
none_put n due (Err why) put old new none did = tt
none_put n due (Ok moment) put old new none (inl (inl (zero_is, same), pages)) = same
none_put n due (Ok moment) put old new none (inl (inr refused, pages)) = absurd cc
none_put n due (Ok moment) put old new none (inr (images, many, are, did)) =
    no_images images old.pages put (many ∙ none) are

-- the records that an append was put behind, and its own
tail_of : (last : Last) (known : Known) (doubt : ℕ) (records left : List (List ImageData)) → IsSome last.log
    → Knows last known → IfSome last.log (λ (l : Log). doubt ≡ kept_tail l + 1) → length records ≡ known.tail
    → left ≡ left_by known.due records → length left + 1 ≡ doubt
tail_of last known doubt records left some knows is counted behind =
    by last.log some knows.tail knows.due is
  where
    by : (o : Option Log) → IsSome o → IfSome o (λ (l : Log). known.tail ≡ l.tail)
        → IfSome o (λ (l : Log). known.due ≡ is_due l) → IfSome o (λ (l : Log). doubt ≡ kept_tail l + 1)
        → length left + 1 ≡ doubt
    by None none tail due at = absurd (cc none)
    by (Some l) _ tail due at =
        ap (λ (n : ℕ). n + 1) (ap length behind ∙ kept known.due due) ∙ sym at
      where
        kept : (b : Bool) → b ≡ is_due l → length (left_by b records) ≡ kept_tail l
        kept true e = ap (λ (b : Bool). if b then 0 else l.tail) e
        kept false e = counted ∙ tail ∙ ap (λ (b : Bool). if b then 0 else l.tail) e

cache_done : (r : Result ℕ OpFault) (images : List ImageData) (due : Bool) (put : PageList) (old new : Cache)
    → CommitsCache images due put r old new
    → ((doubt : ℕ) → IsErrOf r (Fault (Some doubt)) → new.records ≡ left_by due old.records
    → (length new.records + 1 ≡ doubt) × (put ≢ old.pages)) → WritesCache put (written r) old new
cache_done (Ok moment) images due put old new did tail = (did.pages, did.sure)
cache_done (Err (Fault None)) images due put old new did tail = record {
  pages = did.pages;
  doubt = did.doubt;
  records = did.records;
}
cache_done (Err (Fault (Some doubt))) images due put old new did tail =
    let more = tail doubt refl did.records in
    (did.pages, did.doubt, more.0, more.1)
cache_done (Err (Halted at_fault)) images due put old new did tail = record {
  pages = did.pages;
  doubt = did.doubt;
  records = did.records;
}
cache_done (Err (Busy turn)) images due put old new did tail = record {
  pages = did.pages;
  doubt = did.doubt;
  records = did.records;
}
cache_done (Err NoMemory) images due put old new did tail = record {
  pages = did.pages;
  doubt = did.doubt;
  records = did.records;
}

same_on : (a b c : Cache) → SamePages a b → SamePages b c → SamePages a c
same_on a b c first second = record {
  pages = second.pages ∙ first.pages;
  doubt = second.doubt ∙ first.doubt;
  records = second.records ∙ first.records;
}

cache_from : (r : Result ℕ OpFault) (put : PageList) (a b c : Cache) → SamePages a b → WritesCache put (written r) b c
    → WritesCache put (written r) a c
cache_from (Ok moment) put a b c same did = did
cache_from (Err (Fault None)) put a b c same did = same_on a b c same did
cache_from (Err (Fault (Some doubt))) put a b c same did =
    (did.0 ∙ same.pages, did.1, did.2, λ e. did.3 (e ∙ sym same.pages))
cache_from (Err (Halted at_fault)) put a b c same did = same_on a b c same did
cache_from (Err (Busy turn)) put a b c same did = same_on a b c same did
cache_from (Err NoMemory) put a b c same did = same_on a b c same did

-- ---- since an earlier moment

halts_since : (old new : Option ℕ) (e f g k l m : ℕ) → e ≤ f → l ≡ k → HaltsBy old new f g l m → HaltsBy old new e g k m
halts_since old new e f g k l m later same (inl (is, log_same)) = inl (is, log_same ∙ same)
halts_since old new e f g k l m later same (inr (was, ended, rose, log_rose)) =
    inr (was, ended, omega (arith, later, rose), omega (arith, same, log_rose))

why_since : (r : Result ℕ OpFault) (e f g u v w : ℕ) → e ≤ f → u ≤ v → IfErr (written r) (λ why. WritesFor why f g v w)
    → IfErr (written r) (λ why. WritesFor why e g u w)
why_since (Ok moment) e f g u v w later waits is = tt
why_since (Err (Fault doubt)) e f g u v w later waits is = omega (arith, later, is)
why_since (Err (Halted at_fault)) e f g u v w later waits is = is
why_since (Err (Busy turn)) e f g u v w later waits is = (is.0, omega (arith, waits, is.1))
why_since (Err NoMemory) e f g u v w later waits is = tt

fine_goes : (r : Result ℕ OpFault) (n : ℕ) → IsOkOrBusy r → GoesOn (written r) None n
fine_goes (Ok moment) n fine = refl
fine_goes (Err (Fault doubt)) n fine = absurd fine
fine_goes (Err (Halted at_fault)) n fine = absurd fine
fine_goes (Err (Busy turn)) n fine = refl
fine_goes (Err NoMemory) n fine = absurd fine

fine_why : (r : Result ℕ OpFault) (f g v w : ℕ) → IsOkOrBusy r
    → ((turn : ℕ) → IsErrOf r (Busy turn) → TurnHeld turn v w) → IfErr (written r) (λ why. WritesFor why f g v w)
fine_why (Ok moment) f g v w fine held = tt
fine_why (Err (Fault doubt)) f g v w fine held = absurd fine
fine_why (Err (Halted at_fault)) f g v w fine held = absurd fine
fine_why (Err (Busy turn)) f g v w fine held = held turn refl
fine_why (Err NoMemory) f g v w fine held = absurd fine

done_map : (r : Result ℕ OpFault) (P Q : Result ℕ OpFault → Type 0) → ((s : Result ℕ OpFault) → P s → Q s) → IfDone r P
    → IfDone r Q
done_map (Ok moment) P Q step holds = step (Ok moment) holds
done_map (Err (Fault doubt)) P Q step holds = step (Err (Fault doubt)) holds
done_map (Err (Halted at_fault)) P Q step holds = step (Err (Halted at_fault)) holds
done_map (Err (Busy turn)) P Q step holds = tt
done_map (Err NoMemory) P Q step holds = step (Err NoMemory) holds

-- so it is of the answer, where it is shown for a turn that was held too
done_or : (r : Result ℕ OpFault) (P : Result ℕ OpFault → Type 0)
    → ((turn : ℕ) → IsErrOf r (Busy turn) → P (Err (Busy turn))) → IfDone r P → P r
done_or (Ok moment) P held holds = holds
done_or (Err (Fault doubt)) P held holds = holds
done_or (Err (Halted at_fault)) P held holds = holds
done_or (Err (Busy turn)) P held holds = held turn refl
done_or (Err NoMemory) P held holds = holds

done_fault : (r : Result ℕ OpFault) (P : Result ℕ OpFault → Type 0) (doubt : ℕ) → IsErrOf r (Fault (Some doubt))
    → IfDone r P → P (Err (Fault (Some doubt)))
done_fault r P doubt is holds = subst (λ (s : Result ℕ OpFault). IfDone s P) is holds

moment_on : (r : Result ℕ OpFault) (P : ℕ → Type 0) → IfOk r P → IfOk (written r) P
moment_on (Ok moment) P is = is
moment_on (Err why) P is = tt

-- ---- what is told

module _ {D : Type 0} (tells : D → Option Story) where
  -- at what is told of the devices
  abbrev Between : (Story → Story → Type 0) → Option (Told D) → Option (Told D) → Type 0
  Between S old new = IfSome old (λ was. IfSome new (λ now. Tells S (tells was.device) (tells now.device)))

  between_given : (S : Story → Story → Type 0) (old new : Option (Told D)) (taken given : D)
      → IfSome old (λ told. taken ≡ told.device) → IfSome new (λ told. given ≡ told.device)
      → Tells S (tells taken) (tells given) → Between S old new
  between_given S None new taken given was now step = tt
  between_given S (Some x) None taken given was now step = tt
  between_given S (Some x) (Some y) taken given was now step =
      subst (λ (d : D). Tells S (tells d) (tells y.device)) was
      (subst (λ (d : D). Tells S (tells taken) (tells d)) now step)

  between_same : (S : Story → Story → Type 0) (old new : Option (Told D)) → ((x : Story) → S x x) → new ≡ old
      → Between S old new
  between_same S None new same is = tt
  between_same S (Some x) new same is =
      subst (λ (o : Option (Told D)). IfSome o (λ now. Tells S (tells x.device) (tells now.device))) (sym is)
      (tells_same S (tells x.device) (tells x.device) same refl)

  between_read : (S R : Story → Story → Type 0) (P : D → D → Type 0) (old mid : Option (Told D))
      → ((x y : D) → P x y → Tells R (tells x) (tells y)) → ((x y : Story) → R x y → S x y)
      → Tells (ReadsTold P) old mid → Between S old mid
  between_read S R P None mid reads step read = tt
  between_read S R P (Some x) mid reads step read =
      subst (λ (o : Option (Told D)). IfSome o (λ now. Tells S (tells x.device) (tells now.device))) (sym read.1)
      (tells_map R S (tells x.device) (tells read.0.device) (λ a b known is. step a b is)
      (reads x.device read.0.device read.2.device))

  between_then : (R S : Story → Story → Type 0) (P : D → D → Type 0) (old mid new : Option (Told D))
      → ((x y : D) → P x y → Tells R (tells x) (tells y)) → ((x y z : Story) → R x y → S y z → S x z)
      → Tells (ReadsTold P) old mid → Between S mid new → Between S old new
  between_then R S P None mid new reads step read after = tt
  between_then R S P (Some x) mid new reads step read after =
      on new (subst (λ (o : Option (Told D)). Between S o new) read.1 after) where
        on : (n : Option (Told D)) → IfSome n (λ now. Tells S (tells read.0.device) (tells now.device))
            → IfSome n (λ now. Tells S (tells x.device) (tells now.device))
        on None is = tt
        on (Some y) is = tells_then R S S (tells x.device) (tells read.0.device) (tells y.device) step
            (reads x.device read.0.device read.2.device) is

-- ---- all of it

reads_then : (x y z : Story) → Reads x y → Reads y z → Reads x z
reads_then x y z first second = record { past = second.past ∙ first.past; disk = second.disk ∙ first.disk }

module _ {V F : Type 0} (holds : V → Option Files) (tells : V → Option Story) (time failed counted : V → ℕ)
    (seat_of : F → Seat (Device V)) (shows : F → Cache → Type 0) (one_sharing : F → F → Type 0) (waited : F → ℕ)
  where
    abbrev pub told_of : Device V → Option Story
    told_of d = tells d.volume

    abbrev pub Only : Device V → Device V → Type 0
    Only = ReadsDevice holds tells time failed counted

    -- a page call was refused
    pub page_refused : (old new : F) (old_count new_count : ℕ) (old_known new_known : Known) (images : List ImageData)
        (why : PageFault) → (seat_of old).engine ≡ true → ReadsFrames seat_of shows one_sharing waited Only old new
        → new_count ≡ old_count → new_known ≡ old_known → old_known.halted ≡ None
        → PageFor why (seat_of old).last.faults (seat_of new).last.faults (waited old) (waited new)
        → WritesPages tells time seat_of shows one_sharing waited old new old_count new_count old_known new_known images
        (Err (Page why))
    page_refused old new old_count new_count old_known new_known images why engine reads count same going is =
        let log = reads.tended.log engine in
        record {
          shares = reads.shares;
          waits = reads.waits;
          faults = reads.tended.faults;
          log_faults = omega (arith, log.2);
          halts = inl (ap (λ (k : Known). k.halted) same, log.2);
          goes_on = ap (λ (k : Known). k.halted) same ∙ going;
          why = is;
          moment = tt;
          story = λ cache given sure long.
              let put = put_images (begun cache.pages) images in
              between_read told_of (WritesStory cache.pages put (Err (Page why))) Reads Only (seat_of old).told
              (seat_of new).told (λ x y only. only.volume.story)
              (λ x y step. story_refused cache.pages put why x y step) reads.told;
          gives = λ cache given sure long.
              let on = reads.gives cache given.0 in (
                on.0,
                (
                  on.2,
                  λ none. ap length on.1.records ∙ given.1 going ∙ ap (λ (k : Known). k.tail) (sym same),
                ),
                ap length on.1.pages ∙ long ∙ sym count,
                on.1,
              );
        }

    -- the operation was committed, or refused
    module _ (old mid new : F) (count new_count : ℕ) (changes : Changes) (known new_known : Known)
        (images : List ImageData) (r : Result ℕ OpFault) (engine : (seat_of mid).engine ≡ true)
        (engine_old : (seat_of old).engine ≡ true)
        (attached : IsSome (seat_of mid).last.log) (knows : Knows (seat_of mid).last known)
        (knows_new : Knows (seat_of new).last new_known) (going : known.halted ≡ None)
        (reads : ReadsFrames seat_of shows one_sharing waited Only old mid)
        (commits : CommitsPool holds tells time failed counted seat_of shows one_sharing waited mid new count new_count
        changes known new_known r)
        (shown : (cache : Cache) → shows old cache → length cache.pages ≡ count
        → Shows changes cache.pages (put_images (begun cache.pages) images)) where
      abbrev n : ℕ
      n = number_of changes count

      none : (seat_of mid).last.halted ≡ None
      none = sym knows.halted ∙ going

      abbrev Counted : Result ℕ OpFault → Type 0
      Counted s = Counts (written s) (seat_of mid).last (seat_of new).last (waited mid) (waited new)

      held_counts : NothingChanged (seat_of mid) (seat_of new) → (s : Result ℕ OpFault) → IsOkOrBusy s
          → ((turn : ℕ) → IsErrOf s (Busy turn) → TurnHeld turn (waited mid) (waited new)) → Counted s
      held_counts same s fine held = counts_same (seat_of mid).last (seat_of new).last none (waited mid) (waited new) s
          (omega (arith, ap (λ (l : Last). l.faults) same.last)) (ap (λ (l : Last). l.halted) same.last)
          (ap (λ (l : Last). l.log_faults) same.last) (fine_goes s (seat_of new).last.faults fine)
          (fine_why s _ _ _ _ fine held)

      counts_all : Counted r
      counts_all =
          elim (cases_lt 0 n) [
            | inl some ↦
                elim (commits.crash some) [
                  | inl (is, same) ↦
                      subst Counted (sym is) (counts_same (seat_of mid).last (seat_of new).last none (waited mid)
                      (waited new) (Err NoMemory) (omega (arith, ap (λ (f : F). (seat_of f).last.faults) same))
                      (ap (λ (f : F). (seat_of f).last.halted) same)
                      (ap (λ (f : F). (seat_of f).last.log_faults) same) refl tt)
                  | inr did ↦
                      done_or r Counted
                      (λ turn is. held_counts (commits.same some turn is) (Err (Busy turn)) tt
                      (λ other at. commits.busy other (is ∙ at)))
                      (done_map r _ Counted (λ s t. counts_done (seat_of mid).last (seat_of new).last none (waited mid)
                      (waited new) s t.5) did)
                ]
            | inr few ↦
                let zero_is : n ≡ 0 = omega (arith, few) in
                let u = (commits.unchanged zero_is).0 in
                let log = u.tended.log engine in
                let fine = commits.fine zero_is going in
                counts_same (seat_of mid).last (seat_of new).last none (waited mid) (waited new) r u.tended.faults log.1
                log.2 (fine_goes r (seat_of new).last.faults fine) (fine_why r _ _ _ _ fine commits.busy)
          ]

      -- what the cache holds that is given in the midst
      module _ (cache : Cache) (given : shows mid cache) (long : length cache.pages ≡ count) (put : PageList)
          (is_shown : Shows changes cache.pages put) (sure : cache.doubt ≡ cache.pages)
          (records : length cache.records ≡ known.tail) where
        did_give : (now : Cache) × shows new now × CommitsOperation n known.due put r cache now
            × (length now.pages ≡ new_count)
            × ((known.halted ≡ None → length cache.records ≡ known.tail) → new_known.halted ≡ None
            → length now.records ≡ new_known.tail)
        did_give = commits.gives cache put given long is_shown

        tail_doubted : (doubt : ℕ) → IsErrOf r (Fault (Some doubt))
            → IfSome (seat_of mid).last.log (λ l. doubt ≡ kept_tail l + 1)
        tail_doubted doubt is =
            elim (cases_lt 0 n) [
              | inl some ↦
                  elim (commits.crash some) [
                    | inl (at, same) ↦ absurd (cc (sym is ∙ at))
                    | inr did ↦ ((done_fault r _ doubt is did).5.halts none).1
                  ]
              | inr few ↦ absurd (subst IsOkOrBusy is (commits.fine (omega (arith, few)) going))
            ]

        holds_cache : WritesCache put (written r) cache did_give.0
        holds_cache =
            elim did_give.2 [
              | inl (inl (zero_is, same), pages) ↦
                  cache_same r put cache did_give.0 pages (none_put n known.due r put cache did_give.0 zero_is did_give.2)
                  (commits.fine zero_is going) (pages.doubt ∙ sure ∙ sym pages.pages)
              | inl (inr refused, pages) ↦
                  subst (λ s. WritesCache put (written s) cache did_give.0) (sym refused) pages
              | inr (made, many, are, did) ↦
                  cache_done r made known.due put cache did_give.0 did
                  (λ doubt is behind. (
                    tail_of (seat_of mid).last known doubt cache.records did_give.0.records attached knows
                        (tail_doubted doubt is) records behind,
                    commits.other doubt is cache put given long is_shown,
                  ))
            ]

        story_between : Between told_of (WritesStory cache.pages put (written r)) (seat_of mid).told (seat_of new).told
        story_between =
            elim (cases_lt 0 n) [
              | inl some ↦
                  elim (commits.crash some) [
                    | inl (is, same) ↦
                        between_same told_of (WritesStory cache.pages put (written r)) (seat_of mid).told
                        (seat_of new).told (λ x. story_read cache.pages put r x x (record { past = refl; disk = refl })
                        (subst (λ s. OnOk s (put ≡ cache.pages)) (sym is) tt))
                        (ap (λ (f : F). (seat_of f).told) same)
                    | inr did ↦
                        done_or r (λ s. Between told_of (WritesStory cache.pages put (written s)) (seat_of mid).told
                        (seat_of new).told)
                        (λ turn is. between_same told_of (WritesStory cache.pages put (Err (Commit (Busy turn))))
                        (seat_of mid).told (seat_of new).told
                        (λ x. story_read cache.pages put (Err (Busy turn)) x x (record { past = refl; disk = refl }) tt)
                        (commits.same some turn is).told)
                        (done_map r _ _ (λ s t. between_given told_of (WritesStory cache.pages put (written s))
                        (seat_of mid).told (seat_of new).told t.0 t.1 t.2 t.3
                        (tells_map (IsWhole cache.pages put s) (WritesStory cache.pages put (written s)) (told_of t.0)
                        (told_of t.1) (λ x y known_is is. story_done cache.pages put s x y is)
                        (t.8 cache put given long is_shown))) did)
                  ]
              | inr few ↦
                  let zero_is : n ≡ 0 = omega (arith, few) in
                  between_read told_of (WritesStory cache.pages put (written r)) Reads IsSame (seat_of mid).told
                  (seat_of new).told
                  (λ x y same. tells_same Reads (told_of x) (told_of y) (λ a. record { past = refl; disk = refl })
                  (ap told_of same))
                  (λ x y step. story_read cache.pages put r x y step
                  (none_put n known.due r put cache did_give.0 zero_is did_give.2))
                  (commits.unchanged zero_is).0.told
            ]

      pub op_committed : ((a b c : F) → one_sharing a b → one_sharing b c → one_sharing a c)
          → WritesPages tells time seat_of shows one_sharing waited old new count new_count known new_known images
          (written r)
      op_committed on =
          let log = reads.tended.log engine_old in
          record {
            shares = on old mid new reads.shares commits.shares;
            waits = omega (arith, reads.waits, commits.waits);
            faults = omega (arith, reads.tended.faults, counts_all.faults);
            log_faults = omega (arith, log.2, counts_all.log_faults);
            halts = subst (λ (o : Option ℕ). HaltsBy o new_known.halted (seat_of old).last.faults
                (seat_of new).last.faults (seat_of old).last.log_faults (seat_of new).last.log_faults) (sym knows.halted)
                (subst (λ (o : Option ℕ). HaltsBy (seat_of mid).last.halted o (seat_of old).last.faults
                (seat_of new).last.faults (seat_of old).last.log_faults (seat_of new).last.log_faults)
                (sym knows_new.halted)
                (halts_since (seat_of mid).last.halted (seat_of new).last.halted _ _ _ _ _ _ reads.tended.faults log.2
                counts_all.halts));
            goes_on = subst (λ (o : Option ℕ). GoesOn (written r) o (seat_of new).last.faults) (sym knows_new.halted)
                counts_all.goes_on;
            why = why_since r _ _ _ _ _ _ reads.tended.faults reads.waits counts_all.why;
            moment = moment_on r _ commits.ended;
            story = λ cache given sure long.
                let put = put_images (begun cache.pages) images in
                let at = reads.gives cache given.0 in
                let step = story_between at.0 at.2 (ap length at.1.pages ∙ long) put
                (subst (λ (l : PageList). Shows changes l put) (sym at.1.pages) (shown cache given.0 long))
                (at.1.doubt ∙ sure ∙ sym at.1.pages) (ap length at.1.records ∙ given.1 going) in
                between_then told_of Reads (WritesStory cache.pages put (written r)) Only (seat_of old).told
                (seat_of mid).told (seat_of new).told (λ x y only. only.volume.story)
                (λ x y z first second. story_then cache.pages put (written r) x y z first second) reads.told
                (subst (λ (l : PageList). Between told_of (WritesStory l put (written r)) (seat_of mid).told
                (seat_of new).told) at.1.pages step);
            gives = λ cache given sure long.
                let put = put_images (begun cache.pages) images in
                let at = reads.gives cache given.0 in
                let is_long = ap length at.1.pages ∙ long in
                let is_shown = subst (λ (l : PageList). Shows changes l put) (sym at.1.pages) (shown cache given.0 long)
                in
                let is_sure = at.1.doubt ∙ sure ∙ sym at.1.pages in
                let records = ap length at.1.records ∙ given.1 going in
                let did = did_give at.0 at.2 is_long put is_shown is_sure records in (
                  did.0,
                  (did.1, did.4 (λ _. records)),
                  did.3,
                  cache_from r put cache at.0 did.0 at.1 (holds_cache at.0 at.2 is_long put is_shown is_sure records),
                );
          }
