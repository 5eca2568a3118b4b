-- What an engine knows of the outside once a commit has written its pages, or couldn't.
use Rattle.std.proofs.Common.{◌≡◌, ◌⊎◌, ◌<◌, ◌≤◌, inl, inr, ℕ, ◌+◌, true, List, [], ◌∷◌, ◌++◌, length, Option, Some}
use Rattle.std.proofs.Common.{None, is_some, Result, Ok, Err}
use Rattle.std.proofs.Common.{IfSome, IsSome, option_map, ⊎_elim, refl, sym, ap, ◌∙◌, subst}
use Rattle.ori_bytes.specs.declared.limits.TheConstants.{MAX_FEED_ENTRIES, MAX_FEED_BYTES}
use Rattle.ori_volume.specs.Causes.{Rose}
use Rattle.ori_volume.specs.Disk.{Files, files_of}
use Rattle.ori_volume.specs.Story.{Story, Reads, Tells, moment_of}
use Rattle.ori_volume.specs.Runs.{Run, EachImage}
use Rattle.ori_volume.proofs.Known.{tells_so}
use Rattle.ori_spec_data.specs.Base.{RecordData, TxData, EntryData, asks_commit, commit}
use Rattle.ori_spec_data.specs.Apply.{IsFormed, fresh}
use Rattle.ori_spec_data.specs.Soundness.{IsSoundBase}
use Rattle.ori_spec_data.specs.Keeping.{OpeningData, Decides, fault, bytes_with}
use Rattle.ori_spec_data.specs.Asked.{entry_on, fresh_by}
use Rattle.ori_model.specs.declared.record.Stored.{Stored}
use Rattle.ori_model.specs.declared.entry.Entry.{Entry}
use Rattle.ori_model.specs.Data.{entry_of, entries_of}
use Rattle.ori_model.specs.Standing.{PastData}
use Rattle.ori_cover.specs.Given.{HoldsPages, HoldsEither}
use Rattle.ori_rows.specs.Rows.{base_with}
use Rattle.ori_table.specs.declared.stage.Staged.{Staged}
use Rattle.ori_table.specs.Kept.{AreKept, rows_of}
use Rattle.ori_table.specs.Staged.{IsStaged, rows_with}
use Rattle.ori_paged.specs.PageRows.{begun, put_images}
use Rattle.ori_pool.specs.declared.device.Device.{Device}
use Rattle.ori_page.specs.declared.fault.PageFault.TheVariants as page
use Rattle.ori_pool.specs.declared.fault.OpFault.TheVariants as op
use Rattle.ori_turns.specs.declared.known.Known.{Known}
use Rattle.ori_turns.specs.Caches.{Cache, GivesCache, SamePages}
use Rattle.ori_turns.specs.Seats.{Seat, Told, IsTold}
use Rattle.ori_engine.specs.declared.committing.WriteFault.{WriteFault}
use Rattle.ori_engine.specs.declared.committing.WriteFault.TheVariants.{Page, Commit}
use Rattle.ori_engine.specs.Doubts.{DoubtData, doubt_of, entry_in_doubt}
use Rattle.ori_engine.specs.Safety.{KeptData, StaysSafe}
use Rattle.ori_engine.specs.CacheRows.{IsHeld, IsKeptSince, counted_in}
use Rattle.ori_engine.specs.Reopening.{told_by, past_of}
use Rattle.ori_engine.specs.Writing.{WritesPages, WritesStory, WritesCache, WritesFor, GoesOn, come_by, answers}
use Rattle.ori_engine.specs.Writing.{doubted_by}
use Rattle.ori_engine.specs.Works.{doubt_after}
use Rattle.ori_engine.specs.States.{kept_of, state_of, IsPrepared, HaltsBy}
use Rattle.ori_engine.specs.declared.doubt.Doubt.{Doubt}
use Rattle.ori_engine.specs.declared.kept.Kept.{Kept}
use Rattle.ori_engine.specs.declared.prepared.Prepared.{Prepared}
use Rattle.ori_engine.proofs.StaysSafe.{SameFeed}
use Rattle.ori_engine.proofs.Writing.{committed_safe, read_safe, doubted_safe, tended_safe, holds_put, holds_doubted}
use Rattle.ori_engine.proofs.Writing.{holds_same, sound_new}
use Rattle.ori_engine.proofs.Deciding.{asked, granted, are_fresh}
use Rattle.ori_engine.proofs.Tended.{since_on}

-- what is told of two handles
told_pair : {V : Type 0} (files : V → Option Files) (story : V → Option Story) (R : Story → Story → Type 0)
    (old new : Seat (Device V)) → is_some new.told ≡ is_some old.told
    → IsTold (λ was. IsTold (λ now. Tells R (story was.device.volume) (story now.device.volume)) new) old
    → Tells R (past_of files story old).story (past_of files story new).story
told_pair {V} files story R old new goes both = by old.told new.told goes both where
  by : (o n : Option (Told (Device V))) → is_some n ≡ is_some o
      → IfSome o (λ was. IfSome n (λ now. Tells R (story was.device.volume) (story now.device.volume)))
      → Tells R (told_by files story o).story (told_by files story n).story
  by None None goes both = refl
  by None (Some y) goes both = absurd (cc goes)
  by (Some x) None goes both = absurd (cc goes)
  by (Some x) (Some y) goes both = both

-- the entry in doubt, where its append failed
abbrev pub doubt_with : Option ℕ → EntryData → Option DoubtData → Option DoubtData
doubt_with None entry doubt = doubt
doubt_with (Some tail) entry doubt = Some (record { tail = tail; entry = entry })

module _ {V F : Type 0} (files : V → Option Files) (story : V → Option Story) (time : V → ℕ)
    (seat_of : F → Seat (Device V)) (shows : F → Cache → Type 0) (one_sharing : F → F → Type 0) (waited : F → ℕ)
    (one : (s : Story) (v : V) → story v ≡ Some s → files v ≡ Some (files_of s.now.disk))
    (counts : (s : Story) (v : V) → story v ≡ Some s → time v ≡ moment_of s)
    (told_gives : (f : F) (cache : Cache) → shows f cache → IsTold (λ told. GivesCache told.device.log
    told.device.halted (story told.device.volume) (files told.device.volume) cache) (seat_of f))
    (old new : F) (old_known new_known : Known) (count new_count : ℕ)
    (goes : is_some (seat_of new).told ≡ is_some (seat_of old).told) (kept new_kept : KeptData) (session : ℕ)
    (tx : TxData) (s : Staged) (entry : EntryData) (formed : IsFormed tx) (going : kept.halted ≡ None)
    (rows_kept : AreKept kept.rows) (staged : IsStaged kept.rows tx s)
    (entry_is : entry ≡ commit session tx (fresh (base_with kept.rows) tx)) where
  abbrev Wrote : Result ℕ WriteFault → Type 0
  Wrote result = WritesPages story time seat_of shows one_sharing waited old new count new_count old_known new_known
      s.images result

  abbrev Since : PastData → Type 0
  Since first = IsKeptSince kept (counted_in shows old old_known) count first (past_of files story (seat_of old))

  abbrev SinceNow : PastData → Type 0
  SinceNow first = IsKeptSince new_kept (counted_in shows new new_known) new_count first
      (past_of files story (seat_of new))

  abbrev Held : Type 0
  Held = IsHeld kept (counted_in shows old old_known) count

  abbrev HeldNow : Type 0
  HeldNow = IsHeld new_kept (counted_in shows new new_known) new_count

  abbrev put_to : List (List ℕ) → List (List ℕ)
  put_to pages = put_images (begun pages) s.images

  sure : (h : Held) → h.cache.doubt ≡ h.cache.pages
  sure h = h.holds.sure (h.no_doubt going)

  -- what was written, as a story tells it, and as the cache gives it
  writes : (result : Result ℕ WriteFault) → Wrote result → (h : Held)
      → Tells (WritesStory h.cache.pages (put_to h.cache.pages) result) (past_of files story (seat_of old)).story
      (past_of files story (seat_of new)).story
  writes result wrote h = told_pair files story (WritesStory h.cache.pages (put_to h.cache.pages) result) (seat_of old)
      (seat_of new) goes (wrote.story h.cache h.given (sure h) h.count_is)

  -- ---- it was committed

  module _ (moment : ℕ) (wrote : Wrote (Ok moment)) (rows : new_kept.rows ≡ rows_with kept.rows s)
      (feed : new_kept.feed ≡ kept.feed ++ entry ∷ []) (marks : new_kept.marks ≡ kept.marks ++ moment ∷ [])
      (doubt : new_kept.doubt ≡ kept.doubt) where
    moment_is : (y : Story) → (past_of files story (seat_of new)).story ≡ Some y → moment ≡ moment_of y
    moment_is y is = by (seat_of new).told wrote.moment is where
      by : (o : Option (Told (Device V))) → IfSome o (λ told. moment ≡ time told.device.volume)
          → (told_by files story o).story ≡ Some y → moment ≡ moment_of y
      by None at none = absurd (cc none)
      by (Some t) at some = at ∙ counts y t.device.volume some

    put_stays : (h : Held) → Tells (StaysSafe kept new_kept) (past_of files story (seat_of old)).story
        (past_of files story (seat_of new)).story
    put_stays h = tells_so (WritesStory h.cache.pages (put_to h.cache.pages) (Ok moment)) (StaysSafe kept new_kept)
        (past_of files story (seat_of old)).story (past_of files story (seat_of new)).story
        (λ x y was is done. λ base start safe. ⊎_elim
        (λ (whole : EachImage (HoldsPages (put_to h.cache.pages)) y.now.disk). committed_safe kept session tx s entry
        formed going rows_kept staged entry_is base start x y safe h.cache.pages h.holds.pages new_kept rows feed
        (marks ∙ ap (λ (m : ℕ). kept.marks ++ m ∷ []) (moment_is y is)) doubt done.moments whole)
        (λ (read : (put_to h.cache.pages ≡ h.cache.pages) × Reads x y). read_safe kept session tx s entry formed going
        rows_kept staged entry_is base start x y safe h.cache.pages h.holds.pages new_kept rows feed
        (marks ∙ ap (λ (m : ℕ). kept.marks ++ m ∷ []) (moment_is y is)) doubt read.0 read.1) done.whole)
        (writes (Ok moment) wrote h)

    put_keep : is_some (seat_of new).told ≡ true → Held → HeldNow
    put_keep told h = by (wrote.gives h.cache h.given (sure h) h.count_is) where
      by : ((now : Cache) × counted_in shows new new_known now × (length now.pages ≡ new_count)
          × WritesCache (put_to h.cache.pages) (Ok moment) h.cache now) → HeldNow
      by (now, given, many, put) = record {
        cache = now;
        given = given;
        count_is = many;
        holds = holds_put kept session tx s entry formed going rows_kept staged entry_is new_kept h.cache now h.holds
            rows (doubt ∙ h.no_doubt going) put.0 put.1;
        sound = subst (λ (r : List (Option RecordData)). IsSoundBase (base_with r)) (sym rows)
            (sound_new kept session tx s entry formed going rows_kept staged entry_is h.sound);
        no_doubt = λ none. doubt ∙ h.no_doubt going;
      }

    pub accepted_since : (first : PastData) → Since first → SinceNow first
    accepted_since first since = since_on files story seat_of shows one told_gives old new old_known new_known kept
        new_kept count new_count first goes put_stays put_keep since

  -- ---- it was refused

  module _ (feed : new_kept.feed ≡ kept.feed) (rows : new_kept.rows ≡ kept.rows)
      (marks : new_kept.marks ≡ kept.marks) where
    -- nothing has changed but that commits may have ended
    module _ (why : WriteFault) (wrote : Wrote (Err why)) (doubt : new_kept.doubt ≡ kept.doubt)
        (come : (pages put : List (List ℕ)) → come_by (Err why) pages put ≡ pages)
        (stay : (put : List (List ℕ)) (a b : Cache) → WritesCache put (Err why) a b → SamePages a b) where
      same : SameFeed kept new_kept
      same = record { rows = rows; feed = feed; marks = marks; doubt = doubt; halted = λ none. going }

      same_stays : (h : Held) → Tells (StaysSafe kept new_kept) (past_of files story (seat_of old)).story
          (past_of files story (seat_of new)).story
      same_stays h = tells_so (WritesStory h.cache.pages (put_to h.cache.pages) (Err why)) (StaysSafe kept new_kept)
          (past_of files story (seat_of old)).story (past_of files story (seat_of new)).story
          (λ x y was is done. λ base start safe. tended_safe base start x y kept new_kept h.cache safe rows_kept h.holds
          same (subst (λ (l : List (List ℕ)). Run (EachImage (HoldsEither h.cache.pages l)) x y)
          (come h.cache.pages (put_to h.cache.pages) ∙ sym (sure h)) done.moments))
          (writes (Err why) wrote h)

      same_keep : is_some (seat_of new).told ≡ true → Held → HeldNow
      same_keep told h = by (wrote.gives h.cache h.given (sure h) h.count_is) where
        by : ((now : Cache) × counted_in shows new new_known now × (length now.pages ≡ new_count)
            × WritesCache (put_to h.cache.pages) (Err why) h.cache now) → HeldNow
        by (now, given, many, left) = record {
          cache = now;
          given = given;
          count_is = many;
          holds = holds_same kept new_kept h.cache now h.holds same (stay (put_to h.cache.pages) h.cache now left);
          sound = subst (λ (r : List (Option RecordData)). IsSoundBase (base_with r)) (sym rows) h.sound;
          no_doubt = λ none. doubt ∙ h.no_doubt going;
        }

      same_since : (first : PastData) → Since first → SinceNow first
      same_since first since = since_on files story seat_of shows one told_gives old new old_known new_known kept
          new_kept count new_count first goes same_stays same_keep since

    -- its append failed
    module _ (tail at : ℕ) (wrote : Wrote (Err (Commit (op.Fault (Some tail))))) (halted : new_kept.halted ≡ Some at)
        (doubt : new_kept.doubt ≡ Some (record { tail = tail; entry = entry })) where
      doubt_stays : (h : Held) → Tells (StaysSafe kept new_kept) (past_of files story (seat_of old)).story
          (past_of files story (seat_of new)).story
      doubt_stays h = tells_so
          (WritesStory h.cache.pages (put_to h.cache.pages) (Err (Commit (op.Fault (Some tail)))))
          (StaysSafe kept new_kept) (past_of files story (seat_of old)).story
          (past_of files story (seat_of new)).story
          (λ x y was is done. λ base start safe. doubted_safe kept session tx s entry formed going rows_kept staged
          entry_is base start x y safe h.cache.pages h.holds.pages new_kept at rows feed marks halted
          (ap entry_in_doubt doubt) done.moments)
          (writes (Err (Commit (op.Fault (Some tail)))) wrote h)

      doubt_keep : is_some (seat_of new).told ≡ true → Held → HeldNow
      doubt_keep told h = by (wrote.gives h.cache h.given (sure h) h.count_is) where
        by : ((now : Cache) × counted_in shows new new_known now × (length now.pages ≡ new_count)
            × WritesCache (put_to h.cache.pages) (Err (Commit (op.Fault (Some tail)))) h.cache now) → HeldNow
        by (now, given, many, left) = record {
          cache = now;
          given = given;
          count_is = many;
          holds = holds_doubted kept session tx s entry formed going rows_kept staged entry_is new_kept h.cache now
              tail h.holds h.sound rows doubt left.0 left.1 left.2 (λ same. left.3 (sym left.1 ∙ same ∙ left.0));
          sound = subst (λ (r : List (Option RecordData)). IsSoundBase (base_with r)) (sym rows) h.sound;
          no_doubt = λ none. let both : Some at ≡ None = sym halted ∙ none in absurd (cc both);
        }

      doubted_since : (first : PastData) → Since first → SinceNow first
      doubted_since first since = since_on files story seat_of shows one told_gives old new old_known new_known kept
          new_kept count new_count first goes doubt_stays doubt_keep since

    pub refused_since : (why : WriteFault) → Wrote (Err why) → new_kept.halted ≡ new_known.halted
        → new_kept.doubt ≡ doubt_with (doubted_by why) entry kept.doubt → (first : PastData) → Since first
        → SinceNow first
    refused_since (Page why) wrote halted doubt = same_since (Page why) wrote doubt (λ pages put. refl)
        (λ put a b left. left)
    refused_since (Commit (op.Fault None)) wrote halted doubt = same_since (Commit (op.Fault None)) wrote doubt
        (λ pages put. refl) (λ put a b left. left)
    refused_since (Commit (op.Fault (Some tail))) wrote halted doubt =
        doubted_since tail (seat_of new).last.faults wrote (halted ∙ wrote.goes_on) doubt
    refused_since (Commit (op.Halted at)) wrote halted doubt = same_since (Commit (op.Halted at)) wrote doubt
        (λ pages put. refl) (λ put a b left. left)
    refused_since (Commit (op.Busy turn)) wrote halted doubt = same_since (Commit (op.Busy turn)) wrote doubt
        (λ pages put. refl) (λ put a b left. left)
    refused_since (Commit op.NoMemory) wrote halted doubt = same_since (Commit op.NoMemory) wrote doubt
        (λ pages put. refl) (λ put a b left. left)

-- ---- what it answers

-- the same state, where nothing has changed
state_same : (old new : Kept) (new_halted : Option ℕ) (opening : OpeningData) → new_halted ≡ None
    → new.table.0 ≡ old.table.0 → new.feed.items ≡ old.feed.items → new.doubt ≡ old.doubt
    → state_of new new_halted opening ≡ state_of old None opening
state_same old new new_halted opening halted rows feed doubt = λ i. record {
  base = Some (base_with (rows_of (rows i)));
  feed = Some (entries_of (feed i));
  in_use = Some (length (rows_of (rows i)) + 1);
  limit = None;
  front = length (feed i);
  halted = halted i;
  doubt = entry_in_doubt (option_map doubt_of (doubt i));
  opening = opening;
}

-- but that commits may have ended, and an entry may be in doubt
state_but : (old new : Kept) (new_halted : Option ℕ) (opening : OpeningData) → new.table.0 ≡ old.table.0
    → new.feed.items ≡ old.feed.items → state_of new new_halted opening
    ≡ record (state_of old None opening) { halted = new_halted; doubt = entry_in_doubt (option_map doubt_of new.doubt) }
state_but old new new_halted opening rows feed = λ i. record {
  base = Some (base_with (rows_of (rows i)));
  feed = Some (entries_of (feed i));
  in_use = Some (length (rows_of (rows i)) + 1);
  limit = None;
  front = length (feed i);
  halted = new_halted;
  doubt = entry_in_doubt (option_map doubt_of new.doubt);
  opening = opening;
}

-- the entry in doubt is that which was prepared
pub doubt_maps : (tail : Option ℕ) (entry : Entry) (old new : Option Doubt) → new ≡ doubt_after tail entry old
    → option_map doubt_of new ≡ doubt_with tail (entry_of entry) (option_map doubt_of old)
doubt_maps None entry old new is = ap (option_map doubt_of) is
doubt_maps (Some tail) entry old new is = ap (option_map doubt_of) is

module _ (old new : Kept) (session : ℕ) (tx : TxData) (p : Prepared) (opening : OpeningData)
    (prepared : IsPrepared old session tx p) (new_halted : Option ℕ) (f0 f1 l0 l1 w0 w1 : ℕ)
    (halts : HaltsBy None new_halted f0 f1 l0 l1) (rows : new.table.0 ≡ old.table.0)
    (feed : new.feed.items ≡ old.feed.items) where
  abbrev Decided : WriteFault → Type 0
  Decided why = Decides (state_of old None opening) session (asks_commit tx) (answers why)
      (state_of new new_halted opening)

  broke : (new.doubt ≡ old.doubt) ⊎ ((entry_in_doubt (option_map doubt_of new.doubt) ≡ Some (entry_of p.entry))
      × IsSome new_halted) → Decides (state_of old None opening) session (asks_commit tx) fault
      (state_of new new_halted opening)
  broke doubt = (
    granted old session tx p opening prepared,
    (
      fresh (base_with (rows_of old.table.0)) tx,
      are_fresh old tx (fresh (base_with (rows_of old.table.0)) tx) opening refl,
      record {
        same = state_but old new new_halted opening rows feed;
        halted = ⊎_elim (λ (same : (new_halted ≡ None) × (l1 ≡ l0)). inl same.0)
            (λ (ended : (None ≡ None) × (new_halted ≡ Some f1) × Rose f0 f1 × Rose l0 l1). inr (ap is_some ended.1))
            halts;
        doubt = ⊎_elim
            (λ (same : new.doubt ≡ old.doubt). inl (ap (λ (o : Option Doubt). entry_in_doubt (option_map doubt_of o))
            same))
            (λ (there : (entry_in_doubt (option_map doubt_of new.doubt) ≡ Some (entry_of p.entry))
            × IsSome new_halted). inr (there.0 ∙ ap Some prepared.entry_is, there.1)) doubt;
      },
    ),
  )

  kept_so : new_halted ≡ None → new.doubt ≡ old.doubt → state_of new new_halted opening ≡ state_of old None opening
  kept_so going doubt = state_same old new new_halted opening going rows feed doubt

  pub refuses_by : (why : WriteFault) → GoesOn (Err why) new_halted f1 → WritesFor why f0 f1 w0 w1
      → new.doubt ≡ doubt_after (doubted_by why) p.entry old.doubt → Decided why
  refuses_by (Page page.NoMemory) goes because doubt = kept_so goes doubt
  refuses_by (Page page.Device) goes because doubt =
      (asked old (asks_commit tx) opening prepared.asked, kept_so goes doubt)
  refuses_by (Page (page.Busy turn)) goes because doubt =
      (asked old (asks_commit tx) opening prepared.asked, because.0, kept_so goes doubt)
  refuses_by (Page (page.Damaged number)) goes because doubt = absurd because
  refuses_by (Page page.PagesFull) goes because doubt = absurd because
  refuses_by (Commit (op.Fault None)) goes because doubt = broke (inl doubt)
  refuses_by (Commit (op.Fault (Some tail))) goes because doubt = broke (inr
      (ap (λ (o : Option Doubt). entry_in_doubt (option_map doubt_of o)) doubt, ap is_some goes))
  refuses_by (Commit (op.Halted at)) goes because doubt = absurd because
  refuses_by (Commit (op.Busy turn)) goes because doubt =
      (asked old (asks_commit tx) opening prepared.asked, because.0, kept_so goes doubt)
  refuses_by (Commit op.NoMemory) goes because doubt = kept_so goes doubt

-- ---- places were reserved

module _ (old new : Kept) (rows : new.table.0 ≡ old.table.0) (feed : new.feed.items ≡ old.feed.items)
    (doubt : new.doubt ≡ old.doubt) where
  pub state_eq : (halted : Option ℕ) (opening : OpeningData) → state_of new halted opening
      ≡ state_of old halted opening
  state_eq halted opening = λ i. record {
    base = Some (base_with (rows_of (rows i)));
    feed = Some (entries_of (feed i));
    in_use = Some (length (rows_of (rows i)) + 1);
    limit = None;
    front = length (feed i);
    halted = halted;
    doubt = entry_in_doubt (option_map doubt_of (doubt i));
    opening = opening;
  }

  pub kept_eq : (halted : Option ℕ) → new.marks.items ≡ old.marks.items → kept_of new halted ≡ kept_of old halted
  kept_eq halted marks = λ i. record {
    rows = rows_of (rows i);
    feed = entries_of (feed i);
    marks = marks i;
    halted = halted;
    doubt = option_map doubt_of (doubt i);
  }

pub prepared_eq : (old new : Kept) → new.table.0 ≡ old.table.0 → new.feed.items ≡ old.feed.items → (session : ℕ)
    (tx : TxData) (p : Prepared) → IsPrepared old session tx p → IsPrepared new session tx p
prepared_eq old new rows feed session tx p prepared = record {
  asked = record {
    entries = subst (λ (es : List Entry). length es < MAX_FEED_ENTRIES) (sym feed) prepared.asked.entries;
    bytes = subst (λ (es : List Entry). bytes_with (entries_of es) (asks_commit tx) ≤ MAX_FEED_BYTES) (sym feed)
        prepared.asked.bytes;
  };
  staged = subst (λ (r : List (Option Stored)). IsStaged (rows_of r) tx p.staged) (sym rows) prepared.staged;
  entry_is = prepared.entry_is ∙ ap (λ (r : List (Option Stored)). entry_on (base_with (rows_of r)) session
      (asks_commit tx)) (sym rows);
  fresh_is = prepared.fresh_is ∙ ap (λ (r : List (Option Stored)). fresh_by (base_with (rows_of r)) (asks_commit tx))
      (sym rows);
  bytes_are = prepared.bytes_are ∙ ap (λ (es : List Entry). bytes_with (entries_of es) (asks_commit tx)) (sym feed);
}
