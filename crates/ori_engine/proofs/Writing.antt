-- What a commit over the pages of rows leaves safe, and held.
use Rattle.std.proofs.Common.{◌≡◌, ◌⊎◌, inl, ℕ, ◌+◌, List, [], ◌∷◌, ◌++◌, length, Option, Some, None, Result, Ok}
use Rattle.std.proofs.Common.{Err, OnOk}
use Rattle.std.proofs.Common.{IfSome, sym, ap, subst, ◌∙◌}
use Rattle.ori_volume.specs.Disk.{Disk, Files, IsImage}
use Rattle.ori_volume.specs.Story.{Story, Reads, moment_of}
use Rattle.ori_volume.specs.Runs.{Run, EachImage}
use Rattle.ori_volume.proofs.RunSteps.{run_reads}
use Rattle.ori_spec_data.specs.Base.{RecordData, BaseData, TxData, EntryData, commit}
use Rattle.ori_spec_data.specs.Apply.{IsFormed, fresh, apply, apply_tx, replay}
use Rattle.ori_spec_data.specs.Refusing.{refusal}
use Rattle.ori_spec_data.specs.Soundness.{IsSoundBase}
use Rattle.ori_spec_data.proofs.Kept.{apply_sound}
use Rattle.ori_log.specs.Log.{ImageData}
use Rattle.ori_cover.specs.Given.{HoldsPages, HoldsEither}
use Rattle.ori_rows.specs.Rows.{base_with}
use Rattle.ori_rows.specs.Stage.{OpensTo}
use Rattle.ori_rows.specs.Outcomes.{put_row, put_rows}
use Rattle.ori_table.specs.declared.stage.Staged.{Staged}
use Rattle.ori_table.specs.Data.{outcomes_data, CanLay}
use Rattle.ori_table.specs.Kept.{AreKept}
use Rattle.ori_table.specs.Staged.{IsStaged, rows_with}
use Rattle.ori_paged.specs.PageRows.{ArePagesOf, begun, put_images}
use Rattle.ori_paged.proofs.OneBase.{one_of}
use Rattle.ori_paged.proofs.PageRows.{Rows, begun_have, rows_stand}
use Rattle.ori_paged.proofs.Putting.{images_written, changes_next, put_pages}
use Rattle.ori_turns.specs.Caches.{Cache, SamePages}
use Rattle.ori_engine.specs.Doubts.{DoubtData, OpensWith, entry_in_doubt}
use Rattle.ori_engine.specs.Safety.{KeptData, IsSafe, CommitsSafely}
use Rattle.ori_engine.specs.CacheRows.{HoldsDoubt, CacheHolds, IsHeld}
use Rattle.ori_engine.proofs.Held.{commits_safely, run_opens}
use Rattle.ori_engine.proofs.StaysSafe.{safe_grown, safe_doubted, safe_kept, SameFeed}

laid_kept : (xs : List (ℕ × Option RecordData)) (rows : Rows) → AreKept rows → CanLay rows xs
    → AreKept (put_rows rows xs)
laid_kept [] rows kept can = kept
laid_kept (x ∷ xs) rows kept can = laid_kept xs (put_row rows x) can.0 can.1

module _ (kept : KeptData) (session : ℕ) (tx : TxData) (s : Staged) (entry : EntryData) (formed : IsFormed tx)
    (going : kept.halted ≡ None) (rows_kept : AreKept kept.rows) (staged : IsStaged kept.rows tx s)
    (entry_is : entry ≡ commit session tx (fresh (base_with kept.rows) tx)) where
  abbrev rows : Rows
  rows = rows_with kept.rows s

  new_kept : AreKept rows
  new_kept = laid_kept (outcomes_data s.outcomes.items) kept.rows rows_kept staged.can_lay

  -- the pages of the operation
  abbrev pub put_on : List (List ℕ) → List (List ℕ)
  put_on pages = put_images (begun pages) s.images

  -- are those of the new rows
  pub put_are : (pages : List (List ℕ)) → ArePagesOf kept.rows pages → ArePagesOf rows (put_on pages)
  put_are pages are =
      let has = begun_have kept.rows pages are in
      inl (put_pages kept.rows rows s.images (begun pages) (put_on pages) staged.changes
      (images_written s.images (begun pages) (changes_next kept.rows rows s.images (length (begun pages)) staged.changes
      staged.rising has.enough)) has)

  -- ---- what is safe

  module _ (base : BaseData) (first old now : Story) (safe : IsSafe base first kept old) (pages : List (List ℕ))
      (are : ArePagesOf kept.rows pages) where
    abbrev before : BaseData
    before = replay base kept.feed

    abbrev after : BaseData
    after = apply before entry

    is_after : after ≡ apply_tx before tx
    is_after = ap (apply before) entry_is

    made : base_with rows ≡ after
    made = staged.made ∙ ap (λ (b : BaseData). apply_tx b tx) safe.rows_are ∙ sym is_after

    sound_rows : IsSoundBase (base_with kept.rows)
    sound_rows = subst IsSoundBase (sym safe.rows_are) safe.sound

    sound_after : IsSoundBase after
    sound_after =
        let allowed : refusal before tx ≡ None = subst (λ
        (b : BaseData). refusal b tx ≡ None) safe.rows_are staged.allowed in
        subst IsSoundBase (sym is_after) (apply_sound before tx safe.sound formed allowed)

    safely : (result : Result (Unit {0}) (Unit {0})) → Run (EachImage (HoldsEither pages (put_on pages))) old now
        → OnOk result (EachImage (HoldsPages (put_on pages)) now.now.disk)
        → CommitsSafely before after result old now
    safely result run whole =
        subst (λ (b : BaseData). CommitsSafely b after result old now) safe.rows_are
        (subst (λ (b : BaseData). CommitsSafely (base_with kept.rows) b result old now) made
        (commits_safely kept.rows rows pages (put_on pages) result old now are rows_kept.at sound_rows
        (put_are pages are) new_kept.at (subst IsSoundBase (sym made) sound_after) run whole))

    -- it was committed
    pub committed_safe : (new : KeptData) → new.rows ≡ rows → new.feed ≡ kept.feed ++ entry ∷ []
        → new.marks ≡ kept.marks ++ moment_of now ∷ [] → new.doubt ≡ kept.doubt
        → Run (EachImage (HoldsEither pages (put_on pages))) old now
        → EachImage (HoldsPages (put_on pages)) now.now.disk → IsSafe base first new now
    committed_safe new rows_are feed marks doubt run whole =
        safe_grown {T = Unit {0}} {E = Unit {0}} base first old now kept new entry tt safe going sound_after
        (ap base_with rows_are ∙ made) feed marks doubt (safely (Ok tt) run whole)

    -- without a page: the pages are those from before, and the volume was only read
    pub read_safe : (new : KeptData) → new.rows ≡ rows → new.feed ≡ kept.feed ++ entry ∷ []
        → new.marks ≡ kept.marks ++ moment_of now ∷ [] → new.doubt ≡ kept.doubt → put_on pages ≡ pages
        → Reads old now → IsSafe base first new now
    read_safe new rows_are feed marks doubt same reads =
        safe_grown {T = Unit {0}} {E = Unit {0}} base first old now kept new entry tt safe going sound_after
        (ap base_with rows_are ∙ made) feed marks doubt (record {
          moments = run_reads (EachImage (λ image. OpensTo image before ⊎ OpensTo image after)) old now reads;
          whole = λ image allowed. subst (λ (b : BaseData). OpensTo image b) is_same
              (opens_before image (subst (λ (d : Disk). IsImage d image) reads.disk allowed));
        })
      where
        is_same : before ≡ after
        is_same = sym safe.rows_are ∙ one_of pages (base_with kept.rows) (base_with rows)
            (rows_stand kept.rows pages rows_kept.at are) sound_rows
            (rows_stand rows pages new_kept.at (subst (λ (l : List (List ℕ)). ArePagesOf rows l) same
            (put_are pages are))) (subst IsSoundBase (sym made) sound_after) ∙ made

        opens_before : (image : Files) → IsImage old.now.disk image → OpensTo image before
        opens_before image allowed = subst (λ (o : Option EntryData). OpensWith base kept.feed o image)
            (ap entry_in_doubt (safe.no_doubt going)) (safe.whole image allowed)

    -- its append failed
    pub doubted_safe : (new : KeptData) (at : ℕ) → new.rows ≡ kept.rows → new.feed ≡ kept.feed → new.marks ≡ kept.marks
        → new.halted ≡ Some at → entry_in_doubt new.doubt ≡ Some entry
        → Run (EachImage (HoldsEither pages (put_on pages))) old now → IsSafe base first new now
    doubted_safe new at rows_are feed marks halted doubt run =
        safe_doubted {T = Unit {0}} {E = Unit {0}} base first old now kept new entry tt at safe going rows_are feed
        marks halted doubt (safely (Err tt) run tt)

  -- ---- what the cache holds

  base_after : base_with rows ≡ apply (base_with kept.rows) entry
  base_after = staged.made ∙ sym (ap (apply (base_with kept.rows)) entry_is)

  pub sound_new : IsSoundBase (base_with kept.rows) → IsSoundBase (base_with rows)
  sound_new sound = subst IsSoundBase (sym staged.made)
      (apply_sound (base_with kept.rows) tx sound formed staged.allowed)

  -- it was committed
  pub holds_put : (new : KeptData) (cache now : Cache) → CacheHolds kept cache → new.rows ≡ rows → new.doubt ≡ None
      → now.pages ≡ put_on cache.pages → now.doubt ≡ put_on cache.pages → CacheHolds new now
  holds_put new cache now holds rows_are none pages doubt = record {
    pages = subst (λ (r : Rows). ArePagesOf r now.pages) (sym rows_are)
        (subst (λ (l : List (List ℕ)). ArePagesOf rows l) (sym pages) (put_are cache.pages holds.pages));
    sure = λ _. doubt ∙ sym pages;
    in_doubt = subst (λ (o : Option DoubtData). IfSome o (λ d. HoldsDoubt new.rows d now)) (sym none) tt;
  }

  -- its append failed
  pub holds_doubted : (new : KeptData) (cache now : Cache) (tail : ℕ) → CacheHolds kept cache
      → IsSoundBase (base_with kept.rows) → new.rows ≡ kept.rows
      → new.doubt ≡ Some (record { tail = tail; entry = entry }) → now.pages ≡ cache.pages
      → now.doubt ≡ put_on cache.pages → length now.records + 1 ≡ tail → (now.doubt ≡ now.pages → ⊥)
      → CacheHolds new now
  holds_doubted new cache now tail holds sound rows_are some pages doubt counts other =
      let d : DoubtData = record { tail = tail; entry = entry } in
      record {
        pages = subst (λ (r : Rows). ArePagesOf r now.pages) (sym rows_are)
            (subst (λ (l : List (List ℕ)). ArePagesOf kept.rows l) (sym pages) holds.pages);
        sure = λ none. let both : Some d ≡ None = sym some ∙ none in absurd cc;
        in_doubt = subst (λ (o : Option DoubtData). IfSome o (λ x. HoldsDoubt new.rows x now)) (sym some)
            (subst (λ (r : Rows). HoldsDoubt r d now) (sym rows_are) (record {
              others = rows;
              pages = subst (λ (l : List (List ℕ)). ArePagesOf rows l) (sym doubt)
                  (put_are cache.pages holds.pages);
              at = new_kept.at;
              base_is = base_after;
              sound = sound_new sound;
              tail = sym counts;
              other = other;
            }));
      }

  -- ---- that it is held

  pub held_put : (gives gives_now : Cache → Type 0) (count count_now : ℕ) (new : KeptData) → IsHeld kept gives count
      → new.rows ≡ rows → new.doubt ≡ None
      → ((cache : Cache) → gives cache → length cache.pages ≡ count → (now : Cache) × gives_now now
      × (length now.pages ≡ count_now) × (now.pages ≡ put_on cache.pages) × (now.doubt ≡ put_on cache.pages))
      → IsHeld new gives_now count_now
  held_put gives gives_now count count_now new held rows_are none on =
      let step = on held.cache held.given held.count_is in
      record {
        cache = step.0;
        given = step.1;
        count_is = step.2;
        holds = holds_put new held.cache step.0 held.holds rows_are none step.3 step.4;
        sound = subst (λ (r : Rows). IsSoundBase (base_with r)) (sym rows_are) (sound_new held.sound);
        no_doubt = λ _. none;
      }

  pub held_doubted : (gives gives_now : Cache → Type 0) (count count_now : ℕ) (new : KeptData) (tail at : ℕ)
      → IsHeld kept gives count → new.rows ≡ kept.rows → new.halted ≡ Some at
      → new.doubt ≡ Some (record { tail = tail; entry = entry })
      → ((cache : Cache) → gives cache → length cache.pages ≡ count → (now : Cache) × gives_now now
      × (length now.pages ≡ count_now) × (now.pages ≡ cache.pages) × (now.doubt ≡ put_on cache.pages)
      × (length now.records + 1 ≡ tail) × (now.doubt ≡ now.pages → ⊥))
      → IsHeld new gives_now count_now
  held_doubted gives gives_now count count_now new tail at held rows_are ended some on =
      let step = on held.cache held.given held.count_is in
      record {
        cache = step.0;
        given = step.1;
        count_is = step.2;
        holds = holds_doubted new held.cache step.0 tail held.holds held.sound rows_are some step.3 step.4 step.5
            step.6;
        sound = subst (λ (r : Rows). IsSoundBase (base_with r)) (sym rows_are) held.sound;
        no_doubt = λ none. let both : Some at ≡ None = sym ended ∙ none in absurd cc;
      }

-- ---- nothing was committed

pub holds_same : (kept new : KeptData) (cache now : Cache) → CacheHolds kept cache → SameFeed kept new
    → SamePages cache now → CacheHolds new now
holds_same kept new cache now holds same pages =
    subst (λ (r : Rows). CacheHolds (record new { rows = r }) now) (sym same.rows)
    (subst (λ (o : Option DoubtData). CacheHolds (record new { rows = kept.rows; doubt = o }) now) (sym same.doubt)
    (record {
      pages = subst (λ (l : List (List ℕ)). ArePagesOf kept.rows l) (sym pages.pages) holds.pages;
      sure = λ none. pages.doubt ∙ holds.sure none ∙ sym pages.pages;
      in_doubt = by kept.doubt holds.in_doubt;
    }))
  where
    moved : (d : DoubtData) → HoldsDoubt kept.rows d cache → HoldsDoubt kept.rows d now
    moved d has = record {
      others = has.others;
      pages = subst (λ (l : List (List ℕ)). ArePagesOf has.others l) (sym pages.doubt) has.pages;
      at = has.at;
      base_is = has.base_is;
      sound = has.sound;
      tail = has.tail ∙ ap (λ (l : List (List ImageData)). length l + 1) (sym pages.records);
      other = λ same. has.other (sym pages.doubt ∙ same ∙ pages.pages);
    }

    by : (o : Option DoubtData) → IfSome o (λ d. HoldsDoubt kept.rows d cache)
        → IfSome o (λ d. HoldsDoubt kept.rows d now)
    by None has = tt
    by (Some d) has = moved d has

-- work by which each image holds the pages, or those in doubt
pub tended_safe : (base : BaseData) (first old now : Story) (kept new : KeptData) (cache : Cache)
    → IsSafe base first kept old → AreKept kept.rows → CacheHolds kept cache → SameFeed kept new
    → Run (EachImage (HoldsEither cache.pages cache.doubt)) old now → IsSafe base first new now
tended_safe base first old now kept new cache safe rows_kept holds same run =
    safe_kept base first old now kept new safe same
    (run_opens base kept cache holds rows_kept.at (subst IsSoundBase (sym safe.rows_are) safe.sound) safe.rows_are
    old now run)

pub held_same : (kept new : KeptData) (gives gives_now : Cache → Type 0) (count count_now : ℕ) → IsHeld kept gives count
    → SameFeed kept new → ((cache : Cache) → gives cache → length cache.pages ≡ count → (now : Cache) × gives_now now
    × (length now.pages ≡ count_now) × SamePages cache now) → IsHeld new gives_now count_now
held_same kept new gives gives_now count count_now held same on =
    let step = on held.cache held.given held.count_is in
    record {
      cache = step.0;
      given = step.1;
      count_is = step.2;
      holds = holds_same kept new held.cache step.0 held.holds same step.3;
      sound = subst (λ (r : List (Option RecordData)). IsSoundBase (base_with r)) (sym same.rows) held.sound;
      no_doubt = λ none. same.doubt ∙ held.no_doubt (same.halted none);
    }
