-- What crashes leave while the cache holds the pages of rows.
use Rattle.std.proofs.Common.{◌≡◌, ◌⊎◌, ⊎_elim, inl, inr, ℕ, List, Option, Some, None, Result, OnOk, IfSome, Ok, Err}
use Rattle.std.proofs.Common.{refl, ap, subst, ◌∙◌}
use Rattle.ori_volume.specs.Disk.{Files}
use Rattle.ori_volume.specs.Story.{Story}
use Rattle.ori_volume.specs.Runs.{Run, EachImage}
use Rattle.ori_volume.proofs.RunSteps.{run_weaker}
use Rattle.ori_spec_data.specs.Base.{BaseData}
use Rattle.ori_spec_data.specs.Apply.{apply, replay}
use Rattle.ori_spec_data.specs.Soundness.{IsSoundBase}
use Rattle.ori_cover.specs.Given.{HoldsPages, HoldsEither}
use Rattle.ori_cover.proofs.Moments.{either_same}
use Rattle.ori_rows.specs.Rows.{AreAt, base_with}
use Rattle.ori_rows.specs.Stage.{OpensTo}
use Rattle.ori_paged.specs.PageRows.{ArePagesOf}
use Rattle.ori_paged.proofs.PageRows.{Rows, pages_open}
use Rattle.ori_turns.specs.Caches.{Cache}
use Rattle.ori_engine.specs.Doubts.{DoubtData, entry_in_doubt, OpensWith}
use Rattle.ori_engine.specs.Safety.{KeptData, CommitsSafely}
use Rattle.ori_engine.specs.CacheRows.{HoldsDoubt, CacheHolds}

-- ---- a commit

-- Images that hold the pages of rows, or those of new ones, open to the base with these or with those.
pub commits_safely : {T E : Type 0} (rows new : Rows) (pages put : List (List ℕ)) (result : Result T E)
    (old now : Story)
    → ArePagesOf rows pages → AreAt 0 rows → IsSoundBase (base_with rows)
    → ArePagesOf new put → AreAt 0 new → IsSoundBase (base_with new)
    → Run (EachImage (HoldsEither pages put)) old now → OnOk result (EachImage (HoldsPages put) now.now.disk)
    → CommitsSafely (base_with rows) (base_with new) result old now
commits_safely {T} {E} rows new pages put result old now are at sound are_new at_new sound_new run whole = record {
  moments = run_weaker (EachImage (HoldsEither pages put)) (EachImage (λ image. OpensTo image
      (base_with rows) ⊎ OpensTo image (base_with new))) old now (λ disk either image allowed.
      ⊎_elim (λ (was : HoldsPages pages image). inl (pages_open rows pages image was are at sound))
      (λ (is : HoldsPages put image). inr (pages_open new put image is are_new at_new sound_new))
      (either image allowed)) run;
  whole = by result whole;
} where
  by : (r : Result T E) → OnOk r (EachImage (HoldsPages put) now.now.disk)
      → OnOk r (EachImage (λ image. OpensTo image (base_with new)) now.now.disk)
  by (Ok x) holds = λ image allowed. pages_open new put image (holds image allowed) are_new at_new sound_new
  by (Err e) holds = tt

-- ---- work on the homes and the log

-- what an image of the cache opens to
module _ (base : BaseData) (kept : KeptData) (cache : Cache) (holds : CacheHolds kept cache) (at : AreAt 0 kept.rows)
    (sound : IsSoundBase (base_with kept.rows)) (rows_are : base_with kept.rows ≡ replay base kept.feed) where
  opens_all : (image : Files) → HoldsPages cache.pages image → OpensTo image (replay base kept.feed)
  opens_all image is = subst (λ (b : BaseData). OpensTo image b) rows_are
      (pages_open kept.rows cache.pages image is holds.pages at sound)

  opens_doubt : (doubt : DoubtData) → HoldsDoubt kept.rows doubt cache → (image : Files)
      → HoldsPages cache.doubt image → OpensTo image (apply (replay base kept.feed) doubt.entry)
  opens_doubt doubt has image is =
      let there : base_with has.others ≡ apply (replay base kept.feed) doubt.entry =
      has.base_is ∙ ap (λ (b : BaseData). apply b doubt.entry) rows_are in
      subst (λ (b : BaseData). OpensTo image b) there
      (pages_open has.others cache.doubt image is has.pages has.at has.sound)

  pub opens_with : (image : Files) → HoldsEither cache.pages cache.doubt image
      → OpensWith base kept.feed (entry_in_doubt kept.doubt) image
  opens_with image either = by kept.doubt refl either where
    by : (o : Option DoubtData) → kept.doubt ≡ o → HoldsEither cache.pages cache.doubt image
        → OpensWith base kept.feed (entry_in_doubt o) image
    by None none e =
        let same : HoldsEither cache.pages cache.pages image =
        subst (λ (l : List (List ℕ)). HoldsEither cache.pages l image) (holds.sure none) e in
        opens_all image (either_same cache.pages image same)
    by (Some doubt) some (inl is) = inl (opens_all image is)
    by (Some doubt) some (inr is) = inr (opens_doubt doubt (in_doubt doubt some) image is) where
      in_doubt : (d : DoubtData) → kept.doubt ≡ Some d → HoldsDoubt kept.rows d cache
      in_doubt d some = if_some kept.doubt holds.in_doubt d some where
        if_some : (o : Option DoubtData) → IfSome o (λ x. HoldsDoubt kept.rows x cache) → (d : DoubtData)
            → o ≡ Some d → HoldsDoubt kept.rows d cache
        if_some None has d some = absurd cc
        if_some (Some x) has d some = let one : x ≡ d = cc in
            subst (λ (y : DoubtData). HoldsDoubt kept.rows y cache) one has

  pub run_opens : (old now : Story) → Run (EachImage (HoldsEither cache.pages cache.doubt)) old now
      → Run (EachImage (OpensWith base kept.feed (entry_in_doubt kept.doubt))) old now
  run_opens old now run = run_weaker (EachImage (HoldsEither cache.pages cache.doubt))
      (EachImage (OpensWith base kept.feed (entry_in_doubt kept.doubt))) old now
      (λ disk either image allowed. opens_with image (either image allowed)) run
