-- What the files of an engine open to again.
use Rattle.std.proofs.Common.{◌≡◌, ◌⊎◌, inl, inr, ⊎_elim, ℕ, ◌+◌, true, List, length, Option, Some, None, IfSome}
use Rattle.std.proofs.Common.{IsSome}
use Rattle.std.proofs.Common.{IsSomeAnd, is_some, refl, sym, ap, ◌∙◌, subst}
use Rattle.ori_volume.specs.declared.file.FileNo.{FileNo}
use Rattle.ori_volume.specs.declared.file.FileNo.TheVariants.{Master, LogA, LogB, Pages}
use Rattle.ori_volume.specs.Disk.{Disk, Files, files_of, of_file, AreBytes, IsImage, firm_disk}
use Rattle.ori_volume.specs.Story.{Story}
use Rattle.ori_spec_data.specs.Base.{RecordData, BaseData}
use Rattle.ori_spec_data.specs.Apply.{apply}
use Rattle.ori_spec_data.specs.Soundness.{IsSoundBase}
use Rattle.ori_log.specs.Log.{ImageData}
use Rattle.ori_log.specs.Logs.{HasTail}
use Rattle.ori_log.specs.declared.log.Log.{Log}
use Rattle.ori_cover.specs.Cover.{IsSized, IsCovered, InDoubt, Covers}
use Rattle.ori_cover.specs.Dirty.{Dirty}
use Rattle.ori_cover.specs.Given.{HoldsPages}
use Rattle.ori_cover.specs.Reading.{CoversRead}
use Rattle.ori_cover.proofs.Holding.{image_holds}
use Rattle.ori_cover.proofs.Moments.{stands_covers}
use Rattle.ori_cover.proofs.ReadLogs.{firm_sound}
use Rattle.ori_cover.proofs.ReadSteps.{stands_covers_read}
use Rattle.ori_rows.specs.Rows.{base_with}
use Rattle.ori_rows.specs.Stage.{OpensTo}
use Rattle.ori_table.specs.Kept.{AreKept}
use Rattle.ori_paged.proofs.PageRows.{pages_open}
use Rattle.ori_pool.specs.declared.device.Device.{Device}
use Rattle.ori_turns.specs.Caches.{Cache, GivesCache}
use Rattle.ori_turns.specs.Seats.{Told}
use Rattle.ori_engine.specs.Doubts.{DoubtData}
use Rattle.ori_engine.specs.Safety.{KeptData}
use Rattle.ori_engine.specs.CacheRows.{HoldsDoubt, CacheHolds}
use Rattle.ori_engine.specs.Reopening.{Reopens, told_by}

-- the tail that files have, by which the cache covers them
module _ (cache : Cache) (disk : Disk) (image : Files) (sized : IsSized disk)
    (covered : IsCovered cache.dirty cache.pages cache.records disk.pages) (allowed : IsImage disk image)
    (tail : HasTail cache.records image ⊎ InDoubt cache.dirty cache.pages cache.doubt cache.records disk.pages image)
    (kept : KeptData) (rows : AreKept kept.rows) (sound : IsSoundBase (base_with kept.rows))
    (holds : CacheHolds kept cache) where
  opens_pages : HoldsPages cache.pages image → OpensTo image (base_with kept.rows)
  opens_pages is = pages_open kept.rows cache.pages image is holds.pages rows.at sound

  tail_pages : HasTail cache.records image → HoldsPages cache.pages image
  tail_pages is = image_holds cache.pages cache.records disk image sized covered.gives allowed is

  doubt_pages : (other : InDoubt cache.dirty cache.pages cache.doubt cache.records disk.pages image)
      → HoldsPages cache.doubt image
  doubt_pages other = image_holds cache.doubt other.found disk image sized other.gives allowed other.tail

  with_doubt : (doubt : DoubtData) → HoldsDoubt kept.rows doubt cache → Reopens (base_with kept.rows) (Some doubt) image
  with_doubt doubt has = ⊎_elim
      (λ (is : HasTail cache.records image).
      inl ((length cache.records, sym has.tail, (cache.records, is, refl)), opens_pages (tail_pages is)))
      (λ (other : InDoubt cache.dirty cache.pages cache.doubt cache.records disk.pages image). ⊎_elim
      (λ (more : length other.found ≡ length cache.records + 1).
      inr (
        (other.found, other.tail, more ∙ sym has.tail),
        subst (λ (b : BaseData). OpensTo image b) has.base_is
            (pages_open has.others cache.doubt image (doubt_pages other) has.pages has.at has.sound),
      ))
      (λ (same : cache.doubt ≡ cache.pages). absurd (has.other same)) other.number)
      tail

  without : kept.doubt ≡ None → OpensTo image (base_with kept.rows)
  without none = ⊎_elim (λ (is : HasTail cache.records image). opens_pages (tail_pages is))
      (λ (other : InDoubt cache.dirty cache.pages cache.doubt cache.records disk.pages image).
      opens_pages (subst (λ (l : List (List ℕ)). HoldsPages l image) (holds.sure none) (doubt_pages other))) tail

  reopens : Reopens (base_with kept.rows) kept.doubt image
  reopens = by kept.doubt refl holds.in_doubt where
    by : (o : Option DoubtData) → kept.doubt ≡ o → IfSome o (λ d. HoldsDoubt kept.rows d cache)
        → Reopens (base_with kept.rows) o image
    by None is has = without is
    by (Some d) is has = with_doubt d has

firm_image : (files : Files) → ((file : FileNo) → AreBytes (of_file files file)) → IsImage (firm_disk files) files
firm_image files bytes Master = firm_sound files.master (bytes Master)
firm_image files bytes LogA = firm_sound files.log_a (bytes LogA)
firm_image files bytes LogB = firm_sound files.log_b (bytes LogB)
firm_image files bytes Pages = firm_sound files.pages (bytes Pages)

module _ (kept : KeptData) (rows : AreKept kept.rows) (sound : IsSoundBase (base_with kept.rows)) (cache : Cache)
    (holds : CacheHolds kept cache) where
  by_story : (s : Story) → IsImage s.now.disk (files_of s.now.disk)
      → Covers cache.dirty cache.pages cache.doubt cache.records s.now.disk
      → Reopens (base_with kept.rows) kept.doubt (files_of s.now.disk)
  by_story s read covers = reopens cache s.now.disk (files_of s.now.disk) covers.sized covers.covered read
      (covers.tail (files_of s.now.disk) read) kept rows sound holds

  by_files : (files : Files) → ((file : FileNo) → AreBytes (of_file files file))
      → CoversRead cache.dirty cache.pages cache.doubt cache.records files
      → Reopens (base_with kept.rows) kept.doubt files
  by_files files bytes covers = reopens cache (firm_disk files) files covers.sized covers.covered
      (firm_image files bytes) covers.tail kept rows sound holds

  -- the files of a device that gives the cache
  gives_reopen : (log : Option Log) (halted : Option ℕ) (story : Option Story) (files : Option Files)
      → is_some log ≡ true → ((s : Story) → story ≡ Some s → (files ≡ Some (files_of s.now.disk))
      × IsImage s.now.disk (files_of s.now.disk))
      → ((f : Files) → files ≡ Some f → (file : FileNo) → AreBytes (of_file f file))
      → GivesCache log halted story files cache → IsSomeAnd files (Reopens (base_with kept.rows) kept.doubt)
  gives_reopen None halted story files some one bytes gives = absurd (cc some)
  gives_reopen (Some log) None (Some s) files some one bytes gives =
      subst (λ (o : Option Files). IsSomeAnd o (Reopens (base_with kept.rows) kept.doubt)) (sym (one s refl).0)
      (by_story s (one s refl).1
      (stands_covers log cache.records cache.dirty cache.pages cache.doubt s.now.disk gives.stands))
  gives_reopen (Some log) (Some at) (Some s) files some one bytes gives =
      subst (λ (o : Option Files). IsSomeAnd o (Reopens (base_with kept.rows) kept.doubt)) (sym (one s refl).0)
      (by_story s (one s refl).1 gives)
  gives_reopen (Some log) None None (Some f) some one bytes gives = by_files f (bytes f refl)
      (stands_covers_read log cache.records cache.dirty cache.pages cache.doubt f gives.stands)
  gives_reopen (Some log) (Some at) None (Some f) some one bytes gives = by_files f (bytes f refl) gives
  gives_reopen (Some log) None None None some one bytes gives = absurd gives.stands
  gives_reopen (Some log) (Some at) None None some one bytes gives = absurd gives

-- and those that are told
pub told_reopen : {V : Type 0} (files : V → Option Files) (story : V → Option Story) (kept : KeptData)
    (rows : AreKept kept.rows) (sound : IsSoundBase (base_with kept.rows)) (cache : Cache)
    (holds : CacheHolds kept cache) (log : Option Log) → is_some log ≡ true
    → ((v : V) (s : Story) → story v ≡ Some s → (files v ≡ Some (files_of s.now.disk))
    × IsImage s.now.disk (files_of s.now.disk))
    → ((v : V) (f : Files) → files v ≡ Some f → (file : FileNo) → AreBytes (of_file f file))
    → (o : Option (Told (Device V))) → IfSome o (λ told. told.device.log ≡ log)
    → IfSome o (λ told. GivesCache told.device.log told.device.halted (story told.device.volume)
    (files told.device.volume) cache) → IsSome (told_by files story o).files
    → IsSomeAnd (told_by files story o).files (Reopens (base_with kept.rows) kept.doubt)
told_reopen files story kept rows sound cache holds log some one bytes None same gives told = absurd (cc told)
told_reopen files story kept rows sound cache holds log some one bytes (Some t) same gives told =
    gives_reopen kept rows sound cache holds t.device.log t.device.halted (story t.device.volume)
    (files t.device.volume) (ap is_some same ∙ some) (one t.device.volume) (bytes t.device.volume) gives
