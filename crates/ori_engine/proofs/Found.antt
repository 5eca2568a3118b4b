-- What an opening finds, and what it keeps first.
use Rattle.std.proofs.Common.{◌≡◌, inl, inr, ℕ, ◌≤◌, List, [], ◌∷◌, length, Option, Some, None, IfSome, IsSomeAnd}
use Rattle.std.proofs.Common.{refl, sym, ap}
use Rattle.std.proofs.Common.{subst, option_map, arith}
use Rattle.ori_bytes.specs.declared.limits.TheConstants.{MAX_PAGES}
use Rattle.ori_volume.specs.Disk.{Files, files_of}
use Rattle.ori_volume.specs.Story.{Story}
use Rattle.ori_spec_data.specs.Base.{RecordData, BaseData}
use Rattle.ori_spec_data.specs.Soundness.{IsSoundBase}
use Rattle.ori_log.specs.Files.{files_data}
use Rattle.ori_cover.specs.Given.{HoldsPages}
use Rattle.ori_rows.specs.Rows.{AreAt, base_with}
use Rattle.ori_rows.specs.Stage.{OpensTo, IsDatabase}
use Rattle.ori_table.specs.Kept.{rows_of}
use Rattle.ori_paged.specs.PageRows.{HavePages, ArePagesOf, StandOrInitial, begun}
use Rattle.ori_paged.proofs.PageRows.{opens_pages, have_stand, begun_have, have_begun, rows_database, database_stands}
use Rattle.ori_turns.specs.Caches.{Cache, HoldNow}
use Rattle.ori_engine.specs.declared.kept.Kept.{Kept}
use Rattle.ori_engine.specs.Doubts.{DoubtData, doubt_of}
use Rattle.ori_engine.specs.CacheRows.{HoldsDoubt, IsHeld, OpenedTo}
use Rattle.ori_engine.specs.Reading.{IsNoTable}
use Rattle.ori_engine.specs.Reopening.{told_now}
use Rattle.ori_engine.specs.States.{kept_of, IsNewlyKept}

-- what was told to open to a base holds pages that stand for it
pub record FoundPages (base : BaseData) (story : Option Story) (files : Option Files) : Type 0 where
  pub pages : List (List ℕ)
  pub hold : HoldNow pages story files
  pub stand : StandOrInitial pages base
  pub sound : IsSoundBase base

in_files : (image : Files) (files : Option Files) (P : Files → Type 0) → files ≡ Some image
    → IsSomeAnd files P → P image
in_files image None P is has = absurd has
in_files image (Some x) P is has = let one : x ≡ image = cc in subst P one has

-- A story speaks of the files that are told.
pub opened_pages : (base : BaseData) (story : Option Story) (files : Option Files)
    → ((s : Story) → story ≡ Some s → files ≡ Some (files_of s.now.disk))
    → OpenedTo base (told_now files story) → FoundPages base story files
opened_pages base (Some s) files one opened =
    let opens : OpensTo (files_of s.now.disk) base = by opened in
    let found = opens_pages (files_of s.now.disk) base opens in
    record { pages = found.0; hold = found.1; stand = found.2; sound = opens.sound }
  where
    by : OpenedTo base (told_now files (Some s)) → OpensTo (files_of s.now.disk) base
    by (inl opens) = opens
    by (inr opens) = in_files (files_of s.now.disk) files (λ f. OpensTo f base) (one s refl) opens
opened_pages base None (Some f) one (inl opens) = absurd opens
opened_pages base None (Some f) one (inr opens) =
    let found = opens_pages f base opens in
    record { pages = found.0; hold = found.1; stand = found.2; sound = opens.sound }
opened_pages base None None one (inl opens) = absurd opens
opened_pages base None None one (inr opens) = absurd opens

-- what is kept first is held
pub first_held : (k : Kept) (gives : Cache → Type 0) (count : ℕ) (now : Cache) (base : BaseData) → IsNewlyKept k
    → gives now → length now.pages ≡ count → ArePagesOf (rows_of k.table.0) now.pages → now.doubt ≡ now.pages
    → base_with (rows_of k.table.0) ≡ base → IsSoundBase base → IsHeld (kept_of k None) gives count
first_held k gives count now base newly given many are sure is sound =
    let none : option_map doubt_of k.doubt ≡ None = ap (option_map doubt_of) newly.doubt in
    record {
      cache = now;
      given = given;
      count_is = many;
      holds = record {
        pages = are;
        sure = λ _. sure;
        in_doubt = subst (λ (o : Option DoubtData). IfSome o (λ d. HoldsDoubt (rows_of k.table.0) d now)) (sym none) tt;
      };
      sound = subst IsSoundBase (sym is) sound;
      no_doubt = λ going. none;
    }

-- Pages from which no table is read aren't those of a database.
pub no_database : (image : Files) (pages : List (List ℕ)) → HoldsPages pages image → length pages ≤ MAX_PAGES
    → IsNoTable (begun pages) → IsDatabase (files_data image) → ⊥
no_database image [] holds few none database =
    none (omega arith) (base_with []) (have_stand [] (begun []) tt (begun_have [] [] (inr (refl, refl))))
no_database image (page ∷ pages) holds few none database =
    let found = database_stands image database (page ∷ pages) holds in
    by found.0 found.1
  where
    by : (base : BaseData) → StandOrInitial (page ∷ pages) base → ⊥
    by base (inl stands) = none few base stands
    by base (inr initial) = omega (arith, ap length initial.0)

-- and those from which one is read are
pub is_database : (rows : List (Option RecordData)) (image : Files) (pages : List (List ℕ)) → HoldsPages pages image
    → HavePages rows (begun pages) → AreAt 0 rows → IsDatabase (files_data image)
is_database rows image pages holds has at = rows_database rows pages image holds (have_begun rows pages has) at
