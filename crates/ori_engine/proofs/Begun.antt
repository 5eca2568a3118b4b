-- What an opening leaves that has read the rows, or couldn't.
use Rattle.std.proofs.Common.{◌≡◌, ◌⊎◌, inl, inr, ⊎_elim, ℕ, ◌<◌, List, [], ◌∷◌, length, Option, Some, None, IfSome}
use Rattle.std.proofs.Common.{IsSome}
use Rattle.std.proofs.Common.{is_some, Result, Ok, Err, refl, sym, ap, ◌∙◌, subst}
use Rattle.ori_bytes.specs.declared.limits.TheConstants.{MAX_PAGES}
use Rattle.ori_volume.specs.declared.file.FileNo.{FileNo}
use Rattle.ori_volume.specs.declared.file.FileNo.TheVariants.{Pages}
use Rattle.ori_volume.specs.Disk.{Files, files_of, of_file, AreBytes, IsImage}
use Rattle.ori_volume.specs.Story.{Story, Tells}
use Rattle.ori_spec_data.specs.Base.{RecordData, BaseData}
use Rattle.ori_log.specs.Files.{files_data}
use Rattle.ori_model.specs.Standing.{PastData}
use Rattle.ori_overlay.specs.Over.{founded}
use Rattle.ori_pool.specs.declared.device.Device.{Device}
use Rattle.ori_rows.specs.Rows.{AreAt}
use Rattle.ori_rows.specs.Stage.{IsDatabase, head_page}
use Rattle.ori_turns.specs.declared.known.Known.{Known}
use Rattle.ori_turns.specs.declared.opening.Opening.{Opening}
use Rattle.ori_turns.specs.declared.opening.StartFault.{StartFault}
use Rattle.ori_turns.specs.declared.opening.StartFault.TheVariants.{NoMemory}
use Rattle.ori_turns.specs.Seats.{Seat, Last, IsTold}
use Rattle.ori_turns.specs.Caches.{Cache, GivesCache, SamePages}
use Rattle.ori_turns.specs.Openings.{IfTried, WasStarted}
use Rattle.ori_cache.specs.Reads.{ReadsDevice, ReadsTold}
use Rattle.ori_paged.specs.PageRows.{ArePagesOf, begun}
use Rattle.ori_engine.specs.CacheRows.{OpenedTo, counted_in}
use Rattle.ori_engine.specs.Openings.{GivesAll, LeavesBase}
use Rattle.ori_engine.specs.Reading.{IsNoTable}
use Rattle.ori_engine.specs.Reopening.{HasTailOf, past_of}
use Rattle.ori_engine.specs.Starting.{FindsRows, IsOpenSince, BreaksForm}
use Rattle.ori_engine.proofs.Founding.{TellsOne, ReadRows, NoTable, Passed, finds_so, database_so, since_so, end_so}
use Rattle.ori_engine.proofs.Founding.{tail_so, none_database, none_broken, none_changed, same_leave}
use Rattle.ori_engine.proofs.Seated.{WasTried, Same, past_with, no_past, given_so, no_table_so, left_done, told_one}
use Rattle.ori_engine.proofs.Seated.{told_read, at_told, passed_so}

-- what an operation begins with
pub founded_begun : (head : List ℕ) (pages : List (List ℕ)) → head ≡ head_page 1 → founded head pages ≡ begun pages
founded_begun head [] is = ap (λ (h : List ℕ). h ∷ []) is
founded_begun head (page ∷ pages) is = refl

-- an opening that was made was tried
pub made_tried : {A : Type 0} (opening : Opening) (P : Result Opening StartFault → Type 0)
    → ((Ok opening ≡ Err NoMemory) × A) ⊎ IfTried (Ok opening) P → P (Ok opening)
made_tried opening P (inl none) = absurd (cc none.0)
made_tried opening P (inr did) = did

-- nothing opened to a base where nothing is told
not_opened : (base : BaseData) → OpenedTo base no_past → ⊥
not_opened base (inl opens) = opens
not_opened base (inr opens) = opens

module _ {V F : Type 0} (holds : V → Option Files) (tells : V → Option Story) (time failed counted : V → ℕ)
    (seat_of : F → Seat (Device V)) (shows : F → Cache → Type 0) (one : (v : V) → TellsOne (tells v) (holds v))
    (frames mid new : F) (opening : Opening)
    (started : (cache : Cache) → shows frames cache → (now : Cache) × WasStarted opening cache now × shows mid now)
    (tried : WasTried holds tells time failed counted (seat_of frames) (seat_of mid) (Ok opening))
    (reads : Tells (ReadsTold (ReadsDevice holds tells time failed counted)) (seat_of mid).told (seat_of new).told)
  where
    abbrev Volume : Device V → PastData
    Volume = past_with holds tells time failed counted

    abbrev first : PastData
    first = past_of holds tells (seat_of frames)

    abbrev now : PastData
    now = past_of holds tells (seat_of new)

    -- of what was told, and is told now
    both_told : (P : PastData → PastData → Type 0) → is_some (seat_of mid).told ≡ is_some (seat_of frames).told
        → P no_past no_past
        → ((read : Device V) → IsSome (seat_of new).told → Same holds tells time failed counted read (seat_of new)
        → ReadsDevice holds tells time failed counted tried.1 read → P (Volume tried.0) (Volume read)) → P first now
    both_told P same none both =
        told_read holds tells time failed counted P (seat_of frames) (seat_of mid) (seat_of new) tried.0 tried.1 same
        tried.2 tried.3 reads none both

    was_told : (P : PastData → Type 0) → P no_past → P (Volume tried.0) → P first
    was_told P none some = told_one holds tells time failed counted P (seat_of frames) tried.0 tried.2 none some

    pub left_behind : is_some (seat_of mid).told ≡ is_some (seat_of frames).told
        → Tells LeavesBase first.story now.story
    left_behind same = both_told (λ a b. Tells LeavesBase a.story b.story) same (same_leave None)
        (λ read some told step. left_done opening tried.1.log (tells tried.0.volume) (tells tried.1.volume)
        (tells read.volume) tried.7 step.volume.story)

    -- ---- the rows were read

    module _ (new_known : Known) (new_count : ℕ) (rows : List (Option RecordData)) (known : new_known ≡ opening.known)
        (count : new_count ≡ opening.count)
        (read_gives : (cache : Cache) → shows mid cache → (after : Cache) × SamePages cache after × shows new after)
        (are : (cache : Cache) → shows mid cache → length cache.pages ≡ opening.count → ArePagesOf rows cache.pages)
        (at : AreAt 0 rows) (few : length rows < MAX_PAGES) where
      abbrev gives : Cache → Type 0
      gives = counted_in shows new new_known

      read_rows : ReadRows rows (shows frames) gives opening.count new_known.tail (tells tried.0.volume)
          (holds tried.0.volume)
      read_rows = record {
        one = one tried.0.volume;
        holds = tried.6.holds;
        given = given_so rows opening new_known (shows frames) (shows mid) (shows new) known started read_gives are;
        at = at;
        few = few;
      }

      pub finds_rows : GivesAll (shows frames) first → (base : BaseData) → OpenedTo base first → FindsRows rows base
      finds_rows = was_told
          (λ a. GivesAll (shows frames) a → (base : BaseData) → OpenedTo base a → FindsRows rows base)
          (λ all base opened. absurd (not_opened base opened))
          (λ all. finds_so rows (shows frames) gives opening.count new_known.tail (tells tried.0.volume)
          (holds tried.0.volume) read_rows all)

      pub is_database : GivesAll (shows frames) first → IfSome first.files (λ files. IsDatabase (files_data files))
      is_database = was_told
          (λ a. GivesAll (shows frames) a → IfSome a.files (λ files. IsDatabase (files_data files))) (λ all. tt)
          (λ all. database_so rows (shows frames) gives opening.count new_known.tail (tells tried.0.volume)
          (holds tried.0.volume) read_rows all)

      module _ (sound : (v : V) (x : Story) → tells v ≡ Some x → IsImage x.now.disk (files_of x.now.disk))
          (bytes : (v : V) (x : Files) → holds v ≡ Some x → (file : FileNo) → AreBytes (of_file x file))
          (told_gives : (f : F) (cache : Cache) → shows f cache → IsTold (λ told. GivesCache told.device.log
          told.device.halted (tells told.device.volume) (holds told.device.volume) cache) (seat_of f))
          (same : is_some (seat_of mid).told ≡ is_some (seat_of frames).told) where
        passed : (read : Device V) → IsSome (seat_of new).told
            → Same holds tells time failed counted read (seat_of new)
            → ReadsDevice holds tells time failed counted tried.1 read
            → Passed gives tried.1.log (tells tried.0.volume) (tells tried.1.volume) (tells read.volume)
            (holds tried.0.volume) (holds tried.1.volume) (holds read.volume)
        passed read some told step = passed_so holds tells time failed counted one sound bytes gives opening tried.0
            tried.1 read tried.6 tried.7 step (ap (λ (l : Last). is_some l.log) (sym tried.4) ∙ tried.5.attached)
            (ap (λ (l : Last). l.halted) (sym tried.4) ∙ tried.5.unhalted)
            (λ cache is. at_told holds tells time failed counted
            (λ d. GivesCache d.log d.halted (tells d.volume) (holds d.volume) cache) (seat_of new) read some told
            (told_gives new cache is.0))

        pub has_tail : GivesAll (shows frames) first → IfSome first.files (λ files. HasTailOf files new_known.tail)
        has_tail = both_told
            (λ a b. GivesAll (shows frames) a → IfSome a.files (λ files. HasTailOf files new_known.tail)) same
            (λ all. tt) (λ read some told step. λ all. tail_so rows (shows frames) gives opening.count new_known.tail
            tried.1.log
            (tells tried.0.volume) (tells tried.1.volume) (tells read.volume) (holds tried.0.volume)
            (holds tried.1.volume) (holds read.volume) read_rows (passed read some told step) all)

        nothing_since : IsOpenSince rows gives opening.count no_past no_past
        nothing_since = record { safe = refl; held = λ base opened. absurd (not_opened base opened) }

        pub open_since : GivesAll (shows frames) first → IsOpenSince rows gives new_count first now
        open_since = subst (λ (n : ℕ). GivesAll (shows frames) first → IsOpenSince rows gives n first now) (sym count)
            (both_told (λ a b. GivesAll (shows frames) a → IsOpenSince rows gives opening.count a b) same
            (λ all. nothing_since)
            (λ read some told step. λ all. since_so rows (shows frames) gives opening.count new_known.tail tried.1.log
            (tells tried.0.volume) (tells tried.1.volume) (tells read.volume) (holds tried.0.volume)
            (holds tried.1.volume) (holds read.volume) read_rows (passed read some told step) all))

        pub open_at : GivesAll (shows frames) first → IsOpenSince rows gives new_count now now
        open_at = subst (λ (n : ℕ). GivesAll (shows frames) first → IsOpenSince rows gives n now now) (sym count)
            (both_told (λ a b. GivesAll (shows frames) a → IsOpenSince rows gives opening.count b b) same
            (λ all. nothing_since)
            (λ read some told step. λ all. end_so rows (shows frames) gives opening.count new_known.tail tried.1.log
            (tells tried.0.volume) (tells tried.1.volume) (tells read.volume) (holds tried.0.volume)
            (holds tried.1.volume) (holds read.volume) read_rows (passed read some told step) all))

    -- ---- they are no table

    module _ (none : (cache : Cache) → shows mid cache → length cache.pages ≡ opening.count
        → IsNoTable (begun cache.pages)) where
      no_table : NoTable (shows frames) opening.count (tells tried.0.volume) (holds tried.0.volume)
      no_table = record {
        one = one tried.0.volume;
        holds = tried.6.holds;
        none = no_table_so opening (shows frames) (shows mid) started none;
      }

      pub no_database_is : GivesAll (shows frames) first
          → IfSome first.files (λ files. IsDatabase (files_data files) → ⊥)
      no_database_is = was_told
          (λ a. GivesAll (shows frames) a → IfSome a.files (λ files. IsDatabase (files_data files) → ⊥)) (λ all. tt)
          (λ all. none_database (shows frames) opening.count (tells tried.0.volume) (holds tried.0.volume) no_table all)

      pub breaks_form : (file : FileNo) → file ≡ Pages → IfSome first.files (λ files. BreaksForm files file)
      breaks_form file is = subst (λ (n : FileNo). IfSome first.files (λ files. BreaksForm files n)) (sym is)
          (was_told (λ a. IfSome a.files (λ files. BreaksForm files Pages)) tt
          (none_broken (shows frames) opening.count (tells tried.0.volume) (holds tried.0.volume) no_table))

      pub files_stay : is_some (seat_of mid).told ≡ is_some (seat_of frames).told → GivesAll (shows frames) first
          → now.files ≡ first.files
      files_stay same = both_told (λ a b. GivesAll (shows frames) a → b.files ≡ a.files) same (λ all. refl)
          (λ read some told step. λ all. step.volume.files
          ∙ none_changed (shows frames) opening.count (tells tried.0.volume) (holds tried.0.volume) no_table all
          (holds tried.1.volume) tried.6.kept)
