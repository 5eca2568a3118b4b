-- What an engine's state says, and what its counts are.
use Rattle.std.proofs.Common.{◌≡◌, inl, inr, ℕ, ◌+◌, ◌<◌, ◌≤◌, true, List, [], ◌∷◌, ◌++◌, length, Option, Some, None}
use Rattle.std.proofs.Common.{option_map, IsSome, refl, sym, ap, ◌∙◌, subst, arith}
use Rattle.std.specs.Option.{ForSome}
use Rattle.ori_bytes.specs.declared.causes.Causes.{Causes}
use Rattle.ori_volume.specs.Causes.{Rose}
use Rattle.ori_volume.specs.Disk.{Disk}
use Rattle.ori_volume.specs.Story.{Story, Tells, disks, moment_of}
use Rattle.ori_volume.proofs.Known.{tells_map, tells_then}
use Rattle.ori_volume.specs.Runs.{EachImage}
use Rattle.ori_spec_data.specs.Base.{RecordData, BaseData, EntryData}
use Rattle.ori_spec_data.specs.Views.{are_real}
use Rattle.ori_spec_data.specs.Keeping.{OpeningData, DecisionData, accepted, halted_at, feed_full, refused}
use Rattle.ori_spec_data.specs.Keeping.{pages_full, log_full, fault, device, busy, damaged, no_memory, counted}
use Rattle.ori_spec_crash.proofs.Marks.{moments_added}
use Rattle.ori_rows.specs.Rows.{records_of, AreAt, base_with}
use Rattle.ori_rows.specs.Stage.{OpensTo}
use Rattle.ori_table.specs.Kept.{rows_of}
use Rattle.ori_model.specs.declared.entry.Entry.{Entry}
use Rattle.ori_model.specs.Data.{entries_of}
use Rattle.ori_engine.specs.declared.doubt.Doubt.{Doubt}
use Rattle.ori_engine.specs.declared.kept.Kept.{Kept}
use Rattle.ori_engine.specs.KeeperLaws.{entries_length}
use Rattle.ori_engine.specs.Doubts.{doubt_of, entry_in_doubt, OpensWith}
use Rattle.ori_engine.specs.Safety.{KeptData, SafeSince, StaysSafe}
use Rattle.ori_engine.specs.Reopening.{LeavesAll, OpensWhole}
use Rattle.ori_engine.specs.States.{kept_of, state_of, IsNewlyKept, HaltsBy, IsWhole}
use Rattle.ori_engine.specs.Openings.{IsFresh, IsKeptState, Survives, troubles_of, HasRisenBy}

-- ---- stories

-- what is safe since an earlier moment stays so
pub safe_on : (old new : KeptData) (first story now : Option Story) → Tells (SafeSince old) first story
    → Tells (StaysSafe old new) story now → Tells (SafeSince new) first now
safe_on old new first story now since stays = tells_then (SafeSince old) (StaysSafe old new) (SafeSince new) first story
    now (λ x y z was goes. λ base opens. goes base x (was base opens)) since stays

-- what is safe survives
pub survives_so : (kept : KeptData) (first now : Option Story) → Tells (SafeSince kept) first now
    → Tells (Survives kept.feed (entry_in_doubt kept.doubt) kept.marks) first now
survives_so kept first now safe = tells_map _ _ _ _ (λ x y was safe. λ base opens. (safe base opens).crash) safe

-- and a crash leaves it whole now
pub leaves_so : (k : Kept) (halted : Option ℕ) (opening : OpeningData) (first now : Option Story)
    → Tells (SafeSince (kept_of k halted)) first now
    → Tells (LeavesAll (state_of k halted opening) (entries_of k.feed.items)) first now
leaves_so k halted opening first now safe = tells_map _ _ _ _ (λ x y was safe. λ base opens. record {
  base_is = ap Some (safe base opens).rows_are;
  images = (safe base opens).whole;
}) safe

-- all of what is kept first
whole_first : (kept : KeptData) (base : BaseData) (now : Story) → kept.feed ≡ [] → kept.doubt ≡ None
    → EachImage (OpensWith base kept.feed (entry_in_doubt kept.doubt)) now.now.disk
    → EachImage (λ image. OpensTo image base) now.now.disk
whole_first kept base now feed doubt whole =
    subst (λ (l : List EntryData). EachImage (OpensWith base l None) now.now.disk) feed
    (subst (λ (o : Option EntryData). EachImage (OpensWith base kept.feed o) now.now.disk) (ap entry_in_doubt doubt)
    whole)

pub whole_so : (k : Kept) (halted : Option ℕ) (first now : Option Story) → IsNewlyKept k
    → Tells (SafeSince (kept_of k halted)) first now → Tells OpensWhole first now
whole_so k halted first now newly safe = tells_map _ _ _ _ (λ x y was safe. λ base opens. (
  later_so x y (safe base opens).crash.added (safe base opens).crash.goes_on,
  whole_first (kept_of k halted) base y (ap entries_of newly.feed) (ap (option_map doubt_of) newly.doubt)
      (safe base opens).whole,
)) safe
  where
    later_so : (x y : Story) (added : List Disk) → disks y ≡ added ++ disks x → moment_of x ≤ moment_of y
    later_so x y added goes_on = omega (arith, moments_added x y added goes_on)

-- ---- the state

pub fresh_so : (k : Kept) (opening : OpeningData) → IsNewlyKept k → IsFresh (state_of k None opening)
fresh_so k opening h = record {
  feed = ap (λ (es : List Entry). Some (entries_of es)) h.feed;
  front = ap length h.feed;
  halted = refl;
  doubt = ap (λ (o : Option Doubt). entry_in_doubt (option_map doubt_of o)) h.doubt;
}

-- records in their places have real identifiers
real_at : (p : ℕ) (rows : List (Option RecordData)) → AreAt p rows → are_real (records_of rows) ≡ true
real_at p [] h = refl
real_at p (None ∷ rows) h = real_at (p + 1) rows h
real_at p (Some r ∷ rows) h = rw (h.0) (real_at (p + 1) rows h.1)

is_there : (o : Option Doubt) → IsSome (entry_in_doubt (option_map doubt_of o)) → IsSome o
is_there None h = absurd (cc h)
is_there (Some doubt) h = refl

pub kept_state : (k : Kept) (halted : Option ℕ) (opening : OpeningData) (causes : Causes)
    → AreAt 0 (rows_of k.table.0) → (IsSome k.doubt → IsSome halted) → causes.damaged ≡ 0
    → IsKeptState (state_of k halted opening) causes
kept_state k halted opening causes at doubts inside = record {
  base = base_with (rows_of k.table.0);
  base_is = refl;
  real = real_at 0 (rows_of k.table.0) at;
  in_use_is = refl;
  feed = entries_of k.feed.items;
  feed_is = refl;
  front_is = sym (entries_length k.feed.items);
  limit_is = refl;
  doubted = λ some. doubts (is_there k.doubt some);
  inside = inside;
}

-- ---- causes

pub whole_on : (d : DecisionData) (causes : Causes) → IsWhole d → causes.damaged ≡ 0 → (counted d causes).damaged ≡ 0
whole_on (accepted place rids) causes is h = h
whole_on (halted_at at) causes is h = h
whole_on (feed_full entries bytes) causes is h = h
whole_on (refused why) causes is h = h
whole_on (pages_full n heavy) causes is h = h
whole_on (log_full need room) causes is h = h
whole_on fault causes is h = h
whole_on device causes is h = h
whole_on (busy turn) causes is h = h
whole_on (damaged page) causes is h = absurd is
whole_on no_memory causes is h = h

-- so often Device or Fault was answered as calls failed
pub troubled_on : (d : DecisionData) (causes : Causes) (opened old new : ℕ) → old ≤ new
    → (d ≡ fault → Rose old new) → (d ≡ device → Rose old new) → HasRisenBy (troubles_of causes) opened old
    → HasRisenBy (troubles_of (counted d causes)) opened new
troubled_on fault causes opened old new later rose read h = let r = rose refl in omega (arith, r, h, later)
troubled_on device causes opened old new later rose read h = let r = read refl in omega (arith, r, h, later)
troubled_on (accepted place rids) causes opened old new later rose read h = omega (arith, h, later)
troubled_on (halted_at at) causes opened old new later rose read h = omega (arith, h, later)
troubled_on (feed_full entries bytes) causes opened old new later rose read h = omega (arith, h, later)
troubled_on (refused why) causes opened old new later rose read h = omega (arith, h, later)
troubled_on (pages_full n heavy) causes opened old new later rose read h = omega (arith, h, later)
troubled_on (log_full need room) causes opened old new later rose read h = omega (arith, h, later)
troubled_on (busy turn) causes opened old new later rose read h = omega (arith, h, later)
troubled_on (damaged page) causes opened old new later rose read h = omega (arith, h, later)
troubled_on no_memory causes opened old new later rose read h = omega (arith, h, later)

-- Busy was answered only where a take has found its turn held
pub waited_on : (d : DecisionData) (causes : Causes) (old new : ℕ) → old ≤ new
    → ((turn : ℕ) → d ≡ busy turn → Rose old new) → (0 < causes.busy → 0 < old) → 0 < (counted d causes).busy → 0 < new
waited_on (busy turn) causes old new later rose h some = let r = rose turn refl in omega (arith, r)
waited_on (accepted place rids) causes old new later rose h some = let w = h some in omega (arith, w, later)
waited_on (halted_at at) causes old new later rose h some = let w = h some in omega (arith, w, later)
waited_on (feed_full entries bytes) causes old new later rose h some = let w = h some in omega (arith, w, later)
waited_on (refused why) causes old new later rose h some = let w = h some in omega (arith, w, later)
waited_on (pages_full n heavy) causes old new later rose h some = let w = h some in omega (arith, w, later)
waited_on (log_full need room) causes old new later rose h some = let w = h some in omega (arith, w, later)
waited_on fault causes old new later rose h some = let w = h some in omega (arith, w, later)
waited_on device causes old new later rose h some = let w = h some in omega (arith, w, later)
waited_on (damaged page) causes old new later rose h some = let w = h some in omega (arith, w, later)
waited_on no_memory causes old new later rose h some = let w = h some in omega (arith, w, later)

-- ---- the end of commits

pub went_on : (old new : Option ℕ) (faults now log log_now : ℕ) → HaltsBy old new faults now log log_now → new ≡ None
    → old ≡ None
went_on old new faults now log log_now (inl (same, log_same)) none = sym same ∙ none
went_on old new faults now log log_now (inr (was, ended, rose, log_rose)) none = was

pub halts_on : (old new : Option ℕ) (opened faults now log_opened log log_now : ℕ) → faults ≤ now → opened ≤ faults
    → log_opened ≤ log → HaltsBy old new faults now log log_now
    → ForSome old (λ at. Rose opened at × (at ≤ faults) × Rose log_opened log)
    → ForSome new (λ at. Rose opened at × (at ≤ now) × Rose log_opened log_now)
halts_on old new opened faults now log_opened log log_now later before log_before (inl
    (same, log_same)) halts = λ at is.
    let was = halts at (sym same ∙ is) in
    (was.0, omega (arith, was.1, later), subst (Rose log_opened) (sym log_same) was.2)
halts_on old new opened faults now log_opened log log_now later before log_before (inr
    (going, ended, rose, log_rose)) halts =
    λ at is.
    let both : Some now ≡ Some at = sym ended ∙ is in
    let one : now ≡ at = cc in
    (omega (arith, rose, before, one), omega (arith, one), omega (arith, log_rose, log_before))

pub goes_on : (old new : Option ℕ) (faults now log_opened log log_now : ℕ) → HaltsBy old new faults now log log_now
    → (old ≡ None → log ≡ log_opened) → new ≡ None → log_now ≡ log_opened
goes_on old new faults now log_opened log log_now (inl (same, log_same)) going none = log_same ∙ going (sym same ∙ none)
goes_on old new faults now log_opened log log_now (inr (was, ended, rose, log_rose)) going none =
    let both : Some now ≡ None = sym ended ∙ none in
    absurd (cc both)
