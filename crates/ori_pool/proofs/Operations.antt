-- What a commit does, from what its steps do, in either view of the volume.
use Rattle.std.proofs.Common.{◌≡◌, ℕ, ◌+◌, Bool, true, false, cond, List, []}
use Rattle.std.proofs.Common.{Option, Some, None, Result, Ok, Err, IsSome, IfSome, refl, sym, ap, subst, ◌∙◌}
use Rattle.ori_volume.specs.Story.{Tells}
use Rattle.ori_volume.proofs.Known.{tells_map, tells_then, tells_same, some_then}
use Rattle.ori_log.specs.Log.{ImageData}
use Rattle.ori_log.specs.declared.log.Log.{Log}
use Rattle.ori_part.specs.Parts.{PartData}
use Rattle.ori_cover.specs.Dirty.{Dirty, AreInstalled}
use Rattle.ori_cover.specs.Views.{View}
use Rattle.ori_cover.proofs.Views.{Laws, RecordPuts}
use Rattle.ori_pool.specs.declared.fault.OpFault.{OpFault}
use Rattle.ori_pool.specs.declared.fault.OpFault.TheVariants.{Fault, NoMemory}
use Rattle.ori_pool.specs.declared.fault.TendFault.{TendFault}
use Rattle.ori_pool.specs.declared.fault.TendFault.TheVariants as tend
use Rattle.ori_pool.specs.Devices.{OnLog, Puts, is_due, kept_tail, op_of}
use Rattle.ori_pool.specs.Finishes.{Checkpoints}
use Rattle.ori_pool.specs.Commits.{Commits, MakesRoom, LeavesRoom, left_in, doubt_of, records_after}
use Rattle.ori_pool.specs.Held.{dirty_with}

pub on_map : (P Q : Log → Log → Type 0) → ((l m : Log) → P l m → Q l m) → (a b : Option Log) → OnLog P a b → OnLog Q a b
on_map P Q step (Some l) (Some m) holds = step l m holds
on_map P Q step (Some l) None holds = holds
on_map P Q step None b holds = holds

on_then : (P Q R : Log → Log → Type 0) → ((l m n : Log) → P l m → Q m n → R l n) → (a b c : Option Log)
    → OnLog P a b → OnLog Q b c → OnLog R a c
on_then P Q R step (Some l) (Some m) (Some n) first second = step l m n first second
on_then P Q R step (Some l) (Some m) None first second = second
on_then P Q R step (Some l) None c first second = absurd first
on_then P Q R step None b c first second = absurd first

pub on_same : (P : Log → Log → Type 0) (a b : Option Log) → IsSome a → b ≡ a → ((l : Log) → P l l) → OnLog P a b
on_same P None b some same step = cc
on_same P (Some l) b some same step = subst (λ (o : Option Log). OnLog P (Some l) o) (sym same) (step l)

-- ---- room for the record

module _ {S : Type 0} (view : View S) (laws : Laws view) where
  -- no checkpoint is due
  pub room_there : (F : Type 0) (log : Option Log) (hand : List (Option PartData)) (halted : Option ℕ)
      (a : Option S) → IsSome log → IfSome log (λ l. is_due l ≡ false)
      → Tells (MakesRoom {T = Unit {0}} {E = F} view log log hand hand halted (Ok tt)) a a
  room_there F None hand halted a some not_due = cc
  room_there F (Some l) hand halted a some not_due =
      tells_same _ a a
      (λ x others pages records stands. record {
        moments = laws.holds_at pages x;
        done = subst (λ (b : Bool). view.stands l (cond b [] records) (dirty_with others hand) pages x)
            (sym not_due) stands;
        failed = tt;
        unhalted = tt;
      }) refl

  pub room_made : (F : Type 0) (old_log new_log : Option Log) (old_hand new_hand : List (Option PartData))
      (halted : Option ℕ) (moment : ℕ) (a b : Option S) → IfSome old_log (λ l. is_due l ≡ true)
      → Tells (Checkpoints {T = ℕ} {E = F} view old_log new_log old_hand new_hand halted (Ok moment)) a b
      → Tells (MakesRoom {T = Unit {0}} {E = F} view old_log new_log old_hand new_hand halted (Ok tt)) a b
  room_made F (Some l) (Some m) old_hand new_hand halted moment a b due told =
      tells_map _ _ a b
      (λ x y known c others pages records stands.
      let f = c others pages records stands in
      record {
        moments = f.moments;
        done = subst (λ (b : Bool). view.stands m (cond b [] records) (dirty_with others new_hand) pages y)
            (sym due) f.done;
        failed = tt;
        unhalted = tt;
      }) told
  room_made F (Some l) None old_hand new_hand halted moment a b due told =
      tells_map _ _ a b (λ x y known c others. c others) told
  room_made F None new_log old_hand new_hand halted moment a b due told =
      tells_map _ _ a b (λ x y known c others. c others) told

  pub room_unmade : (F : Type 0) (old_log new_log : Option Log) (old_hand new_hand : List (Option PartData))
      (halted : Option ℕ) (why : F) (a b : Option S)
      → Tells (Checkpoints {T = ℕ} {E = F} view old_log new_log old_hand new_hand halted (Err why)) a b
      → Tells (MakesRoom {T = Unit {0}} {E = F} view old_log new_log old_hand new_hand halted (Err why)) a b
  room_unmade F old_log new_log old_hand new_hand halted why a b told =
      tells_map _ _ a b
      (λ x y known c others. on_map _ _
      (λ l m f pages records stands.
      let e = f pages records stands in
      record { moments = e.moments; done = tt; failed = e.failed; unhalted = e.unhalted }) old_log new_log (c others))
      told

  -- ---- the record

  module _ (images : List ImageData) (old_log mid_log new_log : Option Log)
      (old_hand mid_hand new_hand : List (Option PartData)) (mid_halted halted : Option ℕ) (a b c : Option S) where
    pub commits_done : (T E G : Type 0) (value moment : T)
        → ((others : Dirty) → AreInstalled images (dirty_with others mid_hand) (dirty_with others new_hand))
        → Tells (MakesRoom {T = Unit {0}} {E = G} view old_log mid_log old_hand mid_hand mid_halted (Ok tt)) a b
        → Tells (Puts {T = T} {E = E} (RecordPuts view) mid_log new_log images (Ok value)) b c
        → Tells (Commits {T = T} view old_log new_log old_hand new_hand images halted (Ok moment)) a c
    commits_done T E G value moment installed first second =
        tells_then _ _ _ a b c
        (λ x y z rooms puts others. on_then _ _ _
        (λ l m n room p pages put records stands are_put.
        let r = room pages records stands in
        let w = p (dirty_with others mid_hand) pages put (left_in l records) r.done are_put in
        record {
          moments = laws.either_then pages put x y z (laws.either_of pages put x y r.moments) w.moments;
          done = w.done (dirty_with others new_hand) (installed others);
          failed = tt;
          unhalted = tt;
        }) old_log mid_log new_log (rooms others) puts)
        first second

    pub commits_unput : (T E G : Type 0) (why : E) (refusal : OpFault) (doubt : ℕ) → refusal ≡ Fault (Some doubt)
        → (halted ≡ None → ⊥) → new_hand ≡ mid_hand
        → Tells (MakesRoom {T = Unit {0}} {E = G} view old_log mid_log old_hand mid_hand mid_halted (Ok tt)) a b
        → Tells (Puts {T = T} {E = E} (RecordPuts view) mid_log new_log images (Err why)) b c
        → Tells (Commits {T = T} view old_log new_log old_hand new_hand images halted (Err refusal)) a c
    commits_unput T E G why refusal doubt is halts same first second =
        subst (λ (r : OpFault). Tells (Commits {T = T} view old_log new_log old_hand new_hand images halted (Err r)) a
        c) (sym is)
        (subst (λ hand. Tells (Commits {T = T} view old_log new_log old_hand hand images halted
        (Err (Fault (Some doubt)))) a c)
        (sym same)
        (tells_then _ (Puts (RecordPuts view) mid_log new_log images (Err why))
        (Commits view old_log new_log old_hand mid_hand images halted (Err (Fault (Some doubt)))) a b c
        (λ x y z rooms puts others. on_then _ _ _
        (λ l m n room p pages put records stands are_put.
        let r = room pages records stands in
        let w = p (dirty_with others mid_hand) pages put (left_in l records) r.done are_put in
        record {
          moments = laws.either_then pages put x y z (laws.either_of pages put x y r.moments) w.moments;
          done = tt;
          failed = w.failed;
          unhalted = λ none. absurd (halts none);
        }) old_log mid_log new_log (rooms others) puts)
        first second))

  -- a checkpoint leaves nothing in doubt
  module _ (pages put : List (List ℕ)) (left records : List (List ImageData)) (now : Dirty) (x : S) where
    unmade_covers : (why : TendFault) → view.covers now pages pages records x
        → view.covers now pages (doubt_of (op_of why) pages put) (records_after (op_of why) left records) x
    unmade_covers tend.Fault covers = covers
    unmade_covers (tend.Halted at_fault) covers = covers
    unmade_covers (tend.Busy turn) covers = covers

    unmade_either : (y : S) (why : TendFault) → view.either pages pages x y
        → view.either pages (doubt_of (op_of why) pages put) x y
    unmade_either y tend.Fault either = either
    unmade_either y (tend.Halted at_fault) either = either
    unmade_either y (tend.Busy turn) either = either

  pub commits_unmade : (T : Type 0) (images : List ImageData) (old_log new_log : Option Log)
      (old_hand new_hand : List (Option PartData)) (halted : Option ℕ) (why : TendFault) (refusal : OpFault)
      (a b : Option S) → refusal ≡ op_of why
      → Tells (MakesRoom {T = Unit {0}} {E = TendFault} view old_log new_log old_hand new_hand halted (Err why)) a b
      → Tells (Commits {T = T} view old_log new_log old_hand new_hand images halted (Err refusal)) a b
  commits_unmade T images old_log new_log old_hand new_hand halted why refusal a b is told =
      subst (λ (r : OpFault). Tells (Commits {T = T} view old_log new_log old_hand new_hand images halted (Err r)) a b)
      (sym is)
      (tells_map _ _ a b
      (λ x y known rooms others. on_map _ _
      (λ l m room pages put records stands are_put.
      let r = room pages records stands in
      record {
        moments = unmade_either pages put (left_in l records) records (dirty_with others new_hand) x y why
            (laws.either_of pages pages x y r.moments);
        done = tt;
        failed = unmade_covers pages put (left_in l records) records (dirty_with others new_hand) y why r.failed;
        unhalted = r.unhalted;
      }) old_log new_log (rooms others))
      told)

  -- ---- places that were made first

  pub commits_reserved : {T : Type 0} (images : List ImageData) (old_log new_log : Option Log)
      (old_hand mid_hand new_hand : List (Option PartData)) (halted : Option ℕ) (result : Result T OpFault)
      (a b : Option S)
      → ((others : Dirty) (q : ℕ) → dirty_with others mid_hand q ≡ dirty_with others old_hand q)
      → Tells (Commits view old_log new_log mid_hand new_hand images halted result) a b
      → Tells (Commits view old_log new_log old_hand new_hand images halted result) a b
  commits_reserved images old_log new_log old_hand mid_hand new_hand halted result a b same told =
      tells_map _ _ a b
      (λ x y known commits others. on_map _ _
      (λ l m c pages put records stands are_put. c pages put records
      (laws.stands_same l records (dirty_with others old_hand) (dirty_with others mid_hand) pages x (same others)
      stands) are_put) old_log new_log (commits others))
      told

  pub commits_none : (T : Type 0) (images : List ImageData) (old_log new_log : Option Log)
      (old_hand new_hand : List (Option PartData)) (halted : Option ℕ) (a b : Option S)
      → IsSome old_log → new_log ≡ old_log → b ≡ a
      → ((others : Dirty) (q : ℕ) → dirty_with others new_hand q ≡ dirty_with others old_hand q)
      → Tells (Commits {T = T} view old_log new_log old_hand new_hand images halted (Err NoMemory)) a b
  commits_none T images old_log new_log old_hand new_hand halted a b some same unmoved kept =
      tells_same _ a b
      (λ x others. on_same _ old_log new_log some same
      (λ l pages put records stands are_put.
      let stood = laws.stands_same l records (dirty_with others old_hand) (dirty_with others new_hand) pages x
      (kept others) stands in
      record {
        moments = laws.either_of pages pages x x (laws.holds_at pages x);
        done = tt;
        failed = laws.covers_of l records (dirty_with others new_hand) pages pages x stood;
        unhalted = λ none. stood;
      })) unmoved

  -- ---- places that are dropped

  pub commits_trimmed : (T : Type 0) (images : List ImageData) (old_log new_log : Option Log)
      (old_hand mid_hand new_hand : List (Option PartData)) (halted : Option ℕ) (why : OpFault) (a b : Option S)
      → ((others : Dirty) (q : ℕ) → dirty_with others new_hand q ≡ dirty_with others mid_hand q)
      → Tells (Commits {T = T} view old_log new_log old_hand mid_hand images halted (Err why)) a b
      → Tells (Commits {T = T} view old_log new_log old_hand new_hand images halted (Err why)) a b
  commits_trimmed T images old_log new_log old_hand mid_hand new_hand halted why a b same told =
      tells_map _ _ a b
      (λ x y known commits others. on_map _ _
      (λ l m c pages put records stands are_put.
      let e = c pages put records stands are_put in
      let was = dirty_with others mid_hand in
      let now = dirty_with others new_hand in
      record {
        moments = e.moments;
        done = tt;
        failed = laws.covers_same (records_after why (left_in l records) records) was now pages
            (doubt_of why pages put) y (same others) e.failed;
        unhalted = λ none. laws.stands_same m records was now pages y (same others) (e.unhalted none);
      }) old_log new_log (commits others))
      told

pub told_due : (log : Option Log) (answer : Bool) → IfSome log (λ l. answer ≡ is_due l) → answer ≡ true
    → IfSome log (λ l. is_due l ≡ true)
told_due log answer told is = some_then log _ _ (λ l e. sym e ∙ is) told

-- the log has one record more than a checkpoint before it left
pub counts_kept : (old mid new : Option Log) → LeavesRoom old mid → OnLog (λ l m. m.tail ≡ l.tail + 1) mid new
    → OnLog (λ l m. m.tail ≡ kept_tail l + 1) old new
counts_kept old mid new room counts = on_then _ (λ l m. m.tail ≡ l.tail + 1) (λ l m. m.tail ≡ kept_tail l + 1)
    (λ l m n kept more. more ∙ ap (λ (k : ℕ). k + 1) kept.1) old mid new room counts

pub dirty_then : (log : Option Log) (old mid new : List (Option PartData))
    → ((others : Dirty) (q : ℕ) → dirty_with others new q ≡ dirty_with others mid q)
    → IfSome log (λ l. is_due l ≡ false → (others : Dirty) (q : ℕ)
    → dirty_with others mid q ≡ dirty_with others old q)
    → IfSome log (λ l. is_due l ≡ false → (others : Dirty) (q : ℕ)
    → dirty_with others new q ≡ dirty_with others old q)
dirty_then log old mid new second first =
    some_then log _ _ (λ l step isnt others q. second others q ∙ step isnt others q) first
