-- Why a run refuses what is asked, by what was tested.
use Rattle.std.proofs.Common.{◌≡◌, inl, inr, ℕ, ◌<◌, ◌≤◌, Bool, true, false, length, List, Option, Some, None}
use Rattle.std.proofs.Common.{option_map, IfSome, refl, ap, ap₂, ◌∙◌, arith}
use Rattle.std.specs.Prelude.{nat_lt, nat_le, ◌||◌, if◌then◌else◌}
use Rattle.std.proofs.lemmas.Bool.Decides.{nat_tests}
use Rattle.ori_bytes.specs.declared.rid.Rid.{Rid}
use Rattle.ori_bytes.specs.declared.limits.TheConstants.{MAX_FEED_ENTRIES, MAX_FEED_BYTES}
use Rattle.ori_volume.proofs.Known.{some_told}
use Rattle.ori_spec_data.specs.Base.{BaseData, EntryData, AskedData, asks_commit, asks_define, asked_in, entry_by}
use Rattle.ori_spec_data.specs.Weighing.{record_need}
use Rattle.ori_spec_data.specs.Schemas.{definition_weight}
use Rattle.ori_spec_data.specs.Refusing.{CommitRefusalData}
use Rattle.ori_spec_data.specs.Asked.{refusal_of}
use Rattle.ori_spec_data.specs.Limits.{asked_need, need_told, IsWithin, limit_cause}
use Rattle.ori_spec_data.specs.Replies.{RefusalData, by_base, feed_full, halted, log_full}
use Rattle.ori_spec_data.specs.Keeping.{bytes_with, IsFull}
use Rattle.ori_spec_runs.specs.Run.{RunData, first_of, feed_cause, cause}

le_true : (a b : ℕ) → a ≤ b → nat_le a b ≡ true
le_true a b h = grind (arith, nat_tests)

le_false : (a b : ℕ) → b < a → nat_le a b ≡ false
le_false a b h = grind (arith, nat_tests)

lt_true : (a b : ℕ) → a < b → nat_lt a b ≡ true
lt_true a b h = grind (arith, nat_tests)

lt_false : (a b : ℕ) → b ≤ a → nat_lt a b ≡ false
lt_false a b h = grind (arith, nat_tests)

or_true : (a : Bool) → (a || true) ≡ true
or_true true = refl
or_true false = refl

-- ---- the feed

abbrev told_full : List EntryData → AskedData → RefusalData
told_full feed asked = feed_full (length feed) (bytes_with feed asked)

full_by : (feed : List EntryData) (asked : AskedData)
    → (nat_le MAX_FEED_ENTRIES (length feed) || nat_lt MAX_FEED_BYTES (bytes_with feed asked)) ≡ true
    → feed_cause feed asked ≡ Some (told_full feed asked)
full_by feed asked is = ap (λ (b : Bool). if b then Some (told_full feed asked) else None) is

pub full_feed : (feed : List EntryData) (asked : AskedData) → IsFull (length feed) (bytes_with feed asked)
    → feed_cause feed asked ≡ Some (told_full feed asked)
full_feed feed asked (inl entries) =
    full_by feed asked (ap (λ (b : Bool). b || nat_lt MAX_FEED_BYTES (bytes_with feed asked))
    (le_true MAX_FEED_ENTRIES (length feed) entries))
full_feed feed asked (inr bytes) =
    full_by feed asked (ap (λ (b : Bool). nat_le MAX_FEED_ENTRIES (length feed) || b)
    (lt_true MAX_FEED_BYTES (bytes_with feed asked) bytes)
    ∙ or_true (nat_le MAX_FEED_ENTRIES (length feed)))

pub free_feed : (feed : List EntryData) (asked : AskedData) → length feed < MAX_FEED_ENTRIES
    → bytes_with feed asked ≤ MAX_FEED_BYTES → feed_cause feed asked ≡ None
free_feed feed asked entries bytes =
    ap₂ (λ (a b : Bool). if a || b then Some (told_full feed asked) else None)
    (le_false MAX_FEED_ENTRIES (length feed) entries) (lt_false MAX_FEED_BYTES (bytes_with feed asked) bytes)

-- ---- the log

-- what is needed is told with the base
pub need_is : (told : Option BaseData) (base : BaseData) (asked : AskedData) → told ≡ Some base
    → need_told told asked ≡ Some (asked_need base asked)
need_is told base (asks_commit tx) is = refl
need_is told base (asks_define definition) is =
    ap (λ (o : Option BaseData). option_map (λ (b : BaseData). record_need (definition_weight b definition)) o) is

pub within : (limit : Option ℕ) (told : Option BaseData) (base : BaseData) (asked : AskedData) → told ≡ Some base
    → IsWithin limit told asked → IfSome limit (λ n. asked_need base asked ≤ n)
within None told base asked is fits = tt
within (Some room) told base asked is fits =
    some_told (λ (need : ℕ). need ≤ room) (need_told told asked) (asked_need base asked)
    (need_is told base asked is) fits

pub asked_back : (session : ℕ) (asked : AskedData) (rids : List Rid) → asked_in (entry_by session asked rids) ≡ asked
asked_back session (asks_commit tx) rids = refl
asked_back session (asks_define definition) rids = refl

abbrev told_short : ℕ → BaseData → AskedData → RefusalData
told_short room base asked = log_full (asked_need base asked) room

no_room : (room : ℕ) (base : BaseData) (asked : AskedData) → room < asked_need base asked
    → limit_cause (Some room) base asked ≡ Some (told_short room base asked)
no_room room base asked short =
    ap (λ (b : Bool). if b then Some (told_short room base asked) else None)
    (lt_true room (asked_need base asked) short)

has_room : (limit : Option ℕ) (base : BaseData) (asked : AskedData) → IfSome limit (λ n. asked_need base asked ≤ n)
    → limit_cause limit base asked ≡ None
has_room None base asked fits = refl
has_room (Some room) base asked fits =
    ap (λ (b : Bool). if b then Some (told_short room base asked) else None)
    (lt_false room (asked_need base asked) fits)

-- ---- the causes in their order

module _ (run : RunData) (asked : AskedData) where
  -- of these three, where the log's room comes last
  abbrev Causes : Option ℕ → Option RefusalData → Option CommitRefusalData → Option RefusalData
  Causes ended full why =
      first_of (option_map halted ended)
      (first_of full (first_of (option_map by_base why) (limit_cause run.limit run.base asked)))

  pub by_halt : (at : ℕ) → run.halted ≡ Some at → cause run asked ≡ Some (halted at)
  by_halt at is =
      ap (λ (h : Option ℕ). Causes h (feed_cause run.feed asked) (refusal_of run.base asked)) is

  pub by_feed : (why : RefusalData) → run.halted ≡ None → feed_cause run.feed asked ≡ Some why
      → cause run asked ≡ Some why
  by_feed why going is =
      ap₂ (λ (h : Option ℕ) (f : Option RefusalData). Causes h f (refusal_of run.base asked)) going is

  -- nothing stands against it so far
  pub record IsFree : Type 0 where
    pub going : run.halted ≡ None
    pub feed : feed_cause run.feed asked ≡ None

  by_rest : IsFree → cause run asked ≡ Causes None None (refusal_of run.base asked)
  by_rest free =
      ap₂ (λ (h : Option ℕ) (f : Option RefusalData). Causes h f (refusal_of run.base asked)) free.going free.feed

  pub by_refusal : (why : CommitRefusalData) → IsFree → refusal_of run.base asked ≡ Some why
      → cause run asked ≡ Some (by_base why)
  by_refusal why free is = by_rest free ∙ ap (λ (r : Option CommitRefusalData). Causes None None r) is

  -- only the log's room is left
  by_room : IsFree → refusal_of run.base asked ≡ None → cause run asked ≡ limit_cause run.limit run.base asked
  by_room free allowed = by_rest free ∙ ap (λ (r : Option CommitRefusalData). Causes None None r) allowed

  pub by_log : (room : ℕ) → IsFree → refusal_of run.base asked ≡ None → run.limit ≡ Some room
      → room < asked_need run.base asked → cause run asked ≡ Some (told_short room run.base asked)
  by_log room free allowed limited short =
      by_room free allowed ∙ ap (λ (o : Option ℕ). limit_cause o run.base asked) limited
      ∙ no_room room run.base asked short

  pub by_none : IsFree → refusal_of run.base asked ≡ None → IfSome run.limit (λ n. asked_need run.base asked ≤ n)
      → cause run asked ≡ None
  by_none free allowed fits = by_room free allowed ∙ has_room run.limit run.base asked fits
