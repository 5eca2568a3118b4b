-- The state of a keeper of a base, and what a commit answers and leaves.
use Rattle.std.specs.Prelude.{◌≡◌, ◌≢◌, ◌⊎◌, ℕ, ◌+◌, ◌-◌, ◌^◌, ◌<◌, ◌≤◌, min, max, List, [], ◌∷◌, ◌++◌, length, Option}
use Rattle.std.specs.Prelude.{Some, None, option_map, IsSome, IsSomeAnd, IfSome, MatchOption, Any, ⊤}
use Rattle.ori_bytes.specs.declared.rid.Rid.{Rid}
use Rattle.ori_bytes.specs.declared.causes.Causes.{Causes}
use Rattle.ori_bytes.specs.declared.limits.TheConstants.{MAX_PAGES, MAX_FEED_ENTRIES, MAX_FEED_BYTES, MAX_RECORD_BYTES}
use Rattle.ori_bytes.specs.declared.limits.TheConstants.{MAX_WEIGHT, PARTITIONS}
use Rattle.ori_spec_data.specs.Base.{BaseData, ChangeData, create, update, delete, touch, EntryData, AskedData}
use Rattle.ori_spec_data.specs.Base.{asked_in, entry_by}
use Rattle.ori_spec_data.specs.Apply.{target, apply, replay}
use Rattle.ori_spec_data.specs.Weighing.{asked_bytes, feed_bytes}
use Rattle.ori_spec_data.specs.Refusing.{RuleData, no_class, ends, temporary_link, version_end, CommitRefusalData}
use Rattle.ori_spec_data.specs.Refusing.{conflict, breaks, record_too_large, key_too_long, duplicate, cluster_full}
use Rattle.ori_spec_data.specs.Refusing.{tx_too_large}
use Rattle.ori_spec_data.specs.Asked.{changes_in, asked_weight, entry_weight, refusal_of, fresh_by, MayBreak}
use Rattle.ori_spec_data.specs.Limits.{need_told, IsWithin, room_after}

-- ---- states

-- What stays for a whole opening: the base and the pages in use that it found, where the keeper tells them, and the
-- counts of faults and the moment at its end.
pub record OpeningData : Type 0 where
  pub base : Option BaseData
  pub in_use : Option ℕ
  pub faults : ℕ
  pub log_faults : ℕ
  pub moment : ℕ

-- The base, the entries since the opening and the pages in use are there where the keeper tells them. `limit` is the
-- room of a log that is never emptied. `front` is the number of the entries, `halted` the count of faults at which
-- commits ended, and `doubt` the entry whose own write failed.
pub record StateData : Type 0 where
  pub base : Option BaseData
  pub feed : Option (List EntryData)
  pub in_use : Option ℕ
  pub limit : Option ℕ
  pub front : ℕ
  pub halted : Option ℕ
  pub doubt : Option EntryData
  pub opening : OpeningData

-- ---- counts of causes

-- one more, up to the end of a `u64`
abbrev pub raised_count : ℕ → ℕ
raised_count n = max n (min (n + 1) (2 ^ 64 - 1))

abbrev pub with_device : Causes → Causes
with_device causes = record causes { device = raised_count causes.device }

abbrev pub with_fault : Causes → Causes
with_fault causes = record causes { fault = raised_count causes.fault }

abbrev pub with_busy : Causes → Causes
with_busy causes = record causes { busy = raised_count causes.busy }

abbrev pub with_damaged : Causes → Causes
with_damaged causes = record causes { damaged = raised_count causes.damaged }

-- a turn: of a cache partition, or of the device
abbrev pub IsTurn : ℕ → Type 0
IsTurn turn = turn ≤ PARTITIONS

-- ---- what a commit answers

pub data DecisionData : Type 0 where
  -- the entry's place in the feed, and the identifiers of its new records
  accepted : ℕ → List Rid → DecisionData
  halted_at : ℕ → DecisionData
  -- the feed's entries, and its bytes with this entry's
  feed_full : ℕ → ℕ → DecisionData
  refused : CommitRefusalData → DecisionData
  -- the pages in use, and the transaction's weight
  pages_full : ℕ → ℕ → DecisionData
  -- the bytes that the log needs, and has room for
  log_full : ℕ → ℕ → DecisionData
  fault : DecisionData
  device : DecisionData
  busy : ℕ → DecisionData
  damaged : ℕ → DecisionData
  no_memory : DecisionData

-- each cause is counted where it is answered, and nowhere else
abbrev pub counted : DecisionData → Causes → Causes
counted (accepted place rids) causes = causes
counted (halted_at at) causes = causes
counted (feed_full entries bytes) causes = causes
counted (refused why) causes = causes
counted (pages_full in_use weight) causes = causes
counted (log_full need room) causes = causes
counted fault causes = with_fault causes
counted device causes = with_device causes
counted (busy turn) causes = with_busy causes
counted (damaged page) causes = with_damaged causes
counted no_memory causes = causes

abbrev pub bytes_with : List EntryData → AskedData → ℕ
bytes_with feed asked = feed_bytes feed + asked_bytes asked

-- the feed has so many entries, and would have so many bytes with one more
abbrev pub IsFull : ℕ → ℕ → Type 0
IsFull entries bytes = (MAX_FEED_ENTRIES ≤ entries) ⊎ (MAX_FEED_BYTES < bytes)

-- so far nothing stands against what is asked: the base is asked next
pub record IsAsked (state : StateData) (asked : AskedData) : Type 0 where
  pub running : state.halted ≡ None
  pub entries : state.front < MAX_FEED_ENTRIES
  pub bytes : IfSome state.feed (λ feed. bytes_with feed asked ≤ MAX_FEED_BYTES)

-- neither does the base, nor the number of pages
pub record IsAllowed (state : StateData) (asked : AskedData) : Type 0 where
  pub asked_is : IsAsked state asked
  pub allowed : IfSome state.base (λ base. refusal_of base asked ≡ None)
  pub pages : IfSome state.base (λ base. IfSome state.in_use (λ n. n + asked_weight base asked ≤ MAX_PAGES))

-- nor the log
pub record IsGranted (state : StateData) (asked : AskedData) : Type 0 where
  pub allowed : IsAllowed state asked
  pub room : IsWithin state.limit state.base asked

-- the change names the record with that version
abbrev pub Names : ChangeData → Rid → ℕ → Type 0
Names (create temp class fields) rid expected = ⊥
Names (update other version fields) rid expected = (other ≡ rid) × (version ≡ expected)
Names (delete other version) rid expected = (other ≡ rid) × (version ≡ expected)
Names (touch other version) rid expected = (other ≡ rid) × (version ≡ expected)

-- the rules that a commit can break so far
abbrev pub IsInForce : RuleData → Type 0
IsInForce no_class = ⊤
IsInForce ends = ⊤
IsInForce temporary_link = ⊤
IsInForce version_end = ⊤
IsInForce rule = ⊥

-- What a refusal says of what is asked, also where the keeper doesn't tell its base. It names a record that a change
-- names; a conflict's has the version that the change expects, and is found with another or not at all; and what is too
-- large passes its limit. Keys come with the stage of indexes.
abbrev pub MayRefuse : AskedData → CommitRefusalData → Type 0
MayRefuse asked (conflict rid expected found) =
    Any (λ c. Names c rid expected) (changes_in asked) × (found ≢ Some expected)
MayRefuse asked (breaks rid property rule) = MayBreak asked rid × IsInForce rule
MayRefuse asked (record_too_large rid bytes) =
    Any (λ c. target c ≡ rid) (changes_in asked) × (MAX_RECORD_BYTES < bytes)
MayRefuse asked (key_too_long index rid bytes) = ⊥
MayRefuse asked (duplicate index first second) = ⊥
MayRefuse asked (cluster_full cluster) = ⊤
MayRefuse asked (tx_too_large heavy) = MAX_WEIGHT < heavy

abbrev pub creations : List ChangeData → ℕ
creations [] = 0
creations (create temp class fields ∷ cs) = 1 + creations cs
creations (update rid version fields ∷ cs) = creations cs
creations (delete rid version ∷ cs) = creations cs
creations (touch rid version ∷ cs) = creations cs

-- these are the identifiers of its new records, one for each
abbrev pub AreFresh : StateData → AskedData → List Rid → Type 0
AreFresh state asked rids =
    (length rids ≡ creations (changes_in asked)) × IfSome state.base (λ base. rids ≡ fresh_by base asked)

-- The entry joins the feed, and the base is what it makes of it. It takes at most its weight in pages, and of the log
-- what it needs.
pub record Joins (old : StateData) (entry : EntryData) (new : StateData) : Type 0 where
  pub base : new.base ≡ option_map (λ base. apply base entry) old.base
  pub feed : new.feed ≡ option_map (λ feed. feed ++ entry ∷ []) old.feed
  pub limit : IfSome (need_told old.base (asked_in entry))
      (λ need. new.limit ≡ option_map (room_after need) old.limit)
  pub in_use : MatchOption old.in_use (new.in_use ≡ None)
      (λ n. IsSomeAnd new.in_use (λ m. IfSome old.base (λ base. m ≤ n + entry_weight base entry)))
  pub front : new.front ≡ old.front + 1
  pub halted : new.halted ≡ old.halted
  pub doubt : new.doubt ≡ old.doubt
  pub opening : new.opening ≡ old.opening

-- A write failed. Commits may have ended, and only then may the entry be in doubt: so it is where its own write failed.
-- Nothing else has changed.
pub record Breaks (old : StateData) (entry : EntryData) (new : StateData) : Type 0 where
  pub same : new ≡ record old { halted = new.halted; doubt = new.doubt }
  pub halted : (new.halted ≡ old.halted) ⊎ IsSome new.halted
  pub doubt : (new.doubt ≡ old.doubt) ⊎ ((new.doubt ≡ Some entry) × IsSome new.halted)

-- What a session asks is decided on the state in this order: halted; the feed is full; the base refuses it; pages are
-- full; the log is full; it is accepted. Each answer but out of memory comes exactly where it is its turn, or where a
-- read or write failed.
abbrev pub Decides : StateData → ℕ → AskedData → DecisionData → StateData → Type 0
Decides old session asked (accepted place rids) new =
    IsGranted old asked × (place ≡ old.front) × AreFresh old asked rids
    × Joins old (entry_by session asked rids) new
Decides old session asked (halted_at at) new = (old.halted ≡ Some at) × (new ≡ old)
Decides old session asked (feed_full entries bytes) new =
    (old.halted ≡ None) × (entries ≡ old.front) × IsFull entries bytes
    × IfSome old.feed (λ feed. bytes ≡ bytes_with feed asked)
    × (new ≡ old)
Decides old session asked (refused why) new =
    IsAsked old asked × IfSome old.base (λ base. refusal_of base asked ≡ Some why) × MayRefuse asked why × (new ≡ old)
Decides old session asked (pages_full n heavy) new =
    IsAsked old asked × IfSome old.base (λ base. (refusal_of base asked ≡ None) × (heavy ≡ asked_weight base asked))
    × IfSome old.in_use (λ m. n ≡ m) × (heavy ≤ MAX_WEIGHT) × (MAX_PAGES < n + heavy) × (new ≡ old)
Decides old session asked (log_full need room) new =
    IsAllowed old asked × IfSome (need_told old.base asked) (λ n. need ≡ n)
    × IfSome old.base (λ base. old.limit ≡ Some room)
    × IfSome old.limit (λ n. room ≡ n) × (room < need) × (new ≡ old)
Decides old session asked fault new =
    IsGranted old asked
    × ((rids : List Rid) × AreFresh old asked rids × Breaks old (entry_by session asked rids) new)
Decides old session asked device new = IsAsked old asked × (new ≡ old)
Decides old session asked (busy turn) new = IsAsked old asked × IsTurn turn × (new ≡ old)
Decides old session asked (damaged page) new = IsAsked old asked × (old.base ≡ None) × (new ≡ old)
Decides old session asked no_memory new = new ≡ old

-- A keeper that tells its base tells its feed too, and one that also tells the opening's base has come to its own by
-- the feed.
pub record TellsAll (state : StateData) : Type 0 where
  pub feed : IsSome state.base → IsSome state.feed
  pub replays : IfSome state.opening.base (λ base. IfSome state.feed (λ feed. state.base ≡ Some (replay base feed)))
