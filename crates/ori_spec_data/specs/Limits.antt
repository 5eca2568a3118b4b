-- The room of a log that is never emptied. States and runs have it as one optional part, `limit`, which is there where
-- the log has such a limit; nothing else depends on it.
use Rattle.std.specs.Prelude.{ℕ, ◌-◌, ◌≤◌, nat_lt, if◌then◌else◌, Option, Some, None, option_map, IfSome}
use Rattle.ori_spec_data.specs.Base.{BaseData, AskedData, asks_commit, asks_define}
use Rattle.ori_spec_data.specs.Weighing.{log_need, record_need}
use Rattle.ori_spec_data.specs.Schemas.{definition_weight}
use Rattle.ori_spec_data.specs.Replies.{RefusalData, log_full}

-- what an opening finds: the base, and the room of its log, where that is limited
pub record FoundData : Type 0 where
  pub base : BaseData
  pub limit : Option ℕ

-- The bytes of the log that are needed for what is asked. A schema change needs those of as many pages as it weighs.
abbrev pub asked_need : BaseData → AskedData → ℕ
asked_need base (asks_commit tx) = log_need tx
asked_need base (asks_define definition) = record_need (definition_weight base definition)

-- the same, where the base is told or doesn't matter
abbrev pub need_told : Option BaseData → AskedData → Option ℕ
need_told base (asks_commit tx) = Some (log_need tx)
need_told base (asks_define definition) = option_map (λ b. record_need (definition_weight b definition)) base

-- there is room for what is asked
abbrev pub IsWithin : Option ℕ → Option BaseData → AskedData → Type 0
IsWithin limit base asked = IfSome limit (λ room. IfSome (need_told base asked) (λ need. need ≤ room))

-- the room that is left behind a record that needed so many bytes, whose last gate is the next one's first
abbrev pub room_after : ℕ → ℕ → ℕ
room_after need room = room - (need - 1)

-- and behind an entry of what is asked
abbrev pub limit_after : BaseData → AskedData → Option ℕ → Option ℕ
limit_after base asked limit = option_map (room_after (asked_need base asked)) limit

-- why it is refused, where there is no room for it
abbrev pub limit_cause : Option ℕ → BaseData → AskedData → Option RefusalData
limit_cause None base asked = None
limit_cause (Some room) base asked =
    if nat_lt room (asked_need base asked) then Some (log_full (asked_need base asked) room) else None
