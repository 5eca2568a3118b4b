-- The fronts of replies: how many entries a statement's read saw, and how many its commit met.
use Rattle.std.specs.Prelude.{ℕ, ◌+◌, Option, Some, None}
use Rattle.ori_spec_data.specs.Keeping.{DecisionData, accepted, no_memory}
use Rattle.ori_spec_runs.specs.Answer.{PendingData, one, whole, schema}
use Rattle.ori_model.specs.declared.reply.Reply.{Reply}

pub record FrontsData : Type 0 where
  pub read : ℕ
  pub commit : Option ℕ

abbrev pub fronts_in : Reply → FrontsData
fronts_in reply = record { read = reply.read_front; commit = reply.commit_front }

-- those of a reply without a commit
abbrev pub read_alone : ℕ → FrontsData
read_alone front = record { read = front; commit = None }

-- The front at which a keeper decided, which had met this one: an accepted entry counts too. Out of memory
-- it decided nothing.
abbrev pub decided_at : ℕ → DecisionData → Option ℕ
decided_at met (accepted place rids) = Some (place + 1)
decided_at met no_memory = None
decided_at met other = Some met

-- a COMMIT that was decided has the front of that
abbrev pub instead_of : ℕ → Option ℕ → ℕ
instead_of read None = read
instead_of read (Some front) = front

-- A statement's own changes have two fronts, the one of its read step and the one at which they were decided. A COMMIT
-- has one: that at which it was decided, and where it wasn't, that of its read step.
abbrev pub fronts_of : PendingData → ℕ → ℕ → DecisionData → FrontsData
fronts_of (one plan) read met decision = record { read = read; commit = decided_at met decision }
fronts_of (whole tx) read met decision = read_alone (instead_of read (decided_at met decision))
fronts_of (schema definition) read met decision = record { read = read; commit = decided_at met decision }
