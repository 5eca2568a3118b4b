-- No call makes a count of faults fall.
use Rattle.std.proofs.Common.{◌≡◌, ◌≤◌, ℕ, Result, Ok, Err, IsErrOf, refl, arith}
use Rattle.ori_pool.specs.declared.fault.OpFault.{OpFault}
use Rattle.ori_pool.specs.declared.fault.OpFault.TheVariants as op
use Rattle.ori_pool.specs.declared.fault.TendFault.{TendFault}
use Rattle.ori_pool.specs.declared.fault.TendFault.TheVariants as tend
use Rattle.ori_turns.specs.Checkpointed.{IfMade}
use Rattle.ori_turns.specs.Committed.{IfDone}

-- Where a commit was done something shows it, and else nothing has changed.
pub commit_later : {T : Type 0} (result : Result T OpFault) (P : Result T OpFault → Type 0) (was now : ℕ)
    → ((done : Result T OpFault) → P done → was ≤ now)
    → ((turn : ℕ) → IsErrOf result (op.Busy turn) → now ≡ was) → IfDone result P → was ≤ now
commit_later (Ok value) P was now shows same holds = shows (Ok value) holds
commit_later (Err (op.Fault doubt)) P was now shows same holds = shows (Err (op.Fault doubt)) holds
commit_later (Err (op.Halted at_fault)) P was now shows same holds = shows (Err (op.Halted at_fault)) holds
commit_later (Err (op.Busy turn)) P was now shows same holds = omega (arith, same turn refl)
commit_later (Err op.NoMemory) P was now shows same holds = shows (Err op.NoMemory) holds

pub checkpoint_later : {T : Type 0} (result : Result T TendFault) (P : Result T TendFault → Type 0) (was now : ℕ)
    → ((done : Result T TendFault) → P done → was ≤ now)
    → ((turn : ℕ) → IsErrOf result (tend.Busy turn) → now ≡ was) → IfMade result P → was ≤ now
checkpoint_later (Ok value) P was now shows same holds = shows (Ok value) holds
checkpoint_later (Err tend.Fault) P was now shows same holds = shows (Err tend.Fault) holds
checkpoint_later (Err (tend.Halted at_fault)) P was now shows same holds = shows (Err (tend.Halted at_fault)) holds
checkpoint_later (Err (tend.Busy turn)) P was now shows same holds = omega (arith, same turn refl)
