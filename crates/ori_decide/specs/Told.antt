-- What a refusal tells.
use Rattle.std.specs.Prelude.{◌≡◌, ◌⊎◌, ℕ, List, Option, Some, None, Result, Ok, Err}
use Rattle.ori_bytes.specs.declared.rid.Rid.{Rid}
use Rattle.ori_spec_data.specs.Refusing.{CommitRefusalData, RuleData, breaks}
use Rattle.ori_spec_data.specs.Keeping.{DecisionData, refused, no_memory}
use Rattle.ori_model.specs.declared.fault.CommitFault.{CommitFault}
use Rattle.ori_model.specs.Decisions.{decision_of}

abbrev pub told : CommitFault → DecisionData
told fault = decision_of (Err fault)

-- A test passes exactly where there is no such refusal, and else tells it; or it is out of memory.
abbrev pub Answers : {T : Type 0} → Option CommitRefusalData → Result T CommitFault → Type 0
Answers why (Ok x) = why ≡ None
Answers why (Err fault) = (told fault ≡ no_memory) ⊎ ((w : CommitRefusalData) × (why ≡ Some w) × (told fault ≡ refused
    w))

-- it tells that the property breaks this rule; or it is out of memory
abbrev pub BreaksRule : Rid → List ℕ → RuleData → CommitFault → Type 0
BreaksRule rid property rule fault = (told fault ≡ no_memory) ⊎ (told fault ≡ refused (breaks rid property rule))
