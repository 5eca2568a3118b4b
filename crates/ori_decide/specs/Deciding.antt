-- What a base decides on a transaction.
use Rattle.std.specs.Prelude.{◌≡◌, ℕ, ◌+◌, List, [], ◌∷◌, ◌++◌, map, Option, option_map}
use Rattle.ori_bytes.specs.declared.rid.Rid.{Rid}
use Rattle.ori_bytes.specs.declared.limits.TheConstants.{BASE_WEIGHT}
use Rattle.ori_spec_data.specs.Base.{ClassData, RecordData, BaseData, ChangeData, TxData}
use Rattle.ori_spec_data.specs.Weighing.{renamings_on, weight, changes_weight}
use Rattle.ori_spec_data.specs.Apply.{renamed, renamings, target, fresh, fresh_of, next_after}
use Rattle.ori_model.specs.Data.{record_of}
use Rattle.ori_decide.specs.declared.writing.Written.{Written}
use Rattle.ori_decide.specs.declared.writing.Work.{Work}
use Rattle.ori_decide.specs.declared.given.Given.{Given}
use Rattle.ori_decide.specs.declared.deciding.Decided.{Decided}
use Rattle.ori_decide.specs.Leaving.{left}

-- a base of these classes, next positions and records
abbrev pub base_over : List ClassData → List ℕ → List RecordData → BaseData
base_over classes next stored = record {
  schema = record { classes = classes; indexes = [] };
  stored = stored;
  next =
      next;
  grown = [];
}

abbrev pub written_data : Written → Rid × Option RecordData
written_data w = (w.rid, option_map record_of w.left)

pub record IsGiven (classes : List ClassData) (next : List ℕ) (cs : List ChangeData) (given : Given) : Type 0 where
  pub pairs : given.pairs ≡ renamings cs (fresh_of classes next cs)
  pub fresh_is : given.fresh ≡ fresh_of classes next cs
  pub after : given.after.items ≡ next_after classes next cs

-- the identifier of the record that a change is of, and the record that it leaves there
abbrev pub writes : List (Rid × Rid) → List RecordData → ChangeData → Rid × Option RecordData
writes ps stored c = (renamed ps (target c), left ps stored c)

pub record IsWork (ps : List (Rid × Rid)) (stored : List RecordData) (cs : List ChangeData) (work : Work) : Type 0 where
  pub written : map written_data work.written.items ≡ map (writes ps stored) cs
  pub weighs : work.weight ≡ BASE_WEIGHT + changes_weight stored ps cs

pub record AddsOne (old new : Work) (one : Rid × Option RecordData) (weight : ℕ) : Type 0 where
  pub written : map written_data new.written.items ≡ map written_data old.written.items ++ one ∷ []
  pub weighs : new.weight ≡ old.weight + weight

-- What a base makes of a transaction that it accepts: the fresh identifiers, what each change leaves, and the weight.
pub record IsDecided (base : BaseData) (tx : TxData) (decided : Decided) : Type 0 where
  pub fresh_is : decided.fresh ≡ fresh base tx
  pub written : map written_data decided.written.items ≡ map (writes (renamings_on base tx) base.stored) tx.changes
  pub weighs : decided.weight ≡ weight base tx
