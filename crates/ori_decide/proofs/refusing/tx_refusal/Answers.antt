use Rattle.ori_spec_data.specs.Refusing.{refusal}
use Rattle.ori_model.specs.Data.{tx_of, base_of}
use Rattle.ori_decide.specs.declared.deciding.Decided.{Decided}
use Rattle.ori_decide.proofs.Decisions.{told_is}
use Rattle.ori_decide.proofs.refusing.tx_refusal.Goals as goal

pub returns : goal.returns
returns c =
    let answers = rw c.as_slice.ensures at c.in-Err.ensures.answers in
    told_is Decided c.in-Err.fault c.in_ok-told-in-Err.field-0 (refusal (base_of c.args.base.now) (tx_of c.args.tx.now))
    c.in_ok-told-in-Err.ensures answers
