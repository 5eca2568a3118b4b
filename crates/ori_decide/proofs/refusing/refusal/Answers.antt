use Rattle.ori_decide.proofs.refusing.refusal.Goals as goal

pub returns-in-Commit : goal.returns-in-Commit
returns-in-Commit c = rw c.in-Commit.is c.tx_refusal.ensures
