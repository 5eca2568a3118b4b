use Rattle.std.proofs.Common.{List, ℕ, subst}
use Rattle.std.proofs.lemmas.Result.{on_ok_weaker}
use Rattle.ori_record.specs.Spelling.{IsCounted}
use Rattle.ori_record.proofs.leaves.put_text.Goals as goal

pub returns : goal.returns
returns c =
    on_ok_weaker c.put_bytes.result
    (λ a. (a.0, (subst (λ (x : List ℕ). IsCounted x a.0) c.as_bytes.ensures.value a.1, c.utf8.text), a.2))
    c.put_bytes.ensures
