use Rattle.std.proofs.Common.{Option, Some, None, MatchOption, List, ℕ, ◌++◌, ◌≢◌, codes}
use Rattle.ori_bytes.specs.declared.rid.Rid.{Rid}
use Rattle.ori_spec_data.specs.Value.{Tree}
use Rattle.ori_spec_texts.specs.Statement.{StatementData, IsStatement, IsSetting, IsLink}
use Rattle.ori_session.specs.declared.hand.Statement.{Statement}
use Rattle.ori_session.specs.Statements.{statement_of}
use Rattle.ori_session.proofs.HandForms.{no_statement}
use Rattle.ori_session.proofs.hand.read_statement.Goals as goal

is_read : (text : List ℕ) (r : Option Statement)
    → ((name : List ℕ) (value : Tree) (setting : List ℕ) → IsSetting setting name value
    → text ≢ codes "INSERT INTO V SET " ++ setting)
    → ((rid : Rid) (name : List ℕ) (value : Tree) (link setting : List ℕ) → IsLink link rid
    → IsSetting setting name value → text ≢ codes "UPDATE " ++ link ++ codes " SET " ++ setting)
    → ((rid : Rid) (link : List ℕ) → IsLink link rid → text ≢ codes "SELECT FROM " ++ link)
    → ((rid : Rid) (link : List ℕ) → IsLink link rid → text ≢ codes "DELETE VERTEX " ++ link)
    → MatchOption r ((text ≢ codes "BEGIN") × (text ≢ codes "COMMIT") × (text ≢ codes "ROLLBACK"))
    (λ s. IsStatement text (statement_of s))
    → MatchOption r ((s : StatementData) → IsStatement text s → ⊥) (λ s. IsStatement text (statement_of s))
is_read text None insert update select delete h = no_statement text insert update select delete h
is_read text (Some s) insert update select delete h = h

pub returns : goal.returns
returns c =
    is_read c.args.text.now c.read_word.result c.in_default.ensures c.in_default-read_update.ensures
    c.in_default-read_select.ensures c.in_default-read_delete.ensures c.read_word.ensures
