use Rattle.std.proofs.Common.{◌≡◌, ◌≢◌, List, ℕ, ◌++◌, codes, sym, ◌∙◌, subst, Option, Some, None, MatchOption, Bor}
use Rattle.ori_spec_data.specs.Value.{Tree}
use Rattle.ori_spec_texts.specs.Statement.{IsSetting}
use Rattle.ori_session.specs.declared.hand.Literal.{Literal}
use Rattle.ori_session.specs.Statements.{literal_of}
use Rattle.ori_session.proofs.hand.read_insert.Goals as goal

is_read : (text rest : List ℕ) (r : Option (Bor (List ℕ) × Literal)) → text ≡ codes "INSERT INTO V SET " ++ rest
    → MatchOption r ((name : List ℕ) (value : Tree) → IsSetting rest name value → ⊥)
    (λ s. IsSetting rest s.0.now (literal_of s.1))
    → MatchOption r ((name : List ℕ) (value : Tree) (setting : List ℕ) → IsSetting setting name value
    → text ≢ codes "INSERT INTO V SET " ++ setting)
    (λ s. (setting : List ℕ) × IsSetting setting s.0.now (literal_of s.1)
    × (text ≡ codes "INSERT INTO V SET " ++ setting))
is_read text rest None e h = λ name value setting is f.
    let both : codes "INSERT INTO V SET " ++ rest ≡ codes "INSERT INTO V SET " ++ setting = sym e ∙ f in
    let same : setting ≡ rest = cc in
    h name value (subst (λ t. IsSetting t name value) same is)
is_read text rest (Some s) e h = (rest, h, e)

pub returns-in_err-after : goal.returns-in_err-after
returns-in_err-after c = rw c.from_residual.ensures (λ name value setting is. c.in_err-after.ensures setting)

pub returns : goal.returns
returns c = is_read c.args.text.now c.in_ok-after.field-0.now c.read_setting.result c.in_ok-after.ensures
    c.read_setting.ensures
