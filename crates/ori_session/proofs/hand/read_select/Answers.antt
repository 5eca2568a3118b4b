use Rattle.std.proofs.Common.{◌≡◌, ◌≢◌, List, ℕ, ◌++◌, codes, sym, ◌∙◌, subst, Option, Some, None, MatchOption}
use Rattle.ori_bytes.specs.declared.rid.Rid.{Rid}
use Rattle.ori_spec_texts.specs.Statement.{IsLink}
use Rattle.ori_session.proofs.hand.read_select.Goals as goal

is_read : (text rest : List ℕ) (r : Option Rid) → text ≡ codes "SELECT FROM " ++ rest
    → MatchOption r ((rid : Rid) → IsLink rest rid → ⊥) (λ rid. IsLink rest rid)
    → MatchOption r ((rid : Rid) (link : List ℕ) → IsLink link rid → text ≢ codes "SELECT FROM " ++ link)
    (λ rid. (link : List ℕ) × IsLink link rid × (text ≡ codes "SELECT FROM " ++ link))
is_read text rest None e h = λ rid link is_link f.
    let both : codes "SELECT FROM " ++ rest ≡ codes "SELECT FROM " ++ link = sym e ∙ f in
    let same : link ≡ rest = cc in
    h rid (subst (λ t. IsLink t rid) same is_link)
is_read text rest (Some rid) e h = (rest, h, e)

pub returns-in_err-after : goal.returns-in_err-after
returns-in_err-after c = rw c.from_residual.ensures (λ rid link is_link. c.in_err-after.ensures link)

pub returns : goal.returns
returns c = is_read c.args.text.now c.in_ok-after.field-0.now c.read_link.result c.in_ok-after.ensures
    c.read_link.ensures
