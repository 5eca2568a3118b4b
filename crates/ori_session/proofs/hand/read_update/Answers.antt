use Rattle.std.proofs.Common.{sym, subst}
use Rattle.ori_spec_texts.specs.Statement.{IsLink, IsSetting}
use Rattle.ori_session.proofs.HandForms.{update_parts, update_tail, is_update}
use Rattle.ori_session.proofs.hand.read_update.Goals as goal

pub returns-in_err-rid : goal.returns-in_err-rid
returns-in_err-rid c =
    rw c.from_residual-in_err-rid.ensures
    (λ rid name value link setting is_link is_setting e.
    let p = update_parts c.args.text.now c.in_ok-after.field-0.now c.in_ok-link.link.now c.in_ok-link.rest.now link
    setting rid c.in_ok-after.ensures c.in_ok-link.ensures is_link e in
    c.in_err-rid.ensures rid (subst (λ t. IsLink t rid) (sym p.0) is_link))

pub returns-in_err-after-2 : goal.returns-in_err-after-2
returns-in_err-after-2 c =
    rw c.from_residual-in_err-after-2.ensures
    (λ rid name value link setting is_link is_setting e.
    let p = update_parts c.args.text.now c.in_ok-after.field-0.now c.in_ok-link.link.now c.in_ok-link.rest.now link
    setting rid c.in_ok-after.ensures c.in_ok-link.ensures is_link e in
    c.in_err-after-2.ensures setting p.1)

pub returns-in_err-name : goal.returns-in_err-name
returns-in_err-name c =
    rw c.from_residual-in_err-name.ensures
    (λ rid name value link setting is_link is_setting e.
    let same = update_tail c.args.text.now c.in_ok-after.field-0.now c.in_ok-link.link.now c.in_ok-link.rest.now
    c.in_ok-after-2.field-0.now link setting rid c.in_ok-after.ensures c.in_ok-link.ensures c.in_ok-after-2.ensures
    is_link e in
    c.in_err-name.ensures name value (subst (λ t. IsSetting t name value) same is_setting))

pub returns : goal.returns
returns c = (
  c.in_ok-link.link.now,
  c.in_ok-after-2.field-0.now,
  c.in_ok-rid.ensures,
  c.in_ok-name.ensures,
  is_update c.args.text.now c.in_ok-after.field-0.now c.in_ok-link.link.now c.in_ok-link.rest.now
      c.in_ok-after-2.field-0.now c.in_ok-after.ensures c.in_ok-link.ensures c.in_ok-after-2.ensures,
)
