use Rattle.std.proofs.Common.{◌∙◌, sym, ap, subst}
use Rattle.std.proofs.lemmas.Bool.{false≢true}
use Rattle.ori_spec_texts.specs.Statement.{is_field_name, IsLiteral}
use Rattle.ori_session.specs.Statements.{literal_of}
use Rattle.ori_session.proofs.HandForms.{setting_parts, setting_tail, is_setting}
use Rattle.ori_session.proofs.hand.read_setting.Goals as goal

pub returns-then-not-is_field_name : goal.returns-then-not-is_field_name
returns-then-not-is_field_name c = λ name value h.
    let p = setting_parts c.args.text.now c.in_ok-name.name.now c.in_ok-name.rest.now name value c.in_ok-name.ensures
    h in
    false≢true (c.if-not-is_field_name.ensures ∙ ap is_field_name p.0 ∙ h.1)

pub returns-in_err-after : goal.returns-in_err-after
returns-in_err-after c =
    rw c.from_residual-in_err-after.ensures
    (λ name value h. c.in_err-after.ensures h.0
    (setting_parts c.args.text.now c.in_ok-name.name.now c.in_ok-name.rest.now name value c.in_ok-name.ensures h).1)

pub returns-in_err-value : goal.returns-in_err-value
returns-in_err-value c =
    rw c.from_residual-in_err-value.ensures
    (λ name value h.
    let same = setting_tail c.args.text.now c.in_ok-name.name.now c.in_ok-name.rest.now c.in_ok-after.field-0.now name
    value c.in_ok-name.ensures c.in_ok-after.ensures h in
    c.in_err-value.ensures value (subst (λ t. IsLiteral t value) same h.2))

pub returns : goal.returns
returns c =
    is_setting c.args.text.now c.in_ok-name.name.now c.in_ok-name.rest.now c.in_ok-after.field-0.now
    (literal_of c.in_ok-value.value) c.in_ok-name.ensures c.in_ok-after.ensures (sym c.if-not-is_field_name.ensures)
    c.in_ok-value.ensures
