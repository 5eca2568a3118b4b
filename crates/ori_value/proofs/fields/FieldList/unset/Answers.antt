use Rattle.std.proofs.Common.{sym, ap, ◌∙◌, is_some, subst, arith}
use Rattle.ori_spec_data.proofs.Names.{rising_without}
use Rattle.ori_value.proofs.Gaps.{field_gap, without_gap}
use Rattle.ori_value.proofs.Places.{at_within, field_at, without_at}
use Rattle.ori_spec_data.specs.Fields.{IsRising, field, without}
use Rattle.ori_value.proofs.fields.FieldList.unset.Goals as goal

pub remove-requires : goal.remove-requires
remove-requires c = omega (
  arith,
  at_within c.args.name.now c.self.inside.pairs.items c.in-Ok.at
      (rw c.self.view_is c.in-Ok.ensures.found),
  c.self.inside.pairs.ok.0,
)

pub invariant_of-self : goal.invariant_of-self
invariant_of-self c =
    let name = c.args.name.now in
    let is = without_at name c.self.inside.pairs.items c.in-Ok.at (rw c.self.view_is c.in-Ok.ensures.found) in
    rw c.remove.ensures.items (subst IsRising is (rising_without name _ c.self.invariant))

pub returns-in-Ok-clause-gone : goal.returns-in-Ok-clause-gone
returns-in-Ok-clause-gone c =
    let name = c.args.name.now in
    let is = without_at name c.self.inside.pairs.items c.in-Ok.at (rw c.self.view_is c.in-Ok.ensures.found) in
    rw c.remove.ensures.items (sym is ∙ ap (without name) c.self.view_is)

pub returns-in-Ok-clause-was : goal.returns-in-Ok-clause-was
returns-in-Ok-clause-was c =
    let name = c.args.name.now in
    let is = field_at name c.self.inside.pairs.items c.in-Ok.at c.remove.result
    (rw c.self.view_is c.in-Ok.ensures.found) in
    sym (ap is_some (sym (ap (field name) c.self.view_is) ∙ is))

pub returns-in-Err-clause-gone : goal.returns-in-Err-clause-gone
returns-in-Err-clause-gone c = sym (without_gap _ _ _ c.in-Err.ensures.absent)

pub returns-in-Err-clause-was : goal.returns-in-Err-clause-was
returns-in-Err-clause-was c = sym (ap is_some (field_gap _ _ _ c.in-Err.ensures.absent))
