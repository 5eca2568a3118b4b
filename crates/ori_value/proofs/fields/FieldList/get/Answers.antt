use Rattle.std.proofs.Common.{Some, sym, ap, ◌∙◌, arith}
use Rattle.ori_spec_data.specs.Fields.{field}
use Rattle.ori_value.specs.View.{tree_of}
use Rattle.ori_value.proofs.Gaps.{field_gap}
use Rattle.ori_value.proofs.Orders.{Pair}
use Rattle.ori_value.proofs.Places.{at_within, field_at}
use Rattle.ori_value.proofs.fields.FieldList.get.Goals as goal

pub index-requires : goal.index-requires
index-requires c = omega (
  arith,
  at_within c.args.name.now c.self.inside.pairs.items c.in-Ok.at
      (rw c.self.view_is c.in-Ok.ensures.found),
  c.self.inside.pairs.ok.0,
)

-- the pair at the place has the name
pub returns-in-Ok : goal.returns-in-Ok
returns-in-Ok c =
    let is = field_at c.args.name.now c.self.inside.pairs.items c.in-Ok.at c.index.result.now
    (rw c.self.view_is c.in-Ok.ensures.found) in
    ap (λ (p : Pair). Some (tree_of p.1)) c.index.ensures ∙ sym is ∙ ap (field c.args.name.now) c.self.view_is

pub returns-in-Err : goal.returns-in-Err
returns-in-Err c = sym (field_gap _ _ _ c.in-Err.ensures.absent)
