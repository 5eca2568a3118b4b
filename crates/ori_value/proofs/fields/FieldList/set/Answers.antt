use Rattle.std.proofs.Common.{sym, ap, ◌∙◌, subst, arith}
use mathlib.Core.Bool.{false≢true}
use Rattle.ori_spec_data.specs.Fields.{IsRising, put}
use Rattle.ori_value.specs.View.{tree_of}
use Rattle.ori_spec_data.proofs.Names.{rising_put}
use Rattle.ori_value.proofs.Gaps.{field_gap}
use Rattle.ori_value.proofs.Places.{at_within, gap_within, put_at, put_gap}
use Rattle.ori_value.proofs.fields.FieldList.set.Goals as goal

pub index_mut-requires : goal.index_mut-requires
index_mut-requires c = omega (
  arith,
  at_within c.args.name c.self.inside.pairs.items c.in-Ok.at
      (rw (c.self.view_is, ← c.as_str.ensures) c.in-Ok.ensures.found),
  c.self.inside.pairs.ok.0,
)

-- the name was there, and its pair is written over
pub invariant_of-self : goal.invariant_of-self
invariant_of-self c =
    let is = put_at c.args.name c.args.value c.self.inside.pairs.items c.in-Ok.at
    (rw (c.self.view_is, ← c.as_str.ensures) c.in-Ok.ensures.found) in
    subst IsRising is (rising_put c.args.name (tree_of c.args.value) _ c.self.invariant)

pub returns-in-Ok-clause-ok : goal.returns-in-Ok-clause-ok
returns-in-Ok-clause-ok c =
    let is = put_at c.args.name c.args.value c.self.inside.pairs.items c.in-Ok.at
    (rw (c.self.view_is, ← c.as_str.ensures) c.in-Ok.ensures.found) in
    sym is ∙ ap (put c.args.name (tree_of c.args.value)) c.self.view_is

-- the pair is added in the gap
pub insert-requires : goal.insert-requires
insert-requires c = omega (
  arith,
  gap_within c.args.name c.self.inside.pairs.items c.in-Err.at
      (rw (c.self.view_is, ← c.as_str.ensures) c.in-Err.ensures.absent),
  c.self.inside.pairs.ok.0,
)

pub invariant_of-self-in-Err : goal.invariant_of-self-in-Err
invariant_of-self-in-Err c =
    let is = put_gap c.args.name c.args.value c.self.inside.pairs.items c.in-Err.at
    (rw (c.self.view_is, ← c.as_str.ensures) c.in-Err.ensures.absent) in
    rw c.in_ok-insert-in-Err.ensures.items (subst IsRising is
    (rising_put c.args.name (tree_of c.args.value) _ c.self.invariant))

pub returns-in_ok-insert-in-Err-clause-ok : goal.returns-in_ok-insert-in-Err-clause-ok
returns-in_ok-insert-in-Err-clause-ok c =
    let is = put_gap c.args.name c.args.value c.self.inside.pairs.items c.in-Err.at
    (rw (c.self.view_is, ← c.as_str.ensures) c.in-Err.ensures.absent) in
    rw c.in_ok-insert-in-Err.ensures.items (sym is ∙ ap (put c.args.name (tree_of c.args.value)) c.self.view_is)

-- memory fails only for a name that was not there
pub returns-in_err-insert-in-Err-clause-replaces : goal.returns-in_err-insert-in-Err-clause-replaces
returns-in_err-insert-in-Err-clause-replaces c there =
    let gone = field_gap c.args.name c.args.self.now c.in-Err.at (rw (← c.as_str.ensures) c.in-Err.ensures.absent) in
    absurd (false≢true (rw gone at there))
