use Rattle.ori_record.specs.Seen.{own_left, own_of}
use Rattle.ori_record.proofs.Filling.{holes_next, holes_last}
use Rattle.ori_record.proofs.entries.put_holes.Goals as goal

pub loop-field-preserved : goal.loop-field-preserved
loop-field-preserved c =
    holes_next (own_left c.args.own) (own_left c.loop-field.left) (own_left c.next.new.self) (own_of c.in-Some.field)
    c.args.out.now c.loop-field.out c.put_hole.new.out c.in-Some.ensures c.loop-field.invariant
    c.in_ok-put_hole.ensures

pub returns : goal.returns
returns c =
    holes_last (own_left c.args.own) (own_left c.loop-field.left) c.args.out.now c.loop-field.out
    c.in_default.ensures c.loop-field.invariant
