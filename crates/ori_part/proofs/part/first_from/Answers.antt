use Rattle.std.proofs.Common.{◌<◌, length, sym, arith}
use Rattle.std.proofs.lemmas.Option.{slice_get-get_or}
use Rattle.ori_part.specs.Parts.{bare}
use Rattle.ori_part.proofs.Places.{first_is, first_after, first_within}
use Rattle.ori_part.proofs.part.first_from.Goals as goal
use Rattle.ori_part.proofs.part.first_from.Goals.{in-Some+else-is_unwritten, in_default}

pub returns-then-is_unwritten : goal.returns-then-is_unwritten
returns-then-is_unwritten c =
    sym (first_is _ c.loop-at.at (c.in-Some.field-0-0.now, c.in-Some.place.now) c.loop-at.invariant
    (sym c.in-Some.ensures.entry) (cc (c.is_unwritten.ensures, c.if-is_unwritten.true)))

pub loop-at-preserved : goal.loop-at-preserved
loop-at-preserved c =
    elim c.match-get_index.branch [
      | in-Some+else-is_unwritten w ↦
          first_after _ c.loop-at.at (w.in-Some.field-0-0.now, w.in-Some.place.now) c.loop-at.invariant
          (sym w.in-Some.ensures.entry) (cc (w.is_unwritten.ensures, w.if-is_unwritten.false))
      | in_default w ↦
          let within : c.loop-at.at < length c.args.places.now.entries
          = omega (arith, c.loop-at-test.true, c.len-at-end.ensures.len) in
          let found = slice_get-get_or c.args.places.now.entries c.loop-at.at (0, bare) within in
          absurd (cc (w.in_default.ensures.entry, found))
    ]

pub returns : goal.returns
returns c = omega (arith, c.loop-at.invariant, first_within c.args.places.now.entries, c.len.ensures.len)
