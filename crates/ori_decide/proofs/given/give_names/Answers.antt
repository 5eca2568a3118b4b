use Rattle.std.proofs.Common.{map, sym, ◌∙◌}
use Rattle.ori_spec_data.specs.Apply.{fresh_of}
use Rattle.ori_model.specs.Data.{class_of, change_of}
use Rattle.ori_spec_data.proofs.Kept.{fresh_count}
use Rattle.ori_decide.proofs.Decisions.{unnamed_count}
use Rattle.ori_decide.proofs.Ordered.{beside_is}
use Rattle.ori_decide.proofs.given.give_names.Goals as goal

pub give-requires : goal.give-requires
give-requires c =
    let classes = map class_of c.args.classes.now in
    let cs = map change_of c.args.changes.now in
    rw (c.requires.pairs, c.as_slice.ensures, c.in_ok-give_all.ensures.rids, c.new-fresh.ensures)
    (unnamed_count cs ∙ sym (fresh_count classes c.into_vec-after.result.items cs))

pub returns : goal.returns
returns c =
    let classes = map class_of c.args.classes.now in
    let cs = map change_of c.args.changes.now in
    let next = c.into_vec-after.ensures ∙ c.in_ok-copy.ensures in
    let fresh = rw (c.new-fresh.ensures, next) at c.in_ok-give_all.ensures.rids in
    record {
      pairs = rw (c.give.ensures, c.requires.pairs, c.as_slice.ensures, fresh)
          (beside_is cs (fresh_of classes c.args.next.now cs) (fresh_count classes c.args.next.now cs));
      fresh_is = fresh;
      after = rw next at c.in_ok-give_all.ensures.next;
    }
