use Rattle.ori_model.specs.Data.{tx_of, base_of}
use Rattle.ori_decide.proofs.Applied.{can_all_rise, applied}
use Rattle.ori_decide.proofs.applying.apply_tx.Goals as goal

pub add_left-requires : goal.add_left-requires
add_left-requires c = rw (c.as_slice-changes.ensures, c.as_slice.ensures) (can_all_rise (base_of c.args.base.now)
    (tx_of c.args.tx.now) c.requires.sound c.requires.formed c.requires.allowed)

pub returns : goal.returns
returns c =
    let changes = c.as_slice-changes.ensures in
    let pairs = rw (changes, c.as_slice-classes.ensures) at c.in_ok-given.ensures.pairs in
    let left = rw (changes, c.as_slice.ensures, c.new-stored.ensures.items) at c.in_ok-add_left.ensures in
    let stored = rw (changes, c.as_slice-classes.ensures, c.into_vec-next.ensures, c.in_ok-copy.ensures)
    at c.in_ok-put_created.ensures.records in
    let next = rw (changes, c.as_slice-classes.ensures, c.into_vec-next.ensures, c.in_ok-copy.ensures)
    at c.in_ok-put_created.ensures.next in
    rw (c.in_ok-copy-2.ensures, c.in_ok-copy-3.ensures, c.from_vec.ensures, c.from_vec-2.ensures)
    (applied (base_of c.args.base.now) (tx_of c.args.tx.now) c.in_ok-given.given.pairs _ _ _ pairs left stored next)
