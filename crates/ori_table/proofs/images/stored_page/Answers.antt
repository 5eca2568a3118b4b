use Rattle.std.proofs.Common.{length, List, [], sym, ap, subst, arith}
use Rattle.ori_model.specs.Data.{record_of}
use Rattle.ori_record.specs.declared.bag_field.BagField.{BagField}
use Rattle.ori_record.specs.Spelling.{Spells}
use Rattle.ori_record.specs.Writable.{IsWritable}
use Rattle.ori_table.proofs.images.stored_page.Goals as goal

pub write-requires : goal.write-requires
write-requires c =
    subst (λ (bags : List BagField). IsWritable (record_of c.args.stored.now) bags) (sym c.new.ensures)
    (c.writable_record.ensures (record_of c.args.stored.now) c.requires.0 (omega (arith, c.requires.1)))

pub record_page-requires : goal.record_page-requires
record_page-requires c =
    let plain = subst (λ (bags : List BagField). Spells c.in-Ok.bytes (record_of c.args.stored.now) bags) c.new.ensures
    c.in-Ok.ensures.ok in
    omega (
      arith,
      c.requires.1,
      c.spelled_record.ensures.size c.in-Ok.bytes (record_of c.args.stored.now) [] plain,
      ap length c.as_slice.ensures,
    )
