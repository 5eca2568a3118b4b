use Rattle.std.proofs.Common.{refl}
use Rattle.std.proofs.lemmas.Result.{on_ok_weaker}
use Rattle.ori_record.specs.Spelling.{dir_front}
use Rattle.ori_record.proofs.Filling.{name_added}
use Rattle.ori_record.proofs.entries.put_bag_name.Goals as goal

pub returns : goal.returns
returns c =
    on_ok_weaker c.extend_from_slice-2.result
    (λ e. name_added c.dir_front-front.result.now (dir_front c.args.field.now.dir) c.as_str-class.result.now
    c.args.field.now.class c.args.out.now c.put_count.new.out c.extend_from_slice.new.self
    c.extend_from_slice-2.new.self c.in_ok-put_count.ensures c.dir_front-front.ensures.all c.as_str-class.ensures
    c.dir_front-front.utf8 c.as_str-class.utf8 c.as_bytes.ensures.value c.as_bytes-2.ensures.value
    c.in_ok-extend_from_slice.ensures.ok e refl) c.extend_from_slice-2.ensures.ok
