use Rattle.std.proofs.Common.{◌≡◌, ◌-◌, length, ◌∙◌}
use Rattle.ori_volmem.specs.Crashes.{loose_byte}
use Rattle.ori_volmem.proofs.Filled.{span_bytes, mid_long}
use Rattle.ori_volmem.proofs.memory_file.fill_span.Goals as goal

pub returns-then-from-end : goal.returns-then-from-end
returns-then-from-end c =
    let long : length c.fill_part.new.part ≡ c.end_within-end.result - c.min-from.result =
    c.fill_part.auto.part ∙ mid_long c.args.bytes.now _ _ c.end_within-end.ensures.bound c.if-from-end.true in
    span_bytes c.args.bytes.now c.fill_part.new.part c.args.span c.min-from.result c.end_within-end.result
    (loose_byte c.args.pick c.args.seed)
    c.min-from.ensures c.end_within-end.ensures.bound c.if-from-end.true c.end_within-end.ensures.value long
    c.fill_part.ensures
