use Rattle.std.proofs.Common.{◌≡◌, ℕ, List, length, arith, ◌∙◌, ap, take_at, get_or, ◌<◌, if◌then◌else◌}
use Rattle.ori_volume.specs.Disk.{FileData}
use Rattle.ori_volmem.specs.declared.span.Span.{Span}
use Rattle.ori_volmem.specs.Crashes.{loose_byte}
use Rattle.ori_volmem.specs.Record.{data_of, in_spans}
use Rattle.ori_volmem.specs.States.{state_of}
use Rattle.ori_volmem.proofs.Filled.{image_as_read, image_as_drawn, resized}
use Rattle.ori_volmem.proofs.memory_file.MemFile.image.Goals as goal

pub returns-then-pick-eq0 : goal.returns-then-pick-eq0
returns-then-pick-eq0 c =
    let file : FileData = data_of (state_of c.args.self.now) in
    image_as_read file _ c.image_length-length.result _ c.args.seed c.image_length-length.ensures c.if-pick-eq0.true
    (c.from_vec.ensures
    ∙ resized file.bytes _ _ _ _ _ _ _ c.deref.ensures.value (c.len.ensures ∙ c.args.self.now.bytes.ok.0)
    c.min-kept.ensures c.in_ok-bytes.ensures.items
    c.in_ok-bytes.bytes.ok.0 c.in_ok-resize.ensures.items)

pub returns : goal.returns
returns c =
    let file : FileData = data_of (state_of c.args.self.now) in
    let long : length c.fill_spans.new.bytes ≡ c.resize.new.self.len =
    omega (arith, c.fill_spans.auto.bytes, c.as_mut_slice.ensures.len) in
    let whole : c.from_vec-2.result ≡ c.fill_spans.new.bytes =
    c.from_vec-2.ensures ∙ take_at c.fill_spans.new.bytes _ _ long in
    image_as_drawn file c.as_mut_slice.result.now _ c.image_length-length.result _ c.args.seed
    c.image_length-length.ensures c.if-pick-eq0.false
    (c.as_mut_slice.ensures.value
    ∙ resized file.bytes _ _ _ _ _ _ _ c.deref.ensures.value (c.len.ensures ∙ c.args.self.now.bytes.ok.0)
    c.min-kept.ensures c.in_ok-bytes.ensures.items
    c.in_ok-bytes.bytes.ok.0 c.in_ok-resize.ensures.items)
    (ap length whole ∙ c.fill_spans.auto.bytes)
    (λ k within.
    let inside : k < length c.fill_spans.new.bytes = omega (arith, ap length whole) in
    ap (λ (l : List ℕ). get_or l k 0) whole
    ∙ c.fill_spans.ensures k inside
    ∙ ap (λ (spans : List Span). if in_spans spans k then loose_byte c.args.pick c.args.seed k else get_or
    c.as_mut_slice.result.now k 0) c.as_slice.ensures.value)
