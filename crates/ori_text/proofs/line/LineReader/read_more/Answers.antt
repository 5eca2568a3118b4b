use Rattle.std.proofs.Common.{arith, ap, ◌≤◌, ◌-◌, ◌≡◌, length, take, drop}
use Rattle.std.proofs.lemmas.List.{length-take-le, length-drop}
use Rattle.std.specs.Vec.{vec_len}
use Rattle.ori_text.specs.Lines.{Reading}
use Rattle.ori_text.proofs.StepLemmas.{reads_more}
use Rattle.ori_text.proofs.line.LineReader.read_more.Goals as goal

pub returns-clause-read : goal.returns-clause-read
returns-clause-read g c =
    let i = c.self.inside in
    let read = c.in_ok-count.ensures in
    let invariant = c.self.invariant in
    let capacity : vec_len i.buffer ≡ 8098 = invariant.2 in
    let fits : i.end ≤ length i.buffer.items = omega (arith, invariant.1, i.buffer.ok.0) in
    let moved : vec_len c.copy_within.new.self ≡ vec_len i.buffer = c.copy_within.ensures.len in
    let held : length (take (i.end - i.start) (drop i.start i.buffer.items)) ≡ length c.args.self.now.held =
    ap (λ (r : Reading). length r.held) c.self.view_is in
    let taken : length (take (i.end - i.start) (drop i.start i.buffer.items)) ≡ i.end - i.start =
    length-take-le (i.end - i.start) (drop i.start i.buffer.items)
    (omega (arith, length-drop i.start i.buffer.items)) in
    reads_more _ _ i.buffer.items c.copy_within.new.self.items c.read_at.new.buffer.items i.start i.end
    c.in_ok-count.count i.given c.args.self.now i.ended
    c.self.view_is c.self.invariant.0 fits c.copy_within.ensures.items read.front
    (omega (arith, c.read_at.new.buffer.ok.0, read.len, read.bound)) read.bytes
    (λ z. read.end z (omega (arith, c.requires)))
