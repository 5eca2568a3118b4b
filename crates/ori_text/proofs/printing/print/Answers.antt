use Rattle.std.proofs.Common.{◌≡◌, ◌≤◌, ◌-◌, ℕ, List, length, take, drop, sym, ◌∙◌, subst, arith, take-append-drop}
use Rattle.std.proofs.Common.{take-add}
use Rattle.std.proofs.lemmas.List.{take_rest, length-drop}
use Rattle.ori_volume.specs.Streams.{Gave}
use Rattle.ori_volume.proofs.Pieces.{gave_more}
use Rattle.ori_text.proofs.printing.print.Goals as goal

pub returns-in-Err-clause-err : goal.returns-in-Err-clause-err
returns-in-Err-clause-err g c =
    let bytes = c.as_bytes-bytes.result.now in
    record {
      part = take c.loop-done.done bytes;
      left = drop c.loop-done.done bytes;
      parts = sym c.as_bytes-bytes.ensures.value ∙ sym (take-append-drop c.loop-done.done bytes);
      gave = rw c.in-Err.ensures.failed c.loop-done.invariant.gave;
    }

pub loop-done-preserved : goal.loop-done-preserved
loop-done-preserved g c =
    let bytes = c.as_bytes-bytes.result.now in
    let done = c.loop-done.done in
    let rest : take (length bytes - done) (drop done bytes) ≡ drop done bytes = take_rest bytes done in
    let n = c.in-Ok.count in
    let fits : n ≤ length (drop done bytes) = subst (λ (s : List ℕ). n ≤ length s) rest c.in-Ok.ensures.bound in
    let more : Gave (g.K.Sink.taken c.loop-done.sink) (g.K.Sink.taken c.write.new.self) (take n (drop done bytes)) =
    subst (λ (s : List ℕ). Gave (g.K.Sink.taken c.loop-done.sink) (g.K.Sink.taken c.write.new.self) (take n s)) rest
    c.in-Ok.ensures.bytes in
    record {
      within = omega (arith, length-drop done bytes, c.loop-done.invariant.within);
      gave = rw (take-add done n bytes) (gave_more _ _ _ (take done bytes) (take n (drop done bytes))
          c.loop-done.invariant.gave more);
      later = omega (arith, c.loop-done.invariant.later, c.in-Ok.ensures.cause.later);
    }
