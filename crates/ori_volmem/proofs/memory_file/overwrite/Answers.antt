use Rattle.std.proofs.Common.{◌≡◌, ◌+◌, ◌-◌, ◌++◌, ℕ, List, length, take, drop, replicate, max, arith, ◌∙◌, ap, take_at}
use Rattle.ori_volume.specs.Effects.{put}
use Rattle.ori_volmem.proofs.Bytes.{put_in_room}
use Rattle.ori_volmem.proofs.memory_file.overwrite.Goals as goal

pub returns-clause-ok : goal.returns-clause-ok
returns-clause-ok c =
    let old : List ℕ = c.args.bytes.now.items in
    let piece : List ℕ = c.args.piece.now in
    let new : List ℕ = c.replace.new.bytes in
    let counts : c.args.bytes.now.len ≡ length old = c.args.bytes.now.ok.0 in
    let room : c.max.result ≡ max (c.args.at + length piece) (length old) = omega arith in
    let is : c.as_mut_slice.result.now ≡ take c.max.result old ++ replicate (c.max.result - length old) 0 =
    c.as_mut_slice.ensures.value ∙ c.in_ok-resize.ensures.items
    ∙ ap (λ (m : ℕ). take c.max.result old ++ replicate (c.max.result - m) 0) counts in
    let done : new ≡ put old c.args.at piece =
    c.replace.ensures ∙ ap (λ (l : List ℕ). take c.args.at l ++ piece ++ drop (c.args.at + length piece) l) is
    ∙ put_in_room old piece c.args.at c.max.result room in
    let long : length new ≡ c.resize.new.self.len = omega (arith, c.as_mut_slice.ensures.len) in
    take_at new _ _ long ∙ done
