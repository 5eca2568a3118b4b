use Rattle.std.proofs.Common.{◌≡◌, arith}
use Rattle.ori_text.proofs.Decimals.{one_number}
use Rattle.ori_text.proofs.line.read_count.Goals as goal

pub returns-then-count-gt-MAX_TRIES : goal.returns-then-count-gt-MAX_TRIES
returns-then-count-gt-MAX_TRIES c = λ count some small e.
    let read = c.in_ok-count.ensures in
    let same : c.in_ok-count.count ≡ count =
    one_number c.args.text.now c.in_ok-count.count count read.1 (omega arith) read.2 e in
    omega arith
