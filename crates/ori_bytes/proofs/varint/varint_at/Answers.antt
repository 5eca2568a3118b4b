use Rattle.std.proofs.Common.{take, drop, refl, sym, rules}
use Rattle.std.proofs.lemmas.List.{take-append-drop}
use Rattle.ori_bytes.proofs.varint.varint_at.Goals as goal

pub returns-then-ends_in_zero : goal.returns-then-ends_in_zero
returns-then-ends_in_zero c =
    let front = take c.in-Some.len c.args.bytes.now in (
      refl,
      (
        front,
        drop c.in-Some.len c.args.bytes.now,
        record { groups = search rules; long = search rules },
        sym
            (take-append-drop c.in-Some.len c.args.bytes.now),
      ),
    )

pub returns-in_default-number_of : goal.returns-in_default-number_of
returns-in_default-number_of c =
    let front = take c.in-Some.len c.args.bytes.now in (
      refl,
      (
        front,
        drop c.in-Some.len c.args.bytes.now,
        record
            { groups = search rules; shortest = search rules; range = search rules },
        sym
            (take-append-drop c.in-Some.len c.args.bytes.now),
      ),
    )
