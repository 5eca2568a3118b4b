use Rattle.std.proofs.Common.{Ok, Err, ◌≡◌, length, refl, sym, ap, rules, to_z, of_z}
use Rattle.std.specs.Int.{w64}
use Rattle.std.specs.Int.RustNames.{FitsSigned}
use Rattle.std.proofs.lemmas.Int.{to_z-of_z}
use Rattle.std.proofs.lemmas.Result.{err_from_is_err_and}
use Rattle.ori_bytes.specs.Reading.{advance, rest}
use Rattle.ori_bytes.specs.Varint.{Reads}
use Rattle.ori_bytes.proofs.Front.{Exact, exact, fault_tells, found_begins, found_front}
use Rattle.ori_bytes.proofs.cursor.Cursor.take_varint.Goals as goal

-- what the fault says stands at the place
fault : (c : goal.After-from_residual) → Exact (rest c.args.self.now) c.args.self.now.at c.from_residual.result
fault c =
    let r : Reads (rest c.args.self.now) c.args.self.now.at (Err c.in_err-number.field-0.0) = search rules in
    let p = err_from_is_err_and c.from_residual.result c.from_residual.ensures.1 in
    exact _ _ _ (rw (p.1, p.2) (fault_tells _ _ _ r))

pub returns-in_err-number-clause-only : goal.returns-in_err-number-clause-only
returns-in_err-number-clause-only c = (fault c).only

pub returns-in_err-number-clause-short : goal.returns-in_err-number-clause-short
returns-in_err-number-clause-short c = (fault c).short

pub returns-in_err-number-clause-long_form : goal.returns-in_err-number-clause-long_form
returns-in_err-number-clause-long_form c = (fault c).long_form

pub returns-in_err-number-clause-range : goal.returns-in_err-number-clause-range
returns-in_err-number-clause-range c = (fault c).range

-- the number is spelled at the place
number : (c : goal.After-self-1) → Reads (rest c.args.self.now) c.args.self.now.at
    (Ok (to_z w64 (of_z w64 c.in_ok-number.number), c.in_ok-number.length))
number c =
    let r : Reads (rest c.args.self.now) c.args.self.now.at (Ok (c.in_ok-number.number, c.in_ok-number.length)) =
    search rules in
    let f : FitsSigned w64 c.in_ok-number.number = search rules in
    rw (to_z-of_z w64 c.in_ok-number.number f) r

found : (c : goal.After-self-1) → Exact (rest c.args.self.now) c.args.self.now.at
    (Ok (to_z w64 (of_z w64 c.in_ok-number.number)))
found c = exact _ _ _ (found_begins _ c.args.self.now.at c.in_ok-number.length _ (number c))

pub returns-clause-found : goal.returns-clause-found
returns-clause-found c =
    let f = found_front (rest c.args.self.now) c.args.self.now.at c.in_ok-number.length _ (number c) in
    let moved : advance c.in_ok-number.length c.args.self.now ≡ advance (length f.0) c.args.self.now =
    ap (λ n. advance n c.args.self.now) (sym f.4) in
    (f.0, f.1, f.2, f.3, rw (← moved, ← c.self.view_is) refl)

pub returns-clause-only : goal.returns-clause-only
returns-clause-only c = (found c).only

pub returns-clause-short : goal.returns-clause-short
returns-clause-short c = (found c).short

pub returns-clause-long_form : goal.returns-clause-long_form
returns-clause-long_form c = (found c).long_form

pub returns-clause-range : goal.returns-clause-range
returns-clause-range c = (found c).range
