use Rattle.std.proofs.Common.{◌≡◌, ◌∙◌, ◌+◌, ◌*◌, ℕ, length, ap, ap₂, arith, refl, Err, Ok}
use Rattle.ori_log.specs.Log.{IsLogRecord}
use Rattle.ori_log.specs.Files.{zeros_behind}
use Rattle.ori_log.specs.Images.{behind_gate}
use Rattle.ori_log.specs.Appending.{need_of}
use Rattle.ori_log.specs.declared.fault.LogFault.TheVariants.{LogFull}
use Rattle.ori_log.proofs.Images.{length-body, length-behind}
use Rattle.ori_log.proofs.Joins.{log_record, body_fails, gate_fails, joins, opens_there}
use Rattle.ori_volume.proofs.Known.{tells_refl, tells_map, tells_then}
use Rattle.ori_log.proofs.AppendFiles.{append_full, append_body_fails, append_gate_fails, append_files, gate_there}
use Rattle.ori_log.proofs.log.Log.append.Goals as goal

pub returns-then-need-room-clause-full : goal.returns-then-need-room-clause-full
returns-then-need-room-clause-full g c = λ full.
    let need : 10 + 4100 * c.len.result ≡ need_of c.args.images.now =
    omega (arith, c.len.ensures.value, length-body c.args.images.now c.len.ensures.whole) in
    (ap₂ (λ n m. Err (LogFull n m)) need c.room-room.ensures, refl, refl)

pub returns-then-need-room-clause-fits : goal.returns-then-need-room-clause-fits
returns-then-need-room-clause-fits g c =
    λ fits. absurd (omega (
      arith,
      c.len.ensures.value,
      length-body c.args.images.now c.len.ensures.whole,
      c.room-room.ensures,
      c.if-need-room.true,
    ))

pub returns-in_err-write_body-clause-full : goal.returns-in_err-write_body-clause-full
returns-in_err-write_body-clause-full g c =
    λ full. absurd (omega (
      arith,
      c.len.ensures.value,
      length-body c.args.images.now c.len.ensures.whole,
      c.room-room.ensures,
      c.if-need-room.false,
    ))

pub returns-in_err-write_body-clause-crash : goal.returns-in_err-write_body-clause-crash
returns-in_err-write_body-clause-crash g c =
    let is_record : IsLogRecord c.args.images.now =
    log_record c.args.images.now c.requires.some c.requires.few c.requires.rising c.len.ensures.whole in
    tells_map _ _ _ _
    (λ old new told body. body_fails c.args.self.now c.write_body.new.self c.args.images.now _
    c.in_err-write_body.field-0.0 c.from_residual.result old new c.from_residual.ensures.0 is_record body)
    c.in_err-write_body.ensures.crash

pub returns-in_err-open_gate-clause-full : goal.returns-in_err-open_gate-clause-full
returns-in_err-open_gate-clause-full g c =
    λ full. absurd (omega (
      arith,
      c.len.ensures.value,
      length-body c.args.images.now c.len.ensures.whole,
      c.room-room.ensures,
      c.if-need-room.false,
    ))

pub returns-in_err-open_gate-clause-crash : goal.returns-in_err-open_gate-clause-crash
returns-in_err-open_gate-clause-crash g c =
    let is_record : IsLogRecord c.args.images.now =
    log_record c.args.images.now c.requires.some c.requires.few c.requires.rising c.len.ensures.whole in
    tells_then _ _ _ _ _ _
    (λ old mid new body gate.
    gate_fails c.args.self.now c.open_gate.new.self c.args.images.now _ c.in_err-open_gate.field-0.0
    c.from_residual-in_err-open_gate.result old mid new c.from_residual-in_err-open_gate.ensures.0
    is_record body
    (opens_there c.args.self.now c.write_body.new.self (Err c.in_err-open_gate.field-0.0) mid new
    (c.in_ok-write_body.ensures.same).0 (c.in_ok-write_body.ensures.same).1 gate))
    c.in_ok-write_body.ensures.crash c.in_err-open_gate.ensures.crash

pub returns-clause-full : goal.returns-clause-full
returns-clause-full g c = λ full. absurd (omega (
  arith,
  c.len.ensures.value,
  length-body c.args.images.now
      c.len.ensures.whole,
  c.room-room.ensures,
  c.if-need-room.false,
))

pub returns-clause-crash : goal.returns-clause-crash
returns-clause-crash g c =
    let is_record : IsLogRecord c.args.images.now =
    log_record c.args.images.now c.requires.some c.requires.few c.requires.rising c.len.ensures.whole in
    let place : c.open_gate.new.self.place ≡ c.args.self.now.place =
    ap (λ l. l.place) c.in_ok-open_gate.ensures.same ∙ (c.in_ok-write_body.ensures.same).1 in
    let tail : c.open_gate.new.self.tail ≡ c.args.self.now.tail =
    ap (λ l. l.tail) c.in_ok-open_gate.ensures.same ∙ (c.in_ok-write_body.ensures.same).2 in
    let long : c.open_gate.new.self.length ≡ c.args.self.now.length =
    ap (λ l. l.length) c.in_ok-open_gate.ensures.same ∙ (c.in_ok-write_body.ensures.same).3 in
    let size : length (behind_gate c.args.images.now) ≡ 9 + 4100 * length c.args.images.now =
    length-behind c.args.images.now c.len.ensures.whole in
    tells_then _ _ _ _ _ _
    (λ old mid new body gate.
    joins c.args.self.now _ c.args.images.now c.zeros_behind-zeros.result old mid new is_record
    (ap (λ l. l.file) c.in_ok-open_gate.ensures.same ∙ (c.in_ok-write_body.ensures.same).0)
    (omega (arith, place, c.len.ensures.value, size)) (omega (arith, tail))
    (ap (λ l. l.master) c.in_ok-open_gate.ensures.same ∙ (c.in_ok-write_body.ensures.same).4)
    (omega (arith, long, c.max-self.ensures, c.len.ensures.value, size))
    (c.zeros_behind-zeros.ensures.value
    ∙ ap (λ (n : ℕ). zeros_behind c.args.self.now.length n) (omega (arith, c.len.ensures.value, size))) body
    (opens_there c.args.self.now c.write_body.new.self (Ok tt) mid new (c.in_ok-write_body.ensures.same).0
    (c.in_ok-write_body.ensures.same).1 gate))
    c.in_ok-write_body.ensures.crash c.in_ok-open_gate.ensures.crash

pub returns-clause-counts : goal.returns-clause-counts
returns-clause-counts g c =
    let place : c.open_gate.new.self.place ≡ c.args.self.now.place =
    ap (λ l. l.place) c.in_ok-open_gate.ensures.same ∙ (c.in_ok-write_body.ensures.same).1 in
    let tail : c.open_gate.new.self.tail ≡ c.args.self.now.tail =
    ap (λ l. l.tail) c.in_ok-open_gate.ensures.same ∙ (c.in_ok-write_body.ensures.same).2 in (
      omega (arith, tail),
      omega (arith, place, c.len.ensures.value, length-body c.args.images.now c.len.ensures.whole),
      ap (λ l. l.file) c.in_ok-open_gate.ensures.same ∙ (c.in_ok-write_body.ensures.same).0,
    )

pub returns-then-need-room-clause-files : goal.returns-then-need-room-clause-files
returns-then-need-room-clause-files g c =
    tells_refl _ _ (λ files. append_full c.args.self.now c.args.self.now c.args.images.now (Err
    (LogFull 0 0)) files refl)

pub returns-in_err-write_body-clause-files : goal.returns-in_err-write_body-clause-files
returns-in_err-write_body-clause-files g c =
    tells_map _ _ _ _
    (λ old new told body. append_body_fails c.args.self.now c.write_body.new.self c.args.images.now
    c.zeros_behind-zeros.result c.in_err-write_body.field-0.0 c.from_residual.result old new c.from_residual.ensures.0
    body)
    c.in_err-write_body.ensures.files

pub returns-in_err-open_gate-clause-files : goal.returns-in_err-open_gate-clause-files
returns-in_err-open_gate-clause-files g c =
    let size : length (behind_gate c.args.images.now) ≡ 9 + 4100 * length c.args.images.now =
    length-behind c.args.images.now c.len.ensures.whole in
    tells_then _ _ _ _ _ _
    (λ old mid new body gate. append_gate_fails c.args.self.now c.open_gate.new.self c.args.images.now
    c.zeros_behind-zeros.result c.in_err-open_gate.field-0.0 c.from_residual-in_err-open_gate.result old mid new
    c.from_residual-in_err-open_gate.ensures.0
    (c.zeros_behind-zeros.ensures.value
    ∙ ap (λ (n : ℕ). zeros_behind c.args.self.now.length n) (omega (arith, c.len.ensures.value, size)))
    body (gate_there c.args.self.now c.write_body.new.self _ mid new (c.in_ok-write_body.ensures.same).0
    (c.in_ok-write_body.ensures.same).1 gate))
    c.in_ok-write_body.ensures.files c.in_err-open_gate.ensures.files

pub returns-clause-files : goal.returns-clause-files
returns-clause-files g c =
    let place : c.open_gate.new.self.place ≡ c.args.self.now.place =
    ap (λ l. l.place) c.in_ok-open_gate.ensures.same ∙ (c.in_ok-write_body.ensures.same).1 in
    let long : c.open_gate.new.self.length ≡ c.args.self.now.length =
    ap (λ l. l.length) c.in_ok-open_gate.ensures.same ∙ (c.in_ok-write_body.ensures.same).3 in
    let size : length (behind_gate c.args.images.now) ≡ 9 + 4100 * length c.args.images.now =
    length-behind c.args.images.now c.len.ensures.whole in
    tells_then _ _ _ _ _ _
    (λ old mid new body gate. append_files c.args.self.now _ c.args.images.now c.zeros_behind-zeros.result old mid new
    (c.zeros_behind-zeros.ensures.value
    ∙ ap (λ (n : ℕ). zeros_behind c.args.self.now.length n) (omega (arith, c.len.ensures.value, size)))
    (ap (λ l. l.master) c.in_ok-open_gate.ensures.same ∙ (c.in_ok-write_body.ensures.same).4)
    (ap (λ l. l.file) c.in_ok-open_gate.ensures.same ∙ (c.in_ok-write_body.ensures.same).0)
    (omega (arith, place, c.len.ensures.value, size))
    (omega (arith, long, c.max-self.ensures, c.len.ensures.value, size))
    body (gate_there c.args.self.now c.write_body.new.self (Ok tt) mid new (c.in_ok-write_body.ensures.same).0
    (c.in_ok-write_body.ensures.same).1 gate))
    c.in_ok-write_body.ensures.files c.in_ok-open_gate.ensures.files
