use Rattle.std.proofs.Common.{◌≡◌, ◌<◌, ◌-◌, ◌^◌, ◌∷◌, [], sym, ap, ap₂, ◌∙◌, length, length-append, rules}
use Rattle.std.proofs.Common.{arith}
use Rattle.std.proofs.lemmas.Result.{err_from_is_err_and}
use Rattle.std.specs.Int.{w32, to_be_bytes}
use Rattle.ori_bytes.specs.declared.limits.TheConstants.{MAX_NESTING}
use Rattle.ori_model.specs.Data.{record_of}
use Rattle.ori_record.specs.declared.fault.RecordFault.TheVariants.{TooDeep}
use Rattle.ori_record.specs.Seen.{own_left}
use Rattle.ori_record.specs.Spelling.{AreOwnFields, IsHeaded}
use Rattle.ori_record.specs.Writable.{first_place, merged, own_header_size}
use Rattle.ori_record.specs.Writing.{Adds, own_nestings}
use Rattle.ori_record.proofs.Filling.{merged_ready, merged_nestings, deep_told, spelled_so, same_error}
use Rattle.ori_record.proofs.record.write.Goals as goal

pub put_header-requires-clause-ready : goal.put_header-requires-clause-ready
put_header-requires-clause-ready c =
    let fs = c.args.stored.now.fields in
    let bs = c.args.bags.now in
    let same : own_left c.new-own.result ≡ merged c.args.stored.now.fields c.args.bags.now
    = c.new-own.ensures ∙ ap₂ merged c.as_slice.ensures.all c.as_slice-2.ensures.all in
    let place : length c.push.new.self - c.len-base.result ≡ 1
    = omega (
      arith,
      c.len-base.ensures,
      ap length c.in_ok-push.ensures.ok,
      length-append c.extend_from_slice.new.self (0 ∷ []),
    ) in
    rw (same, place, c.as_str.ensures) (merged_ready fs bs
    (first_place 1 c.args.stored.now.class (own_header_size (merged fs bs))) c.requires.named c.requires.proper
    c.requires.fit c.requires.placed)

pub returns-in_err-put_header-clause-deep : goal.returns-in_err-put_header-clause-deep
returns-in_err-put_header-clause-deep c = λ e.
    let same : own_left c.new-own.result ≡ merged c.args.stored.now.fields c.args.bags.now
    = c.new-own.ensures ∙ ap₂ merged c.as_slice.ensures.all c.as_slice-2.ensures.all in
    let r = c.from_residual-in_err-put_header in
    let p = err_from_is_err_and r.result r.ensures.1 in
    let deep = deep_told {X = Unit {0}} (λ x. Adds (λ b. IsHeaded (length c.push.new.self - c.len-base.result)
    c.as_str.result.now
    (λ at g v. AreOwnFields at (own_left c.new-own.result) g v) b) c.push.new.self c.put_header.new.out)
    (own_nestings (own_left c.new-own.result)) MAX_NESTING _ c.in_err-put_header.ensures
    (sym p.2 ∙ same_error p.0 TooDeep (sym p.1 ∙ e)) in
    omega (arith, deep, ap own_nestings same, merged_nestings c.args.stored.now.fields c.args.bags.now)

pub returns-clause-ok : goal.returns-clause-ok
returns-clause-ok c =
    let fs = c.args.stored.now.fields in
    let bs = c.args.bags.now in
    let same : own_left c.new-own.result ≡ merged c.args.stored.now.fields c.args.bags.now
    = c.new-own.ensures ∙ ap₂ merged c.as_slice.ensures.all c.as_slice-2.ensures.all in
    let place : length c.push.new.self - c.len-base.result ≡ 1
    = omega (
      arith,
      c.len-base.ensures,
      ap length c.in_ok-push.ensures.ok,
      length-append c.extend_from_slice.new.self (0 ∷ []),
    ) in
    let versioned : c.extend_from_slice.new.self ≡ to_be_bytes w32 c.args.stored.now.version = search rules in
    let fits : c.args.stored.now.version < 2 ^ 32 = search rules in
    let written = rw (same, place, c.as_str.ensures) at c.in_ok-put_header.ensures in
    spelled_so (record_of c.args.stored.now) c.args.bags.now c.extend_from_slice.new.self c.push.new.self
    c.put_header.new.out versioned c.in_ok-push.ensures.ok fits c.as_slice.ensures.rising c.as_slice-2.ensures.rising
    c.requires.no_bags written.0 written.1
