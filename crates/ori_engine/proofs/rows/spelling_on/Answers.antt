use Rattle.std.proofs.Common.{◌≡◌, ◌+◌, ◌-◌, ℕ, List, ap, sym, ◌∙◌, arith, take, drop, length}
use Rattle.ori_bytes.specs.declared.limits.TheConstants.{PAGE_BYTES}
use Rattle.std.specs.Int.{w16, from_be_bytes}
use Rattle.ori_rows.specs.Stage.{record_page}
use Rattle.ori_engine.proofs.ReadRows.{are_other, are_same, spelling_on, long_is_none, other_is_none, one_spelling_on}
use Rattle.ori_engine.proofs.rows.spelling_on.Goals as goal

pub returns-then-length-clause-none : goal.returns-then-length-clause-none
returns-then-length-clause-none c = λ e.
    let whole : length c.args.page.now ≡ PAGE_BYTES = ap length (sym c.bytes-bytes.ensures.value)
    ∙ c.bytes-bytes.ensures.whole in
    long_is_none c.args.page.now whole (omega (arith, c.u16_at-length.ensures, c.if-length.true))

pub returns-then-ne-clause-none : goal.returns-then-ne-clause-none
returns-then-ne-clause-none c = λ e.
    let page = c.args.page.now in
    let whole : length page ≡ PAGE_BYTES = ap length (sym c.bytes-bytes.ensures.value) ∙ c.bytes-bytes.ensures.whole in
    let long : 10 + c.u16_at-length.result - 10 ≡ from_be_bytes w16 (drop 8 page) = omega
    (arith, c.u16_at-length.ensures) in
    let spelling : take (10 + c.u16_at-length.result - 10) (drop 10 c.bytes-bytes.result.now) ≡ spelling_on page
    = ap (λ (n : ℕ). take n (drop 10 c.bytes-bytes.result.now)) long
    ∙ ap (λ (p : List ℕ). take (from_be_bytes w16 (drop 8 page)) (drop 10 p)) c.bytes-bytes.ensures.value in
    let expected : c.bytes.result.now ≡ record_page (spelling_on page) = c.bytes.ensures.value
    ∙ c.in_ok-expected.ensures ∙ ap record_page spelling in
    other_is_none page whole (λ e. are_other _ _ c.if-ne.ensures (c.bytes-bytes.ensures.value ∙ e ∙ sym expected))

pub returns-clause-page : goal.returns-clause-page
returns-clause-page c = sym c.bytes-bytes.ensures.value ∙ are_same _ _ c.if-ne.ensures ∙ c.bytes.ensures.value
    ∙ c.in_ok-expected.ensures

pub returns-clause-one : goal.returns-clause-one
returns-clause-one c = λ other e.
    let page = c.args.page.now in
    let whole : length page ≡ PAGE_BYTES = ap length (sym c.bytes-bytes.ensures.value) ∙ c.bytes-bytes.ensures.whole in
    let is : page ≡ record_page (take (10 + c.u16_at-length.result - 10)
    (drop 10 c.bytes-bytes.result.now)) = sym c.bytes-bytes.ensures.value ∙ are_same _ _ c.if-ne.ensures
    ∙ c.bytes.ensures.value ∙ c.in_ok-expected.ensures in
    one_spelling_on page other (take (10 + c.u16_at-length.result - 10) (drop 10 c.bytes-bytes.result.now)) whole e is
