use Rattle.std.proofs.Common.{◌≡◌, ◌<◌, length, get_or, None, Some, sym, ap, ◌∙◌, arith}
use Rattle.std.proofs.lemmas.List.{get_or_default}
use Rattle.ori_volume.proofs.Known.{tells_map}
use Rattle.ori_pool.specs.Held.{placed_in}
use Rattle.ori_pool.proofs.Contents.{hand_tended}
use Rattle.ori_pool.proofs.GoingHome.{sends_disk, sends_read}
use Rattle.ori_pool.proofs.sending.send_next.Goals as goal

pub flush_first-done-requires : goal.flush_first-done-requires
flush_first-done-requires g c =
    let low : c.args.at < length c.args.hand.now.parts.items = omega (arith, c.requires.within, c.args.hand.now.all) in
    let was : get_or c.args.hand.now.parts.items c.args.at None ≡ Some c.in-Some.part
    = get_or_default c.args.hand.now.parts.items c.args.at None _ low ∙ sym c.index_mut.ensures.value
    ∙ sym c.in-Some.ensures.value in
    record { below = λ page there. (c.requires.own c.args.at page (ap (λ o. placed_in o page) was ∙ there)).1 }

pub returns-clause-crash : goal.returns-clause-crash
returns-clause-crash g c =
    let low : c.args.at < length c.args.hand.now.parts.items = omega (arith, c.requires.within, c.args.hand.now.all) in
    let was : get_or c.args.hand.now.parts.items c.args.at None ≡ Some c.in-Some.part
    = get_or_default c.args.hand.now.parts.items c.args.at None _ low ∙ sym c.index_mut.ensures.value
    ∙ sym c.in-Some.ensures.value in
    tells_map _ _ _ _
    (λ x y known flushed. sends_disk c.args.hand.now.parts.items c.args.at low _ c.in-Some.part
    c.flush_first-done.new.part was c.flush_first-done.result x y
    (λ page there. c.requires.own c.args.at page (ap (λ o. placed_in o page) was ∙ there)) flushed)
    c.flush_first-done.ensures.crash

pub returns-clause-read : goal.returns-clause-read
returns-clause-read g c =
    let low : c.args.at < length c.args.hand.now.parts.items = omega (arith, c.requires.within, c.args.hand.now.all) in
    let was : get_or c.args.hand.now.parts.items c.args.at None ≡ Some c.in-Some.part
    = get_or_default c.args.hand.now.parts.items c.args.at None _ low ∙ sym c.index_mut.ensures.value
    ∙ sym c.in-Some.ensures.value in
    tells_map _ _ _ _
    (λ x y known flushed. sends_read c.args.hand.now.parts.items c.args.at low _ c.in-Some.part
    c.flush_first-done.new.part was c.flush_first-done.result x y
    (λ page there. c.requires.own c.args.at page (ap (λ o. placed_in o page) was ∙ there)) flushed)
    c.flush_first-done.ensures.read

pub returns-clause-tended : goal.returns-clause-tended
returns-clause-tended g c =
    let low : c.args.at < length c.args.hand.now.parts.items = omega (arith, c.requires.within, c.args.hand.now.all) in
    let was : get_or c.args.hand.now.parts.items c.args.at None ≡ Some c.in-Some.part
    = get_or_default c.args.hand.now.parts.items c.args.at None _ low ∙ sym c.index_mut.ensures.value
    ∙ sym c.in-Some.ensures.value in
    hand_tended c.args.hand.now.parts.items c.args.at low _ c.in-Some.part c.flush_first-done.new.part was
    c.flush_first-done.ensures.places c.flush_first-done.ensures.contents
