use Rattle.std.proofs.Common.{◌≡◌, ◌<◌, length, get_or, None, Some, sym, ◌∙◌, arith}
use Rattle.std.proofs.lemmas.List.{get_or_default}
use Rattle.ori_pool.proofs.Holding.{reserves_dirty, reserves_places, reserves_place, reserves_own}
use Rattle.ori_pool.proofs.Contents.{hand_reserved}
use Rattle.ori_pool.proofs.hand.Hand.reserve.Goals as goal

pub returns-clause-place : goal.returns-clause-place
returns-clause-place c =
    let low : c.number-at.result < length c.args.self.now.parts.items
    = omega (arith, c.number-at.ensures.within, c.args.self.now.all) in
    let was : get_or c.args.self.now.parts.items c.number-at.result None ≡ Some c.in-Some.part
    = get_or_default c.args.self.now.parts.items c.number-at.result None _ low ∙ sym c.index_mut.ensures.value
    ∙ sym c.in-Some.ensures.value in
    reserves_place c.args.self.now.parts.items c.number-at.result low _ c.in-Some.part c.reserve-done.new.self was
    c.args.page c.number-at.ensures.value c.reserve-done.result c.reserve-done.ensures.ok c.reserve-done.ensures.err

pub returns-clause-places : goal.returns-clause-places
returns-clause-places c =
    let low : c.number-at.result < length c.args.self.now.parts.items
    = omega (arith, c.number-at.ensures.within, c.args.self.now.all) in
    let was : get_or c.args.self.now.parts.items c.number-at.result None ≡ Some c.in-Some.part
    = get_or_default c.args.self.now.parts.items c.number-at.result None _ low ∙ sym c.index_mut.ensures.value
    ∙ sym c.in-Some.ensures.value in
    reserves_places c.args.self.now.parts.items c.number-at.result low _ c.in-Some.part c.reserve-done.new.self was
    c.args.page c.number-at.ensures.value c.reserve-done.result c.reserve-done.ensures.ok c.reserve-done.ensures.err

pub returns-clause-dirty : goal.returns-clause-dirty
returns-clause-dirty c =
    let low : c.number-at.result < length c.args.self.now.parts.items
    = omega (arith, c.number-at.ensures.within, c.args.self.now.all) in
    let was : get_or c.args.self.now.parts.items c.number-at.result None ≡ Some c.in-Some.part
    = get_or_default c.args.self.now.parts.items c.number-at.result None _ low ∙ sym c.index_mut.ensures.value
    ∙ sym c.in-Some.ensures.value in
    reserves_dirty c.args.self.now.parts.items c.number-at.result low _ c.in-Some.part c.reserve-done.new.self was
    c.args.page c.number-at.ensures.value c.reserve-done.result c.reserve-done.ensures.ok c.reserve-done.ensures.err

pub returns-clause-own : goal.returns-clause-own
returns-clause-own c =
    let low : c.number-at.result < length c.args.self.now.parts.items
    = omega (arith, c.number-at.ensures.within, c.args.self.now.all) in
    let was : get_or c.args.self.now.parts.items c.number-at.result None ≡ Some c.in-Some.part
    = get_or_default c.args.self.now.parts.items c.number-at.result None _ low ∙ sym c.index_mut.ensures.value
    ∙ sym c.in-Some.ensures.value in
    reserves_own c.args.self.now.parts.items c.number-at.result low _ c.in-Some.part c.reserve-done.new.self was
    c.args.page c.number-at.ensures.value c.reserve-done.result c.reserve-done.ensures.ok c.reserve-done.ensures.err

pub returns-clause-contents : goal.returns-clause-contents
returns-clause-contents c =
    let low : c.number-at.result < length c.args.self.now.parts.items
    = omega (arith, c.number-at.ensures.within, c.args.self.now.all) in
    let was : get_or c.args.self.now.parts.items c.number-at.result None ≡ Some c.in-Some.part
    = get_or_default c.args.self.now.parts.items c.number-at.result None _ low ∙ sym c.index_mut.ensures.value
    ∙ sym c.in-Some.ensures.value in
    hand_reserved c.args.self.now.parts.items c.number-at.result low _ c.in-Some.part c.reserve-done.new.self was
    c.args.page c.reserve-done.result c.reserve-done.ensures.ok c.reserve-done.ensures.err
