use Rattle.std.proofs.Common.{◌≡◌, ◌<◌, length, get_or, None, Some, sym, ◌∙◌, arith}
use Rattle.std.proofs.lemmas.List.{get_or_default}
use Rattle.ori_pool.proofs.Holding.{hand_installed, hand_places, hand_slots}
use Rattle.ori_pool.proofs.Contents.{hand_from}
use Rattle.ori_pool.proofs.hand.Hand.install.Goals as goal

pub returns-in-Some-clause-places : goal.returns-in-Some-clause-places
returns-in-Some-clause-places c =
    let low : c.number-at.result < length c.args.self.now.parts.items
    = omega (arith, c.number-at.ensures.within, c.args.self.now.all) in
    let was : get_or c.args.self.now.parts.items c.number-at.result None ≡ Some c.in-Some.part
    = get_or_default c.args.self.now.parts.items c.number-at.result None _ low ∙ sym c.index_mut.ensures.value
    ∙ sym c.in-Some.ensures.value in
    hand_places c.args.self.now.parts.items c.number-at.result low _ c.in-Some.part c.install.new.self was c.args.page
    c.number-at.ensures.value c.args.content c.requires c.install.ensures.installed

pub returns-in-Some-clause-dirty : goal.returns-in-Some-clause-dirty
returns-in-Some-clause-dirty c =
    let low : c.number-at.result < length c.args.self.now.parts.items
    = omega (arith, c.number-at.ensures.within, c.args.self.now.all) in
    let was : get_or c.args.self.now.parts.items c.number-at.result None ≡ Some c.in-Some.part
    = get_or_default c.args.self.now.parts.items c.number-at.result None _ low ∙ sym c.index_mut.ensures.value
    ∙ sym c.in-Some.ensures.value in
    hand_installed c.args.self.now.parts.items c.number-at.result low _ c.in-Some.part c.install.new.self was
    c.args.page c.number-at.ensures.value c.args.content c.requires c.install.ensures.installed

pub returns-in-Some-clause-slots : goal.returns-in-Some-clause-slots
returns-in-Some-clause-slots c =
    let low : c.number-at.result < length c.args.self.now.parts.items
    = omega (arith, c.number-at.ensures.within, c.args.self.now.all) in
    let was : get_or c.args.self.now.parts.items c.number-at.result None ≡ Some c.in-Some.part
    = get_or_default c.args.self.now.parts.items c.number-at.result None _ low ∙ sym c.index_mut.ensures.value
    ∙ sym c.in-Some.ensures.value in
    hand_slots c.args.self.now.parts.items c.number-at.result low _ c.in-Some.part c.install.new.self was
    c.args.page c.number-at.ensures.value c.args.content c.requires c.install.ensures.installed

pub returns-in-Some-clause-contents : goal.returns-in-Some-clause-contents
returns-in-Some-clause-contents c =
    let low : c.number-at.result < length c.args.self.now.parts.items
    = omega (arith, c.number-at.ensures.within, c.args.self.now.all) in
    let was : get_or c.args.self.now.parts.items c.number-at.result None ≡ Some c.in-Some.part
    = get_or_default c.args.self.now.parts.items c.number-at.result None _ low ∙ sym c.index_mut.ensures.value
    ∙ sym c.in-Some.ensures.value in
    hand_from c.args.self.now.parts.items c.number-at.result low _ c.in-Some.part c.install.new.self was c.args.page
    c.args.content c.number-at.ensures.value c.install.ensures.held
