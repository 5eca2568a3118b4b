use Rattle.std.proofs.Common.{◌<◌, length, slice_set, None, subst, sym, ◌∙◌, Option, refl}
use Rattle.std.proofs.lemmas.List.{get_or_default}
use Rattle.ori_part.specs.Parts.{PartData}
use Rattle.ori_turns.specs.Caches.{AreOwn, IsPart}
use Rattle.ori_turns.specs.Hands.{EachHeld}
use Rattle.ori_turns.proofs.Hands.{each_fewer}
use Rattle.ori_turns.proofs.Giving.{gave_one, gave_none, in_told}
use Rattle.ori_turns.proofs.taking.give_one.Goals as goal

pub give_part-requires-clause-range : goal.give_part-requires-clause-range
give_part-requires-clause-range g c =
    let lt : c.args.part < length c.args.hand.now.parts.items
    = subst (λ n. c.args.part < n) (sym c.args.hand.now.all) c.requires.part in
    c.requires.range c.args.part c.in-Some.held
    (get_or_default c.args.hand.now.parts.items c.args.part None _ lt ∙ sym c.index_mut.ensures.value
    ∙ sym c.in-Some.ensures.value)

pub returns-in-Some-clause-range : goal.returns-in-Some-clause-range
returns-in-Some-clause-range g c =
    let lt : c.args.part < length c.args.hand.now.parts.items
    = subst (λ n. c.args.part < n) (sym c.args.hand.now.all) c.requires.part in
    subst (λ (o : Option PartData). EachHeld AreOwn (slice_set c.args.hand.now.parts.items c.args.part o))
    (sym c.in-Some.ensures.after)
    (each_fewer c.args.hand.now.parts.items c.args.part lt AreOwn (λ j held at apart. c.requires.range j held at))

pub returns-in-Some-clause-gave : goal.returns-in-Some-clause-gave
returns-in-Some-clause-gave g c =
    let lt : c.args.part < length c.args.hand.now.parts.items
    = subst (λ n. c.args.part < n) (sym c.args.hand.now.all) c.requires.part in
    gave_one c.args.part c.args.hand.now.parts.items (g.F.Frames.seat c.args.frames.now)
    (g.F.Frames.seat c.give_part.new.self) c.in-Some.held
    (get_or_default c.args.hand.now.parts.items c.args.part None _ lt ∙ sym c.index_mut.ensures.value
    ∙ sym c.in-Some.ensures.value)
    c.give_part.ensures.seat
    (in_told c.args.part (g.F.Frames.seat c.args.frames.now).told c.requires.part
    (g.met.F.Frames.eight c.args.frames.now).1)

pub returns-in-Some-clause-gives : goal.returns-in-Some-clause-gives
returns-in-Some-clause-gives g c = λ cache gives is.
    let lt : c.args.part < length c.args.hand.now.parts.items
    = subst (λ n. c.args.part < n) (sym c.args.hand.now.all) c.requires.part in (
      c.give_part.ensures.gives cache gives (is c.args.part c.in-Some.held
          (get_or_default c.args.hand.now.parts.items c.args.part None _ lt ∙ sym c.index_mut.ensures.value
          ∙ sym c.in-Some.ensures.value)),
      subst (λ (o : Option PartData). EachHeld (IsPart cache) (slice_set c.args.hand.now.parts.items c.args.part o))
          (sym c.in-Some.ensures.after)
          (each_fewer c.args.hand.now.parts.items c.args.part lt (IsPart cache) (λ j held at apart. is j held at)),
    )

pub returns-in_default-clause-range : goal.returns-in_default-clause-range
returns-in_default-clause-range g c =
    let lt : c.args.part < length c.args.hand.now.parts.items
    = subst (λ n. c.args.part < n) (sym c.args.hand.now.all) c.requires.part in
    subst (λ (o : Option PartData). EachHeld AreOwn (slice_set c.args.hand.now.parts.items c.args.part o))
    (sym c.in_default.ensures.after)
    (each_fewer c.args.hand.now.parts.items c.args.part lt AreOwn (λ j held at apart. c.requires.range j held at))

pub returns-in_default-clause-gave : goal.returns-in_default-clause-gave
returns-in_default-clause-gave g c =
    let lt : c.args.part < length c.args.hand.now.parts.items
    = subst (λ n. c.args.part < n) (sym c.args.hand.now.all) c.requires.part in
    gave_none c.args.part c.args.hand.now.parts.items (g.F.Frames.seat c.args.frames.now)
    (g.F.Frames.seat c.args.frames.now)
    (get_or_default c.args.hand.now.parts.items c.args.part None _ lt ∙ sym c.index_mut.ensures.value
    ∙ sym c.in_default.ensures.value) refl
