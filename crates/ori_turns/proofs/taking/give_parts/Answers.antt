use Rattle.std.proofs.Common.{◌≡◌, ◌≢◌, ◌<◌, ◌+◌, ◌-◌, ⊎_elim, ℕ, length, slice_index_or, slice_set, replicate, None}
use Rattle.std.proofs.Common.{subst, sym, ap, ◌∙◌, refl, arith}
use Rattle.std.proofs.lemmas.Bool.{cases_eq}
use Rattle.std.proofs.lemmas.List.{get_or-set_same, get_or-set_other}
use Rattle.ori_bytes.specs.declared.limits.TheConstants.{PARTITIONS}
use Rattle.ori_turns.proofs.Giving.{all_none, above_all, all_free, gave_same, LastOnes, first_none, next_last}
use Rattle.ori_turns.proofs.taking.give_parts.Goals as goal

pub loop-step-init : goal.loop-step-init
loop-step-init g c = record {
  shares = g.met.F.Frames.shares_itself c.args.frames.now;
  held = c.requires.held;
  range = c.requires.range;
  rule = c.requires.rule;
  below = λ k lt. refl;
  above = λ k most. above_all c.args.hand.now.parts.items k (omega (arith, most, c.args.hand.now.all));
  gave = first_none c.args.hand.now.parts.items (g.F.Frames.seat c.args.frames.now);
  gives = λ cache gives is. (gives, is);
  waits = refl;
}

pub loop-step-preserved : goal.loop-step-preserved
loop-step-preserved g c =
    let p : ℕ = PARTITIONS - 1 - c.loop-step.step in
    let at : p + 1 + c.loop-step.step ≡ PARTITIONS = omega (arith, c.loop-step-test.true) in
    let lt : p < length c.loop-step.hand.parts.items = omega (arith, c.loop-step.hand.all, at) in
    let i = c.loop-step.invariant in
    record {
      shares = g.met.F.Frames.shares_on c.args.frames.now c.loop-step.frames c.give_one.new.frames i.shares
          c.give_one.ensures.shares;
      held = c.give_one.ensures.held;
      range = c.give_one.ensures.range;
      rule = c.give_one.ensures.rule;
      below = λ k low. ap (λ l. slice_index_or l k None) c.give_one.ensures.hand
          ∙ get_or-set_other c.loop-step.hand.parts.items p k None None (λ same. absurd (omega (arith, same, low, at)))
          ∙ i.below k (omega (arith, low));
      above = λ k most. ap (λ l. slice_index_or l k None) c.give_one.ensures.hand
          ∙ ⊎_elim (λ (same : k ≡ p). subst
          (λ (n : ℕ). slice_index_or (slice_set c.loop-step.hand.parts.items p None) n None ≡ None) (sym same)
          (get_or-set_same c.loop-step.hand.parts.items p None None lt))
          (λ (apart : k ≢ p). get_or-set_other c.loop-step.hand.parts.items p k None None apart
          ∙ i.above k (omega (arith, most, apart, at)))
          (cases_eq k p);
      gave = next_last c.loop-step.step p c.args.hand.now.parts.items c.loop-step.hand.parts.items
          (g.F.Frames.seat c.args.frames.now) (g.F.Frames.seat c.loop-step.frames)
          (g.F.Frames.seat c.give_one.new.frames) c.loop-step-test.true at (i.below p (omega (arith, at))) i.gave
          c.give_one.ensures.gave;
      gives = λ cache gives is.
          let before = i.gives cache gives is in c.give_one.ensures.gives cache before.0 before.1;
      waits = c.give_one.ensures.waits ∙ i.waits;
    }

pub returns-clause-empty : goal.returns-clause-empty
returns-clause-empty g c =
    all_none c.loop-step.hand.parts.items
    (λ k. c.loop-step.invariant.above k (omega (arith, c.loop-step-test.false)))
    ∙ ap (λ n. replicate n None) c.loop-step.hand.all

pub returns-clause-free : goal.returns-clause-free
returns-clause-free g c =
    all_free (g.F.Frames.seat c.loop-step.frames) c.loop-step.hand.parts.items c.loop-step.invariant.held
    (λ k. c.loop-step.invariant.above k (omega (arith, c.loop-step-test.false)))
    (g.met.F.Frames.eight c.loop-step.frames).0

pub returns-clause-gave : goal.returns-clause-gave
returns-clause-gave g c =
    gave_same (LastOnes c.loop-step.step) (λ k. k < PARTITIONS) c.args.hand.now.parts.items
    (g.F.Frames.seat c.args.frames.now) (g.F.Frames.seat c.loop-step.frames) (λ k in_g. in_g.0)
    (λ k low. (low, omega (arith, c.loop-step-test.false))) c.loop-step.invariant.gave
