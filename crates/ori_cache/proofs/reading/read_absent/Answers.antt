use Rattle.std.proofs.Common.{◌≡◌, ◌<◌, ⊎_elim, true, length, sym, subst}
use Rattle.ori_part.specs.Parts.{PartData, kept}
use Rattle.ori_turns.specs.Caches.{IsPart}
use Rattle.ori_cache.specs.declared.home.Home.{Home}
use Rattle.ori_cache.specs.Reads.{IsPageOf}
use Rattle.ori_cache.proofs.Parts.{kept_part}
use Rattle.ori_cache.proofs.Turns.{ok_told}
use Rattle.ori_cache.proofs.reading.read_absent.Goals as goal

pub returns-in-Ok-clause-gives : goal.returns-in-Ok-clause-gives
returns-in-Ok-clause-gives g c = λ cache gives is.
    let home = c.in-Ok.home in
    let old = c.args.held.now in
    let new = c.keep_copy.new.held in
    let took = c.in-Some.ensures.gives cache gives is in
    let reads = ok_told c.in-Some.done home (λ (h : Home). IsPageOf took.0 c.args.page h.content
    × (h.whole ≡ true → c.args.page < length took.0.pages)) c.in-Ok.is took.4 in
    let part : IsPart took.0 c.args.part new = ⊎_elim
    (λ (same : new ≡ old). subst (IsPart took.0 c.args.part) (sym same) took.3)
    (λ (did : (home.whole ≡ true) × (new ≡ kept old c.args.page home.content)).
    let below = reads.1 did.0 in
    subst (IsPart took.0 c.args.part) (sym did.1)
    (kept_part took.0 c.args.part old c.args.page home.content c.requires.own below (reads.0 below) took.3))
    c.keep_copy.ensures in (took.0, took.1, took.2, part, reads.0)
