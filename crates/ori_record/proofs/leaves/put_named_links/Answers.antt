use Rattle.std.proofs.Common.{◌+◌, ℕ, List, [], drop, refl, sym, subst, arith}
use Rattle.ori_bytes.specs.declared.rid.Rid.{Rid}
use Rattle.ori_value.specs.Links.{links_of}
use Rattle.ori_record.specs.Spelling.{Joins, AreNamedLinks, IsLink, IsText}
use Rattle.ori_record.proofs.Putting.{grown_first, grown_more, grown_last, first_of, none_left, both_added}
use Rattle.ori_record.specs.Writing.{Adds}
use Rattle.ori_record.proofs.Takes.{regrouped}
use Rattle.ori_record.proofs.leaves.put_named_links.Goals as goal

pub loop-name-init : goal.loop-name-init
loop-name-init c = grown_first (AreNamedLinks (links_of c.args.links.now)) c.args.out.now

pub loop-name-preserved : goal.loop-name-preserved
loop-name-preserved c =
    let links = c.args.links.now in
    let i = c.loop-name.name-index in
    let x = c.loop-name-item.result in
    let first = first_of c.args.links.now i x (omega arith) c.loop-name-item.is in
    let rest = links_of (drop (i + 1) links) in
    let named = subst (λ (n : List ℕ). Adds (IsText n) c.loop-name.out c.put_text.new.out) c.as_str.ensures
    c.in_ok-put_text.ensures in
    grown_more (Joins (IsText x.0) (IsLink x.1)) (AreNamedLinks (links_of (drop i links))) (AreNamedLinks rest)
    (AreNamedLinks (links_of links)) _ _ _ c.loop-name.invariant
    (both_added (IsText x.0) (IsLink x.1) _ _ _ named c.in_ok-put_link.ensures)
    (λ b j. subst (λ (ls : List (List ℕ × Rid)). AreNamedLinks (links_of ls) b) (sym first)
    (regrouped (IsText x.0) (IsLink x.1) (AreNamedLinks rest) b j))

pub returns : goal.returns
returns c =
    let none = none_left c.args.links.now c.loop-name.name-index (omega arith) in
    grown_last (AreNamedLinks (links_of (drop c.loop-name.name-index c.args.links.now)))
    (AreNamedLinks (links_of c.args.links.now)) _ _ c.loop-name.invariant
    (subst (λ (ls : List (List ℕ × Rid)). AreNamedLinks (links_of ls) []) (sym none) refl)
