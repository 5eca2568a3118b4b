use Rattle.std.proofs.Common.{◌≤◌, length, refl, sym, ap, ◌∙◌, rules, arith}
use Rattle.std.specs.Int.{w64}
use Rattle.std.specs.Int.RustNames.{FitsSigned}
use Rattle.std.proofs.lemmas.Int.{to_z-of_z}
use Rattle.ori_posmap.specs.Maps.{place_of}
use Rattle.ori_posmap.proofs.Faults.{passes_on}
use Rattle.ori_cluster.specs.declared.TheConstants.{MAX_BYTES}
use Rattle.ori_cluster.specs.Clusters.{Cluster, IsCluster, most_chunks}
use Rattle.ori_cluster.proofs.DropKeeps.{keeps_both, keeps_fault}
use Rattle.ori_cluster.proofs.DropRecords.{why_stored, no_record}
use Rattle.ori_cluster.proofs.PutReplaced.{IsReplacing, replaced_at, why_not_stored, why_not_set, why_not_dropped}
use Rattle.ori_cluster.proofs.replacing.replace.Goals as goal

pub returns-in_err-seen-clause-why : goal.returns-in_err-seen-clause-why
returns-in_err-seen-clause-why g c =
    passes_on c.from_residual.result c.in_err-seen.field-0.0 _ c.from_residual.ensures.1
    (λ pages at.
    why_stored pages c.args.dir c.args.position (length c.args.bytes.now) c.in_err-seen.field-0.0
    (c.in_err-seen.ensures.why pages at))

pub returns-in_default-clause-pages : goal.returns-in_default-clause-pages
returns-in_default-clause-pages g c = λ pages at.
    let z = c.args.position in
    let long : FitsSigned w64 z = search rules in
    let same = to_z-of_z w64 z long in
    let p = c.in_ok-seen.ensures.pages pages at in (
      pages,
      p.0,
      λ d i. (no_record d z (sym c.in_default.is ∙ (p.1 d.map i.map).1 ∙ ap (place_of d.map) same), refl),
    )

pub returns-in_err-told-clause-why : goal.returns-in_err-told-clause-why
returns-in_err-told-clause-why g c =
    passes_on c.from_residual-in_err-told.result c.in_err-told.field-0.0 _ c.from_residual-in_err-told.ensures.1
    (λ pages at.
    let p = c.in_ok-seen.ensures.pages pages at in
    why_stored pages c.args.dir c.args.position (length c.args.bytes.now) c.in_err-told.field-0.0
    (c.in_err-told.ensures.why pages p.0))

pub returns-in_err-place-clause-why : goal.returns-in_err-place-clause-why
returns-in_err-place-clause-why g c =
    passes_on c.from_residual-in_err-place.result c.in_err-place.field-0.0 _
    c.from_residual-in_err-place.ensures.1
    (λ pages at.
    let p = c.in_ok-seen.ensures.pages pages at in
    let t = c.in_ok-told.ensures.pages pages p.0 in
    why_not_stored pages c.args.dir c.in_ok-told.told.owner c.in_ok-told.told.current (length c.args.bytes.now)
    c.args.position c.in_err-place.field-0.0 (λ d i. let said = t.1 d.map i.map in (said.0, said.2))
    (c.in_err-place.ensures.why pages t.0))

pub returns-in_err-set-clause-why : goal.returns-in_err-set-clause-why
returns-in_err-set-clause-why g c =
    passes_on c.from_residual-in_err-set.result c.in_err-set.field-0.0 _ c.from_residual-in_err-set.ensures.1
    (λ pages at.
    let p = c.in_ok-seen.ensures.pages pages at in
    let t = c.in_ok-told.ensures.pages pages p.0 in
    let s = c.in_ok-place.ensures.pages pages t.0 in
    why_not_set pages s.0 c.args.dir (length c.args.bytes.now) c.args.position _ c.in-Some.old c.in_ok-place.place
    c.args.bytes.now c.in_err-set.field-0.0
    (λ d i. let said = t.1 d.map i.map in
    (s.2 d i said.0 said.2, sym c.in-Some.is ∙ (p.1 d.map i.map).1)) (c.in_err-set.ensures.why s.0 s.1))

pub returns-in_err-drop_chain-clause-why : goal.returns-in_err-drop_chain-clause-why
returns-in_err-drop_chain-clause-why g c =
    passes_on c.from_residual-in_err-drop_chain.result c.in_err-drop_chain.field-0.0 _
    c.from_residual-in_err-drop_chain.ensures.1
    (λ pages at.
    let z = c.args.position in
    let long : FitsSigned w64 z = search rules in
    let same = to_z-of_z w64 z long in
    let old = c.in-Some.old in
    let place = c.in_ok-place.place in
    let p = c.in_ok-seen.ensures.pages pages at in
    let t = c.in_ok-told.ensures.pages pages p.0 in
    let s = c.in_ok-place.ensures.pages pages t.0 in
    let n = c.in_ok-set.ensures.pages s.0 s.1 in
    let did : (d : Cluster) → IsCluster pages c.args.dir d
    → IsReplacing pages s.0 n.0 c.args.dir z old place c.in_ok-told.told.owner c.args.bytes.now d
    = λ d i.
    let said = t.1 d.map i.map in
    let stored = s.2 d i said.0 said.2 in
    record {
      was = sym c.in-Some.is ∙ (p.1 d.map i.map).1 ∙ ap (place_of d.map) same;
      owner_is = said.0;
      stored = stored;
      set = λ q at. n.2 (record d.map { current = place.page }) stored.chained.is.map q (same ∙ at);
    } in
    why_not_dropped pages s.0 n.0 c.args.dir z old place c.in_ok-told.told.owner c.most_chunks-most.result
    (length c.args.bytes.now) c.args.bytes.now c.in_err-drop_chain.field-0.0 c.requires.some c.requires.few
    c.in_ok-place.ensures.long did (c.most_chunks-most.ensures ∙ ap most_chunks c.min.ensures)
    (c.in_err-drop_chain.ensures.why n.0 n.1))

pub returns-clause-pages : goal.returns-clause-pages
returns-clause-pages g c = λ pages at.
    let z = c.args.position in
    let long : FitsSigned w64 z = search rules in
    let same = to_z-of_z w64 z long in
    let old = c.in-Some.old in
    let place = c.in_ok-place.place in
    let p = c.in_ok-seen.ensures.pages pages at in
    let t = c.in_ok-told.ensures.pages pages p.0 in
    let s = c.in_ok-place.ensures.pages pages t.0 in
    let n = c.in_ok-set.ensures.pages s.0 s.1 in
    let did : (d : Cluster) → IsCluster pages c.args.dir d
    → IsReplacing pages s.0 n.0 c.args.dir z old place c.in_ok-told.told.owner c.args.bytes.now d
    = λ d i.
    let said = t.1 d.map i.map in
    let stored = s.2 d i said.0 said.2 in
    record {
      was = sym c.in-Some.is ∙ (p.1 d.map i.map).1 ∙ ap (place_of d.map) same;
      owner_is = said.0;
      stored = stored;
      set = λ q at. n.2 (record d.map { current = place.page }) stored.chained.is.map q (same ∙ at);
    } in
    let u = c.in_ok-drop_chain.ensures.pages n.0 n.1 in (
      u.0,
      u.1,
      λ d i.
          replaced_at pages s.0 n.0 u.0 c.args.dir z old place c.in_ok-told.told.owner c.args.bytes.now d
          c.requires.some c.requires.few c.in_ok-place.ensures.long (did d i) u.2,
    )

pub returns-in_err-told-clause-space : goal.returns-in_err-told-clause-space
returns-in_err-told-clause-space g c =
    keeps_fault g.P.PageSpace.keeps g.P.PageSpace.count g.P.PageSpace.causes g.P.PageSpace.reads
    g.met.P.PageSpace.keeps_on 2 1 _ c.in_ok-seen.seen _ c.in_err-told.field-0.0 _ _ _
    c.from_residual-in_err-told.ensures.1 c.in_ok-seen.ensures.space c.in_err-told.ensures.space (omega arith)

pub returns-in_err-place-clause-space : goal.returns-in_err-place-clause-space
returns-in_err-place-clause-space g c =
    keeps_fault g.P.PageSpace.keeps g.P.PageSpace.count g.P.PageSpace.causes g.P.PageSpace.reads
    g.met.P.PageSpace.keeps_on 3 2 _ c.in_ok-told.told _ c.in_err-place.field-0.0 _ _ _
    c.from_residual-in_err-place.ensures.1
    (keeps_both g.P.PageSpace.keeps g.P.PageSpace.count g.P.PageSpace.causes g.P.PageSpace.reads
    g.met.P.PageSpace.keeps_on 2 1 3 c.in_ok-seen.seen c.in_ok-told.told c.in_ok-told.told _ _ _
    c.in_ok-seen.ensures.space c.in_ok-told.ensures.space (omega arith))
    c.in_err-place.ensures.space (omega arith)

pub returns-in_err-set-clause-space : goal.returns-in_err-set-clause-space
returns-in_err-set-clause-space g c =
    keeps_fault g.P.PageSpace.keeps g.P.PageSpace.count g.P.PageSpace.causes g.P.PageSpace.reads
    g.met.P.PageSpace.keeps_on 5 2 _ c.in_ok-told.told _ c.in_err-set.field-0.0 _ _ _
    c.from_residual-in_err-set.ensures.1
    (keeps_both g.P.PageSpace.keeps g.P.PageSpace.count g.P.PageSpace.causes g.P.PageSpace.reads
    g.met.P.PageSpace.keeps_on 3 2 5 c.in_ok-told.told c.in_ok-place.place c.in_ok-told.told _ _ _
    (keeps_both g.P.PageSpace.keeps g.P.PageSpace.count g.P.PageSpace.causes g.P.PageSpace.reads
    g.met.P.PageSpace.keeps_on 2 1 3 c.in_ok-seen.seen c.in_ok-told.told c.in_ok-told.told _ _ _
    c.in_ok-seen.ensures.space c.in_ok-told.ensures.space (omega arith))
    c.in_ok-place.ensures.space (omega arith))
    c.in_err-set.ensures.space (omega arith)

pub returns-in_err-drop_chain-clause-space : goal.returns-in_err-drop_chain-clause-space
returns-in_err-drop_chain-clause-space g c =
    let few : c.most_chunks-most.result ≤ most_chunks MAX_BYTES = omega (arith, c.most_chunks-most.ensures) in
    keeps_fault g.P.PageSpace.keeps g.P.PageSpace.count g.P.PageSpace.causes g.P.PageSpace.reads
    g.met.P.PageSpace.keeps_on 7 c.most_chunks-most.result _ c.in_ok-told.told _ c.in_err-drop_chain.field-0.0 _ _ _
    c.from_residual-in_err-drop_chain.ensures.1
    (keeps_both g.P.PageSpace.keeps g.P.PageSpace.count g.P.PageSpace.causes g.P.PageSpace.reads
    g.met.P.PageSpace.keeps_on 5 2 7 c.in_ok-told.told c.in_ok-set.field-0 c.in_ok-told.told _ _ _
    (keeps_both g.P.PageSpace.keeps g.P.PageSpace.count g.P.PageSpace.causes g.P.PageSpace.reads
    g.met.P.PageSpace.keeps_on 3 2 5 c.in_ok-told.told c.in_ok-place.place c.in_ok-told.told _ _ _
    (keeps_both g.P.PageSpace.keeps g.P.PageSpace.count g.P.PageSpace.causes g.P.PageSpace.reads
    g.met.P.PageSpace.keeps_on 2 1 3 c.in_ok-seen.seen c.in_ok-told.told c.in_ok-told.told _ _ _
    c.in_ok-seen.ensures.space c.in_ok-told.ensures.space (omega arith))
    c.in_ok-place.ensures.space (omega arith))
    c.in_ok-set.ensures.space (omega arith))
    c.in_err-drop_chain.ensures.space (omega (arith, few))

pub returns-clause-space : goal.returns-clause-space
returns-clause-space g c =
    let few : c.most_chunks-most.result ≤ most_chunks MAX_BYTES = omega (arith, c.most_chunks-most.ensures) in
    keeps_both g.P.PageSpace.keeps g.P.PageSpace.count g.P.PageSpace.causes g.P.PageSpace.reads
    g.met.P.PageSpace.keeps_on 7 c.most_chunks-most.result _ c.in_ok-told.told c.in_ok-drop_chain.field-0 _ _ _ _
    (keeps_both g.P.PageSpace.keeps g.P.PageSpace.count g.P.PageSpace.causes g.P.PageSpace.reads
    g.met.P.PageSpace.keeps_on 5 2 7 c.in_ok-told.told c.in_ok-set.field-0 c.in_ok-told.told _ _ _
    (keeps_both g.P.PageSpace.keeps g.P.PageSpace.count g.P.PageSpace.causes g.P.PageSpace.reads
    g.met.P.PageSpace.keeps_on 3 2 5 c.in_ok-told.told c.in_ok-place.place c.in_ok-told.told _ _ _
    (keeps_both g.P.PageSpace.keeps g.P.PageSpace.count g.P.PageSpace.causes g.P.PageSpace.reads
    g.met.P.PageSpace.keeps_on 2 1 3 c.in_ok-seen.seen c.in_ok-told.told c.in_ok-told.told _ _ _
    c.in_ok-seen.ensures.space c.in_ok-told.ensures.space (omega arith))
    c.in_ok-place.ensures.space (omega arith))
    c.in_ok-set.ensures.space (omega arith))
    c.in_ok-drop_chain.ensures.space (omega (arith, few))
