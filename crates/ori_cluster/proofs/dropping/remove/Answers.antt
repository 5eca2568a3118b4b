use Rattle.std.proofs.Common.{◌≤◌, refl, sym, ap, ◌∙◌, rules, arith}
use Rattle.std.specs.Int.{w64}
use Rattle.std.specs.Int.RustNames.{FitsSigned}
use Rattle.std.proofs.lemmas.Int.{to_z-of_z}
use Rattle.ori_posmap.specs.Maps.{place_of}
use Rattle.ori_posmap.proofs.Faults.{passes_on}
use Rattle.ori_cluster.specs.declared.TheConstants.{MAX_BYTES}
use Rattle.ori_cluster.specs.Clusters.{Cluster, IsCluster, most_chunks}
use Rattle.ori_cluster.proofs.DropKeeps.{keeps_both, keeps_fault}
use Rattle.ori_cluster.proofs.DropRecords.{IsRemoval, removed, why_removed, why_unseen, why_not_set, live_place}
use Rattle.ori_cluster.proofs.DropRecords.{no_record}
use Rattle.ori_cluster.proofs.dropping.remove.Goals as goal

pub returns-in_err-seen-clause-why : goal.returns-in_err-seen-clause-why
returns-in_err-seen-clause-why g c =
    passes_on c.from_residual.result c.in_err-seen.field-0.0 _ c.from_residual.ensures.1
    (λ pages at. why_unseen pages c.args.dir c.in_err-seen.field-0.0
    (c.in_err-seen.ensures.why pages at))

pub returns-in_default-clause-pages : goal.returns-in_default-clause-pages
returns-in_default-clause-pages g c = λ pages at.
    let z = c.args.position in
    let long : FitsSigned w64 z = search rules in
    let same = to_z-of_z w64 z long in
    let p = c.in_ok-seen.ensures.pages pages at in (
      pages,
      p.0,
      λ d i. (no_record d z (sym c.in_default.is ∙ (p.1 d.map i.map).1 ∙ ap (place_of d.map) same), refl),
    )

pub returns-in_err-told-clause-why : goal.returns-in_err-told-clause-why
returns-in_err-told-clause-why g c =
    passes_on c.from_residual-in_err-told.result c.in_err-told.field-0.0 _ c.from_residual-in_err-told.ensures.1
    (λ pages at.
    let p = c.in_ok-seen.ensures.pages pages at in
    why_unseen pages c.args.dir c.in_err-told.field-0.0 (c.in_err-told.ensures.why pages p.0))

pub returns-in_err-set-clause-why : goal.returns-in_err-set-clause-why
returns-in_err-set-clause-why g c =
    passes_on c.from_residual-in_err-set.result c.in_err-set.field-0.0 _ c.from_residual-in_err-set.ensures.1
    (λ pages at.
    let p = c.in_ok-seen.ensures.pages pages at in
    let t = c.in_ok-told.ensures.pages pages p.0 in
    why_not_set pages c.args.dir _ c.in_err-set.field-0.0
    (λ m i. live_place m _ c.in-Some.old (sym c.in-Some.is ∙ (p.1 m i).1)) (c.in_err-set.ensures.why pages t.0))

pub returns-in_err-drop_chain-clause-why : goal.returns-in_err-drop_chain-clause-why
returns-in_err-drop_chain-clause-why g c =
    passes_on c.from_residual-in_err-drop_chain.result c.in_err-drop_chain.field-0.0 _
    c.from_residual-in_err-drop_chain.ensures.1
    (λ pages at.
    let z = c.args.position in
    let long : FitsSigned w64 z = search rules in
    let same = to_z-of_z w64 z long in
    let old = c.in-Some.old in
    let owner = c.in_ok-told.told.owner in
    let current = c.in_ok-told.told.current in
    let p = c.in_ok-seen.ensures.pages pages at in
    let t = c.in_ok-told.ensures.pages pages p.0 in
    let s = c.in_ok-set.ensures.pages pages t.0 in
    let did : (d : Cluster) → IsCluster pages c.args.dir d → IsRemoval pages s.0 c.args.dir z old owner current d
    = λ d i. record {
      place = sym c.in-Some.is ∙ (p.1 d.map i.map).1 ∙ ap (place_of d.map) same;
      owner_is = (t.1 d.map i.map).0;
      current_is = (t.1 d.map i.map).2;
      now = λ q at. s.2 d.map i.map q (same ∙ at);
    } in
    why_removed pages s.0 c.args.dir z old owner current c.most_chunks.result c.in_err-drop_chain.field-0.0 did
    (c.most_chunks.ensures ∙ ap most_chunks c.min.ensures) (c.in_err-drop_chain.ensures.why s.0 s.1))

pub returns-clause-pages : goal.returns-clause-pages
returns-clause-pages g c = λ pages at.
    let z = c.args.position in
    let long : FitsSigned w64 z = search rules in
    let same = to_z-of_z w64 z long in
    let old = c.in-Some.old in
    let owner = c.in_ok-told.told.owner in
    let current = c.in_ok-told.told.current in
    let p = c.in_ok-seen.ensures.pages pages at in
    let t = c.in_ok-told.ensures.pages pages p.0 in
    let s = c.in_ok-set.ensures.pages pages t.0 in
    let u = c.in_ok-drop_chain.ensures.pages s.0 s.1 in (
      u.0,
      u.1,
      λ d i.
          let did : IsRemoval pages s.0 c.args.dir z old owner current d = record {
            place = sym c.in-Some.is ∙ (p.1 d.map i.map).1 ∙ ap (place_of d.map) same;
            owner_is = (t.1 d.map i.map).0;
            current_is = (t.1 d.map i.map).2;
            now = λ q at. s.2 d.map i.map q (same ∙ at);
          } in
          removed pages s.0 u.0 c.args.dir z old owner current d i did u.2,
    )

pub returns-in_err-told-clause-space : goal.returns-in_err-told-clause-space
returns-in_err-told-clause-space g c =
    keeps_fault g.P.PageSpace.keeps g.P.PageSpace.count g.P.PageSpace.causes g.P.PageSpace.reads
    g.met.P.PageSpace.keeps_on 2 1 _ c.in_ok-seen.seen _ c.in_err-told.field-0.0 _ _ _
    c.from_residual-in_err-told.ensures.1 c.in_ok-seen.ensures.space c.in_err-told.ensures.space (omega arith)

pub returns-in_err-set-clause-space : goal.returns-in_err-set-clause-space
returns-in_err-set-clause-space g c =
    keeps_fault g.P.PageSpace.keeps g.P.PageSpace.count g.P.PageSpace.causes g.P.PageSpace.reads
    g.met.P.PageSpace.keeps_on 3 2 _ c.in_ok-told.told _ c.in_err-set.field-0.0 _ _ _
    c.from_residual-in_err-set.ensures.1
    (keeps_both g.P.PageSpace.keeps g.P.PageSpace.count g.P.PageSpace.causes g.P.PageSpace.reads
    g.met.P.PageSpace.keeps_on 2 1 3 c.in_ok-seen.seen c.in_ok-told.told c.in_ok-told.told _ _ _
    c.in_ok-seen.ensures.space c.in_ok-told.ensures.space (omega arith))
    c.in_err-set.ensures.space (omega arith)

pub returns-in_err-drop_chain-clause-space : goal.returns-in_err-drop_chain-clause-space
returns-in_err-drop_chain-clause-space g c =
    let few : c.most_chunks.result ≤ most_chunks MAX_BYTES = omega (arith, c.most_chunks.ensures) in
    keeps_fault g.P.PageSpace.keeps g.P.PageSpace.count g.P.PageSpace.causes g.P.PageSpace.reads
    g.met.P.PageSpace.keeps_on 5 c.most_chunks.result _ c.in_ok-told.told _ c.in_err-drop_chain.field-0.0 _ _ _
    c.from_residual-in_err-drop_chain.ensures.1
    (keeps_both g.P.PageSpace.keeps g.P.PageSpace.count g.P.PageSpace.causes g.P.PageSpace.reads
    g.met.P.PageSpace.keeps_on 3 2 5 c.in_ok-told.told c.in_ok-set.field-0 c.in_ok-told.told _ _ _
    (keeps_both g.P.PageSpace.keeps g.P.PageSpace.count g.P.PageSpace.causes g.P.PageSpace.reads
    g.met.P.PageSpace.keeps_on 2 1 3 c.in_ok-seen.seen c.in_ok-told.told c.in_ok-told.told _ _ _
    c.in_ok-seen.ensures.space c.in_ok-told.ensures.space (omega arith))
    c.in_ok-set.ensures.space (omega arith))
    c.in_err-drop_chain.ensures.space (omega (arith, few))

pub returns-clause-space : goal.returns-clause-space
returns-clause-space g c =
    let few : c.most_chunks.result ≤ most_chunks MAX_BYTES = omega (arith, c.most_chunks.ensures) in
    keeps_both g.P.PageSpace.keeps g.P.PageSpace.count g.P.PageSpace.causes g.P.PageSpace.reads
    g.met.P.PageSpace.keeps_on 5 c.most_chunks.result _ c.in_ok-told.told c.in_ok-drop_chain.field-0 _ _ _ _
    (keeps_both g.P.PageSpace.keeps g.P.PageSpace.count g.P.PageSpace.causes g.P.PageSpace.reads
    g.met.P.PageSpace.keeps_on 3 2 5 c.in_ok-told.told c.in_ok-set.field-0 c.in_ok-told.told _ _ _
    (keeps_both g.P.PageSpace.keeps g.P.PageSpace.count g.P.PageSpace.causes g.P.PageSpace.reads
    g.met.P.PageSpace.keeps_on 2 1 3 c.in_ok-seen.seen c.in_ok-told.told c.in_ok-told.told _ _ _
    c.in_ok-seen.ensures.space c.in_ok-told.ensures.space (omega arith))
    c.in_ok-set.ensures.space (omega arith))
    c.in_ok-drop_chain.ensures.space (omega (arith, few))
