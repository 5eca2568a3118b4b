use Rattle.std.proofs.Common.{ℕ, ◌+◌, ◌≤◌, List, Some, None, sym, subst, arith}
use Rattle.ori_page.specs.Spaces.{HasFreeList, in_use}
use Rattle.ori_posmap.specs.Maps.{PositionMap, IsPositionMap}
use Rattle.ori_posmap.proofs.Faults.{passes_on, ok_then, err_then}
use Rattle.ori_cluster.specs.Drops.{has_slots}
use Rattle.ori_cluster.specs.Growing.{TriesPut, StandsStaged}
use Rattle.ori_cluster.proofs.PutTail.{current_first, unchanged_first, has_current}
use Rattle.ori_cluster.proofs.PutWhy.{unless_read, unless_then}
use Rattle.ori_cluster.proofs.placing.put_current.Goals as goal

pub returns-in_err-slot-clause-why : goal.returns-in_err-slot-clause-why
returns-in_err-slot-clause-why g c =
    passes_on c.from_residual.result c.in_err-slot.field-0.0 _ c.from_residual.ensures.1
    (λ pages at.
    unless_read (StandsStaged pages c.args.dir c.args.owner c.args.current) pages
    (has_slots pages c.args.owner c.args.current) c.args.current 1 c.in_err-slot.field-0.0
    (has_current pages c.args.dir c.args.owner c.args.current c.in_err-slot.ensures.named)
    (c.in_err-slot.ensures.why pages at))

pub returns-in-Some-clause-pages : goal.returns-in-Some-clause-pages
returns-in-Some-clause-pages g c = λ pages at.
    let p = c.in_ok-slot.ensures.pages pages at in
    let t : TriesPut c.args.owner c.args.current c.args.next c.args.bytes.now (Some c.in-Some.slot) pages p.0
    = subst (λ o. TriesPut c.args.owner c.args.current c.args.next c.args.bytes.now o pages p.0) c.in-Some.is p.2 in (
      p.0,
      p.1,
      λ d loose later i owned now.
          current_first pages p.0 c.args.dir c.args.owner c.args.current c.in-Some.slot d loose c.args.next
          c.args.bytes.now later i owned now t.0 t.1,
    )

pub returns-in-None-clause-pages : goal.returns-in-None-clause-pages
returns-in-None-clause-pages g c =
    ok_then c.put_next.result _ _
    (λ link h pages at.
    let p = c.in_ok-slot.ensures.pages pages at in
    let t : TriesPut c.args.owner c.args.current c.args.next c.args.bytes.now None pages p.0
    = subst (λ o. TriesPut c.args.owner c.args.current c.args.next c.args.bytes.now o pages p.0) c.in-None.is p.2 in
    let q = h p.0 p.1 in (
      q.0,
      q.1,
      λ d loose later i owned now.
          unchanged_first pages p.0 q.0 c.args.dir c.args.current c.args.owner d loose c.args.next link
          c.args.bytes.now later i owned now t.0 t.1 (q.2 d loose later),
    ))
    c.put_next.ensures.pages

pub returns-in-None-clause-why : goal.returns-in-None-clause-why
returns-in-None-clause-why g c =
    err_then c.put_next.result _ _
    (λ fault h pages at.
    let p = c.in_ok-slot.ensures.pages pages at in
    let t : TriesPut c.args.owner c.args.current c.args.next c.args.bytes.now None pages p.0
    = subst (λ o. TriesPut c.args.owner c.args.current c.args.next c.args.bytes.now o pages p.0) c.in-None.is p.2 in
    unless_then (StandsStaged pages c.args.dir c.args.owner c.args.current)
    ((m : PositionMap) × IsPositionMap p.0 c.args.dir m) pages p.0 1 1 fault
    (λ x. (x.c.map, subst (λ (y : List (List ℕ)). IsPositionMap y c.args.dir x.c.map) (sym t.0) x.is.map))
    (λ l. subst (λ (y : List (List ℕ)). HasFreeList y × (in_use y + 1 ≤ in_use pages + 1)) (sym t.0)
    (l, omega arith)) (h p.0 p.1))
    c.put_next.ensures.why
