use Rattle.std.proofs.Common.{◌≡◌, length, arith}
use Rattle.std.proofs.lemmas.Grind.{common_steps}
use Rattle.std.proofs.lemmas.Int.{ints}
use Rattle.ori_bytes.specs.declared.limits.TheConstants.{MAX_POSITIONS}
use Rattle.ori_posmap.specs.declared.fault.PosFault.TheVariants.{Page}
use Rattle.ori_posmap.proofs.Faults.{passes_as, ok_then, err_then}
use Rattle.ori_cluster.specs.Clusters.{bound}
use Rattle.ori_cluster.proofs.PutRecords.{created, why_told, why_stored, why_pushed, why_full}
use Rattle.ori_cluster.proofs.storing.create.Goals as goal

pub returns-in_err-told-clause-why : goal.returns-in_err-told-clause-why
returns-in_err-told-clause-why g c =
    passes_as c.from_residual.result c.in_err-told.field-0.0 Page _ c.from_residual.ensures.1
    (λ pages at.
    why_told pages c.args.dir (bound 0 (length c.args.bytes.now)) c.in_err-told.field-0.0
    (c.in_err-told.ensures.why pages at))

pub returns-in_err-place-clause-why : goal.returns-in_err-place-clause-why
returns-in_err-place-clause-why g c =
    passes_as c.from_residual-in_err-place.result c.in_err-place.field-0.0 Page _
    c.from_residual-in_err-place.ensures.1
    (λ pages at.
    let p = c.in_ok-told.ensures.pages pages at in
    why_stored pages c.args.dir c.in_ok-told.told.owner c.in_ok-told.told.current (length c.args.bytes.now)
    c.in_err-place.field-0.0 (λ d i. let t = p.1 d.map i.map in (t.0, t.2))
    (c.in_err-place.ensures.why pages p.0))

pub returns-clause-pages : goal.returns-clause-pages
returns-clause-pages g c =
    ok_then c.push.result _ _
    (λ position h pages at.
    let p = c.in_ok-told.ensures.pages pages at in
    let q = c.in_ok-place.ensures.pages pages p.0 in
    let r = h q.0 q.1 in
    let place = c.in_ok-place.place in (
      r.0,
      r.1,
      λ d i.
          let t = p.1 d.map i.map in
          let s = q.2 d i t.0 t.2 in
          let x = r.2 (record d.map { current = place.page }) s.chained.is.map in (
            x.0,
            created c.args.dir d place c.args.bytes.now pages q.0 r.0 c.requires.some c.requires.few
                c.in_ok-place.ensures.long s x.1,
          ),
    ))
    c.push.ensures.pages

pub returns-clause-why : goal.returns-clause-why
returns-clause-why g c =
    err_then c.push.result _ _
    (λ fault h pages at.
    let p = c.in_ok-told.ensures.pages pages at in
    let q = c.in_ok-place.ensures.pages pages p.0 in
    why_pushed pages q.0 c.args.dir c.in_ok-place.place c.args.bytes.now fault
    (λ d i. let t = p.1 d.map i.map in q.2 d i t.0 t.2) (h q.0 q.1))
    c.push.ensures.why

pub returns-clause-unchanged : goal.returns-clause-unchanged
returns-clause-unchanged g c = λ full pages at d i.
    let p = c.in_ok-told.ensures.pages pages at in
    let q = c.in_ok-place.ensures.pages pages p.0 in
    let t = p.1 d.map i.map in
    let s = q.2 d i t.0 t.2 in
    let why = why_full c.push.result _ full c.push.ensures.why q.0 q.1 in
    let all : length d.map.entries ≡ MAX_POSITIONS
    = why (record d.map { current = c.in_ok-place.place.page }) s.chained.is.map in
    absurd (grind (arith, ints, common_steps, t.1, all))
