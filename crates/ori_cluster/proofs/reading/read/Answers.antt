use Rattle.std.proofs.Common.{◌≡◌, ◌≤◌, ℕ, List, ◌++◌, Some, length, refl, sym, ap, ◌∙◌, rules}
use Rattle.std.proofs.Common.{arith}
use Rattle.std.specs.Int.{w64}
use Rattle.std.specs.Int.RustNames.{FitsSigned}
use Rattle.std.proofs.lemmas.Int.{to_z-of_z}
use Rattle.ori_posmap.specs.Maps.{place_of}
use Rattle.ori_posmap.proofs.Faults.{passes_on}
use Rattle.ori_cluster.specs.declared.chunk.Link.{Link}
use Rattle.ori_cluster.specs.Clusters.{Cluster, IsCluster}
use Rattle.ori_cluster.proofs.Records.{live, links_from, few_chunks, reads_are, why_gather}
use Rattle.ori_cluster.proofs.reading.read.Goals as goal

pub returns-then-place-gt-MAX_BYTES-clause-why : goal.returns-then-place-gt-MAX_BYTES-clause-why
returns-then-place-gt-MAX_BYTES-clause-why g c = λ pages at d i.
    let z = c.args.position in
    let long : FitsSigned w64 z = search rules in
    let same = to_z-of_z w64 z long in
    let p = c.in_ok-seen.ensures.pages pages at in
    let place = c.in-Some.place in
    let owner = c.in_ok-seen.seen.owner in
    let s : (d : Cluster) → IsCluster pages c.args.dir d → (owner ≡ d.map.owner) × (Some place ≡ place_of d.map z)
    = λ d i. let h = p.1 d.map i.map in (h.0, sym c.in-Some.is ∙ h.1 ∙ ap (place_of d.map) same) in
    let l = live pages c.args.dir d z place i (s d i).1 in
    absurd (omega (arith, c.if-place-gt-MAX_BYTES.true, l.stands.long, l.stands.most))

pub returns-in_err-gather-clause-few : goal.returns-in_err-gather-clause-few
returns-in_err-gather-clause-few g c = λ pages at d i.
    let z = c.args.position in
    let long : FitsSigned w64 z = search rules in
    let same = to_z-of_z w64 z long in
    let p = c.in_ok-seen.ensures.pages pages at in
    let place = c.in-Some.place in
    let owner = c.in_ok-seen.seen.owner in
    let s : (d : Cluster) → IsCluster pages c.args.dir d → (owner ≡ d.map.owner) × (Some place ≡ place_of d.map z)
    = λ d i. let h = p.1 d.map i.map in (h.0, sym c.in-Some.is ∙ h.1 ∙ ap (place_of d.map) same) in
    let link : Link = record { page = place.page; slot = place.slot } in
    let l = live pages c.args.dir d z place i (s d i).1 in
    let n = links_from pages d z place owner link l (s d i).0 refl refl in
    omega (
      arith,
      c.gather.ensures.few pages p.0 (d.chains l.at) (d.records l.at) n,
      c.in_ok-seen.ensures.space.few,
      reads_are d l.at z l.position_is,
    )

pub returns-in_err-gather-clause-why : goal.returns-in_err-gather-clause-why
returns-in_err-gather-clause-why g c =
    passes_on c.from_residual-in_err-gather.result c.in_err-gather.field-0.0 _ c.from_residual-in_err-gather.ensures.1
    (λ pages at.
    let z = c.args.position in
    let long : FitsSigned w64 z = search rules in
    let same = to_z-of_z w64 z long in
    let p = c.in_ok-seen.ensures.pages pages at in
    let place = c.in-Some.place in
    let owner = c.in_ok-seen.seen.owner in
    let s : (d : Cluster) → IsCluster pages c.args.dir d → (owner ≡ d.map.owner) × (Some place ≡ place_of d.map z)
    = λ d i. let h = p.1 d.map i.map in (h.0, sym c.in-Some.is ∙ h.1 ∙ ap (place_of d.map) same) in
    let link : Link = record { page = place.page; slot = place.slot } in
    why_gather pages c.args.dir z place owner link c.most_chunks.result c.in_err-gather.field-0.0 s refl refl
    c.most_chunks.ensures (c.in_err-gather.ensures.why pages p.0))

pub returns-then-len-place-clause-few : goal.returns-then-len-place-clause-few
returns-then-len-place-clause-few g c = λ pages at d i.
    let z = c.args.position in
    let long : FitsSigned w64 z = search rules in
    let same = to_z-of_z w64 z long in
    let p = c.in_ok-seen.ensures.pages pages at in
    let place = c.in-Some.place in
    let owner = c.in_ok-seen.seen.owner in
    let s : (d : Cluster) → IsCluster pages c.args.dir d → (owner ≡ d.map.owner) × (Some place ≡ place_of d.map z)
    = λ d i. let h = p.1 d.map i.map in (h.0, sym c.in-Some.is ∙ h.1 ∙ ap (place_of d.map) same) in
    let link : Link = record { page = place.page; slot = place.slot } in
    let l = live pages c.args.dir d z place i (s d i).1 in
    let n = links_from pages d z place owner link l (s d i).0 refl refl in
    omega (
      arith,
      c.gather.ensures.few pages p.0 (d.chains l.at) (d.records l.at) n,
      c.in_ok-seen.ensures.space.few,
      reads_are d l.at z l.position_is,
    )

pub returns-then-len-place-clause-why : goal.returns-then-len-place-clause-why
returns-then-len-place-clause-why g c = λ pages at d i.
    let z = c.args.position in
    let long : FitsSigned w64 z = search rules in
    let same = to_z-of_z w64 z long in
    let p = c.in_ok-seen.ensures.pages pages at in
    let place = c.in-Some.place in
    let owner = c.in_ok-seen.seen.owner in
    let s : (d : Cluster) → IsCluster pages c.args.dir d → (owner ≡ d.map.owner) × (Some place ≡ place_of d.map z)
    = λ d i. let h = p.1 d.map i.map in (h.0, sym c.in-Some.is ∙ h.1 ∙ ap (place_of d.map) same) in
    let link : Link = record { page = place.page; slot = place.slot } in
    let l = live pages c.args.dir d z place i (s d i).1 in
    let n = links_from pages d z place owner link l (s d i).0 refl refl in
    let q = c.in_ok-gather.ensures.pages pages p.0 in
    let few : length (d.chains l.at) ≤ c.most_chunks.result
    = omega (arith, few_chunks pages d z place l, c.most_chunks.ensures) in
    let all : c.gather.new.bytes ≡ d.records l.at
    = q.1 (d.chains l.at) (d.records l.at) n few ∙ ap (λ (x : List ℕ). x ++ d.records l.at) c.new-bytes.ensures in
    absurd (c.if-len-place.true (c.len.ensures ∙ ap length all ∙ l.stands.long))

pub returns-clause-pages : goal.returns-clause-pages
returns-clause-pages g c = λ pages at.
    let z = c.args.position in
    let long : FitsSigned w64 z = search rules in
    let same = to_z-of_z w64 z long in
    let p = c.in_ok-seen.ensures.pages pages at in
    let place = c.in-Some.place in
    let owner = c.in_ok-seen.seen.owner in
    let s : (d : Cluster) → IsCluster pages c.args.dir d → (owner ≡ d.map.owner) × (Some place ≡ place_of d.map z)
    = λ d i. let h = p.1 d.map i.map in (h.0, sym c.in-Some.is ∙ h.1 ∙ ap (place_of d.map) same) in
    let link : Link = record { page = place.page; slot = place.slot } in (
      (c.in_ok-gather.ensures.pages pages p.0).0,
      λ d i.
          let l = live pages c.args.dir d z place i (s d i).1 in
          let n = links_from pages d z place owner link l (s d i).0 refl refl in
          let q = c.in_ok-gather.ensures.pages pages p.0 in
          let few : length (d.chains l.at) ≤ c.most_chunks.result
          = omega (arith, few_chunks pages d z place l, c.most_chunks.ensures) in
          let all : c.gather.new.bytes ≡ d.records l.at
          = q.1 (d.chains l.at) (d.records l.at) n few ∙ ap (λ (x : List ℕ). x ++ d.records l.at) c.new-bytes.ensures in
          ap Some all ∙ sym l.holds,
    )

pub returns-clause-few : goal.returns-clause-few
returns-clause-few g c = λ pages at d i.
    let z = c.args.position in
    let long : FitsSigned w64 z = search rules in
    let same = to_z-of_z w64 z long in
    let p = c.in_ok-seen.ensures.pages pages at in
    let place = c.in-Some.place in
    let owner = c.in_ok-seen.seen.owner in
    let s : (d : Cluster) → IsCluster pages c.args.dir d → (owner ≡ d.map.owner) × (Some place ≡ place_of d.map z)
    = λ d i. let h = p.1 d.map i.map in (h.0, sym c.in-Some.is ∙ h.1 ∙ ap (place_of d.map) same) in
    let link : Link = record { page = place.page; slot = place.slot } in
    let l = live pages c.args.dir d z place i (s d i).1 in
    let n = links_from pages d z place owner link l (s d i).0 refl refl in
    omega (
      arith,
      c.gather.ensures.few pages p.0 (d.chains l.at) (d.records l.at) n,
      c.in_ok-seen.ensures.space.few,
      reads_are d l.at z l.position_is,
    )
