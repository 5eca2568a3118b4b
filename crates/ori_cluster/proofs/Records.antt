-- What the pages of a cluster say of a record.
use Rattle.std.proofs.Common.{◌≡◌, ℕ, ◌+◌, ◌≤◌, ℤ, pos, negsuc, List, length, Option, Some}
use Rattle.std.proofs.Common.{refl, sym, ap, subst}
use Rattle.ori_page.specs.declared.fault.PageFault.{PageFault}
use Rattle.ori_page.specs.declared.fault.PageFault.TheVariants.{NoMemory, Device, Busy, Damaged, PagesFull}
use Rattle.ori_posmap.specs.declared.place.Place.{Place}
use Rattle.ori_posmap.specs.Maps.{place_of, WhyMap}
use Rattle.ori_cluster.specs.declared.chunk.Link.{Link}
use Rattle.ori_cluster.specs.Slots.{Links, WhyBroken}
use Rattle.ori_cluster.specs.Clusters.{Cluster, IsCluster, IsRecord, record_of, bytes_if, most_chunks}
use Rattle.ori_cluster.specs.Clusters.{reads_of, WhyCluster}

-- the record of a live position
pub record Live (pages : List (List ℕ)) (c : Cluster) (position : ℤ) (place : Place) : Type 0 where
  pub at : ℕ
  pub position_is : position ≡ pos at
  pub stands : IsRecord pages c.map.owner place (c.chains at) (c.records at)
  pub holds : record_of c position ≡ Some (c.records at)

pub live : (pages : List (List ℕ)) (dir : ℕ) (c : Cluster) (position : ℤ) (place : Place) → IsCluster pages dir c
    → Some place ≡ place_of c.map position → Live pages c position place
live pages dir c (pos q) place i is = record {
  at = q;
  position_is = refl;
  stands = i.records q place (sym is);
  holds = ap (λ (o : Option Place). bytes_if o (c.records q)) (sym is);
}
live pages dir c (negsuc n) place i is = cc

-- the chain from its place on
pub links_from : (pages : List (List ℕ)) (c : Cluster) (position : ℤ) (place : Place) (owner : ℕ) (link : Link)
    → (l : Live pages c position place) → owner ≡ c.map.owner → link.page ≡ place.page → link.slot ≡ place.slot
    → Links pages owner (c.chains l.at) link.page link.slot (c.records l.at)
links_from pages c position place owner link l o p s =
    subst (λ (x : ℕ). Links pages x (c.chains l.at) link.page link.slot (c.records l.at)) (sym o)
    (subst (λ (x : ℕ). Links pages c.map.owner (c.chains l.at) x link.slot (c.records l.at)) (sym p)
    (subst (λ (x : ℕ). Links pages c.map.owner (c.chains l.at) place.page x (c.records l.at)) (sym s)
    l.stands.links))

pub few_chunks : (pages : List (List ℕ)) (c : Cluster) (position : ℤ) (place : Place)
    → (l : Live pages c position place) → length (c.chains l.at) ≤ most_chunks place.bytes
few_chunks pages c position place l =
    subst (λ (n : ℕ). length (c.chains l.at) ≤ most_chunks n) l.stands.long l.stands.few

pub reads_are : (c : Cluster) (q : ℕ) (position : ℤ) → position ≡ pos q
    → reads_of c position ≡ 2 + length (c.chains q)
reads_are c q position is = ap (reads_of c) is

pub why_found : (pages : List (List ℕ)) (dir : ℕ) (fault : PageFault) → WhyMap pages dir fault
    → WhyCluster pages dir fault
why_found pages dir NoMemory h = tt
why_found pages dir Device h = tt
why_found pages dir (Busy turn) h = h
why_found pages dir (Damaged q) h = λ c i. h.1 c.map i.map
why_found pages dir PagesFull h = absurd h

pub why_gather : (pages : List (List ℕ)) (dir : ℕ) (position : ℤ) (place : Place) (owner : ℕ) (link : Link) (most : ℕ)
    (fault : PageFault) → ((c : Cluster) → IsCluster pages dir c
    → (owner ≡ c.map.owner) × (Some place ≡ place_of c.map position)) → link.page ≡ place.page
    → link.slot ≡ place.slot → most ≡ most_chunks place.bytes → WhyBroken pages owner link most fault
    → WhyCluster pages dir fault
why_gather pages dir position place owner link most NoMemory seen p s m h = tt
why_gather pages dir position place owner link most Device seen p s m h = tt
why_gather pages dir position place owner link most (Busy turn) seen p s m h = h
why_gather pages dir position place owner link most (Damaged q) seen p s m h = λ c i.
    let x = seen c i in
    let l = live pages dir c position place i x.1 in
    h (c.chains l.at) (c.records l.at) (links_from pages c position place owner link l x.0 p s)
    (subst (λ (n : ℕ). length (c.chains l.at) ≤ n) (sym m) (few_chunks pages c position place l))
why_gather pages dir position place owner link most PagesFull seen p s m h = absurd h
