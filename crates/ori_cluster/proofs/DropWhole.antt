-- A chain that is dropped whole, and the record that it was.
use Rattle.std.proofs.Common.{◌≡◌, ◌≢◌, ◌⊎◌, inl, inr, ℕ, ◌-◌, List, [], ◌∷◌}
use Rattle.std.proofs.Common.{Some, refl, sym, ap, ◌∙◌, true≢false, arith}
use Rattle.std.specs.List.{slice_get}
use Rattle.std.proofs.lemmas.Option.{none-some}
use Rattle.ori_page.specs.declared.fault.PageFault.{PageFault}
use Rattle.ori_page.specs.declared.fault.PageFault.TheVariants.{NoMemory, Device, Busy, Damaged, PagesFull}
use Rattle.ori_page.specs.Spaces.{page_at}
use Rattle.ori_posmap.specs.Maps.{ChangesOwn}
use Rattle.ori_posmap.proofs.Effects.{changes_then}
use Rattle.ori_cluster.specs.declared.chunk.Link.{Link}
use Rattle.ori_cluster.specs.Slots.{Spot, has_spot, IsSlotsPage}
use Rattle.ori_cluster.specs.Clusters.{Cluster, IsCluster, IsPageOf, IsChunkOf}
use Rattle.ori_cluster.specs.Staging.{IsStaged}
use Rattle.ori_cluster.specs.Drops.{Names, IsDropped, IsUnstaged, WhyNotDropped, WhyNotUnstaged}
use Rattle.ori_cluster.proofs.Chains.{step}
use Rattle.ori_cluster.proofs.DropSteps.{with_pages, IsShorter, shorter}

-- ---- a chain that has ended

each_of : (c : Cluster) (spot : Spot)
    → ((q : ℕ) × (i : ℕ) × IsChunkOf c q i spot) ⊎ ((i : ℕ) × (slice_get [] i ≡ Some spot))
    → (q : ℕ) × (i : ℕ) × IsChunkOf c q i spot
each_of c spot (inl own_of) = own_of
each_of c spot (inr (i, at)) = absurd (none-some spot at)

unstaged : (pages : List (List ℕ)) (dir : ℕ) (c : Cluster) (link : Link) (bytes : List ℕ)
    → IsStaged pages dir c [] link bytes → IsCluster pages dir c
unstaged pages dir c link bytes st = record {
  map = st.map;
  records = st.records;
  above = st.above;
  below = st.below;
  slots = st.slots;
  distinct = st.distinct;
  inside = st.inside;
  each = λ spot d has. each_of c spot (st.each spot d has);
  once = st.once;
  current = st.current;
  bare = st.bare;
}

pub stays : (Own : ℕ → Type 0) (pages : List (List ℕ)) → ChangesOwn Own 0 pages pages
stays Own pages = record {
  count = omega arith;
  others = λ q low below used other. refl;
  head = record { format = refl; first_retired = refl; next_index = refl; rest = refl };
  listed = λ l. (l, omega arith);
}

pub none_left : (pages : List (List ℕ)) (dir : ℕ) (c : Cluster) (loose : List Spot) (link : Link) (bytes : List ℕ)
    → link.page ≡ 0 → IsStaged pages dir c loose link bytes → IsUnstaged dir c pages pages
none_left pages dir c [] link bytes none st = record {
  data_pages = c.data_pages;
  is = unstaged pages dir c link bytes st;
  changes = stays (IsPageOf dir c) pages;
}
none_left pages dir c (spot ∷ rest) link bytes none st =
    let l = st.links in absurd (omega (arith, none, l.0, l.2.above))

-- one chunk is dropped, and then the others
pub then_others : (before mid after : List (List ℕ)) (dir : ℕ) (c : Cluster) (loose : List Spot) (next : Link)
    → (x : IsShorter dir c loose next before mid) → IsUnstaged dir (with_pages c x.data_pages) mid after
    → IsUnstaged dir c before after
then_others before mid after dir c loose next x u = record {
  data_pages = u.data_pages;
  is = u.is;
  changes = changes_then (IsPageOf dir c) (IsPageOf dir (with_pages c x.data_pages)) 0 0 before mid after x.changes
      u.changes (λ q low below used own. by q own);
}
  where
    by : (q : ℕ) → IsPageOf dir (with_pages c x.data_pages) q → IsPageOf dir c q
    by q (inl own) = inl own
    by q (inr d) = inr (x.fewer q d)

-- ---- why a chain isn't dropped

pub why_none : (pages : List (List ℕ)) (owner current : ℕ) (link : Link) (most : ℕ) → link.page ≢ 0 → most ≡ 0
    → WhyNotUnstaged pages owner current link most (Damaged link.page)
why_none pages owner current link most some none = λ dir c loose bytes o u st few l.
    let x = step pages c.map.owner loose link.page link.slot bytes st.links some in
    absurd (omega (arith, few, none, x.long))

pub why_first : (pages : List (List ℕ)) (owner current : ℕ) (link : Link) (most : ℕ) (fault : PageFault)
    → link.page ≢ 0 → WhyNotDropped pages owner link fault → WhyNotUnstaged pages owner current link most fault
why_first pages owner current link most NoMemory some h = tt
why_first pages owner current link most Device some h = tt
why_first pages owner current link most (Busy turn) some h = h
why_first pages owner current link most (Damaged q) some (inl (at, none)) = λ dir c loose bytes o u st few l.
    let x = step pages c.map.owner loose link.page link.slot bytes st.links some in
    true≢false (sym x.has ∙ ap (λ (y : ℕ). has_spot pages y link.page link.slot) (sym o) ∙ none)
why_first pages owner current link most (Damaged q) some (inr broken) = λ dir c loose bytes o u st few l.
    broken.unlisted l
why_first pages owner current link most PagesFull some h = absurd h

pub why_others : (pages mid : List (List ℕ)) (owner current : ℕ) (link next : Link) (most : ℕ) (fault : PageFault)
    → link.page ≢ 0 → Names (page_at pages link.page) link.slot next
    → (IsSlotsPage owner (page_at pages link.page) → IsDropped owner current link.page link.slot pages mid)
    → WhyNotUnstaged mid owner current next (most - 1) fault → WhyNotUnstaged pages owner current link most fault
why_others pages mid owner current link next most NoMemory some n d h = tt
why_others pages mid owner current link next most Device some n d h = tt
why_others pages mid owner current link next most (Busy turn) some n d h = h
why_others pages mid owner current link next most (Damaged q) some n d h = λ dir c loose bytes o u st few l.
    let x = shorter pages mid dir owner current c loose link next bytes some o u st n d in
    h dir (with_pages c x.data_pages) x.rest x.later o u x.is (omega (arith, few, x.long)) (x.changes.listed l).0
why_others pages mid owner current link next most PagesFull some n d h = absurd h
