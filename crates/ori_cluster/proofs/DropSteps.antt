-- A cluster with a loose chain, where the first chunk of that chain goes.
use Rattle.std.proofs.Common.{◌≡◌, ◌≢◌, ◌⊎◌, inl, inr, ℕ, zero, suc, ◌+◌, ◌<◌, ◌≤◌, true, false, List, [], ◌∷◌, length}
use Rattle.std.proofs.Common.{Some, get_or, refl, sym, ap, subst, ◌∙◌, true≢false, arith}
use Rattle.std.specs.List.{slice_get, remove}
use Rattle.std.proofs.lemmas.Bool.{cases_eq}
use Rattle.ori_page.specs.Pages.{kind_of}
use Rattle.ori_page.specs.Spaces.{page_at}
use Rattle.ori_posmap.specs.declared.place.Place.{Place}
use Rattle.ori_posmap.specs.Maps.{place_at, IsPositionMap, ChangesOwn}
use Rattle.ori_posmap.proofs.Effects.{widen}
use Rattle.ori_cluster.specs.declared.chunk.Link.{Link}
use Rattle.ori_cluster.specs.Slots.{Spot, has_chunk, IsSlotsPage, HasLess, Links}
use Rattle.ori_cluster.specs.Slots.{chunk_at}
use Rattle.ori_cluster.specs.Clusters.{Cluster, IsRecord, IsData, IsPageOf, IsChunkOf}
use Rattle.ori_cluster.specs.Staging.{IsStaged}
use Rattle.ori_cluster.specs.Drops.{Names, IsDropped}
use Rattle.ori_cluster.proofs.Putting.{slots_kind}
use Rattle.ori_cluster.proofs.Staging.{KeepsSpot, links_kept}
use Rattle.ori_cluster.proofs.DropMaps.{map_stays}
use Rattle.ori_cluster.proofs.DropChains.{links_has, keeps_each, same_spot, spot_is, removed_among, still_among}
use Rattle.ori_cluster.proofs.DropChains.{removed_distinct}

abbrev pub with_pages : Cluster → List ℕ → Cluster
with_pages c pages = record c { data_pages = pages }

-- ---- what the step says of each chunk and each slots page

-- The other chunks stay, on pages that stay the cluster's; no chunk has come, and the first one is gone.
record IsStep (owner : ℕ) (c : Cluster) (held : List ℕ) (first : Spot) (before after : List (List ℕ)) : Type 0 where
  keeps : (spot : Spot) → IsData c spot.page → has_chunk spot.slot (page_at before spot.page) ≡ true → spot ≢ first
      → KeepsSpot owner spot before after × IsData (with_pages c held) spot.page
  back : (spot : Spot) → IsData (with_pages c held) spot.page → has_chunk spot.slot (page_at after spot.page) ≡ true
      → (has_chunk spot.slot (page_at before spot.page) ≡ true) × (spot ≢ first)
  fewer : (p : ℕ) → IsData (with_pages c held) p → IsData c p
  slots : (p : ℕ) → IsData (with_pages c held) p → IsSlotsPage owner (page_at after p)
  distinct : (j k : ℕ) → j < k → k < length held → get_or held j 0 ≢ get_or held k 0
  current : (c.map.current ≡ 0) ⊎ IsData (with_pages c held) c.map.current
  bare : (p : ℕ) → IsData (with_pages c held) p → p ≢ c.map.current
      → (s : ℕ) × (has_chunk s (page_at after p) ≡ true)

as_before : (c : Cluster) (held : List ℕ) (q i : ℕ) (spot : Spot) → IsChunkOf (with_pages c held) q i spot
    → IsChunkOf c q i spot
as_before c held q i spot x = record { place = x.place; live = x.live; is = x.is }

as_after : (c : Cluster) (held : List ℕ) (q i : ℕ) (spot : Spot) → IsChunkOf c q i spot
    → IsChunkOf (with_pages c held) q i spot
as_after c held q i spot x = record { place = x.place; live = x.live; is = x.is }

-- a chunk of a live record, and one that is loose, stand on their pages
pub chunk_has : (pages : List (List ℕ)) (dir : ℕ) (c : Cluster) (loose : List Spot) (link : Link) (bytes : List ℕ)
    (q i : ℕ) (spot : Spot) → IsStaged pages dir c loose link bytes → IsChunkOf c q i spot
    → has_chunk spot.slot (page_at pages spot.page) ≡ true
chunk_has pages dir c loose link bytes q i spot st x =
    let r = st.records q x.place x.live in
    (links_has pages c.map.owner (c.chains q) x.place.page x.place.slot (c.records q) i spot r.links x.is).chunk

pub loose_has : (pages : List (List ℕ)) (dir : ℕ) (c : Cluster) (loose : List Spot) (link : Link) (bytes : List ℕ)
    (i : ℕ) (spot : Spot) → IsStaged pages dir c loose link bytes → slice_get loose i ≡ Some spot
    → has_chunk spot.slot (page_at pages spot.page) ≡ true
loose_has pages dir c loose link bytes i spot st at =
    (links_has pages c.map.owner loose link.page link.slot bytes i spot st.links at).chunk

-- ---- the chains without the first chunk

abbrev Staged : List (List ℕ) → ℕ → Cluster → Spot → List Spot → Link → List ℕ → Type 0
Staged pages dir c first rest link bytes = IsStaged pages dir c (first ∷ rest) link bytes

record_kept : (before after : List (List ℕ)) (dir : ℕ) (c : Cluster) (held : List ℕ) (first : Spot) (rest : List Spot)
    (link : Link) (bytes : List ℕ) → length before ≤ length after → Staged before dir c first rest link bytes
    → IsStep c.map.owner c held first before after → (q : ℕ) (place : Place) → place_at c.map q ≡ Some place
    → IsRecord after c.map.owner place (c.chains q) (c.records q)
record_kept before after dir c held first rest link bytes more st x q place live =
    let r = st.records q place live in
    record {
      links = links_kept before after c.map.owner (c.chains q) place.page place.slot (c.records q) more
          (keeps_each c.map.owner (c.chains q) before after (λ i spot at.
          let x_of : IsChunkOf c q i spot = record { place = place; live = live; is = at } in
          (x.keeps spot (st.inside q i spot x_of) (chunk_has before dir c (first ∷ rest) link bytes q i spot st x_of)
          (λ e. st.apart q i 0 spot x_of (ap Some (sym e)))).0)) r.links;
      long = r.long;
      some = r.some;
      most = r.most;
      few = r.few;
    }

rest_kept : (before after : List (List ℕ)) (dir : ℕ) (c : Cluster) (held : List ℕ) (first : Spot) (rest : List Spot)
    (link : Link) (bytes : List ℕ) → Staged before dir c first rest link bytes
    → IsStep c.map.owner c held first before after → (i : ℕ) (spot : Spot) → slice_get rest i ≡ Some spot
    → KeepsSpot c.map.owner spot before after × IsData (with_pages c held) spot.page
rest_kept before after dir c held first rest link bytes st x i spot at =
    x.keeps spot (st.loose_inside (suc i) spot at)
    (loose_has before dir c (first ∷ rest) link bytes (suc i) spot st at)
    (λ e. absurd (omega (arith, st.loose_once (suc i) 0 spot at (ap Some (sym e)))))

each_kept : (before after : List (List ℕ)) (dir : ℕ) (c : Cluster) (held : List ℕ) (first : Spot) (rest : List Spot)
    (link : Link) (bytes : List ℕ) → Staged before dir c first rest link bytes
    → (spot : Spot) → spot ≢ first
    → ((q : ℕ) × (i : ℕ) × IsChunkOf c q i spot) ⊎ ((i : ℕ) × (slice_get (first ∷ rest) i ≡ Some spot))
    → ((q : ℕ) × (i : ℕ) × IsChunkOf (with_pages c held) q i spot) ⊎ ((i : ℕ) × (slice_get rest i ≡ Some spot))
each_kept before after dir c held first rest link bytes st spot other (inl (q, i, x_of)) =
    inl (q, i, as_after c held q i spot x_of)
each_kept before after dir c held first rest link bytes st spot other (inr (zero, at)) =
    let same : first ≡ spot = cc in absurd (other (sym same))
each_kept before after dir c held first rest link bytes st spot other (inr (suc i, at)) = inr (i, at)

step_staged : (before after : List (List ℕ)) (dir : ℕ) (c : Cluster) (held : List ℕ) (first : Spot) (rest : List Spot)
    (link next : Link) (bytes later : List ℕ) → length before ≤ length after
    → Staged before dir c first rest link bytes → IsPositionMap after dir c.map
    → IsStep c.map.owner c held first before after → Links before c.map.owner rest next.page next.slot later
    → IsStaged after dir (with_pages c held) rest next later
step_staged before after dir c held first rest link next bytes later more st map x l = record {
  map = map;
  records = λ q place live. record_kept before after dir c held first rest link bytes more st x q place live;
  links = links_kept before after c.map.owner rest next.page next.slot later more
      (keeps_each c.map.owner rest before after
      (λ i spot at. (rest_kept before after dir c held first rest link bytes st x i spot at).0)) l;
  above = λ p d. st.above p (x.fewer p d);
  below = λ p d. omega (arith, st.below p (x.fewer p d), more);
  slots = x.slots;
  distinct = x.distinct;
  inside = λ q i spot x_of.
      let was = as_before c held q i spot x_of in
      (x.keeps spot (st.inside q i spot was) (chunk_has before dir c (first ∷ rest) link bytes q i spot st was)
      (λ e. st.apart q i 0 spot was (ap Some (sym e)))).1;
  loose_inside = λ i spot at. (rest_kept before after dir c held first rest link bytes st x i spot at).1;
  each = λ spot d has.
      let b = x.back spot d has in
      each_kept before after dir c held first rest link bytes st spot b.1 (st.each spot (x.fewer spot.page d) b.0);
  once = λ q r i j spot a b. st.once q r i j spot (as_before c held q i spot a) (as_before c held r j spot b);
  loose_once = λ i j spot a b. omega (arith, st.loose_once (suc i) (suc j) spot a b);
  apart = λ q i j spot a b. st.apart q i (suc j) spot (as_before c held q i spot a) b;
  current = x.current;
  bare = x.bare;
}

-- ---- the page stays, or goes

kept_page : (owner p q : ℕ) (before after : List (List ℕ)) → ChangesOwn (λ x. x ≡ p) 0 before after → 0 < q
    → q < length before → IsSlotsPage owner (page_at before q) → q ≢ p → page_at after q ≡ page_at before q
kept_page owner p q before after c above below i other =
    c.others q above below (λ e. absurd (omega (arith, e, slots_kind owner (page_at before q) i.slots))) other

-- the page is written
less_keeps : (owner : ℕ) (first spot : Spot) (before after : List (List ℕ))
    → HasLess owner first.slot (page_at before first.page) (page_at after first.page) → spot ≢ first
    → spot.page ≡ first.page → KeepsSpot owner spot before after
less_keeps owner first spot before after h other e =
    subst (λ (p : ℕ). KeepsSpot owner (record { page = p; slot = spot.slot }) before after) (sym e) (record {
      page = h.slots.slots;
      chunk = h.others spot.slot (λ s. other (spot_is spot first e s));
    })

less_slots : (owner : ℕ) (first : Spot) (p : ℕ) (before after : List (List ℕ))
    → HasLess owner first.slot (page_at before first.page) (page_at after first.page)
    → IsSlotsPage owner (page_at before p)
    → (p ≢ first.page → page_at after p ≡ page_at before p) → (p ≡ first.page) ⊎ (p ≡ first.page → ⊥)
    → IsSlotsPage owner (page_at after p)
less_slots owner first p before after h i same (inl e) =
    subst (λ (x : ℕ). IsSlotsPage owner (page_at after x)) (sym e) h.slots
less_slots owner first p before after h i same (inr other) = subst (IsSlotsPage owner) (sym (same other)) i

record Before (owner dir : ℕ) (c : Cluster) (first : Spot) (before after : List (List ℕ)) : Type 0 where
  same : (p : ℕ) → IsData c p → p ≢ first.page → page_at after p ≡ page_at before p
  slots : (p : ℕ) → IsData c p → IsSlotsPage owner (page_at before p)
  distinct : (j k : ℕ) → j < k → k < length c.data_pages → get_or c.data_pages j 0 ≢ get_or c.data_pages k 0
  current : (c.map.current ≡ 0) ⊎ IsData c c.map.current
  bare : (p : ℕ) → IsData c p → p ≢ c.map.current → (s : ℕ) × (has_chunk s (page_at before p) ≡ true)

less_bare : (owner dir : ℕ) (c : Cluster) (first : Spot) (before after : List (List ℕ))
    → Before owner dir c first before after
    → (first.page ≡ c.map.current) ⊎ ((r : ℕ) × (has_chunk r (page_at after first.page) ≡ true))
    → (p : ℕ) → IsData c p → p ≢ c.map.current → (p ≡ first.page) ⊎ (p ≡ first.page → ⊥)
    → (s : ℕ) × (has_chunk s (page_at after p) ≡ true)
less_bare owner dir c first before after b (inl is) p d aside (inl e) = absurd (aside (e ∙ is))
less_bare owner dir c first before after b (inr some) p d aside (inl e) =
    (some.0, ap (λ (x : ℕ). has_chunk some.0 (page_at after x)) e ∙ some.1)
less_bare owner dir c first before after b keeps p d aside (inr other) =
    let x = b.bare p d aside in (x.0, ap (has_chunk x.0) (b.same p d other) ∙ x.1)

less_back : (owner dir : ℕ) (c : Cluster) (first : Spot) (before after : List (List ℕ))
    → Before owner dir c first before after
    → HasLess owner first.slot (page_at before first.page) (page_at after first.page)
    → (spot : Spot) → IsData c spot.page → has_chunk spot.slot (page_at after spot.page) ≡ true
    → (spot.page ≡ first.page) ⊎ (spot.page ≡ first.page → ⊥)
    → (has_chunk spot.slot (page_at before spot.page) ≡ true) × (spot ≢ first)
less_back owner dir c first before after b h spot d has (inr other) = (
  ap (has_chunk spot.slot) (sym (b.same spot.page d other)) ∙ has,
  λ e. other (ap (λ (x : Spot). x.page) e),
)
less_back owner dir c first before after b h spot d has (inl e) = on (cases_eq spot.slot first.slot)
  where
    here : has_chunk spot.slot (page_at after first.page) ≡ true
    here = ap (λ (x : ℕ). has_chunk spot.slot (page_at after x)) (sym e) ∙ has

    on : (spot.slot ≡ first.slot) ⊎ (spot.slot ≡ first.slot → ⊥)
        → (has_chunk spot.slot (page_at before spot.page) ≡ true) × (spot ≢ first)
    on (inl s) = absurd (true≢false (sym here
        ∙ ap (λ (x : ℕ). has_chunk x (page_at after first.page)) s ∙ h.gone))
    on (inr other) = (
      ap (λ (x : ℕ). has_chunk spot.slot (page_at before x)) e ∙ sym (h.others spot.slot other).has ∙ here,
      λ x. other (ap (λ (y : Spot). y.slot) x),
    )

less_step : (owner dir : ℕ) (c : Cluster) (first : Spot) (before after : List (List ℕ))
    → Before owner dir c first before after
    → HasLess owner first.slot (page_at before first.page) (page_at after first.page)
    → (first.page ≡ c.map.current) ⊎ ((r : ℕ) × (has_chunk r (page_at after first.page) ≡ true))
    → IsStep owner c c.data_pages first before after
less_step owner dir c first before after b h keeps = record {
  keeps = λ spot d has other. (kept spot d other (cases_eq spot.page first.page), d);
  back = λ spot d has. less_back owner dir c first before after b h spot d has (cases_eq spot.page first.page);
  fewer = λ p d. d;
  slots = λ p d. less_slots owner first p before after h (b.slots p d) (b.same p d) (cases_eq p first.page);
  distinct = b.distinct;
  current = b.current;
  bare = λ p d aside. less_bare owner dir c first before after b keeps p d aside (cases_eq p first.page);
}
  where
    kept : (spot : Spot) → IsData c spot.page → spot ≢ first
        → (spot.page ≡ first.page) ⊎ (spot.page ≡ first.page → ⊥) → KeepsSpot owner spot before after
    kept spot d other (inl e) = less_keeps owner first spot before after h other e
    kept spot d other (inr aside) =
        same_spot owner spot before after (b.slots spot.page d).slots (b.same spot.page d aside)

-- the page is released
gone_step : (owner dir : ℕ) (c : Cluster) (first : Spot) (before after : List (List ℕ))
    → Before owner dir c first before after → (k : ℕ) → k < length c.data_pages
    → first.page ≡ get_or c.data_pages k 0 → first.page ≢ c.map.current
    → ((r : ℕ) → r ≢ first.slot → has_chunk r (page_at before first.page) ≡ false)
    → IsStep owner c (remove c.data_pages k) first before after
gone_step owner dir c first before after b k low is aside none = record {
  keeps = λ spot d has other.
      let far = apart spot has other in (
        same_spot owner spot before after (b.slots spot.page d).slots (b.same spot.page d far),
        still spot.page d far,
      );
  back = λ spot d has.
      let x = was spot.page d in (
        ap (has_chunk spot.slot) (sym (b.same spot.page x.0 x.1)) ∙ has,
        λ e. x.1 (ap (λ (y : Spot). y.page) e),
      );
  fewer = λ p d. (was p d).0;
  slots = λ p d. let x = was p d in subst (IsSlotsPage owner) (sym (b.same p x.0 x.1)) (b.slots p x.0);
  distinct = removed_distinct c.data_pages k b.distinct low;
  current = now b.current;
  bare = λ p d other.
      let x = was p d in
      let y = b.bare p x.0 other in (y.0, ap (has_chunk y.0) (b.same p x.0 x.1) ∙ y.1);
}
  where
    still : (p : ℕ) → IsData c p → p ≢ first.page → IsData (with_pages c (remove c.data_pages k)) p
    still p d far = still_among c.data_pages k p low d (λ e. far (e ∙ sym is))

    was : (p : ℕ) → IsData (with_pages c (remove c.data_pages k)) p → IsData c p × (p ≢ first.page)
    was p d = let x = removed_among c.data_pages k p b.distinct low d in (x.0, λ e. x.1 (e ∙ is))

    apart : (spot : Spot) → has_chunk spot.slot (page_at before spot.page) ≡ true → spot ≢ first
        → spot.page ≢ first.page
    apart spot has other = λ e. true≢false (sym has
        ∙ ap (λ (x : ℕ). has_chunk spot.slot (page_at before x)) e
        ∙ none spot.slot (λ s. other (spot_is spot first e s)))

    now : (c.map.current ≡ 0) ⊎ IsData c c.map.current
        → (c.map.current ≡ 0) ⊎ IsData (with_pages c (remove c.data_pages k)) c.map.current
    now (inl zero_is) = inl zero_is
    now (inr d) = inr (still c.map.current d (λ e. aside (sym e)))

-- ---- the step

-- a cluster whose loose chain has lost its first chunk
pub record IsShorter (dir : ℕ) (c : Cluster) (loose : List Spot) (next : Link)
    (before after : List (List ℕ)) : Type 0 where
  pub data_pages : List ℕ
  pub rest : List Spot
  pub later : List ℕ
  pub is : IsStaged after dir (with_pages c data_pages) rest next later
  pub long : length loose ≡ length rest + 1
  pub fewer : (p : ℕ) → IsData (with_pages c data_pages) p → IsData c p
  pub changes : ChangesOwn (IsPageOf dir c) 0 before after

-- which slots pages the cluster has then
step_of : (owner dir : ℕ) (c : Cluster) (first : Spot) (before after : List (List ℕ))
    → Before owner dir c first before after → IsData c first.page
    → (HasLess owner first.slot (page_at before first.page) (page_at after first.page)
    × ((first.page ≡ c.map.current) ⊎ ((r : ℕ) × (has_chunk r (page_at after first.page) ≡ true))))
    ⊎ ((first.page ≢ c.map.current) × ((r : ℕ) → r ≢ first.slot → has_chunk r (page_at before first.page) ≡ false))
    → (held : List ℕ) × IsStep owner c held first before after
step_of owner dir c first before after b there (inl (h, keeps)) =
    (c.data_pages, less_step owner dir c first before after b h keeps)
step_of owner dir c first before after b (k, low, is) (inr (aside, none)) =
    (remove c.data_pages k, gone_step owner dir c first before after b k low is aside none)

shorter_first : (before after : List (List ℕ)) (dir : ℕ) (c : Cluster) (first : Spot) (rest : List Spot)
    (link next : Link) (bytes : List ℕ) → Staged before dir c first rest link bytes
    → Names (page_at before first.page) first.slot next
    → IsDropped c.map.owner c.map.current first.page first.slot before after
    → IsShorter dir c (first ∷ rest) next before after
shorter_first before after dir c first rest link next bytes st n d =
    let t = st.links.3 in
    let there : IsData c first.page = st.loose_inside 0 first refl in
    let i : IsSlotsPage c.map.owner (page_at before first.page) = st.slots first.page there in
    let map : IsPositionMap after dir c.map = map_stays (λ q. q ≡ first.page) 0 before after dir c.map st.map d.changes
    (λ q e. ap (λ (y : ℕ). kind_of (page_at before y)) e
    ∙ slots_kind c.map.owner (page_at before first.page) i.slots) in
    let links : Links before c.map.owner rest next.page next.slot t.0
    = subst (λ (y : ℕ). Links before c.map.owner rest y next.slot t.0) (sym n.0)
    (subst (λ (y : ℕ). Links before c.map.owner rest (chunk_at before first).page y t.0) (sym n.1) t.2) in
    let b : Before c.map.owner dir c first before after = record {
      same = λ p e far. kept_page c.map.owner first.page p before after d.changes (st.above p e) (st.below p e)
          (st.slots p e) far;
      slots = st.slots;
      distinct = st.distinct;
      current = st.current;
      bare = st.bare;
    } in
    let x = step_of c.map.owner dir c first before after b there d.page in
    record {
      data_pages = x.0;
      rest = rest;
      later = t.0;
      is = step_staged before after dir c x.0 first rest link next bytes t.0 d.changes.count st map x.1 links;
      long = omega arith;
      fewer = x.1.fewer;
      changes = widen (λ q. q ≡ first.page) (IsPageOf dir c) 0 before after
          (λ q e. inr (subst (IsData c) (sym e) there)) d.changes;
    }

-- the same by another name of the place
dropped_at : (before after : List (List ℕ)) (owner current : ℕ) (c : Cluster) (first : Spot) (link : Link)
    → link.page ≡ first.page → link.slot ≡ first.slot → owner ≡ c.map.owner → current ≡ c.map.current
    → IsDropped owner current link.page link.slot before after
    → IsDropped c.map.owner c.map.current first.page first.slot before after
dropped_at before after owner current c first link p s o u d =
    subst (λ (y : ℕ). IsDropped y c.map.current first.page first.slot before after) o
    (subst (λ (y : ℕ). IsDropped owner y first.page first.slot before after) u
    (subst (λ (y : ℕ). IsDropped owner current y first.slot before after) p
    (subst (λ (y : ℕ). IsDropped owner current link.page y before after) s d)))

named_at : (before : List (List ℕ)) (first : Spot) (link next : Link) → link.page ≡ first.page
    → link.slot ≡ first.slot → Names (page_at before link.page) link.slot next
    → Names (page_at before first.page) first.slot next
named_at before first link next p s n =
    subst (λ (y : ℕ). Names (page_at before y) first.slot next) p
    (subst (λ (y : ℕ). Names (page_at before link.page) y next) s n)

pub shorter : (before after : List (List ℕ)) (dir owner current : ℕ) (c : Cluster) (loose : List Spot)
    (link next : Link) (bytes : List ℕ) → link.page ≢ 0 → owner ≡ c.map.owner → current ≡ c.map.current
    → IsStaged before dir c loose link bytes → Names (page_at before link.page) link.slot next
    → (IsSlotsPage owner (page_at before link.page) → IsDropped owner current link.page link.slot before after)
    → IsShorter dir c loose next before after
shorter before after dir owner current c [] link next bytes some o u st n d = absurd (some st.links.0)
shorter before after dir owner current c (first ∷ rest) link next bytes some o u st n d =
    let p = st.links.0 in
    let s = st.links.1 in
    let i : IsSlotsPage c.map.owner (page_at before first.page)
    = st.slots first.page (st.loose_inside 0 first refl) in
    let here : IsSlotsPage owner (page_at before link.page)
    = subst (λ (y : ℕ). IsSlotsPage y (page_at before link.page)) (sym o)
    (subst (λ (y : ℕ). IsSlotsPage c.map.owner (page_at before y)) (sym p) i) in
    shorter_first before after dir c first rest link next bytes st (named_at before first link next p s n)
    (dropped_at before after owner current c first link p s o u (d here))
