-- A cluster whose map says more: another current page, or a position that takes the loose chain.
use Rattle.std.proofs.Common.{◌≡◌, ℕ, ◌<◌, ◌≤◌, Bool, true, if◌then◌else◌, Some}
use Rattle.std.proofs.Common.{List, [], length, slice_get, ◌⊎◌, inl, inr, refl, sym, ap, subst, ◌∙◌, arith}
use Rattle.std.proofs.lemmas.Bool.{cases_eq, eq-eqb, ne_eqb}
use Rattle.ori_page.specs.Spaces.{page_at}
use Rattle.ori_posmap.specs.declared.place.Place.{Place}
use Rattle.ori_posmap.specs.Maps.{PositionMap, place_at, IsPositionMap, IsCurrent}
use Rattle.ori_cluster.specs.declared.TheConstants.{MAX_BYTES}
use Rattle.ori_cluster.specs.declared.chunk.Link.{Link}
use Rattle.ori_cluster.specs.Slots.{Spot, has_chunk, Links, IsSlotsPage}
use Rattle.ori_cluster.specs.Clusters.{Cluster, IsRecord, IsData, IsChunkOf, IsCluster, most_chunks}
use Rattle.ori_cluster.specs.Staging.{IsStaged}
use Rattle.ori_cluster.specs.Growing.{on_pages, with_at, link_of}
use Rattle.ori_cluster.proofs.Staging.{KeepsSpot, links_kept}
use Rattle.ori_cluster.proofs.DropChains.{keeps_each, same_spot}
use Rattle.ori_cluster.proofs.PutStaged.{as_new, as_old, chunk_has, record_kept, loose_kept}
use Rattle.ori_cluster.proofs.PutPages.{data_stays}

-- ---- no loose chain

pub to_staged : (pages : List (List ℕ)) (dir : ℕ) (c : Cluster) → IsCluster pages dir c
    → IsStaged pages dir c [] (record { page = 0; slot = 0 }) []
to_staged pages dir c i = record {
  map = i.map;
  records = i.records;
  links = (refl, refl);
  above = i.above;
  below = i.below;
  slots = i.slots;
  distinct = i.distinct;
  inside = i.inside;
  loose_inside = λ j s at. cc;
  each = λ s d h. inl (i.each s d h);
  once = i.once;
  loose_once = λ j k s at also. cc;
  apart = λ q j k s x at. cc;
  current = i.current;
  bare = i.bare;
}

pub from_staged : (pages : List (List ℕ)) (dir : ℕ) (c : Cluster) (link : Link) (bytes : List ℕ)
    → IsStaged pages dir c [] link bytes → IsCluster pages dir c
from_staged pages dir c link bytes i = record {
  map = i.map;
  records = i.records;
  above = i.above;
  below = i.below;
  slots = i.slots;
  distinct = i.distinct;
  inside = i.inside;
  each = λ s d h. each s (i.each s d h);
  once = i.once;
  current = i.current;
  bare = i.bare;
}
  where
    each : (s : Spot) → ((q : ℕ) × (j : ℕ) × IsChunkOf c q j s) ⊎ ((j : ℕ) × (slice_get [] j ≡ Some s))
        → (q : ℕ) × (j : ℕ) × IsChunkOf c q j s
    each s (inl x) = x
    each s (inr (j, at)) = cc

-- ---- another current page

pub current_moved : (mid after : List (List ℕ)) (dir p : ℕ) (c : Cluster) (loose : List Spot) (link : Link)
    (bytes : List ℕ) → IsStaged mid dir c loose link bytes → IsCurrent dir c.map p mid after → IsData c p
    → (IsData c c.map.current → (s : ℕ) × (has_chunk s (page_at mid c.map.current) ≡ true))
    → IsStaged after dir (on_pages c p c.data_pages) loose link bytes
current_moved mid after dir p c loose link bytes i h here full =
    let stay : (q : ℕ) → IsData c q → page_at after q ≡ page_at mid q
    = data_stays mid after dir 0 c loose link bytes i h.changes in
    let keep : (s : Spot) → IsData c s.page → has_chunk s.slot (page_at mid s.page) ≡ true
    → KeepsSpot c.map.owner s mid after
    = λ s d has. same_spot c.map.owner s mid after (i.slots s.page d).slots (stay s.page d) in
    record {
      map = h.is;
      records = record_kept mid after dir c loose link bytes i h.changes.count keep;
      links = loose_kept mid after dir c loose link bytes i h.changes.count keep;
      above = i.above;
      below = λ q d. omega (arith, i.below q d, h.changes.count);
      slots = λ q d. subst (IsSlotsPage c.map.owner) (sym (stay q d)) (i.slots q d);
      distinct = i.distinct;
      inside = λ q j s x. i.inside q j s (as_old c p c.data_pages q j s x);
      loose_inside = i.loose_inside;
      each = λ s d has. each s (i.each s d (subst (λ (x : List ℕ). has_chunk s.slot x ≡ true) (stay s.page d) has));
      once = λ q r j k s x y. i.once q r j k s (as_old c p c.data_pages q j s x) (as_old c p c.data_pages r k s y);
      loose_once = i.loose_once;
      apart = λ q j k s x at. i.apart q j k s (as_old c p c.data_pages q j s x) at;
      current = inr here;
      bare = λ q d other. after_has q (stay q d) (bare q d (cases_eq q c.map.current));
    }
  where
    each : (s : Spot) → ((q : ℕ) × (j : ℕ) × IsChunkOf c q j s) ⊎ ((j : ℕ) × (slice_get loose j ≡ Some s))
        → ((q : ℕ) × (j : ℕ) × IsChunkOf (on_pages c p c.data_pages) q j s)
        ⊎ ((j : ℕ) × (slice_get loose j ≡ Some s))
    each s (inl (q, j, x)) = inl (q, j, as_new c p c.data_pages q j s x)
    each s (inr x) = inr x

    bare : (q : ℕ) → IsData c q → (q ≡ c.map.current) ⊎ (q ≡ c.map.current → ⊥)
        → (s : ℕ) × (has_chunk s (page_at mid q) ≡ true)
    bare q d (inl e) =
        let x = full (subst (IsData c) e d) in
        (x.0, subst (λ (y : ℕ). has_chunk x.0 (page_at mid y) ≡ true) (sym e) x.1)
    bare q d (inr other) = i.bare q d other

    after_has : (q : ℕ) → page_at after q ≡ page_at mid q → (s : ℕ) × (has_chunk s (page_at mid q) ≡ true)
        → (s : ℕ) × (has_chunk s (page_at after q) ≡ true)
    after_has q same x = (x.0, subst (λ (y : List ℕ). has_chunk x.0 y ≡ true) (sym same) x.1)

-- ---- a position takes the loose chain

pub with_same : {A : Type 0} (q r : ℕ) (x : A) (f : ℕ → A) → r ≡ q → with_at q x f r ≡ x
with_same q r x f e = ap (λ (b : Bool). if b then x else f r) (eq-eqb r q e)

pub with_other : {A : Type 0} (q r : ℕ) (x : A) (f : ℕ → A) → (r ≡ q → ⊥) → with_at q x f r ≡ f r
with_other q r x f e = ap (λ (b : Bool). if b then x else f r) (ne_eqb r q e)

-- a map of the same owner and current page, with the map pages and entries of another
abbrev pub map_like : PositionMap → PositionMap → PositionMap
map_like m other = record m { maps = other.maps; entries = other.entries }

-- the cluster where a position has these bytes on this chain, by other entries of its map
abbrev pub taken : Cluster → PositionMap → ℕ → List ℕ → List Spot → Cluster
taken c m q bytes chain = record {
  map = map_like c.map m;
  data_pages = c.data_pages;
  records = with_at q bytes c.records;
  chains = with_at q chain c.chains;
}

-- What a position needs to take a chain. The chain that it had, or none, is loose then.
pub record Takes (mid after : List (List ℕ)) (dir : ℕ) (c : Cluster) (m : PositionMap) (q : ℕ)
    (place : Place) (loose old : List Spot) (link : Link) (bytes was : List ℕ) : Type 0 where
  pub count : length mid ≤ length after
  pub map : IsPositionMap after dir (map_like c.map m)
  pub live : place_at (map_like c.map m) q ≡ Some place
  pub others : (r : ℕ) → (r ≡ q → ⊥) → place_at (map_like c.map m) r ≡ place_at c.map r
  pub stays : (p : ℕ) → IsData c p → page_at after p ≡ page_at mid p
  pub long : length bytes ≡ place.bytes
  pub some : 0 < length bytes
  pub most : length bytes ≤ MAX_BYTES
  pub few : length loose ≤ most_chunks (length bytes)
  pub old_links : Links mid c.map.owner old link.page link.slot was
  pub old_of : (j : ℕ) (s : Spot) → slice_get old j ≡ Some s → IsChunkOf c q j s
  pub of_old : (j : ℕ) (s : Spot) → IsChunkOf c q j s → slice_get old j ≡ Some s

-- a chunk is one of the position's new chain, or one of another position
split : (mid after : List (List ℕ)) (dir : ℕ) (c : Cluster) (m : PositionMap) (q : ℕ)
    (place : Place) (loose old : List Spot) (link : Link) (bytes was : List ℕ)
    → Takes mid after dir c m q place loose old link bytes was → (r j : ℕ) (s : Spot)
    → IsChunkOf (taken c m q bytes loose) r j s
    → ((r ≡ q) × (slice_get loose j ≡ Some s)) ⊎ ((r ≡ q → ⊥) × IsChunkOf c r j s)
split mid after dir c m q place loose old link bytes was t r j s x = by (cases_eq r q)
  where
    by : (r ≡ q) ⊎ (r ≡ q → ⊥) → ((r ≡ q) × (slice_get loose j ≡ Some s)) ⊎ ((r ≡ q → ⊥) × IsChunkOf c r j s)
    by (inl e) = inl (
      e,
      ap (λ (y : List Spot). slice_get y j) (sym (with_same q r loose c.chains e)) ∙ x.is,
    )
    by (inr other) = inr (
      other,
      record {
        place = x.place;
        live = sym (t.others r other) ∙ x.live;
        is = ap (λ (y : List Spot). slice_get y j) (sym (with_other q r loose c.chains other)) ∙ x.is;
      },
    )

pub take_chain : (mid after : List (List ℕ)) (dir : ℕ) (c : Cluster) (m : PositionMap) (q : ℕ)
    (place : Place) (loose old : List Spot) (link : Link) (bytes was : List ℕ)
    → IsStaged mid dir c loose (link_of place) bytes
    → Takes mid after dir c m q place loose old link bytes was
    → IsStaged after dir (taken c m q bytes loose) old link was
take_chain mid after dir c m q place loose old link bytes was i t =
    let d = taken c m q bytes loose in
    let cut = split mid after dir c m q place loose old link bytes was t in
    let keep : (s : Spot) → IsData c s.page → has_chunk s.slot (page_at mid s.page) ≡ true
    → KeepsSpot c.map.owner s mid after
    = λ s x has. same_spot c.map.owner s mid after (i.slots s.page x).slots (t.stays s.page x) in
    let first : Links after c.map.owner loose place.page place.slot bytes
    = loose_kept mid after dir c loose (link_of place) bytes i t.count keep in
    record {
      map = t.map;
      records = λ r there live. records first (record_kept mid after dir c loose (link_of place) bytes i t.count keep) r
          there live (cases_eq r q);
      links = links_kept mid after c.map.owner old link.page link.slot was t.count
          (keeps_each c.map.owner old mid after (λ j s at. keep s (i.inside q j s (t.old_of j s at))
          (chunk_has mid dir c loose (link_of place) bytes i q j s (t.old_of j s at)).chunk)) t.old_links;
      above = i.above;
      below = λ p x. omega (arith, i.below p x, t.count);
      slots = λ p x. subst (IsSlotsPage c.map.owner) (sym (t.stays p x)) (i.slots p x);
      distinct = i.distinct;
      inside = λ r j s x. inside r j s (cut r j s x);
      loose_inside = λ j s at. i.inside q j s (t.old_of j s at);
      each = λ s x has. each s
          (i.each s x (subst (λ (y : List ℕ). has_chunk s.slot y ≡ true) (t.stays s.page x) has));
      once = λ r v j k s x y. once r v j k s (cut r j s x) (cut v k s y);
      loose_once = λ j k s x y. (i.once q q j k s (t.old_of j s x) (t.old_of k s y)).1;
      apart = λ r j k s x at. apart r j k s (cut r j s x) (t.old_of k s at);
      current = i.current;
      bare = λ p x other.
          let b = i.bare p x other in
          (b.0, subst (λ (y : List ℕ). has_chunk b.0 y ≡ true) (sym (t.stays p x)) b.1);
    }
  where
    records : Links after c.map.owner loose place.page place.slot bytes
        → ((r : ℕ) (there : Place) → place_at c.map r ≡ Some there
        → IsRecord after c.map.owner there (c.chains r) (c.records r)) → (r : ℕ) (there : Place)
        → place_at (map_like c.map m) r ≡ Some there
        → (r ≡ q) ⊎ (r ≡ q → ⊥)
        → IsRecord after c.map.owner there (with_at q loose c.chains r) (with_at q bytes c.records r)
    records first kept r there live (inl e) =
        let same : place ≡ there
        = place_is place there (sym t.live
        ∙ ap (place_at (map_like c.map m)) (sym e) ∙ live) in
        let here : IsRecord after c.map.owner place loose bytes
        = record { links = first; long = t.long; some = t.some; most = t.most; few = t.few } in
        subst (λ (y : List ℕ). IsRecord after c.map.owner there (with_at q loose c.chains r) y)
        (sym (with_same q r bytes c.records e))
        (subst (λ (y : List Spot). IsRecord after c.map.owner there y bytes) (sym (with_same q r loose c.chains e))
        (subst (λ (y : Place). IsRecord after c.map.owner y loose bytes) same here))
      where
        place_is : (x y : Place) → Some x ≡ Some y → x ≡ y
        place_is x y h = cc
    records first kept r there live (inr other) =
        subst (λ (y : List ℕ). IsRecord after c.map.owner there (with_at q loose c.chains r) y)
        (sym (with_other q r bytes c.records other))
        (subst (λ (y : List Spot). IsRecord after c.map.owner there y (c.records r))
        (sym (with_other q r loose c.chains other)) (kept r there (sym (t.others r other) ∙ live)))

    inside : (r j : ℕ) (s : Spot) → ((r ≡ q) × (slice_get loose j ≡ Some s)) ⊎ ((r ≡ q → ⊥) × IsChunkOf c r j s)
        → IsData c s.page
    inside r j s (inl (e, at)) = i.loose_inside j s at
    inside r j s (inr (other, x)) = i.inside r j s x

    each : (s : Spot) → ((r : ℕ) × (j : ℕ) × IsChunkOf c r j s) ⊎ ((j : ℕ) × (slice_get loose j ≡ Some s))
        → ((r : ℕ) × (j : ℕ) × IsChunkOf (taken c m q bytes loose) r j s)
        ⊎ ((j : ℕ) × (slice_get old j ≡ Some s))
    each s (inr (j, at)) = inl (
      q,
      j,
      record {
        place = place;
        live = t.live;
        is = ap (λ (y : List Spot). slice_get y j) (with_same q q loose c.chains refl) ∙ at;
      },
    )
    each s (inl (r, j, x)) = by (cases_eq r q)
      where
        by : (r ≡ q) ⊎ (r ≡ q → ⊥) → ((r : ℕ) × (j : ℕ) × IsChunkOf (taken c m q bytes loose) r j s)
            ⊎ ((j : ℕ) × (slice_get old j ≡ Some s))
        by (inl e) = inr (j, t.of_old j s (subst (λ (y : ℕ). IsChunkOf c y j s) e x))
        by (inr other) = inl (
          r,
          j,
          record {
            place = x.place;
            live = t.others r other ∙ x.live;
            is = ap (λ (y : List Spot). slice_get y j) (with_other q r loose c.chains other) ∙ x.is;
          },
        )

    once : (r v j k : ℕ) (s : Spot) → ((r ≡ q) × (slice_get loose j ≡ Some s)) ⊎ ((r ≡ q → ⊥) × IsChunkOf c r j s)
        → ((v ≡ q) × (slice_get loose k ≡ Some s)) ⊎ ((v ≡ q → ⊥) × IsChunkOf c v k s) → (r ≡ v) × (j ≡ k)
    once r v j k s (inl (e, x)) (inl (f, y)) = (e ∙ sym f, i.loose_once j k s x y)
    once r v j k s (inl (e, x)) (inr (f, y)) = absurd (i.apart v k j s y x)
    once r v j k s (inr (e, x)) (inl (f, y)) = absurd (i.apart r j k s x y)
    once r v j k s (inr (e, x)) (inr (f, y)) = i.once r v j k s x y

    apart : (r j k : ℕ) (s : Spot) → ((r ≡ q) × (slice_get loose j ≡ Some s)) ⊎ ((r ≡ q → ⊥) × IsChunkOf c r j s)
        → IsChunkOf c q k s → ⊥
    apart r j k s (inl (e, x)) y = i.apart q k j s y x
    apart r j k s (inr (other, x)) y = other (i.once r q j k s x y).0
