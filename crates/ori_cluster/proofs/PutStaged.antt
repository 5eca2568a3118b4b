-- A loose chain that has one chunk more at its front.
use Rattle.std.proofs.Common.{◌≡◌, ◌≢◌, ℕ, zero, suc, ◌<◌, ◌≤◌, true, false, Some, List, ◌∷◌, ◌++◌}
use Rattle.std.proofs.Common.{length, slice_get, slice_index, ◌⊎◌, inl, inr, refl, sym, ap, subst, ◌∙◌}
use Rattle.std.proofs.Common.{true≢false, arith}
use Rattle.std.proofs.lemmas.Bool.{cases_eq}
use Rattle.ori_page.specs.Spaces.{page_at}
use Rattle.ori_posmap.specs.declared.place.Place.{Place}
use Rattle.ori_posmap.specs.Maps.{place_at, IsPositionMap}
use Rattle.ori_cluster.specs.declared.chunk.Link.{Link}
use Rattle.ori_cluster.specs.Slots.{Spot, Chunk, chunk_at, is_slots, has_chunk}
use Rattle.ori_cluster.specs.Slots.{HasChunk, Links, IsSlotsPage, KeepsChunk}
use Rattle.ori_cluster.specs.Clusters.{Cluster, IsRecord, IsData, IsChunkOf}
use Rattle.ori_cluster.specs.Staging.{IsStaged}
use Rattle.ori_cluster.specs.Growing.{on_pages}
use Rattle.ori_cluster.proofs.Staging.{KeepsSpot, links_kept}
use Rattle.ori_cluster.proofs.DropChains.{links_has, keeps_each, same_spot, spot_is}

-- ---- chunks of clusters that differ by their slots pages alone

pub as_new : (c : Cluster) (current : ℕ) (held : List ℕ) (q j : ℕ) (s : Spot) → IsChunkOf c q j s
    → IsChunkOf (on_pages c current held) q j s
as_new c current held q j s x = record { place = x.place; live = x.live; is = x.is }

pub as_old : (c : Cluster) (current : ℕ) (held : List ℕ) (q j : ℕ) (s : Spot)
    → IsChunkOf (on_pages c current held) q j s → IsChunkOf c q j s
as_old c current held q j s x = record { place = x.place; live = x.live; is = x.is }

-- a chunk of a record stands, and so does one of the loose chain
pub chunk_has : (pages : List (List ℕ)) (dir : ℕ) (c : Cluster) (loose : List Spot) (link : Link) (bytes : List ℕ)
    → IsStaged pages dir c loose link bytes → (q j : ℕ) (s : Spot) → IsChunkOf c q j s
    → HasChunk pages c.map.owner s
chunk_has pages dir c loose link bytes i q j s x =
    links_has pages c.map.owner (c.chains q) x.place.page x.place.slot (c.records q)
    j s (i.records q x.place x.live).links x.is

pub loose_has : (pages : List (List ℕ)) (dir : ℕ) (c : Cluster) (loose : List Spot) (link : Link) (bytes : List ℕ)
    → IsStaged pages dir c loose link bytes → (j : ℕ) (s : Spot) → slice_get loose j ≡ Some s
    → HasChunk pages c.map.owner s
loose_has pages dir c loose link bytes i j s at =
    links_has pages c.map.owner loose link.page link.slot bytes j s i.links at

some_is : (x y : Spot) → Some x ≡ Some y → x ≡ y
some_is x y e = cc

-- ---- a chunk is put onto one of the slots pages

-- One page has a chunk in a slot that had none, and keeps the others; the other slots pages stay.
pub record Put (before after : List (List ℕ)) (c : Cluster) (held : List ℕ) (spot : Spot) (next : Link)
    (bytes : List ℕ) : Type 0 where
  pub count : length before ≤ length after
  pub old : (q : ℕ) → IsData c q → IsData (on_pages c c.map.current held) q
  pub new : (q : ℕ) → IsData (on_pages c c.map.current held) q → IsData c q ⊎ (q ≡ spot.page)
  pub here : IsData (on_pages c c.map.current held) spot.page
  pub above : 0 < spot.page
  pub below : spot.page < length after
  pub distinct : (j k : ℕ) → j < k → k < length held → slice_index held j ≢ slice_index held k
  pub slots : IsSlotsPage c.map.owner (page_at after spot.page)
  pub has : has_chunk spot.slot (page_at after spot.page) ≡ true
  pub says : chunk_at after spot ≡ record { page = next.page; slot = next.slot; bytes = bytes }
  pub none : IsData c spot.page → has_chunk spot.slot (page_at before spot.page) ≡ false
  pub stays : (q : ℕ) → IsData c q → q ≢ spot.page → page_at after q ≡ page_at before q
  pub keeps : IsData c spot.page → (r : ℕ) → r ≢ spot.slot
      → KeepsChunk r (page_at before spot.page) (page_at after spot.page)
  pub only : (r : ℕ) → r ≢ spot.slot → has_chunk r (page_at after spot.page) ≡ true
      → IsData c spot.page × (has_chunk r (page_at before spot.page) ≡ true)

-- no chunk that was there is the new one
not_new : (before after : List (List ℕ)) (c : Cluster) (held : List ℕ) (spot : Spot) (next : Link) (bytes : List ℕ)
    → Put before after c held spot next bytes → (s : Spot) → IsData c s.page
    → has_chunk s.slot (page_at before s.page) ≡ true → s.page ≡ spot.page → s.slot ≢ spot.slot
not_new before after c held spot next bytes p s d h e = λ f.
    let h1 : has_chunk spot.slot (page_at before s.page) ≡ true
    = subst (λ (x : ℕ). has_chunk x (page_at before s.page) ≡ true) f h in
    let h2 : has_chunk spot.slot (page_at before spot.page) ≡ true
    = subst (λ (x : ℕ). has_chunk spot.slot (page_at before x) ≡ true) e h1 in
    true≢false (sym h2 ∙ p.none (subst (IsData c) e d))

-- each chunk that was there is kept
keep_spot : (before after : List (List ℕ)) (c : Cluster) (held : List ℕ) (spot : Spot) (next : Link) (bytes : List ℕ)
    → Put before after c held spot next bytes
    → ((q : ℕ) → IsData c q → IsSlotsPage c.map.owner (page_at before q)) → (s : Spot) → IsData c s.page
    → has_chunk s.slot (page_at before s.page) ≡ true → KeepsSpot c.map.owner s before after
keep_spot before after c held spot next bytes p slots s d h = by (cases_eq s.page spot.page)
  where
    by : (s.page ≡ spot.page) ⊎ (s.page ≡ spot.page → ⊥) → KeepsSpot c.map.owner s before after
    by (inl e) = record {
      page = ap (λ (x : ℕ). is_slots c.map.owner (page_at after x)) e ∙ p.slots.slots;
      chunk = subst (λ (x : ℕ). KeepsChunk s.slot (page_at before x) (page_at after x)) (sym e)
          (p.keeps (subst (IsData c) e d) s.slot (not_new before after c held spot next bytes p s d h e));
    }
    by (inr other) = same_spot c.map.owner s before after (slots s.page d).slots (p.stays s.page d other)

-- a chunk that is there is the new one, or was there
was_there : (before after : List (List ℕ)) (c : Cluster) (held : List ℕ) (spot : Spot) (next : Link) (bytes : List ℕ)
    → Put before after c held spot next bytes → (s : Spot) → IsData (on_pages c c.map.current held) s.page
    → has_chunk s.slot (page_at after s.page) ≡ true
    → (s ≡ spot) ⊎ (IsData c s.page × (has_chunk s.slot (page_at before s.page) ≡ true))
was_there before after c held spot next bytes p s d h = by (cases_eq s.page spot.page)
  where
    here : s.page ≡ spot.page → (s.slot ≡ spot.slot) ⊎ (s.slot ≡ spot.slot → ⊥)
        → (s ≡ spot) ⊎ (IsData c s.page × (has_chunk s.slot (page_at before s.page) ≡ true))
    here e (inl f) = inl (spot_is s spot e f)
    here e (inr f) =
        let x = p.only s.slot f (subst (λ (y : ℕ). has_chunk s.slot (page_at after y) ≡ true) e h) in
        inr (
          subst (IsData c) (sym e) x.0,
          subst (λ (y : ℕ). has_chunk s.slot (page_at before y) ≡ true) (sym e) x.1,
        )

    apart : s.page ≢ spot.page → IsData c s.page ⊎ (s.page ≡ spot.page)
        → (s ≡ spot) ⊎ (IsData c s.page × (has_chunk s.slot (page_at before s.page) ≡ true))
    apart other (inr e) = absurd (other e)
    apart other (inl was) =
        inr (was, subst (λ (x : List ℕ). has_chunk s.slot x ≡ true) (p.stays s.page was other) h)

    by : (s.page ≡ spot.page) ⊎ (s.page ≡ spot.page → ⊥)
        → (s ≡ spot) ⊎ (IsData c s.page × (has_chunk s.slot (page_at before s.page) ≡ true))
    by (inl e) = here e (cases_eq s.slot spot.slot)
    by (inr other) = apart other (p.new s.page d)

-- the record of a live position stands as it stood
pub record_kept : (before after : List (List ℕ)) (dir : ℕ) (c : Cluster) (loose : List Spot) (next : Link)
    (later : List ℕ) → IsStaged before dir c loose next later → length before ≤ length after
    → ((s : Spot) → IsData c s.page → has_chunk s.slot (page_at before s.page) ≡ true
    → KeepsSpot c.map.owner s before after) → (q : ℕ) (place : Place) → place_at c.map q ≡ Some place
    → IsRecord after c.map.owner place (c.chains q) (c.records q)
record_kept before after dir c loose next later i more keep q place live =
    let r = i.records q place live in
    let chunk : (j : ℕ) (s : Spot) → slice_get (c.chains q) j ≡ Some s → IsChunkOf c q j s
    = λ j s at. record { place = place; live = live; is = at } in
    record {
      links = links_kept before after c.map.owner (c.chains q) place.page place.slot (c.records q) more
          (keeps_each c.map.owner (c.chains q) before after (λ j s at. keep s (i.inside q j s (chunk j s at))
          (chunk_has before dir c loose next later i q j s (chunk j s at)).chunk)) r.links;
      long = r.long;
      some = r.some;
      most = r.most;
      few = r.few;
    }

-- the loose chain stands as it stood
pub loose_kept : (before after : List (List ℕ)) (dir : ℕ) (c : Cluster) (loose : List Spot) (next : Link)
    (later : List ℕ) → IsStaged before dir c loose next later → length before ≤ length after
    → ((s : Spot) → IsData c s.page → has_chunk s.slot (page_at before s.page) ≡ true
    → KeepsSpot c.map.owner s before after)
    → Links after c.map.owner loose next.page next.slot later
loose_kept before after dir c loose next later i more keep =
    links_kept before after c.map.owner loose next.page next.slot later more
    (keeps_each c.map.owner loose before after (λ j s at. keep s (i.loose_inside j s at)
    (loose_has before dir c loose next later i j s at).chunk)) i.links

-- the chain with the new chunk before it
front_links : (after : List (List ℕ)) (owner : ℕ) (spot : Spot) (loose : List Spot) (next : Link)
    (bytes later : List ℕ) → HasChunk after owner spot
    → chunk_at after spot ≡ record { page = next.page; slot = next.slot; bytes = bytes }
    → Links after owner loose next.page next.slot later
    → Links after owner (spot ∷ loose) spot.page spot.slot (bytes ++ later)
front_links after owner spot loose next bytes later has says l =
    let first : Chunk = record { page = next.page; slot = next.slot; bytes = bytes } in (
      refl,
      refl,
      has,
      (
        later,
        ap (λ (z : Chunk). z.bytes ++ later) (sym says),
        subst (λ (z : Chunk). Links after owner loose z.page z.slot later) (sym says) l,
      ),
    )

pub staged_put : (before after : List (List ℕ)) (dir : ℕ) (c : Cluster) (held : List ℕ) (loose : List Spot)
    (spot : Spot) (next : Link) (bytes later : List ℕ) → IsStaged before dir c loose next later
    → Put before after c held spot next bytes → IsPositionMap after dir c.map
    → IsStaged after dir (on_pages c c.map.current held) (spot ∷ loose)
    (record { page = spot.page; slot = spot.slot }) (bytes ++ later)
staged_put before after dir c held loose spot next bytes later i p map =
    let keep = keep_spot before after c held spot next bytes p i.slots in
    let has : HasChunk after c.map.owner spot
    = record { above = p.above; below = p.below; page = p.slots.slots; chunk = p.has } in
    let first : (s : Spot) → s ≡ spot → IsData c s.page → has_chunk s.slot (page_at before s.page) ≡ true → ⊥
    = λ s e d h. not_new before after c held spot next bytes p s d h (ap (λ (x : Spot). x.page) e)
    (ap (λ (x : Spot). x.slot) e) in
    record {
      map = map;
      records = record_kept before after dir c loose next later i p.count keep;
      links = front_links after c.map.owner spot loose next bytes later has p.says
          (loose_kept before after dir c loose next later i p.count keep);
      above = λ q d. above q (p.new q d);
      below = λ q d. below q (p.new q d);
      slots = λ q d. slots q (p.new q d) (cases_eq q spot.page);
      distinct = p.distinct;
      inside = λ q j s x. p.old s.page (i.inside q j s (as_old c c.map.current held q j s x));
      loose_inside = inside;
      each = λ s d h. each s (was_there before after c held spot next bytes p s d h);
      once = λ q r j k s x y. i.once q r j k s (as_old c c.map.current held q j s x)
          (as_old c c.map.current held r k s y);
      loose_once = once first;
      apart = λ q j k s x at. apart first q j k s (as_old c c.map.current held q j s x) at;
      current = current i.current;
      bare = λ q d other. bare q other (p.new q d) (cases_eq q spot.page);
    }
  where
    above : (q : ℕ) → IsData c q ⊎ (q ≡ spot.page) → 0 < q
    above q (inl d) = i.above q d
    above q (inr e) = omega (arith, e, p.above)

    below : (q : ℕ) → IsData c q ⊎ (q ≡ spot.page) → q < length after
    below q (inl d) = omega (arith, i.below q d, p.count)
    below q (inr e) = omega (arith, e, p.below)

    slots : (q : ℕ) → IsData c q ⊎ (q ≡ spot.page) → (q ≡ spot.page) ⊎ (q ≡ spot.page → ⊥)
        → IsSlotsPage c.map.owner (page_at after q)
    slots q d (inl e) = subst (λ (x : ℕ). IsSlotsPage c.map.owner (page_at after x)) (sym e) p.slots
    slots q (inl d) (inr other) = subst (IsSlotsPage c.map.owner) (sym (p.stays q d other)) (i.slots q d)
    slots q (inr e) (inr other) = absurd (other e)

    inside : (j : ℕ) (s : Spot) → slice_get (spot ∷ loose) j ≡ Some s → IsData (on_pages c c.map.current held) s.page
    inside zero s at = subst (λ (x : Spot). IsData (on_pages c c.map.current held) x.page) (some_is spot s at) p.here
    inside (suc j) s at = p.old s.page (i.loose_inside j s at)

    each : (s : Spot) → (s ≡ spot) ⊎ (IsData c s.page × (has_chunk s.slot (page_at before s.page) ≡ true))
        → ((q : ℕ) × (j : ℕ) × IsChunkOf (on_pages c c.map.current held) q j s)
        ⊎ ((j : ℕ) × (slice_get (spot ∷ loose) j ≡ Some s))
    each s (inl e) = inr (zero, ap (λ (x : Spot). Some x) (sym e))
    each s (inr (d, h)) = was (i.each s d h)
      where
        was : ((q : ℕ) × (j : ℕ) × IsChunkOf c q j s) ⊎ ((j : ℕ) × (slice_get loose j ≡ Some s))
            → ((q : ℕ) × (j : ℕ) × IsChunkOf (on_pages c c.map.current held) q j s)
            ⊎ ((j : ℕ) × (slice_get (spot ∷ loose) j ≡ Some s))
        was (inl (q, j, x)) = inl (q, j, as_new c c.map.current held q j s x)
        was (inr (j, at)) = inr (suc j, at)

    once : ((s : Spot) → s ≡ spot → IsData c s.page → has_chunk s.slot (page_at before s.page) ≡ true → ⊥)
        → (j k : ℕ) (s : Spot) → slice_get (spot ∷ loose) j ≡ Some s → slice_get (spot ∷ loose) k ≡ Some s → j ≡ k
    once first zero zero s x y = refl
    once first zero (suc k) s x y = absurd (first s (sym (some_is spot s x)) (i.loose_inside k s y)
        (loose_has before dir c loose next later i k s y).chunk)
    once first (suc j) zero s x y = absurd (first s (sym (some_is spot s y)) (i.loose_inside j s x)
        (loose_has before dir c loose next later i j s x).chunk)
    once first (suc j) (suc k) s x y = ap suc (i.loose_once j k s x y)

    apart : ((s : Spot) → s ≡ spot → IsData c s.page → has_chunk s.slot (page_at before s.page) ≡ true → ⊥)
        → (q j k : ℕ) (s : Spot) → IsChunkOf c q j s → slice_get (spot ∷ loose) k ≡ Some s → ⊥
    apart first q j zero s x at = first s (sym (some_is spot s at)) (i.inside q j s x)
        (chunk_has before dir c loose next later i q j s x).chunk
    apart first q j (suc k) s x at = i.apart q j k s x at

    current : (c.map.current ≡ 0) ⊎ IsData c c.map.current
        → (c.map.current ≡ 0) ⊎ IsData (on_pages c c.map.current held) c.map.current
    current (inl none) = inl none
    current (inr d) = inr (p.old c.map.current d)

    bare : (q : ℕ) → q ≢ c.map.current → IsData c q ⊎ (q ≡ spot.page) → (q ≡ spot.page) ⊎ (q ≡ spot.page → ⊥)
        → (s : ℕ) × (has_chunk s (page_at after q) ≡ true)
    bare q other d (inl e) =
        (spot.slot, subst (λ (x : ℕ). has_chunk spot.slot (page_at after x) ≡ true) (sym e) p.has)
    bare q other (inl d) (inr aside) =
        let b = i.bare q d other in
        (b.0, subst (λ (x : List ℕ). has_chunk b.0 x ≡ true) (sym (p.stays q d aside)) b.1)
    bare q other (inr e) (inr aside) = absurd (aside e)
