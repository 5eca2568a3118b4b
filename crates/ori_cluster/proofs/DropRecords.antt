-- A record that is removed.
use Rattle.std.proofs.Common.{◌≡◌, ◌≢◌, ◌⊎◌, inl, inr, ℕ, ◌<◌, ◌≤◌, min, true, List, length, set}
use Rattle.std.proofs.Common.{ℤ, pos, negsuc, Option, Some, None, IsSome, get_or, refl, sym, ap, subst, ◌∙◌, arith}
use Rattle.std.specs.List.{slice_get}
use Rattle.std.proofs.lemmas.Option.{none-some}
use Rattle.std.proofs.lemmas.Bool.{cases_eq, cases_lt}
use Rattle.std.proofs.lemmas.List.{length-set, get_or-set_same, get_or-set_other}
use Rattle.std.proofs.Math.ListN.{get_or-eq_default}
use Rattle.ori_bytes.specs.declared.limits.TheConstants.{SLOTS_KIND}
use Rattle.ori_page.specs.declared.fault.PageFault.{PageFault}
use Rattle.ori_page.specs.declared.fault.PageFault.TheVariants.{NoMemory, Device, Busy, Damaged, PagesFull}
use Rattle.ori_page.specs.Pages.{kind_of}
use Rattle.ori_page.specs.Spaces.{page_at}
use Rattle.ori_posmap.specs.declared.place.Place.{Place}
use Rattle.ori_posmap.specs.Maps.{PositionMap, no_entry, place_in, place_at, place_of, IsPositionMap, IsOwn}
use Rattle.ori_posmap.specs.Maps.{with_place, IsSet, WhyMap, WhySet}
use Rattle.ori_posmap.proofs.Effects.{widen, changes_then}
use Rattle.ori_cluster.specs.declared.TheConstants.{MAX_BYTES}
use Rattle.ori_cluster.specs.declared.chunk.Link.{Link}
use Rattle.ori_cluster.specs.Slots.{Spot, has_chunk, IsSlotsPage, Links}
use Rattle.ori_cluster.specs.Clusters.{Cluster, IsCluster, IsData, IsPageOf, IsChunkOf, record_at, record_of}
use Rattle.ori_cluster.specs.Clusters.{bytes_if}
use Rattle.ori_cluster.specs.Clusters.{Stores, bound, length_of, Changed, WhyStored, most_chunks}
use Rattle.ori_cluster.specs.Staging.{IsStaged}
use Rattle.ori_cluster.specs.Drops.{IsUnstaged, WhyNotUnstaged, WhyRemoved}
use Rattle.ori_cluster.proofs.Putting.{slots_kind}
use Rattle.ori_cluster.proofs.Staging.{links_kept}
use Rattle.ori_cluster.proofs.DropMaps.{own_page, more_changes}
use Rattle.ori_cluster.proofs.DropChains.{keeps_each, same_spot}
use Rattle.ori_cluster.proofs.DropSteps.{with_pages}

-- the cluster whose map says that the position is gone
abbrev pub gone : Cluster → ℕ → Cluster
gone c q = record c { map = with_place c.map q None }

abbrev pub link_of : Place → Link
link_of place = record { page = place.page; slot = place.slot }

-- ---- the places then

gone_here : (m : PositionMap) (q : ℕ) → place_at (with_place m q None) q ≡ None
gone_here m q = ap place_in (by (cases_lt q (length m.entries)))
  where
    by : (q < length m.entries) ⊎ (length m.entries ≤ q) → get_or (set m.entries q no_entry) q no_entry ≡ no_entry
    by (inl low) = get_or-set_same m.entries q no_entry no_entry low
    by (inr past) = get_or-eq_default (set m.entries q no_entry) no_entry
        (omega (arith, past, length-set m.entries q no_entry))

stays_there : (m : PositionMap) (q r : ℕ) → r ≢ q → place_at (with_place m q None) r ≡ place_at m r
stays_there m q r other = ap place_in (get_or-set_other m.entries q r no_entry no_entry other)

other_live : (m : PositionMap) (q r : ℕ) (place : Place) → place_at (with_place m q None) r ≡ Some place → r ≢ q
other_live m q r place live = λ e.
    none-some place (sym (gone_here m q) ∙ ap (place_at (with_place m q None)) (sym e) ∙ live)

was_live : (m : PositionMap) (q r : ℕ) (place : Place) → place_at (with_place m q None) r ≡ Some place
    → place_at m r ≡ Some place
was_live m q r place live = sym (stays_there m q r (other_live m q r place live)) ∙ live

-- ---- the chain of the position is loose then

record IsGone (pages mid : List (List ℕ)) (dir : ℕ) (c : Cluster) (q : ℕ) (old : Place) : Type 0 where
  is : IsCluster pages dir c
  live : place_at c.map q ≡ Some old
  now : IsSet dir c.map q None pages mid

data_same : (pages mid : List (List ℕ)) (dir : ℕ) (c : Cluster) (q : ℕ) (old : Place) (p : ℕ)
    → IsGone pages mid dir c q old → IsData c p → page_at mid p ≡ page_at pages p
data_same pages mid dir c q old p g d =
    let kind : kind_of (page_at pages p) ≡ SLOTS_KIND
    = slots_kind c.map.owner (page_at pages p) (g.is.slots p d).slots in
    g.now.changes.others p (g.is.above p d) (g.is.below p d) (λ e. absurd (omega (arith, e, kind)))
    (λ own. (own_page pages dir c.map p g.is.map own).apart kind)

was_chunk : (c : Cluster) (q r i : ℕ) (spot : Spot) → IsChunkOf (gone c q) r i spot → IsChunkOf c r i spot
was_chunk c q r i spot x = record { place = x.place; live = was_live c.map q r x.place x.live; is = x.is }

loose_chunk : (c : Cluster) (q i : ℕ) (old : Place) (spot : Spot) → place_at c.map q ≡ Some old
    → slice_get (c.chains q) i ≡ Some spot → IsChunkOf c q i spot
loose_chunk c q i old spot live at = record { place = old; live = live; is = at }

links_stay : (pages mid : List (List ℕ)) (dir : ℕ) (c : Cluster) (q r : ℕ) (old place : Place)
    → IsGone pages mid dir c q old → place_at c.map r ≡ Some place
    → Links mid c.map.owner (c.chains r) place.page place.slot (c.records r)
links_stay pages mid dir c q r old place g live =
    links_kept pages mid c.map.owner (c.chains r) place.page place.slot (c.records r) g.now.changes.count
    (keeps_each c.map.owner (c.chains r) pages mid (λ i spot at.
    let d : IsData c spot.page = g.is.inside r i spot (loose_chunk c r i place spot live at) in
    same_spot c.map.owner spot pages mid (g.is.slots spot.page d).slots
    (data_same pages mid dir c q old spot.page g d)))
    (g.is.records r place live).links

each_chunk : (c : Cluster) (q : ℕ) (spot : Spot) → (r i : ℕ) → IsChunkOf c r i spot → (r ≡ q) ⊎ (r ≡ q → ⊥)
    → ((r : ℕ) × (i : ℕ) × IsChunkOf (gone c q) r i spot) ⊎ ((i : ℕ) × (slice_get (c.chains q) i ≡ Some spot))
each_chunk c q spot r i x (inl e) = inr (i, ap (λ (y : ℕ). slice_get (c.chains y) i) (sym e) ∙ x.is)
each_chunk c q spot r i x (inr other) =
    inl (r, i, record { place = x.place; live = stays_there c.map q r other ∙ x.live; is = x.is })

loosened : (pages mid : List (List ℕ)) (dir : ℕ) (c : Cluster) (q : ℕ) (old : Place) → IsGone pages mid dir c q old
    → IsStaged mid dir (gone c q) (c.chains q) (link_of old) (c.records q)
loosened pages mid dir c q old g =
    let i = g.is in
    let same : (p : ℕ) → IsData c p → page_at mid p ≡ page_at pages p
    = λ p d. data_same pages mid dir c q old p g d in
    record {
      map = g.now.is;
      records = λ r place live.
          let was = was_live c.map q r place live in
          let x = i.records r place was in
          record {
            links = links_stay pages mid dir c q r old place g was;
            long = x.long;
            some = x.some;
            most = x.most;
            few = x.few;
          };
      links = links_stay pages mid dir c q q old old g g.live;
      above = i.above;
      below = λ p d. omega (arith, i.below p d, g.now.changes.count);
      slots = λ p d. subst (IsSlotsPage c.map.owner) (sym (same p d)) (i.slots p d);
      distinct = i.distinct;
      inside = λ r j spot x. i.inside r j spot (was_chunk c q r j spot x);
      loose_inside = λ j spot at. i.inside q j spot (loose_chunk c q j old spot g.live at);
      each = λ spot d has.
          let x = i.each spot d (ap (has_chunk spot.slot) (sym (same spot.page d)) ∙ has) in
          each_chunk c q spot x.0 x.1 x.2 (cases_eq x.0 q);
      once = λ r t j k spot a b. i.once r t j k spot (was_chunk c q r j spot a) (was_chunk c q t k spot b);
      loose_once = λ j k spot a b.
          (i.once q q j k spot (loose_chunk c q j old spot g.live a) (loose_chunk c q k old spot g.live b)).1;
      apart = λ r j k spot a b.
          other_live c.map q r a.place a.live
          (i.once r q j k spot (was_chunk c q r j spot a) (loose_chunk c q k old spot g.live b)).0;
      current = i.current;
      bare = λ p d other. let x = i.bare p d other in (x.0, ap (has_chunk x.0) (same p d) ∙ x.1);
    }

-- ---- what is stored then

stored : (pages mid after : List (List ℕ)) (dir : ℕ) (c : Cluster) (q : ℕ) (old : Place) (most : ℕ)
    → IsGone pages mid dir c q old → IsUnstaged dir (gone c q) mid after
    → Stores dir c q (length c.map.entries) None most pages after
stored pages mid after dir c q old most g u = record {
  new = with_pages (gone c q) u.data_pages;
  is = u.is;
  holds = record {
    owner = refl;
    next = length-set c.map.entries q no_entry;
    this = ap (λ (o : Option Place). bytes_if o (c.records q)) (gone_here c.map q);
    others = λ r other. ap (λ (o : Option Place). bytes_if o (c.records r)) (stays_there c.map q r other);
  };
  changes = more_changes (IsPageOf dir c) 0 most pages after (omega arith)
      (changes_then (IsPageOf dir c) (IsPageOf dir (gone c q)) 0 0 pages mid after
      (widen (IsOwn dir c.map) (IsPageOf dir c) 0 pages mid (λ p own. inl own) g.now.changes) u.changes
      (λ p low below used own. by p own));
}
  where
    by : (p : ℕ) → IsPageOf dir (gone c q) p → IsPageOf dir c p
    by p (inl own) = inl own
    by p (inr d) = inr d

-- what a removal has seen and done: the place that the position had, and what its map says then
pub record IsRemoval (pages mid : List (List ℕ)) (dir : ℕ) (position : ℤ) (old : Place) (owner current : ℕ)
    (c : Cluster) : Type 0 where
  pub place : Some old ≡ place_of c.map position
  pub owner_is : owner ≡ c.map.owner
  pub current_is : current ≡ c.map.current
  pub now : (q : ℕ) → position ≡ pos q → IsSet dir c.map q None pages mid

gone_at : (pages mid : List (List ℕ)) (dir q : ℕ) (old : Place) (owner current : ℕ) (c : Cluster)
    → IsCluster pages dir c → IsRemoval pages mid dir (pos q) old owner current c → IsGone pages mid dir c q old
gone_at pages mid dir q old owner current c i x = record { is = i; live = sym x.place; now = x.now q refl }

pub removed : (pages mid after : List (List ℕ)) (dir : ℕ) (position : ℤ) (old : Place) (owner current : ℕ)
    (c : Cluster) → IsCluster pages dir c → IsRemoval pages mid dir position old owner current c
    → ((dir : ℕ) (c : Cluster) (loose : List Spot) (bytes : List ℕ) → owner ≡ c.map.owner → current ≡ c.map.current
    → IsStaged mid dir c loose (link_of old) bytes → IsUnstaged dir c mid after)
    → Changed dir c position None true pages after
removed pages mid after dir (pos q) old owner current c i x h =
    let g = gone_at pages mid dir q old owner current c i x in
    let u = h dir (gone c q) (c.chains q) (c.records q) x.owner_is x.current_is
    (loosened pages mid dir c q old g) in (
      q,
      refl,
      λ e. none-some (c.records q) (sym e ∙ ap (λ (o : Option Place). bytes_if o (c.records q)) g.live),
      stored pages mid after dir c q old (bound (length_of (record_at c q)) (length_of None)) g u,
    )
removed pages mid after dir (negsuc n) old owner current c i x h = absurd (none-some old (sym x.place))

few_chunks : (pages mid : List (List ℕ)) (dir : ℕ) (c : Cluster) (q : ℕ) (old : Place) (most : ℕ)
    → IsGone pages mid dir c q old → most ≡ most_chunks (min old.bytes MAX_BYTES) → length (c.chains q) ≤ most
few_chunks pages mid dir c q old most g m =
    let r = g.is.records q old g.live in
    let e : min old.bytes MAX_BYTES ≡ length (c.records q) = omega (arith, r.long, r.most) in
    subst (λ (n : ℕ). length (c.chains q) ≤ n) (sym (m ∙ ap most_chunks e)) r.few

pub why_removed : (pages mid : List (List ℕ)) (dir : ℕ) (position : ℤ) (old : Place) (owner current most : ℕ)
    (fault : PageFault)
    → ((c : Cluster) → IsCluster pages dir c → IsRemoval pages mid dir position old owner current c)
    → most ≡ most_chunks (min old.bytes MAX_BYTES) → WhyNotUnstaged mid owner current (link_of old) most fault
    → WhyRemoved pages dir fault
why_removed pages mid dir position old owner current most NoMemory x m h = tt
why_removed pages mid dir position old owner current most Device x m h = tt
why_removed pages mid dir position old owner current most (Busy turn) x m h = h
why_removed pages mid dir (pos q) old owner current most (Damaged p) x m h = λ c i l.
    let y = x c i in
    let g = gone_at pages mid dir q old owner current c i y in
    h dir (gone c q) (c.chains q) (c.records q) y.owner_is y.current_is (loosened pages mid dir c q old g)
    (few_chunks pages mid dir c q old most g m) (g.now.changes.listed l).0
why_removed pages mid dir (negsuc n) old owner current most (Damaged p) x m h = λ c i l.
    none-some old (sym (x c i).place)
why_removed pages mid dir position old owner current most PagesFull x m h = absurd h

-- a fault of the map's calls
pub why_stored : (pages : List (List ℕ)) (dir : ℕ) (position : ℤ) (new : ℕ) (fault : PageFault)
    → WhyMap pages dir fault → WhyStored pages dir position new fault
why_stored pages dir position new NoMemory h = tt
why_stored pages dir position new Device h = tt
why_stored pages dir position new (Busy turn) h = h
why_stored pages dir position new (Damaged q) h = λ c i l. h.1 c.map i.map
why_stored pages dir position new PagesFull h = absurd h

pub why_unseen : (pages : List (List ℕ)) (dir : ℕ) (fault : PageFault) → WhyMap pages dir fault
    → WhyRemoved pages dir fault
why_unseen pages dir NoMemory h = tt
why_unseen pages dir Device h = tt
why_unseen pages dir (Busy turn) h = h
why_unseen pages dir (Damaged q) h = λ c i l. h.1 c.map i.map
why_unseen pages dir PagesFull h = absurd h

-- a position that is live is set but where the pages stand for no map
pub why_not_set : (pages : List (List ℕ)) (dir : ℕ) (position : ℤ) (fault : PageFault)
    → ((m : PositionMap) → IsPositionMap pages dir m → IsSome (place_of m position))
    → WhySet pages dir position fault → WhyRemoved pages dir fault
why_not_set pages dir position NoMemory live h = tt
why_not_set pages dir position Device live h = tt
why_not_set pages dir position (Busy turn) live h = h
why_not_set pages dir position (Damaged q) live h = λ c i l. h.1 c.map i.map (live c.map i.map)
why_not_set pages dir position PagesFull live h = absurd h

pub live_place : (m : PositionMap) (position : ℤ) (old : Place) → Some old ≡ place_of m position
    → IsSome (place_of m position)
live_place m position old is = subst (λ (o : Option Place). IsSome o) is refl

pub no_record : (c : Cluster) (position : ℤ) → None ≡ place_of c.map position → record_of c position ≡ None
no_record c (pos q) none = ap (λ (o : Option Place). bytes_if o (c.records q)) (sym none)
no_record c (negsuc n) none = refl
