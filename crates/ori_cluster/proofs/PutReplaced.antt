-- A record that takes the place of another.
use Rattle.std.proofs.Common.{◌≡◌, ◌≢◌, ℕ, ◌+◌, ◌<◌, ◌≤◌, ℤ, pos, negsuc, Option, Some, None, IsSome, List}
use Rattle.std.proofs.Common.{length, min, true, ◌⊎◌, inl, inr, refl, sym, ap, subst, ◌∙◌, arith}
use Rattle.std.proofs.lemmas.Option.{none-some}
use Rattle.std.proofs.lemmas.Bool.{cases_lt}
use Rattle.std.proofs.lemmas.List.{get_or-set_same, get_or-set_other, length-set}
use Rattle.ori_bytes.specs.declared.limits.TheConstants.{FREE_KIND}
use Rattle.ori_page.specs.declared.fault.PageFault.{PageFault}
use Rattle.ori_page.specs.declared.fault.PageFault.TheVariants.{NoMemory, Device, Busy, Damaged, PagesFull}
use Rattle.ori_page.specs.Pages.{kind_of}
use Rattle.ori_page.specs.Spaces.{page_at}
use Rattle.ori_posmap.specs.declared.place.Place.{Place}
use Rattle.ori_posmap.specs.Maps.{PositionMap, no_entry, place_in, place_at, place_of, entry_for, with_place, IsOwn}
use Rattle.ori_posmap.specs.Maps.{ChangesOwn, IsSet, WhySet}
use Rattle.ori_posmap.proofs.Effects.{changes_then}
use Rattle.ori_posmap.proofs.Mapping.{past_end}
use Rattle.ori_cluster.specs.declared.TheConstants.{MAX_BYTES}
use Rattle.ori_cluster.specs.Clusters.{Cluster, IsPageOf, IsCluster, Stores, most_chunks, bound}
use Rattle.ori_cluster.specs.Clusters.{bytes_if, record_at, length_of, Changed, WhyStored}
use Rattle.ori_cluster.specs.Slots.{Spot}
use Rattle.ori_cluster.specs.Drops.{IsUnstaged, WhyNotUnstaged}
use Rattle.ori_cluster.specs.Growing.{on_pages, link_of, IsStored, WhyUnless, Stands}
use Rattle.ori_cluster.specs.Staging.{IsStaged}
use Rattle.ori_cluster.proofs.PutPages.{data_stays}
use Rattle.ori_cluster.proofs.PutMoved.{Takes, taken, take_chain, with_same, with_other}
use Rattle.ori_cluster.proofs.DropMaps.{more_changes}

-- a live position was given
pub live_low : (m : PositionMap) (q : ℕ) (place : Place) → place_at m q ≡ Some place → q < length m.entries
live_low m q place live = by (cases_lt q (length m.entries))
  where
    by : (q < length m.entries) ⊎ (length m.entries ≤ q) → q < length m.entries
    by (inl low) = low
    by (inr past) = absurd (none-some place (sym (past_end m q past) ∙ live))

-- the cluster where a position has taken another chain
abbrev pub swapped : Cluster → List ℕ → Place → ℕ → List ℕ → List Spot → Cluster
swapped c held place q bytes chain =
    taken (on_pages c place.page held) (with_place c.map q (Some place)) q bytes chain

pub swap : (dir q : ℕ) (c : Cluster) (old place : Place) (bytes : List ℕ) (pages mid now : List (List ℕ))
    → 0 < length bytes → length bytes ≤ MAX_BYTES → length bytes ≡ place.bytes → place_at c.map q ≡ Some old
    → (s : IsStored dir c place bytes pages mid)
    → IsSet dir (record c.map { current = place.page }) q (Some place) mid now
    → IsStaged now dir (swapped c s.chained.held place q bytes s.chained.chain) (c.chains q) (link_of old) (c.records q)
swap dir q c old place bytes pages mid now some most long live s x =
    let d = on_pages c place.page s.chained.held in
    let m = with_place c.map q (Some place) in
    let low = live_low c.map q old live in
    let t : Takes mid now dir d m q place s.chained.chain (c.chains q) (link_of old) bytes (c.records q)
    = record {
      count = x.changes.count;
      map = x.is;
      live = ap place_in (get_or-set_same c.map.entries q (entry_for (Some place)) no_entry low);
      others = λ r other. ap place_in (get_or-set_other c.map.entries q r (entry_for (Some place)) no_entry other);
      stays = data_stays mid now dir 0 d s.chained.chain (link_of place) bytes s.chained.is x.changes;
      long = long;
      some = some;
      most = most;
      few = omega (arith, s.few, s.chained.long);
      old_links = (s.chained.is.records q old live).links;
      old_of = λ j y at. record { place = old; live = live; is = at };
      of_old = λ j y at. at.is;
    } in
    take_chain mid now dir d m q place s.chained.chain (c.chains q) (link_of old) bytes (c.records q)
    s.chained.is t

pub replaced : (dir q : ℕ) (c : Cluster) (old place : Place) (bytes : List ℕ) (pages mid now after : List (List ℕ))
    → place_at c.map q ≡ Some old → (s : IsStored dir c place bytes pages mid)
    → IsSet dir (record c.map { current = place.page }) q (Some place) mid now
    → IsUnstaged dir (swapped c s.chained.held place q bytes s.chained.chain) now after
    → Stores dir c q (length c.map.entries) (Some bytes) (bound (length_of (record_at c q)) (length bytes)) pages after
replaced dir q c old place bytes pages mid now after live s x u =
    let new = swapped c s.chained.held place q bytes s.chained.chain in
    let most = bound (length_of (record_at c q)) (length bytes) in
    let first : ChangesOwn (IsPageOf dir c) (s.rounds + 0) pages now
    = changes_then (IsPageOf dir c) (IsOwn dir c.map) s.rounds 0 pages mid now s.changes x.changes
    (λ r above under used own. inl own) in
    let low = live_low c.map q old live in
    record {
      new = record new { data_pages = u.data_pages };
      is = u.is;
      holds = record {
        owner = refl;
        next = length-set c.map.entries q (entry_for (Some place));
        this = ap (λ (o : Option Place). bytes_if o (new.records q))
            (ap place_in (get_or-set_same c.map.entries q (entry_for (Some place)) no_entry low))
            ∙ ap (λ (z : List ℕ). Some z) (with_same q q bytes c.records refl);
        others = λ r other.
            ap (λ (o : Option Place). bytes_if o (new.records r))
            (ap place_in (get_or-set_other c.map.entries q r (entry_for (Some place)) no_entry other))
            ∙ ap (bytes_if (place_at c.map r)) (with_other q r bytes c.records other);
      };
      changes = more_changes (IsPageOf dir c) (s.rounds + 0 + 0) most pages after (omega (arith, s.few))
          (changes_then (IsPageOf dir c) (IsPageOf dir new) (s.rounds + 0) 0 pages now after first u.changes
          (λ r above under used own. mine r under used own));
    }
  where
    mine : (r : ℕ) → r < length pages → kind_of (page_at pages r) ≢ FREE_KIND
        → IsPageOf dir (swapped c s.chained.held place q bytes s.chained.chain) r → IsPageOf dir c r
    mine r under used (inl own) = inl own
    mine r under used (inr d) = inr (s.chained.mine r under used d)

-- what a replacement has seen and done: the place that the position had, the record that is stored, and what the map
-- says then
pub record IsReplacing (pages mid now : List (List ℕ)) (dir : ℕ) (position : ℤ) (old place : Place) (owner : ℕ)
    (bytes : List ℕ) (c : Cluster) : Type 0 where
  pub was : Some old ≡ place_of c.map position
  pub owner_is : owner ≡ c.map.owner
  pub stored : IsStored dir c place bytes pages mid
  pub set : (q : ℕ) → position ≡ pos q → IsSet dir (record c.map { current = place.page }) q (Some place) mid now

some_at : (c : Cluster) (q : ℕ) (place : Place) → place_at c.map q ≡ Some place → record_at c q ≢ None
some_at c q place live = λ e.
    none-some (c.records q) (sym e ∙ ap (λ (o : Option Place). bytes_if o (c.records q)) live)

pub replaced_at : (pages mid now after : List (List ℕ)) (dir : ℕ) (position : ℤ) (old place : Place) (owner : ℕ)
    (bytes : List ℕ) (c : Cluster) → 0 < length bytes → length bytes ≤ MAX_BYTES → length bytes ≡ place.bytes
    → IsReplacing pages mid now dir position old place owner bytes c
    → ((dir : ℕ) (c : Cluster) (loose : List Spot) (bytes : List ℕ) → owner ≡ c.map.owner → place.page ≡ c.map.current
    → IsStaged now dir c loose (link_of old) bytes → IsUnstaged dir c now after)
    → Changed dir c position (Some bytes) true pages after
replaced_at pages mid now after dir (pos q) old place owner bytes c some most long x h =
    let live = sym x.was in
    let u = h dir (swapped c x.stored.chained.held place q bytes x.stored.chained.chain) (c.chains q) (c.records q)
    x.owner_is refl (swap dir q c old place bytes pages mid now some most long live x.stored (x.set q refl)) in (
      q,
      refl,
      some_at c q old live,
      replaced dir q c old place bytes pages mid now after live x.stored (x.set q refl) u,
    )
replaced_at pages mid now after dir (negsuc n) old place owner bytes c some most long x h =
    absurd (none-some old (sym x.was))

-- ---- why a record isn't replaced

pub why_not_stored : (pages : List (List ℕ)) (dir owner current new : ℕ) (position : ℤ) (fault : PageFault)
    → ((c : Cluster) → IsCluster pages dir c → (owner ≡ c.map.owner) × (current ≡ c.map.current))
    → WhyUnless (Stands pages dir owner current) pages (most_chunks new) fault
    → WhyStored pages dir position new fault
why_not_stored pages dir owner current new position NoMemory seen h = tt
why_not_stored pages dir owner current new position Device seen h = tt
why_not_stored pages dir owner current new position (Busy turn) seen h = h
why_not_stored pages dir owner current new position (Damaged p) seen h = λ c i l.
    let x = seen c i in h (record { c = c; is = i; owned = x.0; now = x.1 }) l
why_not_stored pages dir owner current new position PagesFull seen h = λ c i l. omega (arith, h l)

-- a position that was live still is
pub still_live : (m : PositionMap) (current : ℕ) (position : ℤ) (old : Place) → Some old ≡ place_of m position
    → IsSome (place_of (record m { current = current }) position)
still_live m current (pos q) old is = subst (λ (o : Option Place). IsSome o) is refl
still_live m current (negsuc n) old is = absurd (none-some old (sym is))

pub why_not_set : (pages mid : List (List ℕ)) (dir new : ℕ) (position as_set : ℤ) (old place : Place)
    (bytes : List ℕ) (fault : PageFault) → ((c : Cluster) → IsCluster pages dir c
    → IsStored dir c place bytes pages mid × (Some old ≡ place_of c.map as_set)) → WhySet mid dir as_set fault
    → WhyStored pages dir position new fault
why_not_set pages mid dir new position as_set old place bytes NoMemory on h = tt
why_not_set pages mid dir new position as_set old place bytes Device on h = tt
why_not_set pages mid dir new position as_set old place bytes (Busy turn) on h = h
why_not_set pages mid dir new position as_set old place bytes (Damaged p) on h = λ c i l.
    let s = on c i in
    h.1 (record c.map { current = place.page }) s.0.chained.is.map (still_live c.map place.page as_set old s.1)
why_not_set pages mid dir new position as_set old place bytes PagesFull on h = absurd h

few_old : (pages : List (List ℕ)) (dir q most : ℕ) (c : Cluster) (old : Place) → IsCluster pages dir c
    → place_at c.map q ≡ Some old → most ≡ most_chunks (min old.bytes MAX_BYTES) → length (c.chains q) ≤ most
few_old pages dir q most c old i live m =
    let r = i.records q old live in
    let e : min old.bytes MAX_BYTES ≡ length (c.records q) = omega (arith, r.long, r.most) in
    subst (λ (n : ℕ). length (c.chains q) ≤ n) (sym (m ∙ ap most_chunks e)) r.few

pub why_not_dropped : (pages mid now : List (List ℕ)) (dir : ℕ) (position : ℤ) (old place : Place)
    (owner most new : ℕ) (bytes : List ℕ) (fault : PageFault) → 0 < length bytes → length bytes ≤ MAX_BYTES
    → length bytes ≡ place.bytes → ((c : Cluster) → IsCluster pages dir c
    → IsReplacing pages mid now dir position old place owner bytes c)
    → most ≡ most_chunks (min old.bytes MAX_BYTES) → WhyNotUnstaged now owner place.page (link_of old) most fault
    → WhyStored pages dir position new fault
why_not_dropped pages mid now dir position old place owner most new bytes NoMemory some few long on m h = tt
why_not_dropped pages mid now dir position old place owner most new bytes Device some few long on m h = tt
why_not_dropped pages mid now dir position old place owner most new bytes (Busy turn) some few long on m h = h
why_not_dropped pages mid now dir (pos q) old place owner most new bytes (Damaged p) some few long on m h = λ c i l.
    let x = on c i in
    let live = sym x.was in
    let s = x.stored in
    h dir (swapped c s.chained.held place q bytes s.chained.chain) (c.chains q) (c.records q) x.owner_is refl
    (swap dir q c old place bytes pages mid now some few long live s (x.set q refl))
    (few_old pages dir q most c old i live m) ((x.set q refl).changes.listed (s.changes.listed l).0).0
why_not_dropped pages mid now dir (negsuc n) old place owner most new bytes (Damaged p) some few long on m h = λ c i l.
    none-some old (sym (on c i).was)
why_not_dropped pages mid now dir position old place owner most new bytes PagesFull some few long on m h = absurd h
