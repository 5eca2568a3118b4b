-- A record that is stored, and the position that takes it.
use Rattle.std.proofs.Common.{◌≡◌, ◌≢◌, ℕ, ◌+◌, ◌<◌, ◌≤◌, ℤ, Option, Some, None, List, [], ◌∷◌, ◌++◌}
use Rattle.std.proofs.Common.{length, take, drop, slice_get, Result, Ok, Err, ◌⊎◌, inl, inr, refl, sym, ap, subst}
use Rattle.std.proofs.Common.{◌∙◌, arith}
use Rattle.std.specs.Result.{IsErrOf, IfErr}
use Rattle.std.proofs.lemmas.Bool.{cases_lt}
use Rattle.std.proofs.lemmas.List.{take-append-drop, length-append, get_or_append_left}
use Rattle.std.proofs.Math.Seq.{get_or-append_seam}
use Rattle.ori_bytes.specs.declared.limits.TheConstants.{FREE_KIND}
use Rattle.ori_page.specs.declared.fault.PageFault.{PageFault}
use Rattle.ori_page.specs.declared.fault.PageFault.TheVariants.{NoMemory, Device, Busy, Damaged, PagesFull}
use Rattle.ori_page.specs.Pages.{kind_of}
use Rattle.ori_page.specs.Spaces.{page_at}
use Rattle.ori_posmap.specs.declared.fault.PosFault.{PosFault}
use Rattle.ori_posmap.specs.declared.fault.PosFault.TheVariants.{Page, ClusterFull}
use Rattle.ori_posmap.specs.declared.place.Place.{Place}
use Rattle.ori_posmap.specs.Maps.{PositionMap, no_entry, entry_for, place_in, place_at, IsOwn}
use Rattle.ori_posmap.specs.Maps.{IsPushed, WhyMap, WhyPushed}
use Rattle.ori_posmap.proofs.Effects.{widen, changes_then}
use Rattle.ori_posmap.proofs.Mapping.{past_end}
use Rattle.ori_cluster.specs.declared.TheConstants.{MAX_BYTES}
use Rattle.ori_cluster.specs.declared.chunk.Link.{Link}
use Rattle.ori_cluster.specs.Slots.{Spot}
use Rattle.ori_cluster.specs.Clusters.{Cluster, IsPageOf, IsCluster, IsChunkOf, Stores, most_chunks, bound}
use Rattle.ori_cluster.specs.Clusters.{bytes_if, WhyCreated}
use Rattle.ori_cluster.specs.Staging.{IsStaged}
use Rattle.ori_cluster.specs.Growing.{on_pages, link_of, IsPutFirst, IsChained, HasTail, IsStored}
use Rattle.ori_cluster.specs.Growing.{WhyUnless, Stands}
use Rattle.ori_cluster.proofs.DropMaps.{more_changes}
use Rattle.ori_cluster.proofs.PutPages.{data_stays}
use Rattle.ori_cluster.proofs.PutMoved.{Takes, taken, take_chain, with_same, with_other, from_staged}
use Rattle.ori_cluster.proofs.PutTail.{few_rounds, still_used}

-- ---- stored

pub stored : (owner dir end : ℕ) (c : Cluster) (place : Place) (link : Link) (bytes part : List ℕ)
    (pages mid after : List (List ℕ)) → IsCluster pages dir c → owner ≡ c.map.owner → 0 < end
    → part ≡ take end bytes → HasTail owner bytes link end pages mid
    → ((d : Cluster) (loose : List Spot) (later : List ℕ) → IsStaged mid dir d loose link later → owner ≡ d.map.owner
    → c.map.current ≡ d.map.current → IsPutFirst dir d loose (link_of place) (part ++ later) mid after)
    → IsStored dir c place bytes pages after
stored owner dir end c place link bytes part pages mid after i owned some part_is t put =
    let x = t.chained dir c i owned in
    let d = on_pages c c.map.current x.held in
    let y = put d x.chain (drop end bytes) x.is owned refl in
    let whole : part ++ drop end bytes ≡ bytes
    = ap (λ (z : List ℕ). z ++ drop end bytes) part_is ∙ take-append-drop end bytes in
    let used : (q : ℕ) → 0 < q → q < length pages → kind_of (page_at pages q) ≢ FREE_KIND
    → kind_of (page_at mid q) ≢ FREE_KIND
    = λ q above low u. still_used (λ r. ⊥) t.rounds pages mid q t.changes (λ none. none) above low u in
    record {
      rounds = t.rounds + 1;
      few = few_rounds (length bytes) end t.rounds t.long some;
      chained = record {
        held = y.put.held;
        chain = y.put.spot ∷ x.chain;
        is = subst (λ (z : List ℕ). IsStaged after dir (on_pages c place.page y.put.held) (y.put.spot ∷ x.chain)
            (link_of place) z) whole y.put.is;
        long = omega (arith, x.long);
        mine = λ q low u e. x.mine q low u
            (y.put.mine q (omega (arith, low, t.changes.count)) (used q (y.put.is.above q e) low u) e);
      };
      changes = changes_then (IsPageOf dir c) (IsPageOf dir d) t.rounds 1 pages mid after
          (widen (λ q. ⊥) (IsPageOf dir c) t.rounds pages mid (λ q none. absurd none) t.changes) y.changes
          (λ q above low u own. mine x q low u own);
    }
  where
    mine : (x : IsChained dir c c.map.current link (drop end bytes) t.rounds pages mid) → (q : ℕ) → q < length pages
        → kind_of (page_at pages q) ≢ FREE_KIND → IsPageOf dir (on_pages c c.map.current x.held) q → IsPageOf dir c q
    mine x q low u (inl own) = inl own
    mine x q low u (inr e) = inr (x.mine q low u e)

-- ---- a position more

-- the map with one position more, live with this place
abbrev pub map_more : PositionMap → List ℕ → Place → PositionMap
map_more m maps place = record m { maps = maps; entries = m.entries ++ entry_for (Some place) ∷ [] }

pushed_live : (m : PositionMap) (maps : List ℕ) (place : Place)
    → place_at (map_more m maps place) (length m.entries) ≡ Some place
pushed_live m maps place = ap place_in (get_or-append_seam m.entries (entry_for (Some place)) [] no_entry)

pushed_others : (m : PositionMap) (maps : List ℕ) (place : Place) (r : ℕ) → (r ≡ length m.entries → ⊥)
    → place_at (map_more m maps place) r ≡ place_at m r
pushed_others m maps place r other = by (cases_lt r (length m.entries))
  where
    by : (r < length m.entries) ⊎ (length m.entries ≤ r) → place_at (map_more m maps place) r ≡ place_at m r
    by (inl low) = ap place_in (get_or_append_left m.entries (entry_for (Some place) ∷ []) no_entry r low)
    by (inr past) = past_end (map_more m maps place) r
        (omega (arith, past, other, length-append m.entries (entry_for (Some place) ∷ []))) ∙ sym (past_end m r past)

pub created : (dir : ℕ) (c : Cluster) (place : Place) (bytes : List ℕ) (pages mid after : List (List ℕ))
    → 0 < length bytes → length bytes ≤ MAX_BYTES → length bytes ≡ place.bytes
    → (s : IsStored dir c place bytes pages mid)
    → IsPushed dir (record c.map { current = place.page }) place mid after
    → Stores dir c (length c.map.entries) (length c.map.entries + 1) (Some bytes) (bound 0 (length bytes)) pages after
created dir c place bytes pages mid after some most long s p =
    let d = on_pages c place.page s.chained.held in
    let m : PositionMap = map_more d.map p.maps place in
    let q = length c.map.entries in
    let none : Link = record { page = 0; slot = 0 } in
    let t : Takes mid after dir d m q place s.chained.chain [] none bytes [] = record {
      count = p.changes.count;
      map = p.is;
      live = pushed_live d.map p.maps place;
      others = pushed_others d.map p.maps place;
      stays = data_stays mid after dir 1 d s.chained.chain (link_of place) bytes s.chained.is p.changes;
      long = long;
      some = some;
      most = most;
      few = omega (arith, s.few, s.chained.long);
      old_links = (refl, refl);
      old_of = λ j x at. cc;
      of_old = λ j x at. never x j at;
    } in
    let new = taken d m q bytes s.chained.chain in
    record {
      new = new;
      is = from_staged after dir new none []
          (take_chain mid after dir d m q place s.chained.chain [] none bytes [] s.chained.is t);
      holds = record {
        owner = refl;
        next = length-append c.map.entries (entry_for (Some place) ∷ []);
        this = ap (λ (o : Option Place). bytes_if o (new.records q)) t.live
            ∙ ap (λ (z : List ℕ). Some z) (with_same q q bytes c.records refl);
        others = λ r other.
            ap (λ (o : Option Place). bytes_if o (new.records r)) (t.others r other)
            ∙ ap (bytes_if (place_at c.map r)) (with_other q r bytes c.records other);
      };
      changes = more_changes (IsPageOf dir c) (s.rounds + 1) (bound 0 (length bytes)) pages after
          (omega (arith, s.few)) (changes_then (IsPageOf dir c) (IsOwn dir c.map) s.rounds 1 pages mid after
          s.changes p.changes (λ r low under used own. inl own));
    }
  where
    never : (x : Spot) (j : ℕ)
        → IsChunkOf (on_pages c place.page s.chained.held) (length c.map.entries) j x → slice_get [] j ≡ Some x
    never x j at =
        let none : place_at c.map (length c.map.entries) ≡ None
        = past_end c.map (length c.map.entries) (omega arith) in
        let live : place_at c.map (length c.map.entries) ≡ Some at.place = at.live in
        absurd (apart (sym none ∙ live))
      where
        apart : {A : Type 0} {y : A} → None ≡ Some y → ⊥
        apart e = cc

-- ---- why it isn't

pub why_told : (pages : List (List ℕ)) (dir most : ℕ) (fault : PageFault) → WhyMap pages dir fault
    → WhyCreated pages dir most (Page fault)
why_told pages dir most NoMemory h = tt
why_told pages dir most Device h = tt
why_told pages dir most (Busy turn) h = h
why_told pages dir most (Damaged p) h = λ c i l. h.1 c.map i.map
why_told pages dir most PagesFull h = absurd h

pub why_stored : (pages : List (List ℕ)) (dir owner current bytes : ℕ) (fault : PageFault)
    → ((c : Cluster) → IsCluster pages dir c → (owner ≡ c.map.owner) × (current ≡ c.map.current))
    → WhyUnless (Stands pages dir owner current) pages (most_chunks bytes) fault
    → WhyCreated pages dir (bound 0 bytes) (Page fault)
why_stored pages dir owner current bytes NoMemory seen h = tt
why_stored pages dir owner current bytes Device seen h = tt
why_stored pages dir owner current bytes (Busy turn) seen h = h
why_stored pages dir owner current bytes (Damaged p) seen h = λ c i l.
    let x = seen c i in h (record { c = c; is = i; owned = x.0; now = x.1 }) l
why_stored pages dir owner current bytes PagesFull seen h = λ c i l. omega (arith, h l)

pub why_pushed : (pages mid : List (List ℕ)) (dir : ℕ) (place : Place) (bytes : List ℕ) (fault : PosFault)
    → ((c : Cluster) → IsCluster pages dir c → IsStored dir c place bytes pages mid) → WhyPushed mid dir fault
    → WhyCreated pages dir (bound 0 (length bytes)) fault
why_pushed pages mid dir place bytes (Page NoMemory) on h = tt
why_pushed pages mid dir place bytes (Page Device) on h = tt
why_pushed pages mid dir place bytes (Page (Busy turn)) on h = h
why_pushed pages mid dir place bytes (Page (Damaged p)) on (inl x) = λ c i l.
    x.1 (record c.map { current = place.page }) (on c i).chained.is.map
why_pushed pages mid dir place bytes (Page (Damaged p)) on (inr x) = λ c i l.
    x.unlisted ((on c i).changes.listed l).0
why_pushed pages mid dir place bytes (Page PagesFull) on h = λ c i l.
    let s = on c i in
    let x = s.changes.listed l in
    omega (arith, h x.0, x.1, s.few)
why_pushed pages mid dir place bytes ClusterFull on h = λ c i.
    h (record c.map { current = place.page }) (on c i).chained.is.map

-- what a full cluster says of itself
pub why_full : (r : Result ℤ PosFault) (P : PosFault → Type 0) → IsErrOf r ClusterFull → IfErr r P → P ClusterFull
why_full (Ok x) P full h = cc
why_full (Err fault) P full h = let e : fault ≡ ClusterFull = cc in subst P e h
