-- Chunks that fill a page each, and the first one before them.
use Rattle.std.proofs.Common.{◌≡◌, ◌≢◌, ℕ, ◌+◌, ◌*◌, ◌<◌, ◌≤◌, true, List, [], ◌∷◌, ◌++◌, length, take, drop}
use Rattle.std.proofs.Common.{◌⊎◌, inl, inr, refl, sym, ap, subst, ◌∙◌, arith}
use Rattle.std.proofs.lemmas.Bool.{and_from, lt-ltb}
use Rattle.std.proofs.lemmas.List.{take-append-drop, drop-drop, drop_all}
use Rattle.ori_bytes.specs.declared.limits.TheConstants.{FREE_KIND}
use Rattle.ori_page.specs.Pages.{kind_of}
use Rattle.ori_page.specs.Spaces.{page_at, HasFreeList, in_use}
use Rattle.ori_posmap.specs.Maps.{PositionMap, IsPositionMap, IsOwn, IsCurrent, ChangesOwn}
use Rattle.ori_posmap.proofs.Effects.{widen, changes_then}
use Rattle.ori_cluster.specs.declared.chunk.Link.{Link}
use Rattle.ori_cluster.specs.declared.slots.TheConstants.{MOST_BYTES}
use Rattle.ori_cluster.specs.Slots.{Spot, has_chunk, IsSlotsPage, IsPutAlone}
use Rattle.ori_cluster.specs.Clusters.{Cluster, IsData, IsPageOf, most_chunks}
use Rattle.ori_cluster.specs.Staging.{IsStaged}
use Rattle.ori_cluster.specs.Growing.{on_pages, IsPutOn, IsPut, IsPutFirst, HasTail}
use Rattle.ori_cluster.specs.Drops.{has_slots}
use Rattle.ori_cluster.specs.Growing.{Stands, StandsStaged}
use Rattle.ori_cluster.proofs.DropMaps.{more_changes}
use Rattle.ori_cluster.proofs.PutPages.{data_used, map_kept, put_new, put_on}
use Rattle.ori_cluster.proofs.PutMoved.{to_staged, current_moved}

-- ---- changes

pub no_changes : (Own : ℕ → Type 0) (pages : List (List ℕ)) → ChangesOwn Own 0 pages pages
no_changes Own pages = record {
  count = omega arith;
  others = λ q low below used other. refl;
  head = record { format = refl; first_retired = refl; next_index = refl; rest = refl };
  listed = λ l. (l, omega arith);
}

-- a page in use that isn't its own is still in use
pub still_used : (Own : ℕ → Type 0) (n : ℕ) (a b : List (List ℕ)) (q : ℕ) → ChangesOwn Own n a b → (Own q → ⊥) → 0 < q
    → q < length a → kind_of (page_at a q) ≢ FREE_KIND → kind_of (page_at b q) ≢ FREE_KIND
still_used Own n a b q c other above below used = λ e.
    used (subst (λ (x : List ℕ). kind_of x ≡ FREE_KIND) (c.others q above below used other) e)

-- ---- the first chunk

-- onto the current page
pub current_first : (before after : List (List ℕ)) (dir owner p s : ℕ) (c : Cluster) (loose : List Spot) (next : Link)
    (bytes later : List ℕ) → IsStaged before dir c loose next later → owner ≡ c.map.owner → p ≡ c.map.current → p ≢ 0
    → (IsSlotsPage owner (page_at before p) → IsPutOn owner p s next bytes before after)
    → IsPutFirst dir c loose (record { page = p; slot = s }) (bytes ++ later) before after
current_first before after dir owner p s c loose next bytes later i owned now some h = by i.current
  where
    by : (c.map.current ≡ 0) ⊎ IsData c c.map.current
        → IsPutFirst dir c loose (record { page = p; slot = s }) (bytes ++ later) before after
    by (inl none) = absurd (some (now ∙ none))
    by (inr d) =
        let slots : IsSlotsPage owner (page_at before p)
        = subst (λ (x : ℕ). IsSlotsPage x (page_at before p)) (sym owned)
        (subst (λ (x : ℕ). IsSlotsPage c.map.owner (page_at before x)) (sym now) (i.slots c.map.current d)) in
        let a : IsPutOn c.map.owner c.map.current s next bytes before after
        = subst (λ (x : ℕ). IsPutOn x c.map.current s next bytes before after) owned
        (subst (λ (x : ℕ). IsPutOn owner x s next bytes before after) now (h slots)) in
        record {
          put = subst (λ (x : ℕ). IsPut dir c x loose (record { page = x; slot = s }) (bytes ++ later) before after)
              (sym now) (put_on before after dir c loose next bytes later s i a);
          changes = more_changes (IsPageOf dir c) 0 1 before after (omega arith)
              (widen (λ q. q ≡ c.map.current) (IsPageOf dir c) 0 before after
              (λ q e. inr (subst (IsData c) (sym e) d)) a.changes);
        }

-- onto a new one, which is the current one then
pub next_first : (before mid after : List (List ℕ)) (dir owner p : ℕ) (c : Cluster) (loose : List Spot) (next : Link)
    (bytes later : List ℕ) → IsStaged before dir c loose next later → owner ≡ c.map.owner
    → (IsData c c.map.current → (s : ℕ) × (has_chunk s (page_at before c.map.current) ≡ true))
    → IsPutAlone owner p next bytes before mid → ((m : PositionMap) → IsPositionMap mid dir m
    → IsCurrent dir m p mid after)
    → IsPutFirst dir c loose (record { page = p; slot = 0 }) (bytes ++ later) before after
next_first before mid after dir owner p c loose next bytes later i owned full alone move =
    let a : IsPutAlone c.map.owner p next bytes before mid
    = subst (λ (x : ℕ). IsPutAlone x p next bytes before mid) owned alone in
    let x = put_new before mid dir c loose next bytes later p i a in
    let d = on_pages c c.map.current x.held in
    let cur : IsCurrent dir c.map p mid after = move c.map x.is.map in
    let here : IsData d p = subst (IsData d) (sym x.is.links.0) (x.is.loose_inside 0 x.spot refl) in
    record {
      put = record {
        held = x.held;
        spot = x.spot;
        is = current_moved mid after dir p d (x.spot ∷ loose) (record { page = p; slot = 0 }) (bytes ++ later) x.is cur
            here (λ has. still a x.held has x.is.above i.current);
        mine = x.mine;
      };
      changes = changes_then (IsPageOf dir c) (IsOwn dir c.map) 1 0 before mid after
          (widen (λ q. ⊥) (IsPageOf dir c) 1 before mid (λ q none. absurd none) a.changes) cur.changes
          (λ q low below used own. inl own);
    }
  where
    still : IsPutAlone c.map.owner p next bytes before mid → (held : List ℕ)
        → IsData (on_pages c c.map.current held) c.map.current
        → ((q : ℕ) → IsData (on_pages c c.map.current held) q → 0 < q)
        → (c.map.current ≡ 0) ⊎ IsData c c.map.current
        → (s : ℕ) × (has_chunk s (page_at mid c.map.current) ≡ true)
    still a held has above (inl none) = absurd (omega (arith, none, above c.map.current has))
    still a held has above (inr d) =
        let f = full d in
        let q = c.map.current in
        let same : page_at mid q ≡ page_at before q
        = a.changes.others q (i.above q d) (i.below q d) (data_used before dir c loose next later i q d)
        (λ none. absurd none) in
        (f.0, subst (λ (y : List ℕ). has_chunk f.0 y ≡ true) (sym same) f.1)

-- where the current page has no room nothing has changed before
pub unchanged_first : (before mid after : List (List ℕ)) (dir p owner : ℕ) (c : Cluster) (loose : List Spot)
    (next link : Link) (bytes later : List ℕ) → IsStaged before dir c loose next later → owner ≡ c.map.owner
    → p ≡ c.map.current → mid ≡ before
    → (p ≢ 0 → IsSlotsPage owner (page_at before p) → (s : ℕ) × (has_chunk s (page_at before p) ≡ true))
    → (IsStaged mid dir c loose next later → owner ≡ c.map.owner
    → (IsData c c.map.current → (s : ℕ) × (has_chunk s (page_at mid c.map.current) ≡ true))
    → IsPutFirst dir c loose link (bytes ++ later) mid after)
    → IsPutFirst dir c loose link (bytes ++ later) before after
unchanged_first before mid after dir p owner c loose next link bytes later i owned now same full put =
    let put' = subst (λ (x : List (List ℕ)). IsStaged x dir c loose next later → owner ≡ c.map.owner
    → (IsData c c.map.current → (s : ℕ) × (has_chunk s (page_at x c.map.current) ≡ true))
    → IsPutFirst dir c loose link (bytes ++ later) x after) same put in
    put' i owned (λ d.
    let slots : IsSlotsPage owner (page_at before p)
    = subst (λ (x : ℕ). IsSlotsPage x (page_at before p)) (sym owned)
    (subst (λ (x : ℕ). IsSlotsPage c.map.owner (page_at before x)) (sym now) (i.slots c.map.current d)) in
    let some : p ≢ 0 = λ e. absurd (omega (arith, e, now, i.above c.map.current d)) in
    subst (λ (x : ℕ). (s : ℕ) × (has_chunk s (page_at before x) ≡ true)) now (full some slots))

-- ---- the others

pub few_rounds : (long end rounds : ℕ) → long ≡ end + MOST_BYTES * rounds → 0 < end → rounds + 1 ≤ most_chunks long
few_rounds long end rounds is some = omega (arith, is, some)

pub tail_none : (owner end : ℕ) (bytes : List ℕ) (pages : List (List ℕ)) → end ≡ length bytes
    → HasTail owner bytes (record { page = 0; slot = 0 }) end pages pages
tail_none owner end bytes pages all = record {
  rounds = 0;
  long = omega (arith, all);
  changes = no_changes (λ q. ⊥) pages;
  chained = λ dir c i owned. record {
    held = c.data_pages;
    chain = [];
    is = subst (λ (x : List ℕ). IsStaged pages dir c [] (record { page = 0; slot = 0 }) x)
        (sym (drop_all end bytes (omega (arith, all)))) (to_staged pages dir c i);
    long = refl;
    mine = λ q low used d. d;
  };
}

-- the bytes of one chunk, and those behind it
cut : (bytes : List ℕ) (start end : ℕ) → end ≡ start + MOST_BYTES
    → take MOST_BYTES (drop start bytes) ++ drop end bytes ≡ drop start bytes
cut bytes start end is =
    ap (λ (x : List ℕ). take MOST_BYTES (drop start bytes) ++ x)
    (ap (λ (x : ℕ). drop x bytes) is ∙ sym (drop-drop MOST_BYTES start bytes))
    ∙ take-append-drop MOST_BYTES (drop start bytes)

pub tail_more : (owner p start end : ℕ) (bytes part : List ℕ) (link : Link) (pages mid after : List (List ℕ))
    → end ≡ start + MOST_BYTES → part ≡ take MOST_BYTES (drop start bytes) → HasTail owner bytes link end pages mid
    → IsPutAlone owner p link part mid after
    → HasTail owner bytes (record { page = p; slot = 0 }) start pages after
tail_more owner p start end bytes part link pages mid after is part_is h alone = record {
  rounds = h.rounds + 1;
  long = omega (arith, h.long, is);
  changes = changes_then (λ q. ⊥) (λ q. ⊥) h.rounds 1 pages mid after h.changes alone.changes
      (λ q low below used none. none);
  chained = λ dir c i owned.
      let x = h.chained dir c i owned in
      let d = on_pages c c.map.current x.held in
      let a : IsPutAlone c.map.owner p link part mid after
      = subst (λ (o : ℕ). IsPutAlone o p link part mid after) owned alone in
      let y = put_new mid after dir d x.chain link part (drop end bytes) p x.is a in
      record {
        held = y.held;
        chain = y.spot ∷ x.chain;
        is = subst (λ (z : List ℕ). IsStaged after dir (on_pages c c.map.current y.held) (y.spot ∷ x.chain)
            (record { page = p; slot = 0 }) z)
            (ap (λ (z : List ℕ). z ++ drop end bytes) part_is ∙ cut bytes start end is) y.is;
        long = omega (arith, x.long);
        mine = λ q low used e. x.mine q low used
            (y.mine q (omega (arith, low, h.changes.count))
            (still_used (λ r. ⊥) h.rounds pages mid q h.changes (λ none. none) (y.is.above q e) low used) e);
      };
}

-- pages in use after the tail, and one more
pub tail_listed : (owner end : ℕ) (bytes : List ℕ) (link : Link) (pages mid : List (List ℕ)) → 0 < end
    → HasTail owner bytes link end pages mid → HasFreeList pages
    → HasFreeList mid × (in_use mid + 1 ≤ in_use pages + most_chunks (length bytes))
tail_listed owner end bytes link pages mid some h l =
    let x = h.changes.listed l in
    (x.0, omega (arith, x.1, few_rounds (length bytes) end h.rounds h.long some))

-- a map stands where a page was taken for a chunk
pub alone_map : (owner p dir : ℕ) (next : Link) (bytes : List ℕ) (before mid : List (List ℕ)) (m : PositionMap)
    → IsPutAlone owner p next bytes before mid → IsPositionMap before dir m → IsPositionMap mid dir m
alone_map owner p dir next bytes before mid m a i =
    map_kept before mid dir m i a.changes.count
    (λ q above low used own. a.changes.others q above low used (λ none. absurd none))

-- the pages stand for a cluster with the tail loose
pub tail_stands : (owner dir current end : ℕ) (bytes : List ℕ) (link : Link) (pages mid : List (List ℕ))
    → HasTail owner bytes link end pages mid → Stands pages dir owner current → StandsStaged mid dir owner current
tail_stands owner dir current end bytes link pages mid t x =
    let y = t.chained dir x.c x.is x.owned in
    record {
      c = on_pages x.c x.c.map.current y.held;
      loose = y.chain;
      link = link;
      bytes = drop end bytes;
      is = y.is;
      owned = x.owned;
      now = x.now;
    }

-- the current page is one of its slots pages
pub has_current : (pages : List (List ℕ)) (dir owner current : ℕ) → current ≢ 0 → StandsStaged pages dir owner current
    → has_slots pages owner current ≡ true
has_current pages dir owner current some x = by x.is.current
  where
    by : (x.c.map.current ≡ 0) ⊎ IsData x.c x.c.map.current → has_slots pages owner current ≡ true
    by (inl none) = absurd (some (x.now ∙ none))
    by (inr d) =
        let q = x.c.map.current in
        let good : has_slots pages x.c.map.owner q ≡ true
        = and_from _ _ (and_from _ _ (lt-ltb 0 q (x.is.above q d)) (lt-ltb q (length pages) (x.is.below q d)))
        (x.is.slots q d).slots in
        ap (λ (z : ℕ). has_slots pages z current) x.owned
        ∙ ap (has_slots pages x.c.map.owner) x.now ∙ good
