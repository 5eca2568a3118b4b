-- What a chunk that was put makes of a cluster's pages.
use Rattle.std.proofs.Common.{◌≡◌, ◌≢◌, ℕ, ◌+◌, ◌*◌, ◌<◌, ◌≤◌, true, false, List, [], ◌∷◌, ◌++◌, length, get_or}
use Rattle.std.proofs.Common.{set, slice_index, ◌⊎◌, inl, inr, refl, sym, ap, subst, ◌∙◌, true≢false, arith}
use Rattle.std.proofs.lemmas.Bool.{cases_lt}
use Rattle.std.proofs.lemmas.List.{get_or_append_left, length-append, get_or-set_same}
use Rattle.std.proofs.Math.Seq.{get_or-append_seam}
use Rattle.ori_bytes.specs.declared.limits.TheConstants.{FREE_KIND, SLOTS_KIND, DIRECTORY_KIND, MAP_KIND}
use Rattle.ori_bytes.specs.declared.limits.TheConstants.{PAGE_BYTES}
use Rattle.ori_page.specs.Pages.{owner_of, kind_of}
use Rattle.ori_page.specs.Spaces.{page_at}
use Rattle.ori_posmap.specs.Maps.{PositionMap, part_of, map_at, IsPositionMap, IsOwn, ChangesOwn}
use Rattle.ori_posmap.proofs.Spelling.{map_kind}
use Rattle.ori_posmap.proofs.Mapping.{dir_is}
use Rattle.ori_posmap.proofs.Owners.{patched_owner, patched_length}
use Rattle.ori_posmap.proofs.Effects.{write_changes}
use Rattle.ori_posmap.specs.Bytes.{patched}
use Rattle.ori_cluster.specs.declared.chunk.Link.{Link}
use Rattle.ori_cluster.specs.Slots.{Spot, has_chunk, IsLone, HasMore, IsPutAlone, slot_count, slot_place}
use Rattle.ori_cluster.specs.Slots.{IsSlotsPage, chunk_place}
use Rattle.ori_cluster.specs.Clusters.{Cluster, IsData}
use Rattle.ori_cluster.specs.Staging.{IsStaged}
use Rattle.ori_cluster.specs.Growing.{on_pages, HasOneMore, IsPutOn, IsPut}
use Rattle.ori_cluster.proofs.Pages.{none_past}
use Rattle.ori_cluster.proofs.Putting.{slots_used, slots_kind}
use Rattle.ori_cluster.proofs.DropPages.{no_chunk, some_chunk}
use Rattle.ori_cluster.proofs.PutStaged.{Put, staged_put}

-- ---- one page

pub more_one : (owner : ℕ) (next : Link) (bytes old new : List ℕ) → HasMore owner next bytes old new
    → HasOneMore owner (slot_count old) next bytes old new
more_one owner next bytes old new h = record {
  slots = h.slots;
  none = none_past (slot_count old) old (omega arith);
  has = h.has;
  says = h.says;
  others = h.others;
}

pub lone_one : (owner : ℕ) (next : Link) (bytes old new : List ℕ) → ((s : ℕ) → has_chunk s old ≡ false)
    → IsLone owner next bytes new → HasOneMore owner 0 next bytes old new
lone_one owner next bytes old new none h = record {
  slots = h.slots;
  none = none 0;
  has = h.has;
  says = h.says;
  others = λ r other. record {
    has = h.only r other ∙ sym (none r);
    says = λ has. absurd (true≢false (sym has ∙ none r));
  };
}

-- the owner stays where a chunk is put
pub more_owner : (end count : ℕ) (k e n page a b new : List ℕ) → length page ≡ PAGE_BYTES → 16 ≤ end
    → end + length k + 2 * (count + 1) ≤ PAGE_BYTES → length e ≡ 2 → a ≡ patched end k page
    → b ≡ patched (slot_place count) e a → new ≡ patched 8 n b → owner_of new ≡ owner_of page
more_owner end count k e n page a b new long above room two x y z =
    let la : length a ≡ PAGE_BYTES
    = ap length x ∙ patched_length end k page (omega (arith, long, room)) ∙ long in
    let lb : length b ≡ PAGE_BYTES
    = ap length y ∙ patched_length (slot_place count) e a (omega (arith, la, room, above, two)) ∙ la in
    ap owner_of z ∙ patched_owner 8 n b (omega arith) (omega (arith, lb))
    ∙ ap owner_of y ∙ patched_owner (slot_place count) e a (omega (arith, room, above)) (omega (arith, la))
    ∙ ap owner_of x ∙ patched_owner end k page (omega (arith, above)) (omega (arith, long))

-- ---- one page of the pages

written_on : (owner p s : ℕ) (next : Link) (bytes content : List ℕ) (pages : List (List ℕ)) → 0 < p → p < length pages
    → IsSlotsPage owner (page_at pages p) → HasOneMore owner s next bytes (page_at pages p) content
    → IsPutOn owner p s next bytes pages (set pages p content)
written_on owner p s next bytes content pages above below i h = record {
  above = above;
  below = below;
  page = subst (HasOneMore owner s next bytes (page_at pages p))
      (sym (get_or-set_same pages p content [] below)) h;
  changes = write_changes (λ q. q ≡ p) pages p content above refl (slots_used owner (page_at pages p) i.slots)
      (slots_used owner content h.slots.slots);
}

pub put_lone : (owner p : ℕ) (next : Link) (bytes old content : List ℕ) (pages : List (List ℕ)) → 0 < p
    → p < length pages → old ≡ page_at pages p → ((s : ℕ) → s < slot_count old → chunk_place s old ≡ 0)
    → IsLone owner next bytes content → IsSlotsPage owner (page_at pages p)
    → IsPutOn owner p 0 next bytes pages (set pages p content)
put_lone owner p next bytes old content pages above below is none l i =
    written_on owner p 0 next bytes content pages above below i
    (subst (λ (x : List ℕ). HasOneMore owner 0 next bytes x content) is
    (lone_one owner next bytes old content (λ s. no_chunk s old (none s)) l))

pub put_more : (owner p s : ℕ) (next : Link) (bytes old content : List ℕ) (pages : List (List ℕ)) → 0 < p
    → p < length pages → old ≡ page_at pages p → s ≡ slot_count old
    → ((o : ℕ) → IsSlotsPage o old → HasMore o next bytes old content) → IsSlotsPage owner (page_at pages p)
    → IsPutOn owner p s next bytes pages (set pages p content)
put_more owner p s next bytes old content pages above below is at more i =
    let h : HasOneMore owner (slot_count old) next bytes old content
    = more_one owner next bytes old content (more owner (subst (IsSlotsPage owner) (sym is) i)) in
    written_on owner p s next bytes content pages above below i
    (subst (λ (x : List ℕ). HasOneMore owner s next bytes x content) is
    (subst (λ (x : ℕ). HasOneMore owner x next bytes old content) (sym at) h))

pub some_on : (owner p : ℕ) (old : List ℕ) (pages : List (List ℕ)) → old ≡ page_at pages p
    → (s : ℕ) × (s < slot_count old) × (chunk_place s old ≢ 0) → IsSlotsPage owner (page_at pages p)
    → (s : ℕ) × (has_chunk s (page_at pages p) ≡ true)
some_on owner p old pages is some i =
    some_chunk owner (page_at pages p) i
    (subst (λ (x : List ℕ). (s : ℕ) × (s < slot_count x) × (chunk_place s x ≢ 0)) is some)

-- ---- pages of a map and slots pages are other pages

-- a page of the map is in use, and no slots page
pub own_kind : (pages : List (List ℕ)) (dir : ℕ) (m : PositionMap) (q : ℕ) → IsPositionMap pages dir m
    → IsOwn dir m q → (kind_of (page_at pages q) ≢ FREE_KIND) × (kind_of (page_at pages q) ≢ SLOTS_KIND)
own_kind pages dir m q i (inl e) =
    let k : kind_of (page_at pages q) ≡ DIRECTORY_KIND
    = ap (λ (x : ℕ). kind_of (page_at pages x)) e ∙ (dir_is pages dir m i).kind_is in
    (λ f. absurd (omega (arith, k, f)), λ f. absurd (omega (arith, k, f)))
own_kind pages dir m q i (inr (j, low, e)) =
    let k : kind_of (page_at pages q) ≡ MAP_KIND
    = ap (λ (x : ℕ). kind_of (page_at pages x)) e ∙ ap kind_of (i.maps j low)
    ∙ map_kind m.owner (part_of j m.entries) in
    (λ f. absurd (omega (arith, k, f)), λ f. absurd (omega (arith, k, f)))

-- a map whose pages stay
pub map_kept : (before after : List (List ℕ)) (dir : ℕ) (m : PositionMap) → IsPositionMap before dir m
    → length before ≤ length after → ((q : ℕ) → 0 < q → q < length before → kind_of (page_at before q) ≢ FREE_KIND
    → IsOwn dir m q → page_at after q ≡ page_at before q) → IsPositionMap after dir m
map_kept before after dir m i more keep = record {
  above = i.above;
  below = omega (arith, i.below, more);
  owned = i.owned;
  owner = i.owner;
  current = i.current;
  few = i.few;
  room = i.room;
  fits = i.fits;
  directory = keep dir i.above i.below (own_kind before dir m dir i (inl refl)).0 (inl refl) ∙ i.directory;
  map_above = i.map_above;
  map_below = λ k low. omega (arith, i.map_below k low, more);
  distinct = i.distinct;
  maps = λ k low. keep (map_at m k) (i.map_above k low) (i.map_below k low)
      (own_kind before dir m (map_at m k) i (inr (k, low, refl))).0 (inr (k, low, refl)) ∙ i.maps k low;
}

-- a slots page of a cluster is in use, and no page of its map
pub data_used : (pages : List (List ℕ)) (dir : ℕ) (c : Cluster) (loose : List Spot) (link : Link) (bytes : List ℕ)
    → IsStaged pages dir c loose link bytes → (q : ℕ) → IsData c q → kind_of (page_at pages q) ≢ FREE_KIND
data_used pages dir c loose link bytes i q d = slots_used c.map.owner (page_at pages q) (i.slots q d).slots

pub data_own : (pages : List (List ℕ)) (dir : ℕ) (c : Cluster) (loose : List Spot) (link : Link) (bytes : List ℕ)
    → IsStaged pages dir c loose link bytes → (q : ℕ) → IsData c q → IsOwn dir c.map q → ⊥
data_own pages dir c loose link bytes i q d own =
    (own_kind pages dir c.map q i.map own).1 (slots_kind c.map.owner (page_at pages q) (i.slots q d).slots)

-- what a call on the map leaves
pub data_stays : (mid after : List (List ℕ)) (dir most : ℕ) (c : Cluster) (loose : List Spot) (link : Link)
    (bytes : List ℕ) → IsStaged mid dir c loose link bytes → ChangesOwn (IsOwn dir c.map) most mid after → (q : ℕ)
    → IsData c q → page_at after q ≡ page_at mid q
data_stays mid after dir most c loose link bytes i h q d =
    h.others q (i.above q d) (i.below q d) (data_used mid dir c loose link bytes i q d)
    (data_own mid dir c loose link bytes i q d)

-- ---- onto a page of its own

-- a slots page more
more_old : (c : Cluster) (p q : ℕ) → IsData c q → IsData (on_pages c c.map.current (c.data_pages ++ p ∷ [])) q
more_old c p q (k, low, is) = (
  k,
  omega (arith, low, length-append c.data_pages (p ∷ [])),
  is ∙ sym (get_or_append_left c.data_pages (p ∷ []) 0 k low),
)

more_new : (c : Cluster) (p q : ℕ) → IsData (on_pages c c.map.current (c.data_pages ++ p ∷ [])) q
    → IsData c q ⊎ (q ≡ p)
more_new c p q (k, low, is) = by (cases_lt k (length c.data_pages))
  where
    by : (k < length c.data_pages) ⊎ (length c.data_pages ≤ k) → IsData c q ⊎ (q ≡ p)
    by (inl old) = inl (k, old, is ∙ get_or_append_left c.data_pages (p ∷ []) 0 k old)
    by (inr past) =
        let last : k ≡ length c.data_pages = omega (arith, low, past, length-append c.data_pages (p ∷ [])) in
        inr (is ∙ ap (λ (x : ℕ). get_or (c.data_pages ++ p ∷ []) x 0) last ∙ get_or-append_seam c.data_pages p [] 0)

more_here : (c : Cluster) (p : ℕ) → IsData (on_pages c c.map.current (c.data_pages ++ p ∷ [])) p
more_here c p = (
  length c.data_pages,
  omega (arith, length-append c.data_pages (p ∷ [])),
  sym (get_or-append_seam c.data_pages p [] 0),
)

more_distinct : (held : List ℕ) (p : ℕ)
    → ((j k : ℕ) → j < k → k < length held → slice_index held j ≢ slice_index held k)
    → ((k : ℕ) → k < length held → slice_index held k ≢ p) → (j k : ℕ) → j < k → k < length (held ++ p ∷ [])
    → slice_index (held ++ p ∷ []) j ≢ slice_index (held ++ p ∷ []) k
more_distinct held p each new j k low high = by (cases_lt k (length held))
  where
    by : (k < length held) ⊎ (length held ≤ k) → slice_index (held ++ p ∷ []) j ≢ slice_index (held ++ p ∷ []) k
    by (inl old) = λ e. each j k low old (sym (get_or_append_left held (p ∷ []) 0 j (omega (arith, low, old)))
        ∙ e ∙ get_or_append_left held (p ∷ []) 0 k old)
    by (inr past) = λ e.
        let last : k ≡ length held = omega (arith, high, past, length-append held (p ∷ [])) in
        let old : j < length held = omega (arith, low, last) in
        new j old (sym (get_or_append_left held (p ∷ []) 0 j old) ∙ e
        ∙ ap (λ (x : ℕ). get_or (held ++ p ∷ []) x 0) last ∙ get_or-append_seam held p [] 0)

pub put_new : (before after : List (List ℕ)) (dir : ℕ) (c : Cluster) (loose : List Spot) (next : Link)
    (bytes later : List ℕ) (p : ℕ) → IsStaged before dir c loose next later
    → IsPutAlone c.map.owner p next bytes before after
    → IsPut dir c c.map.current loose (record { page = p; slot = 0 }) (bytes ++ later) before after
put_new before after dir c loose next bytes later p i a =
    let held : List ℕ = c.data_pages ++ p ∷ [] in
    let spot : Spot = record { page = p; slot = 0 } in
    let fresh : (q : ℕ) → IsData c q → q ≢ p
    = λ q d e. data_used before dir c loose next later i q d (ap (λ (x : ℕ). kind_of (page_at before x)) e
    ∙ a.was_free (subst (λ (x : ℕ). x < length before) e (i.below q d))) in
    let put : Put before after c held spot next bytes = record {
      count = a.changes.count;
      old = more_old c p;
      new = more_new c p;
      here = more_here c p;
      above = a.above;
      below = a.below;
      distinct = more_distinct c.data_pages p i.distinct
          (λ k low. fresh (slice_index c.data_pages k) (k, low, refl));
      slots = a.page.slots;
      has = a.page.has;
      says = a.page.says;
      none = λ d. absurd (fresh p d refl);
      stays = λ q d other. a.changes.others q (i.above q d) (i.below q d)
          (data_used before dir c loose next later i q d) (λ none. absurd none);
      keeps = λ d r other. absurd (fresh p d refl);
      only = λ r other h. absurd (true≢false (sym h ∙ a.page.only r other));
    } in
    record {
      held = held;
      spot = spot;
      is = staged_put before after dir c held loose spot next bytes later i put
          (map_kept before after dir c.map i.map a.changes.count
          (λ q low below used own. a.changes.others q low below used (λ none. absurd none)));
      mine = λ q low used d. mine q low used (more_new c p q d);
    }
  where
    mine : (q : ℕ) → q < length before → kind_of (page_at before q) ≢ FREE_KIND → IsData c q ⊎ (q ≡ p) → IsData c q
    mine q low used (inl d) = d
    mine q low used (inr e) = absurd (used (ap (λ (x : ℕ). kind_of (page_at before x)) e
        ∙ a.was_free (subst (λ (x : ℕ). x < length before) e low)))

-- ---- onto the current page

pub put_on : (before after : List (List ℕ)) (dir : ℕ) (c : Cluster) (loose : List Spot) (next : Link)
    (bytes later : List ℕ) (s : ℕ) → IsStaged before dir c loose next later
    → IsPutOn c.map.owner c.map.current s next bytes before after
    → IsPut dir c c.map.current loose (record { page = c.map.current; slot = s }) (bytes ++ later) before after
put_on before after dir c loose next bytes later s i a = by i.current
  where
    by : (c.map.current ≡ 0) ⊎ IsData c c.map.current
        → IsPut dir c c.map.current loose (record { page = c.map.current; slot = s }) (bytes ++ later) before after
    by (inl none) = absurd (omega (arith, none, a.above))
    by (inr d) =
        let p = c.map.current in
        let spot : Spot = record { page = p; slot = s } in
        let h : HasOneMore c.map.owner s next bytes (page_at before p) (page_at after p) = a.page in
        let put : Put before after c c.data_pages spot next bytes = record {
          count = a.changes.count;
          old = λ q x. x;
          new = λ q x. inl x;
          here = d;
          above = a.above;
          below = omega (arith, a.below, a.changes.count);
          distinct = i.distinct;
          slots = h.slots;
          has = h.has;
          says = h.says;
          none = λ x. h.none;
          stays = λ q x other. a.changes.others q (i.above q x) (i.below q x)
              (data_used before dir c loose next later i q x) other;
          keeps = λ x r other. h.others r other;
          only = λ r other has. (d, sym (h.others r other).has ∙ has);
        } in
        record {
          held = c.data_pages;
          spot = spot;
          is = staged_put before after dir c c.data_pages loose spot next bytes later i put
              (map_kept before after dir c.map i.map a.changes.count
              (λ q low below used own. a.changes.others q low below used
              (λ e. data_own before dir c loose next later i p d (subst (IsOwn dir c.map) e own))));
          mine = λ q low used x. x;
        }
