-- What the writes of a position map make of its pages.
use Rattle.std.proofs.Common.{◌≡◌, ◌≢◌, ◌⊎◌, inl, inr, ℕ, zero, suc, ◌+◌, ◌-◌, ◌*◌, ◌/◌, ◌%◌, ◌^◌, ◌<◌, ◌≤◌}
use Rattle.std.proofs.Common.{List, [], ◌∷◌, ◌++◌, length, take, drop, set, get_or}
use Rattle.std.proofs.Common.{Option, Some, refl, sym, ap, subst, ◌∙◌, arith}
use Rattle.std.specs.Int.{w32, w64, to_be_bytes}
use Rattle.std.proofs.lemmas.List.{length-take, length-drop, length-set, length-append}
use Rattle.std.proofs.lemmas.List.{get_or-set_same, get_or-set_other, take-set-le, drop-set-lt, drop-set-add}
use Rattle.std.proofs.lemmas.List.{drop-append-le, take-append-le, replicate-append-replicate, get_or_append_left}
use Rattle.std.proofs.lemmas.Bool.{cases_eq, cases_lt}
use Rattle.std.proofs.Math.Seq.{take-set-lt, take-nil, get_or-append_seam}
use Rattle.std.proofs.Math.ListN.{get_or-eq_default, drop_of_length-le}
use Rattle.ori_bytes.specs.declared.limits.TheConstants.{MAP_ENTRIES, MAX_MAP_PAGES, MAP_KIND, DIRECTORY_KIND}
use Rattle.ori_bytes.specs.declared.limits.TheConstants.{FREE_KIND}
use Rattle.ori_page.specs.Pages.{kind_of, fresh_page, page_head}
use Rattle.ori_page.specs.Heads.{KeepsHead}
use Rattle.ori_page.specs.Spaces.{page_at, IsTaken}
use Rattle.ori_page.proofs.Listing.{kept_list}
use Rattle.ori_posmap.specs.declared.place.Place.{Place}
use Rattle.ori_posmap.specs.declared.place.Entry.{Entry}
use Rattle.ori_posmap.specs.Bytes.{entry_bytes, patched, directory_page, map_page, number_place, entry_place}
use Rattle.ori_posmap.specs.Maps.{PositionMap, no_entry, EntryFits, part_of, map_at}
use Rattle.ori_posmap.specs.Maps.{IsPositionMap, IsOwn, ChangesOwn, IsFounded, IsPushed, entry_for}
use Rattle.ori_posmap.specs.Maps.{IsSet, IsCurrent, HasGrown, IsGrown, IsAppended}
use Rattle.ori_posmap.proofs.Spelling.{map_kind, put_entry, push_entry, put_next, put_current, put_map}
use Rattle.ori_posmap.proofs.Mapping.{dir_is, part_has}

-- ---- what stays

stays_head : (page : List ℕ) → KeepsHead page page
stays_head page = record { format = refl; first_retired = refl; next_index = refl; rest = refl }

-- one page of its own in use is written
pub write_changes : (Own : ℕ → Type 0) (pages : List (List ℕ)) (p : ℕ) (content : List ℕ) → 0 < p → Own p
    → kind_of (page_at pages p) ≢ FREE_KIND → kind_of content ≢ FREE_KIND
    → ChangesOwn Own 0 pages (set pages p content)
write_changes Own pages p content above own used is = record {
  count = omega (arith, length-set pages p content);
  others = λ q low below _ other.
      get_or-set_other pages p q content [] (λ e. other (subst Own (sym e) own));
  head = subst (KeepsHead (page_at pages 0))
      (sym (get_or-set_other pages p 0 content [] (λ e. absurd (omega (arith, e))))) (stays_head (page_at pages 0));
  listed = λ l.
      let k = kept_list pages p content (λ e. absurd (omega (arith, e))) used is l in
      (k.0, omega (arith, k.1));
}

-- what is some call's own may be more of another's
pub widen : (Own Own' : ℕ → Type 0) (n : ℕ) (a b : List (List ℕ)) → ((q : ℕ) → Own q → Own' q)
    → ChangesOwn Own n a b → ChangesOwn Own' n a b
widen Own Own' n a b more c = record {
  count = c.count;
  others = λ q low below used other. c.others q low below used (λ o. other (more q o));
  head = c.head;
  listed = c.listed;
}

keeps_head_on : (a b c : List ℕ) → KeepsHead a b → KeepsHead b c → KeepsHead a c
keeps_head_on a b c f s = record {
  format = s.format ∙ f.format;
  first_retired = s.first_retired ∙ f.first_retired;
  next_index = s.next_index ∙ f.next_index;
  rest = s.rest ∙ f.rest;
}

-- two calls, where what is the second's is also the first's
pub changes_then : (Own Own' : ℕ → Type 0) (m n : ℕ) (a b c : List (List ℕ)) → ChangesOwn Own m a b
    → ChangesOwn Own' n b c
    → ((q : ℕ) → 0 < q → q < length a → kind_of (page_at a q) ≢ FREE_KIND → Own' q → Own q)
    → ChangesOwn Own (m + n) a c
changes_then Own Own' m n a b c f s own = record {
  count = omega (arith, f.count, s.count);
  others = λ q low below used other.
      let first : page_at b q ≡ page_at a q = f.others q low below used other in
      let used' : kind_of (page_at b q) ≢ FREE_KIND
      = λ e. used (subst (λ (x : List ℕ). kind_of x ≡ FREE_KIND) first e) in
      s.others q low (omega (arith, f.count)) used' (λ o. other (own q low below used o)) ∙ first;
  head = keeps_head_on _ _ _ f.head s.head;
  listed = λ l.
      let x = f.listed l in
      let y = s.listed x.0 in
      (y.0, omega (arith, x.1, y.1));
}

-- a page is taken
pub take_changes : (owner kind p : ℕ) (before after : List (List ℕ)) → kind ≢ FREE_KIND
    → IsTaken owner kind p before after → ChangesOwn (λ q. ⊥) 1 before after
take_changes owner kind p before after used t = record {
  count = omega (arith, t.count);
  others = λ q low below is other.
      t.others q low below (λ e. is (subst (λ (x : ℕ). kind_of (page_at before x) ≡ FREE_KIND) (sym e)
      (t.was_free (subst (λ (x : ℕ). x < length before) e below)))) is;
  head = t.head;
  listed = λ l. let x = t.listed used l in (x.0, omega (arith, x.1));
}

-- ---- the parts of the entries

part_set_same : (entries : List Entry) (q : ℕ) (e : Entry)
    → part_of (q / MAP_ENTRIES) (set entries q e) ≡ set (part_of (q / MAP_ENTRIES) entries) (q % MAP_ENTRIES) e
part_set_same entries q e =
    let n = MAP_ENTRIES * (q / MAP_ENTRIES) in
    let whole : n + q % MAP_ENTRIES ≡ q = omega arith in
    ap (λ (x : ℕ). take MAP_ENTRIES (drop n (set entries x e))) (sym whole)
    ∙ ap (take MAP_ENTRIES) (drop-set-add n entries (q % MAP_ENTRIES) e)
    ∙ take-set-lt MAP_ENTRIES (drop n entries) (q % MAP_ENTRIES) e (omega arith)

part_set_other : (entries : List Entry) (k q : ℕ) (e : Entry) → k ≢ q / MAP_ENTRIES
    → part_of k (set entries q e) ≡ part_of k entries
part_set_other entries k q e other =
    let n = MAP_ENTRIES * k in
    by (cases_lt q n)
  where
    by : (q < MAP_ENTRIES * k) ⊎ (MAP_ENTRIES * k ≤ q) → part_of k (set entries q e) ≡ part_of k entries
    by (inl low) = ap (take MAP_ENTRIES) (drop-set-lt (MAP_ENTRIES * k) entries q e low)
    by (inr high) =
        let n = MAP_ENTRIES * k in
        let far : MAP_ENTRIES ≤ q - n = omega (arith, other) in
        ap (λ (x : ℕ). take MAP_ENTRIES (drop n (set entries x e))) (omega (arith, high))
        ∙ ap (take MAP_ENTRIES) (drop-set-add n entries (q - n) e)
        ∙ take-set-le MAP_ENTRIES (drop n entries) (q - n) e far

-- ---- the place of a position is set

is_own_map : (dir : ℕ) (m : PositionMap) (k : ℕ) → k < length m.maps → IsOwn dir m (map_at m k)
is_own_map dir m k low = inr (k, low, refl)

used_map : (pages : List (List ℕ)) (dir : ℕ) (m : PositionMap) (k : ℕ) → IsPositionMap pages dir m
    → k < length m.maps → kind_of (page_at pages (map_at m k)) ≡ MAP_KIND
used_map pages dir m k i low = ap kind_of (i.maps k low) ∙ map_kind m.owner (part_of k m.entries)

apart : (pages : List (List ℕ)) (dir : ℕ) (m : PositionMap) (k : ℕ) → IsPositionMap pages dir m → k < length m.maps
    → map_at m k ≢ dir
apart pages dir m k i low = λ e.
    let same : MAP_KIND ≡ DIRECTORY_KIND
    = sym (used_map pages dir m k i low) ∙ ap (λ (x : ℕ). kind_of (page_at pages x)) e
    ∙ (dir_is pages dir m i).kind_is in
    absurd (omega (arith, same))

distinct_maps : (pages : List (List ℕ)) (dir : ℕ) (m : PositionMap) (j k : ℕ) → IsPositionMap pages dir m
    → j < length m.maps → k < length m.maps → j ≢ k → map_at m j ≢ map_at m k
distinct_maps pages dir m j k i jlow klow other = by (cases_lt j k)
  where
    by : (j < k) ⊎ (k ≤ j) → map_at m j ≢ map_at m k
    by (inl low) = i.distinct j k low klow
    by (inr high) = λ e. i.distinct k j (omega (arith, high, other)) jlow (sym e)

fits_set : (entries : List Entry) (q : ℕ) (e : Entry) → EntryFits e → ((j : ℕ) → EntryFits (get_or entries j no_entry))
    → (j : ℕ) → EntryFits (get_or (set entries q e) j no_entry)
fits_set entries q e is all j = by (cases_eq j q)
  where
    by : (j ≡ q) ⊎ (j ≡ q → ⊥) → EntryFits (get_or (set entries q e) j no_entry)
    by (inr other) = subst EntryFits (sym (get_or-set_other entries q j e no_entry other)) (all j)
    by (inl same) = at (cases_lt q (length entries))
      where
        at : (q < length entries) ⊎ (length entries ≤ q) → EntryFits (get_or (set entries q e) j no_entry)
        at (inl low) = subst (λ (x : ℕ). EntryFits (get_or (set entries q e) x no_entry)) (sym same)
            (subst EntryFits (sym (get_or-set_same entries q e no_entry low)) is)
        at (inr high) = subst EntryFits (sym (get_or-eq_default (set entries q e) no_entry
            (omega (arith, same, high, length-set entries q e)))) (record {
              page = omega arith;
              slot = omega arith;
              bytes = omega arith;
            })

pub set_is : (pages : List (List ℕ)) (dir : ℕ) (m : PositionMap) (q : ℕ) (place : Option Place)
    → IsPositionMap pages dir m → q < length m.entries → EntryFits (entry_for place)
    → IsSet dir m q place pages (set pages (map_at m (q / MAP_ENTRIES))
    (patched (entry_place (q % MAP_ENTRIES)) (entry_bytes (entry_for place))
    (page_at pages (map_at m (q / MAP_ENTRIES)))))
set_is pages dir m q place i low fits =
    let e = entry_for place in
    let k = q / MAP_ENTRIES in
    let n = map_at m k in
    let has : k < length m.maps = omega (arith, i.room) in
    let content = patched (entry_place (q % MAP_ENTRIES)) (entry_bytes e) (page_at pages n) in
    let after = set pages n content in
    let new : List Entry = set m.entries q e in
    let content_is : content ≡ map_page m.owner (part_of k new)
    = ap (patched (entry_place (q % MAP_ENTRIES)) (entry_bytes e)) (i.maps k has)
    ∙ put_entry m.owner (part_of k m.entries) (q % MAP_ENTRIES) e (part_has m.entries q low)
    ∙ ap (map_page m.owner) (sym (part_set_same m.entries q e)) in
    let maps : (j : ℕ) → j < length m.maps → page_at after (map_at m j) ≡ map_page m.owner (part_of j new)
    = λ j jlow. set_maps pages dir m q e content i has content_is j jlow (cases_eq j k) in
    record {
      is = record {
        above = i.above;
        below = omega (arith, i.below, length-set pages n content);
        owned = i.owned;
        owner = i.owner;
        current = i.current;
        few = i.few;
        room = omega (arith, i.room, length-set m.entries q e);
        fits = fits_set m.entries q e fits i.fits;
        directory = get_or-set_other pages n dir content [] (λ e. apart pages dir m k i has (sym e)) ∙ i.directory
            ∙ ap (λ (x : ℕ). directory_page m.owner x m.current m.maps) (sym (length-set m.entries q e));
        map_above = i.map_above;
        map_below = λ j jlow. omega (arith, i.map_below j jlow, length-set pages n content);
        distinct = i.distinct;
        maps = maps;
      };
      changes = write_changes (IsOwn dir m) pages n content (i.map_above k has) (is_own_map dir m k has)
          (λ e. absurd (omega (arith, e, used_map pages dir m k i has)))
          (λ e. absurd (omega (arith, e, ap kind_of content_is, map_kind m.owner (part_of k new))));
    }
  where
    set_maps : (pages : List (List ℕ)) (dir : ℕ) (m : PositionMap) (q : ℕ) (e : Entry) (content : List ℕ)
        → IsPositionMap pages dir m → q / MAP_ENTRIES < length m.maps
        → content ≡ map_page m.owner (part_of (q / MAP_ENTRIES) (set m.entries q e))
        → (j : ℕ) → j < length m.maps → (j ≡ q / MAP_ENTRIES) ⊎ (j ≡ q / MAP_ENTRIES → ⊥)
        → page_at (set pages (map_at m (q / MAP_ENTRIES)) content) (map_at m j)
        ≡ map_page m.owner (part_of j (set m.entries q e))
    set_maps pages dir m q e content i has is j jlow (inl same) =
        let k = q / MAP_ENTRIES in
        ap (λ (x : ℕ). page_at (set pages (map_at m k) content) (map_at m x)) same
        ∙ get_or-set_same pages (map_at m k) content [] (i.map_below k has) ∙ is
        ∙ ap (λ (x : ℕ). map_page m.owner (part_of x (set m.entries q e))) (sym same)
    set_maps pages dir m q e content i has is j jlow (inr other) =
        let k = q / MAP_ENTRIES in
        get_or-set_other pages (map_at m k) (map_at m j) content [] (distinct_maps pages dir m j k i jlow has other)
        ∙ i.maps j jlow ∙ ap (map_page m.owner) (sym (part_set_other m.entries j q e other))

-- ---- the directory page alone is written

-- fields of the directory change, and the map pages stay
pub dir_written : (pages : List (List ℕ)) (dir : ℕ) (m : PositionMap) (current : ℕ) (content : List ℕ)
    → IsPositionMap pages dir m → current < 2 ^ 32
    → content ≡ directory_page m.owner (length m.entries) current m.maps
    → IsPositionMap (set pages dir content) dir (record m { current = current })
dir_written pages dir m current content i fits is =
    let len = length-set pages dir content in
    record {
      above = i.above;
      below = omega (arith, i.below, len);
      owned = i.owned;
      owner = i.owner;
      current = fits;
      few = i.few;
      room = i.room;
      fits = i.fits;
      directory = get_or-set_same pages dir content [] i.below ∙ is;
      map_above = i.map_above;
      map_below = λ k low. omega (arith, i.map_below k low, len);
      distinct = i.distinct;
      maps = λ k low. get_or-set_other pages dir (map_at m k) content [] (apart pages dir m k i low) ∙ i.maps k low;
    }

pub used_dir : (pages : List (List ℕ)) (dir : ℕ) (m : PositionMap) → IsPositionMap pages dir m
    → kind_of (page_at pages dir) ≢ FREE_KIND
used_dir pages dir m i = λ e. absurd (omega (arith, e, (dir_is pages dir m i).kind_is))

pub dir_kind : (owner next current : ℕ) (maps : List ℕ)
    → kind_of (directory_page owner next current maps) ≡ DIRECTORY_KIND
unfolding directory_page
dir_kind owner next current maps = refl

pub current_is : (pages : List (List ℕ)) (dir : ℕ) (m : PositionMap) (current : ℕ) (page : List ℕ)
    → IsPositionMap pages dir m → current < 2 ^ 32 → page ≡ page_at pages dir
    → IsCurrent dir m current pages (set pages dir (patched 16 (to_be_bytes w32 current) page))
current_is pages dir m current page i fits is =
    let content = patched 16 (to_be_bytes w32 current) page in
    let content_is : content ≡ directory_page m.owner (length m.entries) current m.maps
    = ap (patched 16 (to_be_bytes w32 current)) (is ∙ i.directory)
    ∙ put_current m.owner (length m.entries) m.current current m.maps in
    record {
      is = dir_written pages dir m current content i fits content_is;
      changes = write_changes (IsOwn dir m) pages dir content i.above (inl refl) (used_dir pages dir m i)
          (λ e. absurd (omega (
            arith,
            e,
            ap kind_of content_is,
            dir_kind m.owner (length m.entries) current m.maps,
          )));
    }

-- ---- a new map

-- zeros stand for a map without positions
blank : (owner : ℕ) → fresh_page owner DIRECTORY_KIND ≡ directory_page owner 0 0 []
unfolding directory_page
blank owner = ap (λ (x : List ℕ). page_head owner DIRECTORY_KIND ++ x) (sym (replicate-append-replicate 16 4072 0))

pub blank_map : (owner : ℕ) → fresh_page owner MAP_KIND ≡ map_page owner []
unfolding map_page
blank_map owner = refl

pub founded : (owner dir : ℕ) (before after : List (List ℕ)) → 0 < owner → owner < 2 ^ 32
    → IsTaken owner DIRECTORY_KIND dir before after → IsFounded owner dir before after
founded owner dir before after owned fits t = record {
  is = record {
    above = t.above;
    below = omega (arith, t.count);
    owned = owned;
    owner = fits;
    current = omega arith;
    few = omega arith;
    room = omega arith;
    fits = λ q. record { page = omega arith; slot = omega arith; bytes = omega arith };
    directory = t.page ∙ blank owner;
    map_above = λ k low. absurd (omega arith);
    map_below = λ k low. absurd (omega arith);
    distinct = λ j k low high. absurd (omega arith);
    maps = λ k low. absurd (omega arith);
  };
  was_free = t.was_free;
  changes = take_changes owner DIRECTORY_KIND dir before after (λ e. absurd (omega (arith, e))) t;
}

-- ---- one map page more

map_at_more : (maps : List ℕ) (n k : ℕ) → k < length maps → get_or (maps ++ n ∷ []) k 0 ≡ get_or maps k 0
map_at_more maps n k low = get_or_append_left maps (n ∷ []) 0 k low

no_part : (entries : List Entry) (k : ℕ) → length entries ≤ MAP_ENTRIES * k → part_of k entries ≡ []
no_part entries k past = ap (take MAP_ENTRIES) (drop_of_length-le entries past)

-- a map page as it was taken isn't one of the map
not_own : (pages : List (List ℕ)) (dir : ℕ) (m : PositionMap) (k n : ℕ) → IsPositionMap pages dir m
    → (n < length pages → kind_of (page_at pages n) ≡ FREE_KIND) → k < length m.maps → map_at m k ≢ n
not_own pages dir m k n i free low = λ e.
    let is : kind_of (page_at pages n) ≡ FREE_KIND = free (subst (λ (x : ℕ). x < length pages) e (i.map_below k low)) in
    absurd (omega (arith, is, ap (λ (x : ℕ). kind_of (page_at pages x)) e, used_map pages dir m k i low))

grown_maps : (pages mid : List (List ℕ)) (dir : ℕ) (m : PositionMap) (n : ℕ) (content : List ℕ)
    → IsPositionMap pages dir m → IsTaken m.owner MAP_KIND n pages mid
    → length m.entries ≤ MAP_ENTRIES * length m.maps → n ≢ dir
    → (k : ℕ) → k < length m.maps + 1 → (k < length m.maps) ⊎ (length m.maps ≤ k)
    → page_at (set mid dir content) (get_or (m.maps ++ n ∷ []) k 0) ≡ map_page m.owner (part_of k m.entries)
grown_maps pages mid dir m n content i t full aside k low (inl old) =
    let e : get_or (m.maps ++ n ∷ []) k 0 ≡ map_at m k = map_at_more m.maps n k old in
    ap (page_at (set mid dir content)) e
    ∙ get_or-set_other mid dir (map_at m k) content [] (apart pages dir m k i old)
    ∙ t.others (map_at m k) (i.map_above k old) (i.map_below k old)
    (not_own pages dir m k n i t.was_free old)
    (λ f. absurd (omega (arith, f, used_map pages dir m k i old)))
    ∙ i.maps k old
grown_maps pages mid dir m n content i t full aside k low (inr new) =
    let last : k ≡ length m.maps = omega (arith, low, new) in
    let e : get_or (m.maps ++ n ∷ []) k 0 ≡ n
    = ap (λ (x : ℕ). get_or (m.maps ++ n ∷ []) x 0) last ∙ get_or-append_seam m.maps n [] 0 in
    ap (page_at (set mid dir content)) e ∙ get_or-set_other mid dir n content [] aside ∙ t.page ∙ blank_map m.owner
    ∙ ap (map_page m.owner) (sym (no_part m.entries k (omega (arith, full, last))))

grown_distinct : (pages : List (List ℕ)) (dir : ℕ) (m : PositionMap) (n : ℕ) → IsPositionMap pages dir m
    → (n < length pages → kind_of (page_at pages n) ≡ FREE_KIND) → (j k : ℕ) → j < k → k < length m.maps + 1
    → get_or (m.maps ++ n ∷ []) j 0 ≢ get_or (m.maps ++ n ∷ []) k 0
grown_distinct pages dir m n i free j k low high = by (cases_lt k (length m.maps))
  where
    by : (k < length m.maps) ⊎ (length m.maps ≤ k) → get_or (m.maps ++ n ∷ []) j 0 ≢ get_or (m.maps ++ n ∷ []) k 0
    by (inl old) = λ e. i.distinct j k low old
        (sym (map_at_more m.maps n j (omega (arith, low, old))) ∙ e ∙ map_at_more m.maps n k old)
    by (inr new) = λ e.
        let last : k ≡ length m.maps = omega (arith, high, new) in
        let old : j < length m.maps = omega (arith, low, last) in
        not_own pages dir m j n i free old (sym (map_at_more m.maps n j old) ∙ e
        ∙ ap (λ (x : ℕ). get_or (m.maps ++ n ∷ []) x 0) last ∙ get_or-append_seam m.maps n [] 0)

-- a number of one of the map pages, of which n is the last
grown_each : (P : ℕ → Type 0) (maps : List ℕ) (n : ℕ) → ((k : ℕ) → k < length maps → P (get_or maps k 0)) → P n
    → (k : ℕ) → k < length maps + 1 → P (get_or (maps ++ n ∷ []) k 0)
grown_each P maps n old new k low = by (cases_lt k (length maps))
  where
    by : (k < length maps) ⊎ (length maps ≤ k) → P (get_or (maps ++ n ∷ []) k 0)
    by (inl before) = subst P (sym (map_at_more maps n k before)) (old k before)
    by (inr after) = subst P (sym (ap (λ (x : ℕ). get_or (maps ++ n ∷ []) x 0) (omega (arith, low, after))
        ∙ get_or-append_seam maps n [] 0)) new

-- what is the grown map's and was in use is the map's
grown_own : (pages : List (List ℕ)) (dir : ℕ) (m : PositionMap) (n : ℕ)
    → (n < length pages → kind_of (page_at pages n) ≡ FREE_KIND) → (q : ℕ) → q < length pages
    → kind_of (page_at pages q) ≢ FREE_KIND → IsOwn dir (record m { maps = m.maps ++ n ∷ [] }) q → IsOwn dir m q
grown_own pages dir m n free q below used (inl e) = inl e
grown_own pages dir m n free q below used (inr (k, low, is)) = by (cases_lt k (length m.maps))
  where
    by : (k < length m.maps) ⊎ (length m.maps ≤ k) → IsOwn dir m q
    by (inl old) = inr (k, old, is ∙ map_at_more m.maps n k old)
    by (inr new) =
        let last : k ≡ length m.maps = omega (arith, low, new, length-append m.maps (n ∷ [])) in
        let e : q ≡ n = is ∙ ap (λ (x : ℕ). get_or (m.maps ++ n ∷ []) x 0) last ∙ get_or-append_seam m.maps n [] 0 in
        absurd (used (ap (λ (x : ℕ). kind_of (page_at pages x)) e
        ∙ free (subst (λ (x : ℕ). x < length pages) e below)))

own_before : (pages : List (List ℕ)) (dir : ℕ) (m : PositionMap) (maps : List ℕ) → HasGrown m.maps maps pages
    → (q : ℕ) → q < length pages → kind_of (page_at pages q) ≢ FREE_KIND → IsOwn dir (record m { maps = maps }) q
    → IsOwn dir m q
own_before pages dir m maps (inl same) q below used own =
    subst (λ (x : List ℕ). IsOwn dir (record m { maps = x }) q) same own
own_before pages dir m maps (inr (n, is, free)) q below used own =
    grown_own pages dir m n free q below used (subst (λ (x : List ℕ). IsOwn dir (record m { maps = x }) q) is own)

pub grown_is : (pages mid : List (List ℕ)) (dir : ℕ) (m : PositionMap) (n : ℕ) (page : List ℕ)
    → IsPositionMap pages dir m → IsTaken m.owner MAP_KIND n pages mid → page ≡ page_at pages dir
    → length m.maps < MAX_MAP_PAGES
    → IsGrown dir m pages (set mid dir (patched (number_place (length m.maps)) (to_be_bytes w32 n)
    (patched 20 (to_be_bytes w32 (length m.maps + 1)) page)))
grown_is pages mid dir m n page i t is room =
    let content = patched (number_place (length m.maps)) (to_be_bytes w32 n)
    (patched 20 (to_be_bytes w32 (length m.maps + 1)) page) in
    let maps : List ℕ = m.maps ++ n ∷ [] in
    let long : length maps ≡ length m.maps + 1 = length-append m.maps (n ∷ []) in
    let content_is : content ≡ directory_page m.owner (length m.entries) m.current maps
    = ap (λ (x : List ℕ). patched (number_place (length m.maps)) (to_be_bytes w32 n)
    (patched 20 (to_be_bytes w32 (length m.maps + 1)) x)) (is ∙ i.directory)
    ∙ put_map m.owner (length m.entries) m.current n m.maps room in
    let used = used_dir pages dir m i in
    let aside : n ≢ dir = λ e. used (subst (λ (x : ℕ). kind_of (page_at pages x) ≡ FREE_KIND) e
    (t.was_free (subst (λ (x : ℕ). x < length pages) (sym e) i.below))) in
    let dir_stays : page_at mid dir ≡ page_at pages dir
    = t.others dir i.above i.below (λ e. aside (sym e)) used in
    let len = length-set mid dir content in
    let take = take_changes m.owner MAP_KIND n pages mid (λ e. absurd (omega (arith, e))) t in
    let write = write_changes (λ q. q ≡ dir) mid dir content i.above refl
    (λ e. used (subst (λ (x : List ℕ). kind_of x ≡ FREE_KIND) dir_stays e))
    (λ e. absurd (omega (
      arith,
      e,
      ap kind_of content_is,
      dir_kind m.owner (length m.entries) m.current maps,
    ))) in
    record {
      maps = maps;
      is = record {
        above = i.above;
        below = omega (arith, i.below, t.count, len);
        owned = i.owned;
        owner = i.owner;
        current = i.current;
        few = omega (arith, long, room);
        room = omega (arith, long, i.room);
        fits = i.fits;
        directory = get_or-set_same mid dir content [] (omega (arith, i.below, t.count)) ∙ content_is;
        map_above = λ k low. grown_each (λ p. 0 < p) m.maps n i.map_above t.above k (omega (arith, low, long));
        map_below = λ k low. grown_each (λ p. p < length (set mid dir content)) m.maps n
            (λ j old. omega (arith, i.map_below j old, t.count, len)) (omega (arith, t.count, len)) k
            (omega (arith, low, long));
        distinct = λ j k low high. grown_distinct pages dir m n i t.was_free j k low (omega (arith, high, long));
        maps = λ k low. grown_maps pages mid dir m n content i t i.room aside k (omega (arith, low, long))
            (cases_lt k (length m.maps));
      };
      room = omega (arith, long, i.room);
      changes = changes_then (IsOwn dir m) (λ q. q ≡ dir) 1 0 pages mid (set mid dir content)
          (widen (λ q. ⊥) (IsOwn dir m) 1 pages mid (λ q none. absurd none) take) write (λ q low below used e. inl e);
      grown = inr (n, refl, t.was_free);
    }

-- ---- a position more

-- where a map has room it is as if it had grown by nothing
pub has_grown : (pages : List (List ℕ)) (dir : ℕ) (m : PositionMap) → IsPositionMap pages dir m
    → length m.entries < MAP_ENTRIES * length m.maps → IsGrown dir m pages pages
has_grown pages dir m i room = record {
  maps = m.maps;
  is = i;
  room = room;
  changes = record {
    count = omega arith;
    others = λ q low below used other. refl;
    head = stays_head (page_at pages 0);
    listed = λ l. (l, omega arith);
  };
  grown = inl refl;
}

part_push_same : (entries : List Entry) (e : Entry)
    → part_of (length entries / MAP_ENTRIES) (entries ++ e ∷ [])
    ≡ part_of (length entries / MAP_ENTRIES) entries ++ e ∷ []
part_push_same entries e =
    let n = MAP_ENTRIES * (length entries / MAP_ENTRIES) in
    let rest = drop n entries in
    let short : length rest < MAP_ENTRIES = omega (arith, length-drop n entries) in
    ap (take MAP_ENTRIES) (drop-append-le n entries (e ∷ []) (omega arith))
    ∙ take_all MAP_ENTRIES (rest ++ e ∷ []) (omega (arith, length-append rest (e ∷ []), short))
    ∙ ap (λ (x : List Entry). x ++ e ∷ []) (sym (take_all MAP_ENTRIES rest (omega (arith, short))))
  where
    take_all : (n : ℕ) (xs : List Entry) → length xs ≤ n → take n xs ≡ xs
    take_all n [] low = take-nil n
    take_all zero (x ∷ xs) low = absurd (omega arith)
    take_all (suc n) (x ∷ xs) low = ap (λ (r : List Entry). x ∷ r) (take_all n xs (omega arith))

part_push_length : (entries : List Entry)
    → length (part_of (length entries / MAP_ENTRIES) entries) ≡ length entries % MAP_ENTRIES
part_push_length entries =
    let n = MAP_ENTRIES * (length entries / MAP_ENTRIES) in
    omega (arith, length-take MAP_ENTRIES (drop n entries), length-drop n entries)

part_push_other : (entries : List Entry) (e : Entry) (k : ℕ) → k ≢ length entries / MAP_ENTRIES
    → part_of k (entries ++ e ∷ []) ≡ part_of k entries
part_push_other entries e k other = by (cases_lt (length entries) (MAP_ENTRIES * k))
  where
    by : (length entries < MAP_ENTRIES * k) ⊎ (MAP_ENTRIES * k ≤ length entries)
        → part_of k (entries ++ e ∷ []) ≡ part_of k entries
    by (inl past) = no_part (entries ++ e ∷ []) k (omega (arith, past, length-append entries (e ∷ [])))
        ∙ sym (no_part entries k (omega (arith, past)))
    by (inr before) =
        let n = MAP_ENTRIES * k in
        ap (take MAP_ENTRIES) (drop-append-le n entries (e ∷ []) before)
        ∙ take-append-le MAP_ENTRIES (drop n entries) (e ∷ []) (omega (arith, other, before, length-drop n entries))

fits_push : (entries : List Entry) (e : Entry) → EntryFits e → ((j : ℕ) → EntryFits (get_or entries j no_entry))
    → (j : ℕ) → EntryFits (get_or (entries ++ e ∷ []) j no_entry)
fits_push [] e is all zero = is
fits_push [] e is all (suc j) = all j
fits_push (x ∷ xs) e is all zero = all 0
fits_push (x ∷ xs) e is all (suc j) = fits_push xs e is (λ i. all (suc i)) j

push_maps : (pages : List (List ℕ)) (dir : ℕ) (m : PositionMap) (e : Entry) (content other : List ℕ)
    → IsPositionMap pages dir m → length m.entries / MAP_ENTRIES < length m.maps
    → content ≡ map_page m.owner (part_of (length m.entries / MAP_ENTRIES) (m.entries ++ e ∷ []))
    → (j : ℕ) → j < length m.maps
    → (j ≡ length m.entries / MAP_ENTRIES) ⊎ (j ≡ length m.entries / MAP_ENTRIES → ⊥)
    → page_at (set (set pages (map_at m (length m.entries / MAP_ENTRIES)) content) dir other) (map_at m j)
    ≡ map_page m.owner (part_of j (m.entries ++ e ∷ []))
push_maps pages dir m e content other i has is j jlow (inl same) =
    let k = length m.entries / MAP_ENTRIES in
    ap (λ (x : ℕ). page_at (set (set pages (map_at m k) content) dir other) (map_at m x)) same
    ∙ get_or-set_other (set pages (map_at m k) content) dir (map_at m k) other [] (apart pages dir m k i has)
    ∙ get_or-set_same pages (map_at m k) content [] (i.map_below k has) ∙ is
    ∙ ap (λ (x : ℕ). map_page m.owner (part_of x (m.entries ++ e ∷ []))) (sym same)
push_maps pages dir m e content other i has is j jlow (inr aside) =
    let k = length m.entries / MAP_ENTRIES in
    get_or-set_other (set pages (map_at m k) content) dir (map_at m j) other [] (apart pages dir m j i jlow)
    ∙ get_or-set_other pages (map_at m k) (map_at m j) content [] (distinct_maps pages dir m j k i jlow has aside)
    ∙ i.maps j jlow ∙ ap (map_page m.owner) (sym (part_push_other m.entries e j aside))

pub appended : (pages : List (List ℕ)) (dir : ℕ) (m : PositionMap) (place : Place) (map page : List ℕ)
    → IsPositionMap pages dir m → length m.entries < MAP_ENTRIES * length m.maps
    → EntryFits (entry_for (Some place)) → map ≡ page_at pages (map_at m (length m.entries / MAP_ENTRIES))
    → page ≡ page_at pages dir
    → IsAppended dir m place pages (set (set pages (map_at m (length m.entries / MAP_ENTRIES))
    (patched (entry_place (length m.entries % MAP_ENTRIES)) (entry_bytes (entry_for (Some place))) map)) dir
    (patched 8 (to_be_bytes w64 (length m.entries + 1)) page))
appended pages dir m place map page i room fits map_is page_is =
    let e = entry_for (Some place) in
    let k = length m.entries / MAP_ENTRIES in
    let n = map_at m k in
    let has : k < length m.maps = omega (arith, room) in
    let content = patched (entry_place (length m.entries % MAP_ENTRIES)) (entry_bytes e) map in
    let other = patched 8 (to_be_bytes w64 (length m.entries + 1)) page in
    let mid = set pages n content in
    let after = set mid dir other in
    let long : length (m.entries ++ e ∷ []) ≡ length m.entries + 1 = length-append m.entries (e ∷ []) in
    let content_is : content ≡ map_page m.owner (part_of k (m.entries ++ e ∷ []))
    = ap (patched (entry_place (length m.entries % MAP_ENTRIES)) (entry_bytes e)) (map_is ∙ i.maps k has)
    ∙ ap (λ (x : ℕ). patched (entry_place x) (entry_bytes e) (map_page m.owner (part_of k m.entries)))
    (sym (part_push_length m.entries))
    ∙ push_entry m.owner (part_of k m.entries) e (omega (arith, part_push_length m.entries))
    ∙ ap (map_page m.owner) (sym (part_push_same m.entries e)) in
    let other_is : other ≡ directory_page m.owner (length (m.entries ++ e ∷ [])) m.current m.maps
    = ap (patched 8 (to_be_bytes w64 (length m.entries + 1))) (page_is ∙ i.directory)
    ∙ put_next m.owner (length m.entries) m.current (length m.entries + 1) m.maps
    ∙ ap (λ (x : ℕ). directory_page m.owner x m.current m.maps) (sym long) in
    let l1 = length-set pages n content in
    let l2 = length-set mid dir other in
    let dir_stays : page_at mid dir ≡ page_at pages dir
    = get_or-set_other pages n dir content [] (λ x. apart pages dir m k i has (sym x)) in
    let first = write_changes (IsOwn dir m) pages n content (i.map_above k has) (is_own_map dir m k has)
    (λ x. absurd (omega (arith, x, used_map pages dir m k i has)))
    (λ x. absurd (omega (arith, x, ap kind_of content_is, map_kind m.owner (part_of k (m.entries ++ e ∷ []))))) in
    let second = write_changes (IsOwn dir m) mid dir other i.above (inl refl)
    (λ x. used_dir pages dir m i (subst (λ (y : List ℕ). kind_of y ≡ FREE_KIND) dir_stays x))
    (λ x. absurd (omega (
      arith,
      x,
      ap kind_of other_is,
      dir_kind m.owner (length (m.entries ++ e ∷ [])) m.current m.maps,
    ))) in
    record {
      is = record {
        above = i.above;
        below = omega (arith, i.below, l1, l2);
        owned = i.owned;
        owner = i.owner;
        current = i.current;
        few = i.few;
        room = omega (arith, room, long);
        fits = fits_push m.entries e fits i.fits;
        directory = get_or-set_same mid dir other [] (omega (arith, i.below, l1)) ∙ other_is;
        map_above = i.map_above;
        map_below = λ j jlow. omega (arith, i.map_below j jlow, l1, l2);
        distinct = i.distinct;
        maps = λ j jlow. push_maps pages dir m e content other i has content_is j jlow (cases_eq j k);
      };
      changes = changes_then (IsOwn dir m) (IsOwn dir m) 0 0 pages mid after first second (λ q low below used own. own);
    }

-- where a map grows by nothing or a page and a position is pushed then, it was pushed
pub pushed : (pages mid after : List (List ℕ)) (dir : ℕ) (m : PositionMap) (place : Place)
    → (g : IsGrown dir m pages mid) → IsAppended dir (record m { maps = g.maps }) place mid after
    → IsPushed dir m place pages after
pushed pages mid after dir m place g a = record {
  maps = g.maps;
  is = a.is;
  grown = g.grown;
  changes = changes_then (IsOwn dir m) (IsOwn dir (record m { maps = g.maps })) 1 0 pages mid after g.changes a.changes
      (λ q low below used own. own_before pages dir m g.maps g.grown q below used own);
}
