-- What a position map and the slots pages of a cluster keep where other pages change.
use Rattle.std.proofs.Common.{◌≡◌, ◌≢◌, inl, inr, ℕ, ◌<◌, ◌≤◌, List, length, refl, sym, ap, subst, ◌∙◌, arith}
use Rattle.ori_bytes.specs.declared.limits.TheConstants.{FREE_KIND, DIRECTORY_KIND, MAP_KIND, SLOTS_KIND}
use Rattle.ori_page.specs.Pages.{kind_of}
use Rattle.ori_page.specs.Spaces.{page_at}
use Rattle.ori_posmap.specs.Maps.{PositionMap, map_at, part_of, IsPositionMap, IsOwn, ChangesOwn}
use Rattle.ori_posmap.proofs.Mapping.{dir_is}
use Rattle.ori_posmap.proofs.Spelling.{map_kind}

-- a page of a map is in use, and no slots page
pub record IsMapPage (pages : List (List ℕ)) (q : ℕ) : Type 0 where
  pub above : 0 < q
  pub below : q < length pages
  pub used : kind_of (page_at pages q) ≢ FREE_KIND
  pub apart : kind_of (page_at pages q) ≢ SLOTS_KIND

pub own_page : (pages : List (List ℕ)) (dir : ℕ) (m : PositionMap) (q : ℕ) → IsPositionMap pages dir m → IsOwn dir m q
    → IsMapPage pages q
own_page pages dir m q i (inl e) =
    let kind : kind_of (page_at pages dir) ≡ DIRECTORY_KIND = (dir_is pages dir m i).kind_is in
    let is : IsMapPage pages dir = record {
      above = i.above;
      below = i.below;
      used = λ x. absurd (omega (arith, x, kind));
      apart = λ x. absurd (omega (arith, x, kind));
    } in
    subst (IsMapPage pages) (sym e) is
own_page pages dir m q i (inr (k, low, e)) =
    let kind : kind_of (page_at pages (map_at m k)) ≡ MAP_KIND
    = ap kind_of (i.maps k low) ∙ map_kind m.owner (part_of k m.entries) in
    let is : IsMapPage pages (map_at m k) = record {
      above = i.map_above k low;
      below = i.map_below k low;
      used = λ x. absurd (omega (arith, x, kind));
      apart = λ x. absurd (omega (arith, x, kind));
    } in
    subst (IsMapPage pages) (sym e) is

pub map_kept : (before after : List (List ℕ)) (dir : ℕ) (m : PositionMap) → IsPositionMap before dir m
    → length before ≤ length after → ((q : ℕ) → IsOwn dir m q → page_at after q ≡ page_at before q)
    → IsPositionMap after dir m
map_kept before after dir m i more same = record {
  above = i.above;
  below = omega (arith, i.below, more);
  owned = i.owned;
  owner = i.owner;
  current = i.current;
  few = i.few;
  room = i.room;
  fits = i.fits;
  directory = same dir (inl refl) ∙ i.directory;
  map_above = i.map_above;
  map_below = λ k low. omega (arith, i.map_below k low, more);
  distinct = i.distinct;
  maps = λ k low. same (map_at m k) (inr (k, low, refl)) ∙ i.maps k low;
}

-- the map stays where only slots pages change, and pages that were free
pub map_stays : (Own : ℕ → Type 0) (n : ℕ) (before after : List (List ℕ)) (dir : ℕ) (m : PositionMap)
    → IsPositionMap before dir m → ChangesOwn Own n before after
    → ((q : ℕ) → Own q → kind_of (page_at before q) ≡ SLOTS_KIND) → IsPositionMap after dir m
map_stays Own n before after dir m i c slots =
    map_kept before after dir m i c.count
    (λ q own. let x = own_page before dir m q i own in
    c.others q x.above x.below x.used (λ o. x.apart (slots q o)))

-- a call that takes at most so many pages takes at most more
pub more_changes : (Own : ℕ → Type 0) (m n : ℕ) (before after : List (List ℕ)) → m ≤ n
    → ChangesOwn Own m before after → ChangesOwn Own n before after
more_changes Own m n before after more c = record {
  count = c.count;
  others = c.others;
  head = c.head;
  listed = λ l. let x = c.listed l in (x.0, omega (arith, x.1, more));
}
