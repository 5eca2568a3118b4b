-- What is read from a directory page and a map page as they are spelled, and how they are spelled after a write.
use Rattle.std.proofs.Common.{◌≡◌, ℕ, suc, ◌+◌, ◌-◌, ◌*◌, ◌^◌, ◌<◌, ◌≤◌, ◌==◌, Bool, true, false, cond, ◌||◌}
use Rattle.std.proofs.Common.{List, [], ◌∷◌, ◌++◌, length, take, drop, set, replicate, get_or, flat_map, refl, sym}
use Rattle.std.proofs.Common.{ap, subst, ◌∙◌, add-zero, arith}
use Rattle.std.specs.Int.{w16, w32, w64, to_be_bytes, from_be_bytes}
use Rattle.std.proofs.lemmas.Nat.{from_be_bytes-to_be_bytes_2, from_be_bytes-to_be_bytes_4, from_be_bytes-to_be_bytes_8}
use Rattle.std.proofs.lemmas.List.{append_assoc, length-append, length-take-le, get_or-drop, drop-drop}
use Rattle.std.proofs.Math.Seq.{drop-append_seam}
use Rattle.ori_bytes.specs.declared.limits.TheConstants.{DIRECTORY_KIND, MAP_KIND, PAGE_BYTES, MAP_ENTRIES}
use Rattle.ori_bytes.specs.declared.limits.TheConstants.{MAX_MAP_PAGES}
use Rattle.ori_page.specs.Pages.{filled, page_head, owner_of, kind_of, number_at}
use Rattle.ori_posmap.specs.declared.place.Entry.{Entry}
use Rattle.ori_posmap.specs.declared.place.TheConstants.{LIVE, GONE}
use Rattle.ori_posmap.specs.Bytes.{entry_bytes, patched, directory_page, map_page, next_on, current_on, map_count_on}
use Rattle.ori_posmap.specs.Bytes.{number_place, entry_place, is_given, entry_on}
use Rattle.ori_posmap.specs.Maps.{no_entry, EntryFits}
use Rattle.ori_posmap.proofs.Pieces.{split_at, split_set, pieces_length, push_piece, patched_filled, patched_end}

-- what stands from a place on
drop_filled : (at : ℕ) (front a b : List ℕ) → front ≡ a ++ b → length a ≡ at
    → drop at (filled front) ≡ b ++ replicate (PAGE_BYTES - length front) 0
drop_filled at front a b is place =
    let zeros = replicate (PAGE_BYTES - length front) 0 in
    ap (λ (x : List ℕ). drop at (x ++ zeros)) is ∙ ap (drop at) (append_assoc a b zeros)
    ∙ subst (λ (n : ℕ). drop n (a ++ (b ++ zeros)) ≡ b ++ zeros) place (drop-append_seam a (b ++ zeros))

-- ---- a directory page

-- its first 24 bytes
abbrev dir_front : ℕ → ℕ → ℕ → ℕ → List ℕ
dir_front owner next current count =
    page_head owner DIRECTORY_KIND ++ to_be_bytes w64 next ++ to_be_bytes w32 current ++ to_be_bytes w32 count

abbrev number : ℕ → List ℕ
number n = to_be_bytes w32 n

number_length : (n : ℕ) → length (number n) ≡ 4
number_length n = refl

pub record DirReads (owner next current : ℕ) (maps page : List ℕ) : Type 0 where
  pub owner_is : owner_of page ≡ owner
  pub kind_is : kind_of page ≡ DIRECTORY_KIND
  pub next_is : next_on page ≡ next
  pub current_is : current_on page ≡ current
  pub count_is : map_count_on page ≡ length maps

pub dir_reads : (owner next current : ℕ) (maps : List ℕ) → owner < 2 ^ 32 → next < 2 ^ 64 → current < 2 ^ 32
    → length maps < 2 ^ 32 → DirReads owner next current maps (directory_page owner next current maps)
unfolding directory_page
dir_reads owner next current maps o n c l = record {
  owner_is = from_be_bytes-to_be_bytes_4 owner o;
  kind_is = refl;
  next_is = from_be_bytes-to_be_bytes_8 next n;
  current_is = from_be_bytes-to_be_bytes_4 current c;
  count_is = from_be_bytes-to_be_bytes_4 (length maps) l;
}

-- the numbers before the k-th take so many bytes
before_length : {X : Type 0} (f : X → List ℕ) (w : ℕ) (each : (x : X) → length (f x) ≡ w) (xs : List X) (k : ℕ)
    → k ≤ length xs → length (flat_map f (take k xs)) ≡ w * k
before_length f w each xs k low =
    pieces_length f w each (take k xs) ∙ ap (λ (n : ℕ). w * n) (length-take-le k xs low)

pub number_read : (owner next current : ℕ) (maps : List ℕ) (k : ℕ) → k < length maps → get_or maps k 0 < 2 ^ 32
    → number_at (number_place k) (directory_page owner next current maps) ≡ get_or maps k 0
unfolding directory_page
number_read owner next current maps k low fits =
    let front = dir_front owner next current (length maps) in
    let a = front ++ flat_map number (take k maps) in
    let rest = flat_map number (drop (suc k) maps) in
    let b = number (get_or maps k 0) ++ rest in
    let is : front ++ flat_map number maps ≡ a ++ b
    = ap (λ (x : List ℕ). front ++ x) (split_at number maps k 0 low)
    ∙ sym (append_assoc front (flat_map number (take k maps)) b) in
    let place : length a ≡ number_place k
    = length-append front (flat_map number (take k maps))
    ∙ ap (λ (n : ℕ). 24 + n) (before_length number 4 number_length maps k (omega arith)) in
    ap (from_be_bytes w32) (drop_filled (number_place k) (front ++ flat_map number maps) a b is place)
    ∙ from_be_bytes-to_be_bytes_4 (get_or maps k 0) fits

pub put_next : (owner next current new : ℕ) (maps : List ℕ)
    → patched 8 (to_be_bytes w64 new) (directory_page owner next current maps) ≡ directory_page owner new current maps
unfolding directory_page
put_next owner next current new maps =
    patched_filled 8 (to_be_bytes w64 new) (dir_front owner next current (length maps) ++ flat_map number maps)
    (page_head owner DIRECTORY_KIND) (to_be_bytes w64 next)
    (number current ++ number (length maps) ++ flat_map number maps)
    refl refl refl

pub put_current : (owner next current new : ℕ) (maps : List ℕ)
    → patched 16 (to_be_bytes w32 new) (directory_page owner next current maps) ≡ directory_page owner next new maps
unfolding directory_page
put_current owner next current new maps =
    patched_filled 16 (number new) (dir_front owner next current (length maps) ++ flat_map number maps)
    (page_head owner DIRECTORY_KIND ++ to_be_bytes w64 next) (number current)
    (number (length maps) ++ flat_map number maps)
    refl refl refl

pub put_map : (owner next current new : ℕ) (maps : List ℕ) → length maps < MAX_MAP_PAGES
    → patched (number_place (length maps)) (to_be_bytes w32 new)
    (patched 20 (to_be_bytes w32 (length maps + 1)) (directory_page owner next current maps))
    ≡ directory_page owner next current (maps ++ new ∷ [])
unfolding directory_page
put_map owner next current new maps room =
    let count = length maps in
    let front = dir_front owner next current (count + 1) ++ flat_map number maps in
    let first : patched 20 (number (count + 1)) (filled (dir_front owner next current count ++ flat_map number maps))
    ≡ filled front
    = patched_filled 20 (number (count + 1)) (dir_front owner next current count ++ flat_map number maps)
    (page_head owner DIRECTORY_KIND ++ to_be_bytes w64 next ++ number current) (number count) (flat_map number maps)
    refl refl refl in
    let long : length front ≡ number_place count
    = length-append (dir_front owner next current (count + 1)) (flat_map number maps)
    ∙ ap (λ (n : ℕ). 24 + n) (pieces_length number 4 number_length maps) in
    ap (patched (number_place count) (number new)) first
    ∙ patched_end (number_place count) (number new) front long (omega arith)
    ∙ ap filled (append_assoc (dir_front owner next current (count + 1)) (flat_map number maps) (number new)
    ∙ ap (λ (x : List ℕ). dir_front owner next current (count + 1) ++ x) (sym (push_piece number maps new))
    ∙ ap (λ (n : ℕ). dir_front owner next current n ++ flat_map number (maps ++ new ∷ []))
    (sym (length-append maps (new ∷ []))))

-- ---- a map page

pub map_reads : (owner : ℕ) (entries : List Entry) → owner < 2 ^ 32 → owner_of (map_page owner entries) ≡ owner
unfolding map_page
map_reads owner entries fits = from_be_bytes-to_be_bytes_4 owner fits

pub map_kind : (owner : ℕ) (entries : List Entry) → kind_of (map_page owner entries) ≡ MAP_KIND
unfolding map_page
map_kind owner entries = refl

entry_length : (e : Entry) → length (entry_bytes e) ≡ 16
entry_length e = refl

-- the state reads as the entry's
state_reads : (live : Bool) → (cond live LIVE GONE == LIVE) ≡ live
state_reads true = refl
state_reads false = refl

state_given : (live : Bool) → ((cond live LIVE GONE == LIVE) || (cond live LIVE GONE == GONE)) ≡ true
state_given true = refl
state_given false = refl

entry_same : (e : Entry) (live : Bool) (page slot bytes : ℕ) → live ≡ e.live → page ≡ e.place.page
    → slot ≡ e.place.slot → bytes ≡ e.place.bytes
    → record { live = live; place = record { page = page; slot = slot; bytes = bytes } } ≡ e
entry_same e live page slot bytes l p s b =
    ap (λ (x : Bool). record { live = x; place = record { page = page; slot = slot; bytes = bytes } }) l
    ∙ ap (λ (x : ℕ). record { live = e.live; place = record { page = x; slot = slot; bytes = bytes } }) p
    ∙ ap (λ (x : ℕ). record { live = e.live; place = record { page = e.place.page; slot = x; bytes = bytes } }) s
    ∙ ap (λ (x : ℕ). record { live = e.live; place = record { page = e.place.page; slot = e.place.slot; bytes = x } }) b

pub record EntryReads (e : Entry) (i : ℕ) (page : List ℕ) : Type 0 where
  pub given : is_given i page ≡ true
  pub entry : entry_on i page ≡ e

reads_from : (e : Entry) (i : ℕ) (page rest : List ℕ) → EntryFits e
    → drop (entry_place i) page ≡ entry_bytes e ++ rest → EntryReads e i page
reads_from e i page rest fits is =
    let at = entry_place i in
    let state : get_or page at 0 ≡ cond e.live LIVE GONE
    = ap (λ (n : ℕ). get_or page n 0) (sym (add-zero at)) ∙ sym (get_or-drop at page 0 0)
    ∙ ap (λ (x : List ℕ). get_or x 0 0) is in
    let from : (n : ℕ) → drop (at + n) page ≡ drop n (entry_bytes e ++ rest)
    = λ n. sym (drop-drop n at page) ∙ ap (drop n) is in
    record {
      given = ap (λ (x : ℕ). (x == LIVE) || (x == GONE)) state ∙ state_given e.live;
      entry = entry_same e _ _ _ _ (ap (λ (x : ℕ). x == LIVE) state ∙ state_reads e.live)
          (ap (from_be_bytes w32) (from 4) ∙ from_be_bytes-to_be_bytes_4 e.place.page fits.page)
          (ap (from_be_bytes w16) (from 2) ∙ from_be_bytes-to_be_bytes_2 e.place.slot fits.slot)
          (ap (from_be_bytes w32) (from 8) ∙ from_be_bytes-to_be_bytes_4 e.place.bytes fits.bytes);
    }

pub entry_reads : (owner : ℕ) (entries : List Entry) (i : ℕ) → i < length entries
    → EntryFits (get_or entries i no_entry) → EntryReads (get_or entries i no_entry) i (map_page owner entries)
unfolding map_page
entry_reads owner entries i low fits =
    let head = page_head owner MAP_KIND in
    let a = head ++ flat_map entry_bytes (take i entries) in
    let rest = flat_map entry_bytes (drop (suc i) entries) in
    let e = get_or entries i no_entry in
    let front = head ++ flat_map entry_bytes entries in
    let is : front ≡ a ++ (entry_bytes e ++ rest)
    = ap (λ (x : List ℕ). head ++ x) (split_at entry_bytes entries i no_entry low)
    ∙ sym (append_assoc head (flat_map entry_bytes (take i entries)) (entry_bytes e ++ rest)) in
    let place : length a ≡ entry_place i
    = length-append head (flat_map entry_bytes (take i entries))
    ∙ ap (λ (n : ℕ). 8 + n) (before_length entry_bytes 16 entry_length entries i (omega arith)) in
    let zeros = replicate (PAGE_BYTES - length front) 0 in
    reads_from e i (filled front) (rest ++ zeros) fits
    (drop_filled (entry_place i) front a (entry_bytes e ++ rest) is place ∙ append_assoc (entry_bytes e) rest zeros)

pub put_entry : (owner : ℕ) (entries : List Entry) (i : ℕ) (e : Entry) → i < length entries
    → patched (entry_place i) (entry_bytes e) (map_page owner entries) ≡ map_page owner (set entries i e)
unfolding map_page
put_entry owner entries i e low =
    let head = page_head owner MAP_KIND in
    let before = flat_map entry_bytes (take i entries) in
    let a = head ++ before in
    let rest = flat_map entry_bytes (drop (suc i) entries) in
    let old = entry_bytes (get_or entries i no_entry) in
    let is : head ++ flat_map entry_bytes entries ≡ a ++ (old ++ rest)
    = ap (λ (x : List ℕ). head ++ x) (split_at entry_bytes entries i no_entry low)
    ∙ sym (append_assoc head before (old ++ rest)) in
    let place : length a ≡ entry_place i
    = length-append head before
    ∙ ap (λ (n : ℕ). 8 + n) (before_length entry_bytes 16 entry_length entries i (omega arith)) in
    patched_filled (entry_place i) (entry_bytes e) (head ++ flat_map entry_bytes entries) a old rest is place refl
    ∙ ap filled (append_assoc head before (entry_bytes e ++ rest)
    ∙ ap (λ (x : List ℕ). head ++ x) (sym (split_set entry_bytes entries i e no_entry low)))

pub push_entry : (owner : ℕ) (entries : List Entry) (e : Entry) → length entries < MAP_ENTRIES
    → patched (entry_place (length entries)) (entry_bytes e) (map_page owner entries)
    ≡ map_page owner (entries ++ e ∷ [])
unfolding map_page
push_entry owner entries e room =
    let head = page_head owner MAP_KIND in
    let front = head ++ flat_map entry_bytes entries in
    let long : length front ≡ entry_place (length entries)
    = length-append head (flat_map entry_bytes entries)
    ∙ ap (λ (n : ℕ). 8 + n) (pieces_length entry_bytes 16 entry_length entries) in
    patched_end (entry_place (length entries)) (entry_bytes e) front long (omega arith)
    ∙ ap filled (append_assoc head (flat_map entry_bytes entries) (entry_bytes e)
    ∙ ap (λ (x : List ℕ). head ++ x) (sym (push_piece entry_bytes entries e)))
