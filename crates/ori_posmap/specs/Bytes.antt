-- How a directory page and its map pages are spelled, and what is read from their bytes.
use Rattle.std.specs.Prelude.{ℕ, ◌+◌, ◌*◌, ◌/◌, ◌==◌, Bool, not, ◌&&◌, ◌||◌, nat_le, if◌then◌else◌, List, ◌∷◌, ◌++◌}
use Rattle.std.specs.Prelude.{length, take, drop, slice_index, flat_map}
use Rattle.std.specs.Int.{w16, w32, w64, to_be_bytes, from_be_bytes}
use Rattle.ori_bytes.specs.declared.limits.TheConstants.{DIRECTORY_KIND, MAP_KIND, MAP_ENTRIES, MAX_MAP_PAGES}
use Rattle.ori_page.specs.Pages.{filled, page_head, owner_of, kind_of, number_at}
use Rattle.ori_posmap.specs.declared.place.Entry.{Entry}
use Rattle.ori_posmap.specs.declared.place.TheConstants.{LIVE, GONE}

-- a state, 0, the slot, the page, how many bytes, and four zero bytes
abbrev pub entry_bytes : Entry → List ℕ
entry_bytes entry = (if entry.live then LIVE else GONE) ∷ 0 ∷ to_be_bytes w16 entry.place.slot
    ++ to_be_bytes w32 entry.place.page ++ to_be_bytes w32 entry.place.bytes ++ to_be_bytes w32 0

-- Bytes from a place on are these.
abbrev pub patched : ℕ → List ℕ → List ℕ → List ℕ
patched at bytes page = take at page ++ bytes ++ drop (at + length bytes) page

-- ---- pages

-- the next position, the current data page, the number of map pages, and their numbers
unfoldable pub directory_page : ℕ → ℕ → ℕ → List ℕ → List ℕ
directory_page owner next current maps = filled (page_head owner DIRECTORY_KIND ++ to_be_bytes w64 next
    ++ to_be_bytes w32 current ++ to_be_bytes w32 (length maps) ++ flat_map (to_be_bytes w32) maps)

-- the entries of up to 250 positions; zeros follow, for those that were never given
unfoldable pub map_page : ℕ → List Entry → List ℕ
map_page owner entries = filled (page_head owner MAP_KIND ++ flat_map entry_bytes entries)

-- ---- what is read

abbrev pub next_on : List ℕ → ℕ
next_on page = from_be_bytes w64 (drop 8 page)

abbrev pub current_on : List ℕ → ℕ
current_on page = number_at 16 page

abbrev pub map_count_on : List ℕ → ℕ
map_count_on page = number_at 20 page

-- where the number of a map page stands, and where an entry does
abbrev pub number_place : ℕ → ℕ
number_place k = 24 + 4 * k

abbrev pub entry_place : ℕ → ℕ
entry_place i = 8 + 16 * i

-- the number of the map page that has the next position
abbrev pub next_map_on : List ℕ → ℕ
next_map_on page = number_at (number_place (next_on page / MAP_ENTRIES)) page

-- a directory page of some owner, with no more positions than its map pages have
abbrev pub is_directory : List ℕ → Bool
is_directory page = not (owner_of page == 0) && (kind_of page == DIRECTORY_KIND)
    && nat_le (map_count_on page) MAX_MAP_PAGES && nat_le (next_on page) (MAP_ENTRIES * map_count_on page)

abbrev pub is_map : ℕ → List ℕ → Bool
is_map owner page = (owner_of page == owner) && (kind_of page == MAP_KIND)

-- the entry is of a position that was given
abbrev pub is_given : ℕ → List ℕ → Bool
is_given i page = (slice_index page (entry_place i) == LIVE) || (slice_index page (entry_place i) == GONE)

abbrev pub entry_on : ℕ → List ℕ → Entry
entry_on i page = record {
  live = slice_index page (entry_place i) == LIVE;
  place = record {
    page = number_at (entry_place i + 4) page;
    slot = from_be_bytes w16 (drop (entry_place i + 2) page);
    bytes = number_at (entry_place i + 8) page;
  };
}

-- the entry reads as that of a live position
abbrev pub is_live : ℕ → List ℕ → Bool
is_live i page = slice_index page (entry_place i) == LIVE
