-- A cluster on whose slots pages stands a chain of chunks more, which belongs to no position.
use Rattle.std.specs.Prelude.{◌≡◌, ◌≢◌, ◌⊎◌, ℕ, ◌<◌, true, Some, List, length, slice_get, slice_index}
use Rattle.ori_page.specs.Spaces.{page_at}
use Rattle.ori_posmap.specs.declared.place.Place.{Place}
use Rattle.ori_posmap.specs.Maps.{place_at, IsPositionMap}
use Rattle.ori_cluster.specs.declared.chunk.Link.{Link}
use Rattle.ori_cluster.specs.Slots.{Spot, IsSlotsPage, has_chunk, Links}
use Rattle.ori_cluster.specs.Clusters.{Cluster, IsRecord, IsData, IsChunkOf}

-- As IsCluster, but each chunk is on one chain of a live position, or on the loose one.
pub record IsStaged (pages : List (List ℕ)) (dir : ℕ) (c : Cluster) (loose : List Spot) (link : Link)
    (bytes : List ℕ) : Type 0 where
  pub map : IsPositionMap pages dir c.map
  pub records : (q : ℕ) (place : Place) → place_at c.map q ≡ Some place
      → IsRecord pages c.map.owner place (c.chains q) (c.records q)
  pub links : Links pages c.map.owner loose link.page link.slot bytes
  pub above : (p : ℕ) → IsData c p → 0 < p
  pub below : (p : ℕ) → IsData c p → p < length pages
  pub slots : (p : ℕ) → IsData c p → IsSlotsPage c.map.owner (page_at pages p)
  pub distinct : (j k : ℕ) → j < k → k < length c.data_pages
      → slice_index c.data_pages j ≢ slice_index c.data_pages k
  pub inside : (q i : ℕ) (spot : Spot) → IsChunkOf c q i spot → IsData c spot.page
  pub loose_inside : (i : ℕ) (spot : Spot) → slice_get loose i ≡ Some spot → IsData c spot.page
  pub each : (spot : Spot) → IsData c spot.page → has_chunk spot.slot (page_at pages spot.page) ≡ true
      → ((q : ℕ) × (i : ℕ) × IsChunkOf c q i spot) ⊎ ((i : ℕ) × (slice_get loose i ≡ Some spot))
  pub once : (q r i j : ℕ) (spot : Spot) → IsChunkOf c q i spot → IsChunkOf c r j spot → (q ≡ r) × (i ≡ j)
  pub loose_once : (i j : ℕ) (spot : Spot) → slice_get loose i ≡ Some spot → slice_get loose j ≡ Some spot → i ≡ j
  pub apart : (q i j : ℕ) (spot : Spot) → IsChunkOf c q i spot → slice_get loose j ≡ Some spot → ⊥
  pub current : (c.map.current ≡ 0) ⊎ IsData c c.map.current
  pub bare : (p : ℕ) → IsData c p → p ≢ c.map.current → (s : ℕ) × (has_chunk s (page_at pages p) ≡ true)
