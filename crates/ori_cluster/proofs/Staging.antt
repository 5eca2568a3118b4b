-- What stays of chains where pages change.
use Rattle.std.proofs.Common.{◌≡◌, ℕ, ◌++◌, ◌≤◌, true, List, [], ◌∷◌, length, sym, ap, subst, ◌∙◌, arith}
use Rattle.ori_page.specs.Spaces.{page_at}
use Rattle.ori_cluster.specs.Slots.{Spot, Chunk, chunk_at, is_slots, HasChunk, Links, KeepsChunk}

-- the page of a chunk is still a slots page, and keeps the chunk
pub record KeepsSpot (owner : ℕ) (spot : Spot) (old new : List (List ℕ)) : Type 0 where
  pub page : is_slots owner (page_at new spot.page) ≡ true
  pub chunk : KeepsChunk spot.slot (page_at old spot.page) (page_at new spot.page)

abbrev pub KeepsAll : ℕ → List Spot → List (List ℕ) → List (List ℕ) → Type 0
KeepsAll owner [] old new = Unit {0}
KeepsAll owner (spot ∷ rest) old new = KeepsSpot owner spot old new × KeepsAll owner rest old new

links_as : (pages : List (List ℕ)) (owner : ℕ) (chain : List Spot) (x y : Chunk) (later : List ℕ) → x ≡ y
    → Links pages owner chain x.page x.slot later → Links pages owner chain y.page y.slot later
links_as pages owner chain x y later is h = subst (λ (z : Chunk). Links pages owner chain z.page z.slot later) is h

pub links_kept : (old new : List (List ℕ)) (owner : ℕ) (chain : List Spot) (p s : ℕ) (bytes : List ℕ)
    → length old ≤ length new → KeepsAll owner chain old new → Links old owner chain p s bytes
    → Links new owner chain p s bytes
links_kept old new owner [] p s bytes more k h = h
links_kept old new owner (spot ∷ rest) p s bytes more k h =
    let x = h.2 in
    let l = h.3 in
    let says : chunk_at new spot ≡ chunk_at old spot = k.0.chunk.says x.chunk in
    let has : HasChunk new owner spot = record {
      above = x.above;
      below = omega (arith, x.below, more);
      page = k.0.page;
      chunk = k.0.chunk.has ∙ x.chunk;
    } in
    let later = links_kept old new owner rest (chunk_at old spot).page (chunk_at old spot).slot l.0 more k.1 l.2 in (
      h.0,
      h.1,
      has,
      (
        l.0,
        l.1 ∙ ap (λ (z : Chunk). z.bytes ++ l.0) (sym says),
        links_as new owner rest (chunk_at old spot) (chunk_at new spot) l.0 (sym says) later,
      ),
    )
