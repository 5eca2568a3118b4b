use Rattle.std.proofs.Common.{◌≡◌, ◌<◌, ℕ, true, map, is_some, get_or}
use Rattle.ori_log.specs.Images.{image_data}
use Rattle.ori_cover.specs.Dirty.{Dirty}
use Rattle.ori_pool.specs.Held.{held_at, in_place, dirty_with, image_pages, AreOwn, HaveNoMore}
use Rattle.ori_pool.proofs.images.reserve_all.Given as goal

-- so many pages have places, and no dirty page has changed
abbrev pub invariant-loop-image : goal.invariant-loop-image
invariant-loop-image l = record {
  places : (k : ℕ) → k < l.image-index
      → in_place l.hand.parts.items (get_or (image_pages (map image_data l.images)) k 0) ≡ true;
  held : (q : ℕ) → is_some (held_at l.hand.parts.items q) ≡ is_some (held_at l.fn.hand.parts.items q);
  own : AreOwn l.fn.hand.parts.items → AreOwn l.hand.parts.items;
  dirty : (others : Dirty) (q : ℕ)
      → dirty_with others l.hand.parts.items q ≡ dirty_with others l.fn.hand.parts.items q;
  contents : HaveNoMore l.fn.hand.parts.items l.hand.parts.items;
}
