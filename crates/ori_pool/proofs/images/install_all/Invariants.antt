use Rattle.std.proofs.Common.{◌≡◌, ℕ, map}
use Rattle.ori_log.specs.Images.{image_data}
use Rattle.ori_cover.specs.Dirty.{Dirty, AreInstalled}
use Rattle.ori_pool.specs.Held.{in_place, dirty_with, SamePlaces, HaveFrom}
use Rattle.ori_pool.proofs.images.install_all.Given as goal

-- so many images are installed
abbrev pub invariant-loop-image : goal.invariant-loop-image
invariant-loop-image l = record {
  places : (q : ℕ) → in_place l.hand.parts.items q ≡ in_place l.fn.hand.parts.items q;
  slots : SamePlaces l.fn.hand.parts.items l.hand.parts.items;
  installed : (others : Dirty) → AreInstalled (map image_data l.yielded) (dirty_with others l.fn.hand.parts.items)
      (dirty_with others l.hand.parts.items);
  contents : HaveFrom (map image_data l.yielded) l.fn.hand.parts.items l.hand.parts.items;
}
