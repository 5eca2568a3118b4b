-- What a sink was given of a text.
use Rattle.std.specs.Prelude.{◌≡◌, ℕ, List, ◌++◌, Option}
use Rattle.ori_volume.specs.Streams.{Gave}

-- a part from the front of a text was given
pub record GavePart (taken_old taken_new : Option (List ℕ)) (text : List ℕ) : Type 0 where
  pub part : List ℕ
  pub left : List ℕ
  pub parts : text ≡ part ++ left
  pub gave : Gave taken_old taken_new part
