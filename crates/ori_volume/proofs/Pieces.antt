-- What is taken from a source, or given to a sink, in several calls is as if in one.
use Rattle.std.proofs.Common.{◌≡◌, List, [], ◌++◌, ℕ, Option, Some, None, refl, sym, ◌∙◌, ap, append_assoc, append-nil}
use Rattle.std.proofs.Common.{length, take, drop, ◌≤◌, take_at, take-append-drop, length-take-le, take_all, length-drop}
use Rattle.std.proofs.Common.{drop-drop, arith, min, ◌-◌, ◌+◌}
use Rattle.ori_volume.specs.Streams.{Took, Gave}

pub took_nothing : (left : Option (List ℕ)) → Took left left []
took_nothing None = refl
took_nothing (Some xs) = (xs, refl, refl)

pub took_more : (a b c : Option (List ℕ)) (xs ys : List ℕ) → Took a b xs → Took b c ys → Took a c (xs ++ ys)
took_more None None c xs ys first second = second
took_more None (Some bs) c xs ys first second = cc
took_more (Some xs0) None c xs ys first second = absurd (cc (first.2))
took_more (Some xs0) (Some bs) c xs ys first second =
    let same : bs ≡ first.0 = cc (first.2) in (
      second.0,
      first.1 ∙ ap (λ (l : List ℕ). xs ++ l) (sym same ∙ second.1)
          ∙ sym (append_assoc xs ys second.0),
      second.2,
    )

pub gave_nothing : (taken : Option (List ℕ)) → Gave taken taken []
gave_nothing None = refl
gave_nothing (Some xs) = ap (λ (l : List ℕ). Some l) (sym (append-nil xs))

pub gave_more : (a b c : Option (List ℕ)) (xs ys : List ℕ) → Gave a b xs → Gave b c ys → Gave a c (xs ++ ys)
gave_more None None c xs ys first second = second
gave_more None (Some bs) c xs ys first second = cc
gave_more (Some xs0) None c xs ys first second = cc
gave_more (Some xs0) (Some bs) c xs ys first second =
    let same : bs ≡ xs0 ++ xs = cc in
    second ∙ ap (λ (l : List ℕ). Some (l ++ ys)) same ∙ ap (λ (l : List ℕ). Some l) (append_assoc xs0 xs ys)

-- the front of what was left stands in the slice that it was copied to
pub took_front : (xs rest : List ℕ) (n : ℕ) → n ≤ length xs → xs ≡ take n (take n xs ++ rest) ++ drop n xs
took_front xs rest n fits =
    sym (take-append-drop n xs) ∙ ap (λ (l : List ℕ). l ++ drop n xs)
    (sym (take_at (take n xs) rest n (length-take-le n xs fits)))

-- what is read of the bytes from a place on, at most as many as there is room for
pub read_front : (bytes value slice copied rest : List ℕ) (at n room : ℕ) → drop at bytes ≡ value → slice ≡ bytes
    → n ≡ min (length (take (length slice - at) (drop at slice))) room
    → copied ≡ take n (take (length slice - at) (drop at slice))
    → value ≡ take n (copied ++ rest) ++ drop (at + n) bytes
read_front bytes value slice copied rest at n room value_is slice_is count copy =
    let whole : take (length slice - at) (drop at slice) ≡ drop at bytes =
    take_all _ _ (omega (arith, length-drop at slice)) ∙ ap (λ (l : List ℕ). drop at l) slice_is in
    let fits : n ≤ length (drop at bytes) = omega (arith, ap length whole) in
    let same : copied ≡ take n (drop at bytes) = copy ∙ ap (λ (l : List ℕ). take n l) whole in
    sym value_is ∙ took_front (drop at bytes) rest n fits
    ∙ ap (λ (l : List ℕ). take n (l ++ rest) ++ drop n (drop at bytes)) (sym same)
    ∙ ap (λ (l : List ℕ). take n (copied ++ rest) ++ l) (drop-drop n at bytes)
