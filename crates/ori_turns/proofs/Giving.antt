-- Partitions are given back.
use Rattle.std.proofs.Common.{◌≡◌, ◌≢◌, ◌⊎◌, ⊎_elim, inl, inr, ℕ, zero, suc, ◌+◌, ◌<◌, ◌≤◌, false, List, [], ◌∷◌}
use Rattle.std.proofs.Common.{length, Option}
use Rattle.std.proofs.Common.{Some, None, IfSome, is_some, arith, slice_index_or, slice_set, replicate, refl, sym, ap}
use Rattle.std.proofs.Common.{◌∙◌, subst}
use Rattle.std.specs.Option.{option_map}
use Rattle.std.proofs.lemmas.Bool.{cases_eq}
use Rattle.std.proofs.lemmas.List.{get_or-set_same, get_or-set_other}
use Rattle.ori_bytes.specs.declared.limits.TheConstants.{PARTITIONS}
use Rattle.ori_volume.specs.Story.{Tells}
use Rattle.ori_volume.proofs.Known.{tells_then, tells_map}
use Rattle.ori_part.specs.Parts.{PartData, no_pages}
use Rattle.ori_turns.specs.Seats.{Seat, Told, IsTold, told_at, gave_part, told_part}
use Rattle.ori_turns.specs.Hands.{GivesParts, GaveParts, IsHandOf, told_part_or}

abbrev Hand : Type 0
Hand = List (Option PartData)

-- a list without a partition
pub all_none : (xs : Hand) → ((k : ℕ) → slice_index_or xs k None ≡ None) → xs ≡ replicate (length xs) None
all_none [] each = refl
all_none (x ∷ xs) each =
    ap (λ o. o ∷ xs) (each zero) ∙ ap (λ l. None ∷ l) (all_none xs (λ k. each (suc k)))

module _ {D : Type 0} (G H : ℕ → Type 0) (p : ℕ) (hand hand_now : Hand) (a b c : Seat D) where
  more_told : ((k : ℕ) → H k → G k ⊎ (k ≡ p)) → ((k : ℕ) → G k → H k) → H p → (G p → ⊥)
      → slice_index_or hand_now p None ≡ slice_index_or hand p None → (x y z : Told D) → GivesParts G hand x y
      → GivesParts (λ k. k ≡ p) hand_now y z → GivesParts H hand x z
  more_told split keep here apart same x y z first second = record {
    given = λ k in_h. ⊎_elim
        (λ (in_g : G k). second.others k (λ is. apart (subst G is in_g)) ∙ first.given k in_g)
        (λ (is : k ≡ p). second.given k is
        ∙ ap (λ o. told_part_or o (told_at y k)) (subst
        (λ (n : ℕ). slice_index_or hand_now n None ≡ slice_index_or hand n None) (sym is) same)
        ∙ ap (told_part_or (slice_index_or hand k None)) (first.others k (λ in_g. apart (subst G is in_g))))
        (split k in_h);
    others = λ k out. second.others k (λ is. out (subst H (sym is) here))
        ∙ first.others k (λ in_g. out (keep k in_g));
    device = second.device ∙ first.device;
  }

  pub gave_more : ((k : ℕ) → H k → G k ⊎ (k ≡ p)) → ((k : ℕ) → G k → H k) → H p → (G p → ⊥)
      → slice_index_or hand_now p None ≡ slice_index_or hand p None → GaveParts G hand a b
      → GaveParts (λ k. k ≡ p) hand_now b c → GaveParts H hand a c
  gave_more split keep here apart same first second = record {
    engine = second.engine ∙ first.engine;
    device = second.device ∙ first.device;
    last = second.last ∙ first.last;
    told = tells_then (GivesParts G hand) (GivesParts (λ k. k ≡ p) hand_now) (GivesParts H hand) a.told b.told c.told
        (λ x y z one two. more_told split keep here apart same x y z one two) first.told second.told;
  }

module _ {D : Type 0} (p : ℕ) (hand : Hand) (a b : Seat D) where
  told_one : (part : PartData) → slice_index_or hand p None ≡ Some part → (o : Option (Told D))
      → IfSome o (λ (told : Told D). p < length told.parts)
      → Tells (GivesParts (λ k. k ≡ p) hand) o (option_map (told_part p part) o)
  told_one part is None long = refl
  told_one part is (Some t) long = (
    told_part p part t,
    refl,
    record {
      given = λ k same. subst (λ (n : ℕ). slice_index_or (slice_set t.parts p part) n no_pages
          ≡ told_part_or (slice_index_or hand n None) (told_at t n)) (sym same)
          (get_or-set_same t.parts p part no_pages long ∙ sym (ap (λ o. told_part_or o (told_at t p)) is));
      others = λ k apart. get_or-set_other t.parts p k part no_pages apart;
      device = refl;
    },
  )

  -- one that the hand has was given
  pub gave_one : (part : PartData) → slice_index_or hand p None ≡ Some part → b ≡ gave_part p part a
      → IsTold (λ told. p < length told.parts) a → GaveParts (λ k. k ≡ p) hand a b
  gave_one part is gave long = subst (GaveParts (λ k. k ≡ p) hand a) (sym gave) (record {
    engine = refl;
    device = refl;
    last = refl;
    told = told_one part is a.told long;
  })

  told_none : slice_index_or hand p None ≡ None → (o : Option (Told D)) → Tells (GivesParts (λ k. k ≡ p) hand) o o
  told_none none None = refl
  told_none none (Some t) = (
    t,
    refl,
    record {
      given = λ k same. sym (subst (λ (n : ℕ). told_part_or (slice_index_or hand n None) (told_at t n) ≡ told_at t n)
          (sym same) (ap (λ o. told_part_or o (told_at t p)) none));
      others = λ k apart. refl;
      device = refl;
    },
  )

  -- it has none of this number
  pub gave_none : slice_index_or hand p None ≡ None → b ≡ a → GaveParts (λ k. k ≡ p) hand a b
  gave_none none same = subst (GaveParts (λ k. k ≡ p) hand a) (sym same) (record {
    engine = refl;
    device = refl;
    last = refl;
    told = told_none none a.told;
  })

pub in_told : {D : Type 0} (k : ℕ) (o : Option (Told D)) → k < PARTITIONS
    → IfSome o (λ (told : Told D). length told.parts ≡ PARTITIONS)
    → IfSome o (λ (told : Told D). k < length told.parts)
in_told k None below eight = tt
in_told k (Some told) below eight = subst (λ n. k < n) (sym eight) below

-- ---- all of them

-- the same numbers
pub gave_same : {D : Type 0} (G H : ℕ → Type 0) (hand : Hand) (a b : Seat D) → ((k : ℕ) → G k → H k)
    → ((k : ℕ) → H k → G k) → GaveParts G hand a b → GaveParts H hand a b
gave_same G H hand a b on back gave = record {
  engine = gave.engine;
  device = gave.device;
  last = gave.last;
  told = tells_map (GivesParts G hand) (GivesParts H hand) a.told b.told
      (λ x y is one. record {
        given = λ k in_h. one.given k (back k in_h);
        others = λ k out. one.others k (λ in_g. out (on k in_g));
        device = one.device;
      }) gave.told;
}

-- those from the last on, so many
abbrev pub LastOnes : ℕ → ℕ → Type 0
LastOnes count k = (k < PARTITIONS) × (PARTITIONS ≤ k + count)

pub first_none : {D : Type 0} (hand : Hand) (a : Seat D) → GaveParts (LastOnes 0) hand a a
first_none {D} hand a = record { engine = refl; device = refl; last = refl; told = by a.told }
  where
    by : (o : Option (Told D)) → Tells (GivesParts (LastOnes 0) hand) o o
    by None = refl
    by (Some t) = (
      t,
      refl,
      record {
        given = λ k in_g. absurd (omega (arith, in_g.0, in_g.1));
        others = λ k out. refl;
        device = refl;
      },
    )

pub next_last : {D : Type 0} (count p : ℕ) (hand hand_now : Hand) (a b c : Seat D) → count < PARTITIONS
    → p + 1 + count ≡ PARTITIONS → slice_index_or hand_now p None ≡ slice_index_or hand p None
    → GaveParts (LastOnes count) hand a b → GaveParts (λ k. k ≡ p) hand_now b c
    → GaveParts (LastOnes (count + 1)) hand a c
next_last count p hand hand_now a b c lt at same first second =
    gave_more (LastOnes count) (LastOnes (count + 1)) p hand hand_now a b c
    (λ k in_h. ⊎_elim (λ (is : k ≡ p). inr is)
    (λ (apart : k ≢ p). inl (in_h.0, low k in_h.1 apart)) (cases_eq k p))
    (λ k in_g. (in_g.0, omega (arith, in_g.1)))
    (omega (arith, at), omega (arith, at))
    (λ in_g. omega (arith, in_g.1, at))
    same first second
  where
    low : (k : ℕ) → PARTITIONS ≤ k + (count + 1) → k ≢ p → PARTITIONS ≤ k + count
    low k most apart = omega (arith, most, apart, at)

none_there : (o : Option PartData) → is_some o ≡ false → o ≡ None
none_there None same = refl
none_there (Some part) same = cc

-- no turn of a partition is held where the hand has none
pub all_free : {D : Type 0} (seat : Seat D) (hand : Hand) → IsHandOf seat hand
    → ((k : ℕ) → slice_index_or hand k None ≡ None) → length seat.parts ≡ PARTITIONS
    → seat.parts ≡ replicate PARTITIONS None
all_free seat hand held none eight =
    all_none seat.parts (λ k. none_there (slice_index_or seat.parts k None) (held k ∙ ap is_some (none k)))
    ∙ ap (λ n. replicate n None) eight

-- past its end a list has nothing
pub above_all : (xs : Hand) (k : ℕ) → length xs ≤ k → slice_index_or xs k None ≡ None
above_all [] k most = refl
above_all (x ∷ xs) zero most = absurd (omega (arith, most))
above_all (x ∷ xs) (suc k) most = above_all xs k (omega (arith, most))
