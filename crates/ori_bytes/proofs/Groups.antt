-- The groups of a number, and that no others make it.
use Rattle.std.proofs.Common.{◌≡◌, ◌<◌, ◌≤◌, ℕ, zero, suc, ◌+◌, ◌-◌, ◌*◌, ◌/◌, ◌%◌, false, nat_eq, List, [], ◌∷◌, ◌++◌}
use Rattle.std.proofs.Common.{length, take, drop, get_or, set, reverse, refl, sym, ap, ◌∙◌, inl, inr, arith, add-one}
use Rattle.std.proofs.Common.{append_assoc, drop-cons}
use Rattle.std.proofs.Math.Seq.{take-suc-set}
use Rattle.std.proofs.Math.ListN.{length-set}
use Rattle.std.proofs.lemmas.List.{get_or-reverse, take-append-drop}
use Rattle.std.proofs.lemmas.Bool.{cases_lt, lt-ltb, le-ltb}
use Rattle.ori_bytes.specs.Varint.{groups_number, groups_of, is_long, last_of, IsGroups}

-- the numbers of which `more + 1` groups are enough
abbrev pub limit : ℕ → ℕ
limit zero = 128
limit (suc more) = 128 * limit more

pub groups_of-small : (more n : ℕ) → n < 128 → groups_of more n ≡ n ∷ []
unfolding groups_of
groups_of-small zero n h = refl
groups_of-small (suc more) n h = rw (lt-ltb n 128 h) refl

pub groups_of-large : (more n : ℕ) → 128 ≤ n → groups_of (suc more) n ≡ (n % 128 + 128) ∷ groups_of more (n / 128)
unfolding groups_of
groups_of-large more n h = rw (le-ltb n 128 h) refl

pub IsGroups-cons : (b : ℕ) (bs : List ℕ) → 128 ≤ b → b < 256 → IsGroups bs → IsGroups (b ∷ bs)
IsGroups-cons b [] h k g = absurd g
IsGroups-cons b (c ∷ bs) h k g = (h, k, g)

pub IsGroups-groups_of : (more n : ℕ) → n < limit more → IsGroups (groups_of more n)
IsGroups-groups_of zero n h = rw (groups_of-small zero n h) h
IsGroups-groups_of (suc more) n h =
    elim (cases_lt n 128) [
      | inl k ↦ rw (groups_of-small (suc more) n k) k
      | inr k ↦ rw (groups_of-large more n k) (IsGroups-cons _ _ (omega arith) (omega arith)
          (IsGroups-groups_of more (n / 128) (omega arith)))
    ]

pub groups_number-groups_of : (more n : ℕ) → n < limit more → groups_number (groups_of more n) ≡ n
groups_number-groups_of zero n h = rw (groups_of-small zero n h) (omega arith)
groups_number-groups_of (suc more) n h =
    elim (cases_lt n 128) [
      | inl k ↦ rw (groups_of-small (suc more) n k) (omega arith)
      | inr k ↦ rw (groups_of-large more n k) (rw (groups_number-groups_of more (n / 128) (omega arith)) (omega arith))
    ]

-- behind a byte that isn't 0, the groups of a number that isn't 0 end in one that isn't 0
last_of-groups_of : (b more n : ℕ) → 0 < n → n < limit more → 0 < last_of b (groups_of more n)
last_of-groups_of b zero n p h = rw (groups_of-small zero n h) p
last_of-groups_of b (suc more) n p h =
    elim (cases_lt n 128) [
      | inl k ↦ rw (groups_of-small (suc more) n k) p
      | inr k ↦ rw (groups_of-large more n k) (last_of-groups_of (n % 128 + 128) more (n / 128) (omega arith)
          (omega arith))
    ]

positive_test : (n : ℕ) → 0 < n → nat_eq n 0 ≡ false
positive_test n h = grind arith

-- such groups behind a byte are no long form
long_behind : (b d : ℕ) (bs : List ℕ) → 0 < d → 0 < last_of d bs → is_long (b ∷ bs) ≡ false
long_behind b d [] p h = refl
long_behind b d (c ∷ bs) p h = positive_test _ h

pub is_long-groups_of : (more n : ℕ) → n < limit more → is_long (groups_of more n) ≡ false
is_long-groups_of zero n h = rw (groups_of-small zero n h) refl
is_long-groups_of (suc more) n h =
    elim (cases_lt n 128) [
      | inl k ↦ rw (groups_of-small (suc more) n k) refl
      | inr k ↦ rw (groups_of-large more n k) (long_behind (n % 128 + 128) 1 (groups_of more (n / 128)) (omega arith)
          (last_of-groups_of 1 more (n / 128) (omega arith) (omega arith)))
    ]

test_positive : (n : ℕ) → nat_eq n 0 ≡ false → 0 < n
test_positive n h = grind arith

-- groups that don't end in 0 make a number that isn't 0
groups_number-positive : (c : ℕ) (bs : List ℕ) → IsGroups (c ∷ bs) → 0 < last_of c bs → 0 < groups_number (c ∷ bs)
groups_number-positive c [] g h = omega arith
groups_number-positive c (d ∷ bs) g h = omega (arith, groups_number-positive d bs g.2 h)

-- the tail of groups that are no long form is none either
long_tail : (b c : ℕ) (bs : List ℕ) → is_long (b ∷ c ∷ bs) ≡ false → is_long (c ∷ bs) ≡ false
long_tail b c [] h = refl
long_tail b c (d ∷ bs) h = h

pub groups_of-groups_number : (bs : List ℕ) (more : ℕ) → IsGroups bs → is_long bs ≡ false
    → groups_number bs < limit more → groups_of more (groups_number bs) ≡ bs
groups_of-groups_number [] more g s h = absurd g
groups_of-groups_number (b ∷ []) more g s h =
    let e : b % 128 + 128 * 0 ≡ b = omega (arith, g) in rw e (groups_of-small more b g)
groups_of-groups_number (b ∷ c ∷ bs) zero g s h =
    absurd (omega (arith, g.0, h, groups_number-positive c bs g.2 (test_positive _ s)))
groups_of-groups_number (b ∷ c ∷ bs) (suc more) g s h =
    let n : ℕ = groups_number (c ∷ bs) in
    let p : 0 < groups_number (c ∷ bs) = groups_number-positive c bs g.2 (test_positive _ s) in
    let again : groups_of more (groups_number (c ∷ bs)) ≡ c ∷ bs =
    groups_of-groups_number (c ∷ bs) more g.2 (long_tail b c bs s) (omega (arith, h)) in
    let low : (b % 128 + 128 * groups_number (c ∷ bs)) % 128 + 128 ≡ b = omega (arith, g.0, g.1) in
    let high : (b % 128 + 128 * groups_number (c ∷ bs)) / 128 ≡ groups_number (c ∷ bs) = omega arith in
    groups_of-large more (b % 128 + 128 * groups_number (c ∷ bs)) (omega (arith, p)) ∙ rw (low, high, again) refl

-- groups stand at the front of bytes in one way
pub one_front : (a b x y : List ℕ) → IsGroups a → IsGroups b → a ++ x ≡ b ++ y → a ≡ b
one_front [] b x y g h e = absurd g
one_front (a ∷ s) [] x y g h e = absurd h
one_front (a ∷ []) (b ∷ []) x y g h e = cc
one_front (a ∷ []) (b ∷ c ∷ t) x y g h e = let same : a ≡ b = cc in absurd (omega (arith, g, h.0))
one_front (a ∷ c ∷ s) (b ∷ []) x y g h e = let same : a ≡ b = cc in absurd (omega (arith, h, g.0))
one_front (a ∷ c ∷ s) (b ∷ d ∷ t) x y g h e =
    let tails : (c ∷ s) ++ x ≡ (d ∷ t) ++ y = cc in
    let same : c ∷ s ≡ d ∷ t = one_front (c ∷ s) (d ∷ t) x y g.2 h.2 tails in cc

-- up to the first byte without the high bit, bytes are groups
pub IsGroups-take : (bs : List ℕ) (i : ℕ) → ((k : ℕ) → get_or bs k 0 < 256) → i < length bs → get_or bs i 0 < 128
    → ((k : ℕ) → k < i → 128 ≤ get_or bs k 0) → IsGroups (take (suc i) bs)
IsGroups-take [] i f w e h = absurd (omega (arith, w))
IsGroups-take (b ∷ bs) zero f w e h = e
IsGroups-take (b ∷ bs) (suc i) f w e h =
    IsGroups-cons b (take (suc i) bs) (h 0 (omega arith)) (f 0)
    (IsGroups-take bs i (λ k. f (suc k)) (omega (arith, w)) e (λ k l. h (suc k) (omega arith)))

last_of-at : (b : ℕ) (bs : List ℕ) → last_of b bs ≡ get_or (b ∷ bs) (length bs) 0
last_of-at b [] = refl
last_of-at b (c ∷ bs) = last_of-at c bs

pub is_long-at : (bs : List ℕ) → 1 < length bs → nat_eq (get_or bs (length bs - 1) 0) 0 ≡ is_long bs
is_long-at [] h = absurd (omega (arith, h))
is_long-at (b ∷ []) h = absurd (omega (arith, h))
is_long-at (b ∷ c ∷ bs) h =
    let at : suc (suc (length bs)) - 1 ≡ suc (length bs) = omega arith in
    rw (at, last_of-at c bs) refl

-- what comes before more groups makes the number no smaller
pub groups_number-behind : (s t : List ℕ) → groups_number t ≤ groups_number (s ++ t)
groups_number-behind [] t = omega arith
groups_number-behind (b ∷ s) t = omega (arith, groups_number-behind s t)

-- one more group is written: there is room for the rest, and the groups are the same
pub record Written (xs : List ℕ) (len rest n : ℕ) : Type 0 where
  pub room : len ≤ 9
  pub all : length xs ≡ 10
  pub small : rest < limit (9 - len)
  pub same : take len xs ++ groups_of (9 - len) rest ≡ groups_of 9 n

pub Written-more : (xs : List ℕ) (len rest n : ℕ) → Written xs len rest n → 128 ≤ rest
    → Written (set xs len (rest % 128 + 128)) (len + 1) (rest / 128) n
Written-more xs len rest n w h =
    elim (cases_lt len 9) [
      | inl k ↦
          let e : 9 - len ≡ suc (9 - (len + 1)) = omega arith in
          let inside : len < length xs = omega (arith, w.all) in
          let small : rest < 128 * limit (9 - (len + 1)) = rw e at w.small in
          let same : take len xs ++ groups_of (suc (9 - (len + 1))) rest ≡ groups_of 9 n = rw e at w.same in
          let front : take (len + 1) (set xs len (rest % 128 + 128)) ≡ take len xs ++ (rest % 128 + 128) ∷ [] =
          rw add-one (take-suc-set xs len (rest % 128 + 128) inside) in
          record {
            room = omega arith;
            all = length-set xs len (rest % 128 + 128) ∙ w.all;
            small = omega arith;
            same = rw (front, append_assoc, ← groups_of-large (9 - (len + 1)) rest h) same;
          }
      | inr k ↦ let e : 9 - len ≡ 0 = omega arith in let small : rest < 128 = rw e at w.small in absurd (omega arith)
    ]

pub Written-last : (xs : List ℕ) (len rest n : ℕ) → Written xs len rest n → rest < 128
    → take (len + 1) (set xs len rest) ≡ groups_of 9 n
Written-last xs len rest n w h =
    let inside : len < length xs = omega (arith, w.all, w.room) in
    rw (add-one, take-suc-set xs len rest inside, ← groups_of-small (9 - len) rest h) w.same

-- the number of the last groups, one more of which is yielded from the end
pub number_more : (xs : List ℕ) (k : ℕ) (x : ℕ) → k < length xs → x ≡ get_or (reverse xs) k x
    → groups_number (drop (length xs - (k + 1)) xs) ≡ x % 128 + 128 * groups_number (drop (length xs - k) xs)
number_more xs k x h e =
    let inside : length xs - (k + 1) < length xs = omega arith in
    let next : suc (length xs - (k + 1)) ≡ length xs - k = omega arith in
    let place : length xs - 1 - k ≡ length xs - (k + 1) = omega arith in
    let same : x ≡ get_or xs (length xs - (k + 1)) x = e ∙ get_or-reverse xs k x h ∙ ap (λ i. get_or xs i x) place in
    ap groups_number (drop-cons xs (length xs - (k + 1)) x inside)
    ∙ ap (λ v. v % 128 + 128 * groups_number (drop (suc (length xs - (k + 1))) xs)) (sym same)
    ∙ ap (λ i. x % 128 + 128 * groups_number (drop i xs)) next

-- the last groups make no larger number than all
pub number_last : (xs : List ℕ) (k : ℕ) → groups_number (drop k xs) ≤ groups_number xs
number_last xs k = let h = groups_number-behind (take k xs) (drop k xs) in rw take-append-drop at h

pub length-groups_of : (more n : ℕ) → length (groups_of more n) ≤ suc more
unfolding groups_of
length-groups_of zero n = omega arith
length-groups_of (suc more) n =
    elim (cases_lt n 128) [
      | inl h ↦ rw (groups_of-small (suc more) n h) (omega arith)
      | inr h ↦ rw (groups_of-large more n h) (omega (arith, length-groups_of more (n / 128)))
    ]
