-- Moments, marks and lists of doubtful entries, where one run comes behind another.
use Rattle.std.proofs.Common.{◌≡◌, ℕ, suc, ◌+◌, ◌-◌, ◌<◌, ◌≤◌, if◌then◌else◌, List, [], ◌∷◌, ◌++◌, length, take, drop}
use Rattle.std.proofs.Common.{Any, refl, ap, ap₂, ◌∙◌, subst, inl, inr, arith, length-append}
use Rattle.std.specs.Prelude.{nat_le}
use Rattle.std.specs.List.{AllByRecursion}
use Rattle.std.proofs.Math.Seq.{drop-append-add}
use Rattle.std.proofs.lemmas.Bool.Decides.{nat_tests}
use Rattle.ori_volume.specs.Disk.{Disk, Files, IsImage}
use Rattle.ori_volume.specs.Story.{Story, disks, moment_of}
use Rattle.ori_spec_data.specs.Base.{BaseData, EntryData}
use Rattle.ori_spec_data.specs.Apply.{apply, replay}
use Rattle.ori_spec_crash.specs.Crash.{marks_by, AreMarks, LeftAt, IsAmong, AreWithin}

-- ---- moments

pub moments_added : (old new : Story) (added : List Disk) → disks new ≡ added ++ disks old
    → moment_of new ≡ length added + moment_of old
moments_added old new added goes_on = omega (arith, ap length goes_on, length-append added (disks old))

-- an earlier moment is as it was
pub left_before : (old new : Story) (added : List Disk) (t : ℕ) (image : Files) → disks new ≡ added ++ disks old
    → t ≤ moment_of old → LeftAt new t image → LeftAt old t image
left_before old new added t image goes_on early left =
    let same : drop (moment_of new - t) (disks new) ≡ drop (moment_of old - t) (disks old) =
    ap₂ (λ (n : ℕ) (l : List Disk). drop n l) (omega (arith, moments_added old new added goes_on)) goes_on
    ∙ drop-append-add added (disks old) (moment_of old - t) in
    subst (λ (l : List Disk). Any (λ disk. IsImage disk image) (take 1 l)) same left

-- ---- marks

abbrev counts : ℕ → ℕ → ℕ
counts m t = if nat_le m t then 1 else 0

counts_in : (m t : ℕ) → m ≤ t → counts m t ≡ 1
counts_in m t h = grind (arith, nat_tests)

counts_out : (m t : ℕ) → t < m → counts m t ≡ 0
counts_out m t h = grind (arith, nat_tests)

pub marks_by-append : (ms ns : List ℕ) (t : ℕ) → marks_by (ms ++ ns) t ≡ marks_by ms t + marks_by ns t
marks_by-append [] ns t = omega arith
marks_by-append (m ∷ ms) ns t = omega (arith, marks_by-append ms ns t)

pub marks_by-most : (ms : List ℕ) (t : ℕ) → marks_by ms t ≤ length ms
marks_by-most [] t = omega arith
marks_by-most (m ∷ ms) t = omega (arith, marks_by-most ms t, one_at_most m t)
  where
    one_at_most : (m t : ℕ) → counts m t ≤ 1
    one_at_most m t = grind (arith, nat_tests)

-- before the first of them none counts
pub none_yet : (low : ℕ) (ms : List ℕ) (t : ℕ) → AreMarks low ms → t < low → marks_by ms t ≡ 0
none_yet low [] t are early = refl
none_yet low (m ∷ ms) t are early =
    omega (arith, counts_out m t (omega (arith, are.0, early)), none_yet m ms t are.1 (omega (arith, are.0, early)))

-- from the last of them on each counts
pub all_by : (high : ℕ) (ms : List ℕ) (t : ℕ) → AllByRecursion (λ m. m ≤ high) ms → high ≤ t
    → marks_by ms t ≡ length ms
all_by high [] t are late = refl
all_by high (m ∷ ms) t are late =
    omega (arith, counts_in m t (omega (arith, are.0, late)), all_by high ms t are.1 late)

pub AreMarks-append : (low high : ℕ) (ms ns : List ℕ) → AreMarks low ms → AllByRecursion (λ m. m ≤ high) ms → low ≤ high
    → AreMarks high ns → AreMarks low (ms ++ ns)
AreMarks-append low high [] [] are most order more = tt
AreMarks-append low high [] (n ∷ ns) are most order more = (omega (arith, order, more.0), more.1)
AreMarks-append low high (m ∷ ms) ns are most order more =
    (are.0, AreMarks-append m high ms ns are.1 most.1 most.0 more)

pub most-append : (n m : ℕ) (ms ns : List ℕ) → n ≤ m → AllByRecursion (λ k. k ≤ n) ms → AllByRecursion (λ k. k ≤ m) ns
    → AllByRecursion (λ k. k ≤ m) (ms ++ ns)
most-append n m [] ns more are others = others
most-append n m (k ∷ ms) ns more are others =
    (omega (arith, are.0, more), most-append n m ms ns more are.1 others)

-- ---- doubtful entries

pub among-left : (d : ℕ × EntryData) (ds es : List (ℕ × EntryData)) → IsAmong d ds → IsAmong d (ds ++ es)
among-left d [] es h = absurd h
among-left d (x ∷ ds) es (inl is) = inl is
among-left d (x ∷ ds) es (inr h) = inr (among-left d ds es h)

pub among-right : (d : ℕ × EntryData) (ds es : List (ℕ × EntryData)) → IsAmong d es → IsAmong d (ds ++ es)
among-right d [] es h = h
among-right d (x ∷ ds) es h = inr (among-right d ds es h)

-- the place of each of them is within
pub place_within : (n : ℕ) (d : ℕ × EntryData) (ds : List (ℕ × EntryData)) → AreWithin n ds → IsAmong d ds → d.0 ≤ n
place_within n d [] within h = absurd h
place_within n d (x ∷ ds) within (inl is) = omega (arith, within.0, ap (λ (p : ℕ × EntryData). p.0) is)
place_within n d (x ∷ ds) within (inr h) = place_within n d ds within.1 h

pub within_more : (n m : ℕ) (ds es : List (ℕ × EntryData)) → n ≤ m → AreWithin n ds → AreWithin m es
    → AreWithin m (ds ++ es)
within_more n m [] es more within others = others
within_more n m (d ∷ ds) es more within others =
    (omega (arith, within.0, more), within_more n m ds es more within.1 others)

-- ---- histories

pub replay-append : (base : BaseData) (es fs : List EntryData) → replay base (es ++ fs) ≡ replay (replay base es) fs
replay-append base [] fs = refl
replay-append base (e ∷ es) fs = replay-append (apply base e) es fs

pub take-beyond : {T : Type 0} (xs ys : List T) (m : ℕ) → take (length xs + m) (xs ++ ys) ≡ xs ++ take m ys
take-beyond {T} [] ys m =
    let same : 0 + m ≡ m = omega arith in ap (λ (n : ℕ). take n ys) same
take-beyond {T} (x ∷ xs) ys m =
    let same : length (x ∷ xs) + m ≡ suc (length xs + m) = omega arith in
    ap (λ (n : ℕ). take n (x ∷ (xs ++ ys))) same ∙ ap (λ (l : List T). x ∷ l) (take-beyond xs ys m)
