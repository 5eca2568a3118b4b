-- What a crash at a moment of a run of calls leaves.
use Rattle.std.proofs.Common.{◌≡◌, inl, inr, ◌⊎◌, ⊎_elim, ℕ, ◌+◌, ◌-◌, ◌<◌, ◌≤◌, List, [], ◌∷◌, ◌++◌, length, take}
use Rattle.std.proofs.Common.{drop, get_or, Any, refl, sym, ◌∙◌, ap, subst, arith, length-append, length-take}
use Rattle.std.proofs.Common.{length-drop}
use Rattle.std.proofs.lemmas.Bool.{cases_lt}
use Rattle.std.proofs.lemmas.List.{places}
use Rattle.ori_volume.specs.Disk.{Disk, Files, IsImage}
use Rattle.ori_volume.specs.Story.{Story, moment_of, disks}
use Rattle.ori_volume.specs.Runs.{Run, EachImage}
use Rattle.ori_spec_crash.specs.Crash.{LeftAt}

-- an element by its place
record IsPicked {X : Type 0} (P : X → Type 0) (xs : List X) (n : ℕ) : Type 0 where
  x : X
  within : n < length xs
  is : get_or xs n x ≡ x
  has : P x

first_of_list : {X : Type 0} (ys : List X) (x : X) → 0 < length ys → get_or (take 1 ys) 0 x ≡ get_or ys 0 x
first_of_list [] x some = absurd (omega arith)
first_of_list (y ∷ ys) x some = refl

first_behind : {X : Type 0} (xs : List X) (n : ℕ) (x : X) → n < length xs
    → get_or (take 1 (drop n xs)) 0 x ≡ get_or xs n x
first_behind xs n x within =
    let there : get_or (drop n xs) 0 x ≡ get_or xs n x = grind (arith, places) in
    first_of_list (drop n xs) x (omega (arith, within, length-drop n xs)) ∙ there

picked : {X : Type 0} (P : X → Type 0) (xs : List X) (n : ℕ) → Any P (take 1 (drop n xs)) → IsPicked P xs n
picked P xs n (k, x, within, is, has) =
    let first : k ≡ 0 = omega (arith, within, length-take 1 (drop n xs)) in
    let inside : n < length xs = omega (arith, within, length-take 1 (drop n xs), length-drop n xs) in
    let there : get_or (take 1 (drop n xs)) 0 x ≡ get_or xs n x = first_behind xs n x inside in
    record {
      x = x;
      within = inside;
      is = sym there ∙ ap (λ (i : ℕ). get_or (take 1 (drop n xs)) i x) (sym first)
          ∙ is;
      has = has;
    }

back : {X : Type 0} (P : X → Type 0) (xs : List X) (n : ℕ) → IsPicked P xs n → Any P (take 1 (drop n xs))
back P xs n at =
    let inside : n < length xs = at.within in
    let there : get_or (take 1 (drop n xs)) 0 at.x ≡ get_or xs n at.x = first_behind xs n at.x inside in
    (0, at.x, omega (arith, inside, length-take 1 (drop n xs), length-drop n xs), there ∙ at.is, at.has)

-- the disk at the story's last moment is that of now
pub left_now : (story : Story) (t : ℕ) (image : Files) → t ≡ moment_of story → LeftAt story t image
    → IsImage story.now.disk image
left_now story t image now left =
    let none : moment_of story - t ≡ 0 = omega (arith, now) in
    let at = picked (λ disk. IsImage disk image) (disks story) (moment_of story - t) left in
    subst (λ (d : Disk). IsImage d image) (sym at.is ∙ ap (λ (n : ℕ). get_or (disks story) n at.x) none) at.has

-- what a crash at a moment left is of a run's moments, and has P, or of an earlier one
pub left_run : (P : Files → Type 0) (old new : Story) (t : ℕ) (image : Files) → t ≤ moment_of new
    → Run (EachImage P) old new → LeftAt new t image
    → ((moment_of old < t) × P image) ⊎ ((t ≤ moment_of old) × LeftAt old t image)
left_run P old new t image early run left =
    let count : length new.past ≡ length run.added + length old.past = omega
    (arith, ap length run.goes_on, length-append run.added (disks old)) in
    let found = subst (λ (l : List Disk). Any (λ disk. IsImage disk image) (take 1 (drop
    (moment_of new - t) l))) run.goes_on left in
    let at = picked (λ disk. IsImage disk image) (run.added ++ disks old) (moment_of new - t) found in
    ⊎_elim (λ (front : moment_of new - t < length run.added).
    let here : get_or (run.added ++ disks old) (moment_of new - t) at.x ≡ get_or run.added
    (moment_of new - t) at.x = grind (arith, places) in
    inl (
      omega (arith, front, count, early),
      subst (EachImage P) (sym here ∙ at.is) (run.each
          (moment_of new - t) at.x front) image at.has,
    ))
    (λ (behind : length run.added ≤ moment_of new - t).
    let here : get_or (run.added ++ disks old) (moment_of new - t) at.x ≡ get_or (disks old)
    (moment_of new - t - length run.added) at.x = grind (arith, places) in
    let same : moment_of new - t - length run.added ≡ moment_of old - t = omega (arith, count) in
    inr (
      omega (arith, behind, count, early),
      back (λ disk. IsImage disk image) (disks old) (moment_of old - t) (record {
        x = at.x;
        within = omega (arith, at.within, length-append run.added (disks old), count, behind);
        is = ap (λ (n : ℕ). get_or (disks old) n at.x) (sym same) ∙ sym here ∙ at.is;
        has = at.has;
      }),
    ))
    (cases_lt (moment_of new - t) (length run.added))
