-- What a crash leaves while a run goes on.
use Rattle.std.proofs.Common.{◌≡◌, ◌⊎◌, ⊎_elim, ℕ, ◌+◌, ◌-◌, ◌<◌, ◌≤◌, true, false, leb, if◌then◌else◌, List, [], ◌∷◌}
use Rattle.std.proofs.Common.{Option, Some, None, ◌++◌, length, take, drop, All, Any, refl, sym, ap, ap₂, ◌∙◌, subst}
use Rattle.std.proofs.Common.{inl, inr, arith}
use Rattle.std.proofs.Common.{length-append, take_all, append_assoc}
use Rattle.std.specs.Prelude.{nat_le}
use Rattle.std.specs.List.{AllByRecursion}
use Rattle.std.proofs.lemmas.List.{take-append-le, drop-append-le, length-drop}
use Rattle.std.proofs.Math.Seq.{drop-append-add}
use Rattle.std.proofs.lemmas.List.Elements.{All-nil, All-cons, All-take, All-drop}
use Rattle.std.proofs.lemmas.Bool.Decides.{nat_tests, leb_tells}
use Rattle.std.proofs.lemmas.Bool.{cases_eq}
use Rattle.ori_volume.specs.Disk.{Disk, Files, IsImage}
use Rattle.ori_volume.specs.Story.{Story, disks, moment_of}
use Rattle.ori_volume.specs.Runs.{Run, EachImage}
use Rattle.ori_spec_data.specs.Base.{BaseData, EntryData}
use Rattle.ori_spec_data.specs.Apply.{apply, replay}
use Rattle.ori_rows.specs.Stage.{OpensTo}
use Rattle.ori_spec_crash.specs.Crash.{marks_by, AreMarks, LeftAt, Leaves, IsLeft, CrashSafe, doubts}
use Rattle.ori_engine.specs.Doubts.{OpensWith}

-- ---- moments

any_all : {X : Type 0} (P Q : X → Type 0) (xs : List X) (G : Type 0) → All Q xs → ((x : X) → P x → Q x → G) → Any P xs
    → G
any_all P Q xs G all step found = step found.1 found.4 (subst Q found.3 (all found.0 found.1 found.2))

moments_added : (old new : Story) (added : List Disk) → disks new ≡ added ++ disks old
    → moment_of new ≡ length added + moment_of old
moments_added old new added goes_on = omega (arith, ap length goes_on, length-append added (disks old))

-- an earlier moment is as it was
left_before : (old new : Story) (added : List Disk) (t : ℕ) (image : Files) → disks new ≡ added ++ disks old
    → t ≤ moment_of old → LeftAt new t image → LeftAt old t image
left_before old new added t image goes_on early left =
    let same : drop (moment_of new - t) (disks new) ≡ drop (moment_of old - t) (disks old) =
    ap₂ (λ (n : ℕ) (l : List Disk). drop n l) (omega (arith, moments_added old new added goes_on)) goes_on
    ∙ drop-append-add added (disks old) (moment_of old - t) in
    subst (λ (l : List Disk). Any (λ disk. IsImage disk image) (take 1 l)) same left

-- a moment of those that were added
left_added : (P : Files → Type 0) (old new : Story) (added : List Disk) (t : ℕ) (image : Files)
    → disks new ≡ added ++ disks old → All (EachImage P) added
    → moment_of old < t → t ≤ moment_of new → LeftAt new t image → P image
left_added P old new added t image goes_on each late within left =
    let n : ℕ = moment_of new - t in
    let count : moment_of new ≡ length added + moment_of old = moments_added old new added goes_on in
    let same : take 1 (drop n (disks new)) ≡ take 1 (drop n added) =
    ap (λ (l : List Disk). take 1 (drop n l)) goes_on ∙ ap (λ (l : List Disk). take 1 l) (drop-append-le n added
    (disks old) (omega arith))
    ∙ take-append-le 1 (drop n added) (disks old) (omega (arith, length-drop n added)) in
    any_all (λ disk. IsImage disk image) (EachImage P) (take 1 (drop n added)) (P image) (All-take (EachImage P) 1
    (drop n added) (All-drop (EachImage P) n added each))
    (λ disk is all. all image is) (subst (λ (l : List Disk). Any (λ disk. IsImage disk image) l) same left)

-- the newest moment
left_now : (P : Files → Type 0) (story : Story) (t : ℕ) (image : Files) → EachImage P story.now.disk
    → t ≡ moment_of story → LeftAt story t image → P image
left_now P story t image each is left =
    let none : moment_of story - t ≡ 0 = omega arith in
    any_all (λ disk. IsImage disk image) (EachImage P) (story.now.disk ∷ []) (P image) (All-cons
    (EachImage P) story.now.disk [] each (All-nil (EachImage P)))
    (λ disk is all. all image is) (subst (λ (n : ℕ). Any (λ disk. IsImage disk image) (take 1 (drop n
    (disks story)))) none left)

-- ---- marks

abbrev counts : ℕ → ℕ → ℕ
counts m t = if nat_le m t then 1 else 0

marks_by-push : (marks : List ℕ) (m t : ℕ) → marks_by (marks ++ m ∷ []) t ≡ marks_by marks t + counts m t
marks_by-push [] m t = omega arith
marks_by-push (x ∷ marks) m t = omega (arith, marks_by-push marks m t)

one_at_most : (m t : ℕ) → counts m t ≤ 1
one_at_most m t = grind (arith, nat_tests)

none_before : (m t : ℕ) → t < m → counts m t ≡ 0
none_before m t early = grind (arith, nat_tests)

marks_by-most : (marks : List ℕ) (t : ℕ) → marks_by marks t ≤ length marks
marks_by-most [] t = omega arith
marks_by-most (m ∷ marks) t = omega (arith, marks_by-most marks t, one_at_most m t)

-- before it a new mark doesn't count
marks_by-before : (marks : List ℕ) (m t : ℕ) → t < m → marks_by (marks ++ m ∷ []) t ≡ marks_by marks t
marks_by-before marks m t early = omega (arith, marks_by-push marks m t, none_before m t early)

AreMarks-push : (low : ℕ) (marks : List ℕ) (m : ℕ) → AreMarks low marks → AllByRecursion (λ n. n ≤ m) marks → low ≤ m
    → AreMarks low (marks ++ m ∷ [])
AreMarks-push low [] m are none late = (late, tt)
AreMarks-push low (x ∷ marks) m are none late = (are.0, AreMarks-push x marks m are.1 none.1 none.0)

none_later-more : (marks : List ℕ) (m n : ℕ) → m ≤ n → AllByRecursion (λ k. k ≤ m) marks
    → AllByRecursion (λ k. k ≤ n) marks
none_later-more [] m n more none = tt
none_later-more (k ∷ marks) m n more none = (omega (arith, none.0), none_later-more marks m n more none.1)

none_later-push : (marks : List ℕ) (m : ℕ) → AllByRecursion (λ k. k ≤ m) marks
    → AllByRecursion (λ k. k ≤ m) (marks ++ m ∷ [])
none_later-push [] m none = (omega arith, tt)
none_later-push (k ∷ marks) m none = (none.0, none_later-push marks m none.1)

-- ---- histories

pub replay-more : (base : BaseData) (history : List EntryData) (entry : EntryData)
    → replay base (history ++ entry ∷ []) ≡ apply (replay base history) entry
replay-more base [] entry = refl
replay-more base (e ∷ history) entry = replay-more (apply base e) history entry

-- what was a prefix is one of a longer history
leaves_longer : (image : Files) (base : BaseData) (history : List EntryData) (entry : EntryData) (k : ℕ)
    → Leaves (OpensTo image) base history [] k
    → Leaves (OpensTo image) base (history ++ entry ∷ []) [] k
leaves_longer image base history entry k (inl (m, from, within, opens)) =
    inl (
      m,
      from,
      omega (arith, length-append history (entry ∷ [])),
      subst (λ (l : List EntryData). OpensTo image
          (replay base l)) (sym (take-append-le m history (entry ∷ []) within)) opens,
    )
leaves_longer image base history entry k (inr (d, among, from, opens)) = absurd among

-- the same beside a doubtful entry
leaves_beside : (image : Files) (base : BaseData) (history : List EntryData) (doubtful : List (ℕ × EntryData)) (k : ℕ)
    → Leaves (OpensTo image) base history [] k
    → Leaves (OpensTo image) base history doubtful k
leaves_beside image base history doubtful k (inl prefix) = inl prefix
leaves_beside image base history doubtful k (inr (d, among, from, opens)) = absurd among

-- all of a history
leaves_all : (image : Files) (base : BaseData) (history : List EntryData) (doubtful : List (ℕ × EntryData)) (k : ℕ)
    → k ≤ length history
    → OpensTo image (replay base history) → Leaves (OpensTo image) base history doubtful k
leaves_all image base history doubtful k within opens =
    inl (
      length history,
      within,
      omega arith,
      subst (λ (l : List EntryData). OpensTo image (replay base l)) (sym
          (take_all (length history) history (omega arith))) opens,
    )

-- all of it but for the last
leaves_most : (image : Files) (base : BaseData) (history : List EntryData) (entry : EntryData) (k : ℕ)
    → k ≤ length history
    → OpensTo image (replay base history) → Leaves (OpensTo image) base (history ++ entry ∷ []) [] k
leaves_most image base history entry k within opens = leaves_longer image base history entry k
    (leaves_all image base history [] k within opens)

-- all of it and a doubtful entry
leaves_doubt : (image : Files) (base : BaseData) (history : List EntryData) (entry : EntryData) (k : ℕ)
    → k ≤ length history
    → OpensTo image (apply (replay base history) entry) → Leaves (OpensTo image) base history
    ((length history, entry) ∷ []) k
leaves_doubt image base history entry k within opens =
    inr (
      (length history, entry),
      inl refl,
      within,
      subst (λ (l : List EntryData). OpensTo image (apply
          (replay base l) entry)) (sym (take_all (length history) history (omega arith))) opens,
    )

-- ---- a longer history, or one with a doubtful entry

is_left_by : (base : BaseData) (history more : List EntryData) (doubtful : List (ℕ × EntryData))
    (marks others : List ℕ) (first : Story) (t : ℕ) (image : Files)
    → marks_by others t ≡ marks_by marks t
    → (Leaves (OpensTo image) base history [] (marks_by marks t)
    → Leaves (OpensTo image) base more doubtful (marks_by marks t))
    → IsLeft OpensTo base history [] marks first t image → IsLeft OpensTo base more doubtful others first t image
is_left_by base history more doubtful marks others first t image same step (inl leaves) =
    inl (subst (λ (k : ℕ). Leaves (OpensTo image) base more doubtful k) (sym same) (step leaves))
is_left_by base history more doubtful marks others first t image same step (inr settling) = inr (
  settling.0,
  same
      ∙ settling.1,
  settling.2,
)

-- between two runs of moments
either_moment : (old new : Story) (added : List Disk) (t : ℕ) (image : Files) (P : Files → Type 0) (G : Type 0)
    → disks new ≡ added ++ disks old → All (EachImage P) added → t ≤ moment_of new
    → LeftAt new t image → (t ≤ moment_of old → LeftAt old t image → G) → (P image → G) → G
either_moment old new added t image P G goes_on each within left before after =
    ⊎_elim (λ (early : (leb t (moment_of old) ≡ true) × (t ≤ moment_of old)). before early.1
    (left_before old new added t image goes_on early.1 left))
    (λ (late : (leb t (moment_of old) ≡ false) × (moment_of old < t)). after
    (left_added P old new added t image goes_on each late.1 within left))
    (leb_tells t (moment_of old))

-- an image behind an insert, at a moment before its mark
left_growing : (base : BaseData) (history : List EntryData) (entry : EntryData) (marks : List ℕ) (first old new : Story)
    → CrashSafe OpensTo base history [] marks first old
    → Run (EachImage (λ image. OpensTo image (replay base history) ⊎ OpensTo image (replay base
    (history ++ entry ∷ [])))) old new
    → (t : ℕ) (image : Files) → moment_of first ≤ t → t < moment_of new → LeftAt new t image
    → IsLeft OpensTo base (history ++ entry ∷ []) [] (marks ++ moment_of new ∷ []) first t image
left_growing base history entry marks first old new safe run t image from before left =
    let G : Type 0 = IsLeft OpensTo base (history ++ entry ∷ []) [] (marks ++ moment_of new ∷ []) first t image in
    let same : marks_by (marks ++ moment_of new ∷ []) t ≡ marks_by marks t = marks_by-before marks
    (moment_of new) t before in
    let most : marks_by (marks ++ moment_of new ∷ []) t ≤ length history = omega
    (arith, same, marks_by-most marks t, safe.one_each) in
    either_moment old new run.added t image _ G run.goes_on run.each (omega arith) left
    (λ early there. is_left_by base history (history ++ entry ∷ []) [] marks
    (marks ++ moment_of new ∷ []) first t image same
    (leaves_longer image base history entry (marks_by marks t)) (safe.images t image from early there))
    (λ either. elim either [
      | inl opens ↦ inl (leaves_most image base history entry _ most opens)
      | inr opens ↦ inl (leaves_all image base (history ++ entry ∷ []) [] _ (omega (
        arith,
        most,
        length-append history
            (entry ∷ []),
      )) opens)
    ])

grown_images : (base : BaseData) (history : List EntryData) (entry : EntryData) (marks : List ℕ) (first old new : Story)
    → CrashSafe OpensTo base history [] marks first old
    → Run (EachImage (λ image. OpensTo image (replay base history) ⊎ OpensTo image (replay base
    (history ++ entry ∷ [])))) old new
    → EachImage (λ image. OpensTo image (replay base (history ++ entry ∷ []))) new.now.disk
    → (t : ℕ) (image : Files) → moment_of first ≤ t → t ≤ moment_of new → LeftAt new t image
    → IsLeft OpensTo base (history ++ entry ∷ []) [] (marks ++ moment_of new ∷ []) first t image
grown_images base history entry marks first old new safe run whole t image from within left =
    elim (cases_eq t (moment_of new)) [
      | inl now ↦ inl (leaves_all image base (history ++ entry ∷ []) [] _
          (omega (
            arith,
            marks_by-most (marks ++ moment_of new ∷ []) t,
            length-append marks
                (moment_of new ∷ []),
            length-append history (entry ∷ []),
            safe.one_each,
          ))
          (left_now (λ image. OpensTo image (replay base (history ++ entry ∷ []))) new t image whole now left))
      | inr other ↦ left_growing base history entry marks first old new safe run t image from (omega
          (arith, other)) left
    ]

-- an entry was acknowledged at the newest moment
pub crash_grown : (base : BaseData) (history : List EntryData) (entry : EntryData) (marks : List ℕ)
    (first old new : Story)
    → CrashSafe OpensTo base history [] marks first old
    → Run (EachImage (λ image. OpensTo image (replay base history) ⊎ OpensTo image (replay base
    (history ++ entry ∷ [])))) old new
    → EachImage (λ image. OpensTo image (replay base (history ++ entry ∷ []))) new.now.disk
    → CrashSafe OpensTo base (history ++ entry ∷ []) [] (marks ++ moment_of new ∷ []) first new
crash_grown base history entry marks first old new safe run whole =
    let earlier : moment_of new ≡ length run.added + moment_of old = moments_added old new run.added run.goes_on in
    let later : AllByRecursion (λ k. k ≤ moment_of new) marks = none_later-more marks (moment_of old) (moment_of new)
    (omega arith) safe.none_later in
    record {
      added = run.added ++ safe.added;
      goes_on = run.goes_on ∙ ap (λ (l : List Disk). run.added ++ l) safe.goes_on
          ∙ sym (append_assoc run.added safe.added (disks first));
      images = grown_images base history entry marks first old new safe run whole;
      one_each = omega (
        arith,
        length-append marks (moment_of new ∷ []),
        length-append history
            (entry ∷ []),
        safe.one_each,
      );
      marks_rise = AreMarks-push (moment_of first) marks (moment_of new) safe.marks_rise later (omega
          (arith, moments_added first old safe.added safe.goes_on));
      none_later = none_later-push marks (moment_of new) later;
    }

-- the write of an entry failed
pub crash_doubted : (base : BaseData) (history : List EntryData) (entry : EntryData) (marks : List ℕ)
    (first old new : Story)
    → CrashSafe OpensTo base history [] marks first old
    → Run (EachImage (λ image. OpensTo image (replay base history) ⊎ OpensTo image (apply
    (replay base history) entry))) old new
    → CrashSafe OpensTo base history ((length history, entry) ∷ []) marks first new
crash_doubted base history entry marks first old new safe run =
    let earlier : moment_of new ≡ length run.added + moment_of old = moments_added old new run.added run.goes_on in
    record {
      added = run.added ++ safe.added;
      goes_on = run.goes_on ∙ ap (λ (l : List Disk). run.added ++ l) safe.goes_on
          ∙ sym (append_assoc run.added safe.added (disks first));
      images = λ t image from within left.
          let most : marks_by marks t ≤ length history = omega (arith, marks_by-most marks t, safe.one_each) in
          either_moment old new run.added t image _ (IsLeft OpensTo base history
          ((length history, entry) ∷ []) marks first t image) run.goes_on run.each within left
          (λ early there. is_left_by base history history ((length history, entry) ∷ []) marks marks first t image refl
          (leaves_beside image base history ((length history, entry) ∷ []) (marks_by marks t))
          (safe.images t image from early there))
          (λ either. elim either [
            | inl opens ↦ inl (leaves_all image base history ((length history, entry) ∷ []) _ most opens)
            | inr opens ↦ inl (leaves_doubt image base history entry _ most opens)
          ]);
      one_each = safe.one_each;
      marks_rise = safe.marks_rise;
      none_later = none_later-more marks (moment_of old) (moment_of new) (omega arith) safe.none_later;
    }

-- nothing has happened
pub crash_still : (base : BaseData) (story : Story) → CrashSafe OpensTo base [] [] [] story story
crash_still base story = record {
  added = [];
  goes_on = refl;
  images = λ t image from within left. inr (
    omega arith,
    refl,
    left_now
        (λ image. IsImage story.now.disk image) story t image (λ image is. is) (omega arith) left,
  );
  one_each = refl;
  marks_rise = tt;
  none_later = tt;
}

-- ---- the base alone, or with the entry that is in doubt

-- all of a history, or of that with the doubtful entry
leaves_with : (image : Files) (base : BaseData) (history : List EntryData) (doubt : Option EntryData) (k : ℕ)
    → k ≤ length history → OpensWith base history doubt image
    → Leaves (OpensTo image) base history (doubts history doubt) k
leaves_with image base history None k within opens = leaves_all image base history [] k within opens
leaves_with image base history (Some entry) k within (inl opens) =
    leaves_all image base history ((length history, entry) ∷ []) k within opens
leaves_with image base history (Some entry) k within (inr opens) =
    leaves_doubt image base history entry k within opens

-- Moments at which each image opens to all of the history, or to that with the entry in doubt, leave it safe.
pub crash_kept : (base : BaseData) (history : List EntryData) (doubt : Option EntryData) (marks : List ℕ)
    (first old new : Story) → CrashSafe OpensTo base history (doubts history doubt) marks first old
    → Run (EachImage (OpensWith base history doubt)) old new
    → CrashSafe OpensTo base history (doubts history doubt) marks first new
crash_kept base history doubt marks first old new safe run =
    let earlier : moment_of new ≡ length run.added + moment_of old = moments_added old new run.added run.goes_on in
    record {
      added = run.added ++ safe.added;
      goes_on = run.goes_on ∙ ap (λ (l : List Disk). run.added ++ l) safe.goes_on
          ∙ sym (append_assoc run.added safe.added (disks first));
      images = λ t image from within left.
          let most : marks_by marks t ≤ length history = omega (arith, marks_by-most marks t, safe.one_each) in
          either_moment old new run.added t image (OpensWith base history doubt) (IsLeft OpensTo base history
          (doubts history doubt) marks first t image) run.goes_on run.each within left
          (λ early there. safe.images t image from early there)
          (λ opens. inl (leaves_with image base history doubt _ most opens));
      one_each = safe.one_each;
      marks_rise = safe.marks_rise;
      none_later = none_later-more marks (moment_of old) (moment_of new) (omega arith) safe.none_later;
    }
