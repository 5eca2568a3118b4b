-- Runs over several openings: what a crash leaves of two that come one behind the other.
use Rattle.std.proofs.Common.{◌≡◌, ◌⊎◌, ⊎_elim, ℕ, suc, ◌+◌, ◌<◌, ◌≤◌, true, false, leb, List, [], ◌∷◌, ◌++◌, length}
use Rattle.std.proofs.Common.{take}
use Rattle.std.proofs.Common.{Option, Some, None, refl, sym, ap, ◌∙◌, subst, inl, inr, arith, length-append}
use Rattle.std.proofs.Common.{take_all, append_assoc}
use Rattle.std.specs.List.{AllByRecursion}
use Rattle.std.proofs.lemmas.List.{take-append-le, append-nil}
use Rattle.std.proofs.lemmas.Bool.Decides.{leb_tells}
use Rattle.ori_volume.specs.Disk.{Disk, Files, IsImage}
use Rattle.ori_volume.specs.Story.{Story, disks, moment_of}
use Rattle.ori_spec_data.specs.Base.{BaseData, EntryData}
use Rattle.ori_spec_data.specs.Apply.{apply, replay}
use Rattle.ori_spec_crash.specs.Crash.{marks_by, AreMarks, LeftAt, IsAmong, Leaves, doubts, IsLeft, CrashSafe}
use Rattle.ori_spec_crash.specs.Crash.{AreWithin}
use Rattle.ori_spec_crash.specs.Crash.{OpensWhole, IsClosed}
use Rattle.ori_spec_crash.proofs.Marks.{moments_added, left_before, marks_by-append, marks_by-most, none_yet, all_by}
use Rattle.ori_spec_crash.proofs.Marks.{AreMarks-append, most-append, among-left, among-right, place_within}
use Rattle.ori_spec_crash.proofs.Marks.{within_more}
use Rattle.ori_spec_crash.proofs.Marks.{replay-append, take-beyond}

-- ---- one image

module _ (opens : BaseData → Type 0) (base : BaseData) (history more : List EntryData)
    (doubtful others : List (ℕ × EntryData)) where
  -- the base after so many entries is that of the longer history
  opens_longer : (m : ℕ) → m ≤ length history → opens (replay base (take m history))
      → opens (replay base (take m (history ++ more)))
  opens_longer m within h =
      subst (λ (l : List EntryData). opens (replay base l)) (sym (take-append-le m history more within)) h

  -- what was left of a history is left of a longer one
  leaves_longer : (k : ℕ) → AreWithin (length history) doubtful → Leaves opens base history doubtful k
      → Leaves opens base (history ++ more) (doubtful ++ others) k
  leaves_longer k within (inl (m, from, most, h)) =
      inl (m, from, omega (arith, most, length-append history more), opens_longer m most h)
  leaves_longer k within (inr (d, among, from, h)) =
      inr (
        d,
        among-left d doubtful others among,
        from,
        subst (λ (l : List EntryData). opens (apply (replay base l) d.1))
            (sym (take-append-le d.0 history more (place_within (length history) d doubtful within among))) h,
      )

-- the whole history, or that with the entry in doubt, is left of a longer one
leaves_whole : (opens : BaseData → Type 0) (base : BaseData) (history more : List EntryData) (doubt : Option EntryData)
    (failed others : List (ℕ × EntryData)) (k : ℕ) → k ≤ length history → OpensWhole opens base history doubt
    → Leaves opens base (history ++ more) ((failed ++ doubts history doubt) ++ others) k
leaves_whole opens base history more doubt failed others k most (inl h) =
    inl (
      length history,
      most,
      omega (arith, length-append history more),
      opens_longer opens base history more [] [] (length history) (omega arith)
          (subst (λ (l : List EntryData). opens (replay base l))
          (sym (take_all (length history) history (omega arith))) h),
    )
leaves_whole opens base history more doubt failed others k most (inr (e, is, h)) =
    inr (
      (length history, e),
      among-left (length history, e) (failed ++ doubts history doubt) others
          (among-right (length history, e) failed (doubts history doubt)
          (subst (λ (d : Option EntryData). IsAmong (length history, e) (doubts history d)) (sym is) (inl refl))),
      most,
      subst (λ (l : List EntryData). opens (apply (replay base l) e))
          (sym (take-append-le (length history) history more (omega arith)
          ∙ take_all (length history) history (omega arith))) h,
    )

-- What is left of a history behind another is left of both.
module _ (opens : BaseData → Type 0) (base mid : BaseData) (past feed : List EntryData)
    (is : mid ≡ replay base past) where
  behind : (m : ℕ) → replay mid (take m feed) ≡ replay base (take (length past + m) (past ++ feed))
  behind m =
      ap (λ (b : BaseData). replay b (take m feed)) is ∙ sym (replay-append base past (take m feed))
      ∙ ap (λ (l : List EntryData). replay base l) (sym (take-beyond past feed m))

  leaves_behind : (doubt : Option EntryData) (failed : List (ℕ × EntryData)) (j k : ℕ) → j ≤ length past
      → Leaves opens mid feed (doubts feed doubt) k
      → Leaves opens base (past ++ feed) (failed ++ doubts (past ++ feed) doubt) (j + k)
  leaves_behind doubt failed j k most (inl (m, from, within, h)) =
      inl (
        length past + m,
        omega (arith, most, from),
        omega (arith, within, length-append past feed),
        subst opens (behind m) h,
      )
  leaves_behind None failed j k most (inr (d, among, from, h)) = absurd among
  leaves_behind (Some e) failed j k most (inr (d, inr among, from, h)) = absurd among
  leaves_behind (Some e) failed j k most (inr (d, inl same, from, h)) =
      let place : d.0 ≡ length feed = ap (λ (p : ℕ × EntryData). p.0) same in
      let all : length past + length feed ≡ length (past ++ feed) = sym (length-append past feed) in
      inr (
        (length (past ++ feed), e),
        among-right (length (past ++ feed), e) failed ((length (past ++ feed), e) ∷ []) (inl refl),
        omega (arith, most, from, place, all),
        subst (λ (b : BaseData). opens (apply b e))
            (ap (λ (n : ℕ). replay mid (take n feed)) place ∙ behind (length feed)
            ∙ ap (λ (n : ℕ). replay base (take n (past ++ feed))) all)
            (subst (λ (x : EntryData). opens (apply (replay mid (take d.0 feed)) x))
            (ap (λ (p : ℕ × EntryData). p.1) same) h),
      )

-- ---- two runs

-- The first run came to an opening's end; the second goes on from there, over a base that the files opened to then.
module _ (opens : Files → BaseData → Type 0) (base mid : BaseData) (history feed : List EntryData)
    (failed : List (ℕ × EntryData)) (doubt late : Option EntryData) (marks after : List ℕ) (first old now : Story)
    (closed : IsClosed opens base history failed doubt marks first old)
    (run : CrashSafe opens mid feed (doubts feed late) after old now) where
  abbrev Doubtful : List (ℕ × EntryData)
  Doubtful = failed ++ doubts history doubt

  within_doubt : (d : Option EntryData) → AreWithin (length history) (doubts history d)
  within_doubt None = tt
  within_doubt (Some e) = (omega arith, tt)

  places : AreWithin (length history) Doubtful
  places = within_more (length history) (length history) failed (doubts history doubt) (omega arith) closed.within
      (within_doubt doubt)

  order : moment_of first ≤ moment_of old
  order = omega (arith, moments_added first old closed.crash.added closed.crash.goes_on)

  later : moment_of old ≤ moment_of now
  later = omega (arith, moments_added old now run.added run.goes_on)

  -- a moment before the second run
  before : (more : List EntryData) (others : List (ℕ × EntryData)) (ns : List ℕ) (t : ℕ) (image : Files)
      → moment_of first ≤ t → t < moment_of old → AreMarks (moment_of old) ns → LeftAt now t image
      → IsLeft opens base (history ++ more) (Doubtful ++ others) (marks ++ ns) first t image
  before more others ns t image from early are left =
      let there = left_before old now run.added t image run.goes_on (omega (arith, early)) left in
      let none : marks_by ns t ≡ 0 = none_yet (moment_of old) ns t are early in
      let same : marks_by (marks ++ ns) t ≡ marks_by marks t = omega (arith, marks_by-append marks ns t, none) in
      elim (closed.crash.images t image from (omega (arith, early)) there) [
        | inl leaves ↦ inl (subst
            (λ (k : ℕ). Leaves (opens image) base (history ++ more) (Doubtful ++ others) k) (sym same)
            (leaves_longer (opens image) base history more Doubtful others (marks_by marks t) places leaves))
        | inr settling ↦ inr (settling.0, same ∙ settling.1, settling.2)
      ]

  -- all marks of the first run count in the second
  counted : (t : ℕ) → moment_of old ≤ t → marks_by marks t ≡ length history
  counted t from = all_by (moment_of old) marks t closed.crash.none_later from ∙ closed.crash.one_each

  -- the second run's marks, behind those of the first
  rising : (ns : List ℕ) → AreMarks (moment_of old) ns → AreMarks (moment_of first) (marks ++ ns)
  rising ns are =
      AreMarks-append (moment_of first) (moment_of old) marks ns closed.crash.marks_rise closed.crash.none_later order
      are

  composed : (more : List EntryData) (others : List (ℕ × EntryData)) (ns : List ℕ) → AreMarks (moment_of old) ns
      → AllByRecursion (λ m. m ≤ moment_of now) ns → length ns ≡ length more
      → ((t : ℕ) (image : Files) → moment_of old ≤ t → t ≤ moment_of now → LeftAt now t image
      → Leaves (opens image) base (history ++ more) (Doubtful ++ others) (length history + marks_by ns t))
      → CrashSafe opens base (history ++ more) (Doubtful ++ others) (marks ++ ns) first now
  composed more others ns are most one_each second = record {
    added = run.added ++ closed.crash.added;
    goes_on = run.goes_on ∙ ap (λ (l : List Disk). run.added ++ l) closed.crash.goes_on
        ∙ sym (append_assoc run.added closed.crash.added (disks first));
    images = λ t image from within left. ⊎_elim
        (λ (h : (leb (moment_of old) t ≡ true) × (moment_of old ≤ t)). inl (subst
        (λ (k : ℕ). Leaves (opens image) base (history ++ more) (Doubtful ++ others) k)
        (sym (marks_by-append marks ns t ∙ ap (λ (n : ℕ). n + marks_by ns t) (counted t h.1)))
        (second t image h.1 within left)))
        (λ (h : (leb (moment_of old) t ≡ false) × (t < moment_of old)).
        before more others ns t image from h.1 are left) (leb_tells (moment_of old) t);
    one_each = omega (
      arith,
      length-append marks ns,
      length-append history more,
      closed.crash.one_each,
      one_each,
    );
    marks_rise = rising ns are;
    none_later = most-append (moment_of old) (moment_of now) marks ns later closed.crash.none_later most;
  }

  -- Nothing was found: the second run goes on behind the history.
  pub crash_behind : mid ≡ replay base history
      → CrashSafe opens base (history ++ feed) (Doubtful ++ doubts (history ++ feed) late) (marks ++ after) first now
  crash_behind is =
      composed feed (doubts (history ++ feed) late) after run.marks_rise run.none_later run.one_each
      (λ t image from within left. elim (run.images t image from within left) [
        | inl leaves ↦ leaves_behind (opens image) base mid history feed is late Doubtful (length history)
            (marks_by after t) (omega arith) leaves
        | inr settling ↦ leaves_whole (opens image) base history feed doubt failed (doubts (history ++ feed) late)
            (length history + marks_by after t) (omega (arith, settling.1)) (closed.whole image settling.2)
      ])

  -- an entry was found by an opening that ended at this story, from which on its base stands
  pub record IsFoundAt (e : EntryData) (at : Story) : Type 0 where
    pub doubted : doubt ≡ Some e
    pub base_is : mid ≡ apply (replay base history) e
    pub later : moment_of old ≤ moment_of at
    pub since : CrashSafe opens mid feed (doubts feed late) after at now
    pub stands : (image : Files) → IsImage at.now.disk image → opens image mid

  -- the opening's end is among the moments of the second run
  ended_by : (e : EntryData) (at : Story) → IsFoundAt e at → moment_of at ≤ moment_of now
  ended_by e at f = omega (arith, moments_added at now f.since.added f.since.goes_on)

  with_found : (e : EntryData) (at : Story) → IsFoundAt e at → mid ≡ replay base (history ++ e ∷ [])
  with_found e at f = f.base_is ∙ sym (replay-append base history (e ∷ []))

  grown : (e : EntryData) → length (history ++ e ∷ []) ≡ length history + 1
  grown e = length-append history (e ∷ [])

  -- a prefix behind the entry that was found is one of the whole
  found_prefix : (e : EntryData) (at : Story) → IsFoundAt e at → (image : Files) (k : ℕ)
      → Leaves (opens image) mid feed (doubts feed late) k
      → Leaves (opens image) base (history ++ e ∷ feed) (Doubtful ++ doubts (history ++ e ∷ feed) late)
      (length history + 1 + k)
  found_prefix e at f image k leaves =
      subst (λ (l : List EntryData).
      Leaves (opens image) base l (Doubtful ++ doubts l late) (length history + 1 + k))
      (append_assoc history (e ∷ []) feed)
      (leaves_behind (opens image) base mid (history ++ e ∷ []) feed (with_found e at f) late Doubtful
      (length history + 1) k (omega (arith, grown e)) leaves)

  -- the entry's mark, and those behind it
  marks_found : (e : EntryData) (at : Story) (t : ℕ) → marks_by (moment_of at ∷ after) t ≤ 1 + marks_by after t
  marks_found e at t =
      omega (arith, marks_by-append (moment_of at ∷ []) after t, marks_by-most (moment_of at ∷ []) t)

  -- from the opening's end on
  found_after : (e : EntryData) (at : Story) → IsFoundAt e at → (t : ℕ) (image : Files) → moment_of at ≤ t
      → t ≤ moment_of now → LeftAt now t image
      → Leaves (opens image) base (history ++ e ∷ feed) (Doubtful ++ doubts (history ++ e ∷ feed) late)
      (length history + 1 + marks_by after t)
  found_after e at f t image from within left =
      elim (f.since.images t image from within left) [
        | inl leaves ↦ found_prefix e at f image (marks_by after t) leaves
        | inr settling ↦ found_prefix e at f image (marks_by after t)
            (inl (0, omega (arith, settling.1), omega arith, f.stands image settling.2))
      ]

  -- while the opening goes on
  found_during : (e : EntryData) (at : Story) → IsFoundAt e at → (t : ℕ) (image : Files) → moment_of old ≤ t
      → t < moment_of at → t ≤ moment_of now → LeftAt now t image
      → Leaves (opens image) base (history ++ e ∷ feed) (Doubtful ++ doubts (history ++ e ∷ feed) late) (length history)
  found_during e at f t image from early within left =
      elim (run.images t image from within left) [
        | inl leaves ↦ fewer (marks_by after t) (found_prefix e at f image (marks_by after t) leaves)
        | inr settling ↦ leaves_whole (opens image) base history (e ∷ feed) doubt failed
            (doubts (history ++ e ∷ feed) late) (length history) (omega arith) (closed.whole image settling.2)
      ]
    where
      fewer : (k : ℕ) → Leaves (opens image) base (history ++ e ∷ feed) (Doubtful ++ doubts (history ++ e ∷ feed) late)
          (length history + 1 + k)
          → Leaves (opens image) base (history ++ e ∷ feed) (Doubtful ++ doubts (history ++ e ∷ feed) late)
          (length history)
      fewer k (inl (m, most, rest, h)) = inl (m, omega (arith, most), rest, h)
      fewer k (inr (d, among, most, h)) = inr (d, among, omega (arith, most), h)

  -- no more marks count than that
  at_least : (e : EntryData) (at : Story) (t k : ℕ) (image : Files)
      → length history + marks_by (moment_of at ∷ after) t ≤ k
      → Leaves (opens image) base (history ++ e ∷ feed) (Doubtful ++ doubts (history ++ e ∷ feed) late) k
      → Leaves (opens image) base (history ++ e ∷ feed) (Doubtful ++ doubts (history ++ e ∷ feed) late)
      (length history + marks_by (moment_of at ∷ after) t)
  at_least e at t k image few (inl (m, most, rest, h)) = inl (m, omega (arith, most, few), rest, h)
  at_least e at t k image few (inr (d, among, most, h)) = inr (d, among, omega (arith, most, few), h)

  -- The entry in doubt was found: it joins the history, with the moment when the opening ended for its mark.
  pub crash_found : (e : EntryData) (at : Story) → IsFoundAt e at
      → CrashSafe opens base (history ++ e ∷ feed) (Doubtful ++ doubts (history ++ e ∷ feed) late)
      (marks ++ moment_of at ∷ after) first now
  crash_found e at f =
      let rise : AreMarks (moment_of at) (moment_of at ∷ after) = (omega arith, f.since.marks_rise) in
      composed (e ∷ feed) (doubts (history ++ e ∷ feed) late) (moment_of at ∷ after)
      (f.later, f.since.marks_rise) (ended_by e at f, f.since.none_later) (ap (λ (n : ℕ). suc n) run.one_each)
      (λ t image from within left. ⊎_elim
      (λ (h : (leb (moment_of at) t ≡ true) × (moment_of at ≤ t)).
      at_least e at t (length history + 1 + marks_by after t) image (omega (arith, marks_found e at t))
      (found_after e at f t image h.1 within left))
      (λ (h : (leb (moment_of at) t ≡ false) × (t < moment_of at)).
      at_least e at t (length history) image
      (omega (arith, none_yet (moment_of at) (moment_of at ∷ after) t rise h.1))
      (found_during e at f t image from h.1 within left)) (leb_tells (moment_of at) t))

-- ---- an opening that failed

-- Behind a run that came to its end an opening failed, over a base that the files opened to then: nothing has changed.
module _ (opens : Files → BaseData → Type 0) (base mid : BaseData) (history : List EntryData)
    (failed : List (ℕ × EntryData)) (doubt : Option EntryData) (marks : List ℕ) (first old now : Story)
    (closed : IsClosed opens base history failed doubt marks first old)
    (run : CrashSafe opens mid [] [] [] old now)
    (is : (mid ≡ replay base history)
    ⊎ ((e : EntryData) × (doubt ≡ Some e) × (mid ≡ apply (replay base history) e))) where
  whole_mid : (image : Files) → opens image mid → OpensWhole (opens image) base history doubt
  whole_mid image h =
      elim is [
        | inl same ↦ inl (subst (opens image) same h)
        | inr found ↦ inr (found.0, found.1, subst (opens image) found.2 h)
      ]

  whole_left : (t : ℕ) (image : Files) → IsLeft opens mid [] [] [] old t image
      → OpensWhole (opens image) base history doubt
  whole_left t image (inl (inl (m, from, within, h))) =
      whole_mid image (subst (λ (l : List EntryData). opens image (replay mid l))
      (take_all m [] (omega arith)) h)
  whole_left t image (inl (inr (d, among, from, h))) = absurd among
  whole_left t image (inr settling) = closed.whole image settling.2

  bare : CrashSafe opens base (history ++ []) ((failed ++ doubts history doubt) ++ []) (marks ++ []) first now
  bare =
      composed opens base mid history [] failed doubt None marks [] first old now closed run [] [] [] tt tt refl
      (λ t image from within left.
      leaves_whole (opens image) base history [] doubt failed [] (length history + 0) (omega arith)
      (whole_left t image (run.images t image from within left)))

  pub crash_unopened : CrashSafe opens base history (failed ++ doubts history doubt) marks first now
  crash_unopened =
      subst (λ (l : List EntryData). CrashSafe opens base l (failed ++ doubts history doubt) marks first now)
      (append-nil history)
      (subst (λ (l : List (ℕ × EntryData)). CrashSafe opens base (history ++ []) l marks first now)
      (append-nil (failed ++ doubts history doubt))
      (subst (λ (l : List ℕ). CrashSafe opens base (history ++ []) ((failed ++ doubts history doubt) ++ []) l first now)
      (append-nil marks) bare))
