-- What a crash at any moment of a run leaves, where it is known which base the files open to.
use Rattle.std.specs.Prelude.{◌≡◌, ◌⊎◌, ℕ, ◌+◌, ◌-◌, ◌≤◌, nat_le, if◌then◌else◌, List, [], ◌∷◌, ◌++◌, length, take}
use Rattle.std.specs.Prelude.{drop, Any, Option, Some, None, ⊤}
use Rattle.std.specs.List.{AllByRecursion}
use Rattle.ori_volume.specs.Disk.{Disk, Files, IsImage}
use Rattle.ori_volume.specs.Story.{Story, moment_of, disks}
use Rattle.ori_spec_data.specs.Base.{BaseData, EntryData}
use Rattle.ori_spec_data.specs.Apply.{apply, replay}

-- how many of these marks are at most that moment
abbrev pub marks_by : List ℕ → ℕ → ℕ
marks_by [] t = 0
marks_by (m ∷ ms) t = (if nat_le m t then 1 else 0) + marks_by ms t

-- the marks never fall, from that moment on
abbrev pub AreMarks : ℕ → List ℕ → Type 0
AreMarks low [] = ⊤
AreMarks low (m ∷ ms) = (low ≤ m) × AreMarks m ms

-- a crash at that moment, which is none after the story's, may have left this
abbrev pub LeftAt : Story → ℕ → Files → Type 0
LeftAt story t image = Any (λ disk. IsImage disk image) (take 1 (drop (moment_of story - t) (disks story)))

-- The moments that the opening's first four syncs may take.
abbrev pub opening_syncs : ℕ
opening_syncs = 4

-- it is one of them
abbrev pub IsAmong : (ℕ × EntryData) → List (ℕ × EntryData) → Type 0
IsAmong d [] = ⊥
IsAmong d (e ∷ es) = (d ≡ e) ⊎ IsAmong d es

-- What opens does so to the base after the first m entries of the history, for an m from k on; or to that with an entry
-- after it whose own write failed when the history had m entries.
abbrev pub Leaves : (BaseData → Type 0) → BaseData → List EntryData → List (ℕ × EntryData) → ℕ → Type 0
Leaves opens base history doubtful k =
    ((m : ℕ) × (k ≤ m) × (m ≤ length history) × opens (replay base (take m history)))
    ⊎ ((d : ℕ × EntryData) × IsAmong d doubtful × (k ≤ d.0) × opens (apply (replay base (take d.0 history)) d.1))

-- an entry in doubt, at the history's end
abbrev pub doubts : List EntryData → Option EntryData → List (ℕ × EntryData)
doubts entries None = []
doubts entries (Some entry) = (length entries, entry) ∷ []

-- An image of that moment opens to a base of the history with every entry whose mark isn't later, or to that with a
-- doubtful entry. While the opening makes the files firm it may be one that was allowed at entry.
abbrev pub IsLeft : (Files → BaseData → Type 0) → BaseData → List EntryData → List (ℕ × EntryData) → List ℕ → Story
    → ℕ → Files → Type 0
IsLeft opens base history doubtful marks old t image =
    Leaves (opens image) base history doubtful (marks_by marks t)
    ⊎ ((t ≤ moment_of old + opening_syncs) × (marks_by marks t ≡ 0) × IsImage old.now.disk image)

-- From the old story to the new one a crash at any moment leaves a prefix of the history with each entry that was
-- acknowledged, or that was found by a reopening: those whose mark isn't later than the moment. There is one mark for
-- each entry. The story may go over several openings; only the first of them may leave what was allowed at entry.
pub record CrashSafe (opens : Files → BaseData → Type 0) (base : BaseData) (history : List EntryData)
    (doubtful : List (ℕ × EntryData)) (marks : List ℕ) (old new : Story) : Type 0 where
  pub added : List Disk
  pub goes_on : disks new ≡ added ++ disks old
  pub images : (t : ℕ) (image : Files) → moment_of old ≤ t → t ≤ moment_of new → LeftAt new t image
      → IsLeft opens base history doubtful marks old t image
  pub one_each : length marks ≡ length history
  pub marks_rise : AreMarks (moment_of old) marks
  pub none_later : AllByRecursion (λ m. m ≤ moment_of new) marks

-- ---- from one opening to the next

-- the places of doubtful entries are within a history of that length
abbrev pub AreWithin : ℕ → List (ℕ × EntryData) → Type 0
AreWithin n doubtful = AllByRecursion (λ d. d.0 ≤ n) doubtful

-- An image opens to the base behind the whole history, or to that with the entry in doubt.
abbrev pub OpensWhole : (BaseData → Type 0) → BaseData → List EntryData → Option EntryData → Type 0
OpensWhole opens base history doubt =
    opens (replay base history)
    ⊎ ((entry : EntryData) × (doubt ≡ Some entry) × opens (apply (replay base history) entry))

-- What an opening's end leaves: a crash so far leaves what it may, and now nothing less than the whole history.
pub record IsClosed (opens : Files → BaseData → Type 0) (base : BaseData) (history : List EntryData)
    (doubtful : List (ℕ × EntryData)) (doubt : Option EntryData) (marks : List ℕ) (old now : Story) : Type 0 where
  pub crash : CrashSafe opens base history (doubtful ++ doubts history doubt) marks old now
  pub within : AreWithin (length history) doubtful
  pub whole : (image : Files) → IsImage now.now.disk image → OpensWhole (opens image) base history doubt
