-- What a commit that is refused leaves of the device and the partitions, and what is told of them then.
use Rattle.std.proofs.Common.{◌≡◌, ◌⊎◌, inl, inr, ℕ, ◌<◌, List, length, Option, Some, None, IsSome, IfSome, IsErrOf, Result, Ok, Err, IfOk, OnErr}
use Rattle.std.proofs.Common.{refl, sym, ap, ◌∙◌, subst, slice_index_or}
use Rattle.std.specs.Prelude.{⊤}
use Rattle.std.specs.Option.{option_map}
use Rattle.ori_bytes.specs.declared.limits.TheConstants.{PARTITIONS}
use Rattle.ori_volume.specs.Disk.{Files}
use Rattle.ori_volume.specs.Story.{Story, Tells}
use Rattle.ori_volume.proofs.Known.{some_then, tells_map, tells_same}
use Rattle.ori_log.specs.declared.log.Log.{Log}
use Rattle.ori_part.specs.Parts.{PartData, no_pages}
use Rattle.ori_pool.specs.declared.device.Device.{Device}
use Rattle.ori_pool.specs.declared.fault.OpFault.{OpFault}
use Rattle.ori_pool.specs.declared.fault.OpFault.TheVariants.{Fault, Halted, Busy, NoMemory}
use Rattle.ori_pool.specs.Devices.{HaltsOp}
use Rattle.ori_pool.specs.Held.{HasNoBare, HaveNoBare}
use Rattle.ori_turns.specs.Seats.{Seat, Told, Last, IsTold, PartsStay, told_at, told_device, took_device, gave_device}
use Rattle.ori_turns.specs.Caches.{Cache, GivesCache}
use Rattle.ori_turns.specs.Hands.{EachHeld, GivesParts, GaveParts, told_part_or}
use Rattle.ori_turns.specs.Committed.{StaysAs, LeavesHand, PartsTrimmed, IfDone}
use Rattle.ori_turns.proofs.Synced.{Hand}
use Rattle.ori_turns.proofs.Untouched.{part_same}

abbrev AreTold : {D : Type 0} → Hand → Option (Told D) → Type 0
AreTold hand o = IfSome o (λ told. EachHeld (λ k part. part ≡ told_at told k) hand)

-- ---- the device was given back

module _ {D : Type 0} (taken given : D) where
  told_back : (o : Option (Told D)) → IfSome o (λ (t : Told D). taken ≡ t.device) → given ≡ taken
      → option_map (told_device given) o ≡ o
  told_back None is same = refl
  told_back (Some t) is same = ap (λ d. Some (told_device d t)) (same ∙ is)

  stay_told : (o : Option (Told D)) → Tells PartsStay o (option_map (told_device given) o)
  stay_told None = refl
  stay_told (Some t) = (told_device given t, refl, refl)

  are_told : (hand : Hand) (o : Option (Told D)) → AreTold hand o → AreTold hand (option_map (told_device given) o)
  are_told hand None is = tt
  are_told hand (Some t) is = is

  module _ (last : Last) (a b : Seat D) (gave : b ≡ gave_device given last (took_device taken a)) where
    -- as it was taken
    pub device_back : IsTold (λ told. taken ≡ told.device) a → given ≡ taken → b.told ≡ a.told
    device_back is same = ap (λ (s : Seat D). s.told) gave ∙ told_back a.told is same

    pub parts_stay : Tells PartsStay a.told b.told
    parts_stay = subst (λ (o : Option (Told D)). Tells PartsStay a.told o) (sym (ap (λ (s : Seat D). s.told) gave))
        (stay_told a.told)

    pub parts_told : (hand : Hand) → AreTold hand a.told → AreTold hand b.told
    parts_told hand is = subst (AreTold hand) (sym (ap (λ (s : Seat D). s.told) gave)) (are_told hand a.told is)

-- ---- what the device's half leaves

module _ {T : Type 0} (done : Result T OpFault) (halted now : Option ℕ) (a b c : ℕ) (log : Option Log)
    (halts : halted ≡ None → HaltsOp a b c log now done) where
  pub stays_as : {D : Type 0} (taken given : D) → (IsErrOf done NoMemory → given ≡ taken)
      → ((at : ℕ) → halted ≡ Some at → (done ≡ Err (Halted at)) × (given ≡ taken)) → StaysAs done taken given
  stays_as taken given memory stays = by halted refl
    where
      of_none : (r : Result T OpFault) → HaltsOp a b c log now r → (IsErrOf r NoMemory → given ≡ taken)
          → StaysAs r taken given
      of_none (Ok value) h same = tt
      of_none (Err (Fault doubt)) h same = tt
      of_none (Err (Halted at)) h same = absurd h
      of_none (Err (Busy turn)) h same = tt
      of_none (Err NoMemory) h same = same refl

      by : (o : Option ℕ) → halted ≡ o → StaysAs done taken given
      by None none = of_none done (halts none) memory
      by (Some at) some = let stay = stays at some in
          subst (λ (r : Result T OpFault). StaysAs r taken given) (sym stay.0) stay.1

  pub leaves_hand : {D : Type 0} (seat : Seat D) (old new : Hand) → (halted ≡ None → OnErr done (HaveNoBare new))
      → ((at : ℕ) → halted ≡ Some at → (done ≡ Err (Halted at)) × (new ≡ old)) → AreTold old seat.told
      → LeavesHand done seat new
  leaves_hand seat old new bare stays told = by halted refl
    where
      of_none : (r : Result T OpFault) → HaltsOp a b c log now r → OnErr r (HaveNoBare new) → LeavesHand r seat new
      of_none (Ok value) h no_bare = tt
      of_none (Err (Fault doubt)) h no_bare = no_bare
      of_none (Err (Halted at)) h no_bare = absurd h
      of_none (Err (Busy turn)) h no_bare = absurd h
      of_none (Err NoMemory) h no_bare = no_bare

      by : (o : Option ℕ) → halted ≡ o → LeavesHand done seat new
      by None none = of_none done (halts none) (bare none)
      by (Some at) some = let stay = stays at some in
          subst (λ (r : Result T OpFault). LeavesHand r seat new) (sym stay.0)
          (subst (λ (h : Hand). AreTold h seat.told) (sym stay.1) told)

-- ---- the partitions were given back

abbrev Trimmed : PartData → PartData → Type 0
Trimmed old new = (new ≡ old) ⊎ HasNoBare (Some new)

one_bare : (hand : Hand) → HaveNoBare hand → (old : PartData) (k : ℕ) (o : Option PartData)
    → slice_index_or hand k None ≡ o → Trimmed old (told_part_or o old)
one_bare hand bare old k None is = inl refl
one_bare hand bare old k (Some part) is = inr (subst HasNoBare is (bare k))

module _ {D : Type 0} (hand : Hand) where
  trimmed_then : (o p q : Option (Told D)) → Tells PartsStay o p → Tells (GivesParts (λ k. k < PARTITIONS) hand) p q
      → IfSome p (λ (t : Told D). (k : ℕ)
      → Trimmed (told_at t k) (told_part_or (slice_index_or hand k None) (told_at t k))) → Tells PartsTrimmed o q
  trimmed_then None p q stay gave each =
      subst (λ (w : Option (Told D)). Tells (GivesParts (λ k. k < PARTITIONS) hand) w q) stay gave
  trimmed_then (Some x) p q stay gave each =
      let y : Told D = stay.0 in
      let then = subst (λ (w : Option (Told D)). Tells (GivesParts (λ k. k < PARTITIONS) hand) w q) stay.1 gave in
      let parts = subst (λ (w : Option (Told D)). IfSome w (λ (t : Told D). (k : ℕ)
      → Trimmed (told_at t k) (told_part_or (slice_index_or hand k None) (told_at t k)))) stay.1 each in (
        then.0,
        then.1,
        λ k low. subst (λ (l : List PartData). Trimmed (slice_index_or l k no_pages) (told_at then.0 k)) stay.2
            (subst (λ (part : PartData). Trimmed (told_at y k) part) (sym (then.2.given k low)) (parts k)),
      )

  some_bare : HaveNoBare hand → (p : Option (Told D)) → IfSome p (λ (t : Told D). (k : ℕ)
      → Trimmed (told_at t k) (told_part_or (slice_index_or hand k None) (told_at t k)))
  some_bare bare None = tt
  some_bare bare (Some t) = λ k. one_bare hand bare (told_at t k) k (slice_index_or hand k None) refl

  some_told : (p : Option (Told D)) → AreTold hand p → IfSome p (λ (t : Told D). (k : ℕ)
      → Trimmed (told_at t k) (told_part_or (slice_index_or hand k None) (told_at t k)))
  some_told None told = tt
  some_told (Some t) told = λ k. inl (part_same hand t k (slice_index_or hand k None) refl told)

  pub trimmed_of : {T : Type 0} (done : Result T OpFault) (a m b : Seat D) → LeavesHand done m hand
      → Tells PartsStay a.told m.told → GaveParts (λ k. k < PARTITIONS) hand m b
      → OnErr done (Tells PartsTrimmed a.told b.told)
  trimmed_of (Ok value) a m b leaves stay gave = tt
  trimmed_of (Err (Fault doubt)) a m b leaves stay gave =
      trimmed_then a.told m.told b.told stay gave.told (some_bare leaves m.told)
  trimmed_of (Err (Halted at)) a m b leaves stay gave =
      trimmed_then a.told m.told b.told stay gave.told (some_told m.told leaves)
  trimmed_of (Err (Busy turn)) a m b leaves stay gave =
      trimmed_then a.told m.told b.told stay gave.told (some_told m.told leaves)
  trimmed_of (Err NoMemory) a m b leaves stay gave =
      trimmed_then a.told m.told b.told stay gave.told (some_bare leaves m.told)

-- after these the partitions are given back as they were taken
pub busy_told : {D T : Type 0} (done : Result T OpFault) (seat : Seat D) (hand : Hand) (turn : ℕ)
    → IsErrOf done (Busy turn) → LeavesHand done seat hand → AreTold hand seat.told
busy_told (Ok value) seat hand turn is leaves = cc is
busy_told (Err (Fault doubt)) seat hand turn is leaves = cc is
busy_told (Err (Halted at)) seat hand turn is leaves = leaves
busy_told (Err (Busy other)) seat hand turn is leaves = leaves
busy_told (Err NoMemory) seat hand turn is leaves = cc is

pub halted_told : {D T : Type 0} (done : Result T OpFault) (seat : Seat D) (hand : Hand) (at : ℕ)
    → IsErrOf done (Halted at) → LeavesHand done seat hand → AreTold hand seat.told
halted_told (Ok value) seat hand at is leaves = cc is
halted_told (Err (Fault doubt)) seat hand at is leaves = cc is
halted_told (Err (Halted other)) seat hand at is leaves = leaves
halted_told (Err (Busy turn)) seat hand at is leaves = leaves
halted_told (Err NoMemory) seat hand at is leaves = cc is

pub halted_same : {D T : Type 0} (done : Result T OpFault) (taken given : D) (at : ℕ) → IsErrOf done (Halted at)
    → StaysAs done taken given → given ≡ taken
halted_same (Ok value) taken given at is stays = cc is
halted_same (Err (Fault doubt)) taken given at is stays = cc is
halted_same (Err (Halted other)) taken given at is stays = stays
halted_same (Err (Busy turn)) taken given at is stays = cc is
halted_same (Err NoMemory) taken given at is stays = stays

-- ---- the bytes

-- a volume that tells them goes on telling them
pub files_told : (halted : Option ℕ) (F : Files → Files → Type 0) (f g : Option Files) → (halted ≡ None → Tells F f g)
    → ((at : ℕ) → halted ≡ Some at → g ≡ f) → Tells (λ (old new : Files). ⊤) f g
files_told None F f g read same = tells_map F _ f g (λ x y known step. tt) (read refl)
files_told (Some at) F f g read same = tells_same _ f g (λ x. tt) (same at refl)

-- ---- the records of a log that stands

pub stands_count : (given : Option Log) (halted : Option ℕ) (s : Option Story) (f : Option Files) (cache : Cache)
    (tail : ℕ) → IsSome given → IfSome given (λ (log : Log). tail ≡ log.tail) → halted ≡ None
    → GivesCache given halted s f cache → length cache.records ≡ tail
stands_count None halted s f cache tail some knows none gives = cc some
stands_count (Some log) (Some at) s f cache tail some knows none gives = cc none
stands_count (Some log) None (Some x) f cache tail some knows none gives =
    sym (knows ∙ gives.stands.attached.counts)
stands_count (Some log) None None (Some x) cache tail some knows none gives = sym (knows ∙ gives.stands.counts)
stands_count (Some log) None None None cache tail some knows none gives = absurd gives.stands

-- ---- the moment at which it ended

pub ended_told : {V : Type 0} (moment : V → ℕ) (done : Result ℕ OpFault) (P : Result ℕ OpFault → Type 0)
    (seat : Seat (Device V)) → ((r : Result ℕ OpFault) → P r → (given : Device V)
    × IsTold (λ told. given ≡ told.device) seat × IfOk r (λ at. at ≡ moment given.volume)) → IfDone done P
    → IfOk done (λ at. IsTold (λ told. at ≡ moment told.device.volume) seat)
ended_told moment (Ok at) P seat step did = let given = step (Ok at) did in
    some_then seat.told _ _ (λ t same. given.2 ∙ ap (λ (d : Device _). moment d.volume) same) given.1
ended_told moment (Err why) P seat step did = tt
