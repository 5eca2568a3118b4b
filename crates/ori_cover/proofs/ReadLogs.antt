-- What a log's file reads as after an append, done or failed.
use Rattle.std.proofs.Common.{◌≡◌, ◌⊎◌, ⊎_elim, ℕ, ◌+◌, ◌-◌, ◌<◌, ◌≤◌, true, false, List, [], ◌∷◌}
use Rattle.std.proofs.Common.{◌++◌, length, take, drop, replicate, flat_map, slice_index, refl, sym, ◌∙◌, ap, arith}
use Rattle.std.proofs.Common.{append_assoc, length-append}
use Rattle.std.specs.List.{AllByRecursion}
use Rattle.std.proofs.Common.{Bool, true, false, min, if◌then◌else◌, nat_le}
use Rattle.std.specs.Int.{w32, to_be_bytes, next_multiple_of}
use Rattle.ori_log.specs.Appending.{need_of}
use Rattle.ori_log.proofs.Puts.{length-put}
use Rattle.std.proofs.lemmas.List.{length-replicate, take-append-le, take_at}
use Rattle.std.proofs.lemmas.Bool.Decides.{leb_tells}
use Rattle.ori_bytes.specs.declared.limits.TheConstants.{OPEN_GATE, CLOSED_GATE, MAX_LOG_BYTES, LOG_STEP_BYTES}
use Rattle.ori_volume.specs.Disk.{AreBytes, IsFileImage, firm_file}
use Rattle.ori_volume.specs.Effects.{put, TornBytes}
use Rattle.ori_log.specs.Log.{ImageData, body_bytes, record_bytes, IsLogRecord, IsLog}
use Rattle.ori_log.specs.Files.{zeros_behind, appended}
use Rattle.ori_log.specs.Images.{behind_gate}
use Rattle.ori_log.specs.Logs.{HoldsOneMore}
use Rattle.ori_log.proofs.Logs.{all_more, front_split, but_gate, opened, image_either}

pub firm_sound : (xs : List ℕ) → AreBytes xs → IsFileImage (firm_file xs) xs
firm_sound xs bytes =
    record { no_shorter = omega arith; no_longer = omega arith; firm = λ k within firm. refl; are_bytes = bytes }

-- a closed gate alone is a log without records
pub closed_log : IsLog (CLOSED_GATE ∷ []) []
closed_log = (CLOSED_GATE, [], refl, (λ (same : CLOSED_GATE ≡ OPEN_GATE). omega arith), tt)

-- what a write at the end of a front leaves: the front, what was written, and what was behind
put_after : (old front xs : List ℕ) (at : ℕ) → take at old ≡ front → at ≤ length old
    → put old at xs ≡ (front ++ xs) ++ drop (at + length xs) old
put_after old front xs at is within =
    ap (λ (l : List ℕ). l ++ xs ++ drop (at + length xs) old)
    (take-append-le at old (replicate (at - length old) 0) within ∙ is)

module _ (log : List ℕ) (place : ℕ) (records : List (List ImageData)) (images : List ImageData)
    (is : IsLog log records) (place_is : place ≡ length (flat_map record_bytes records))
    (record_is : IsLogRecord images) where
  abbrev front : List ℕ
  front = flat_map record_bytes records

  abbrev behind : List ℕ
  behind = behind_gate images

  within : place < length log
  within = omega (arith, ap length is.2, length-append front (is.0 ∷ is.1), place_is)

  before_gate : take place log ≡ front
  before_gate = ap (λ (l : List ℕ). take place l) is.2 ∙ take_at front (is.0 ∷ is.1) place (sym place_is)

  with_gate : take (place + 1) log ≡ front ++ is.0 ∷ []
  with_gate =
      ap (λ (l : List ℕ). take (place + 1) l) (is.2 ∙ sym (append_assoc front (is.0 ∷ []) is.1))
      ∙ take_at (front ++ is.0 ∷ []) is.1 (place + 1) (omega (arith, length-append front (is.0 ∷ []), place_is))

  whole_more : AllByRecursion IsLogRecord (records ++ images ∷ [])
  whole_more = all_more IsLogRecord records images is.4 record_is

  -- the record has joined it
  pub appended_log : IsLog (appended log place images) (records ++ images ∷ [])
  appended_log =
      let zeros : List ℕ = replicate (zeros_behind (length log) (place + 1 + length behind)) 0 in
      let rest : List ℕ = drop (place + length (OPEN_GATE ∷ behind ++ zeros)) log in
      let parts : appended log place images ≡ (front ++ (OPEN_GATE ∷ behind ++ zeros)) ++ rest =
      put_after log front (OPEN_GATE ∷ behind ++ zeros) place before_gate (omega (arith, within)) in
      let joined : (front ++ (OPEN_GATE ∷ behind ++ zeros)) ++ rest ≡ (front ++ OPEN_GATE ∷ behind) ++ (zeros ++ rest) =
      ap (λ (l : List ℕ). l ++ rest) (sym (append_assoc front (OPEN_GATE ∷ behind) zeros))
      ∙ append_assoc (front ++ OPEN_GATE ∷ behind) zeros rest in (
        CLOSED_GATE,
        zeros ++ rest,
        parts ∙ joined ∙ ap (λ (l : List ℕ). l ++ (zeros ++ rest)) (opened records images)
            ∙ append_assoc (flat_map record_bytes (records ++ images ∷ [])) (CLOSED_GATE ∷ []) (zeros ++ rest),
        (λ (same : CLOSED_GATE ≡ OPEN_GATE). omega arith),
        whole_more,
      )

  -- and is no longer than it may be, where there was room for that
  pub appended_short : length log ≤ MAX_LOG_BYTES → place + need_of images ≤ MAX_LOG_BYTES
      → length (appended log place images) ≤ MAX_LOG_BYTES
  appended_short short fits =
      let end : ℕ = place + 1 + length behind in
      let zeros : ℕ = zeros_behind (length log) end in
      let number : List ℕ = to_be_bytes w32 (length (body_bytes images)) in
      let room : end ≤ MAX_LOG_BYTES =
      omega (
        arith,
        fits,
        length-append (number ++ body_bytes images) (CLOSED_GATE ∷ []),
        length-append number (body_bytes images),
      ) in
      let few : end + zeros ≤ MAX_LOG_BYTES =
      zeros_few (nat_le end (length log)) (next_multiple_of end LOG_STEP_BYTES) end
      room in
      omega (
        arith,
        length-put log (OPEN_GATE ∷ behind ++ replicate zeros 0) place (omega (arith, within)),
        length-append behind (replicate zeros 0),
        length-replicate {A = ℕ} zeros 0,
        few,
        short,
      )
    where
      zeros_few : (test : Bool) (next end : ℕ) → end ≤ MAX_LOG_BYTES
          → end + (if test then 0 else min next MAX_LOG_BYTES - end) ≤ MAX_LOG_BYTES
      zeros_few true next end room = omega (arith, room)
      zeros_few false next end room = omega (arith, room)

  -- nothing has changed up to the gate
  pub same_log : (new : List ℕ) → take (place + 1) new ≡ take (place + 1) log → IsLog new records
  same_log new same = (
    is.0,
    drop (place + 1) new,
    front_split new (front ++ is.0 ∷ []) (place + 1) (same ∙ with_gate)
        ∙ append_assoc front (is.0 ∷ []) (drop (place + 1) new),
    is.3,
    is.4,
  )

  -- the record stands behind the gate, and the gate's write was tried
  module _ (zeros : ℕ) (new : List ℕ)
      (torn : TornBytes place 1 (put log (place + 1) (behind ++ replicate zeros 0)) new) where
    abbrev waits : List ℕ
    waits = put log (place + 1) (behind ++ replicate zeros 0)

    abbrev rest_behind : List ℕ
    rest_behind = drop (place + 1 + length (behind ++ replicate zeros 0)) log

    waits_is : waits ≡ (front ++ is.0 ∷ behind) ++ (replicate zeros 0 ++ rest_behind)
    waits_is =
        put_after log (front ++ is.0 ∷ []) (behind ++ replicate zeros 0) (place + 1) with_gate (omega (arith, within))
        ∙ ap (λ (l : List ℕ). l ++ rest_behind) (append_assoc front (is.0 ∷ []) (behind ++ replicate zeros 0)
        ∙ sym (append_assoc front (is.0 ∷ behind) (replicate zeros 0)))
        ∙ append_assoc (front ++ is.0 ∷ behind) (replicate zeros 0) rest_behind

    size : length (front ++ is.0 ∷ behind) ≡ place + 1 + length behind
    size = omega (arith, length-append front (is.0 ∷ behind), place_is)

    waits_long : place + length behind < length waits
    waits_long = omega (
      arith,
      ap length waits_is,
      length-append (front ++ is.0 ∷ behind)
          (replicate zeros 0 ++ rest_behind),
      size,
    )

    new_long : place + length behind < length new
    new_long = omega (arith, waits_long, torn.no_shorter)

    new_reads : take (place + 1 + length behind) new ≡ front ++ slice_index new place ∷ behind
    new_reads =
        but_gate waits new front behind is.0 place place_is
        (ap (λ (l : List ℕ). take (place + 1 + length behind) l) waits_is
        ∙ take_at (front ++ is.0 ∷ behind) (replicate zeros 0 ++ rest_behind) (place + 1 + length behind) size)
        waits_long new_long
        (λ k inside other. ⊎_elim
        (λ (after : (_ ≡ true) × (place + 1 ≤ k)). torn.after k after.1)
        (λ (before : (_ ≡ false) × (k < place + 1)). torn.before k (omega (arith, waits_long, before.1))
        (omega (arith, before.1, other)))
        (leb_tells (place + 1) k))

    holds : HoldsOneMore records images place (slice_index new place) (firm_file new)
    holds = record {
      whole = whole_more;
      reads = new_reads;
      place_is = place_is;
      firm = λ k inside other. refl;
      least = new_long;
      long = new_long;
    }

    pub torn_log : AreBytes new → IsLog new records ⊎ IsLog new (records ++ images ∷ [])
    torn_log bytes =
        image_either records images place (slice_index new place) (firm_file new) new holds (firm_sound new bytes)
