-- What a read makes of the turns.
use Rattle.std.proofs.Common.{◌≡◌, ◌≢◌, ◌⊎◌, ⊎_elim, inl, inr, ℕ, ◌<◌, ◌≤◌, true, List, length, Option, Some, None}
use Rattle.std.proofs.Common.{IfSome}
use Rattle.std.proofs.Common.{slice_index_or, slice_set, replicate, refl, sym, ap, ◌∙◌, subst, arith}
use Rattle.std.proofs.Common.{Result, Ok, Err, IfOk}
use Rattle.std.specs.Option.{option_map}
use Rattle.std.proofs.lemmas.Bool.{cases_eq}
use Rattle.std.proofs.lemmas.List.{get_or-set_same, get_or-set_other}
use Rattle.ori_bytes.specs.declared.limits.TheConstants.{PARTITIONS}
use Rattle.ori_volume.specs.Disk.{Files}
use Rattle.ori_volume.specs.Story.{Story, Tells}
use Rattle.ori_volume.proofs.Known.{tells_refl, tells_then}
use Rattle.ori_volume.proofs.OnlyRead.{unread, read_then}
use Rattle.ori_part.specs.Parts.{PartData, no_pages}
use Rattle.ori_pool.specs.declared.device.Device.{Device}
use Rattle.ori_turns.specs.Seats.{Seat, Told, Last, IsTold, IsTended, told_at, last_of, took_part, gave_part, told_part}
use Rattle.ori_turns.specs.Seats.{took_device, gave_device, told_device}
use Rattle.ori_turns.specs.Caches.{Cache, SamePages, OnlyHeld}
use Rattle.ori_cache.specs.ReadLaws.{no_change}
use Rattle.ori_cache.specs.Reads.{ReadsDevice, ReadsTold, ReadsSeat, ReadsFrames}

-- a device is given back over the cache as it was
pub only_same : {D : Type 0} (seat : Seat D) (c : Cache) → OnlyHeld seat c c
only_same seat c = record {
  same = λ other. no_change c;
  count = omega arith;
  pages = λ q lt free. refl;
  dirty = λ q free. refl;
}

-- ---- the device is taken, read and given back

module _ {D : Type 0} (R : D → D → Type 0) (taken given : D) (last : Last) (read : R taken given) where
  told_device_read : (o : Option (Told D)) → IfSome o (λ (told : Told D). taken ≡ told.device)
      → Tells (ReadsTold R) o (option_map (told_device given) o)
  told_device_read None is = refl
  told_device_read (Some told) is = (
    told_device given told,
    refl,
    record { places = λ k. refl; device = subst (λ (d : D). R d given) is read },
  )

  pub device_read : (a b c : Seat D) → b ≡ took_device taken a → c ≡ gave_device given last b
      → IsTold (λ told. taken ≡ told.device) a → a.last.faults ≤ last.faults
      → (a.engine ≡ true → (last.log ≡ a.last.log) × (last.halted ≡ a.last.halted)
      × (last.log_faults ≡ a.last.log_faults)) → ReadsSeat R a c
  device_read a b c first second told faults same = subst (ReadsSeat R a)
      (sym (second ∙ ap (gave_device given last) first)) (record {
        parts = refl;
        tended = record { engine = refl; device = refl; faults = faults; log = same };
        told = told_device_read a.told told;
      })

-- ---- a partition is taken, looked at and given back

module _ {D : Type 0} (R : D → D → Type 0) (k : ℕ) (p q : PartData) (below : k < PARTITIONS)
    (places : q.places ≡ p.places) where
  told_part_read : (x y : Told D) → p ≡ told_at x k → length y.parts ≡ PARTITIONS → ReadsTold R x y
      → ReadsTold R x (told_part k q y)
  told_part_read x y is eight read = record {
    places = λ n. ⊎_elim
        (λ (here : n ≡ k). subst (λ (m : ℕ). (told_at (told_part k q y) m).places ≡ (told_at x m).places) (sym here)
        (ap (λ (r : PartData). r.places)
        (get_or-set_same y.parts k q no_pages (subst (λ m. k < m) (sym eight) below))
        ∙ places ∙ ap (λ (r : PartData). r.places) is))
        (λ (apart : n ≢ k). ap (λ (r : PartData). r.places) (get_or-set_other y.parts k n q no_pages apart)
        ∙ read.places n)
        (cases_eq n k);
    device = read.device;
  }

  told_read : (o m : Option (Told D)) → Tells (ReadsTold R) o m → IfSome o (λ (told : Told D). p ≡ told_at told k)
      → IfSome m (λ (told : Told D). length told.parts ≡ PARTITIONS)
      → Tells (ReadsTold R) o (option_map (told_part k q) m)
  told_read None m tells is eight = ap (option_map (told_part k q)) tells
  told_read (Some x) m tells is eight = (
    told_part k q tells.0,
    ap (option_map (told_part k q)) tells.1,
    told_part_read x tells.0 is
        (subst (λ (o : Option (Told D)). IfSome o (λ (told : Told D). length told.parts ≡ PARTITIONS)) tells.1 eight)
        tells.2,
  )

  pub part_read : (a b c d : Seat D) → b ≡ took_part k p a → ReadsSeat R b c → d ≡ gave_part k q c
      → IsTold (λ told. p ≡ told_at told k) a
      → IsTold (λ told. length told.parts ≡ PARTITIONS) c
      → IsTended a d × Tells (ReadsTold R) a.told d.told
  part_read a b c d first read second is eight =
      subst (λ (s : Seat D). IsTended a s × Tells (ReadsTold R) a.told s.told) (sym second)
      (subst (λ (s : Seat D). ReadsSeat R s c → IsTended a (gave_part k q c)
      × Tells (ReadsTold R) a.told (option_map (told_part k q) c.told)) (sym first)
      (λ did. (
        record {
          engine = did.tended.engine;
          device = did.tended.device;
          faults = did.tended.faults;
          log = did.tended.log;
        },
        told_read a.told c.told did.told is eight,
      )) read)

-- ---- answers

pub if_ok : {T E : Type 0} (done : Result T E) (P Q : T → Type 0) → ((x : T) → P x → Q x) → IfOk done P → IfOk done Q
if_ok (Ok value) P Q step holds = step value holds
if_ok (Err fault) P Q step holds = tt

pub ok_told : {T E : Type 0} (done : Result T E) (value : T) (P : T → Type 0) → done ≡ Ok value → IfOk done P → P value
ok_told done value P is holds = subst (λ (r : Result _ _). IfOk r P) is holds
