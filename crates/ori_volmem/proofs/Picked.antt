-- A picked image is one that a crash may leave.
use Rattle.std.proofs.Common.{◌≡◌, ◌≤◌, ◌<◌, ◌+◌, ◌-◌, ◌^◌, ◌/◌, ◌%◌, ℕ, Bool, true, false, not, ◌&&◌, ◌==◌}
use Rattle.std.proofs.Common.{if◌then◌else◌, List, length, slice_index, arith, refl, sym, ◌∙◌, ap, subst, mod-lt}
use Rattle.std.proofs.Common.{length-set, slice_set, ⊎_elim, true≢false, get_or-set_other, get_or-set_same}
use Rattle.std.proofs.lemmas.Bool.{cases_eq}
use Rattle.ori_volume.specs.declared.file.FileNo.{FileNo}
use Rattle.ori_volume.specs.declared.file.FileNo.TheVariants.{Master, LogA, LogB, Pages}
use Rattle.ori_volume.specs.Disk.{of_file, with_file, FileData, Disk, Files, IsFileImage, IsImage}
use Rattle.ori_volume.proofs.Lasting.{byte_or_none}
use Rattle.ori_volmem.specs.Memory.{next_state, drawn, one_more}
use Rattle.ori_volmem.specs.Crashes.{seed_for, crash_length, loose_byte, crash_byte, IsFileCrash, IsCrash, IsCrashWith}

pub crash_each : (pick : ℕ) (disk : Disk) (image : Files) → IsFileCrash pick (seed_for pick Master) disk.master
    image.master → IsFileCrash pick (seed_for pick LogA) disk.log_a image.log_a
    → IsFileCrash pick (seed_for pick LogB) disk.log_b image.log_b
    → IsFileCrash pick (seed_for pick Pages) disk.pages image.pages → IsCrash pick disk image
crash_each pick disk image master log_a log_b pages Master = master
crash_each pick disk image master log_a log_b pages LogA = log_a
crash_each pick disk image master log_a log_b pages LogB = log_b
crash_each pick disk image master log_a log_b pages Pages = pages

pub crash_seeded : (pick m a b p : ℕ) (disk : Disk) (image : Files) → m ≡ next_state pick → a ≡ next_state m
    → b ≡ next_state a → p ≡ next_state b
    → IsFileCrash pick m disk.master image.master → IsFileCrash pick a disk.log_a image.log_a
    → IsFileCrash pick b disk.log_b image.log_b
    → IsFileCrash pick p disk.pages image.pages → IsCrash pick disk image
crash_seeded pick m a b p disk image m_is a_is b_is p_is master log_a log_b pages =
    let a_as : a ≡ seed_for pick LogA = a_is ∙ ap next_state m_is in
    let b_as : b ≡ seed_for pick LogB = b_is ∙ ap next_state a_as in
    let p_as : p ≡ seed_for pick Pages = p_is ∙ ap next_state b_as in
    crash_each pick disk image (subst (λ (s : ℕ). IsFileCrash pick s disk.master image.master) m_is master)
    (subst (λ (s : ℕ). IsFileCrash pick s disk.log_a image.log_a) a_as log_a)
    (subst (λ (s : ℕ). IsFileCrash pick s disk.log_b image.log_b) b_as log_b)
    (subst (λ (s : ℕ). IsFileCrash pick s disk.pages image.pages) p_as pages)

drawn_below : (seed below : ℕ) → 0 < below → drawn seed below < below
drawn_below seed below some = mod-lt (next_state seed / 2 ^ 33) some

if_within : (P : ℕ → Type 0) (test : Bool) (x y : ℕ) → P x → P y → P (if test then x else y)
if_within P true x y here there = here
if_within P false x y here there = there

length_between : (pick seed least greatest : ℕ) → least ≤ greatest → (least ≤ crash_length pick seed least greatest)
    × (crash_length pick seed least greatest ≤ greatest)
length_between pick seed least greatest order =
    let bound : drawn seed (one_more (greatest - least)) < one_more (greatest - least) =
    drawn_below seed (one_more (greatest - least)) (omega arith) in
    let Between : ℕ → Type 0 = λ n. (least ≤ n) × (n ≤ greatest) in
    if_within Between (pick == 0) greatest _ (order, omega arith)
    (if_within Between (pick == 1) least _ (omega arith, order) (omega arith, omega arith))

loose_is_byte : (pick seed k : ℕ) → loose_byte pick seed k < 2 ^ 8
loose_is_byte pick seed k = if_within (λ n. n < 2 ^ 8) (pick == 1) 0 (drawn ((seed + k) % 2 ^ 64) 256) (omega arith)
    (drawn_below ((seed + k) % 2 ^ 64) 256 (omega arith))

byte_is_byte : (pick seed : ℕ) (file : FileData) (k : ℕ) → slice_index file.bytes k < 2 ^ 8
    → crash_byte pick seed file k < 2 ^ 8
byte_is_byte pick seed file k byte =
    if_within (λ n. n < 2 ^ 8) (not (pick == 0) && file.loose k) (loose_byte pick seed k) (slice_index file.bytes k)
    (loose_is_byte pick seed k) byte

and_false : (a : Bool) → a && false ≡ false
and_false true = refl
and_false false = refl

firm_byte : (pick seed : ℕ) (file : FileData) (k : ℕ) → file.loose k ≡ false
    → crash_byte pick seed file k ≡ slice_index file.bytes k
firm_byte pick seed file k firm =
    ap (λ (test : Bool). if not (pick == 0) && test then loose_byte pick seed k else slice_index file.bytes k) firm
    ∙ ap (λ (test : Bool). if test then loose_byte pick seed k else slice_index file.bytes k)
    (and_false (not (pick == 0)))

image_allowed : (pick seed : ℕ) (file : FileData) (image : List ℕ) → IsFileImage file file.bytes
    → IsFileCrash pick seed file image → IsFileImage file image
image_allowed pick seed file image sound crash =
    let between = length_between pick seed file.least file.greatest (omega (arith, sound.no_shorter, sound.no_longer))
    in
    record {
      no_shorter = omega (arith, crash.long, between.0);
      no_longer = omega (arith, crash.long, between.1);
      firm = λ k within firm. crash.each k within ∙ firm_byte pick seed file k firm;
      are_bytes = λ k within. subst (λ (n : ℕ). n < 2 ^ 8) (sym (crash.each k within))
          (byte_is_byte pick seed file k (byte_or_none file.bytes k sound.are_bytes));
    }

pub crash_allowed : (pick : ℕ) (disk : Disk) (image : Files) → ((file : FileNo)
    → IsFileImage (of_file disk file) (of_file disk file).bytes) → IsCrash pick disk image → IsImage disk image
crash_allowed pick disk image sound crash file =
    image_allowed pick (seed_for pick file) (of_file disk file) (of_file image file) (sound file) (crash file)

-- any byte may stand at a loose position
set_allowed : (file : FileData) (image : List ℕ) (at byte : ℕ) → file.loose at ≡ true → byte < 2 ^ 8
    → IsFileImage file image → IsFileImage file (slice_set image at byte)
set_allowed file image at byte loose is_byte allowed =
    let long : length (slice_set image at byte) ≡ length image = length-set image at byte in
    record {
      no_shorter = omega (arith, long, allowed.no_shorter);
      no_longer = omega (arith, long, allowed.no_longer);
      firm = λ k within firm.
          let other : (k ≡ at → ⊥) = λ same. true≢false (sym loose ∙ ap file.loose (sym same) ∙ firm) in
          get_or-set_other image at k byte 0 other ∙ allowed.firm k (omega (arith, long)) firm;
      are_bytes = λ k within.
          let inside : k < length image = omega (arith, long) in
          ⊎_elim (λ (same : k ≡ at).
          let here : at < length image = omega (arith, same, inside) in
          subst (λ (n : ℕ). n < 2 ^ 8) (sym (ap (λ (j : ℕ). slice_index (slice_set image at byte) j) same
          ∙ get_or-set_same image at byte 0 here)) is_byte)
          (λ (other : k ≡ at → ⊥). subst (λ (n : ℕ). n < 2 ^ 8) (sym (get_or-set_other image at k byte 0 other))
          (allowed.are_bytes k inside))
          (cases_eq k at);
    }

pub crash_with_allowed : (pick : ℕ) (file : FileNo) (at byte : ℕ) (disk : Disk) (image : Files)
    → ((each : FileNo) → IsFileImage (of_file disk each) (of_file disk each).bytes)
    → (of_file disk file).loose at ≡ true → byte < 2 ^ 8 → IsCrashWith pick file at byte disk image → IsImage disk image
crash_with_allowed pick file at byte disk image sound loose is_byte crash =
    subst (IsImage disk) (sym crash.is_changed) (changed file
    (set_allowed (of_file disk file) (of_file crash.picked file) at byte loose is_byte (allowed file)))
  where
    allowed : IsImage disk crash.picked
    allowed = crash_allowed pick disk crash.picked sound crash.is_picked

    changed : (which : FileNo) {xs : List ℕ} → IsFileImage (of_file disk which) xs
        → IsImage disk (with_file crash.picked which xs)
    changed Master here Master = here
    changed Master here LogA = allowed LogA
    changed Master here LogB = allowed LogB
    changed Master here Pages = allowed Pages
    changed LogA here Master = allowed Master
    changed LogA here LogA = here
    changed LogA here LogB = allowed LogB
    changed LogA here Pages = allowed Pages
    changed LogB here Master = allowed Master
    changed LogB here LogA = allowed LogA
    changed LogB here LogB = here
    changed LogB here Pages = allowed Pages
    changed Pages here Master = allowed Master
    changed Pages here LogA = allowed LogA
    changed Pages here LogB = allowed LogB
    changed Pages here Pages = here

pub changed_at : (which file : FileNo) (picked image : Files) (at byte : ℕ) → file ≡ which
    → image ≡ with_file picked which (slice_set (of_file picked which) at byte)
    → image ≡ with_file picked file (slice_set (of_file picked file) at byte)
changed_at which file picked image at byte is change =
    subst (λ (f : FileNo). image ≡ with_file picked f (slice_set (of_file picked f) at byte)) (sym is) change
