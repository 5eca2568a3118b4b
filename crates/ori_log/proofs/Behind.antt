-- A file that changes from a place on stays as it is before it.
use Rattle.std.proofs.Common.{◌≡◌, ⊎_elim, ℕ, ◌+◌, ◌<◌, ◌≤◌, Bool, true, false, ◌||◌, List, length, take, get_or}
use Rattle.std.proofs.Common.{slice_index, refl, sym, ◌∙◌, ap, subst, arith, true≢false, length-take}
use Rattle.std.proofs.lemmas.List.{places, ext_get_or}
use Rattle.std.proofs.lemmas.Bool.Decides.{nat_tests}
use Rattle.ori_volume.specs.declared.file.FileNo.{FileNo}
use Rattle.ori_volume.specs.declared.file.FileNo.TheVariants.{Master, LogA, LogB, Pages}
use Rattle.ori_volume.specs.Disk.{Four, of_file, with_file, FileData, Disk, files_of, IsFileImage, IsImage}
use Rattle.ori_volume.specs.Effects.{synced, is_touched, IsLoosened, Torn}
use Rattle.ori_volume.specs.Story.{ChangesFile}
use Rattle.ori_volume.proofs.Data.{with_of, of_files}
use Rattle.ori_volume.proofs.Lasting.{bool_cases}
use Rattle.ori_log.specs.Files.{Behind}

-- two lists with the same elements before a place have the same front
pub take_agree : (n : ℕ) (xs ys : List ℕ) → n ≤ length xs → n ≤ length ys
    → ((k : ℕ) → k < n → slice_index xs k ≡ slice_index ys k) → take n xs ≡ take n ys
take_agree n xs ys long_xs long_ys same =
    ext_get_or 0 (take n xs) (take n ys) (omega (arith, length-take n xs, length-take n ys))
    (λ k within.
    let inside : k < n = omega (arith, length-take n xs) in
    let left : get_or (take n xs) k 0 ≡ get_or xs k 0 = grind (arith, places) in
    let right : get_or (take n ys) k 0 ≡ get_or ys k 0 = grind (arith, places) in
    left ∙ same k inside ∙ sym right)

pub with_twice : {T : Type 0} (four : Four T) (file : FileNo) (x y : T)
    → with_file (with_file four file x) file y ≡ with_file four file y
with_twice four Master x y = refl
with_twice four LogA x y = refl
with_twice four LogB x y = refl
with_twice four Pages x y = refl

-- what a disk reads as is as long as its lengths since the last sync say
pub sound_file : (disk : Disk) (file : FileNo) → IsImage disk (files_of disk)
    → IsFileImage (of_file disk file) (of_file disk file).bytes
sound_file disk file sound = subst (λ (l : List ℕ). IsFileImage (of_file disk file) l) (of_files disk file) (sound file)

pub behind_refl : (file : FileNo) (low limit : ℕ) (disk : Disk) → Behind file low limit disk disk
behind_refl file low limit disk = record {
  only = sym (with_of disk file);
  same = refl;
  firm = λ k within is. is;
  least = omega arith;
  greatest = omega arith;
}

pub behind_then : (file : FileNo) (low limit : ℕ) (old mid new : Disk) → Behind file low limit old mid
    → Behind file low limit mid new → Behind file low limit old new
behind_then file low limit old mid new first second = record {
  only = second.only ∙ ap (λ (d : Disk). with_file d file (of_file new file)) first.only
      ∙ with_twice old file (of_file mid file) (of_file new file);
  same = second.same ∙ first.same;
  firm = λ k within is. second.firm k within (first.firm k within is);
  least = omega (arith, first.least, second.least);
  greatest = omega (arith, first.greatest, second.greatest);
}

-- a position that a call didn't reach is as loose as it was
pub firm_still : (reached : ℕ → Bool) (f g : FileData) (k : ℕ) → IsLoosened reached f g → f.loose k ≡ false
    → reached k ≡ false → g.loose k ≡ false
firm_still reached f g k loosened firm apart =
    let neither : f.loose k || reached k ≡ false = ap (λ (b : Bool). b || reached k) firm ∙ apart in
    ⊎_elim (λ (loose : g.loose k ≡ true). absurd (true≢false (sym (loosened.only k loose) ∙ neither)))
    (λ (is : g.loose k ≡ false). is) (bool_cases (g.loose k))

pub before_touched : (len at count k : ℕ) → k < at → at ≤ len → is_touched len at count k ≡ false
before_touched len at count k before within = grind (arith, nat_tests)

-- a write behind the place, done or failed
pub torn_behind : (file : FileNo) (low limit at count : ℕ) (old new : Disk) → IsImage old (files_of old) → low ≤ at
    → at ≤ length (of_file old file).bytes → at + count ≤ limit
    → ChangesFile file (Torn at count) old new → Behind file low limit old new
torn_behind file low limit at count old new sound behind no_gap within change =
    let f = of_file old file in
    let g = of_file new file in
    let is_sound : IsFileImage f f.bytes = sound_file old file sound in
    let torn : Torn at count f g = change.here in
    record {
      only = change.elsewhere;
      same = take_agree low g.bytes f.bytes (omega (arith, torn.torn.no_shorter)) (omega arith)
          (λ k before. torn.torn.before k (omega arith) (omega arith));
      firm = λ k before is. firm_still (is_touched (length f.bytes) at count) f g k torn.loosened is
          (before_touched (length f.bytes) at count k (omega arith) no_gap);
      least = omega (arith, torn.loosened.least, torn.torn.no_shorter);
      greatest = omega (arith, torn.loosened.greatest, torn.torn.no_longer, is_sound.no_longer);
    }

-- a sync, done
pub synced_behind : (file : FileNo) (low limit : ℕ) (old new : Disk) → IsImage old (files_of old)
    → low ≤ length (of_file old file).bytes
    → ChangesFile file (λ f g. g ≡ synced f) old new → Behind file low limit old new
synced_behind file low limit old new sound long change =
    let f = of_file old file in
    let g = of_file new file in
    let is_sound : IsFileImage f f.bytes = sound_file old file sound in
    let is : g ≡ synced f = change.here in
    let least : g.least ≡ length f.bytes = ap (λ (d : FileData). d.least) is in
    let greatest : g.greatest ≡ length f.bytes = ap (λ (d : FileData). d.greatest) is in
    record {
      only = change.elsewhere;
      same = ap (λ (d : FileData). take low d.bytes) is;
      firm = λ k before firm. ap (λ (d : FileData). d.loose k) is;
      least = omega (arith, least);
      greatest = omega (arith, greatest, is_sound.no_longer);
    }

-- a sync that failed
pub same_behind : (file : FileNo) (low limit : ℕ) (old new : Disk) → ChangesFile file (λ f g. g ≡ f) old new
    → Behind file low limit old new
same_behind file low limit old new change =
    let same : new ≡ old = change.elsewhere ∙ ap (λ (f : FileData). with_file old file f) change.here
    ∙ with_of old file in
    subst (λ (d : Disk). Behind file low limit old d) (sym same) (behind_refl file low limit old)
