-- What each image that a crash may leave has, after a write, a cut or a sync.
use Rattle.std.proofs.Common.{◌≡◌, inl, inr, ◌⊎◌, ⊎_elim, ℕ, zero, suc, ◌+◌, ◌-◌, ◌^◌, ◌<◌, ◌≤◌, min, max, Bool, true}
use Rattle.std.proofs.Common.{false, ◌||◌, if◌then◌else◌, nat_le, nat_lt, List, [], ◌∷◌, length, take, get_or}
use Rattle.std.proofs.Common.{slice_index, refl, sym, ◌∙◌, ap, subst, arith, true≢false, length-take}
use Rattle.std.proofs.lemmas.List.{places, get_or_past, ext_get_or}
use Rattle.std.proofs.lemmas.Bool.Decides.{nat_tests, leb_tells}
use Rattle.ori_volume.specs.declared.file.FileNo.{FileNo}
use Rattle.ori_volume.specs.declared.file.FileNo.TheVariants.{Master, LogA, LogB, Pages}
use Rattle.ori_volume.specs.Disk.{of_file, with_file, FileData, Disk, Files, files_of, AreBytes, IsFileImage, IsImage}
use Rattle.ori_volume.specs.Effects.{written, cut_to, synced, is_touched, TornBytes, IsLoosened, Torn, MaybeCut}
use Rattle.ori_volume.specs.Story.{ChangesFile}
use Rattle.ori_volume.specs.Runs.{EachImage, Lasts, CutOff, LastsCut}
use Rattle.ori_volume.proofs.Data.{of_with, with_of, of_files}
use Rattle.ori_volume.proofs.Torn.{tears_torn, piece_tears, cuts_maybe, keep_cuts}

-- a list by what stands at each place
build : ℕ → (ℕ → ℕ) → List ℕ
build zero f = []
build (suc n) f = f 0 ∷ build n (λ k. f (suc k))

length-build : (n : ℕ) (f : ℕ → ℕ) → length (build n f) ≡ n
unfolding build
length-build zero f = refl
length-build (suc n) f = ap suc (length-build n (λ k. f (suc k)))

get_or-build : (n : ℕ) (f : ℕ → ℕ) (k : ℕ) → k < n → get_or (build n f) k 0 ≡ f k
unfolding build
get_or-build zero f k within = absurd (omega arith)
get_or-build (suc n) f zero within = refl
get_or-build (suc n) f (suc k) within = get_or-build n (λ j. f (suc j)) k (omega arith)

if_true : (test : Bool) (x y : ℕ) → test ≡ true → (if test then x else y) ≡ x
if_true test x y is = ap (λ (b : Bool). if b then x else y) is

if_false : (test : Bool) (x y : ℕ) → test ≡ false → (if test then x else y) ≡ y
if_false test x y is = ap (λ (b : Bool). if b then x else y) is

pub bool_cases : (b : Bool) → (b ≡ true) ⊎ (b ≡ false)
bool_cases true = inl refl
bool_cases false = inr refl

or_is : (a b : Bool) → a ≡ false → b ≡ false → a || b ≡ false
or_is a b left right = ap (λ (x : Bool). x || b) left ∙ right

-- a position that isn't touched is before the range and its gap, or behind
untouched : (len at count k : ℕ) → is_touched len at count k ≡ false → (k < min at len) ⊎ (at + count ≤ k)
untouched len at count k test = grind (arith, nat_tests)

touched_not_before : (len at count k : ℕ) → k < min at len → is_touched len at count k ≡ false
touched_not_before len at count k before = grind (arith, nat_tests)

touched_not_after : (len at count k : ℕ) → at + count ≤ k → is_touched len at count k ≡ false
touched_not_after len at count k after = grind (arith, nat_tests)

pub byte_or_none : (xs : List ℕ) (k : ℕ) → AreBytes xs → slice_index xs k < 2 ^ 8
byte_or_none xs k bytes =
    ⊎_elim (λ (past : (nat_le (length xs) k ≡ true) × (length xs ≤ k)). subst (λ (n : ℕ). n < 2 ^ 8)
    (sym (get_or_past xs k 0 past.1)) (omega arith))
    (λ (within : (nat_le (length xs) k ≡ false) × (k < length xs)). bytes k within.1)
    (leb_tells (length xs) k)

module _ (f g : FileData) (sound : IsFileImage f f.bytes) where
  firm_still : (reached : ℕ → Bool) (k : ℕ) → IsLoosened reached f g → f.loose k ≡ false → reached k ≡ false
      → g.loose k ≡ false
  firm_still reached k loosened firm apart =
      ⊎_elim (λ (loose : g.loose k ≡ true). absurd (true≢false
      (sym (loosened.only k loose) ∙ or_is (f.loose k) (reached k) firm apart)))
      (λ (is : g.loose k ≡ false). is)
      (bool_cases (g.loose k))

  module _ (at count : ℕ) (torn : Torn at count f g) (ys : List ℕ) (image : IsFileImage g ys) where
    abbrev start : ℕ
    start = min at (length f.bytes)

    abbrev kept_length : ℕ
    kept_length = min (length ys) f.greatest

    abbrev kept_byte : ℕ → ℕ
    kept_byte k = if is_touched (length f.bytes) at count k then slice_index f.bytes k else slice_index ys k

    before_write : List ℕ
    before_write = build kept_length kept_byte

    length-before : length before_write ≡ kept_length
    unfolding before_write
    length-before = length-build kept_length kept_byte

    byte_before : (k : ℕ) → k < kept_length → slice_index before_write k ≡ kept_byte k
    unfolding before_write
    byte_before k within = get_or-build kept_length kept_byte k within

    apart_before : (k : ℕ) → k < kept_length → is_touched (length f.bytes) at count k ≡ false
        → slice_index before_write k ≡ slice_index ys k
    apart_before k within apart =
        byte_before k within ∙ if_false (is_touched (length f.bytes) at count k) (slice_index f.bytes k)
        (slice_index ys k) apart

    same_apart : (k : ℕ) → is_touched (length f.bytes) at count k ≡ false
        → slice_index g.bytes k ≡ slice_index f.bytes k
    same_apart k apart =
        ⊎_elim (λ (front : k < min at (length f.bytes)). torn.torn.before k (omega arith) (omega arith))
        (λ (behind : at + count ≤ k). torn.torn.after k behind)
        (untouched (length f.bytes) at count k apart)

    before_is_image : IsFileImage f before_write
    before_is_image = record {
      no_shorter = omega (
        arith,
        length-before,
        image.no_shorter,
        torn.loosened.least,
        torn.torn.no_shorter,
        sound.no_shorter,
        sound.no_longer,
      );
      no_longer = omega (arith, length-before);
      firm = λ k within firm.
          let inside : k < kept_length = omega (arith, length-before) in
          ⊎_elim (λ (touches : is_touched (length f.bytes) at count k ≡ true).
          byte_before k inside ∙ if_true (is_touched (length f.bytes) at count k) (slice_index f.bytes k)
          (slice_index ys k) touches)
          (λ (apart : is_touched (length f.bytes) at count k ≡ false).
          apart_before k inside apart ∙ image.firm k (omega arith)
          (firm_still (is_touched (length f.bytes) at count) k torn.loosened firm apart) ∙ same_apart k apart)
          (bool_cases (is_touched (length f.bytes) at count k));
      are_bytes = λ k within.
          let inside : k < kept_length = omega (arith, length-before) in
          ⊎_elim (λ (touches : is_touched (length f.bytes) at count k ≡ true).
          subst (λ (n : ℕ). n < 2 ^ 8) (sym (byte_before k inside
          ∙ if_true (is_touched (length f.bytes) at count k) (slice_index f.bytes k) (slice_index ys k) touches))
          (byte_or_none f.bytes k sound.are_bytes))
          (λ (apart : is_touched (length f.bytes) at count k ≡ false).
          subst (λ (n : ℕ). n < 2 ^ 8) (sym (apart_before k inside apart)) (byte_or_none ys k image.are_bytes))
          (bool_cases (is_touched (length f.bytes) at count k));
    }

    long_enough : length ys ≤ max kept_length (at + count)
    long_enough = omega (arith, image.no_longer, torn.loosened.greatest, torn.torn.no_longer, sound.no_longer)

    torn_from_before : TornBytes start (at + count - start) before_write ys
    torn_from_before = record {
      no_shorter = omega (arith, length-before);
      no_longer = omega (arith, length-before, long_enough);
      before = λ k within front. sym (apart_before k (omega (arith, length-before))
          (touched_not_before (length f.bytes) at count k front));
      after = λ k behind. ⊎_elim (λ (past : (nat_le kept_length k ≡ true) × (kept_length ≤ k)).
          get_or_past ys k 0 (omega (arith, past.1, long_enough))
          ∙ sym (get_or_past before_write k 0 (omega (arith, past.1, length-before))))
          (λ (within : (nat_le kept_length k ≡ false) × (k < kept_length)).
          sym (apart_before k within.1 (touched_not_after (length f.bytes) at count k (omega arith))))
          (leb_tells kept_length k);
    }

    pub write_image : (xs : List ℕ) × IsFileImage f xs × TornBytes start (at + count - start) xs ys
    write_image = (before_write, before_is_image, torn_from_before)

  module _ (to : ℕ) (cut : MaybeCut to f g) (ys : List ℕ) (image : IsFileImage g ys) where
    abbrev uncut_length : ℕ
    uncut_length = max (length ys) f.least

    abbrev uncut_byte : ℕ → ℕ
    uncut_byte k = if nat_lt k to then slice_index ys k else slice_index f.bytes k

    before_cut : List ℕ
    before_cut = build uncut_length uncut_byte

    length-uncut : length before_cut ≡ uncut_length
    unfolding before_cut
    length-uncut = length-build uncut_length uncut_byte

    byte_uncut : (k : ℕ) → k < uncut_length → slice_index before_cut k ≡ uncut_byte k
    unfolding before_cut
    byte_uncut k within = get_or-build uncut_length uncut_byte k within

    front_uncut : (k : ℕ) → k < uncut_length → k < to → slice_index before_cut k ≡ slice_index ys k
    front_uncut k within front =
        byte_uncut k within ∙ if_true (nat_lt k to) (slice_index ys k) (slice_index f.bytes k)
        (grind (arith, nat_tests))

    back_uncut : (k : ℕ) → k < uncut_length → to ≤ k → slice_index before_cut k ≡ slice_index f.bytes k
    back_uncut k within back = byte_uncut k within ∙ if_false (nat_lt k to) (slice_index ys k) (slice_index f.bytes k)
        (grind (arith, nat_tests))

    cut_bytes : (min (length f.bytes) to ≤ length g.bytes) × (length g.bytes ≤ length f.bytes)
    cut_bytes =
        ⊎_elim (λ (same : g.bytes ≡ f.bytes). (omega (arith, ap length same), omega (arith, ap length same)))
        (λ (less : g.bytes ≡ take to f.bytes). (
          omega (arith, ap length less, length-take to f.bytes),
          omega
              (arith, ap length less, length-take to f.bytes),
        ))
        cut.maybe

    cut_front : (k : ℕ) → k < to → slice_index g.bytes k ≡ slice_index f.bytes k
    cut_front k front =
        ⊎_elim (λ (same : g.bytes ≡ f.bytes). ap (λ (l : List ℕ). slice_index l k) same)
        (λ (less : g.bytes ≡ take to f.bytes). ap (λ (l : List ℕ). slice_index l k) less ∙ grind (arith, places))
        cut.maybe

    long_as_cut : min f.least to ≤ length ys
    long_as_cut = omega (arith, cut_bytes.0, image.no_shorter, cut.loosened.least, sound.no_shorter)

    uncut_is_image : IsFileImage f before_cut
    uncut_is_image = record {
      no_shorter = omega (arith, length-uncut);
      no_longer = omega (
        arith,
        length-uncut,
        image.no_longer,
        cut.loosened.greatest,
        cut_bytes.1,
        sound.no_longer,
        sound.no_shorter,
      );
      firm = λ k within firm.
          let inside : k < uncut_length = omega (arith, length-uncut) in
          ⊎_elim (λ (back : (nat_le to k ≡ true) × (to ≤ k)). back_uncut k inside back.1)
          (λ (front : (nat_le to k ≡ false) × (k < to)).
          let held : k < length ys = omega (arith, inside, front.1, long_as_cut) in
          front_uncut k inside front.1 ∙ image.firm k held (firm_still (λ j. nat_le to j) k cut.loosened firm front.0)
          ∙ cut_front k front.1)
          (leb_tells to k);
      are_bytes = λ k within.
          let inside : k < uncut_length = omega (arith, length-uncut) in
          ⊎_elim (λ (back : (nat_le to k ≡ true) × (to ≤ k)). subst (λ (n : ℕ). n < 2 ^ 8)
          (sym (back_uncut k inside back.1)) (byte_or_none f.bytes k sound.are_bytes))
          (λ (front : (nat_le to k ≡ false) × (k < to)). subst (λ (n : ℕ). n < 2 ^ 8)
          (sym (front_uncut k inside front.1)) (byte_or_none ys k image.are_bytes))
          (leb_tells to k);
    }

    cut_from_uncut : CutOff to before_cut ys
    cut_from_uncut = record {
      no_longer = omega (arith, length-uncut);
      no_shorter = omega (arith, length-uncut, long_as_cut);
      before = λ k front held. sym (front_uncut k (omega arith) front);
    }

    pub cut_image : (xs : List ℕ) × IsFileImage f xs × CutOff to xs ys
    cut_image = (before_cut, uncut_is_image, cut_from_uncut)

-- a written file is one that a failed write may leave too
pub written_torn : (at : ℕ) (bytes : List ℕ) (f g : FileData) → g ≡ written f at bytes → Torn at (length bytes) f g
written_torn at bytes f g is = tears_torn at (length bytes) f g
    (piece_tears at (length bytes) bytes f g (omega arith) is)

pub cut_maybe : (to : ℕ) (f g : FileData) → g ≡ cut_to f to → MaybeCut to f g
cut_maybe to f g is = cuts_maybe to f g (keep_cuts to to f g (inl refl) is)

-- a synced file is what a crash leaves of it
pub synced_image : (f g : FileData) (ys : List ℕ) → g ≡ synced f → IsFileImage g ys → ys ≡ f.bytes
synced_image f g ys is image =
    let least : g.least ≡ length f.bytes = ap (λ (d : FileData). d.least) is in
    let greatest : g.greatest ≡ length f.bytes = ap (λ (d : FileData). d.greatest) is in
    let long : length ys ≡ length f.bytes = omega (arith, image.no_shorter, image.no_longer) in
    ext_get_or 0 ys f.bytes long (λ k within. image.firm k within (ap (λ (d : FileData). d.loose k) is)
    ∙ ap (λ (d : FileData). slice_index d.bytes k) is)

with_image : (old : Disk) (g : FileData) (image : Files) (xs : List ℕ) (file which : FileNo)
    → IsImage (with_file old file g) image → IsFileImage (of_file old file) xs
    → IsFileImage (of_file old which) (of_file (with_file image file xs) which)
with_image old g image xs Master Master allowed here = here
with_image old g image xs Master LogA allowed here = allowed LogA
with_image old g image xs Master LogB allowed here = allowed LogB
with_image old g image xs Master Pages allowed here = allowed Pages
with_image old g image xs LogA Master allowed here = allowed Master
with_image old g image xs LogA LogA allowed here = here
with_image old g image xs LogA LogB allowed here = allowed LogB
with_image old g image xs LogA Pages allowed here = allowed Pages
with_image old g image xs LogB Master allowed here = allowed Master
with_image old g image xs LogB LogA allowed here = allowed LogA
with_image old g image xs LogB LogB allowed here = here
with_image old g image xs LogB Pages allowed here = allowed Pages
with_image old g image xs Pages Master allowed here = allowed Master
with_image old g image xs Pages LogA allowed here = allowed LogA
with_image old g image xs Pages LogB allowed here = allowed LogB
with_image old g image xs Pages Pages allowed here = here

put_back : (file : FileNo) (image : Files) (xs : List ℕ) → image ≡ with_file (with_file image file xs) file
    (of_file image file)
put_back Master image xs = refl
put_back LogA image xs = refl
put_back LogB image xs = refl
put_back Pages image xs = refl

-- an image of the disk after a change of one file, and one of before it that differs in that file alone
one_file : (file : FileNo) (D : List ℕ → List ℕ → Type 0) (old new : Disk) (image : Files)
    → new ≡ with_file old file (of_file new file) → IsImage new image
    → ((xs : List ℕ) × IsFileImage (of_file old file) xs × D xs (of_file image file)) → (before : Files)
    × IsImage old before × ChangesFile file D before image
one_file file D old new image elsewhere allowed (xs, here, differs) =
    let moved : IsImage (with_file old file (of_file new file)) image =
    subst (λ (d : Disk). IsImage d image) elsewhere allowed in (
      with_file image file xs,
      λ which. with_image old (of_file new file) image xs file which moved here,
      record {
        here = subst (λ (l : List ℕ). D l (of_file image file)) (sym (of_with image file xs)) differs;
        elsewhere = put_back file image xs;
      },
    )

module _ (P : Files → Type 0) (file : FileNo) (old new : Disk) (sound : IsImage old (files_of old))
    (all : EachImage P old) where
  file_sound : IsFileImage (of_file old file) (of_file old file).bytes
  file_sound = subst (λ (l : List ℕ). IsFileImage (of_file old file) l) (of_files old file) (sound file)

  -- a fact that lasts whatever of these bytes come holds of each image after the write, done or failed
  pub torn_lasts : (at count : ℕ) → Lasts file (min at (length (of_file old file).bytes))
      (at + count - min at (length (of_file old file).bytes)) P → ChangesFile file (Torn at count) old new
      → EachImage P new
  torn_lasts at count lasts change image allowed =
      let before =
      one_file file (TornBytes (min at (length (of_file old file).bytes))
      (at + count - min at (length (of_file old file).bytes))) old new image change.elsewhere allowed
      (write_image (of_file old file) (of_file new file) file_sound at count change.here (of_file image file)
      (allowed file)) in
      lasts before.0 image before.2 (all before.0 before.1)

  pub cut_lasts : (to : ℕ) → LastsCut file to P → ChangesFile file (MaybeCut to) old new → EachImage P new
  cut_lasts to lasts change image allowed =
      let before =
      one_file file (CutOff to) old new image change.elsewhere allowed
      (cut_image (of_file old file) (of_file new file) file_sound to change.here (of_file image file)
      (allowed file)) in
      lasts before.0 image before.2 (all before.0 before.1)

  -- each image after a sync is one of before it
  pub sync_lasts : ChangesFile file (λ f g. g ≡ synced f) old new → EachImage P new
  sync_lasts change image allowed =
      let same : of_file image file ≡ (of_file old file).bytes =
      synced_image (of_file old file) (of_file new file) (of_file image file) change.here (allowed file) in
      let before =
      one_file file (λ xs ys. xs ≡ ys) old new image change.elsewhere allowed
      (of_file image file, subst (λ (l : List ℕ). IsFileImage (of_file old file) l) (sym same) file_sound, refl) in
      subst P (sym (before.2.elsewhere ∙ ap (λ (l : List ℕ). with_file before.0 file l) (sym before.2.here)
      ∙ with_of before.0 file)) (all before.0 before.1)

  pub same_lasts : ChangesFile file (λ f g. g ≡ f) old new → EachImage P new
  same_lasts change =
      let same : new ≡ old = change.elsewhere ∙ ap (λ (f : FileData). with_file old file f) change.here
      ∙ with_of old file in
      subst (EachImage P) (sym same) all
