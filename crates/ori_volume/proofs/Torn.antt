-- A write or a cut that fails, told exactly or less exactly.
use Rattle.std.proofs.Common.{◌≡◌, inl, inr, ◌⊎◌, ⊎_elim, ℕ, ◌≤◌, Bool, true, false, ◌||◌, nat_le, IsTrue, List}
use Rattle.std.proofs.Common.{length, take, sym, ◌∙◌, ap, subst, slice_index, take_all, arith, true≢false}
use Rattle.std.proofs.lemmas.List.{places}
use Rattle.ori_volume.specs.Disk.{FileData, IsFileImage}
use Rattle.ori_volume.specs.Effects.{put, changed, is_touched, TornBytes, IsLoosened, Torn, MaybeCut, LoosensAll, Tears}
use Rattle.ori_volume.specs.Effects.{MaybeCuts}

or_left : (a b : Bool) → IsTrue a → IsTrue (a || b)
or_left true b h = h
or_left false b h = absurd (true≢false (sym h))

loosened_all : (reached : ℕ → Bool) (f g : FileData) → LoosensAll reached f g → IsLoosened reached f g
loosened_all reached f g all = record {
  still = λ k h. subst IsTrue (sym (ap (λ (d : FileData). d.loose k) all)) (or_left (f.loose k) (reached k) h);
  only = λ k h. subst IsTrue (ap (λ (d : FileData). d.loose k) all) h;
  least = ap (λ (d : FileData). d.least) all;
  greatest = ap (λ (d : FileData). d.greatest) all;
}

kept_loosened : (reached : ℕ → Bool) (f g : FileData) → IsFileImage f f.bytes → g ≡ f → IsLoosened reached f g
kept_loosened reached f g sound is =
    let bytes : length g.bytes ≡ length f.bytes = ap (λ (d : FileData). length d.bytes) is in
    let least : g.least ≡ f.least = ap (λ (d : FileData). d.least) is in
    let greatest : g.greatest ≡ f.greatest = ap (λ (d : FileData). d.greatest) is in
    record {
      still = λ k h. subst IsTrue (sym (ap (λ (d : FileData). d.loose k) is)) h;
      only = λ k h. or_left (f.loose k) (reached k) (subst IsTrue (ap (λ (d : FileData). d.loose k) is) h);
      least = omega (arith, sound.no_shorter);
      greatest = omega (arith, sound.no_longer);
    }

pub tears_torn : (at count : ℕ) (f g : FileData) → Tears at count f g → Torn at count f g
tears_torn at count f g tears = record { torn = tears.torn; loosened = loosened_all _ f g tears.loosened }

pub kept_bytes : (at count : ℕ) (old new : List ℕ) → new ≡ old → TornBytes at count old new
kept_bytes at count old new is = record {
  no_shorter = omega (arith, ap length is);
  no_longer = omega (arith, ap length is);
  before = λ k within front. ap (λ (l : List ℕ). slice_index l k) is;
  after = λ k behind. ap (λ (l : List ℕ). slice_index l k) is;
}

pub kept_torn : (at count : ℕ) (f g : FileData) → IsFileImage f f.bytes → g ≡ f → Torn at count f g
kept_torn at count f g sound is = record {
  torn = kept_bytes at count f.bytes g.bytes (ap (λ (d : FileData). d.bytes) is);
  loosened = kept_loosened _ f g sound is;
}

pub cuts_maybe : (to : ℕ) (f g : FileData) → MaybeCuts to f g → MaybeCut to f g
cuts_maybe to f g cuts = record { maybe = cuts.maybe; loosened = loosened_all _ f g cuts.loosened }

pub kept_maybe : (to : ℕ) (f g : FileData) → IsFileImage f f.bytes → g ≡ f → MaybeCut to f g
kept_maybe to f g sound is = record {
  maybe = inl (ap (λ (d : FileData). d.bytes) is);
  loosened = kept_loosened _ f g sound is;
}

-- a piece that is no longer than the range tears it
torn_by_piece : (old piece : List ℕ) (at count : ℕ) → length piece ≤ count → TornBytes at count old (put old at piece)
torn_by_piece old piece at count fits = record {
  no_shorter = search (arith, places);
  no_longer = grind (arith, places);
  before = λ k within front. grind (arith, places);
  after = λ k behind. grind (arith, places);
}

pub piece_tears : (at count : ℕ) (piece : List ℕ) (f g : FileData) → length piece ≤ count
    → g ≡ changed f (put f.bytes at piece) (λ k. f.loose k || is_touched (length f.bytes) at count k)
    → Tears at count f g
piece_tears at count piece f g fits is =
    let bytes : g.bytes ≡ put f.bytes at piece = ap (λ (d : FileData). d.bytes) is in
    record {
      torn = subst (λ (l : List ℕ). TornBytes at count f.bytes l) (sym bytes)
          (torn_by_piece f.bytes piece at count fits);
      loosened = is ∙ ap (λ (l : List ℕ). changed f l (λ k. f.loose k || is_touched (length f.bytes) at count k))
          (sym bytes);
    }

pub keep_cuts : (to keep : ℕ) (f g : FileData) → (keep ≡ to) ⊎ (keep ≡ length f.bytes)
    → g ≡ changed f (take keep f.bytes) (λ k. f.loose k || nat_le to k) → MaybeCuts to f g
keep_cuts to keep f g either is =
    let bytes : g.bytes ≡ take keep f.bytes = ap (λ (d : FileData). d.bytes) is in
    record {
      maybe = ⊎_elim (λ (cut : keep ≡ to). inr (bytes ∙ ap (λ (n : ℕ). take n f.bytes) cut))
          (λ (kept : keep ≡ length f.bytes). inl (bytes ∙ ap (λ (n : ℕ). take n f.bytes) kept
          ∙ take_all (length f.bytes) f.bytes (omega arith)))
          either;
      loosened = is ∙ ap (λ (l : List ℕ). changed f l (λ k. f.loose k || nat_le to k)) (sym bytes);
    }
