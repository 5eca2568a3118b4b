-- Homes through a write of another page, a write of their own, and a sync.
use Rattle.std.proofs.Common.{max, ◌≡◌, ◌≢◌, ⊎_elim, ℕ, ◌+◌, ◌-◌, ◌*◌, ◌<◌, ◌≤◌, true, false}
use Rattle.std.proofs.Common.{List, length, take, drop, replicate, ◌++◌, slice_index, refl, sym, ◌∙◌, ap, arith}
use Rattle.std.proofs.Common.{append_assoc, length-append, length-take, length-drop}
use Rattle.std.proofs.lemmas.List.{take-append-le, take_at, drop_at, get_or-drop, length-replicate}
use Rattle.std.proofs.lemmas.Bool.Decides.{nat_tests, leb_tells}
use Rattle.ori_bytes.specs.declared.limits.TheConstants.{PAGE_BYTES}
use Rattle.ori_volume.specs.Disk.{FileData, IsFileImage, firm_file}
use Rattle.ori_volume.specs.Effects.{padded, put, is_touched, TornBytes, Torn, read_bytes}
use Rattle.ori_log.specs.Log.{home_of}
use Rattle.ori_log.proofs.Behind.{take_agree, firm_still}
use Rattle.ori_cover.specs.Homes.{IsHome, IsFirmHome, HomesStay, this_page, no_page}

-- a home that lies whole inside the file needs no zeros
home_whole : (bytes : List ℕ) (page : ℕ) → PAGE_BYTES * (page + 1) ≤ length bytes
    → home_of bytes page ≡ take PAGE_BYTES (drop (PAGE_BYTES * page) bytes)
home_whole bytes page whole =
    take-append-le PAGE_BYTES (drop (PAGE_BYTES * page) bytes) (replicate PAGE_BYTES 0)
    (omega (arith, length-drop (PAGE_BYTES * page) bytes))

-- a home is the same where each of its positions is
same_home : (xs ys : List ℕ) (page : ℕ) (content : List ℕ) → IsHome page content xs
    → PAGE_BYTES * (page + 1) ≤ length ys
    → ((k : ℕ) → PAGE_BYTES * page ≤ k → k < PAGE_BYTES * (page + 1) → slice_index ys k ≡ slice_index xs k)
    → IsHome page content ys
same_home xs ys page content home whole same =
    let at : ℕ = PAGE_BYTES * page in
    let agree : take PAGE_BYTES (drop at ys) ≡ take PAGE_BYTES (drop at xs) =
    take_agree PAGE_BYTES (drop at ys) (drop at xs) (omega (arith, length-drop at ys))
    (omega (arith, length-drop at xs, home.whole))
    (λ k within. get_or-drop at ys k 0 ∙ same (at + k) (omega arith) (omega (arith, within))
    ∙ sym (get_or-drop at xs k 0)) in
    record {
      whole = whole;
      reads = home_whole ys page whole ∙ agree ∙ sym (home_whole xs page home.whole) ∙ home.reads;
    }

-- what a read of a home gives
pub home_read : (page : ℕ) (content bytes : List ℕ) → IsHome page content bytes
    → read_bytes bytes (PAGE_BYTES * page) PAGE_BYTES ≡ content
home_read page content bytes home =
    let rest : List ℕ = drop (PAGE_BYTES * page) bytes in
    take-append-le PAGE_BYTES rest (replicate (PAGE_BYTES - length rest) 0)
    (omega (arith, length-drop (PAGE_BYTES * page) bytes, home.whole))
    ∙ sym (home_whole bytes page home.whole) ∙ home.reads

-- a home that was written whole
pub home_put : (page : ℕ) (content bytes : List ℕ) → length content ≡ PAGE_BYTES
    → IsHome page content (put bytes (PAGE_BYTES * page) content)
home_put page content bytes size =
    let at : ℕ = PAGE_BYTES * page in
    let front : List ℕ = take at (padded bytes at) in
    let behind : List ℕ = drop (at + length content) bytes in
    let long : length front ≡ at =
    omega (
      arith,
      length-take at (padded bytes at),
      length-append bytes (replicate (at - length bytes) 0),
      length-replicate {A = ℕ} (at - length bytes) 0,
    ) in
    let parts : put bytes at content ≡ front ++ (content ++ behind) = append_assoc front content behind in
    let whole : PAGE_BYTES * (page + 1) ≤ length (put bytes at content) =
    omega (arith, ap length parts, length-append front (content ++ behind), length-append content behind, long, size) in
    record {
      whole = whole;
      reads = home_whole (put bytes at content) page whole
          ∙ ap (λ (l : List ℕ). take PAGE_BYTES l) (ap (λ (l : List ℕ). drop at l) parts
          ∙ drop_at front (content ++ behind) at long)
          ∙ take_at content behind PAGE_BYTES size;
    }

-- a home that is stably its content is so in each image
pub firm_image : (page : ℕ) (content : List ℕ) (file : FileData) (image : List ℕ) → IsFirmHome page content file
    → IsFileImage file image → IsFirmHome page content (firm_file image)
firm_image page content file image home allowed =
    let whole : PAGE_BYTES * (page + 1) ≤ length image = omega (arith, home.least, allowed.no_shorter) in
    record {
      home = same_home file.bytes image page content home.home whole
          (λ k from to. allowed.firm k (omega (arith, whole, to)) (home.firm k from to));
      firm = λ k from to. refl;
      least = whole;
    }

-- once all is firm, a home that reads as its content is stably it
pub home_firm : (page : ℕ) (content bytes : List ℕ) → IsHome page content bytes
    → IsFirmHome page content (firm_file bytes)
home_firm page content bytes home = record { home = home; firm = λ k from to. refl; least = home.whole }

-- ---- a write of one page, done or failed, leaves the homes of the others

untouched_before : (len at count k : ℕ) → k < at → k < len → is_touched len at count k ≡ false
untouched_before len at count k front within = grind (arith, nat_tests)

untouched_after : (len at count k : ℕ) → at + count ≤ k → is_touched len at count k ≡ false
untouched_after len at count k behind = grind (arith, nat_tests)

module _ (page other : ℕ) (apart : other ≢ page) (content : List ℕ) where
  -- a position of the one lies before the other, or behind it
  sides : (P : Type 0) (k : ℕ) → PAGE_BYTES * other ≤ k → k < PAGE_BYTES * (other + 1) → (k < PAGE_BYTES * page → P)
      → (PAGE_BYTES * page + PAGE_BYTES ≤ k → P) → P
  sides P k from to front behind =
      ⊎_elim (λ (after : (_ ≡ true) × (page + 1 ≤ other)). behind (omega (arith, after.1, from)))
      (λ (before : (_ ≡ false) × (other < page + 1)).
      let less : other < page = omega (arith, before.1, apart) in front (omega (arith, less, to)))
      (leb_tells (page + 1) other)

  home_apart : (old new : List ℕ) → IsHome other content old → TornBytes (PAGE_BYTES * page) PAGE_BYTES old new
      → IsHome other content new
  home_apart old new home torn =
      same_home old new other content home (omega (arith, home.whole, torn.no_shorter))
      (λ k from to. sides (slice_index new k ≡ slice_index old k) k from to
      (λ front. torn.before k (omega (arith, home.whole, to)) front) (λ behind. torn.after k behind))

  firm_apart : (old new : FileData) → IsFileImage old old.bytes → IsFirmHome other content old
      → Torn (PAGE_BYTES * page) PAGE_BYTES old new → IsFirmHome other content new
  firm_apart old new sound home torn =
      let at : ℕ = PAGE_BYTES * page in
      let len : ℕ = length old.bytes in
      record {
        home = home_apart old.bytes new.bytes home.home torn.torn;
        firm = λ k from to. firm_still (is_touched len at PAGE_BYTES) old new k torn.loosened (home.firm k from to)
            (sides (is_touched len at PAGE_BYTES k ≡ false) k from to
            (λ front. untouched_before len at PAGE_BYTES k front (omega (arith, home.home.whole, to)))
            (λ behind. untouched_after len at PAGE_BYTES k behind));
        least = omega (arith, torn.loosened.least, torn.torn.no_shorter, home.least, sound.no_shorter);
      }

-- a write of a page's home, done or failed
pub torn_stay : (page : ℕ) (old new : FileData) → IsFileImage old old.bytes
    → Torn (PAGE_BYTES * page) PAGE_BYTES old new → HomesStay (this_page page) old new
torn_stay page old new sound torn = record {
  reads = λ other content apart home. home_apart page other apart content old.bytes new.bytes home torn.torn;
  firm = λ other content apart home. firm_apart page other apart content old new sound home torn;
}

pub torn_long : (page : ℕ) (old new : FileData) → IsFileImage old old.bytes
    → Torn (PAGE_BYTES * page) PAGE_BYTES old new → new.greatest ≤ max old.greatest (PAGE_BYTES * (page + 1))
torn_long page old new sound torn =
    omega (arith, torn.loosened.greatest, torn.torn.no_longer, sound.no_longer)

-- the same of the bytes alone
pub bytes_stay : (page : ℕ) (old new : List ℕ) → TornBytes (PAGE_BYTES * page) PAGE_BYTES old new
    → HomesStay (this_page page) (firm_file old) (firm_file new)
bytes_stay page old new torn = record {
  reads = λ other content apart home. home_apart page other apart content old new home torn;
  firm = λ other content apart home. home_firm other content new
      (home_apart page other apart content old new home.home torn);
}

-- a sync
pub sync_stay : (file : FileData) → IsFileImage file file.bytes → HomesStay no_page file (firm_file file.bytes)
sync_stay file sound = record {
  reads = λ page content apart home. home;
  firm = λ page content apart home. firm_image page content file file.bytes home sound;
}

pub same_stay : (but : ℕ → Type 0) (file : FileData) → HomesStay but file file
same_stay but file =
    record { reads = λ page content apart home. home; firm = λ page content apart home. home }
