-- What the turns told before a flush, and tell after it.
use Rattle.std.proofs.Common.{◌≡◌, ℕ, ◌<◌, length, Option, Some, None, IfSome, slice_set, refl, sym, ap, ◌∙◌, subst}
use Rattle.std.specs.Option.{option_map}
use Rattle.std.proofs.lemmas.List.{get_or-set_same, set-get_or}
use Rattle.ori_bytes.specs.declared.limits.TheConstants.{PARTITIONS}
use Rattle.ori_part.specs.Parts.{PartData, no_pages, unwritten_page}
use Rattle.ori_cover.specs.Dirty.{DirtyPage}
use Rattle.ori_pool.specs.Held.{dirty_of}
use Rattle.ori_turns.specs.Seats.{Seat, Told, Last, took_part, gave_part, told_part, took_device, gave_device}
use Rattle.ori_turns.specs.Seats.{told_device}
use Rattle.ori_turns.specs.Seats.{told_at, IsTold, PartsStay}
use Rattle.ori_volume.specs.Story.{Tells}

module _ {D : Type 0} (k : ℕ) (p q : PartData) (taken given : D) (last : Last) where
  given_here : (o : Option (Told D)) → IfSome (option_map (told_part k q) (option_map (told_device given) o))
      (λ (told : Told D). given ≡ told.device)
  given_here None = tt
  given_here (Some told) = refl

  -- the device as it was given
  pub told_after : (a b c d : Seat D) → b ≡ took_part k p a
      → c ≡ gave_device given last (took_device taken b) → d ≡ gave_part k q c
      → IsTold (λ told. given ≡ told.device) d
  told_after a b c d first second third = subst (IsTold (λ told. given ≡ told.device))
      (sym (third ∙ ap (gave_part k q) (second
      ∙ ap (λ s. gave_device given last (took_device taken s)) first)))
      (given_here a.told)

  both_here : (page : ℕ) (d : DirtyPage) (o : Option (Told D)) → IfSome o (λ (told : Told D). p ≡ told_at told k)
      → IfSome o (λ (told : Told D). taken ≡ told.device) → unwritten_page p.places ≡ Some page
      → dirty_of p page ≡ Some d → IfSome o (λ (told : Told D). (taken ≡ told.device)
      × (unwritten_page (told_at told k).places ≡ Some page) × (dirty_of (told_at told k) page ≡ Some d))
  both_here page d None part device first dirty = tt
  both_here page d (Some told) part device first dirty = (
    device,
    subst (λ (x : PartData). unwritten_page x.places ≡ Some page) part first,
    subst (λ (x : PartData). dirty_of x page ≡ Some d) part dirty,
  )

  -- the device as it was taken, and its first unwritten page
  pub told_before : (page : ℕ) (d : DirtyPage) (a b : Seat D) → b ≡ took_part k p a
      → IsTold (λ told. p ≡ told_at told k) a → IsTold (λ told. taken ≡ told.device) b
      → unwritten_page p.places ≡ Some page → dirty_of p page ≡ Some d
      → IsTold (λ told. (taken ≡ told.device) × (unwritten_page (told_at told k).places ≡ Some page)
      × (dirty_of (told_at told k) page ≡ Some d)) a
  told_before page d a b is part device first dirty = both_here page d a.told part
      (subst (IsTold (λ told. taken ≡ told.device)) is device) first dirty

  pair_here : (R : PartData → PartData → Type 0) → R p q → k < PARTITIONS → (o : Option (Told D))
      → IfSome o (λ (told : Told D). length told.parts ≡ PARTITIONS)
      → IfSome o (λ (told : Told D). p ≡ told_at told k)
      → IfSome o (λ (was : Told D). IfSome (option_map (told_part k q) (option_map (told_device given) o))
      (λ (now : Told D). R (told_at was k) (told_at now k)))
  pair_here R holds below None eight part = tt
  pair_here R holds below (Some told) eight part =
      subst (λ (x : PartData). R (told_at told k) x)
      (sym (get_or-set_same told.parts k q no_pages (subst (λ n. k < n) (sym eight) below)))
      (subst (λ (x : PartData). R x q) part holds)

  stays_here : q ≡ p → (o : Option (Told D)) → IfSome o (λ (told : Told D). p ≡ told_at told k)
      → Tells PartsStay o (option_map (told_part k q) (option_map (told_device given) o))
  stays_here same None part = refl
  stays_here same (Some told) part = (
    told_part k q (told_device given told),
    refl,
    ap (λ (x : PartData). slice_set told.parts k x) (same ∙ part) ∙ set-get_or told.parts k no_pages,
  )

  -- the partitions, where this one was given as it was taken
  pub told_unmarked : q ≡ p → (a b c d : Seat D) → b ≡ took_part k p a
      → c ≡ gave_device given last (took_device taken b) → d ≡ gave_part k q c
      → IsTold (λ told. p ≡ told_at told k) a → Tells PartsStay a.told d.told
  told_unmarked same a b c d first second third part =
      subst (λ (s : Seat D). Tells PartsStay a.told s.told)
      (sym (third ∙ ap (gave_part k q) (second
      ∙ ap (λ s. gave_device given last (took_device taken s)) first)))
      (stays_here same a.told part)

  -- the partition as it was taken, and as it was given
  pub told_pair : (R : PartData → PartData → Type 0) → R p q → k < PARTITIONS → (a b c d : Seat D)
      → b ≡ took_part k p a → c ≡ gave_device given last (took_device taken b) → d ≡ gave_part k q c
      → IsTold (λ told. length told.parts ≡ PARTITIONS) a → IsTold (λ told. p ≡ told_at told k) a
      → IsTold (λ was. IsTold (λ now. R (told_at was k) (told_at now k)) d) a
  told_pair R holds below a b c d first second third eight part =
      subst (λ (s : Seat D). IsTold (λ was. IsTold (λ now. R (told_at was k) (told_at now k)) s) a)
      (sym (third ∙ ap (gave_part k q) (second
      ∙ ap (λ s. gave_device given last (took_device taken s)) first)))
      (pair_here R holds below a.told eight part)
