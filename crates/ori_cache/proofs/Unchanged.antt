-- A partition that is given back as it was taken changes nothing of a handle.
use Rattle.std.proofs.Common.{◌≡◌, ◌<◌, ℕ, List, Option, Some, None, IfSome, slice_index_or, slice_set, replicate}
use Rattle.std.proofs.Common.{Bool, Result, refl, sym, ap, ap₂, ◌∙◌, subst}
use Rattle.std.specs.Option.{option_map}
use Rattle.std.proofs.lemmas.List.{set-set, set-get_or, get_or-replicate}
use Rattle.ori_bytes.specs.declared.limits.TheConstants.{PARTITIONS}
use Rattle.ori_volume.specs.Story.{Story, Tells}
use Rattle.ori_part.specs.Parts.{PartData, no_pages, unwritten_page}
use Rattle.ori_cover.specs.Dirty.{unwritten}
use Rattle.ori_cover.specs.Steps.{WritesHome}
use Rattle.ori_pool.specs.declared.device.Device.{Device}
use Rattle.ori_pool.specs.declared.fault.TendFault.{TendFault}
use Rattle.ori_pool.specs.Held.{dirty_of}
use Rattle.ori_turns.specs.Flushes.{IfFlushed}
use Rattle.ori_turns.specs.Seats.{Seat, Told, IsTold, told_at, told_part, took_part, gave_part}

parts_back : (k : ℕ) (p : PartData) (parts : List (Option PartData)) → k < PARTITIONS
    → parts ≡ replicate PARTITIONS None → slice_set (slice_set parts k (Some p)) k None ≡ parts
parts_back k p parts low none =
    let here : slice_index_or parts k None ≡ None =
    ap (λ (l : List (Option PartData)). slice_index_or l k None) none ∙ get_or-replicate PARTITIONS k None None low in
    set-set parts k (Some p) None
    ∙ ap (λ (o : Option PartData). slice_set parts k o) (sym here)
    ∙ set-get_or parts k None

module _ {D : Type 0} (k : ℕ) (p : PartData) where
  told_back : (o : Option (Told D)) → IfSome o (λ (told : Told D). p ≡ told_at told k)
      → option_map (told_part k p) o ≡ o
  told_back None is = refl
  told_back (Some told) is = ap (λ (parts : List PartData). Some (record told { parts = parts }))
      (ap (λ (x : PartData). slice_set told.parts k x) is ∙ set-get_or told.parts k no_pages)

  pub seat_back : (a b c : Seat D) → k < PARTITIONS → a.parts ≡ replicate PARTITIONS None → b ≡ took_part k p a
      → c ≡ gave_part k p b → IsTold (λ told. p ≡ told_at told k) a → c ≡ a
  seat_back a b c low none took gave is = gave ∙ ap (gave_part k p) took
      ∙ ap₂ (λ (parts : List (Option PartData)) (told : Option (Told D)). record a { parts = parts; told = told })
      (parts_back k p a.parts low none) (told_back a.told is)

-- what a flush did since then, it did since before
pub flushed_from : {V : Type 0} (story : V → Option Story) (part : ℕ) (r : Result Bool TendFault)
    (a b now : Seat (Device V)) → b ≡ a
    → IfFlushed r (λ done. (taken given : Device V) × (page : ℕ) × (content : List ℕ)
    × IsTold (λ told. (taken ≡ told.device) × (unwritten_page (told_at told part).places ≡ Some page)
    × (dirty_of (told_at told part) page ≡ Some (unwritten content))) b
    × IsTold (λ told. given ≡ told.device) now
    × Tells (WritesHome page content done) (story taken.volume) (story given.volume))
    → IfFlushed r (λ done. (taken given : Device V) × (page : ℕ) × (content : List ℕ)
    × IsTold (λ told. (taken ≡ told.device) × (unwritten_page (told_at told part).places ≡ Some page)
    × (dirty_of (told_at told part) page ≡ Some (unwritten content))) a
    × IsTold (λ told. given ≡ told.device) now
    × Tells (WritesHome page content done) (story taken.volume) (story given.volume))
flushed_from {V} story part r a b now same did = subst (λ (s : Seat (Device V)). IfFlushed r
    (λ done. (taken given : Device V) × (page : ℕ) × (content : List ℕ)
    × IsTold (λ told. (taken ≡ told.device) × (unwritten_page (told_at told part).places ≡ Some page)
    × (dirty_of (told_at told part) page ≡ Some (unwritten content))) s
    × IsTold (λ told. given ≡ told.device) now
    × Tells (WritesHome page content done) (story taken.volume) (story given.volume))) same did
