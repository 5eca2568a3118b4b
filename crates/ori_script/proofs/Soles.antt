-- What the only handle of its turns tells of its volume.
use Rattle.std.proofs.Common.{◌≡◌, ◌∙◌, inr, ℕ, ◌<◌, ◌≤◌, ◌^◌, Option, Some, None, IfSome, refl, sym, ap, subst, arith}
use Rattle.std.specs.Prelude.{IsSomeAnd}
use Rattle.ori_volume.specs.Causes.{Rose}
use Rattle.ori_volume.specs.Disk.{Files}
use Rattle.ori_volume.specs.Story.{Story}
use Rattle.ori_pool.specs.declared.device.Device.{Device}
use Rattle.ori_spec_data.specs.Limits.{FoundData}
use Rattle.ori_model.specs.Standing.{PastData}
use Rattle.ori_turns.specs.Caches.{Cache}
use Rattle.ori_turns.specs.Seats.{Seat, Told, IsTold, TurnHeld}
use Rattle.ori_engine.specs.CacheRows.{OpenedTo}
use Rattle.ori_engine.specs.Openings as engines
use Rattle.ori_engine.specs.Openings.{GivesAll}
use Rattle.ori_engine.specs.Reopening.{told_now, told_by, past_of}
use Rattle.ori_script.specs.Founds.{Finds, IsFound}

-- it tells of this volume
abbrev pub TellsOf : {V : Type 0} → Seat (Device V) → V → Type 0
TellsOf seat volume = IsSomeAnd seat.told (λ told. told.device.volume ≡ volume)

module _ {V : Type 0} (files : V → Option Files) (story : V → Option Story) (volume : V) where
  told_is : (told : Option (Told (Device V))) → IsSomeAnd told (λ t. t.device.volume ≡ volume)
      → told_by files story told ≡ told_now (files volume) (story volume)
  told_is None h = absurd h
  told_is (Some told) h = ap (λ (v : V). told_now (files v) (story v)) h

  pub past_is : (seat : Seat (Device V)) → TellsOf seat volume
      → past_of files story seat ≡ told_now (files volume) (story volume)
  past_is seat h = told_is seat.told h

-- the same by the name that the volume has elsewhere
pub past_at : {V : Type 0} (files : V → Option Files) (story : V → Option Story) (held volume : V)
    (seat : Seat (Device V)) → TellsOf seat held → held ≡ volume
    → past_of files story seat ≡ told_now (files volume) (story volume)
past_at {V} files story held volume seat tells is =
    past_is files story held seat tells ∙ ap (λ (v : V). told_now (files v) (story v)) is

module _ {V : Type 0} (P : V → Type 0) (volume : V) where
  of_told : (told : Option (Told (Device V))) → IsSomeAnd told (λ t. t.device.volume ≡ volume)
      → IfSome told (λ t. P t.device.volume) → P volume
  of_told None h holds = absurd h
  of_told (Some told) h holds = subst P h holds

  pub volume_told : (seat : Seat (Device V)) → TellsOf seat volume → IsTold (λ told. P told.device.volume) seat
      → P volume
  volume_told seat h holds = of_told seat.told h holds

-- what it knows of the counts is the volume's
pub count_at : {V : Type 0} (count : V → ℕ) (held volume : V) (n : ℕ) → n ≡ count held → held ≡ volume
    → n ≡ count volume
count_at count held volume n known is = known ∙ ap count is

-- no turn is waited for
pub never_held : (before now turn : ℕ) → now ≡ 0 → TurnHeld turn before now → ⊥
never_held before now turn none held = omega (arith, none, held.1)

pub never_busy : (busy waits : ℕ) → waits ≡ 0 → (0 < busy → 0 < waits) → busy ≡ 0
never_busy busy waits none waited = grind (arith, none, waited)

-- ---- what an opening finds

finds_told : (gives : Cache → Type 0) (files : Option Files) (story : Option Story) (found : FoundData)
    → GivesAll gives (told_now files story) → Finds files found → engines.Finds gives (told_now files story) found
finds_told gives None story found all finds = absurd finds
finds_told gives (Some fs) story found all finds = record {
  opens = inr finds.opens;
  all = all;
  limit_is =
      finds.limit_is;
}

pub finds_so : (gives : Cache → Type 0) (files : Option Files) (story : Option Story) (past : PastData)
    → past ≡ told_now files story → GivesAll gives (told_now files story) → (found : FoundData) → Finds files found
    → engines.Finds gives past found
finds_so gives files story past is all found finds =
    subst (λ (p : PastData). engines.Finds gives p found) (sym is) (finds_told gives files story found all finds)

pub gives_so : (gives : Cache → Type 0) (past now : PastData) → past ≡ now → GivesAll gives now → GivesAll gives past
gives_so gives past now is all = subst (λ (p : PastData). GivesAll gives p) (sym is) all
