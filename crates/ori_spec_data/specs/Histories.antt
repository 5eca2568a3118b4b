-- Histories that can come about, and what holds of the bases that they lead to.
use Rattle.std.specs.Prelude.{◌≡◌, ℕ, ◌≤◌, List, [], ◌∷◌, take, Some, None, ⊤, Any}
use Rattle.ori_bytes.specs.declared.rid.Rid.{Rid}
use Rattle.ori_spec_data.specs.Base.{RecordData, BaseData, initial_base, TxData, EntryData, asked_in, new_in}
use Rattle.ori_spec_data.specs.Apply.{IsFormed, fresh, apply_tx, apply, replay}
use Rattle.ori_spec_data.specs.Records.{record_at}
use Rattle.ori_spec_data.specs.Refusing.{refusal}
use Rattle.ori_spec_data.specs.Asked.{IsAskable, refusal_of, fresh_by}
use Rattle.ori_spec_data.specs.Views.{overlay, view_of, shown_through}
use Rattle.ori_spec_data.specs.Soundness.{IsSoundBase}

-- At each place what the entry was made of can be asked, the base so far doesn't refuse it, and the new records have
-- the identifiers that are fresh there.
abbrev pub IsLegalHistory : BaseData → List EntryData → Type 0
IsLegalHistory base [] = ⊤
IsLegalHistory base (e ∷ es) =
    IsAskable (asked_in e) × (refusal_of base (asked_in e) ≡ None) × (new_in e ≡ fresh_by base (asked_in e))
    × IsLegalHistory (apply base e) es

-- ---- the laws

-- the base after the first m entries
abbrev pub base_after : BaseData → List EntryData → ℕ → BaseData
base_after base history m = replay base (take m history)

abbrev pub InitialIsSound : Type 0
InitialIsSound = IsSoundBase initial_base

abbrev pub ApplyKeepsSound : Type 0
ApplyKeepsSound = (base : BaseData) (tx : TxData) → IsSoundBase base → IsFormed tx → refusal base tx ≡ None
    → IsSoundBase (apply_tx base tx)

-- two bases of one history that give a record the same version give it the same class and the same fields
abbrev pub VersionPinsRecord : Type 0
VersionPinsRecord = (base : BaseData) (history : List EntryData) (m n : ℕ) (rid : Rid) (r s : RecordData)
    → IsSoundBase base → IsLegalHistory base history
    → record_at (base_after base history m).stored rid ≡ Some r
    → record_at (base_after base history n).stored rid ≡ Some s
    → r.version ≡ s.version → (r.class ≡ s.class) × (r.fields ≡ s.fields)

-- An identifier that the base after n entries gives to a new record of a transaction is that of no record at an earlier
-- place.
abbrev pub FreshIsNew : Type 0
FreshIsNew = (base : BaseData) (history : List EntryData) (m n : ℕ) (tx : TxData) (rid : Rid)
    → IsSoundBase base → IsLegalHistory base history → IsFormed tx → refusal (base_after base history n) tx ≡ None
    → m ≤ n
    → Any (λ given. given ≡ rid) (fresh (base_after base history n) tx)
    → record_at (base_after base history m).stored rid ≡ None

abbrev pub EmptyOverlayIsBase : Type 0
EmptyOverlayIsBase = (base : BaseData) (made : ℕ) → overlay base (record { changes = []; made = made }) ≡ base

-- over a reader that shows a sound base, a transaction shows the base's overlay
abbrev pub SoundBaseIsShown : Type 0
SoundBaseIsShown = (base : BaseData) (tx : TxData) → IsSoundBase base
    → shown_through (Some (view_of base)) tx ≡ Some (view_of (overlay base tx))
