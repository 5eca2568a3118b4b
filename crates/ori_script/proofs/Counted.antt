-- What the counts of causes tell: a cause that an engine never has wasn't answered, and one that was is counted.
use Rattle.std.proofs.Common.{◌≡◌, ◌⊎◌, inl, inr, ℕ, ◌<◌, ◌≤◌, Err, refl, ap, arith}
use Rattle.ori_bytes.specs.declared.causes.Causes.{Causes}
use Rattle.ori_spec_data.specs.Keeping.{DecisionData, accepted, halted_at, feed_full, refused, pages_full, log_full}
use Rattle.ori_spec_data.specs.Keeping.{fault}
use Rattle.ori_spec_data.specs.Keeping.{device, busy, damaged, no_memory}
use Rattle.ori_spec_data.specs.Keeping.{raised_count, with_device, with_fault, with_busy, with_damaged, counted}
use Rattle.ori_spec_data.specs.Replies as replies
use Rattle.ori_model.specs.declared.fault.ReadFault.{ReadFault}
use Rattle.ori_model.specs.declared.fault.ReadFault.TheVariants.{Device, Busy, Damaged, NoMemory}
use Rattle.ori_model.specs.Reading.{read_counted}
use Rattle.ori_model.specs.Replies.{read_refusal}
use Rattle.ori_engine.specs.Openings.{troubles_of}

-- a count that was raised isn't 0
not_raised : (old new : ℕ) → new ≡ raised_count old → new ≡ 0 → ⊥
not_raised old new raised none = omega (arith, raised, none)

-- no answer had a turn of another handle or a damaged page for its cause
pub record IsInside (causes : Causes) : Type 0 where
  pub busy : causes.busy ≡ 0
  pub damaged : causes.damaged ≡ 0

module _ (old new : Causes) (inside : IsInside new) where
  pub no_busy : new ≡ with_busy old → ⊥
  no_busy is = not_raised old.busy new.busy (ap (λ (c : Causes). c.busy) is) inside.busy

  pub no_damaged : new ≡ with_damaged old → ⊥
  no_damaged is = not_raised old.damaged new.damaged (ap (λ (c : Causes). c.damaged) is) inside.damaged

  -- so a read fails only where it is out of memory, or the device fails
  pub read_so : (why : ReadFault) → new ≡ read_counted {T = Unit {0}} (Err why) old
      → (read_refusal why ≡ replies.no_memory) ⊎ (read_refusal why ≡ replies.device)
  read_so Device is = inr refl
  read_so (Busy turn) is = absurd (no_busy is)
  read_so (Damaged page) is = absurd (no_damaged is)
  read_so NoMemory is = inl refl

-- ---- faults

pub fault_counted : (old new : Causes) → new ≡ with_fault old → 0 < troubles_of new
fault_counted old new is =
    let raised : new.fault ≡ raised_count old.fault = ap (λ (c : Causes). c.fault) is in omega (arith, raised)

pub device_counted : (old new : Causes) → new ≡ with_device old → 0 < troubles_of new
device_counted old new is =
    let raised : new.device ≡ raised_count old.device = ap (λ (c : Causes). c.device) is in omega (arith, raised)

-- a read that failed by the device was counted
pub read_told : (old new : Causes) (why : ReadFault) → new ≡ read_counted {T = Unit {0}} (Err why) old
    → read_refusal why ≡ replies.device → 0 < troubles_of new
read_told old new Device is told = device_counted old new is
read_told old new (Busy turn) is told = absurd (cc told)
read_told old new (Damaged page) is told = absurd (cc told)
read_told old new NoMemory is told = absurd (cc told)

-- their count never falls
module _ (old new : Causes) where
  same_troubles : {next : Causes} → new ≡ next → troubles_of next ≡ troubles_of old → troubles_of old ≤ troubles_of new
  same_troubles {next} is same = omega (arith, ap troubles_of is, same)

  raised_fault : new ≡ with_fault old → troubles_of old ≤ troubles_of new
  raised_fault is =
      let raised : new.fault ≡ raised_count old.fault = ap (λ (c : Causes). c.fault) is in
      let device : new.device ≡ old.device = ap (λ (c : Causes). c.device) is in omega (arith, raised, device)

  raised_device : new ≡ with_device old → troubles_of old ≤ troubles_of new
  raised_device is =
      let raised : new.device ≡ raised_count old.device = ap (λ (c : Causes). c.device) is in
      let faults : new.fault ≡ old.fault = ap (λ (c : Causes). c.fault) is in omega (arith, raised, faults)

  pub faults_kept : (d : DecisionData) → new ≡ counted d old → troubles_of old ≤ troubles_of new
  faults_kept (accepted place rids) is = same_troubles is refl
  faults_kept (halted_at at) is = same_troubles is refl
  faults_kept (feed_full entries bytes) is = same_troubles is refl
  faults_kept (refused why) is = same_troubles is refl
  faults_kept (pages_full in_use weight) is = same_troubles is refl
  faults_kept (log_full need room) is = same_troubles is refl
  faults_kept fault is = raised_fault is
  faults_kept device is = raised_device is
  faults_kept (busy turn) is = same_troubles is refl
  faults_kept (damaged page) is = same_troubles is refl
  faults_kept no_memory is = same_troubles is refl

  pub faults_read : (why : ReadFault) → new ≡ read_counted {T = Unit {0}} (Err why) old
      → troubles_of old ≤ troubles_of new
  faults_read Device is = raised_device is
  faults_read (Busy turn) is = same_troubles is refl
  faults_read (Damaged page) is = same_troubles is refl
  faults_read NoMemory is = same_troubles is refl
