-- What log work on a device answers.
use Rattle.std.proofs.Common.{◌≡◌, ℕ, ◌+◌, List, Option, Some, Result, Ok, Err, OnOk, sym, subst}
use Rattle.std.specs.Result.{OnErr}
use Rattle.ori_volume.specs.Disk.{Files}
use Rattle.ori_volume.specs.Story.{Story, Tells}
use Rattle.ori_volume.proofs.Known.{tells_map}
use Rattle.ori_log.specs.Log.{ImageData}
use Rattle.ori_log.specs.declared.log.Log.{Log}
use Rattle.ori_log.specs.declared.fault.LogFault.{LogFault}
use Rattle.ori_cover.specs.Reading.{PutsRecordRead, SwitchesLogRead}
use Rattle.ori_cover.specs.Steps.{PutsRecord, SwitchesLog}
use Rattle.ori_pool.specs.declared.fault.DeviceFault.{DeviceFault}
use Rattle.ori_pool.specs.declared.fault.DeviceFault.TheVariants.{Fault}
use Rattle.ori_pool.specs.Devices.{OnLog, Puts, Switches}

-- what holds after the work holds after the answer
on_answer : (P : Type 0) (done : Result (Unit {0}) LogFault) (result : Result ℕ DeviceFault)
    → OnErr done (result ≡ Err Fault) → OnOk done P → OnOk result P
on_answer P (Ok x) (Ok y) refused holds = holds
on_answer P (Ok x) (Err f) refused holds = tt
on_answer P (Err e) (Ok y) refused holds = cc
on_answer P (Err e) (Err f) refused holds = tt

-- what holds after it was refused holds after the refusal
on_refusal : (P Q : Type 0) (moment : ℕ) (done : Result (Unit {0}) LogFault) (result : Result ℕ DeviceFault)
    → OnOk done ((result ≡ Ok moment) × Q) → OnErr done P → OnErr result P
on_refusal P Q moment (Ok x) (Ok y) fine holds = tt
on_refusal P Q moment (Ok x) (Err f) fine holds = let e : Err f ≡ Ok moment = fine.0 in cc
on_refusal P Q moment (Err e) (Ok y) fine holds = tt
on_refusal P Q moment (Err e) (Err f) fine holds = holds

module _ (old_log new_log : Option Log) (log now : Log) (was : old_log ≡ Some log) (is : new_log ≡ Some now) where
  there : (P : Log → Log → Type 0) → P log now → OnLog P old_log new_log
  there P holds =
      subst (λ (o : Option Log). OnLog P o new_log) (sym was)
      (subst (λ (o : Option Log). OnLog P (Some log) o) (sym is) holds)

-- the log has one record more
pub answer_counts : (old_log new_log : Option Log) (log now : Log) → old_log ≡ Some log → new_log ≡ Some now
    → (done : Result (Unit {0}) LogFault) (result : Result ℕ DeviceFault) → OnErr done (result ≡ Err Fault)
    → OnOk done (now.tail ≡ log.tail + 1)
    → OnOk result (OnLog (λ l m. m.tail ≡ l.tail + 1) old_log new_log)
answer_counts old_log new_log log now was is (Ok x) (Ok y) refused counts =
    there old_log new_log log now was is (λ l m. m.tail ≡ l.tail + 1) counts
answer_counts old_log new_log log now was is (Ok x) (Err f) refused counts = tt
answer_counts old_log new_log log now was is (Err e) (Ok y) refused counts = cc
answer_counts old_log new_log log now was is (Err e) (Err f) refused counts = tt

module _ (old_log new_log : Option Log) (log now : Log) (was : old_log ≡ Some log) (is : new_log ≡ Some now)
    (done : Result (Unit {0}) LogFault) (result : Result ℕ DeviceFault)
    (refused : OnErr done (result ≡ Err Fault)) (a b : Option Story) where
  pub puts_answer : (images : List ImageData) → Tells (PutsRecord log now images done) a b
      → Tells (Puts PutsRecord old_log new_log images result) a b
  puts_answer images told =
      tells_map _ _ a b
      (λ x y known puts. there old_log new_log log now was is (λ l m. PutsRecord l m images result x y)
      (λ dirty pages put records stands are_put.
      let p = puts dirty pages put records stands are_put in
      record { moments = p.moments; done = on_answer _ done result refused p.done }))
      told

  pub switch_answer : Tells (SwitchesLog log now done) a b → Tells (Switches SwitchesLog old_log new_log result) a b
  switch_answer told =
      tells_map _ _ a b
      (λ x y known switches. there old_log new_log log now was is (λ l m. SwitchesLog l m result x y)
      (λ dirty pages records stands clean firm.
      let p = switches dirty pages records stands clean firm in
      record { moments = p.moments; done = on_answer _ done result refused p.done }))
      told

module _ (old_log new_log : Option Log) (log now : Log) (was : old_log ≡ Some log) (is : new_log ≡ Some now)
    (done : Result (Unit {0}) LogFault) (result : Result ℕ DeviceFault) (refused : OnErr done (result ≡ Err Fault))
    (Q : Type 0) (moment : ℕ) (fine : OnOk done ((result ≡ Ok moment) × Q)) (a b : Option Files) where
  pub puts_answer_read : (images : List ImageData) → Tells (PutsRecordRead log now images done) a b
      → Tells (Puts PutsRecordRead old_log new_log images result) a b
  puts_answer_read images told =
      tells_map _ _ a b
      (λ x y known puts. there old_log new_log log now was is (λ l m. PutsRecordRead l m images result x y)
      (λ dirty pages put records stands are_put.
      let p = puts dirty pages put records stands are_put in
      record {
        failed = on_refusal _ Q moment done result fine p.failed;
        done = on_answer _ done result refused p.done;
      }))
      told

  pub switch_answer_read : Tells (SwitchesLogRead log now done) a b
      → Tells (Switches SwitchesLogRead old_log new_log result) a b
  switch_answer_read told =
      tells_map _ _ a b
      (λ x y known switches. there old_log new_log log now was is (λ l m. SwitchesLogRead l m result x y)
      (λ dirty pages records stands clean.
      let p = switches dirty pages records stands clean in
      record {
        failed = on_refusal _ Q moment done result fine p.failed;
        done = on_answer _ done result refused p.done;
      }))
      told
