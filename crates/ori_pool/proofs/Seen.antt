-- The steps of a device, in either view of its volume.
use Rattle.std.proofs.Common.{List, Option, Result}
use Rattle.ori_volume.specs.Disk.{Files}
use Rattle.ori_volume.specs.Story.{Story, Tells}
use Rattle.ori_volume.proofs.Known.{tells_map}
use Rattle.ori_log.specs.Log.{ImageData}
use Rattle.ori_log.specs.declared.log.Log.{Log}
use Rattle.ori_cover.specs.Reading.{SyncsHomesRead, PutsRecordRead, SwitchesLogRead}
use Rattle.ori_cover.specs.Steps.{SyncsHomes, PutsRecord, SwitchesLog}
use Rattle.ori_cover.specs.Views.{on_disk, as_read}
use Rattle.ori_cover.proofs.Views.{HomesSync, RecordPuts, LogSwitches, homes_firm, nothing_told}
use Rattle.ori_cover.proofs.Views.{disk_syncs, disk_puts, disk_switches, read_syncs, read_puts, read_switches}
use Rattle.ori_pool.specs.Devices.{Puts, Switches}
use Rattle.ori_pool.proofs.Operations.{on_map}

module _ {T E : Type 0} (result : Result T E) where
  pub syncs_disk : (a b : Option Story) → Tells (SyncsHomes result) a b
      → Tells (HomesSync on_disk homes_firm result) a b
  syncs_disk a b told = tells_map _ _ a b (λ x y known syncs. disk_syncs result x y syncs) told

  pub syncs_read : (a b : Option Files) → Tells (SyncsHomesRead result) a b
      → Tells (HomesSync as_read nothing_told result) a b
  syncs_read a b told = tells_map _ _ a b (λ x y known syncs. read_syncs result x y syncs) told

  module _ (old_log new_log : Option Log) where
    pub switches_disk : (a b : Option Story) → Tells (Switches SwitchesLog old_log new_log result) a b
        → Tells (Switches (LogSwitches on_disk homes_firm) old_log new_log result) a b
    switches_disk a b told = tells_map _ _ a b
        (λ x y known switches. on_map (λ l m. SwitchesLog l m result x y)
        (λ l m. LogSwitches on_disk homes_firm l m result x y)
        (λ l m switched. disk_switches l m result x y switched) old_log new_log switches) told

    pub switches_read : (a b : Option Files) → Tells (Switches SwitchesLogRead old_log new_log result) a b
        → Tells (Switches (LogSwitches as_read nothing_told) old_log new_log result) a b
    switches_read a b told = tells_map _ _ a b
        (λ x y known switches. on_map (λ l m. SwitchesLogRead l m result x y)
        (λ l m. LogSwitches as_read nothing_told l m result x y)
        (λ l m switched. read_switches l m result x y switched) old_log new_log switches) told

    module _ (images : List ImageData) where
      pub puts_disk : (a b : Option Story) → Tells (Puts PutsRecord old_log new_log images result) a b
          → Tells (Puts (RecordPuts on_disk) old_log new_log images result) a b
      puts_disk a b told = tells_map _ _ a b
          (λ x y known puts. on_map (λ l m. PutsRecord l m images result x y)
          (λ l m. RecordPuts on_disk l m images result x y)
          (λ l m put. disk_puts l m images result x y put) old_log new_log puts) told

      pub puts_read : (a b : Option Files) → Tells (Puts PutsRecordRead old_log new_log images result) a b
          → Tells (Puts (RecordPuts as_read) old_log new_log images result) a b
      puts_read a b told = tells_map _ _ a b
          (λ x y known puts. on_map (λ l m. PutsRecordRead l m images result x y)
          (λ l m. RecordPuts as_read l m images result x y)
          (λ l m put. read_puts l m images result x y put) old_log new_log puts) told
