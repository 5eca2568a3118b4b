-- What a plain volume in memory tells meets the laws of a volume.
use Rattle.std.specs.Prelude.{◌≡◌, Some, None}
use mathlib.Core.Path.{subst}
use Rattle.ori_volume.specs.declared.file.FileNo.{FileNo}
use Rattle.ori_volume.specs.declared.file.FileNo.TheVariants.{Master, LogA, LogB, Pages}
use Rattle.ori_volmem.specs.declared.plain_volume.PlainVolume.{PlainVolume}
use Rattle.ori_volume.specs.Disk.{Files, of_file, files_of, AreBytes, IsImage}
use Rattle.ori_volume.specs.Story.{Story, moment_of, IsTold}
use Rattle.ori_volmem.specs.PlainStates.{plain_data}
use Rattle.ori_volmem.specs.VolumeLaws.{some_is}

bytes_of : (volume : PlainVolume) (file : FileNo) → AreBytes (of_file (plain_data volume).files file)
bytes_of volume Master = volume.master.are_bytes
bytes_of volume LogA = volume.log_a.are_bytes
bytes_of volume LogB = volume.log_b.are_bytes
bytes_of volume Pages = volume.pages.are_bytes

pub plain_are_bytes : (volume : PlainVolume) (told : Files) → Some (plain_data volume).files ≡ Some told
    → (file : FileNo) → AreBytes (of_file told file)
plain_are_bytes volume told is file =
    subst (λ (files : Files). AreBytes (of_file files file)) (some_is (plain_data volume).files told is)
    (bytes_of volume file)

-- it tells no story

pub plain_tells_one : (volume : PlainVolume) (told : Story) → None ≡ Some told
    → IsTold (Some (plain_data volume).files) volume.faults volume.log_faults told
plain_tells_one volume told is = absurd (cc is)

pub plain_counts_past : (volume : PlainVolume) (told : Story) → None ≡ Some told → volume.moment ≡ moment_of told
plain_counts_past volume told is = absurd (cc is)

pub plain_reads_as_image : (volume : PlainVolume) (told : Story) → None ≡ Some told
    → IsImage told.now.disk (files_of told.now.disk)
plain_reads_as_image volume told is = absurd (cc is)
