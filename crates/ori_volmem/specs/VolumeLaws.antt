-- What a volume in memory tells meets the laws of a volume.
use Rattle.std.specs.Prelude.{◌≡◌, Option, Some, unwrap_or, refl}
use mathlib.Core.Path.{ap, subst}
use Rattle.ori_volume.specs.declared.file.FileNo.{FileNo}
use Rattle.ori_volume.specs.declared.file.FileNo.TheVariants.{Master, LogA, LogB, Pages}
use Rattle.ori_volmem.specs.declared.memory_file.MemFile.{MemFile}
use Rattle.ori_volmem.specs.declared.memory_volume.MemVolume.{MemVolume}
use Rattle.ori_volume.specs.Disk.{Files, of_file, files_of, AreBytes, IsFileImage, IsImage}
use Rattle.ori_volume.specs.Story.{Story, moment_of, IsTold}
use Rattle.ori_volmem.specs.Record.{data_of}
use Rattle.ori_volmem.specs.States.{state_of}
use Rattle.ori_volmem.specs.VolumeStates.{volume_data}

pub some_is : {T : Type 0} (a b : T) → Some a ≡ Some b → a ≡ b
some_is {T} a b e = ap (λ (o : Option T). unwrap_or o a) e

bytes_of : (volume : MemVolume) (file : FileNo) → AreBytes (of_file (files_of (volume_data volume).story.now.disk) file)
bytes_of volume Master = volume.disk.master.are_bytes
bytes_of volume LogA = volume.disk.log_a.are_bytes
bytes_of volume LogB = volume.disk.log_b.are_bytes
bytes_of volume Pages = volume.disk.pages.are_bytes

pub told_are_bytes : (volume : MemVolume) (told : Files)
    → Some (files_of (volume_data volume).story.now.disk) ≡ Some told → (file : FileNo) → AreBytes (of_file told file)
told_are_bytes volume told is file =
    subst (λ (files : Files). AreBytes (of_file files file))
    (some_is (files_of (volume_data volume).story.now.disk) told is) (bytes_of volume file)

image_of_file : (file : MemFile) → IsFileImage (data_of (state_of file)) file.bytes.items
image_of_file file = record {
  no_shorter = file.no_shorter;
  no_longer = file.no_longer;
  firm = λ k within firm. refl;
  are_bytes = file.are_bytes;
}

pub image_as_read : (volume : MemVolume) → IsImage (volume_data volume).story.now.disk
    (files_of (volume_data volume).story.now.disk)
image_as_read volume Master = image_of_file volume.disk.master
image_as_read volume LogA = image_of_file volume.disk.log_a
image_as_read volume LogB = image_of_file volume.disk.log_b
image_as_read volume Pages = image_of_file volume.disk.pages

pub told_reads_as_image : (volume : MemVolume) (told : Story) → Some (volume_data volume).story ≡ Some told
    → IsImage told.now.disk (files_of told.now.disk)
told_reads_as_image volume told is =
    subst (λ (story : Story). IsImage story.now.disk (files_of story.now.disk))
    (some_is (volume_data volume).story told is) (image_as_read volume)

pub told_is_one : (volume : MemVolume) (told : Story) → Some (volume_data volume).story ≡ Some told
    → IsTold (Some (files_of (volume_data volume).story.now.disk)) volume.faults volume.log_faults told
told_is_one volume told is =
    let same = some_is (volume_data volume).story told is in
    record {
      files_now = ap (λ (story : Story). Some (files_of story.now.disk)) same;
      faults_now = ap (λ (story : Story). story.now.faults) same;
      log_faults_now = ap (λ (story : Story). story.now.log_faults) same;
    }

pub told_counts_past : (volume : MemVolume) (told : Story) → Some (volume_data volume).story ≡ Some told
    → moment_of (volume_data volume).story ≡ moment_of told
told_counts_past volume told is = ap moment_of (some_is (volume_data volume).story told is)

-- each file as it reads is one of its images
pub sound : (volume : MemVolume) (file : FileNo)
    → IsFileImage (of_file (volume_data volume).story.now.disk file)
    (of_file (volume_data volume).story.now.disk file).bytes
sound volume Master = image_of_file volume.disk.master
sound volume LogA = image_of_file volume.disk.log_a
sound volume LogB = image_of_file volume.disk.log_b
sound volume Pages = image_of_file volume.disk.pages
