-- A step of what is kept is a step of the disk.
use Rattle.std.proofs.Common.{◌≡◌, sym, ◌∙◌, ap}
use Rattle.ori_volume.specs.declared.file.FileNo.{FileNo}
use Rattle.ori_volmem.specs.declared.change.Change.{Change}
use Rattle.ori_volume.specs.Disk.{Four, of_file, with_file, FileData}
use Rattle.ori_volume.specs.Story.{ChangesFile}
use Rattle.ori_volmem.specs.Record.{FileState, data_of, disk_of, after_change, changed_by}
use Rattle.ori_volume.proofs.Data.{of_with}
use Rattle.ori_volmem.proofs.Data.{of_disk, with_disk, changed_data}

pub change_here : (file : FileNo) (change : Change) (old new : Four FileState)
    → new ≡ with_file old file (after_change change (of_file old file))
    → ChangesFile file (λ f g. g ≡ changed_by change f) (disk_of old) (disk_of new)
change_here file change old new is = record {
  here = seen ∙ changed_data change (of_file old file) ∙ ap (λ (f : FileData). changed_by change f)
      (sym (of_disk old file));
  elsewhere = ap disk_of is ∙ with_disk old file (after_change change (of_file old file))
      ∙ ap (λ (f : FileData). with_file (disk_of old) file f) (sym seen);
}
  where
    seen : of_file (disk_of new) file ≡ data_of (after_change change (of_file old file))
    seen =
        ap (λ (states : Four FileState). of_file (disk_of states) file) is
        ∙ of_disk (with_file old file (after_change change (of_file old file))) file
        ∙ ap data_of (of_with old file (after_change change (of_file old file)))
