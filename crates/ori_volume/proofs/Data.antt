-- One file of a disk, taken out and put in.
use Rattle.std.proofs.Common.{◌≡◌, refl, sym, ◌∙◌, ap}
use Rattle.ori_volume.specs.declared.file.FileNo.{FileNo}
use Rattle.ori_volume.specs.declared.file.FileNo.TheVariants.{Master, LogA, LogB, Pages}
use Rattle.ori_volume.specs.Disk.{Four, of_file, with_file, FileData, Disk, files_of}
use Rattle.ori_volume.specs.Story.{ChangesFile}

pub of_with : {T : Type 0} (four : Four T) (file : FileNo) (x : T) → of_file (with_file four file x) file ≡ x
of_with four Master x = refl
of_with four LogA x = refl
of_with four LogB x = refl
of_with four Pages x = refl

pub with_of : {T : Type 0} (four : Four T) (file : FileNo) → with_file four file (of_file four file) ≡ four
with_of four Master = refl
with_of four LogA = refl
with_of four LogB = refl
with_of four Pages = refl

pub of_files : (disk : Disk) (file : FileNo) → of_file (files_of disk) file ≡ (of_file disk file).bytes
of_files disk Master = refl
of_files disk LogA = refl
of_files disk LogB = refl
of_files disk Pages = refl

pub with_files : (disk : Disk) (file : FileNo) (f : FileData)
    → files_of (with_file disk file f) ≡ with_file (files_of disk)
    file f.bytes
with_files disk Master f = refl
with_files disk LogA f = refl
with_files disk LogB f = refl
with_files disk Pages f = refl

pub no_change_here : {T : Type 0} (file : FileNo) (old new : Four T) → new ≡ old
    → ChangesFile file (λ f g. g ≡ f) old new
no_change_here {T} file old new is = record {
  here = ap (λ (four : Four T). of_file four file) is;
  elsewhere = is ∙ sym (with_of old file) ∙ ap (λ (x : T). with_file old file x)
      (sym (ap (λ (four : Four T). of_file four file) is));
}
