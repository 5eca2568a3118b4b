use Rattle.std.proofs.Common.{◌≡◌, ◌||◌, ◌⊎◌, inl, inr, true, length, take, refl, sym, ◌∙◌, ap, true≢false}
use Rattle.ori_volume.specs.Disk.{FileData, of_file}
use Rattle.ori_volume.specs.Effects.{changed, cut_to, MaybeCut, MaybeCuts}
use Rattle.ori_volmem.specs.Record.{FileState, disk_of}
use Rattle.ori_volmem.specs.DiskStates.{states_of}
use Rattle.ori_volmem.specs.Memory.{is_planned}
use Rattle.ori_volmem.specs.VolumeStates.{volume_data}
use Rattle.ori_volmem.specs.VolumeLaws.{sound}
use Rattle.ori_volmem.proofs.Data.{of_disk}
use Rattle.ori_volume.proofs.Torn.{cuts_maybe, kept_maybe, keep_cuts}
use Rattle.ori_volmem.proofs.Told.{answers_as, ends, files_cut}
use Rattle.std.proofs.Common.{⊎_elim, nat_le}
use Rattle.ori_volmem.proofs.memory_volume.MemVolumeVolume.cut.Goals as goal

pub returns-clause-answers : goal.returns-clause-answers
returns-clause-answers c =
    let to = c.args.to in
    let keep = c.kept_length-keep.result in
    let cut : FileData → FileData → Type 0 = λ f g. g ≡ changed f (take keep f.bytes) (λ k. f.loose k || nat_le to k) in
    let states = states_of c.args.self.now.disk in
    let bytes : c.file.result.now.bytes.items ≡ (of_file (disk_of states) c.args.file).bytes =
    ap (λ (s : FileState). s.bytes) c.file.ensures ∙ sym (ap (λ (f : FileData). f.bytes) (of_disk states c.args.file))
    in
    let long : c.len-length.result ≡ length (of_file (disk_of states) c.args.file).bytes =
    c.len-length.ensures ∙ c.file.result.now.bytes.ok.0 ∙ ap length bytes in
    let either : (keep ≡ to) ⊎ (keep ≡ length (of_file (disk_of states) c.args.file).bytes) =
    ⊎_elim (λ (cuts : keep ≡ to). inl cuts) (λ (keeps : keep ≡ c.len-length.result). inr (keeps ∙ long))
    c.kept_length-keep.ensures in
    answers_as c.args.file (is_planned (volume_data c.args.self.now)) true cut cut (λ f g. g ≡ cut_to f to)
    (MaybeCuts to) c.change-2.result
    _ _ _ _ _ _ _ _ _ (sym c.if-not-is_to_fail.false ∙ c.is_to_fail.ensures)
    (λ g unplanned is. absurd (true≢false unplanned))
    (λ g planned is. keep_cuts to keep _ g either is) c.change-2.ensures.answers

pub returns-clause-story : goal.returns-clause-story
returns-clause-story c =
    let before = volume_data c.args.self.now in
    let after = volume_data c.change-2.new.self in
    let to = c.args.to in (
      after.story,
      refl,
      ends c.args.file (is_planned before) (λ f g. g ≡ cut_to f to) (MaybeCuts to) (MaybeCut to) c.change-2.result
          before after
          (cuts_maybe to) (λ g is. kept_maybe to _ g (sound c.args.self.now c.args.file) is) (returns-clause-answers c),
    )

pub returns-clause-files : goal.returns-clause-files
unfolding returns-clause-story
returns-clause-files c = (_, refl, files_cut c.args.file c.args.to c.change-2.result _ _ (returns-clause-story c).2)
