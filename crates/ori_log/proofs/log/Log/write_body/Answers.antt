use Rattle.std.proofs.Common.{Option, sym, subst}
use Rattle.ori_volume.specs.Disk.{Files}
use Rattle.ori_volume.specs.Story.{Tells}
use Rattle.ori_log.specs.Appending.{WritesBodyFiles}
use Rattle.ori_log.proofs.AppendFiles.{body_files_failed, body_files}
use Rattle.ori_volume.proofs.Known.{tells_both, tells_map}
use Rattle.ori_log.proofs.Appends.{body_failed, body_done}
use Rattle.ori_log.proofs.log.Log.write_body.Goals as goal

pub returns-in_err-put_record-clause-crash : goal.returns-in_err-put_record-clause-crash
returns-in_err-put_record-clause-crash g c =
    tells_map _ _ _ _
    (λ old new told stages. λ records is_record names holds.
    body_failed c.args.self.now.file c.args.self.now.place records c.args.images.now c.args.self.now.in_log
    c.args.zeros c.begin.new.self c.put_record.new.self c.in_err-put_record.field-0.0
    c.from_residual.result old new c.from_residual.ensures.0 c.begin.ensures.place stages names holds)
    c.in_err-put_record.ensures.crash

pub returns-clause-crash : goal.returns-clause-crash
returns-clause-crash g c =
    tells_both _ _ _ _ _ _
    (λ old mid new told told_mid stages syncs. λ records is_record names holds.
    body_done c.args.self.now.file c.args.self.now.place records c.args.images.now c.args.self.now.in_log
    c.args.zeros c.begin.new.self c.put_record.new.self c.sync.result old mid new
    c.begin.ensures.place c.begin.ensures.empty c.in_ok-put_record.ensures.empty
    (g.met.V.Volume.reads_as_image c.put_record.new.volume mid told_mid) stages syncs is_record names holds)
    c.in_ok-put_record.ensures.crash c.sync.ensures.story

pub returns-in_err-put_record-clause-files : goal.returns-in_err-put_record-clause-files
returns-in_err-put_record-clause-files g c =
    tells_map _ _ _ _
    (λ old new told stages. body_files_failed c.args.self.now.file c.args.self.now.place c.args.images.now c.args.zeros
    c.begin.new.self c.put_record.new.self c.in_err-put_record.field-0.0 c.from_residual.result old new
    c.from_residual.ensures.0 c.begin.ensures.place stages)
    c.in_err-put_record.ensures.files

pub returns-clause-files : goal.returns-clause-files
returns-clause-files g c =
    subst (λ (o : Option Files). Tells (WritesBodyFiles c.args.self.now.file c.args.self.now.place c.args.images.now
    c.args.zeros c.sync.result) (g.V.Volume.files c.args.volume.now) o) (sym c.sync.ensures.files)
    (tells_map _ _ _ _
    (λ old new told stages. body_files c.args.self.now.file c.args.self.now.place c.args.images.now c.args.zeros
    c.begin.new.self c.put_record.new.self c.sync.result old new c.begin.ensures.place c.begin.ensures.empty
    c.in_ok-put_record.ensures.empty stages)
    c.in_ok-put_record.ensures.files)
