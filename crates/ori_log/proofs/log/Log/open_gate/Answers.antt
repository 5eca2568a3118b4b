use Rattle.std.proofs.Common.{Option, sym, subst}
use Rattle.ori_volume.specs.Disk.{Files}
use Rattle.ori_volume.specs.Story.{Tells}
use Rattle.ori_log.specs.Appending.{GateFiles}
use Rattle.ori_log.proofs.AppendFiles.{gate_files_failed, gate_files}
use Rattle.ori_volume.proofs.Known.{tells_both, tells_map}
use Rattle.ori_log.proofs.Appends.{gate_failed, gate_done}
use Rattle.ori_log.proofs.log.Log.open_gate.Goals as goal

pub returns-in_err-write_at-clause-crash : goal.returns-in_err-write_at-clause-crash
returns-in_err-write_at-clause-crash g c =
    tells_map _ _ _ _
    (λ old new told writes. λ records images gate names holds.
    gate_failed c.args.self.now.file c.args.self.now.place records images c.args.self.now.in_log gate
    c.in_err-write_at.field-0.0 c.from_residual.result old new c.from_residual.ensures.0
    c.args.self.now.within (g.met.V.Volume.reads_as_image c.args.volume.now old told) writes names holds)
    c.in_err-write_at.ensures.story

pub returns-clause-crash : goal.returns-clause-crash
returns-clause-crash g c =
    tells_both _ _ _ _ _ _
    (λ old mid new told told_mid writes syncs. λ records images gate names holds.
    gate_done c.args.self.now.file c.args.self.now.place records images c.args.self.now.in_log gate c.sync.result old
    mid new c.args.self.now.within
    (g.met.V.Volume.reads_as_image c.args.volume.now old told)
    (g.met.V.Volume.reads_as_image c.write_at.new.self mid told_mid) writes syncs names holds)
    c.in_ok-write_at.ensures.story c.sync.ensures.story

pub returns-in_err-write_at-clause-files : goal.returns-in_err-write_at-clause-files
returns-in_err-write_at-clause-files g c =
    tells_map _ _ _ _
    (λ old new told writes. gate_files_failed c.args.self.now.file c.args.self.now.place c.in_err-write_at.field-0.0
    c.from_residual.result old new c.from_residual.ensures.0 writes)
    c.in_err-write_at.ensures.files

pub returns-clause-files : goal.returns-clause-files
returns-clause-files g c =
    subst (λ (o : Option Files). Tells (GateFiles c.args.self.now.file c.args.self.now.place c.sync.result)
    (g.V.Volume.files c.args.volume.now) o) (sym c.sync.ensures.files)
    (tells_map _ _ _ _
    (λ old new told writes. gate_files c.args.self.now.file c.args.self.now.place c.sync.result old new writes)
    c.in_ok-write_at.ensures.files)
