use Rattle.std.proofs.Common.{Ok, Option, IsSome, subst, refl, sym, ap, ◌∙◌, arith}
use Rattle.ori_volume.specs.Disk.{Files}
use Rattle.ori_volume.specs.Story.{Tells}
use Rattle.ori_log.specs.Attaching.{IsKeptOrMade}
use Rattle.ori_log.specs.declared.fault.LogFault.{LogFault}
use Rattle.ori_pool.specs.Devices.{Opens, OpensRead}
use Rattle.ori_turns.proofs.Started.{tells_on, read_counted, ok_err}
use Rattle.ori_turns.proofs.opening.open_device.Goals as goal

pub returns-in-Ok-end_opening-clause-ok : goal.returns-in-Ok-end_opening-clause-ok
returns-in-Ok-end_opening-clause-ok g c =
    let same = c.end_opening.ensures.same in (
      c.in-Ok.images,
      record {
        story = subst (λ (l : Option _). Tells (Opens (Ok c.in-Ok.images) l) (g.V.Volume.story c.args.device.volume)
            (g.V.Volume.story c.end_opening.new.device.volume)) (sym same.0)
            (tells_on (Ok c.in-Ok.images) c.open.new.self.log _ _ _ c.in-Ok.ensures.crash
            c.end_opening.ensures.read.story);
        files = subst (λ (l : Option _). Tells (OpensRead {E = LogFault} (Ok c.in-Ok.images) l)
            (g.V.Volume.files c.args.device.volume)
            (g.V.Volume.files c.end_opening.new.device.volume)) (sym same.0)
            (subst (λ (f : Option Files). Tells (OpensRead {E = LogFault} (Ok c.in-Ok.images) c.open.new.self.log)
            (g.V.Volume.files c.args.device.volume) f) (sym c.end_opening.ensures.read.files) c.in-Ok.ensures.read);
        attached = subst (λ (l : Option _). IsSome l) (sym same.0) c.in-Ok.ensures.open;
        unhalted = same.1 ∙ c.in-Ok.ensures.halted;
        faults = omega (arith, c.open.ensures.faults.later, c.end_opening.ensures.faults.later);
        log_faults = c.end_opening.ensures.read.log_faults ∙ c.in-Ok.ensures.log_fine;
        installed = c.in-Ok-end_opening.ensures.installed;
        contents = c.in-Ok-end_opening.ensures.contents;
      },
    )

pub returns-in-Ok-end_opening-clause-files : goal.returns-in-Ok-end_opening-clause-files
returns-in-Ok-end_opening-clause-files g c = record {
  holds = read_counted c.in-Ok.images c.in-Ok-end_opening.opening.count _ _ c.in-Ok.ensures.files
      c.in-Ok.ensures.holds c.in-Ok-end_opening.ensures.count;
  kept = subst (λ (f : Option Files). Tells IsKeptOrMade (g.V.Volume.files c.args.device.volume) f)
      (sym c.end_opening.ensures.read.files) c.in-Ok.ensures.files;
  breaks = λ file is. absurd (ok_err c.in-Ok-end_opening.opening _ _ refl is);
}

pub returns-in-Err-end_opening-clause-err : goal.returns-in-Err-end_opening-clause-err
returns-in-Err-end_opening-clause-err g c =
    let back = c.of.ensures.volume ∙ c.into_volume.ensures in
    record {
      story = (
        Ok c.in-Ok.images,
        c.open.new.self.log,
        subst (λ v. Tells (Opens (Ok c.in-Ok.images) c.open.new.self.log) (g.V.Volume.story c.args.device.volume)
            (g.V.Volume.story v)) (sym back)
            (tells_on (Ok c.in-Ok.images) c.open.new.self.log _ _ _ c.in-Ok.ensures.crash
            c.end_opening.ensures.read.story),
      );
      closed = c.of.ensures.log;
      faults = omega (
        arith,
        c.open.ensures.faults.later,
        c.end_opening.ensures.faults.later,
        ap (λ v. g.V.Volume.faults v) back,
      );
      log_faults = omega (
        arith,
        c.open.ensures.log_faults,
        c.end_opening.ensures.read.log_faults,
        ap (λ v. g.V.Volume.log_faults v) back,
      );
      dirty = c.in-Err-end_opening.ensures.dirty;
      no_more = c.in-Err-end_opening.ensures.no_more;
    }
