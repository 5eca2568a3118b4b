use Rattle.std.proofs.Common.{arith, refl}
use Rattle.ori_turns.specs.Seats.{last_of}
use Rattle.ori_cache.specs.Reads.{IsSame}
use Rattle.ori_cache.specs.ReadLaws.{seat_kept, no_change}
use Rattle.ori_cache.proofs.Turns.{device_read, only_same}
use Rattle.ori_cache.proofs.reading.read_moment.Goals as goal

pub returns-in_err-device-clause-reads : goal.returns-in_err-device-clause-reads
returns-in_err-device-clause-reads g c =
    let kept = seat_kept IsSame (λ a. refl) (g.F.Frames.seat c.args.frames.now)
    (g.F.Frames.seat c.take_device.new.self) c.requires.free.device c.in_err-device.ensures.same in
    record {
      shares = c.take_device.ensures.shares;
      tended = kept.0;
      told = kept.1;
      waits = c.take_device.ensures.later;
      gives = λ cache is. (cache, no_change cache, c.in_err-device.ensures.goes_on cache is);
    }

pub returns-clause-reads : goal.returns-clause-reads
returns-clause-reads g c =
    let device = c.in_ok-device.device in
    let did = device_read IsSame device device (last_of g.V.Volume.faults g.V.Volume.log_faults device) refl
    (g.F.Frames.seat c.args.frames.now) (g.F.Frames.seat c.take_device.new.self)
    (g.F.Frames.seat c.give_device.new.self) c.in_ok-device.ensures.seat c.give_device.ensures.seat
    c.in_ok-device.ensures.told c.in_ok-device.ensures.faults c.in_ok-device.ensures.last in
    record {
      shares = g.met.F.Frames.shares_on c.args.frames.now c.take_device.new.self c.give_device.new.self
          c.take_device.ensures.shares c.give_device.ensures.shares;
      tended = did.tended;
      told = did.told;
      waits = omega (arith, c.in_ok-device.ensures.waits, c.give_device.ensures.waits);
      gives = λ cache is.
          let took = c.in_ok-device.ensures.gives cache is in
          (took.0, took.1.same, c.give_device.ensures.gives took.0 took.0 took.2 (only_same _ took.0) took.3);
    }
