use Rattle.std.proofs.Common.{sym, subst, arith}
use Rattle.ori_volume.specs.Story.{Tells}
use Rattle.ori_turns.specs.Seats.{IsTended}
use Rattle.ori_cache.specs.Reads.{ReadsDevice, ReadsTold}
use Rattle.ori_cache.specs.ReadLaws.{not_read, seat_kept, no_change, same_then}
use Rattle.ori_cache.proofs.Turns.{part_read}
use Rattle.ori_cache.proofs.reading.read_page.Goals as goal

pub returns-in_default-clause-reads : goal.returns-in_default-clause-reads
returns-in_default-clause-reads g c =
    let kept = seat_kept (ReadsDevice g.V.Volume.files g.V.Volume.story g.V.Volume.moment g.V.Volume.faults
    g.V.Volume.log_faults) (λ a. not_read a) (g.F.Frames.seat c.args.frames.now) (g.F.Frames.seat c.take_part.new.self)
    c.requires.free.device c.in_default.ensures.same in
    record {
      shares = c.take_part.ensures.shares;
      tended = kept.0;
      told = kept.1;
      waits = c.take_part.ensures.later;
      gives = λ cache is. (cache, no_change cache, c.in_default.ensures.goes_on cache is);
    }

pub returns-clause-reads : goal.returns-clause-reads
returns-clause-reads g c =
    let a = c.args.frames.now in
    let b = c.take_part.new.self in
    let m = c.read_part-answer.new.frames in
    let d = c.give_part.new.self in
    let did = part_read (ReadsDevice g.V.Volume.files g.V.Volume.story g.V.Volume.moment g.V.Volume.faults
    g.V.Volume.log_faults) _ c.in-Some.held c.read_part-answer.new.held (omega arith)
    c.read_part-answer.ensures.places (g.F.Frames.seat a) (g.F.Frames.seat b) (g.F.Frames.seat m) (g.F.Frames.seat d)
    c.in-Some.ensures.seat c.read_part-answer.ensures.reads c.give_part.ensures.seat c.in-Some.ensures.told
    (g.met.F.Frames.eight m).1 in
    record {
      shares = g.met.F.Frames.shares_on a b d c.take_part.ensures.shares
          (g.met.F.Frames.shares_on b m d c.read_part-answer.ensures.shares c.give_part.ensures.shares);
      tended = did.0;
      told = did.1;
      waits = omega (arith, c.in-Some.ensures.waits, c.read_part-answer.ensures.waits, c.give_part.ensures.waits);
      gives = λ cache is.
          let took = c.in-Some.ensures.gives cache is in
          let done = c.read_part-answer.ensures.gives took.0 took.2 took.3 in (
            done.0,
            same_then cache took.0 done.0 took.1.same done.1,
            c.give_part.ensures.gives done.0 done.2 done.3,
          );
    }
