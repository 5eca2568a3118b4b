use Rattle.ori_engine.specs.Openings.{opening_of}
use Rattle.ori_engine.proofs.Engines.{kept_state}
use Rattle.ori_engine.proofs.engine.Engine.keeps.Goals as goal

pub returns : goal.returns
returns g c = kept_state c.args.self.now.kept c.args.self.now.pool.known.halted
    (opening_of c.args.self.now.opened) c.args.self.now.causes c.keeps.ensures.at c.args.self.now.doubts
    c.args.self.now.undamaged
