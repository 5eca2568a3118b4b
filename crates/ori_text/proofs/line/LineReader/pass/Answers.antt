use Rattle.ori_text.proofs.Buffers.{passed}
use Rattle.ori_text.proofs.line.LineReader.pass.Goals as goal

pub returns : goal.returns
returns c =
    let i = c.self.inside in
    passed i.buffer.items i.start i.end i.given c.args.len i.ended c.args.self.now c.self.invariant.0 c.self.view_is
    c.requires.fits
