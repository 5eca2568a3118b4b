use Rattle.std.proofs.Common.{◌-◌, ℕ, ap}
use Rattle.ori_script.proofs.Numbered.{still_numbered, done_at}
use Rattle.ori_script.proofs.sessions.Sessions.exec.Goals as goal

pub invariant_of-self : goal.invariant_of-self
invariant_of-self g c = record {
  numbered = still_numbered c.args.self.now.list.items (c.from-place.result - 1) c.index_mut.result.now c.exec.new.self
      c.args.self.now.numbered c.index_mut.ensures.value c.exec.ensures.number;
}

pub returns-clause-done : goal.returns-clause-done
returns-clause-done g c =
    done_at c.args.self.now.list.items c.args.session (c.from-place.result - 1) c.index_mut.result.now c.exec.new.self
    (g.K.Reader.state c.args.keeper.now) (g.K.Reader.state c.exec.new.keeper) (g.K.Reader.causes c.args.keeper.now)
    (g.K.Reader.causes c.exec.new.keeper) (g.K.Reader.view c.args.keeper.now) c.args.text.now c.exec.result
    c.args.self.now.numbered c.requires.first c.requires.last (ap (λ (n : ℕ). n - 1) c.from-place.ensures)
    c.index_mut.ensures.value c.exec.ensures.executes
