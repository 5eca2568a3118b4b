use Rattle.ori_engine.proofs.engine.EngineReader.fetch.Goals as goal

pub invariant_of-self : goal.invariant_of-self
invariant_of-self g c =
    let e = c.args.self.now in
    record {
      doubts = e.doubts;
      later = e.later;
      log_later = e.log_later;
      halts = e.halts;
      goes_on = e.goes_on;
      troubled = e.troubled;
      waited = e.waited;
      head = e.head;
      undamaged = e.undamaged;
    }
