use Rattle.std.proofs.Common.{Some, None}
use Rattle.ori_model.specs.Data.{tx_of}
use Rattle.ori_txn.proofs.Showing.{shows_formed, found_formed}
use Rattle.ori_txn.proofs.reader.TxReaderReader.fetch.Goals as goal

pub returns-in-None-clause-found : goal.returns-in-None-clause-found
returns-in-None-clause-found g c =
    shows_formed _ (tx_of c.args.self.now.changes.tx.now) None c.args.rid c.args.self.now.changes.formed
    (rw (c.change_at-change.ensures, c.in-None.is) at c.in_ok-fetch_with.ensures.found)

pub returns-in-Some-clause-found : goal.returns-in-Some-clause-found
returns-in-Some-clause-found g c =
    shows_formed _ (tx_of c.args.self.now.changes.tx.now) (Some c.in-Some.stored) c.args.rid
    c.args.self.now.changes.formed
    (rw (c.change_at-change.ensures, c.in-Some.is) at c.in_ok-fetch_with.ensures.found)

pub fetch_with-requires : goal.fetch_with-requires
fetch_with-requires g c =
    rw c.change_at-change.ensures
    (found_formed (tx_of c.args.self.now.changes.tx.now) c.args.rid c.args.self.now.changes.formed)
