use Rattle.std.proofs.Common.{◌∙◌, sym, Bor}
use Rattle.ori_model.specs.declared.record.Stored.{Stored}
use Rattle.ori_model.specs.Data.{record_of}
use Rattle.ori_table.specs.Kept.{rows_of}
use Rattle.ori_table.proofs.Finding.{found_there, none_there, own_there}
use Rattle.ori_table.proofs.table.Table.find.Goals as goal

pub returns-in-Some-clause-found : goal.returns-in-Some-clause-found
returns-in-Some-clause-found c = c.row.ensures ∙ found_there (rows_of c.args.self.now.0) c.args.rid c.in-Some.place
    c.keeps.ensures.at c.in-Some.ensures

pub returns-in-Some-clause-own : goal.returns-in-Some-clause-own
returns-in-Some-clause-own c =
    own_there (Bor Stored) (λ s. record_of s.now) (rows_of c.args.self.now.0) c.args.rid c.in-Some.place c.row.result
    c.keeps.ensures.at c.keeps.ensures.own c.in-Some.ensures c.row.ensures

pub returns-in-None-clause-found : goal.returns-in-None-clause-found
returns-in-None-clause-found c = sym (none_there (rows_of c.args.self.now.0) c.args.rid c.keeps.ensures.at
    c.in-None.ensures)
