-- The plain data that the parser's statements stand for.
use Rattle.ori_spec_data.specs.Value.{Tree, integer, long, str, link}
use Rattle.ori_spec_texts.specs.Statement.{StatementData, inserts, selects, updates, deletes_vertex, begins, commits}
use Rattle.ori_spec_texts.specs.Statement.{rolls_back}
use Rattle.ori_session.specs.declared.hand.Literal.{Literal}
use Rattle.ori_session.specs.declared.hand.Literal.TheVariants.{Quoted, Small, Large, Link}
use Rattle.ori_session.specs.declared.hand.Statement.{Statement}
use Rattle.ori_session.specs.declared.hand.Statement.TheVariants.{Insert, Select, Update, DeleteVertex, Begin, Commit}
use Rattle.ori_session.specs.declared.hand.Statement.TheVariants.{Rollback}

abbrev pub literal_of : Literal → Tree
literal_of (Quoted text) = str text.now
literal_of (Small number) = integer number
literal_of (Large number) = long number
literal_of (Link rid) = link rid

abbrev pub statement_of : Statement → StatementData
statement_of (Insert name value) = inserts name.now (literal_of value)
statement_of (Select rid) = selects rid
statement_of (Update rid name value) = updates rid name.now (literal_of value)
statement_of (DeleteVertex rid) = deletes_vertex rid
statement_of Begin = begins
statement_of Commit = commits
statement_of Rollback = rolls_back
