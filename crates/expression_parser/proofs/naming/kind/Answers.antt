use Rattle.std.proofs.Common.{sym}
use Rattle.expression_parser.proofs.NameLists.{kind_read, kind_refused}
use Rattle.expression_parser.proofs.naming.kind.Goals as goal

pub returns-in-Some-clause-parses : goal.returns-in-Some-clause-parses
returns-in-Some-clause-parses c = kind_read _ c.peek.ensures (sym c.in-Some.ensures)

pub returns-in-None-clause-parses : goal.returns-in-None-clause-parses
returns-in-None-clause-parses c = kind_refused c.peek.ensures (sym c.in-None.ensures)
