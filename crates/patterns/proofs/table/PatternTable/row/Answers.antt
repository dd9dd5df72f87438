use Rattle.std.proofs.Common.{sym, ◌∙◌, [], arith}
use Rattle.patterns.proofs.RowFacts.{no_row, row_at}
use Rattle.patterns.proofs.table.PatternTable.row.Goals as goal

pub unreachable-requires : goal.unreachable-requires
unreachable-requires c = no_row [] c.args.self.now.rows.items c.args.at (omega (arith, c.requires)) (sym c.at.ensures ∙ c.in-None.is)

pub returns-clause-node : goal.returns-clause-node
returns-clause-node c = (row_at [] c.args.self.now.rows.items c.args.at c.args.at c.in-Some.row (omega arith) c.args.self.now.right (sym c.at.ensures ∙ c.in-Some.is)).node

pub returns-clause-within : goal.returns-clause-within
returns-clause-within c = (row_at [] c.args.self.now.rows.items c.args.at c.args.at c.in-Some.row (omega arith) c.args.self.now.right (sym c.at.ensures ∙ c.in-Some.is)).within

pub returns-clause-nullable : goal.returns-clause-nullable
returns-clause-nullable c = (row_at [] c.args.self.now.rows.items c.args.at c.args.at c.in-Some.row (omega arith) c.args.self.now.right (sym c.at.ensures ∙ c.in-Some.is)).nullable

pub returns-clause-void : goal.returns-clause-void
returns-clause-void c = (row_at [] c.args.self.now.rows.items c.args.at c.args.at c.in-Some.row (omega arith) c.args.self.now.right (sym c.at.ensures ∙ c.in-Some.is)).void
