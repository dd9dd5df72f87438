use Rattle.std.proofs.Common.{sym, ◌∙◌}
use Rattle.patterns.proofs.RowFacts.{has_row}
use Rattle.patterns.proofs.table.PatternTable.found.Goals as goal

pub returns-then-same_node : goal.returns-then-same_node
returns-then-same_node c =
    has_row c.args.self.now.rows.items c.in_ok-at.field-0.now c.in_ok-row.row c.args.node c.args.self.now.right (sym c.at.ensures ∙ c.in_ok-row.was) (c.same_node.ensures c.if-same_node.true)
