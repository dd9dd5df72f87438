use Rattle.std.proofs.Common.{◌∙◌}
use Rattle.pool_node.proofs.NodeReport.{messages_are}
use Rattle.pool_node.proofs.node.Node.messages.Goals as goal

pub returns-clause-count : goal.returns-clause-count
returns-clause-count c = c.count.ensures.count ∙ messages_are c.self.inside.parts c.args.self.now c.self.view_is c.self.invariant
