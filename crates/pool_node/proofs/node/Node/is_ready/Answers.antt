use Rattle.std.proofs.Common.{◌∙◌}
use Rattle.pool_node.proofs.NodeReport.{ready_is}
use Rattle.pool_node.proofs.node.Node.is_ready.Goals as goal

pub returns : goal.returns
returns c = c.is_some.ensures ∙ ready_is c.args.unit.now c.self.inside.parts c.args.self.now c.first_ready.result c.self.view_is c.requires c.first_ready.ensures
