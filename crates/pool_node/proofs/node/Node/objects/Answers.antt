use Rattle.std.proofs.Common.{◌∙◌}
use Rattle.pool_node.proofs.NodeReport.{objects_are}
use Rattle.pool_node.proofs.node.Node.objects.Goals as goal

pub returns-clause-count : goal.returns-clause-count
returns-clause-count c = c.objects.ensures.count ∙ objects_are c.self.inside.parts c.args.self.now c.self.view_is
