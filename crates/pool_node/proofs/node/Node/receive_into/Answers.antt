use Rattle.std.proofs.Common.{ap, ◌∙◌}
use Rattle.mesh_of_code.specs.Coded.{coded}
use Rattle.rendezvous_protocol.specs.Packets.{numbered}
use Rattle.node_state.specs.NodeOf.{NodeOf}
use Rattle.node_state.specs.Views.{node_of}
use Rattle.node_acts.specs.ActOf.{act_of}
use Rattle.pool_node.proofs.MadeCounts.{made_after}
use Rattle.pool_node.proofs.node.Node.receive_into.Goals as goal

pub returns-clause-made : goal.returns-clause-made
returns-clause-made c =
    made_after (coded c.args.plan.now.unit.now) c.args.plan.now.placement.now c.self.inside.parts.id c.args.plan.now.leaving (numbered c.args.packet) (act_of c.receipt_of.result c.receipt_of.new.room)
    (node_of c.self.inside.parts) (node_of c.receipt_of.new.parts) c.receipt_of.ensures.act ∙ ap (λ (n : NodeOf). n.state.made) c.self.view_is
