use Rattle.std.proofs.Common.{sym, ap, ◌∙◌}
use Rattle.mesh_of_code.specs.Coded.{Placed}
use Rattle.node_semantics.specs.Node.{Slot}
use Rattle.pool_node.proofs.NodeReport.{slot_below, the_slot}
use Rattle.pool_node.proofs.node.Node.class_of.Goals as goal

pub class_of-requires : goal.class_of-requires
class_of-requires c = slot_below c.self.inside.parts c.args.self.now c.args.slot c.self.view_is c.requires

pub returns : goal.returns
returns c = λ s h. c.class_of.ensures ∙ ap (λ (z : Slot Placed). z.state.object.class) (sym (the_slot c.self.inside.parts c.args.self.now c.args.slot s c.self.view_is h))
