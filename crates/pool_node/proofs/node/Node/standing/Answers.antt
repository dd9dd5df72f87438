use Rattle.std.proofs.Common.{ℕ, sym, ap, ap₂, ◌∙◌}
use Rattle.mesh_of_code.specs.Coded.{Placed, coded}
use Rattle.node_semantics.specs.Node.{Slot, name_at}
use Rattle.node_semantics.specs.Standings.{slot_standing}
use Rattle.node_state.specs.NodeOf.{NodeOf}
use Rattle.pool_node.proofs.NodeReport.{slot_below, the_slot}
use Rattle.pool_node.proofs.node.Node.standing.Goals as goal

pub standing_of-requires-clause-slot : goal.standing_of-requires-clause-slot
standing_of-requires-clause-slot c = slot_below c.self.inside.parts c.args.self.now c.args.slot c.self.view_is c.requires.slot

pub returns : goal.returns
returns c = λ s h.
    c.standing_of.ensures ∙ ap₂ (λ (o : ℕ) (z : Slot Placed). slot_standing (coded c.args.unit.now) (name_at o c.args.slot) z) (ap (λ (n : NodeOf). n.id) c.self.view_is)
    (sym (the_slot c.self.inside.parts c.args.self.now c.args.slot s c.self.view_is h))
