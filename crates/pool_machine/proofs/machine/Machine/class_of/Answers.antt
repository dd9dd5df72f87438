use Rattle.std.proofs.Common.{sym, ◌≡◌, List, ap, subst, ◌∙◌}
use Rattle.std.specs.Option.{option_map}
use Rattle.mesh_semantics.specs.Config.{Config}
use Rattle.mesh_semantics.specs.Delay.{Delay}
use Rattle.mesh_of_code.specs.Coded.{Placed}
use Rattle.node_semantics.specs.StandsFor.{slot_at}
use Rattle.node_state.specs.NodeOf.{NodeOf}
use Rattle.machine_network.specs.LinkWires.{wires_in}
use Rattle.machine_network.specs.MachineOn.{AreOfUnit}
use Rattle.pool_machine.specs.MachineOf.{MachineOf}
use Rattle.pool_machine.specs.ObjectReport.{slot_class}
use Rattle.pool_machine.specs.Answers.{MachineRepresents, class_at}
use Rattle.pool_machine.proofs.ReportedStandings.{class_told, state_of}
use Rattle.pool_machine.specs.Parts.{machine_from}
use Rattle.pool_machine.proofs.ChangedNodes.{are_of_unit}
use Rattle.pool_machine.proofs.machine.Machine.class_of.Goals as goal

pub class_in-requires : goal.class_in-requires
class_in-requires c =
    subst (AreOfUnit c.self.inside.plan.unit.now) (sym c.as_slice.ensures.value)
    (are_of_unit c.self.inside.plan.unit.now c.self.inside.plan.placement.now c.self.inside.nodes.items c.self.inside.network.links c.self.invariant.kept.parts)

pub returns : goal.returns
returns c =
    subst (λ (v : MachineOf). (e : Config Placed) (d : Delay) → MachineRepresents v e d → option_map (λ k. k.0) c.class_in.result ≡ class_at v.unit e c.args.name) c.self.view_is
    (λ e d s. c.class_in.ensures ∙ ap (λ (ns : List NodeOf). slot_class c.self.inside.plan.unit.now (slot_at (machine_from ns c.self.inside.network.links.links) c.args.name)) c.as_slice.ensures.value
    ∙ class_told c.self.inside.plan.unit.now c.self.inside.plan.placement.now c.self.inside.nodes.items c.self.inside.network.links c.self.invariant.kept.parts e d s.sound (state_of c.self.inside.plan.unit.now c.self.inside.plan.placement.now c.self.inside.nodes.items c.self.inside.network.links.links (wires_in c.self.inside.network.wires) e d s.stands) c.args.name)
