use Rattle.std.proofs.Common.{◌≡◌, List, sym, ap, subst, ◌∙◌}
use Rattle.std.specs.Option.{option_map}
use Rattle.mesh_semantics.specs.Config.{Config}
use Rattle.mesh_semantics.specs.Delay.{Delay}
use Rattle.mesh_of_code.specs.Coded.{Placed, coded}
use Rattle.node_semantics.specs.Standings.{machine_standing}
use Rattle.node_state.specs.NodeOf.{NodeOf}
use Rattle.pool_node.specs.Standings.{told_standing}
use Rattle.machine_network.specs.LinkWires.{wires_in}
use Rattle.pool_machine.specs.MachineOf.{MachineOf}
use Rattle.pool_machine.specs.Parts.{NodesInvariant, machine_from}
use Rattle.pool_machine.specs.Answers.{MachineRepresents, standing_at}
use Rattle.pool_machine.proofs.ReportedStandings.{standing_told, state_of}
use Rattle.pool_machine.proofs.WithoutWires.{kept_without}
use Rattle.pool_machine.proofs.machine.Machine.status_of.Goals as goal

pub standing_in-requires-clause-kept : goal.standing_in-requires-clause-kept
standing_in-requires-clause-kept c =
    subst (λ (ns : List NodeOf). NodesInvariant c.self.inside.plan.unit.now c.self.inside.plan.placement.now ns c.self.inside.network.links) (sym c.as_slice.ensures.value)
    (kept_without c.self.inside.plan.unit.now c.self.inside.plan.placement.now c.self.inside.nodes.items c.self.inside.network.links (wires_in c.self.inside.network.wires) c.self.invariant.kept)

pub returns : goal.returns
returns c =
    subst (λ (v : MachineOf). (e : Config Placed) (d : Delay) → MachineRepresents v e d → option_map told_standing c.standing_in.result ≡ standing_at v.unit e d c.args.name) c.self.view_is
    (λ e d s. c.standing_in.ensures ∙ ap (λ (ns : List NodeOf). machine_standing (coded c.self.inside.plan.unit.now) (machine_from ns c.self.inside.network.links.links) c.args.name) c.as_slice.ensures.value
    ∙ standing_told c.self.inside.plan.unit.now c.self.inside.plan.placement.now c.self.inside.nodes.items c.self.inside.network.links c.self.invariant.kept.parts e d s.sound (state_of c.self.inside.plan.unit.now c.self.inside.plan.placement.now c.self.inside.nodes.items c.self.inside.network.links.links (wires_in c.self.inside.network.wires) e d s.stands) c.args.name)
