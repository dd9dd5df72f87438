use Rattle.std.proofs.Common.{◌≡◌, ℕ, List, ap, subst, ◌∙◌, is_some}
use Rattle.std.specs.List.{list_any}
use Rattle.mesh_semantics.specs.Config.{Config}
use Rattle.mesh_semantics.specs.Delay.{Delay}
use Rattle.mesh_of_code.specs.Coded.{Placed, coded}
use Rattle.node_semantics.specs.Machine.{any_faulted}
use Rattle.node_state.specs.NodeOf.{NodeOf}
use Rattle.machine_network.specs.LinkWires.{wires_in}
use Rattle.pool_machine.specs.MachineOf.{MachineOf}
use Rattle.pool_machine.specs.Parts.{machine_from}
use Rattle.pool_machine.specs.Answers.{MachineRepresents}
use Rattle.pool_machine.proofs.ReportedStandings.{faults_told, state_of}
use Rattle.pool_machine.proofs.machine.Machine.any_faulted.Goals as goal

pub returns : goal.returns
returns c =
    subst (λ (v : MachineOf). (e : Config Placed) (d : Delay) → MachineRepresents v e d → c.has_faulted.result ≡ list_any (λ (x : ℕ × Placed). is_some x.1.fault) e.objects) c.self.view_is
    (λ e d s. c.has_faulted.ensures ∙ ap (λ (ns : List NodeOf). any_faulted (coded c.self.inside.plan.unit.now) (machine_from ns c.self.inside.network.links.links)) c.as_slice.ensures.value
    ∙ faults_told c.self.inside.plan.unit.now c.self.inside.plan.placement.now c.self.inside.nodes.items c.self.inside.network.links c.self.invariant.kept.parts e d s.sound (state_of c.self.inside.plan.unit.now c.self.inside.plan.placement.now c.self.inside.nodes.items c.self.inside.network.links.links (wires_in c.self.inside.network.wires) e d s.stands))
