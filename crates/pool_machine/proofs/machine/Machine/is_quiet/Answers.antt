use Rattle.std.proofs.Common.{◌≡◌, subst, ◌∙◌}
use Rattle.mesh_semantics.specs.Config.{Config}
use Rattle.mesh_semantics.specs.Delay.{Delay}
use Rattle.mesh_semantics.specs.Act.{is_quiet}
use Rattle.mesh_of_code.specs.Coded.{Placed, coded}
use Rattle.machine_network.specs.LinkWires.{wires_in}
use Rattle.pool_machine.specs.MachineOf.{MachineOf}
use Rattle.pool_machine.specs.Answers.{MachineRepresents}
use Rattle.pool_machine.proofs.ReportedStandings.{quiet_is}
use Rattle.pool_machine.proofs.machine.Machine.is_quiet.Goals as goal

pub returns : goal.returns
returns c =
    subst (λ (v : MachineOf). (e : Config Placed) (d : Delay) → MachineRepresents v e d → c.self.inside.quiet ≡ is_quiet (coded v.unit) e d) c.self.view_is
    (λ e d s. c.self.invariant.quiet
    ∙ quiet_is c.self.inside.plan.unit.now c.self.inside.plan.placement.now c.self.inside.nodes.items c.self.inside.network.links c.self.invariant.kept.parts (wires_in c.self.inside.network.wires) e d s.sound s.stands)
