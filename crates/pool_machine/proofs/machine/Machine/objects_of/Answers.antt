use Rattle.std.proofs.Common.{◌≡◌, ◌*◌, ◌<◌, sym, ap, subst, ◌∙◌, length, Some}
use Rattle.std.specs.Prelude.{slice_get}
use Rattle.std.proofs.lemmas.Option.{slice_get-get_or}
use Rattle.mesh_semantics.specs.Config.{Config}
use Rattle.mesh_semantics.specs.Delay.{Delay}
use Rattle.mesh_semantics.specs.Act.{object_count}
use Rattle.mesh_of_code.specs.Coded.{Placed}
use Rattle.machine_network.specs.LinkWires.{wires_in}
use Rattle.pool_machine.specs.MachineOf.{MachineOf}
use Rattle.pool_machine.specs.Answers.{MachineRepresents}
use Rattle.pool_machine.proofs.ReportedStandings.{objects_told, state_of}
use Rattle.pool_machine.proofs.machine.Machine.objects_of.Goals as goal

pub returns-clause-count : goal.returns-clause-count
returns-clause-count c =
    let inside : c.args.node < c.self.inside.plan.placement.now.width * c.self.inside.plan.placement.now.height = subst (λ (v : MachineOf). c.args.node < v.placement.width * v.placement.height) (sym c.self.view_is) c.requires in
    let below : c.args.node < length c.self.inside.nodes.items = subst (λ n. c.args.node < n) (sym c.self.invariant.kept.parts.count) inside in
    let here : slice_get c.self.inside.nodes.items c.args.node ≡ Some c.index.result.now = slice_get-get_or c.self.inside.nodes.items c.args.node c.index.result.now below ∙ ap Some (sym c.index.ensures) in
    subst (λ (v : MachineOf). (e : Config Placed) (d : Delay) → MachineRepresents v e d → c.objects.result ≡ object_count e c.args.node) c.self.view_is
    (λ e d s. c.objects.ensures.count ∙ objects_told c.self.inside.plan.unit.now c.self.inside.plan.placement.now c.self.inside.nodes.items c.self.inside.network.links c.self.invariant.kept.parts e d s.sound (state_of c.self.inside.plan.unit.now c.self.inside.plan.placement.now c.self.inside.nodes.items c.self.inside.network.links.links (wires_in c.self.inside.network.wires) e d s.stands) c.args.node c.index.result.now here)
