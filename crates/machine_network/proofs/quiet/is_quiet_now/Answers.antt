use Rattle.std.proofs.Common.{sym, ◌≡◌, refl, ap, ◌∙◌, map, not, ◌&&◌}
use Rattle.std.specs.Option.{option_map}
use Rattle.mesh_of_code.specs.Coded.{coded}
use Rattle.node_semantics.specs.Machine.{any_ready, are_acknowledged}
use Rattle.machine_network.specs.LinkWires.{numbered_wires, wires_in}
use Rattle.machine_network.proofs.QuietNetworks.{settled_told}
use Rattle.machine_network.proofs.quiet.is_quiet_now.Goals as goal
use Rattle.machine_network.proofs.quiet.is_quiet_now.Goals.{then-is_empty, else-is_empty}

pub returns-then-is_acknowledged : goal.returns-then-is_acknowledged
returns-then-is_acknowledged c =
    let acked = are_acknowledged (option_map numbered_wires (wires_in c.args.network.now.wires)) in
    let settled : c.if-is_empty.value ≡ (c.is_empty.result && acked) = elim c.if-is_empty.branch [
      | then-is_empty w ↦ w.value-is ∙ w.is_acknowledged.ensures ∙ ap (λ b. b && acked) (sym w.if-is_empty.true)
      | else-is_empty w ↦ w.value-is ∙ w.if-is_empty.false ∙ ap (λ b. b && acked) (sym w.if-is_empty.false)
    ] in
    sym (ap (λ b. b && not c.can_step.result) c.if-is_acknowledged.true)
    ∙ settled_told c.args.unit.now c.args.nodes.now c.args.network.now.links.links c.requires.filled (wires_in c.args.network.now.wires)
    c.is_empty.result c.if-is_empty.value c.can_step.result c.is_empty.ensures settled c.can_step.ensures

pub returns-else-is_acknowledged : goal.returns-else-is_acknowledged
returns-else-is_acknowledged c =
    let acked = are_acknowledged (option_map numbered_wires (wires_in c.args.network.now.wires)) in
    let settled : c.if-is_empty.value ≡ (c.is_empty.result && acked) = elim c.if-is_empty.branch [
      | then-is_empty w ↦ w.value-is ∙ w.is_acknowledged.ensures ∙ ap (λ b. b && acked) (sym w.if-is_empty.true)
      | else-is_empty w ↦ w.value-is ∙ w.if-is_empty.false ∙ ap (λ b. b && acked) (sym w.if-is_empty.false)
    ] in
    let ready = any_ready (coded c.args.unit.now) 0 (map (λ n. n.state) c.args.nodes.now) in
    c.if-is_acknowledged.false ∙ sym (ap (λ b. b && not ready) c.if-is_acknowledged.false)
    ∙ settled_told c.args.unit.now c.args.nodes.now c.args.network.now.links.links c.requires.filled (wires_in c.args.network.now.wires)
    c.is_empty.result c.if-is_empty.value ready c.is_empty.ensures settled refl
