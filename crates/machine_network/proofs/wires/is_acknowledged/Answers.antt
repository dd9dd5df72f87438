use Rattle.std.proofs.Common.{sym, ap, ◌∙◌}
use Rattle.std.specs.Option.{option_map}
use Rattle.node_semantics.specs.Machine.{are_acknowledged}
use Rattle.machine_network.specs.LinkWires.{numbered_wires, wires_in}
use Rattle.machine_network.proofs.AllAcknowledged.{acknowledged_is}
use Rattle.machine_network.proofs.wires.is_acknowledged.Goals as goal

pub returns-in-Some : goal.returns-in-Some
returns-in-Some c =
    c.all_acknowledged.ensures.all ∙ sym (acknowledged_is c.in-Some.wires c.all_acknowledged.ensures.ordered)
    ∙ ap (λ w. are_acknowledged (option_map numbered_wires (wires_in w))) (sym c.in-Some.is)
