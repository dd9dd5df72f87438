use Rattle.std.proofs.Common.{◌≡◌}
use Rattle.std.specs.List.{list_all}
use Rattle.std.specs.BTreeMap.{values}
use Rattle.machine_network.specs.LinkWires.{is_done}
use Rattle.machine_network.proofs.wires.all_acknowledged.Given as goal

abbrev pub invariant-loop-wire : goal.invariant-loop-wire
invariant-loop-wire l = list_all is_done (values l.wires) ≡ list_all is_done l.wire-iterator
