use Rattle.std.proofs.Common.{◌*◌}
use Rattle.machine_network.specs.WireReports.{AreNew}
use Rattle.machine_network.proofs.wires.add_wires.Given as goal

abbrev pub invariant-loop-to : goal.invariant-loop-to
invariant-loop-to l = AreNew l.mesh.width (l.mesh.width * l.mesh.height) l.from l.to l.wires.entries
