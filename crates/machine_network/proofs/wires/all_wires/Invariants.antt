use Rattle.std.proofs.Common.{◌*◌}
use Rattle.machine_network.specs.WireReports.{AreNew}
use Rattle.machine_network.proofs.wires.all_wires.Given as goal

abbrev pub invariant-loop-from : goal.invariant-loop-from
invariant-loop-from l = AreNew l.mesh.width (l.mesh.width * l.mesh.height) l.from 0 l.wires.entries
