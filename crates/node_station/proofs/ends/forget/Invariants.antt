use Rattle.std.proofs.Common.{◌≡◌, ◌≤◌}
use Rattle.node_station.proofs.ForgottenPackets.{forgotten}
use Rattle.node_station.proofs.ends.forget.Given as goal

abbrev pub invariant-loop-i : goal.invariant-loop-i
invariant-loop-i l = record {
  some : 1 ≤ l._i;
  within : l._i ≤ l.count;
  left : l.links ≡ forgotten l.from l.to l._i l.fn.links;
}
