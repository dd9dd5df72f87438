use Rattle.std.proofs.Common.{◌≡◌, ◌<◌, ℕ, false}
use Rattle.std.specs.Prelude.{Some, slice_get}
use Rattle.run_types.specs.Tables.{list_at, pair_cmp}
use Rattle.node_semantics.specs.Standings.{brings}
use Rattle.rendezvous_protocol.specs.declared.packet.Packet.{Packet}
use Rattle.rendezvous_protocol.specs.Packets.{numbered}
use Rattle.pool_machine.proofs.report.link_brings.Given as goal

abbrev pub invariant-loop-place : goal.invariant-loop-place
invariant-loop-place l = (i : ℕ) → i < l.place → (x : Packet) → slice_get (list_at pair_cmp (l.from, l.to) l.links.links) i ≡ Some x → brings l.name (numbered x).packet ≡ false
