-- The outcomes that a node reports are those of the definition of nodes.
use Rattle.std.specs.Prelude.{◌≡◌}
use Rattle.std.specs.Option.{option_map}
use Rattle.mesh_of_code.specs.Coded.{Placed}
use Rattle.node_semantics.specs.Node as N
use Rattle.node_semantics.specs.Node.{NodeActed}
use Rattle.rendezvous_protocol.specs.Packets.{numbered}
use Rattle.node_acts.specs.ActOf.{Act}
use Rattle.node_acts.specs.ActOf as A
use Rattle.node_state.specs.NodeOf.{NodeOf}

-- The outcome is the act of the definition: nothing, a line with the packet that leaves, or a limit. The node is then
-- as the act says.
abbrev pub IsActOf : Act → NodeOf → NodeOf → NodeActed Placed → Type 0
IsActOf A.Idle old new N.Idle = new ≡ old
IsActOf (A.Line what packet) old new (N.Acts w p x) = (what ≡ w) × (option_map numbered packet ≡ p) × (new ≡ record old { state = x; ready = new.ready })
IsActOf (A.Full kind) old new (N.Full k) = (kind ≡ k) × (new ≡ old)
IsActOf _ old new _ = ⊥
