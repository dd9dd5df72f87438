-- New wires, and the report of an event on a wire.
use Rattle.std.specs.Prelude.{◌≡◌, ◌⊎◌, ℕ, ◌<◌, Option, Some, None, true}
use Rattle.std.specs.FinMap.{put}
use Rattle.run_types.specs.declared.types.What.{What}
use Rattle.run_types.specs.declared.types.What.TheVariants as W
use Rattle.run_types.specs.Paths.{AreNeighbours}
use Rattle.run_types.specs.Tables.{Pair, pair_cmp}
use Rattle.mesh_semantics.specs.KeptWire.{KeptWire, empty_kept}
use Rattle.rendezvous_protocol.specs.declared.packet.Packet.{Packet}
use Rattle.machine_network.specs.LinkWires.{LinkWires, has_wire, wire_of}

-- Wires that no packet has entered: those of all links from nodes below `from`, and of the links from `from` to nodes
-- below `to`.
pub record AreNew (width size from to : ℕ) (ws : LinkWires) : Type 0 where
  pub empty : (k : Pair) → wire_of ws k ≡ empty_kept
  pub there : (a b : ℕ) → (a < from) ⊎ ((a ≡ from) × (b < to)) → b < size → AreNeighbours width a b → has_wire ws (a, b) ≡ true

-- The report is the event on the wire, and the wire has changed accordingly. If there was nothing to do, the report is
-- idle, and the wire is unchanged.
abbrev pub WireReports : KeptWire Packet → Option (What × KeptWire Packet) → What → KeptWire Packet → Type 0
WireReports old None what new = (what ≡ W.Idle) × (new ≡ old)
WireReports old (Some r) what new = (r.0 ≡ what) × (r.1 ≡ new)

-- the same for the wire of a link; all other wires are unchanged
abbrev pub LinkWireReports : LinkWires → Pair → Option (What × KeptWire Packet) → What → LinkWires → Type 0
LinkWireReports old k None what new = (what ≡ W.Idle) × (new ≡ old)
LinkWireReports old k (Some r) what new = (r.0 ≡ what) × (new ≡ put pair_cmp k r.1 old)
