-- The packets on links and the stored states of wires, with and without numbers beside the packets.
use Rattle.std.specs.Prelude.{ℕ, ◌+◌, ◌==◌, List, Option, Bool, length, map, is_some}
use Rattle.std.specs.Option.{option_map, unwrap_or}
use Rattle.std.specs.FinMap.{find}
use Rattle.std.specs.BTreeMap.{BTreeMap}
use Rattle.run_types.specs.Tables.{Pair, list_at, pair_cmp}
use Rattle.mesh_semantics.specs.Wire.{Frame}
use Rattle.mesh_semantics.specs.KeptWire.{KeptWire, empty_kept}
use Rattle.mesh_semantics.specs.NumberedPackets.{NumberedPacket}
use Rattle.node_semantics.specs.Machine.{KeptWires}
use Rattle.rendezvous_protocol.specs.declared.packet.Packet.{Packet}
use Rattle.rendezvous_protocol.specs.Packets.{numbered}

-- the stored states of wires, by the ends of their links
abbrev pub LinkWires : Type 0
LinkWires = List (Pair × KeptWire Packet)

-- the stored state of the wire of a link
abbrev pub wire_of : LinkWires → Pair → KeptWire Packet
wire_of ws k = unwrap_or (find pair_cmp k ws) empty_kept

-- whether a link has a wire
abbrev pub has_wire : LinkWires → Pair → Bool
has_wire ws k = is_some (find pair_cmp k ws)

-- the wires of a map, if there is one
abbrev pub wires_in : Option (BTreeMap Pair (KeptWire Packet)) → Option LinkWires
wires_in wires = option_map (λ m. m.entries) wires

-- whether every packet that a wire handed out is acknowledged
abbrev pub is_done : KeptWire Packet → Bool
is_done v = v.acked == v.handed

-- the number of packets that entered the wire of a link
abbrev pub entered_at : LinkWires → List (Pair × List Packet) → Pair → ℕ
entered_at ws links k = (wire_of ws k).handed + length (list_at pair_cmp k links)

-- the packets of a link with their numbers
abbrev pub numbered_link : Pair × List Packet → Pair × List NumberedPacket
numbered_link e = (e.0, map numbered e.1)

-- the stored states of wires, with numbers beside the packets
abbrev pub numbered_frame : Frame Packet → Frame NumberedPacket
numbered_frame f = (f.0, numbered f.1)

abbrev pub numbered_wire : KeptWire Packet → KeptWire NumberedPacket
numbered_wire v = record { handed = v.handed; acked = v.acked; next = v.next; sent = v.sent; copies = map numbered v.copies; frames = map numbered_frame v.frames; acks = v.acks }

abbrev pub numbered_wires : LinkWires → KeptWires
numbered_wires ws = map (λ e. (e.0, numbered_wire e.1)) ws
