-- The abstraction relation for machines with or without wires: the stored part of each wire is that of a wire with
-- numbered packets, which without the numbers is the wire of the delay.
use Rattle.std.specs.Prelude.{◌≡◌, List, [], ◌∷◌, ◌++◌, Option, Some, None}
use Rattle.run_types.specs.declared.types.Placement.{Placement}
use Rattle.run_types.specs.Tables.{Pair, pair_cmp, list_at}
use Rattle.mesh_semantics.specs.Language.{Language}
use Rattle.mesh_semantics.specs.Config.{Config}
use Rattle.mesh_semantics.specs.Delay.{Packet, Wires, Delay, wire_at}
use Rattle.mesh_semantics.specs.NumberedPackets.{NumberedPacket}
use Rattle.mesh_semantics.specs.Wire.{Frame, Wire, WireFacts}
use Rattle.mesh_semantics.specs.KeptWire.{KeptWire, kept_of}
use Rattle.mesh_semantics.specs.Act as A
use Rattle.mesh_semantics.specs.Act.{Acted}
use Rattle.node_semantics.specs.Machine as M
use Rattle.node_semantics.specs.Machine.{KeptWires, Machine, MachineActed, kept_at}
use Rattle.node_semantics.specs.StandsFor.{MachineStandsFor, packets}

-- the frames without the request numbers of their packets
abbrev pub plain_frames : List (Frame NumberedPacket) → List (Frame Packet)
plain_frames [] = []
plain_frames (f ∷ fs) = (f.0, f.1.packet) ∷ plain_frames fs

abbrev pub plain_wire : Wire NumberedPacket → Wire Packet
plain_wire w = record { put = packets w.put; handed = packets w.handed; acked = w.acked; next = w.next; sent = w.sent; frames = plain_frames w.frames; acks = w.acks }

-- v is the stored part of the wire w, whose link has these packets
pub record WireStandsFor (v : KeptWire NumberedPacket) (w : Wire Packet) (link : List NumberedPacket) : Type 0 where
  pub wire : Wire NumberedPacket
  pub facts : WireFacts wire
  pub rest : wire.put ≡ wire.handed ++ link
  pub kept : kept_of wire ≡ v
  pub without : plain_wire wire ≡ w

abbrev pub WiresStandFor : Option KeptWires → Option Wires → List (Pair × List NumberedPacket) → Type 0
WiresStandFor None None links = Unit {0}
WiresStandFor (Some vs) (Some ws) links = (k : Pair) → WireStandsFor (kept_at vs k) (wire_at ws k) (list_at pair_cmp k links)
WiresStandFor None (Some ws) links = ⊥
WiresStandFor (Some vs) None links = ⊥

-- the machine, with or without wires, represents the configuration and the delay
pub record StandsFor {S : Type 0} (g : Language S) (l : Placement) (m : Machine S) (c : Config S) (d : Delay) : Type 0 where
  pub state : MachineStandsFor g l m c d
  pub wires : WiresStandFor m.wires d.wires m.links

-- both have the same line, and then the machine represents the configuration after it; or both have the same limit
abbrev pub AgreesOn : {S : Type 0} → Language S → Placement → MachineActed S → Acted S → Type 0
AgreesOn g l (M.Acts w m) (A.Acts v c d) = (w ≡ v) × StandsFor g l m c d
AgreesOn g l (M.Acts w m) (A.Full k n) = ⊥
AgreesOn g l (M.Acts w m) A.Nothing = ⊥
AgreesOn g l (M.Full j b) (A.Acts v c d) = ⊥
AgreesOn g l (M.Full j b) (A.Full k n) = (j ≡ k) × (b ≡ n)
AgreesOn g l (M.Full j b) A.Nothing = ⊥
AgreesOn g l M.Nothing a = ⊥

-- the machine represents the start with this delay, or there is neither
abbrev pub StartAgrees : {S : Type 0} → Language S → Placement → Delay → Option (Machine S) → Option (Config S) → Type 0
StartAgrees g l d (Some m) (Some c) = StandsFor g l m c d
StartAgrees g l d None None = Unit {0}
StartAgrees g l d (Some m) None = ⊥
StartAgrees g l d None (Some c) = ⊥
