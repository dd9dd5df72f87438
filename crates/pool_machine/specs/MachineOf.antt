-- The machine as contracts see it: unit and placement, nodes, packets on links, stored states of wires, and counters.
use Rattle.std.specs.Prelude.{ℕ, List, Option, map, refl}
use Rattle.std.specs.Option.{option_map}
use Rattle.std.specs.Coded.{Coded, code_by, coded×, coded_list, coded_option, coded_ℕ}
use Rattle.run_types.specs.declared.types.Placement.{Placement}
use Rattle.code_semantics.specs.declared.unit.Unit.{Unit as Code}
use Rattle.run_types.specs.Tables.{Pair}
use Rattle.mesh_semantics.specs.Wire.{Frame}
use Rattle.mesh_semantics.specs.KeptWire.{KeptWire}
use Rattle.mesh_of_code.specs.Coded.{Placed}
use Rattle.node_semantics.specs.Machine.{Machine}
use Rattle.rendezvous_protocol.specs.declared.packet.Packet.{Packet}
use Rattle.node_state.specs.NodeOf.{NodeOf}
use Rattle.machine_network.specs.LinkWires.{LinkWires, numbered_link, numbered_wires}

pub record MachineOf : Type 0 where
  pub unit : Code
  pub placement : Placement
  pub nodes : List NodeOf
  -- by the ends of a link, the head first; an empty link has no entry
  pub links : List (Pair × List Packet)
  -- if links are wires
  pub wires : Option LinkWires
  -- the numbers of events, of events that moved a packet off a link, and of transitions
  pub done : ℕ
  pub moves : ℕ
  pub transitions : ℕ

abbrev pub wire_code : Coded Packet → Coded (KeptWire Packet)
wire_code p =
    code_by (ℕ × (ℕ × (ℕ × (ℕ × (List Packet × (List (Frame Packet) × List ℕ))))))
    (coded× coded_ℕ (coded× coded_ℕ (coded× coded_ℕ (coded× coded_ℕ (coded× (coded_list p) (coded× (coded_list (coded× coded_ℕ p)) (coded_list coded_ℕ)))))))
    (λ v. (v.handed, (v.acked, (v.next, (v.sent, (v.copies, (v.frames, v.acks)))))))
    (λ t. record { handed = t.0; acked = t.1.0; next = t.1.1.0; sent = t.1.1.1.0; copies = t.1.1.1.1.0; frames = t.1.1.1.1.1.0; acks = t.1.1.1.1.1.1 }) (λ _. refl)

abbrev pub machine_code : Coded Code → Coded Placement → Coded NodeOf → Coded Packet → Coded MachineOf
machine_code u l n p =
    code_by (Code × (Placement × (List NodeOf × (List (Pair × List Packet) × (Option LinkWires × (ℕ × (ℕ × ℕ)))))))
    (coded× u (coded× l (coded× (coded_list n) (coded× (coded_list (coded× (coded× coded_ℕ coded_ℕ) (coded_list p)))
    (coded× (coded_option (coded_list (coded× (coded× coded_ℕ coded_ℕ) (wire_code p)))) (coded× coded_ℕ (coded× coded_ℕ coded_ℕ)))))))
    (λ m. (m.unit, (m.placement, (m.nodes, (m.links, (m.wires, (m.done, (m.moves, m.transitions))))))))
    (λ t. record { unit = t.0; placement = t.1.0; nodes = t.1.1.0; links = t.1.1.1.0; wires = t.1.1.1.1.0; done = t.1.1.1.1.1.0; moves = t.1.1.1.1.1.1.0; transitions = t.1.1.1.1.1.1.1 }) (λ _. refl)

-- the machine of the definition of nodes and links, with or without wires
abbrev pub machine_of : MachineOf → Machine Placed
machine_of m = record { nodes = map (λ n. n.state) m.nodes; links = map numbered_link m.links; wires = option_map numbered_wires m.wires }
