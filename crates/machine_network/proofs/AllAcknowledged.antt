-- All wires are acknowledged if each entry of their map is.
use Rattle.std.proofs.Common.{◌≡◌, refl, ap, ap₂, ◌∙◌, ℕ, zero, suc, ◌==◌, [], ◌∷◌, Some, ◌&&◌}
use Rattle.std.specs.Prelude.{slice_get}
use Rattle.std.specs.List.{list_all}
use Rattle.std.specs.Map.{values_of}
use Rattle.std.specs.BTreeMap.{BTreeMap, IsOrdered}
use Rattle.std.proofs.lemmas.Map.Entries.{btree_map_get_place}
use Rattle.run_types.specs.Tables.{Pair, pair_cmp}
use Rattle.mesh_semantics.specs.KeptWire.{KeptWire}
use Rattle.mesh_semantics.specs.NumberedPackets.{NumberedPacket}
use Rattle.node_semantics.specs.Machine.{are_acknowledged, kept_at}
use Rattle.run_types.proofs.Laws.{pair_total}
use Rattle.rendezvous_protocol.specs.declared.packet.Packet.{Packet}
use Rattle.machine_network.specs.LinkWires.{LinkWires, numbered_wire, numbered_wires, is_done}
use Rattle.machine_network.proofs.WireMap.{wire_found}
use Rattle.machine_network.proofs.NumberedWires.{kept_numbered}

pub acknowledged_is : (m : BTreeMap Pair (KeptWire Packet)) → IsOrdered pair_cmp m → are_acknowledged (Some (numbered_wires m.entries)) ≡ list_all is_done (values_of m.entries)
acknowledged_is m ordered = by m.entries here
  where
    here : (i : ℕ) (e : Pair × KeptWire Packet) → slice_get m.entries i ≡ Some e → kept_at (numbered_wires m.entries) e.0 ≡ numbered_wire e.1
    here i e h = kept_numbered e.0 m.entries ∙ ap numbered_wire (wire_found m.entries e.0 e.1 (btree_map_get_place pair_total m i e.0 e.1 ordered h))

    by : (es : LinkWires) → ((i : ℕ) (e : Pair × KeptWire Packet) → slice_get es i ≡ Some e → kept_at (numbered_wires m.entries) e.0 ≡ numbered_wire e.1)
        → list_all (λ e. (kept_at (numbered_wires m.entries) e.0).acked == (kept_at (numbered_wires m.entries) e.0).handed) (numbered_wires es) ≡ list_all is_done (values_of es)
    by [] found = refl
    by (e ∷ es) found =
        ap₂ (λ a b. a && b) (ap (λ (v : KeptWire NumberedPacket). v.acked == v.handed) (found zero e refl)) (by es (λ i z h. found (suc i) z h))
