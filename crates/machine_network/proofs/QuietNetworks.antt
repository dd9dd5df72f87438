-- Whether all is quiet, by what nodes, links and wires tell.
use Rattle.std.proofs.Common.{◌≡◌, ◌↔◌, refl, sym, ap, ap₂, ◌∙◌, IsTrue, List, [], ◌∷◌, map, Option, Bool, true, false, not, ◌&&◌}
use Rattle.std.specs.Option.{option_map}
use Rattle.std.specs.List.{list_any}
use Rattle.code_semantics.specs.declared.unit.Unit.{Unit as Code}
use Rattle.mesh_semantics.specs.NumberedPackets.{NumberedPacket}
use Rattle.run_types.specs.Tables.{Pair, has_some, no_entry_empty}
use Rattle.node_semantics.specs.Machine.{any_ready, are_acknowledged, is_machine_quiet}
use Rattle.mesh_of_code.specs.Coded.{coded}
use Rattle.rendezvous_protocol.specs.declared.packet.Packet.{Packet}
use Rattle.node_state.specs.NodeOf.{NodeOf}
use Rattle.machine_network.specs.LinkWires.{LinkWires, numbered_link, numbered_wires}
use Rattle.machine_network.specs.MachineOn.{machine_on}
use Rattle.machine_network.proofs.NumberedLinks.{any_filled}

module _ (u : Code) (nodes : List NodeOf) (links : List (Pair × List Packet)) (filled : no_entry_empty links ≡ true) (ws : Option LinkWires) where
  quiet_told : (empty acked ready : Bool) → (IsTrue empty ↔ (links ≡ [])) → acked ≡ are_acknowledged (option_map numbered_wires ws)
      → ready ≡ any_ready (coded u) 0 (map (λ n. n.state) nodes) → (empty && (acked && not ready)) ≡ is_machine_quiet (coded u) (machine_on nodes links ws)
  quiet_told empty acked ready iff a r =
      ap₂ (λ x y. x && (y && not ready)) same a ∙ ap (λ z. not (list_any (λ (e : Pair × List NumberedPacket). has_some e.1) (map numbered_link links)) && (are_acknowledged (option_map numbered_wires ws) && not z)) r
    where
      by : (b : Bool) → empty ≡ b → (es : List (Pair × List Packet)) → links ≡ es → b ≡ not (has_some es)
      by true e [] i = refl
      by false e [] i = let t : empty ≡ true = iff.1 i in sym e ∙ t
      by true e (x ∷ es) i = absurd (let z : [] ≡ x ∷ es = sym (iff.0 e) ∙ i in cc)
      by false e (x ∷ es) i = refl

      same : empty ≡ not (list_any (λ (e : Pair × List NumberedPacket). has_some e.1) (map numbered_link links))
      same = by empty refl links refl ∙ ap not (sym (any_filled links filled))

  grouped : (a b r : Bool) → ((a && b) && r) ≡ (a && (b && r))
  grouped true b r = refl
  grouped false b r = refl

  -- what is known of links and wires together
  pub settled_told : (empty settled ready : Bool) → (IsTrue empty ↔ (links ≡ [])) → settled ≡ (empty && are_acknowledged (option_map numbered_wires ws))
      → ready ≡ any_ready (coded u) 0 (map (λ n. n.state) nodes) → (settled && not ready) ≡ is_machine_quiet (coded u) (machine_on nodes links ws)
  settled_told empty settled ready iff e r =
      ap (λ b. b && not ready) e ∙ grouped empty (are_acknowledged (option_map numbered_wires ws)) (not ready) ∙ quiet_told empty (are_acknowledged (option_map numbered_wires ws)) ready iff refl r
