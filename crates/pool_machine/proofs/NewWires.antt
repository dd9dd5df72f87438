-- New wires represent the start, and each link has one.
use Rattle.std.proofs.Common.{◌≡◌, inl, refl, sym, ap, subst, ◌∙◌, ℕ, ◌*◌, ◌<◌, ◌≤◌, List, [], length, map, Option, Some, None, is_some, Bool, true, false, arith}
use Rattle.run_types.specs.declared.types.Placement.{Placement}
use Rattle.code_semantics.specs.declared.unit.Unit.{Unit as Code}
use Rattle.mesh_semantics.specs.Config.{Config}
use Rattle.mesh_semantics.specs.Delay.{no_delay}
use Rattle.run_types.specs.Paths.{AreNeighbours}
use Rattle.mesh_semantics.specs.Sound.{IsSound}
use Rattle.run_types.specs.Tables.{Pair, list_at, pair_cmp}
use Rattle.mesh_semantics.specs.Wire.{empty_wire}
use Rattle.mesh_semantics.specs.KeptWire.{KeptWire}
use Rattle.mesh_semantics.proofs.Laws.{facts_empty}
use Rattle.node_semantics.specs.WiresStandFor.{StandsFor}
use Rattle.mesh_of_code.specs.Coded.{Placed, coded}
use Rattle.mesh_of_code.specs.CodeInvariant.{IsOfCode}
use Rattle.rendezvous_protocol.specs.declared.packet.Packet.{Packet}
use Rattle.node_state.specs.NodeOf.{NodeOf}
use Rattle.machine_network.specs.LinkWires.{LinkWires, numbered_link, numbered_wire, numbered_wires}
use Rattle.machine_network.specs.MachineOn.{machine_on}
use Rattle.machine_network.proofs.Laws.{kept_numbered}
use Rattle.pool_machine.specs.Parts.{machine_from}
use Rattle.pool_machine.specs.OnWires.{AreMade, EachEntered, HaveWires}
use Rattle.pool_machine.specs.SentPackets.{nothing_sent}
use Rattle.pool_machine.proofs.WithoutWires.{sound_rewired, stands_rewired}

pub made_lossy : (width size : ℕ) (lossy : Bool) (ws : Option LinkWires) → AreMade width size lossy ws → is_some ws ≡ lossy
made_lossy width size true (Some ws) h = refl
made_lossy width size false None h = refl
made_lossy width size true None h = absurd h
made_lossy width size false (Some ws) h = absurd h

pub made_there : (l : Placement) (width size : ℕ) → width ≡ l.width → size ≡ l.width * l.height → (lossy : Bool) (ws : Option LinkWires) → AreMade width size lossy ws → HaveWires l ws
made_there l width size w s true (Some ws) h = λ k is.
    h.there k.0 k.1 (inl (subst (λ n. k.0 < n) (sym s) is.from)) (subst (λ n. k.1 < n) (sym s) is.to) (subst (λ n. AreNeighbours n k.0 k.1) (sym w) is.beside)
made_there l width size w s false None h = tt
made_there l width size w s true None h = absurd h
made_there l width size w s false (Some ws) h = absurd h

pub made_entered : (width size : ℕ) (lossy : Bool) (ws : Option LinkWires) (links : List (Pair × List Packet)) → AreMade width size lossy ws → links ≡ [] → EachEntered (λ n. n ≤ 0) ws links
made_entered width size true (Some ws) links h e = λ k.
    let a = ap (λ (v : KeptWire Packet). v.handed) (h.empty k) in let b = ap (λ (z : List (Pair × List Packet)). length (list_at pair_cmp k z)) e in omega (arith, a, b)
made_entered width size false None links h e = tt
made_entered width size true None links h e = absurd h
made_entered width size false (Some ws) links h e = absurd h

pub sound_start : (u : Code) (l : Placement) (c : Config Placed) (lossy : Bool) → IsSound (coded u) (IsOfCode u) l c no_delay → IsSound (coded u) (IsOfCode u) l c (nothing_sent lossy)
sound_start u l c true s = sound_rewired (coded u) l c no_delay (Some []) (IsOfCode u) s
sound_start u l c false s = s

pub made_stand : (u : Code) (l : Placement) (width size : ℕ) (nodes : List NodeOf) (links : List (Pair × List Packet)) → links ≡ [] → (lossy : Bool) (ws : Option LinkWires) → AreMade width size lossy ws
    → (c : Config Placed) → StandsFor (coded u) l (machine_from nodes links) c no_delay → StandsFor (coded u) l (machine_on nodes links ws) c (nothing_sent lossy)
made_stand u l width size nodes links e true (Some ws) h c st = record {
  state = stands_rewired (coded u) l c no_delay (Some []) (machine_from nodes links) (Some (numbered_wires ws)) st.state;
  wires = λ k. record {
    wire = empty_wire;
    facts = facts_empty;
    rest = sym (ap (λ (z : List (Pair × List Packet)). list_at pair_cmp k (map numbered_link z)) e);
    kept = sym (kept_numbered k ws ∙ ap numbered_wire (h.empty k));
    without = refl;
  };
}
made_stand u l width size nodes links e false None h c st = st
made_stand u l width size nodes links e true None h c st = absurd h
made_stand u l width size nodes links e false (Some ws) h c st = absurd h
