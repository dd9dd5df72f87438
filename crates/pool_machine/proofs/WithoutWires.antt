-- Nodes and links represent a configuration and a delay whatever their wires do: the wires of both are left out.
use Rattle.std.proofs.Common.{List, Option, None, refl}
use Rattle.run_types.specs.declared.types.Placement.{Placement}
use Rattle.code_semantics.specs.declared.unit.Unit.{Unit as Code}
use Rattle.mesh_semantics.specs.Config.{Config}
use Rattle.mesh_semantics.specs.Delay.{Wires, Delay}
use Rattle.mesh_semantics.specs.Language.{Language}
use Rattle.mesh_semantics.specs.Sound.{IsSound}
use Rattle.run_types.specs.Tables.{Pair, list_at, pair_cmp}
use Rattle.run_types.proofs.Laws.{each_map}
use Rattle.node_semantics.specs.Machine.{KeptWires, Machine}
use Rattle.node_semantics.specs.StandsFor.{MachineStandsFor}
use Rattle.node_semantics.specs.WiresStandFor.{StandsFor}
use Rattle.node_semantics.proofs.Laws.{fits_kept}
use Rattle.mesh_of_code.specs.Coded.{coded}
use Rattle.rendezvous_protocol.specs.declared.packet.Packet.{Packet}
use Rattle.mesh_routing.specs.Links.{LinksOf}
use Rattle.node_state.specs.NodeOf.{NodeOf}
use Rattle.machine_network.specs.LinkWires.{LinkWires}
use Rattle.machine_network.specs.MachineOn.{machine_on}
use Rattle.pool_machine.specs.Parts.{NodesInvariant, machine_from}
use Rattle.pool_machine.specs.OnWires.{WiredMachineInvariant}

-- with other wires on both sides
module _ {S : Type 0} (g : Language S) (l : Placement) (c : Config S) (d : Delay) (ws : Option Wires) where
  pub stands_rewired : (m : Machine S) (o : Option KeptWires) → MachineStandsFor g l m c d → MachineStandsFor g l (record m { wires = o }) c (record d { wires = ws })
  stands_rewired m o st = record {
    nodes = st.nodes;
    few = st.few;
    named = st.named;
    links = st.links;
    in_order = st.in_order;
    last = st.last;
    made = st.made;
    distinct = st.distinct;
    on_links = λ k. each_map _ _ (λ e f. fits_kept m (record m { wires = o }) e (λ q i. record { request = refl; goal = refl }) (λ q z. z) f) (list_at pair_cmp k m.links) (st.on_links k);
    in_mailboxes = st.in_mailboxes;
    in_callers = st.in_callers;
  }

  pub sound_rewired : (W : Config S → Type 0) → IsSound g W l c d → IsSound g W l c (record d { wires = ws })
  sound_rewired W s = record {
    state = record { typed = s.state.typed; names = s.state.names; owned = s.state.owned; packets = s.state.packets; arrivals = s.state.arrivals; lists = s.state.lists; order = s.state.order };
    limits = s.limits;
  }

abbrev pub unwired : Delay → Delay
unwired d = record d { wires = None }

pub stands_without : (u : Code) (l : Placement) (nodes : List NodeOf) (links : List (Pair × List Packet)) (ws : Option LinkWires) (c : Config _) (d : Delay)
    → StandsFor (coded u) l (machine_on nodes links ws) c d → StandsFor (coded u) l (machine_from nodes links) c (unwired d)
stands_without u l nodes links ws c d st = record { state = stands_rewired (coded u) l c d None (machine_on nodes links ws) None st.state; wires = tt }

pub kept_without : (u : Code) (l : Placement) (nodes : List NodeOf) (k : LinksOf Packet) (ws : Option LinkWires) → WiredMachineInvariant u l nodes k ws → NodesInvariant u l nodes k
kept_without u l nodes k ws w = record {
  parts = w.parts;
  config = w.config;
  delay = unwired w.delay;
  sound = sound_rewired (coded u) l w.config w.delay None _ w.sound;
  stands = stands_without u l nodes k.links ws w.config w.delay w.stands;
}
