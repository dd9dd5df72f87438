-- A new machine represents the start.
use Rattle.std.proofs.Common.{◌≡◌, refl, sym, ap, ap₂, subst, ◌∙◌, ℕ, zero, suc, ◌*◌, ◌<◌, ◌≤◌, List, [], ◌∷◌, length, map, set, replicate, Option, Some, None, Bool, arith}
use Rattle.std.specs.Prelude.{slice_get}
use Rattle.run_types.specs.declared.types.Place.{Place}
use Rattle.run_types.specs.declared.types.Place.TheVariants as Pl
use Rattle.run_types.specs.declared.types.Placement.{Placement}
use Rattle.code_semantics.specs.declared.unit.Unit.{Unit as Code}
use Rattle.code_semantics.specs.Proper.{IsProper}
use Rattle.code_semantics.specs.Suits.{Suits}
use Rattle.mesh_semantics.specs.Config.{Config}
use Rattle.mesh_semantics.specs.Delay.{no_delay}
use Rattle.mesh_semantics.specs.NumberedPackets.{NumberedPacket}
use Rattle.run_types.specs.ObjectNames.{node_of}
use Rattle.mesh_semantics.specs.Record.{last_place, root_name, root_node, start}
use Rattle.run_types.specs.Tables.{Each, Pair, no_entry_empty}
use Rattle.mesh_semantics.proofs.Laws.{fit_of, Fit}
use Rattle.node_semantics.specs.Node.{NodeState, fresh_slot, set_at}
use Rattle.node_semantics.specs.Machine.{empty_node, start_with}
use Rattle.node_semantics.specs.WiresStandFor.{StandsFor, StartAgrees}
use Rattle.node_semantics.proofs.Laws.{start_agrees}
use Rattle.mesh_of_code.specs.Coded.{Placed, coded}
use Rattle.mesh_of_code.specs.CodeInvariant.{IsOfCode}
use Rattle.mesh_of_code.proofs.Laws.{code_fits, code_requests, code_start_sound, start_there}
use Rattle.rendezvous_protocol.specs.declared.packet.Packet.{Packet}
use Rattle.mesh_routing.specs.Links.{LinksOf}
use Rattle.node_state.specs.NodeOf.{NodeOf}
use Rattle.node_state.specs.OfUnit.{IsOfUnit}
use Rattle.machine_network.specs.LinkWires.{LinkWires, numbered_link}
use Rattle.machine_network.specs.MachineOn.{machine_on}
use Rattle.pool_machine.specs.Parts.{NodesAreWellFormed, EachCount, machine_from}
use Rattle.pool_machine.specs.OnWires.{AreMade, WiredMachineInvariant, EachEntered}
use Rattle.pool_machine.specs.SentPackets.{nothing_sent}
use Rattle.pool_machine.specs.MachineInvariant.{AreEmpty}
use Rattle.pool_machine.proofs.NewWires.{made_entered, made_stand, made_there, sound_start}
use Rattle.pool_machine.proofs.ChangedNodes.{counts_same, made_set, node_kept, parts_changed, states_set}

last_in : (ps : List Place) (p : Place) → last_place ps ≡ Some p → (i : ℕ) × (slice_get ps i ≡ Some p)
last_in [] p h = absurd (cc)
last_in (q ∷ []) p h = (zero, h)
last_in (q ∷ r ∷ ps) p h = let z = last_in (r ∷ ps) p h in (suc z.0, z.1)

pub fit : (u : Code) (l : Placement) → Suits l u → Fit l
fit u l suits = fit_of (coded u) l (code_fits u l suits)

-- the root's node is one of the mesh
pub root_inside : (u : Code) (l : Placement) → Suits l u → root_node (last_place l.places) < l.width * l.height
root_inside u l suits = by (last_place l.places) refl
  where
    by : (p : Option Place) → last_place l.places ≡ p → root_node p < l.width * l.height
    by None e = (fit u l suits).nodes
    by (Some Pl.Same) e = (fit u l suits).nodes
    by (Some Pl.Spread) e = (fit u l suits).nodes
    by (Some (Pl.At k)) e = let i = last_in l.places (Pl.At k) e in (fit u l suits).places i.0 k i.1

root_at : (k : ℕ) → node_of (k * 65536) ≡ k
root_at k = omega arith

all_same : (nodes : List NodeOf) (n : ℕ) (x : NodeState Placed) → length nodes ≡ n → ((i : ℕ) (y : NodeOf) → slice_get nodes i ≡ Some y → y.state ≡ x) → map (λ y. y.state) nodes ≡ replicate n x
all_same [] zero x e h = refl
all_same [] (suc n) x e h = absurd (omega (arith, e))
all_same (y ∷ nodes) zero x e h = absurd (omega (arith, e))
all_same (y ∷ nodes) (suc n) x e h = ap₂ (λ a b. a ∷ b) (h zero y refl) (all_same nodes n x (omega (arith, e)) (λ i z at. h (suc i) z at))

zeros : (n : ℕ) → Each (λ k. k ≤ 0) (replicate n 0)
zeros zero = tt
zeros (suc n) = (omega arith, zeros n)

no_counts : (u : Code) (l : Placement) (size : ℕ) (nodes : List NodeOf) → AreEmpty u l size nodes → EachCount (λ k. k ≤ 0) nodes
no_counts u l size nodes empty i n e =
    subst (λ (z : NodeState Placed). Each (λ k. k ≤ 0) z.made) (sym (empty.each i n e).state) (zeros (length (coded u).classes))

module _ (u : Code) (l : Placement) (proper : IsProper u) (suits : Suits l u) (nodes : List NodeOf) (empty : AreEmpty u l (l.width * l.height) nodes)
    (i : ℕ) (root : i ≡ root_node (last_place l.places)) (n : NodeOf) (here : slice_get nodes i ≡ Some n) (y : Placed) (made : (coded u).root ≡ Some y)
    (n' : NodeOf) (is : n' ≡ record n { state = record n.state { slots = fresh_slot y ∷ [] }; ready = n'.ready }) (fits : IsOfUnit u n')
    (k : LinksOf Packet) (width : k.width ≡ l.width) (height : k.height ≡ l.height) (cells : k.cells ≡ l.cells) (links : k.links ≡ []) where
  parts : NodesAreWellFormed u l (set nodes i n') k
  parts =
      parts_changed u l nodes k
      (record {
        proper = proper;
        suits = suits;
        count = empty.count;
        each = λ j z e. (empty.each j z e).node;
        width = width;
        height = height;
        cells = cells;
        filled = ap no_entry_empty links;
      })
      i n n' here (node_kept u l i n n' (record n.state { slots = fresh_slot y ∷ [] }) (empty.each i n here).node fits is)

  state_is : n'.state ≡ record (empty_node (coded u)) { slots = fresh_slot y ∷ [] }
  state_is = ap (λ (z : NodeOf). z.state) is ∙ ap (λ (z : NodeState Placed). record z { slots = fresh_slot y ∷ [] }) (empty.each i n here).state

  begins : (c : Config Placed) → start (coded u) l ≡ Some c → StandsFor (coded u) l (machine_from (set nodes i n') k.links) c no_delay
  begins c e = subst (λ z. StandsFor (coded u) l z c no_delay) (sym same) (agreed)
    where
      agreed : StandsFor (coded u) l (record { nodes = set_at (replicate (l.width * l.height) (empty_node (coded u))) (node_of (root_name l)) (record (empty_node (coded u)) { slots = fresh_slot y ∷ [] }); links = []; wires = None }) c no_delay
      agreed =
          let a : StartAgrees (coded u) l no_delay (start_with (coded u) l (node_of (root_name l)) (coded u).root) (start (coded u) l) = start_agrees (coded u) (IsOfCode u) (code_requests u) l (fit u l suits) in
          let b = subst (λ z. StartAgrees (coded u) l no_delay (start_with (coded u) l (node_of (root_name l)) z) (start (coded u) l)) made a in
          subst (λ z. StartAgrees (coded u) l no_delay (start_with (coded u) l (node_of (root_name l)) (Some y)) z) e b

      place : i ≡ node_of (root_name l)
      place = root ∙ sym (root_at (root_node (last_place l.places)))

      same : machine_from (set nodes i n') k.links
          ≡ record { nodes = set_at (replicate (l.width * l.height) (empty_node (coded u))) (node_of (root_name l)) (record (empty_node (coded u)) { slots = fresh_slot y ∷ [] }); links = []; wires = None }
      same =
          let a : map (λ (z : NodeOf). z.state) (set nodes i n') ≡ set_at (replicate (l.width * l.height) (empty_node (coded u))) (node_of (root_name l)) (record (empty_node (coded u)) { slots = fresh_slot y ∷ [] }) =
          states_set nodes i n'
          ∙ ap (λ (z : List (NodeState Placed)). set_at z i n'.state) (all_same nodes (l.width * l.height) (empty_node (coded u)) empty.count (λ j z e. (empty.each j z e).state))
          ∙ ap₂ (λ j z. set_at (replicate (l.width * l.height) (empty_node (coded u))) j z) place state_is in
          let b : map numbered_link k.links ≡ [] = ap (map numbered_link) links in
          ap₂ (λ (p : List (NodeState Placed)) (q : List (Pair × List NumberedPacket)). record { nodes = p; links = q; wires = None }) a b

  pub counts_start : EachCount (λ k. k ≤ 0) (set nodes i n')
  counts_start = counts_same (λ k. k ≤ 0) nodes (set nodes i n') (made_set nodes i n n' here (ap (λ (z : NodeOf). z.state.made) is)) (no_counts u l (l.width * l.height) nodes empty)

  -- with new wires, or none
  module _ (lossy : Bool) (ws : Option LinkWires) (width' size : ℕ) (wide : width' ≡ l.width) (sized : size ≡ l.width * l.height) (new : AreMade width' size lossy ws) where
    pub stands_start : (c : Config Placed) → start (coded u) l ≡ Some c → StandsFor (coded u) l (machine_on (set nodes i n') k.links ws) c (nothing_sent lossy)
    stands_start c e = made_stand u l width' size (set nodes i n') k.links links lossy ws new c (begins c e)

    pub wired_start : WiredMachineInvariant u l (set nodes i n') k ws
    wired_start =
        let s = start_there u proper l in
        record {
          parts = parts;
          there = made_there l width' size wide sized lossy ws new;
          config = s.0;
          delay = nothing_sent lossy;
          sound = sound_start u l s.0 lossy (code_start_sound u proper l (code_fits u l suits) s.0 s.1);
          stands = stands_start s.0 s.1;
        }

    pub entered_start : EachEntered (λ n. n ≤ 0) ws k.links
    entered_start = made_entered width' size lossy ws k.links new links
