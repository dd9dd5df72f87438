-- The effect of a turn of one node on the whole machine.
use Rattle.std.proofs.Common.{◌≡◌, ◌≢◌, refl, sym, ap, ap₂, subst, ◌∙◌, ℕ, ◌+◌, ◌*◌, ◌<◌, ◌≤◌, List, length, map, set, get_or, Option, Some, None, arith}
use Rattle.std.specs.Prelude.{slice_get}
use Rattle.std.specs.Option.{option_map}
use Rattle.std.proofs.lemmas.Option.{slice_get-get_or}
use Rattle.run_types.specs.declared.types.Event.TheVariants as Ev
use Rattle.run_types.specs.declared.types.What.{What}
use Rattle.run_types.specs.declared.types.What.TheVariants as W
use Rattle.run_types.specs.declared.types.FullKind.{FullKind}
use Rattle.run_types.specs.declared.types.Placement.{Placement}
use Rattle.code_semantics.specs.declared.unit.Unit.{Unit as Code}
use Rattle.run_types.specs.Tables.{Pair, pair_cmp}
use Rattle.run_types.specs.LinkTables.{push_list, leaving}
use Rattle.run_types.specs.Paths.{next}
use Rattle.mesh_semantics.specs.Act.{goal_node}
use Rattle.run_types.proofs.Laws.{same_some}
use Rattle.node_semantics.specs.Node as N
use Rattle.node_semantics.specs.Node.{NodeState, NodeActed, message_count, turn_act}
use Rattle.mesh_semantics.specs.NumberedPackets.{NumberedPacket}
use Rattle.node_semantics.specs.Machine.{after_node, machine_act, post_packet, turn_in}
use Rattle.node_semantics.specs.Agrees.{IsFresh, IsUnused}
use Rattle.node_semantics.proofs.Laws.{cells_count}
use Rattle.mesh_of_code.specs.Coded.{Placed, coded}
use Rattle.mesh_of_code.specs.CodeInvariant.{IsOfCode}
use Rattle.mesh_of_code.proofs.Laws.{code_lawful, code_requests}
use Rattle.rendezvous_protocol.specs.declared.packet.Packet.{Packet}
use Rattle.rendezvous_protocol.specs.Packets.{numbered}
use Rattle.mesh_routing.specs.Links.{LinksOf}
use Rattle.node_state.specs.NodeOf.{NodeOf}
use Rattle.node_state.specs.OfUnit.{IsOfUnit}
use Rattle.node_turns.specs.Acts.{IsActOf}
use Rattle.node_acts.specs.ActOf.{Act}
use Rattle.node_acts.specs.ActOf as T
use Rattle.machine_network.specs.LinkWires.{numbered_link}
use Rattle.machine_network.proofs.Laws.{leaving_numbered, push_numbered, pushed_filled, state_there}
use Rattle.pool_machine.specs.Parts.{NodesInvariant, NodesAreWellFormed, IsDid, IsNodeOf, machine_from}
use Rattle.pool_machine.specs.DidOf.{Did}
use Rattle.pool_machine.specs.DidOf as D
use Rattle.pool_machine.proofs.ChangedNodes.{node_kept, parts_changed, parts_moved, set_itself, states_set}
use Rattle.pool_machine.proofs.PostedPackets.{posted, turn_room}

-- a line of a node: its packet, and the node after it
pub line_of : (what : What) (packet : Option Packet) (n n' : NodeOf) (t : NodeActed Placed) → IsActOf (T.Line what packet) n n' t
    → (x : NodeState Placed) × (t ≡ N.Acts what (option_map numbered packet) x) × (n' ≡ record n { state = x; ready = n'.ready })
line_of what packet n n' (N.Acts w p x) h = (x, ap₂ (λ a b. N.Acts a b x) (sym h.0) (sym h.1), h.2)
line_of what packet n n' N.Idle h = absurd h
line_of what packet n n' (N.Full k) h = absurd h
line_of what packet n n' N.Nothing h = absurd h

-- the links after a node has acted
abbrev pub links_after : Placement → ℕ → Option Packet → LinksOf Packet → LinksOf Packet
links_after l n None k = k
links_after l n (Some p) k = record k { links = push_list pair_cmp (n, next l n (goal_node (numbered p).packet)) p k.links }

pub after_numbered : (l : Placement) (n : ℕ) (p : Option Packet) (k : LinksOf Packet)
    → map numbered_link (links_after l n p k).links ≡ post_packet l n (option_map numbered p) (map numbered_link k.links)
after_numbered l n None k = refl
after_numbered l n (Some p) k = sym (push_numbered (n, next l n (goal_node (numbered p).packet)) p k.links)

-- what a node does is what the machine does, on any links
module _ (u : Code) (l : Placement) (nodes : List NodeOf) (i : ℕ) (n : NodeOf) (here : slice_get nodes i ≡ Some n) (k₀ k : LinksOf Packet) where
  same_nodes : (n' : NodeOf) → n' ≡ n → set nodes i n' ≡ nodes
  same_nodes n' e = ap (λ z. set nodes i z) e ∙ set_itself nodes i n here

  pub idle_did : (n' : NodeOf) (t : NodeActed Placed) → IsActOf T.Idle n n' t → IsDid (D.Line W.Idle) nodes k₀ (set nodes i n') k (after_node l i (machine_from nodes k.links) t)
  idle_did n' N.Idle h = (refl, ap (λ z. machine_from z k.links) (same_nodes n' h))
  idle_did n' (N.Acts w p x) h = absurd h
  idle_did n' (N.Full j) h = absurd h
  idle_did n' N.Nothing h = absurd h

  pub full_did : (kind : FullKind) (n' : NodeOf) (t : NodeActed Placed) → IsActOf (T.Full kind) n n' t
      → IsDid (D.Full kind i) nodes k (set nodes i n') k (after_node l i (machine_from nodes k₀.links) t)
  full_did kind n' (N.Full j) h = (h.0, refl, same_nodes n' h.1, refl)
  full_did kind n' (N.Acts w p x) h = absurd h
  full_did kind n' N.Idle h = absurd h
  full_did kind n' N.Nothing h = absurd h

  pub line_did : (what : What) (packet : Option Packet) (n' : NodeOf) (t : NodeActed Placed) → IsActOf (T.Line what packet) n n' t
      → IsDid (D.Line what) nodes k₀ (set nodes i n') (links_after l i packet k) (after_node l i (machine_from nodes k.links) t)
  line_did what packet n' t h =
      let a = line_of what packet n n' t h in
      subst (λ z. IsDid (D.Line what) nodes k₀ (set nodes i n') (links_after l i packet k) (after_node l i (machine_from nodes k.links) z)) (sym a.1) (
        refl,
        let states : map (λ (n : NodeOf). n.state) (set nodes i n') ≡ N.set_at (map (λ n. n.state) nodes) i a.0 =
            states_set nodes i n' ∙ ap (λ (z : NodeOf). N.set_at (map (λ n. n.state) nodes) i z.state) a.2 in
            ap₂ (λ (x : List (NodeState Placed)) (y : List (Pair × List NumberedPacket)). record { nodes = x; links = y; wires = None }) states (after_numbered l i packet k),
      )

  pub parts_after : (packet : Option Packet) → NodesAreWellFormed u l nodes k → (n' : NodeOf) → IsNodeOf u l i n' → NodesAreWellFormed u l (set nodes i n') (links_after l i packet k)
  parts_after None parts n' is = parts_changed u l nodes k parts i n n' here is
  parts_after (Some p) parts n' is =
      let z = parts_changed u l nodes k parts i n n' here is in
      parts_moved u l (set nodes i n') k z (push_list pair_cmp (i, next l i (goal_node (numbered p).packet)) p k.links)
      (pushed_filled (i, next l i (goal_node (numbered p).packet)) p k.links parts.filled)

  pub node_after : NodesAreWellFormed u l nodes k → (what : What) (packet : Option Packet) (n' : NodeOf) (t : NodeActed Placed) → IsActOf (T.Line what packet) n n' t → IsOfUnit u n' → IsNodeOf u l i n'
  node_after parts what packet n' t h fits = let a = line_of what packet n n' t h in node_kept u l i n n' a.0 (parts.each i n here) fits a.2

pub same_node : (u : Code) (l : Placement) (i : ℕ) (n n' : NodeOf) → IsNodeOf u l i n → n' ≡ n → IsNodeOf u l i n'
same_node u l i n n' h e = subst (IsNodeOf u l i) (sym e) h

pub idle_same : (n n' : NodeOf) (t : NodeActed Placed) → IsActOf T.Idle n n' t → n' ≡ n
idle_same n n' N.Idle h = h
idle_same n n' (N.Acts w p x) h = absurd h
idle_same n n' (N.Full j) h = absurd h
idle_same n n' N.Nothing h = absurd h

pub full_same : (kind : FullKind) (n n' : NodeOf) (t : NodeActed Placed) → IsActOf (T.Full kind) n n' t → n' ≡ n
full_same kind n n' (N.Full j) h = h.1
full_same kind n n' (N.Acts w p x) h = absurd h
full_same kind n n' N.Idle h = absurd h
full_same kind n n' N.Nothing h = absurd h

module _ (u : Code) (l : Placement) (nodes : List NodeOf) (k : LinksOf Packet) (kept : NodesInvariant u l nodes k) (i : ℕ) where
  -- a node of the mesh is there
  pub is_there : i < l.width * l.height → i < length nodes
  is_there h = subst (λ z. i < z) (sym kept.parts.count) h

  module _ (n : NodeOf) (here : slice_get nodes i ≡ Some n) where
    -- its messages and the packets that leave it are within its cells
    pub cells_within : message_count n.state.slots + leaving k.links i ≤ l.cells
    cells_within =
        let a = cells_count (coded u) (IsOfCode u) (code_lawful u kept.parts.proper) (code_requests u) l (machine_from nodes k.links) kept.config kept.delay kept.stands.state
        kept.sound.state.typed i n.state (state_there nodes i n here) in
        let b = (kept.sound.limits i).2 in
        let c = leaving_numbered i k.links in omega (arith, a, b, c)

    pub cells_of_node : message_count n.state.slots + leaving k.links i ≤ n.most_cells
    cells_of_node = let a = cells_within in let b = (kept.parts.each i n here).of_placement.cells in omega (arith, a, b)

    module _ (q fresh : ℕ) where
      pub turn_is : machine_act (coded u) l q fresh (machine_from nodes k.links) (Ev.Turn i)
          ≡ after_node l i (machine_from nodes k.links) (turn_act (coded u) l q n.id (leaving k.links i) fresh n.state)
      turn_is =
          ap (λ z. turn_in (coded u) l q fresh (machine_from nodes k.links) i z) (state_there nodes i n here)
          ∙ ap₂ (λ a b. after_node l i (machine_from nodes k.links) (turn_act (coded u) l q a b fresh n.state)) (sym (kept.parts.each i n here).id) (leaving_numbered i k.links)

      pub fresh_there : IsUnused fresh n.state → IsFresh (machine_from nodes k.links) fresh (Ev.Turn i)
      fresh_there h x e = subst (IsUnused fresh) (same_some (sym (state_there nodes i n here) ∙ e)) h

      pub turn_posts : i < l.width * l.height → IsUnused fresh n.state → (what : What) (p : Packet) (n' : NodeOf)
          → IsActOf (T.Line what (Some p)) n n' (turn_act (coded u) l q n.id (leaving k.links i) fresh n.state)
          → (goal_node (numbered p).packet < l.width * l.height) × (i ≢ goal_node (numbered p).packet) × (leaving k.links i < l.cells)
      turn_posts inside unused what p n' h =
          let a = line_of what (Some p) n n' (turn_act (coded u) l q n.id (leaving k.links i) fresh n.state) h in
          let b = posted u l kept.parts.proper kept.parts.suits (machine_from nodes k.links) kept.config kept.delay kept.sound kept.stands q fresh (Ev.Turn i) inside (fresh_there unused)
          what (N.set_at (map (λ n. n.state) nodes) i a.0) (map numbered_link k.links) i (numbered p)
          (turn_is ∙ ap (after_node l i (machine_from nodes k.links)) a.1) in
          let r = turn_room (coded u) l (leaving k.links i) what (numbered p) a.0 q n.id fresh n.state a.1 in
          (b.0, b.1, omega (arith, r))

-- the links where a packet was put, and where there was none
pub with_packet : (l t : Placement) (i : ℕ) (k new : LinksOf Packet) (packet : Option Packet) (p : Packet) → packet ≡ Some p → t ≡ l
    → new ≡ record k { links = push_list pair_cmp (i, next t i (goal_node (numbered p).packet)) p k.links } → new ≡ links_after l i packet k
with_packet l t i k new packet p some table e =
    e ∙ ap (λ (z : Placement). record k { links = push_list pair_cmp (i, next z i (goal_node (numbered p).packet)) p k.links }) table ∙ ap (λ z. links_after l i z k) (sym some)

-- the whole turn
abbrev Turned : Code → Placement → ℕ → List NodeOf → LinksOf Packet → ℕ → Did → NodeOf → LinksOf Packet → Type 0
Turned u l q nodes k i did n' k' =
    (fresh : ℕ) × IsFresh (machine_from nodes k.links) fresh (Ev.Turn i)
    × IsDid did nodes k (set nodes i n') k' (machine_act (coded u) l q fresh (machine_from nodes k.links) (Ev.Turn i))

module _ (u : Code) (l : Placement) (nodes : List NodeOf) (k : LinksOf Packet) (kept : NodesInvariant u l nodes k) (i : ℕ) (inside : i < l.width * l.height) (d : NodeOf) where
  pub node_here : slice_get nodes i ≡ Some (get_or nodes i d)
  node_here = slice_get-get_or nodes i d (is_there u l nodes k kept i inside)

  pub is_node : IsNodeOf u l i (get_or nodes i d)
  is_node = kept.parts.each i (get_or nodes i d) node_here

  pub room_there : (out : ℕ) → out ≡ leaving k.links i → message_count (get_or nodes i d).state.slots + out ≤ (get_or nodes i d).most_cells
  room_there out count = subst (λ z. message_count (get_or nodes i d).state.slots + z ≤ (get_or nodes i d).most_cells) (sym count) (cells_of_node u l nodes k kept i (get_or nodes i d) node_here)

  module _ (out : ℕ) (count : out ≡ leaving k.links i) (q : ℕ) where
    abbrev ActedAs : Act → NodeOf → Type 0
    ActedAs a n' = (x : ℕ) × IsUnused x (get_or nodes i d).state × IsActOf a (get_or nodes i d) n' (turn_act (coded u) l q (get_or nodes i d).id out x (get_or nodes i d).state)

    act_there : (a : Act) (n' : NodeOf) (x : ℕ) → IsActOf a (get_or nodes i d) n' (turn_act (coded u) l q (get_or nodes i d).id out x (get_or nodes i d).state)
        → IsActOf a (get_or nodes i d) n' (turn_act (coded u) l q (get_or nodes i d).id (leaving k.links i) x (get_or nodes i d).state)
    act_there a n' x h = subst (λ z. IsActOf a (get_or nodes i d) n' (turn_act (coded u) l q (get_or nodes i d).id z x (get_or nodes i d).state)) count h

    pub idle_turn : (n' : NodeOf) → ActedAs T.Idle n' → Turned u l q nodes k i (D.Line W.Idle) n' k
    idle_turn n' h = (
      h.0,
      fresh_there u l nodes k kept i (get_or nodes i d) node_here q h.0 h.1,
      subst (IsDid (D.Line W.Idle) nodes k (set nodes i n') k) (sym (turn_is u l nodes k kept i (get_or nodes i d) node_here q h.0))
          (idle_did u l nodes i (get_or nodes i d) node_here k k n' _ (act_there T.Idle n' h.0 h.2)),
    )

    pub idle_turned : (n' : NodeOf) → ActedAs T.Idle n' → n' ≡ get_or nodes i d
    idle_turned n' h = idle_same (get_or nodes i d) n' _ h.2

    pub full_turn : (kind : FullKind) (n' : NodeOf) → ActedAs (T.Full kind) n' → Turned u l q nodes k i (D.Full kind i) n' k
    full_turn kind n' h = (
      h.0,
      fresh_there u l nodes k kept i (get_or nodes i d) node_here q h.0 h.1,
      subst (IsDid (D.Full kind i) nodes k (set nodes i n') k) (sym (turn_is u l nodes k kept i (get_or nodes i d) node_here q h.0))
          (full_did u l nodes i (get_or nodes i d) node_here k k kind n' _ (act_there (T.Full kind) n' h.0 h.2)),
    )

    pub full_turned : (kind : FullKind) (n' : NodeOf) → ActedAs (T.Full kind) n' → n' ≡ get_or nodes i d
    full_turned kind n' h = full_same kind (get_or nodes i d) n' _ h.2

    pub line_turn : (what : What) (packet : Option Packet) (n' : NodeOf) (k' : LinksOf Packet) → ActedAs (T.Line what packet) n' → k' ≡ links_after l i packet k
        → Turned u l q nodes k i (D.Line what) n' k'
    line_turn what packet n' k' h e = (
      h.0,
      fresh_there u l nodes k kept i (get_or nodes i d) node_here q h.0 h.1,
      subst (IsDid (D.Line what) nodes k (set nodes i n') k') (sym (turn_is u l nodes k kept i (get_or nodes i d) node_here q h.0))
          (subst (λ z. IsDid (D.Line what) nodes k (set nodes i n') z (after_node l i (machine_from nodes k.links) (turn_act (coded u) l q (get_or nodes i d).id (leaving k.links i) h.0 (get_or nodes i d).state))) (sym e)
          (line_did u l nodes i (get_or nodes i d) node_here k k what packet n' _ (act_there (T.Line what packet) n' h.0 h.2))),
    )

    pub line_parts : (what : What) (packet : Option Packet) (n' : NodeOf) (k' : LinksOf Packet) → ActedAs (T.Line what packet) n' → IsOfUnit u n' → k' ≡ links_after l i packet k
        → NodesAreWellFormed u l (set nodes i n') k'
    line_parts what packet n' k' h fits e =
        subst (NodesAreWellFormed u l (set nodes i n')) (sym e)
        (parts_after u l nodes i (get_or nodes i d) node_here k k packet kept.parts n' (node_after u l nodes i (get_or nodes i d) node_here k k kept.parts what packet n' _ h.2 fits))

    pub line_posts : (what : What) (packet : Option Packet) (p : Packet) (n' : NodeOf) → packet ≡ Some p → ActedAs (T.Line what packet) n'
        → (goal_node (numbered p).packet < l.width * l.height) × (i ≢ goal_node (numbered p).packet) × (leaving k.links i < l.cells)
    line_posts what packet p n' some h =
        turn_posts u l nodes k kept i (get_or nodes i d) node_here q h.0 inside h.1 what p n'
        (subst (λ z. IsActOf (T.Line what z) (get_or nodes i d) n' (turn_act (coded u) l q (get_or nodes i d).id (leaving k.links i) h.0 (get_or nodes i d).state)) some (act_there (T.Line what packet) n' h.0 h.2))

  pub same_parts : (n' : NodeOf) → n' ≡ get_or nodes i d → NodesAreWellFormed u l (set nodes i n') k
  same_parts n' e = parts_changed u l nodes k kept.parts i (get_or nodes i d) n' node_here (same_node u l i (get_or nodes i d) n' is_node e)
