-- A machine of nodes: nodes and links with numbered packets, the act of an event, quiet machines, and the start.
use Rattle.std.specs.Prelude.{ℕ, ◌+◌, ◌*◌, ◌==◌, List, [], ◌∷◌, length, Option, Some, None, is_some, Bool, true, false, not, ◌&&◌, ◌||◌, if◌then◌else◌, nat_lt, slice_get, replicate}
use Rattle.run_types.specs.declared.types.What.{What}
use Rattle.run_types.specs.declared.types.What.TheVariants as W
use Rattle.run_types.specs.declared.types.Event.{Event}
use Rattle.run_types.specs.declared.types.Event.TheVariants as Ev
use Rattle.run_types.specs.declared.types.FullKind.{FullKind}
use Rattle.run_types.specs.declared.types.FullKind.TheVariants as F
use Rattle.run_types.specs.declared.types.Placement.{Placement}
use Rattle.std.specs.List.{list_any, list_all}
use Rattle.std.specs.Option.{unwrap_or}
use Rattle.std.specs.FinMap.{find, put}
use Rattle.run_types.specs.Tables.{Pair, pair_cmp, list_at, put_list, has_some}
use Rattle.run_types.specs.LinkTables.{push_list, leaving}
use Rattle.mesh_semantics.specs.Language.{Language}
use Rattle.run_types.specs.Paths.{next}
use Rattle.mesh_semantics.specs.Wire.{Coming, Empty, Stale, Next}
use Rattle.mesh_semantics.specs.KeptWire.{KeptWire, empty_kept, kept_coming, kept_take, kept_act}
use Rattle.mesh_semantics.specs.Act.{first_of, goal_node}
use Rattle.mesh_semantics.specs.Record.{root_name}
use Rattle.run_types.specs.ObjectNames.{node_of}
use Rattle.node_semantics.specs.Node as N
use Rattle.mesh_semantics.specs.NumberedPackets.{NumberedPacket}
use Rattle.node_semantics.specs.Node.{NodeState, NodeActed, set_at, message_count, turn_act, receipt_act, fresh_slot, ready_slots}

abbrev pub KeptWires : Type 0
KeptWires = List (Pair × KeptWire NumberedPacket)

-- the stored part of the wire of a link; it is empty if the link was never used
abbrev pub kept_at : KeptWires → Pair → KeptWire NumberedPacket
kept_at ws k = unwrap_or (find pair_cmp k ws) empty_kept

pub record Machine (S : Type 0) : Type 0 where
  pub nodes : List (NodeState S)
  -- the packets of each link, by its ends, the head first; a link without packets has no entry
  pub links : List (Pair × List NumberedPacket)
  -- the stored part of each wire, by the ends of its link, if links are wires; a wire that was never used has no entry
  pub wires : Option KeptWires

pub data MachineActed (S : Type 0) : Type 0 where
  Acts : (what : What) (machine : Machine S) → MachineActed S
  Full : (kind : FullKind) (node : ℕ) → MachineActed S
  Nothing : MachineActed S

-- the links after the packet that leaves node n went last on the first link of its path
abbrev pub post_packet : Placement → ℕ → Option NumberedPacket → List (Pair × List NumberedPacket) → List (Pair × List NumberedPacket)
post_packet l n None links = links
post_packet l n (Some x) links = push_list pair_cmp (n, next l n (goal_node x.packet)) x links

-- the machine after an act of its node n; it is unchanged if a limit would be exceeded
abbrev pub after_node : {S : Type 0} → Placement → ℕ → Machine S → NodeActed S → MachineActed S
after_node l n m N.Idle = Acts W.Idle m
after_node l n m (N.Acts w packet x) = Acts w (record m { nodes = set_at m.nodes n x; links = post_packet l n packet m.links })
after_node l n m (N.Full k) = Full k n
after_node l n m N.Nothing = Nothing

-- a turn of node n
abbrev pub turn_in : {S : Type 0} → Language S → Placement → ℕ → ℕ → Machine S → ℕ → Option (NodeState S) → MachineActed S
turn_in g l q fresh m n None = Nothing
turn_in g l q fresh m n (Some x) = after_node l n m (turn_act g l q n (leaving m.links n) fresh x)

-- a packet that has left its link, at node b: it is received at its goal, and otherwise goes last on its next link
abbrev pub come : {S : Type 0} → Language S → Placement → Machine S → ℕ → NumberedPacket → Option (NodeState S) → MachineActed S
come g l m b e None = Nothing
come g l m b e (Some x) =
    if goal_node e.packet == b then after_node l b m (receipt_act g l b (leaving m.links b) e x)
    else (if nat_lt l.cells (message_count x.slots + leaving m.links b + 1) then Full F.Cells b
    else Acts W.Pass (record m { links = post_packet l b (Some e) m.links }))

-- a move of the head of a link with these packets
abbrev pub move_in : {S : Type 0} → Language S → Placement → Machine S → ℕ → ℕ → List NumberedPacket → MachineActed S
move_in g l m a b [] = Acts W.Idle m
move_in g l m a b (e ∷ rest) = come g l (record m { links = put_list pair_cmp (a, b) rest m.links }) b e (slice_get m.nodes b)

-- the act of an event if links are no wires; a request that the event posts gets the number fresh
abbrev pub plain_machine_act : {S : Type 0} → Language S → Placement → ℕ → ℕ → Machine S → Event → MachineActed S
plain_machine_act g l q fresh m (Ev.Turn n) = turn_in g l q fresh m n (slice_get m.nodes n)
plain_machine_act g l q fresh m (Ev.Link a b) = move_in g l m a b (list_at pair_cmp (a, b) m.links)
plain_machine_act g l q fresh m (Ev.Wire w a b) = Acts W.Idle m

-- the machine with these wires
abbrev pub with_kept : {S : Type 0} → KeptWires → MachineActed S → MachineActed S
with_kept ws (Acts w m) = Acts w (record m { wires = Some ws })
with_kept ws (Full k n) = Full k n
with_kept ws Nothing = Nothing

-- the first frame of a wire comes to its far end: if it is the next packet, the head of the link moves
abbrev pub kept_move : {S : Type 0} → Language S → Placement → Machine S → KeptWires → ℕ → ℕ → Coming NumberedPacket → MachineActed S
kept_move g l m ws a b Empty = Acts W.Idle m
kept_move g l m ws a b (Stale n) = Acts (W.Stale n) (record m { wires = Some (put pair_cmp (a, b) (kept_take (kept_at ws (a, b))) ws) })
kept_move g l m ws a b (Next x) = with_kept (put pair_cmp (a, b) (kept_take (kept_at ws (a, b))) ws) (move_in g l m a b (list_at pair_cmp (a, b) m.links))

-- the act of another event of a wire, or an idle line if nothing is to be done
abbrev pub kept_turn : {S : Type 0} → Machine S → KeptWires → Pair → Option (What × KeptWire NumberedPacket) → MachineActed S
kept_turn m ws k None = Acts W.Idle m
kept_turn m ws k (Some r) = Acts r.0 (record m { wires = Some (put pair_cmp k r.1 ws) })

-- the act of an event, with these wires or without wires; a turn leaves the stored parts of wires unchanged
abbrev pub machine_act_over : {S : Type 0} → Language S → Placement → ℕ → ℕ → Machine S → Option KeptWires → Event → MachineActed S
machine_act_over g l q fresh m None e = plain_machine_act g l q fresh m e
machine_act_over g l q fresh m (Some ws) (Ev.Turn n) = plain_machine_act g l q fresh m (Ev.Turn n)
machine_act_over g l q fresh m (Some ws) (Ev.Link a b) = kept_move g l m ws a b (kept_coming (kept_at ws (a, b)))
machine_act_over g l q fresh m (Some ws) (Ev.Wire w a b) = kept_turn m ws (a, b) (kept_act w (list_at pair_cmp (a, b) m.links) (kept_at ws (a, b)))

-- the act of an event
abbrev pub machine_act : {S : Type 0} → Language S → Placement → ℕ → ℕ → Machine S → Event → MachineActed S
machine_act g l q fresh m e = machine_act_over g l q fresh m m.wires e

-- whether an object is ready, of nodes from n on
abbrev pub any_ready : {S : Type 0} → Language S → ℕ → List (NodeState S) → Bool
any_ready g n [] = false
any_ready g n (x ∷ xs) = is_some (first_of (ready_slots g n x)) || any_ready g (n + 1) xs

-- whether everything that wires handed out is acknowledged
abbrev pub are_acknowledged : Option KeptWires → Bool
are_acknowledged None = true
are_acknowledged (Some ws) = list_all (λ e. (kept_at ws e.0).acked == (kept_at ws e.0).handed) ws

-- quiet: every link is empty, everything that wires handed out is acknowledged, and no object is ready
abbrev pub is_machine_quiet : {S : Type 0} → Language S → Machine S → Bool
is_machine_quiet g m = not (list_any (λ e. has_some e.1) m.links) && (are_acknowledged m.wires && not (any_ready g 0 m.nodes))

-- an object of the machine has met an error
abbrev pub any_faulted : {S : Type 0} → Language S → Machine S → Bool
any_faulted g m = list_any (λ x. list_any (λ s. is_some (g.fault s.state)) x.slots) m.nodes

-- a node without objects, with a count for each class
abbrev pub empty_node : {S : Type 0} → Language S → NodeState S
empty_node g = record { slots = []; last = None; made = replicate (length g.classes) 0 }

-- the start: the root alone, in slot 0 of its node; it is not counted as made
abbrev pub start_with : {S : Type 0} → Language S → Placement → ℕ → Option S → Option (Machine S)
start_with g l n None = None
start_with g l n (Some y) =
    Some (record { nodes = set_at (replicate (l.width * l.height) (empty_node g)) n (record (empty_node g) { slots = fresh_slot y ∷ [] }); links = []; wires = None })

-- the start, if there is a class
abbrev pub machine_start : {S : Type 0} → Language S → Placement → Option (Machine S)
machine_start g l = start_with g l (node_of (root_name l)) g.root

-- the same machine with a wire on each link
abbrev pub on_wires_from : {S : Type 0} → Option (Machine S) → Option (Machine S)
on_wires_from None = None
on_wires_from (Some m) = Some (record m { wires = Some [] })

abbrev pub machine_start_on_wires : {S : Type 0} → Language S → Placement → Option (Machine S)
machine_start_on_wires g l = on_wires_from (machine_start g l)
