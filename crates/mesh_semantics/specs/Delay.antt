-- The delay, which a machine of nodes adds to a configuration: packets on links, arrived messages, what each object
-- waits for, and wires. It has no request numbers. The node of a name is the name div 65,536, and its slot is the name
-- mod 65,536.
use Rattle.std.specs.Prelude.{ℕ, ◌+◌, ◌==◌, List, [], ◌∷◌, ◌++◌, Option, Some, None, Bool, ◌&&◌, if◌then◌else◌}
use Rattle.std.specs.Option.{unwrap_or}
use Rattle.std.specs.Ordering.{nat_cmp}
use Rattle.std.specs.FinMap.{find, put}
use Rattle.run_types.specs.declared.types.Value.{Value}
use Rattle.run_types.specs.declared.types.Placement.{Placement}
use Rattle.run_types.specs.Tables.{Pair, pair_cmp, without}
use Rattle.mesh_semantics.specs.Kind.{has_name}
use Rattle.mesh_semantics.specs.Wire.{Wire, empty_wire, enter}
use Rattle.run_types.specs.Paths.{next, total, under, without_first, put_last}
use Rattle.run_types.specs.ObjectNames.{node_of, slot_of}

-- a packet on a link: the request for a new object and its name, a call and its value, and an asynchronous message
pub data Packet : Type 0 where
  Create : (creator goal class : ℕ) → Packet
  Created : (creator name : ℕ) → Packet
  Request : (caller receiver method : ℕ) (args : List Value) → Packet
  Result : (caller : ℕ) (value : Value) → Packet
  Async : (sender receiver method : ℕ) (args : List Value) → Packet

-- a message or call that has arrived at its receiver and is not yet taken
pub record Arrival : Type 0 where
  pub sender : ℕ
  pub is_call : Bool
  pub method : ℕ
  pub args : List Value

-- the state of an object that is not free
pub data Holding : Type 0 where
  -- its request for a new object or its call is on the way, or its call has arrived
  Posted : Holding
  -- the packet with its value is on the way
  Due : (value : Value) → Holding

-- the wire of each link, by the ends of the link; a wire that was never used has no entry
abbrev pub Wires : Type 0
Wires = List (Pair × Wire Packet)

-- the part of a machine's state that is no configuration
pub record Delay : Type 0 where
  -- each packet with its link; the first packet of a link is its head
  pub links : List (Pair × Packet)
  -- each arrived message with its receiver, in the order of arrival
  pub arrived : List (ℕ × Arrival)
  -- the state of each object that is not free
  pub holding : List (ℕ × Holding)
  -- for each node, the slot that stepped last
  pub last : List (ℕ × ℕ)
  -- for each node and class, how many objects of the class the node's objects have made
  pub made : List (Pair × ℕ)
  -- the wires, if links may lose, repeat and reorder frames; otherwise each link hands out its own head
  pub wires : Option Wires

-- the delay at the start
abbrev pub no_delay : Delay
no_delay = record { links = []; arrived = []; holding = []; last = []; made = []; wires = None }

-- the delay at the start, with a wire on each link
abbrev pub no_delay_on_wires : Delay
no_delay_on_wires = record no_delay { wires = Some [] }

-- the wire of a link; it is empty if the link was never used
abbrev pub wire_at : Wires → Pair → Wire Packet
wire_at ws k = unwrap_or (find pair_cmp k ws) empty_wire

-- the wires, after each of these packets has entered the wire of its link
abbrev pub enter_all : List (Pair × Packet) → Wires → Wires
enter_all [] ws = ws
enter_all (e ∷ es) ws = enter_all es (put pair_cmp e.0 (enter e.1 (wire_at ws e.0)) ws)

-- the packet goes last on the first link of its path from this node
abbrev pub post : Placement → ℕ → ℕ → Packet → Delay → Delay
post l from goal x d = record d { links = put_last (from, next l from goal) x d.links }

-- the messages that have arrived at an object, the earliest first
abbrev pub arrived_at : Delay → ℕ → List Arrival
arrived_at d o = under (λ r. r == o) d.arrived

-- the message goes last among those that have arrived at o
abbrev pub arrive : ℕ → Arrival → Delay → Delay
arrive o x d = record d { arrived = d.arrived ++ (o, x) ∷ [] }

-- the message has arrived at o and is for one of these methods
abbrev pub is_for : ℕ → List ℕ → ℕ × Arrival → Bool
is_for o names e = e.0 == o && has_name names e.1.method

-- the first arrived message of o for one of these methods is gone
abbrev pub take_arrival : ℕ → List ℕ → Delay → Delay
take_arrival o names d = record d { arrived = without_first (is_for o names) d.arrived }

-- the state of an object, if it is not free
abbrev pub held : Delay → ℕ → Option Holding
held d o = find nat_cmp o d.holding

-- the object has this state
abbrev pub hold : ℕ → Holding → Delay → Delay
hold o s d = record d { holding = put nat_cmp o s d.holding }

-- the object is free
abbrev pub free : ℕ → Delay → Delay
free o d = record d { holding = without nat_cmp o d.holding }

-- how many objects of class c the objects of node n have made
abbrev pub made_by : Delay → ℕ → ℕ → ℕ
made_by d n c = unwrap_or (find pair_cmp (n, c) d.made) 0

-- one more object of the class is counted
abbrev pub count_made : ℕ → ℕ → Delay → Delay
count_made n c d = record d { made = put pair_cmp (n, c) (made_by d n c + 1) d.made }

-- the object is the one that stepped last at its node
abbrev pub stepped_last : ℕ → ℕ → Delay → Delay
stepped_last n o d = record d { last = put nat_cmp n (slot_of o) d.last }

-- the cells in use at a node: the messages arrived at its objects, and the packets on links that leave it
abbrev pub cell_count : Delay → ℕ → ℕ
cell_count d n = total (λ e. if node_of e.0 == n then 1 else 0) d.arrived + total (λ e. if e.0.0 == n then 1 else 0) d.links
