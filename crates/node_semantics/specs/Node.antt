-- A node and its acts: a turn, or the receipt of a packet at its goal. A node has a slot for each object, the messages
-- that have arrived for its objects, and the numbers of their pending requests. A request is a new object on another
-- node, or a call. It keeps its number until its value comes. Until then the slot keeps the state in which the object
-- posted the request. What leaves the node in one act is at most one packet.
-- Throughout, g is a language, l a placement, q the largest number of local transitions of a turn, n the node with its
-- state x, fresh the number for a request of this turn, i the number of a slot and s its content, and leaving the
-- number of packets on the links that leave the node.
use Rattle.std.specs.Prelude.{ℕ, zero, suc, ◌+◌, ◌-◌, ◌*◌, ◌%◌, ◌==◌, List, [], ◌∷◌, ◌++◌, length, sum_by, filter, Option, Some, None, is_some, is_none, Bool, true, false, ◌&&◌, if◌then◌else◌, nat_le}
use Rattle.std.specs.Prelude.{nat_lt, slice_get}
use Rattle.std.specs.Option.{unwrap_or, option_or}
use Rattle.run_types.specs.declared.types.Value.{Value}
use Rattle.run_types.specs.declared.types.Value.TheVariants as V
use Rattle.run_types.specs.declared.types.Label.TheVariants as L
use Rattle.run_types.specs.declared.types.What.{What}
use Rattle.run_types.specs.declared.types.What.TheVariants as W
use Rattle.run_types.specs.declared.types.FullKind.{FullKind}
use Rattle.run_types.specs.declared.types.FullKind.TheVariants as F
use Rattle.run_types.specs.declared.types.Place.{Place}
use Rattle.run_types.specs.declared.types.Place.TheVariants as Pl
use Rattle.run_types.specs.declared.types.Placement.{Placement}
use Rattle.run_types.specs.Partial.{◌>>=◌}
use Rattle.mesh_semantics.specs.Kind as K
use Rattle.mesh_semantics.specs.Kind.{Kind, Alternative, answered, has_name, is_local}
use Rattle.mesh_semantics.specs.Language.{Language}
use Rattle.run_types.specs.Paths.{without_first}
use Rattle.mesh_semantics.specs.Delay as D
use Rattle.mesh_semantics.specs.Delay.{Packet, Arrival}
use Rattle.mesh_semantics.specs.NumberedPackets.{NumberedPacket}
use Rattle.run_types.specs.ObjectNames.{node_of, slot_of}
use Rattle.mesh_semantics.specs.Act.{id, first_of, is_possible, can_step, greatest, class_place}

-- a message that has arrived; a call has the number of its request
pub record NumberedArrival : Type 0 where
  pub number : Option ℕ
  pub message : Arrival

-- the slot of an object
pub record Slot (S : Type 0) : Type 0 where
  -- the state of the object; while a request is pending, the state in which the object posted it
  pub state : S
  -- the number of the pending request
  pub request : Option ℕ
  -- the number of the call of each caller that the object serves, the innermost first
  pub callers : List ℕ
  -- the node to which its last request for a new object went
  pub goal : ℕ
  -- the messages that have arrived for the object and are not taken, the earliest first
  pub mailbox : List NumberedArrival

pub record NodeState (S : Type 0) : Type 0 where
  pub slots : List (Slot S)
  -- the slot that stepped last
  pub last : Option ℕ
  -- how many objects of each class, by the position of the class, the objects of this node have made
  pub made : List ℕ

-- the act of a node: idle, a line with the packet that leaves and the node after it, a limit that the step would
-- exceed, or nothing
pub data NodeActed (S : Type 0) : Type 0 where
  Idle : NodeActed S
  Acts : (what : What) (packet : Option NumberedPacket) (node : NodeState S) → NodeActed S
  Full : (kind : FullKind) → NodeActed S
  Nothing : NodeActed S

-- the act is a line or a limit
abbrev pub IsStep : {S : Type 0} → NodeActed S → Type 0
IsStep (Acts w packet x) = Unit {0}
IsStep (Full kind) = Unit {0}
IsStep Idle = ⊥
IsStep Nothing = ⊥

-- the list with y at place i
abbrev pub set_at : {X : Type 0} → List X → ℕ → X → List X
set_at [] i y = []
set_at (x ∷ xs) zero y = y ∷ xs
set_at (x ∷ xs) (suc i) y = x ∷ set_at xs i y

-- the values with their places, from i on
abbrev pub placed : {X : Type 0} → ℕ → List X → List (ℕ × X)
placed i [] = []
placed i (x ∷ xs) = (i, x) ∷ placed (i + 1) xs

-- the name of the object in slot i of node n
abbrev pub name_at : ℕ → ℕ → ℕ
name_at n i = n * 65536 + i

-- the slot of a new object
abbrev pub fresh_slot : {S : Type 0} → S → Slot S
fresh_slot x = record { state = x; request = None; callers = []; goal = 0; mailbox = [] }

-- the node in which slot i has this state
abbrev pub put_state : {S : Type 0} → NodeState S → ℕ → Slot S → S → NodeState S
put_state x i s y = record x { slots = set_at x.slots i (record s { state = y }) }

-- the messages of a mailbox, without their request numbers
abbrev pub arrivals : List NumberedArrival → List Arrival
arrivals [] = []
arrivals (a ∷ rest) = a.message ∷ arrivals rest

-- whether the message is for one of these methods
abbrev pub is_on : List ℕ → NumberedArrival → Bool
is_on names a = has_name names a.message.method

-- the first message of a mailbox for one of these methods
abbrev pub first_on : List ℕ → List NumberedArrival → Option NumberedArrival
first_on names [] = None
first_on names (a ∷ rest) = if is_on names a then Some a else first_on names rest

-- whether the object of the slot is ready
abbrev pub can_go : {S : Type 0} → Language S → ℕ → ℕ × Slot S → Bool
can_go g n e =
    is_none e.1.request && is_none (g.fault e.1.state) && can_step (arrivals e.1.mailbox) (g.kind (name_at n e.0) e.1.state)

-- whether slot i is above the last one
abbrev pub comes_after : Option ℕ → ℕ → Bool
comes_after None i = true
comes_after (Some last) i = nat_lt last i

-- the slots of ready objects, by rising number
abbrev pub ready_slots : {S : Type 0} → Language S → ℕ → NodeState S → List (ℕ × Slot S)
ready_slots g n x = filter (can_go g n) (placed 0 x.slots)

-- the slot whose turn it is: the ready one with the least number above the last slot; if there is none, the ready one
-- with the least number
abbrev pub slot_in_turn : {S : Type 0} → Language S → ℕ → NodeState S → Option (ℕ × Slot S)
slot_in_turn g n x = option_or (first_of (filter (λ e. comes_after x.last e.0) (ready_slots g n x))) (first_of (ready_slots g n x))

-- the frames in use: one for each object, and one for each method under way in it
abbrev pub frames_in : {S : Type 0} → Language S → List (Slot S) → ℕ
frames_in g slots = sum_by (λ s. 1 + g.frames s.state) slots

-- the messages in the mailboxes of these slots
abbrev pub message_count : {S : Type 0} → List (Slot S) → ℕ
message_count slots = sum_by (λ s. length s.mailbox) slots

-- the number of packets that leave: 1 or 0
abbrev pub packet_count : Option NumberedPacket → ℕ
packet_count None = 0
packet_count (Some x) = 1

-- the act, unless a count of the node then exceeds its limit; objects come first, then frames, then cells
abbrev pub within_node : {S : Type 0} → Language S → Placement → ℕ → NodeActed S → NodeActed S
within_node g l leaving (Acts w packet x) =
    if nat_lt l.objects (length x.slots) then Full F.Heap
    else (if nat_lt l.frames (frames_in g x.slots) then Full F.Frames
    else (if nat_lt l.cells (message_count x.slots + leaving + packet_count packet) then Full F.Cells else Acts w packet x))
within_node g l leaving Idle = Idle
within_node g l leaving (Full k) = Full k
within_node g l leaving Nothing = Nothing

-- the state after k local transitions, if that many are possible; after each of them at most room methods are under
-- way
abbrev pub local_state : {S : Type 0} → Language S → ℕ → ℕ → ℕ → S → Option S
local_state g o room zero y = Some y
local_state g o room (suc k) y = local_state g o room k y >>= λ z.
    if is_none (g.fault z) && is_local (g.kind o z) && nat_le (g.frames (g.stepped o z)) room then Some (g.stepped o z) else None

-- how many methods may be under way in the object of this slot, so that the frames of the node stay within their limit
abbrev pub room_for : {S : Type 0} → Language S → Placement → NodeState S → ℕ → Slot S → ℕ
room_for g l x i s = l.frames + g.frames s.state - frames_in g x.slots

-- the number of local transitions of a turn of this slot: the greatest that is possible, at most q
abbrev pub steps_of : {S : Type 0} → Language S → Placement → ℕ → ℕ → NodeState S → ℕ → Slot S → ℕ
steps_of g l q n x i s = greatest (λ k. is_some (local_state g (name_at n i) (room_for g l x i s) k s.state)) q

-- a turn of local transitions; if their number is 0, the frames are full
abbrev pub local_act : {S : Type 0} → ℕ → ℕ → NodeState S → ℕ → Slot S → ℕ → Option S → NodeActed S
local_act n o x i s zero y = Full F.Frames
local_act n o x i s (suc k) None = Nothing
local_act n o x i s (suc k) (Some y) = Acts (W.Step (L.Local o) (suc k)) None (put_state x i s y)

-- the node with one more object, in the next slot
abbrev pub add_slot : {S : Type 0} → NodeState S → S → NodeState S
add_slot x y = record x { slots = x.slots ++ fresh_slot y ∷ [] }

-- how many objects of class c the objects of this node have made
abbrev pub made_here : {S : Type 0} → Language S → NodeState S → ℕ → ℕ
made_here g x c = unwrap_or (slice_get x.made (class_place g.classes c)) 0

-- the node after one more object of class c is counted
abbrev pub count_one : {S : Type 0} → Language S → ℕ → NodeState S → NodeState S
count_one g c x = record x { made = set_at x.made (class_place g.classes c) (made_here g x c + 1) }

-- the slot after its object has posted a request with this number; its state stays
abbrev pub put_request : {S : Type 0} → NodeState S → ℕ → Slot S → ℕ → ℕ → NodeState S
put_request x i s number goal = record x { slots = set_at x.slots i (record s { request = Some number; goal = goal }) }

-- the node after the message went last into the mailbox of this slot
abbrev pub deliver_in : {S : Type 0} → ℕ → NumberedArrival → NodeState S → Option (Slot S) → NodeState S
deliver_in i a x None = x
deliver_in i a x (Some s) = record x { slots = set_at x.slots i (record s { mailbox = s.mailbox ++ a ∷ [] }) }

-- the same for the receiver with this name
abbrev pub deliver : {S : Type 0} → ℕ → NumberedArrival → NodeState S → NodeState S
deliver o a x = deliver_in (slot_of o) a x (slice_get x.slots (slot_of o))

-- the node of the next object of a class with this place, if this many were made before
abbrev pub goal_for : Placement → ℕ → ℕ → Option Place → ℕ
goal_for l n made None = n
goal_for l n made (Some (Pl.At k)) = k
goal_for l n made (Some Pl.Same) = n
goal_for l n made (Some Pl.Spread) = (n + made) % (l.width * l.height)

-- the node on which an object of node n makes an object of class c
abbrev pub goal_here : {S : Type 0} → Language S → Placement → NodeState S → ℕ → ℕ → ℕ
goal_here g l x n c = goal_for l n (made_here g x c) (slice_get l.places (class_place g.classes c))

-- the object is made on this node, in the next slot, and its maker has the name at once
abbrev pub made_own : {S : Type 0} → Language S → ℕ → NodeState S → ℕ → Slot S → ℕ → Option S → NodeActed S
made_own g n x i s class None = Nothing
made_own g n x i s class (Some y) =
    Acts (W.Step (L.New (name_at n i) (name_at n (length x.slots)) (id class)) 1) None
    (add_slot (put_state x i s (g.given s.state (V.Ref (name_at n (length x.slots))))) y)

-- the object is made here, or a request for it leaves in a packet
abbrev pub create_act : {S : Type 0} → Language S → ℕ → ℕ → NodeState S → ℕ → Slot S → ℕ → ℕ → NodeActed S
create_act g n fresh x i s class goal =
    if goal == n then made_own g n (count_one g class x) i s class (g.made class)
    else Acts (W.PostCreate (name_at n i) (id class) goal) (Some (record { number = Some fresh; packet = D.Create (name_at n i) goal class }))
    (put_request (count_one g class x) i s fresh goal)

-- the message arrives here at once, or leaves in a packet
abbrev pub message_act : {S : Type 0} → ℕ → What → NodeState S → ℕ → NumberedArrival → Packet → NodeActed S
message_act n w x b arrival packet =
    if node_of b == n then Acts w None (deliver b arrival x) else Acts w (Some (record { number = arrival.number; packet = packet })) x

-- the object has taken the first message for one of these methods, and serves it
abbrev pub taken_act : {S : Type 0} → What → NodeState S → List ℕ → List ℕ → ℕ → Slot S → Option S → NodeActed S
taken_act w x names callers i s None = Nothing
taken_act w x names callers i s (Some y) =
    Acts w None (record x { slots = set_at x.slots i (record s { state = y; callers = callers; mailbox = without_first (is_on names) s.mailbox }) })

-- the object takes a message and serves it; the number of a call is kept for its return
abbrev pub serve_act : {S : Type 0} → Language S → ℕ → NodeState S → ℕ → Slot S → ℕ → List ℕ → Option ℕ → Arrival → NodeActed S
serve_act g n x i s alt names None m =
    taken_act (W.Step (L.Take (name_at n i) m.sender (id m.method) m.args) 1) x names s.callers i s
    (g.serving (name_at n i) s.state alt m.method None m.args)
serve_act g n x i s alt names (Some k) m =
    taken_act (W.Step (L.Answer (name_at n i) m.sender (id m.method) m.args) 1) x names (k ∷ s.callers) i s
    (g.serving (name_at n i) s.state alt m.method (Some m.sender) m.args)

-- the choice of the possible alternative alt: a pick if it is plain, otherwise a take of the first message for its
-- methods
abbrev pub chosen_act : {S : Type 0} → Language S → ℕ → NodeState S → ℕ → Slot S → ℕ → Option (List ℕ) → Option NumberedArrival → NodeActed S
chosen_act g n x i s alt None a =
    Acts (W.Step (L.Pick (name_at n i) alt) 1) None (put_state x i s (g.picked (name_at n i) s.state alt))
chosen_act g n x i s alt (Some names) None = Nothing
chosen_act g n x i s alt (Some names) (Some a) = serve_act g n x i s alt names a.number a.message

-- the choice of the first possible alternative, if the first of the list has the number alt
abbrev pub choice_act : {S : Type 0} → Language S → ℕ → NodeState S → ℕ → Slot S → ℕ → List Alternative → NodeActed S
choice_act g n x i s alt [] = Nothing
choice_act g n x i s alt (a ∷ alts) =
    if is_possible (arrivals s.mailbox) a
    then chosen_act g n x i s alt a.names (first_on (answered a.names) s.mailbox)
    else choice_act g n x i s (alt + 1) alts

-- whether the request of the slot has this number
abbrev pub has_number : Option ℕ → ℕ → Bool
has_number None number = false
has_number (Some k) number = k == number

-- the slots after the value of a request has come: the slot with the number gets the value, and the number is free
abbrev pub settled : {S : Type 0} → Language S → ℕ → Value → List (Slot S) → List (Slot S)
settled g number v [] = []
settled g number v (s ∷ ss) =
    if has_number s.request number then record s { state = g.given s.state v; request = None } ∷ ss else s ∷ settled g number v ss

-- a caller on this node gets the value at once; to another node the value leaves in a packet
abbrev pub give_back : {S : Type 0} → Language S → ℕ → ℕ → What → ℕ → Value → NodeState S → NodeActed S
give_back g n number w k v x =
    if node_of k == n then Acts w None (record x { slots = settled g number v x.slots })
    else Acts w (Some (record { number = Some number; packet = D.Result k v })) x

-- the object returns the value of a served call; the innermost number is that of the caller
abbrev pub return_act : {S : Type 0} → Language S → ℕ → NodeState S → ℕ → Slot S → ℕ → Value → List ℕ → NodeActed S
return_act g n x i s k v [] = Nothing
return_act g n x i s k v (number ∷ callers) =
    give_back g n number (W.Step (L.Return (name_at n i) k v) 1) k v
    (record x { slots = set_at x.slots i (record s { state = g.returned s.state; callers = callers }) })

-- a turn of the object in slot i, by its next action
abbrev pub slot_act : {S : Type 0} → Language S → Placement → ℕ → ℕ → ℕ → NodeState S → ℕ → Slot S → Kind → NodeActed S
slot_act g l q n fresh x i s K.Local =
    local_act n (name_at n i) x i s (steps_of g l q n x i s) (local_state g (name_at n i) (room_for g l x i s) (steps_of g l q n x i s) s.state)
slot_act g l q n fresh x i s (K.New class) = create_act g n fresh x i s class (goal_here g l x n class)
slot_act g l q n fresh x i s (K.Send b m args) =
    message_act n (W.PostCall (name_at n i) b (id m) args) (put_request x i s fresh s.goal) b
    (record { number = Some fresh; message = record { sender = name_at n i; is_call = true; method = m; args = args } }) (D.Request (name_at n i) b m args)
slot_act g l q n fresh x i s (K.Async b m args) =
    message_act n (W.Step (L.Send (name_at n i) b (id m) args) 1) (put_state x i s (g.done s.state)) b
    (record { number = None; message = record { sender = name_at n i; is_call = false; method = m; args = args } }) (D.Async (name_at n i) b m args)
slot_act g l q n fresh x i s (K.Select alts) = choice_act g n x i s 1 alts
slot_act g l q n fresh x i s (K.Return k v) = return_act g n x i s k v s.callers
slot_act g l q n fresh x i s (K.Write item) = Acts (W.Step (L.Write (name_at n i) item) 1) None (put_state x i s (g.done s.state))
slot_act g l q n fresh x i s (K.Fault e) = Acts (W.Step (L.Fault (name_at n i) e) 1) None (put_state x i s (g.faulted s.state e))
slot_act g l q n fresh x i s _ = Nothing

-- a turn in which this object steps; without one the turn is idle
abbrev pub turn_of_slot : {S : Type 0} → Language S → Placement → ℕ → ℕ → ℕ → ℕ → NodeState S → Option (ℕ × Slot S) → NodeActed S
turn_of_slot g l q n leaving fresh x None = Idle
turn_of_slot g l q n leaving fresh x (Some e) =
    within_node g l leaving (slot_act g l q n fresh (record x { last = Some e.0 }) e.0 e.1 (g.kind (name_at n e.0) e.1.state))

-- the act of a turn of the node; it is idle exactly if no object of the node is ready
abbrev pub turn_act : {S : Type 0} → Language S → Placement → ℕ → ℕ → ℕ → ℕ → NodeState S → NodeActed S
turn_act g l q n leaving fresh x = turn_of_slot g l q n leaving fresh x (slot_in_turn g n x)

-- the node after the value of the request with this number has come
abbrev pub settle_number : {S : Type 0} → Language S → Value → Option ℕ → NodeState S → NodeState S
settle_number g v None x = x
settle_number g v (Some number) x = record x { slots = settled g number v x.slots }

-- an object is made for a creator on another node; its name leaves in a packet
abbrev pub created_for : {S : Type 0} → ℕ → NodeState S → Option ℕ → ℕ → ℕ → Option S → NodeActed S
created_for n x number o class None = Nothing
created_for n x number o class (Some y) =
    Acts (W.Step (L.New o (name_at n (length x.slots)) (id class)) 1)
    (Some (record { number = number; packet = D.Created o (name_at n (length x.slots)) })) (add_slot x y)

-- the receipt of a packet at its goal, before the limits are tested
abbrev pub receipt : {S : Type 0} → Language S → ℕ → NodeState S → Option ℕ → Packet → NodeActed S
receipt g n x number (D.Create o goal class) = created_for n x number o class (g.made class)
receipt g n x number (D.Created o name) = Acts (W.Created o name) None (settle_number g (V.Ref name) number x)
receipt g n x number (D.Request o r m args) =
    Acts (W.Arrive o r (id m)) None (deliver r (record { number = number; message = record { sender = o; is_call = true; method = m; args = args } }) x)
receipt g n x number (D.Result o v) = Acts (W.Result o v) None (settle_number g v number x)
receipt g n x number (D.Async o r m args) =
    Acts (W.Arrive o r (id m)) None (deliver r (record { number = None; message = record { sender = o; is_call = false; method = m; args = args } }) x)

-- the act of a receipt of a packet at its goal
abbrev pub receipt_act : {S : Type 0} → Language S → Placement → ℕ → ℕ → NumberedPacket → NodeState S → NodeActed S
receipt_act g l n leaving e x = within_node g l leaving (receipt g n x e.number e.packet)
