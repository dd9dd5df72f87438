-- The act of an event: its line with the configuration and the delay after it, the limit that it would exceed, or
-- nothing. An event is one turn of a node, one move of the head of a link, or, if links are wires, one other event of
-- a wire. The file also defines ready objects, whose turn it is, and quiet configurations.
-- Throughout, g is a language, l a placement, q the largest number of local transitions of a turn, c a configuration
-- with its delay d, n a node, and o the name of the object whose turn it is.
use Rattle.std.specs.Prelude.{ℕ, zero, suc, ◌+◌, ◌*◌, ◌%◌, ◌==◌, List, [], ◌∷◌, length, drop, filter, Option, Some, None, is_some, is_none, Bool, true, false, not, ◌&&◌, ◌||◌, if◌then◌else◌, nat_le}
use Rattle.std.specs.Prelude.{nat_lt, slice_get}
use Rattle.std.specs.List.{list_any, list_all}
use Rattle.std.specs.Ordering.{nat_cmp}
use Rattle.std.specs.FinMap.{find, put}
use Rattle.std.specs.Option.{option_or}
use Rattle.run_types.specs.declared.types.Value.{Value}
use Rattle.run_types.specs.declared.types.Value.TheVariants as V
use Rattle.run_types.specs.declared.types.NameId.{NameId}
use Rattle.run_types.specs.declared.types.Label.{Label}
use Rattle.run_types.specs.declared.types.Label.TheVariants as L
use Rattle.run_types.specs.declared.types.What.{What}
use Rattle.run_types.specs.declared.types.What.TheVariants as W
use Rattle.run_types.specs.declared.types.Event.{Event}
use Rattle.run_types.specs.declared.types.Event.TheVariants as Ev
use Rattle.run_types.specs.declared.types.FullKind.{FullKind}
use Rattle.run_types.specs.declared.types.FullKind.TheVariants as F
use Rattle.run_types.specs.declared.types.Place.{Place}
use Rattle.run_types.specs.declared.types.Place.TheVariants as Pl
use Rattle.run_types.specs.declared.types.Placement.{Placement}
use Rattle.run_types.specs.Partial.{◌>>=◌}
use Rattle.mesh_semantics.specs.Kind as K
use Rattle.mesh_semantics.specs.Kind.{Kind, Alternative, has_name, answered}
use Rattle.mesh_semantics.specs.Language.{Language}
use Rattle.mesh_semantics.specs.Config.{Config}
use Rattle.mesh_semantics.specs.Moves.{move}
use Rattle.run_types.specs.Tables.{Pair, pair_cmp}
use Rattle.run_types.specs.Paths.{total, on_link, move_head}
use Rattle.mesh_semantics.specs.Wire.{Wire, Coming, Empty, Stale, Next, coming, take, wire_act, is_done}
use Rattle.mesh_semantics.specs.Delay as D
use Rattle.mesh_semantics.specs.Delay.{Packet, Arrival, Wires, Delay, wire_at, enter_all, post, arrived_at, arrive, take_arrival, held, hold, free, made_by, count_made, stepped_last, cell_count}
use Rattle.run_types.specs.ObjectNames.{node_of, slot_of}

-- the number n as a name
abbrev pub id : ℕ → NameId
id n = record { 0 = n }

-- the number of objects of the node n
abbrev pub object_count : {S : Type 0} → Config S → ℕ → ℕ
object_count c n = total (λ e. if node_of e.0 == n then 1 else 0) c.objects

-- the frames in use at the node n: one for each object, and one for each method under way in it
abbrev pub frame_count : {S : Type 0} → Language S → Config S → ℕ → ℕ
frame_count g c n = total (λ e. if node_of e.0 == n then 1 + g.frames e.1 else 0) c.objects

-- the first arrived message for one of these methods
abbrev pub first_arrival : List ℕ → List Arrival → Option Arrival
first_arrival names [] = None
first_arrival names (a ∷ rest) = if has_name names a.method then Some a else first_arrival names rest

-- the alternative is open, and it is plain or a message has arrived for it
abbrev pub is_possible : List Arrival → Alternative → Bool
is_possible box a = a.is_open && (is_none a.names || is_some (first_arrival (answered a.names) box))

-- whether an object with this next action can step, if these messages have arrived
abbrev pub can_step : List Arrival → Kind → Bool
can_step box K.Finished = false
can_step box (K.Waits b m) = false
can_step box K.Stuck = false
can_step box (K.Select alts) = list_any (is_possible box) alts
can_step box _ = true

-- whether the object is ready: it is free, has met no error, and can step
abbrev pub is_ready : {S : Type 0} → Language S → Delay → ℕ → S → Bool
is_ready g d o x = is_none (held d o) && is_none (g.fault x) && can_step (arrived_at d o) (g.kind o x)

-- the ready objects of the node n, by rising slot
abbrev pub ready_at : {S : Type 0} → Language S → Config S → Delay → ℕ → List (ℕ × S)
ready_at g c d n = filter (λ e. node_of e.0 == n && is_ready g d e.0 e.1) c.objects

-- the first element, if there is one
abbrev pub first_of : {X : Type 0} → List X → Option X
first_of [] = None
first_of (x ∷ xs) = Some x

-- whether the slot of the name is above the last slot
abbrev pub is_above : Option ℕ → ℕ → Bool
is_above None o = true
is_above (Some last) o = nat_lt last (slot_of o)

-- the object whose turn it is at the node: the ready object with the least slot above the last one; if there is none,
-- the ready object with the least slot
abbrev pub turn_of : {S : Type 0} → Language S → Config S → Delay → ℕ → Option (ℕ × S)
turn_of g c d n = option_or (first_of (filter (λ e. is_above (find nat_cmp n d.last) e.0) (ready_at g c d n))) (first_of (ready_at g c d n))

-- the act of an event: a line with the configuration and the delay after it, a limit that the event would exceed, or
-- nothing
pub data Acted (S : Type 0) : Type 0 where
  Acts : (what : What) (c : Config S) (d : Delay) → Acted S
  Full : (kind : FullKind) (node : ℕ) → Acted S
  Nothing : Acted S

-- the act, unless a count of the node then exceeds its limit; objects come first, then frames, then cells
abbrev pub within : {S : Type 0} → Language S → Placement → ℕ → Acted S → Acted S
within g l n (Acts w c d) =
    if nat_lt l.objects (object_count c n) then Full F.Heap n
    else (if nat_lt l.frames (frame_count g c n) then Full F.Frames n
    else (if nat_lt l.cells (cell_count d n) then Full F.Cells n else Acts w c d))
within g l n (Full k m) = Full k m
within g l n Nothing = Nothing

-- the act of a number of transitions with this label, if they lead to a configuration
abbrev pub shows : {S : Type 0} → Label → ℕ → Delay → Option (Config S) → Acted S
shows label times d None = Nothing
shows label times d (Some c) = Acts (W.Step label times) c d

-- the act of one transition with this label
abbrev pub labelled : {S : Type 0} → Language S → Config S → Label → Delay → Acted S
labelled g c label d = shows label 1 d (move g c label)

-- the configuration, if the frames of the node are within their limit
abbrev pub within_frames : {S : Type 0} → Language S → Placement → ℕ → Config S → Option (Config S)
within_frames g l n c = if nat_le (frame_count g c n) l.frames then Some c else None

-- the configuration after k local transitions of o, of which none exceeds the limit of frames
abbrev pub local_steps : {S : Type 0} → Language S → Placement → ℕ → ℕ → ℕ → Config S → Option (Config S)
local_steps g l n o zero c = Some c
local_steps g l n o (suc k) c = local_steps g l n o k c >>= λ e. move g e (L.Local o) >>= within_frames g l n

-- the greatest number from 1 to n that passes the test, or 0
abbrev pub greatest : (ℕ → Bool) → ℕ → ℕ
greatest test zero = 0
greatest test (suc n) = if test (suc n) then suc n else greatest test n

-- the number of local transitions of a turn: the greatest that is possible, at most q
abbrev pub step_count : {S : Type 0} → Language S → Placement → ℕ → ℕ → ℕ → Config S → ℕ
step_count g l q n o c = greatest (λ k. is_some (local_steps g l n o k c)) q

-- a turn with this number of local transitions; if it is 0, the frames are full
abbrev pub local_turn : {S : Type 0} → ℕ → ℕ → Delay → ℕ → Option (Config S) → Acted S
local_turn n o d zero c = Full F.Frames n
local_turn n o d (suc k) c = shows (L.Local o) (suc k) d c

-- the position of a class in the list, or the length of the list if the class is not in it
abbrev pub class_place : List ℕ → ℕ → ℕ
class_place [] c = 0
class_place (k ∷ ks) c = if k == c then 0 else suc (class_place ks c)

-- the node on which the next object of the class is made, if an object of node n makes it
abbrev pub goal_by : Placement → Delay → ℕ → ℕ → Option Place → ℕ
goal_by l d n c None = n
goal_by l d n c (Some (Pl.At k)) = k
goal_by l d n c (Some Pl.Same) = n
goal_by l d n c (Some Pl.Spread) = (n + made_by d n c) % (l.width * l.height)

abbrev pub goal_of : {S : Type 0} → Language S → Placement → Delay → ℕ → ℕ → ℕ
goal_of g l d n c = goal_by l d n c (slice_get l.places (class_place g.classes c))

-- the next name of a node: 65,536 times the node, plus the number of its objects
abbrev pub next_name : {S : Type 0} → Config S → ℕ → ℕ
next_name c n = n * 65536 + object_count c n

-- a turn that makes an object, on this node or by a packet to its goal
abbrev pub create_turn : {S : Type 0} → Language S → Placement → Config S → Delay → ℕ → ℕ → ℕ → ℕ → Acted S
create_turn g l c d n o class goal =
    if goal == n then labelled g c (L.New o (next_name c n) (id class)) (count_made n class d)
    else Acts (W.PostCreate o (id class) goal) c (hold o D.Posted (post l n goal (D.Create o goal class) (count_made n class d)))

-- the delay after a message has gone to its receiver, on this node or by a packet
abbrev pub sent : Placement → ℕ → ℕ → ℕ → Bool → ℕ → List Value → Packet → Delay → Delay
sent l n o b is_call m args packet d =
    if node_of b == n then arrive b (record { sender = o; is_call = is_call; method = m; args = args }) d
    else post l n (node_of b) packet d

-- a turn that posts a call
abbrev pub call_turn : {S : Type 0} → Placement → Config S → Delay → ℕ → ℕ → ℕ → ℕ → List Value → Acted S
call_turn l c d n o b m args = Acts (W.PostCall o b (id m) args) c (hold o D.Posted (sent l n o b true m args (D.Request o b m args) d))

-- a turn that sends an asynchronous message
abbrev pub send_turn : {S : Type 0} → Language S → Placement → Config S → Delay → ℕ → ℕ → ℕ → ℕ → List Value → Acted S
send_turn g l c d n o b m args = labelled g c (L.Send o b (id m) args) (sent l n o b false m args (D.Async o b m args) d)

-- a turn that returns a value, on this node or by a packet
abbrev pub return_turn : {S : Type 0} → Language S → Placement → Config S → Delay → ℕ → ℕ → ℕ → Value → Acted S
return_turn g l c d n o k v =
    labelled g c (L.Return o k v) (if node_of k == n then free k d else hold k (D.Due v) (post l n (node_of k) (D.Result k v) d))

-- the object o takes the first arrived message for one of these methods
abbrev pub accept_turn : {S : Type 0} → Language S → Config S → Delay → ℕ → List ℕ → Option Arrival → Acted S
accept_turn g c d o names None = Nothing
accept_turn g c d o names (Some a) =
    if a.is_call then labelled g c (L.Answer o a.sender (id a.method) a.args) (free a.sender (take_arrival o names d))
    else labelled g c (L.Take o a.sender (id a.method) a.args) (take_arrival o names d)

-- the choice of the possible alternative i: a pick if it is plain, otherwise a take of the first message on its
-- methods
abbrev pub chosen_turn : {S : Type 0} → Language S → Config S → Delay → ℕ → ℕ → Option (List ℕ) → Acted S
chosen_turn g c d o i None = labelled g c (L.Pick o i) d
chosen_turn g c d o i (Some names) = accept_turn g c d o names (first_arrival names (arrived_at d o))

-- the choice of the first possible alternative, if the first of the list has the number i
abbrev pub choice_turn : {S : Type 0} → Language S → Config S → Delay → ℕ → ℕ → List Alternative → Acted S
choice_turn g c d o i [] = Nothing
choice_turn g c d o i (a ∷ alts) =
    if is_possible (arrived_at d o) a then chosen_turn g c d o i a.names else choice_turn g c d o (i + 1) alts

-- a turn of the object o of node n, by its next action
abbrev pub object_turn : {S : Type 0} → Language S → Placement → ℕ → Config S → Delay → ℕ → ℕ → Kind → Acted S
object_turn g l q c d n o K.Local = local_turn n o d (step_count g l q n o c) (local_steps g l n o (step_count g l q n o c) c)
object_turn g l q c d n o (K.New class) = create_turn g l c d n o class (goal_of g l d n class)
object_turn g l q c d n o (K.Send b m args) = call_turn l c d n o b m args
object_turn g l q c d n o (K.Async b m args) = send_turn g l c d n o b m args
object_turn g l q c d n o (K.Select alts) = choice_turn g c d o 1 alts
object_turn g l q c d n o (K.Return k v) = return_turn g l c d n o k v
object_turn g l q c d n o (K.Write item) = labelled g c (L.Write o item) d
object_turn g l q c d n o (K.Fault e) = labelled g c (L.Fault o e) d
object_turn g l q c d n o _ = Nothing

-- a turn of the node n, in which this object steps; without one the turn is idle
abbrev pub node_turn : {S : Type 0} → Language S → Placement → ℕ → Config S → Delay → ℕ → Option (ℕ × S) → Acted S
node_turn g l q c d n None = Acts W.Idle c d
node_turn g l q c d n (Some e) = within g l n (object_turn g l q c (stepped_last n e.0 d) n e.0 (g.kind e.0 e.1))

-- the receipt of a packet at its goal, the node b, after it has left its link
abbrev pub received : {S : Type 0} → Language S → Placement → Config S → Delay → ℕ → Packet → Acted S
received g l c d b (D.Create o goal class) =
    labelled g c (L.New o (next_name c b) (id class))
    (hold o (D.Due (V.Ref (next_name c b))) (post l b (node_of o) (D.Created o (next_name c b)) d))
received g l c d b (D.Created o name) = Acts (W.Created o name) c (free o d)
received g l c d b (D.Request o r m args) =
    Acts (W.Arrive o r (id m)) c (arrive r (record { sender = o; is_call = true; method = m; args = args }) d)
received g l c d b (D.Result o v) = Acts (W.Result o v) c (free o d)
received g l c d b (D.Async o r m args) =
    Acts (W.Arrive o r (id m)) c (arrive r (record { sender = o; is_call = false; method = m; args = args }) d)

-- the node to which a packet goes
abbrev pub goal_node : Packet → ℕ
goal_node (D.Create o goal class) = goal
goal_node (D.Created o name) = node_of o
goal_node (D.Request o r m args) = node_of r
goal_node (D.Result o v) = node_of o
goal_node (D.Async o r m args) = node_of r

-- a packet that has left its link, at the node b: it is received, or goes last on its next link
abbrev pub passed : {S : Type 0} → Language S → Placement → Config S → Delay → ℕ → Packet → Acted S
passed g l c d b x = if goal_node x == b then received g l c d b x else Acts W.Pass c (post l b (goal_node x) x d)

-- a move of the head of a link; without one the move is idle
abbrev pub link_move : {S : Type 0} → Language S → Placement → Config S → Delay → ℕ → ℕ → Option Packet → Acted S
link_move g l c d a b None = Acts W.Idle c d
link_move g l c d a b (Some x) = within g l b (passed g l c (record d { links = move_head (a, b) d.links }) b x)

-- the act of an event if links are no wires: each link hands out its head, and an event of a wire is idle
abbrev pub plain_act : {S : Type 0} → Language S → Placement → ℕ → Config S → Delay → Event → Acted S
plain_act g l q c d (Ev.Turn n) = node_turn g l q c d n (turn_of g c d n)
plain_act g l q c d (Ev.Link a b) = link_move g l c d a b (first_of (on_link d.links (a, b)))
plain_act g l q c d (Ev.Wire w a b) = Acts W.Idle c d

-- the act, after the packets that it put on links have entered their wires; before are the links without these packets
abbrev pub on_wires : {S : Type 0} → List (Pair × Packet) → Wires → Acted S → Acted S
on_wires before ws (Acts w c d) = Acts w c (record d { wires = Some (enter_all (drop (length before) d.links) ws) })
on_wires before ws (Full k n) = Full k n
on_wires before ws Nothing = Nothing

-- the first frame of a wire comes to its far end: if it is the next packet, the head of the link moves
abbrev pub wire_move : {S : Type 0} → Language S → Placement → Config S → Delay → Wires → ℕ → ℕ → Coming Packet → Acted S
wire_move g l c d ws a b Empty = Acts W.Idle c d
wire_move g l c d ws a b (Stale n) = Acts (W.Stale n) c (record d { wires = Some (put pair_cmp (a, b) (take (wire_at ws (a, b))) ws) })
wire_move g l c d ws a b (Next x) =
    on_wires (move_head (a, b) d.links) (put pair_cmp (a, b) (take (wire_at ws (a, b))) ws) (link_move g l c d a b (first_of (on_link d.links (a, b))))

-- the act of another event of a wire, or an idle line if nothing is to be done
abbrev pub wire_turn : {S : Type 0} → Config S → Delay → Wires → Pair → Option (What × Wire Packet) → Acted S
wire_turn c d ws k None = Acts W.Idle c d
wire_turn c d ws k (Some r) = Acts r.0 c (record d { wires = Some (put pair_cmp k r.1 ws) })

-- the act of an event, with these wires or without wires
abbrev pub act_over : {S : Type 0} → Language S → Placement → ℕ → Config S → Delay → Option Wires → Event → Acted S
act_over g l q c d None e = plain_act g l q c d e
act_over g l q c d (Some ws) (Ev.Turn n) = on_wires d.links ws (plain_act g l q c d (Ev.Turn n))
act_over g l q c d (Some ws) (Ev.Link a b) = wire_move g l c d ws a b (coming (wire_at ws (a, b)))
act_over g l q c d (Some ws) (Ev.Wire w a b) = wire_turn c d ws (a, b) (wire_act w (wire_at ws (a, b)))

-- the act of an event
abbrev pub act : {S : Type 0} → Language S → Placement → ℕ → Config S → Delay → Event → Acted S
act g l q c d e = act_over g l q c d d.wires e

-- whether everything that entered wires is acknowledged
abbrev pub is_acknowledged : Option Wires → Bool
is_acknowledged None = true
is_acknowledged (Some ws) = list_all (λ e. is_done (wire_at ws e.0)) ws

-- quiet: every link is empty, everything that entered wires is acknowledged, and no object is ready
abbrev pub is_quiet : {S : Type 0} → Language S → Config S → Delay → Bool
is_quiet g c d = not (list_any (λ e. true) d.links) && (is_acknowledged d.wires && not (list_any (λ e. is_ready g d e.0 e.1) c.objects))
