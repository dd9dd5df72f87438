-- A station: one node of a placed program by itself, with its own ends of the links. It answers inputs: turns, and
-- frames that come from neighbours. It knows no other node. After each input it may send any packets of its links that
-- are not acknowledged.
-- Throughout, g is a language, l a placement, q the largest number of local transitions of a turn, n the node of the
-- station s, fresh the number for a request that a turn posts, and k a place in the numbering of a link's packets.
use Rattle.std.specs.Prelude.{ℕ, ◌+◌, ◌-◌, ◌==◌, List, [], ◌∷◌, ◌++◌, length, drop, Option, Some, None, ◌&&◌, if◌then◌else◌, nat_le, nat_lt, slice_get}
use Rattle.std.specs.Option.{unwrap_or}
use Rattle.std.specs.Ordering.{nat_cmp}
use Rattle.std.specs.FinMap.{find, put}
use Rattle.run_types.specs.declared.types.What.{What}
use Rattle.run_types.specs.declared.types.What.TheVariants as W
use Rattle.run_types.specs.declared.types.Event.{Event}
use Rattle.run_types.specs.declared.types.Event.TheVariants as Ev
use Rattle.run_types.specs.declared.types.FullKind.{FullKind}
use Rattle.run_types.specs.declared.types.FullKind.TheVariants as F
use Rattle.run_types.specs.declared.types.Placement.{Placement}
use Rattle.run_types.specs.Tables.{Pair, pair_cmp, list_at, put_list}
use Rattle.run_types.specs.LinkTables.{leaving}
use Rattle.mesh_semantics.specs.Language.{Language}
use Rattle.mesh_semantics.specs.Act.{goal_node}
use Rattle.mesh_semantics.specs.NumberedPackets.{NumberedPacket}
use Rattle.node_semantics.specs.Node as N
use Rattle.node_semantics.specs.Node.{NodeState, NodeActed, message_count, turn_act, receipt_act}
use Rattle.node_semantics.specs.Machine.{post_packet}

-- what goes from neighbour to neighbour: a packet with its number among the packets of its link, or how many packets of
-- the link have come in order
pub data Frame : Type 0 where
  Data : (number : ℕ) (packet : NumberedPacket) → Frame
  Ack : (number : ℕ) → Frame

-- counts by neighbour; without an entry the count is 0
abbrev pub Counts : Type 0
Counts = List (ℕ × ℕ)

abbrev pub count_at : ℕ → Counts → ℕ
count_at b es = unwrap_or (find nat_cmp b es) 0

abbrev pub put_count : ℕ → ℕ → Counts → Counts
put_count b k es = put nat_cmp b k es

pub record Station (S : Type 0) : Type 0 where
  pub node : NodeState S
  -- the packets of each link that leaves the node, by the ends of the link, that are not acknowledged
  pub links : List (Pair × List NumberedPacket)
  -- by the far end of such a link: how many of its packets are acknowledged
  pub acked : Counts
  -- by the near end of a link that comes here: how many of its packets have come in order
  pub handed : Counts

pub data Input : Type 0 where
  Turn : Input
  -- a time has passed
  Wait : Input
  -- a frame from this neighbour
  Comes : (from : ℕ) (frame : Frame) → Input

-- what a station tells of an input: nothing, the line of an event, or a limit that the event would exceed
pub data Told : Type 0 where
  Silent : Told
  Line : (event : Event) (what : What) → Told
  Full : (kind : FullKind) → Told

-- the answer to an input: what is told, the packet that was put on a link, the frames with the neighbours to which they
-- go, and the station after it
pub record Answer (S : Type 0) : Type 0 where
  pub told : Told
  pub posted : Option NumberedPacket
  pub frames : List (ℕ × Frame)
  pub station : Station S

-- nothing is done
abbrev pub unchanged : {S : Type 0} → Told → Station S → Answer S
unchanged told s = record { told = told; posted = None; frames = []; station = s }

-- the answer to an event after this act of the node: the packet that leaves goes last on its link. Without a line the
-- station is the one before the event.
abbrev pub after_act : {S : Type 0} → Placement → ℕ → Event → List (ℕ × Frame) → (before s : Station S) → NodeActed S → Answer S
after_act l n e frames before s N.Idle = unchanged Silent before
after_act l n e frames before s (N.Acts w packet x) = record { told = Line e w; posted = packet; frames = frames; station = record s { node = x; links = post_packet l n packet s.links } }
after_act l n e frames before s (N.Full kind) = unchanged (Full kind) before
after_act l n e frames before s N.Nothing = unchanged Silent before

-- a turn. Packets that are not acknowledged count as being on their links.
abbrev pub turn : {S : Type 0} → Language S → Placement → ℕ → ℕ → ℕ → Station S → Answer S
turn g l q n fresh s = after_act l n (Ev.Turn n) [] s s (turn_act g l q n (leaving s.links n) fresh s.node)

-- one more packet has come in order from a
abbrev pub counted : {S : Type 0} → ℕ → Station S → Station S
counted a s = record s { handed = put_count a (count_at a s.handed + 1) s.handed }

abbrev pub acknowledges : {S : Type 0} → ℕ → Station S → List (ℕ × Frame)
acknowledges a s = (a, Ack (count_at a s.handed)) ∷ []

-- the next packet of the link from a: it is received at its goal, and otherwise goes last on its next link. If that
-- would exceed a limit, the packet counts as not come.
abbrev pub handed_out : {S : Type 0} → Language S → Placement → ℕ → ℕ → NumberedPacket → Station S → Answer S
handed_out g l n a e s =
    if goal_node e.packet == n then after_act l n (Ev.Link a n) (acknowledges a (counted a s)) s (counted a s) (receipt_act g l n (leaving s.links n) e s.node)
    else (if nat_lt l.cells (message_count s.node.slots + leaving s.links n + 1) then unchanged (Full F.Cells) s
    else record { told = Line (Ev.Link a n) W.Pass; posted = Some e; frames = acknowledges a (counted a s); station = record (counted a s) { links = post_packet l n (Some e) s.links } })

-- a packet with this number from a: only the next one is handed out, and another one is dropped
abbrev pub data_comes : {S : Type 0} → Language S → Placement → ℕ → ℕ → ℕ → NumberedPacket → Station S → Answer S
data_comes g l n a k e s =
    if k == count_at a s.handed then handed_out g l n a e s else record { told = Silent; posted = None; frames = acknowledges a s; station = s }

-- the packets of the link to b that have a number below k are acknowledged
abbrev pub heard : {S : Type 0} → ℕ → ℕ → ℕ → Station S → Station S
heard n b k s =
    if nat_lt (count_at b s.acked) k && nat_le k (count_at b s.acked + length (list_at pair_cmp (n, b) s.links))
    then record s {
      acked = put_count b k s.acked;
      links = put_list pair_cmp (n, b) (drop (k - count_at b s.acked) (list_at pair_cmp (n, b) s.links)) s.links;
    }
    else s

-- the frame with this number, if its packet is there
abbrev pub frame_to : ℕ → ℕ → Option NumberedPacket → List (ℕ × Frame)
frame_to b k None = []
frame_to b k (Some e) = (b, Data k e) ∷ []

-- the frame for a neighbour with the packet of this number, if the packet is not acknowledged
abbrev pub sent_again : {S : Type 0} → ℕ → Station S → ℕ × ℕ → List (ℕ × Frame)
sent_again n s c = if nat_lt c.1 (count_at c.0 s.acked) then [] else frame_to c.0 c.1 (slice_get (list_at pair_cmp (n, c.0) s.links) (c.1 - count_at c.0 s.acked))

abbrev pub all_sent : {S : Type 0} → ℕ → Station S → List (ℕ × ℕ) → List (ℕ × Frame)
all_sent n s [] = []
all_sent n s (c ∷ cs) = sent_again n s c ++ all_sent n s cs

-- the answer to an input, without the packets that are sent after it
abbrev pub plain_answer : {S : Type 0} → Language S → Placement → ℕ → ℕ → ℕ → Station S → Input → Answer S
plain_answer g l q n fresh s Turn = turn g l q n fresh s
plain_answer g l q n fresh s Wait = unchanged Silent s
plain_answer g l q n fresh s (Comes a (Data k e)) = data_comes g l n a k e s
plain_answer g l q n fresh s (Comes b (Ack k)) = unchanged Silent (heard n b k s)

abbrev pub with_sent : {S : Type 0} → ℕ → List (ℕ × ℕ) → Answer S → Answer S
with_sent n sends a = record a { frames = a.frames ++ all_sent n a.station sends }

-- the answer to an input; then the packets with these numbers are sent, each to its neighbour
abbrev pub answer : {S : Type 0} → Language S → Placement → ℕ → ℕ → ℕ → List (ℕ × ℕ) → Station S → Input → Answer S
answer g l q n fresh sends s input = with_sent n sends (plain_answer g l q n fresh s input)

-- a station with this node, before its first input
abbrev pub alone : {S : Type 0} → NodeState S → Station S
alone x = record { node = x; links = []; acked = []; handed = [] }
