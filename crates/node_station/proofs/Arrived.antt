-- A station after a packet has come.
use Rattle.std.proofs.Common.{◌≡◌, ◌≢◌, refl, sym, ap, subst, ◌∙◌, ℕ, zero, suc, ◌+◌, ◌-◌, ◌^◌, ◌<◌, ◌≤◌, ◌==◌, List, [], ◌∷◌, length, map, get_or, Bool, true, false, if◌then◌else◌, nat_lt, Option, Some, None, arith}
use Rattle.std.specs.Prelude.{Result, Ok, Err, slice_set}
use Rattle.run_types.specs.declared.types.Event.TheVariants as Ev
use Rattle.run_types.specs.declared.types.FullKind.TheVariants as F
use Rattle.run_types.specs.declared.types.Placement.{Placement}
use Rattle.run_types.specs.declared.types.What.TheVariants as W
use Rattle.run_types.specs.LinkTables.{leaving}
use Rattle.run_types.specs.Tables.{Each}
use Rattle.run_types.proofs.Laws.{differ, equals}
use Rattle.mesh_semantics.specs.Act.{goal_node}
use Rattle.mesh_semantics.specs.Delay as D
use Rattle.mesh_semantics.specs.Language.{Language}
use Rattle.mesh_semantics.specs.NumberedPackets.{NumberedPacket}
use Rattle.mesh_of_code.specs.Coded.{Placed, coded}
use Rattle.mesh_routing.specs.Links.{LinksOf}
use Rattle.node_semantics.specs.Node as N
use Rattle.node_semantics.specs.Node.{NodeActed, NodeState, created_for, frames_in, message_count, packet_count, receipt, receipt_act, within_node}
use Rattle.node_semantics.specs.Machine.{post_packet}
use Rattle.node_state.specs.NodeOf.{NodeOf}
use Rattle.node_state.specs.OfUnit.{IsOfUnit}
use Rattle.rendezvous_protocol.specs.declared.packet.Packet.{Packet}
use Rattle.rendezvous_protocol.specs.Packets.{numbered}
use Rattle.node_acts.specs.ActOf.{act_of}
use Rattle.node_acts.specs.declared.types.StepOutput.{StepOutput}
use Rattle.node_acts.specs.declared.types.TurnOutcome.{TurnOutcome}
use Rattle.node_acts.specs.declared.types.TurnOutcome.TheVariants as T
use Rattle.node_turns.specs.Acts.{IsActOf}
use Rattle.machine_network.specs.LinkWires.{numbered_link}
use Rattle.station_semantics.specs.Station as S
use Rattle.station_semantics.specs.Station.{Answer, Counts, Frame, Station, acknowledges, after_act, count_at, counted, data_comes, handed_out, put_count, unchanged}
use Rattle.node_station.specs.declared.outcome.StationFault.{StationFault}
use Rattle.node_station.specs.declared.outcome.StationFault.TheVariants as X
use Rattle.node_station.specs.declared.outcome.StationOutcome.{StationOutcome}
use Rattle.node_station.specs.declared.outcome.StationOutcome.TheVariants as O
use Rattle.node_station.specs.declared.parts.StationParts.{StationParts}
use Rattle.node_station.specs.StationOf.{StationOf, counts_from, station_of}
use Rattle.node_station.specs.Outcomes.{Comes, IsAnswer, Strays, acks_of}
use Rattle.node_station.specs.Parts.{IsSettled, IsStation, arrival_act, counted_in, view_of}
use Rattle.node_station.proofs.Counts.{count_is, put_is}
use Rattle.node_station.proofs.Heard.{set_length}
use Rattle.node_station.proofs.Settled.{HasRoom, CountsAre, Gives, arrival_has_room, few_steps, gives, id_after, more_steps, whole_after}
use Rattle.node_station.proofs.Turned.{out_is}

-- a node is not idle when a packet comes
module _ {S : Type 0} (g : Language S) (l : Placement) (n out : ℕ) (x : NodeState S) where
  created_not_idle : (number : Option ℕ) (o class : ℕ) (y : Option S) → created_for n x number o class y ≢ N.Idle
  created_not_idle number o class None e = absurd (cc)
  created_not_idle number o class (Some y) e = absurd (cc)

  receipt_not_idle : (number : Option ℕ) (p : D.Packet) → receipt g n x number p ≢ N.Idle
  receipt_not_idle number (D.Create o goal class) e = created_not_idle number o class (g.made class) e
  receipt_not_idle number (D.Created o name) e = absurd (cc)
  receipt_not_idle number (D.Request o r m args) e = absurd (cc)
  receipt_not_idle number (D.Result o v) e = absurd (cc)
  receipt_not_idle number (D.Async o r m args) e = absurd (cc)

  within_not_idle : (a : NodeActed S) → a ≢ N.Idle → within_node g l out a ≢ N.Idle
  within_not_idle N.Idle d e = d refl
  within_not_idle (N.Full k) d e = absurd (cc)
  within_not_idle N.Nothing d e = absurd (cc)
  within_not_idle (N.Acts w p y) d e = by (nat_lt l.objects (length y.slots)) (nat_lt l.frames (frames_in g y.slots)) (nat_lt l.cells (message_count y.slots + out + packet_count p)) e
    where
      by : (a b c : Bool) → (if a then N.Full F.Heap else (if b then N.Full F.Frames else (if c then N.Full F.Cells else N.Acts w p y))) ≡ N.Idle → ⊥
      by true b c e = absurd (cc)
      by false true c e = absurd (cc)
      by false false true e = absurd (cc)
      by false false false e = absurd (cc)

  pub arrival_not_idle : (e : NumberedPacket) → arrival_act g l n out e x ≢ N.Idle
  arrival_not_idle e = by (goal_node e.packet == n)
    where
      on : (c : Bool) → (if c then N.Full F.Cells else N.Acts W.Pass (Some e) x) ≡ N.Idle → ⊥
      on true h = absurd (cc)
      on false h = absurd (cc)

      by : (b : Bool) → (if b then receipt_act g l n out e x else (if nat_lt l.cells (message_count x.slots + out + 1) then N.Full F.Cells else N.Acts W.Pass (Some e) x)) ≡ N.Idle → ⊥
      by true h = within_not_idle (receipt g n x e.number e.packet) (receipt_not_idle e.number e.packet) h
      by false h = on (nat_lt l.cells (message_count x.slots + out + 1)) h

-- the answer of the definition to the next packet is that of this act
handed_is : {Z : Type 0} (g : Language Z) (l : Placement) (n a : ℕ) (e : NumberedPacket) (s : Station Z)
    → handed_out g l n a e s ≡ after_act l n (Ev.Link a n) (acknowledges a (counted a s)) s (counted a s) (arrival_act g l n (leaving s.links n) e s.node)
handed_is {Z} g l n a e s = by (goal_node e.packet == n)
  where
    on : (c : Bool) → (if c then unchanged (S.Full F.Cells) s
        else record { told = S.Line (Ev.Link a n) W.Pass; posted = Some e; frames = acknowledges a (counted a s); station = record (counted a s) { links = post_packet l n (Some e) s.links } })
        ≡ after_act l n (Ev.Link a n) (acknowledges a (counted a s)) s (counted a s) (if c then N.Full F.Cells else N.Acts W.Pass (Some e) s.node)
    on true = refl
    on false = refl

    by : (b : Bool) → (if b then after_act l n (Ev.Link a n) (acknowledges a (counted a s)) s (counted a s) (receipt_act g l n (leaving s.links n) e s.node)
        else (if nat_lt l.cells (message_count s.node.slots + leaving s.links n + 1) then unchanged (S.Full F.Cells) s
        else record { told = S.Line (Ev.Link a n) W.Pass; posted = Some e; frames = acknowledges a (counted a s); station = record (counted a s) { links = post_packet l n (Some e) s.links } }))
        ≡ after_act l n (Ev.Link a n) (acknowledges a (counted a s)) s (counted a s)
        (if b then receipt_act g l n (leaving s.links n) e s.node else (if nat_lt l.cells (message_count s.node.slots + leaving s.links n + 1) then N.Full F.Cells else N.Acts W.Pass (Some e) s.node))
    by true = refl
    by false = on (nat_lt l.cells (message_count s.node.slots + leaving s.links n + 1))

-- the answer to a packet with the number k, if that is the next one, and if it is not
next_is : {Z : Type 0} (g : Language Z) (l : Placement) (n a k : ℕ) (e : NumberedPacket) (s : Station Z) → k ≡ count_at a s.handed
    → data_comes g l n a k e s ≡ after_act l n (Ev.Link a n) (acknowledges a (counted a s)) s (counted a s) (arrival_act g l n (leaving s.links n) e s.node)
next_is {Z} g l n a k e s h =
    let t : (k == count_at a s.handed) ≡ true = subst (λ i. (k == i) ≡ true) h (equals k) in
    ap (λ (b : Bool). if b then handed_out g l n a e s else record { told = S.Silent; posted = None; frames = acknowledges a s; station = s }) t ∙ handed_is g l n a e s

dropped_is : {Z : Type 0} (g : Language Z) (l : Placement) (n a k : ℕ) (e : NumberedPacket) (s : Station Z) → k ≢ count_at a s.handed
    → data_comes g l n a k e s ≡ record { told = S.Silent; posted = None; frames = acknowledges a s; station = s }
dropped_is {Z} g l n a k e s d = ap (λ (b : Bool). if b then handed_out g l n a e s else record { told = S.Silent; posted = None; frames = acknowledges a s; station = s }) (differ k (count_at a s.handed) d)

set_within : (ks : List ℕ) (a v most : ℕ) → ((b : ℕ) → get_or ks b 0 ≤ most) → v ≤ most → (b : ℕ) → get_or (slice_set ks a v) b 0 ≤ most
set_within [] a v most h w b = h b
set_within (k ∷ ks) zero v most h w zero = w
set_within (k ∷ ks) zero v most h w (suc b) = h (suc b)
set_within (k ∷ ks) (suc a) v most h w zero = h zero
set_within (k ∷ ks) (suc a) v most h w (suc b) = set_within ks a v most (λ i. h (suc i)) w b

pub counted_length : (ks : List ℕ) (a : ℕ) (o : Result StationOutcome StationFault) → length (counted_in ks a o) ≡ length ks
counted_length ks a (Ok O.Line) = set_length ks a (get_or ks a 0 + 1)
counted_length ks a (Ok (O.Puts to)) = set_length ks a (get_or ks a 0 + 1)
counted_length ks a (Ok O.Silent) = refl
counted_length ks a (Ok (O.Full kind)) = refl
counted_length ks a (Err x) = refl

-- a packet with another number is dropped
pub dropped_comes : (p : StationParts) (a k : ℕ) (x : Packet) (room : StepOutput) → k ≢ count_at a (counts_from 0 p.handed.items) → Comes (Ok O.Silent) room (view_of p) (view_of p) a k x
dropped_comes p a k x room d =
    let e = dropped_is (coded p.unit.now) p.table p.node.id a k (numbered x) (station_of (view_of p)) d in (
      record { told = ap (λ (z : Answer Placed). z.told) (sym e); posted = ap (λ (z : Answer Placed). z.posted) (sym e); to = tt; station = ap (λ (z : Answer Placed). z.station) (sym e) },
      ap (λ (z : Answer Placed). z.frames) (sym e),
    )

-- a station whose counts of packets that came have changed is whole
pub whole_counted : (r r' : StationParts) → IsStation r → r' ≡ record r { handed = r'.handed } → length r'.handed.items ≡ length r.handed.items → ((b : ℕ) → get_or r'.handed.items b 0 ≤ r.steps) → IsStation r'
whole_counted r r' ok e same came = subst IsStation (sym e) (record {
  of_unit = ok.of_unit;
  of_placement = ok.of_placement;
  id = ok.id;
  quantum = ok.quantum;
  width = ok.width;
  height = ok.height;
  cells = ok.cells;
  sorted = ok.sorted;
  acked = ok.acked;
  handed = same ∙ ok.handed;
  room = ok.room;
  made = ok.made;
  entered = ok.entered;
  came = came;
  few = ok.few;
})

module _ (q : StationParts) (ok : IsStation q) (l : Placement) (same : l ≡ q.table) (out : ℕ) (count : out ≡ leaving q.links.links q.id) (n' : NodeOf) (room : StepOutput) (a k : ℕ) (x : Packet)
    (told : TurnOutcome) (act : IsActOf (act_of told room) q.node n' (arrival_act (coded q.unit.now) l q.id out (numbered x) q.node.state))
    (outcome : Result StationOutcome StationFault) (links' : LinksOf Packet) (steps' : ℕ) (s : IsSettled q.table q.id told room.packet q.links q.steps outcome links' steps') where
  abbrev t : NodeActed Placed
  t = arrival_act (coded q.unit.now) q.table q.node.id (leaving (map numbered_link q.links.links) q.node.id) (numbered x) q.node.state

  acts : IsActOf (act_of told room) q.node n' t
  acts =
      subst (λ z. IsActOf (act_of told room) q.node n' (arrival_act (coded q.unit.now) q.table q.node.id z (numbered x) q.node.state)) (count ∙ sym (out_is q ok))
      (subst (λ z. IsActOf (act_of told room) q.node n' (arrival_act (coded q.unit.now) q.table z out (numbered x) q.node.state)) (sym ok.id)
      (subst (λ z. IsActOf (act_of told room) q.node n' (arrival_act (coded q.unit.now) z q.id out (numbered x) q.node.state)) same act))

  has_room : HasRoom q.table (leaving q.links.links q.id) t
  has_room = subst (λ z. HasRoom q.table z t) (out_is q ok) (arrival_has_room (coded q.unit.now) q.table (leaving (map numbered_link q.links.links) q.node.id) q.node.id (numbered x) q.node.state)

  pub arrived_whole : IsOfUnit q.unit.now n' → Each (λ k. k ≤ q.made) n'.state.made → q.steps < 2 ^ 64 - 1 → IsStation (record q { node = n'; made = q.made; links = links'; steps = steps' })
  arrived_whole fits made few =
      whole_after q ok links' steps' n' room told t outcome acts has_room s fits q.made made
      (λ b. let c = ok.came b in let m = more_steps q ok links' steps' n' room told outcome s in omega (arith, c, m)) (few_steps q ok links' steps' n' room told outcome s few)

  pub arrived_id : n'.id ≡ q.node.id
  arrived_id = id_after q ok links' steps' n' room told t acts

  -- no count is above the number of steps
  pub came_after : a < length q.handed.items → (b : ℕ) → get_or (counted_in q.handed.items a outcome) b 0 ≤ steps'
  came_after inside b = by outcome told s
    where
      stays : q.steps ≤ steps' → get_or q.handed.items b 0 ≤ steps'
      stays m = let c = ok.came b in omega (arith, c, m)

      one : q.steps + 1 ≤ steps' → get_or (slice_set q.handed.items a (get_or q.handed.items a 0 + 1)) b 0 ≤ steps'
      one m = set_within q.handed.items a (get_or q.handed.items a 0 + 1) steps' (λ i. let c = ok.came i in omega (arith, c, m)) (let c = ok.came a in omega (arith, c, m)) b

      by : (o : Result StationOutcome StationFault) (w : TurnOutcome) → IsSettled q.table q.id w room.packet q.links q.steps o links' steps' → get_or (counted_in q.handed.items a o) b 0 ≤ steps'
      by (Ok O.Silent) w z = stays (more_steps q ok links' steps' n' room w (Ok O.Silent) z)
      by (Ok (O.Full kind)) w z = stays (more_steps q ok links' steps' n' room w (Ok (O.Full kind)) z)
      by (Err fault) w z = stays (more_steps q ok links' steps' n' room w (Err fault) z)
      by (Ok O.Line) T.Idle z = absurd (let e = z.0 in cc)
      by (Ok O.Line) (T.Full kind) z = absurd (let e = z.0 in cc)
      by (Ok O.Line) T.Line z = one (let e = z.2 in omega (arith, e))
      by (Ok O.Line) T.Leaves z = absurd z
      by (Ok (O.Puts to)) T.Idle z = absurd (let e = z.0 in cc)
      by (Ok (O.Puts to)) (T.Full kind) z = absurd (let e = z.0 in cc)
      by (Ok (O.Puts to)) T.Line z = absurd (let e = z.0 in cc)
      by (Ok (O.Puts to)) T.Leaves z = one (let e = z.1 in omega (arith, e))

  -- the counts after the packet
  abbrev after_counts : Counts
  after_counts = put_count a (count_at a (counts_from 0 q.handed.items) + 1) (counts_from 0 q.handed.items)

  abbrev frames : List (ℕ × Frame)
  frames = acknowledges a (counted a (station_of (view_of q)))

  module _ (hs' : List ℕ) (counts : hs' ≡ counted_in q.handed.items a outcome) (inside : a < length q.handed.items) where
    abbrev AreCounted : Result StationOutcome StationFault → Type 0
    AreCounted o = CountsAre q ok links' steps' n' room hs' after_counts (Ev.Link a q.node.id) frames o

    one_more : counts_from 0 (slice_set q.handed.items a (get_or q.handed.items a 0 + 1)) ≡ after_counts
    one_more =
        sym (put_is 0 a a (get_or q.handed.items a 0 + 1) q.handed.items (omega arith) inside (omega arith))
        ∙ ap (λ v. put_count a (v + 1) (counts_from 0 q.handed.items)) (sym (count_is 0 a a q.handed.items (omega arith)))

    are_counted : (o : Result StationOutcome StationFault) → hs' ≡ counted_in q.handed.items a o → AreCounted o
    are_counted (Ok O.Silent) e = e
    are_counted (Ok O.Line) e = ap (counts_from 0) e ∙ one_more
    are_counted (Ok (O.Puts to)) e = ap (counts_from 0) e ∙ one_more
    are_counted (Ok (O.Full kind)) e = e
    are_counted (Err fault) e = tt

    abbrev the_view : StationOf
    the_view = record (view_of q) { node = n'; links = links'.links; handed = hs'; steps = steps' }

    abbrev answer_to : NodeActed Placed → Answer Placed
    answer_to w = after_act q.table q.node.id (Ev.Link a q.node.id) frames (station_of (view_of q)) (record (station_of (view_of q)) { handed = after_counts }) w

    abbrev HasFrames : Result StationOutcome StationFault → NodeActed Placed → Type 0
    HasFrames (Ok o) w = acks_of a o the_view ≡ (answer_to w).frames
    HasFrames (Err fault) w = Unit {0}

    frames_are : (w : TurnOutcome) (v : NodeActed Placed) (o : Result StationOutcome StationFault) → IsActOf (act_of w room) q.node n' v → IsSettled q.table q.id w room.packet q.links q.steps o links' steps'
        → AreCounted o → v ≢ N.Idle → HasFrames o v
    frames_are T.Idle N.Idle o h z c d = absurd (d refl)
    frames_are T.Idle (N.Acts f pk y) o h z c d = absurd h
    frames_are T.Idle (N.Full i) o h z c d = absurd h
    frames_are T.Idle N.Nothing o h z c d = absurd h
    frames_are (T.Full kind) (N.Full i) o h z c d = subst (λ r. HasFrames r (N.Full i)) (sym z.0) refl
    frames_are (T.Full kind) (N.Acts f pk y) o h z c d = absurd h
    frames_are (T.Full kind) N.Idle o h z c d = absurd h
    frames_are (T.Full kind) N.Nothing o h z c d = absurd h
    frames_are T.Line (N.Acts f pk y) o h z c d = subst (λ r. AreCounted r → HasFrames r (N.Acts f pk y)) (sym z.0) (λ (e : counts_from 0 hs' ≡ after_counts). ap (λ (cs : Counts). (a, S.Ack (count_at a cs)) ∷ []) e) c
    frames_are T.Line N.Idle o h z c d = absurd h
    frames_are T.Line (N.Full i) o h z c d = absurd h
    frames_are T.Line N.Nothing o h z c d = absurd h
    frames_are T.Leaves (N.Acts f pk y) (Ok (O.Puts to)) h z c d = ap (λ (cs : Counts). (a, S.Ack (count_at a cs)) ∷ []) c
    frames_are T.Leaves (N.Acts f pk y) (Ok O.Silent) h z c d = absurd z
    frames_are T.Leaves (N.Acts f pk y) (Ok O.Line) h z c d = absurd z
    frames_are T.Leaves (N.Acts f pk y) (Ok (O.Full i)) h z c d = absurd z
    frames_are T.Leaves (N.Acts f pk y) (Err fault) h z c d = tt
    frames_are T.Leaves N.Idle o h z c d = absurd h
    frames_are T.Leaves (N.Full i) o h z c d = absurd h
    frames_are T.Leaves N.Nothing o h z c d = absurd h

    pub comes_gives : k ≡ count_at a (counts_from 0 q.handed.items) → Comes outcome room (view_of q) the_view a k x
    comes_gives next = by outcome counted_outcome (gives q ok links' steps' n' room hs' after_counts (Ev.Link a q.node.id) frames told t outcome acts s counted_outcome)
        (frames_are told t outcome acts s counted_outcome (arrival_not_idle (coded q.unit.now) q.table q.node.id (leaving (map numbered_link q.links.links) q.node.id) q.node.state (numbered x)))
      where
        counted_outcome : AreCounted outcome
        counted_outcome = are_counted outcome counts

        is : data_comes (coded q.unit.now) q.table q.node.id a k (numbered x) (station_of (view_of q)) ≡ answer_to t
        is = next_is (coded q.unit.now) q.table q.node.id a k (numbered x) (station_of (view_of q)) next

        by : (o : Result StationOutcome StationFault) → AreCounted o → Gives q ok links' steps' n' room hs' after_counts (Ev.Link a q.node.id) frames o t → HasFrames o t → Comes o room (view_of q) the_view a k x
        by (Ok o) c g f = (subst (λ z. IsAnswer (Ev.Link a q.node.id) o room (view_of q) the_view z) (sym is) g, f ∙ ap (λ (z : Answer Placed). z.frames) (sym is))
        by (Err X.Strays) c g f = subst (λ (z : Answer Placed). Strays q.table q.node.id z.posted) (sym is) g
        by (Err X.Unfit) c g f = absurd g
        by (Err X.Spent) c g f = absurd g
