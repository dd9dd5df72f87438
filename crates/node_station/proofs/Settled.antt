-- A station after a step of its node: it is whole, and its outcome is the answer of the definition.
use Rattle.std.proofs.Common.{◌≡◌, ◌≢◌, ◌⊎◌, inl, inr, refl, sym, ap, subst, ◌∙◌, IsTrue, ℕ, ◌+◌, ◌*◌, ◌^◌, ◌-◌, ◌<◌, ◌≤◌, ◌==◌, List, [], ◌∷◌, ◌++◌, length, get_or, map, Option, Some, None, Bool, true, false, if◌then◌else◌, nat_lt, arith}
use Rattle.std.specs.Prelude.{Result, Ok, Err}
use Rattle.std.specs.Option.{option_map}
use Rattle.std.specs.FinMap.Entries.{is_sorted}
use Rattle.std.proofs.lemmas.List.{length_push}
use Rattle.run_types.specs.declared.types.Event.{Event}
use Rattle.run_types.specs.declared.types.FullKind.TheVariants as F
use Rattle.run_types.specs.declared.types.Placement.{Placement}
use Rattle.run_types.specs.declared.types.What.TheVariants as W
use Rattle.run_types.specs.LinkTables.{leaving, push_list}
use Rattle.run_types.specs.Paths.{next}
use Rattle.run_types.specs.Tables.{Each, Pair, pair_cmp, list_at}
use Rattle.run_types.proofs.Laws.{decide, pushed_here, pushed_sorted, pushed_there}
use Rattle.code_semantics.specs.declared.unit.Unit.{Unit as Code}
use Rattle.mesh_semantics.specs.Act.{goal_node}
use Rattle.mesh_semantics.specs.Language.{Language}
use Rattle.mesh_semantics.specs.NumberedPackets.{NumberedPacket}
use Rattle.mesh_of_code.specs.Coded.{Placed}
use Rattle.mesh_routing.specs.Links.{LinksOf}
use Rattle.node_semantics.specs.Node as N
use Rattle.node_semantics.specs.Node.{NodeActed, NodeState, Slot, frames_in, message_count, packet_count, receipt_act, slot_in_turn, turn_act, turn_of_slot, within_node}
use Rattle.node_semantics.specs.Machine.{post_packet}
use Rattle.rendezvous_protocol.specs.declared.packet.Packet.{Packet}
use Rattle.rendezvous_protocol.specs.Packets.{numbered}
use Rattle.node_state.specs.NodeOf.{NodeOf}
use Rattle.node_state.specs.OfUnit.{IsOfPlacement, IsOfUnit}
use Rattle.node_acts.specs.ActOf as A
use Rattle.node_acts.specs.ActOf.{Act, act_of}
use Rattle.node_acts.specs.declared.types.StepOutput.{StepOutput}
use Rattle.node_acts.specs.declared.types.TurnOutcome.{TurnOutcome}
use Rattle.node_acts.specs.declared.types.TurnOutcome.TheVariants as T
use Rattle.node_turns.specs.Acts.{IsActOf}
use Rattle.machine_network.specs.LinkWires.{numbered_link}
use Rattle.machine_network.proofs.Laws.{push_numbered}
use Rattle.station_semantics.specs.Station as S
use Rattle.station_semantics.specs.Station.{Answer, Counts, Frame, Station, after_act}
use Rattle.node_station.specs.declared.outcome.StationFault.{StationFault}
use Rattle.node_station.specs.declared.outcome.StationFault.TheVariants as X
use Rattle.node_station.specs.declared.outcome.StationOutcome.{StationOutcome}
use Rattle.node_station.specs.declared.outcome.StationOutcome.TheVariants as O
use Rattle.node_station.specs.declared.parts.StationParts.{StationParts}
use Rattle.node_station.specs.StationOf.{StationOf, counts_from, station_of}
use Rattle.node_station.specs.Outcomes.{IsAnswer, Strays, is_other_node}
use Rattle.node_station.specs.Parts.{IsSettled, IsStation, arrival_act, view_of}
use Rattle.node_station.proofs.PostedRoom.{leaving_push}

not_above : (a b : ℕ) → nat_lt a b ≡ false → b ≤ a
not_above a b h = grind (arith, h)

-- the messages, the packets that leave and the new one are within the cells
abbrev pub HasRoom : {S : Type 0} → Placement → ℕ → NodeActed S → Type 0
HasRoom l out (N.Acts w p x) = message_count x.slots + out + packet_count p ≤ l.cells
HasRoom l out N.Idle = Unit {0}
HasRoom l out (N.Full k) = Unit {0}
HasRoom l out N.Nothing = Unit {0}

module _ {S : Type 0} (g : Language S) (l : Placement) (out : ℕ) where
  within_has_room : (a : NodeActed S) → HasRoom l out (within_node g l out a)
  within_has_room N.Idle = tt
  within_has_room (N.Full k) = tt
  within_has_room N.Nothing = tt
  within_has_room (N.Acts w p x) = by (nat_lt l.objects (length x.slots)) (nat_lt l.frames (frames_in g x.slots)) (nat_lt l.cells (message_count x.slots + out + packet_count p)) refl
    where
      by : (a b c : Bool) → nat_lt l.cells (message_count x.slots + out + packet_count p) ≡ c
          → HasRoom l out (if a then N.Full F.Heap else (if b then N.Full F.Frames else (if c then N.Full F.Cells else N.Acts w p x)))
      by true b c e = tt
      by false true c e = tt
      by false false true e = tt
      by false false false e = not_above l.cells (message_count x.slots + out + packet_count p) e

  pub turn_has_room : (q n fresh : ℕ) (x : NodeState S) → HasRoom l out (turn_act g l q n out fresh x)
  turn_has_room q n fresh x = by (slot_in_turn g n x)
    where
      by : (o : Option (ℕ × Slot S)) → HasRoom l out (turn_of_slot g l q n out fresh x o)
      by None = tt
      by (Some e) = within_has_room _

  pub arrival_has_room : (n : ℕ) (e : NumberedPacket) (x : NodeState S) → HasRoom l out (arrival_act g l n out e x)
  arrival_has_room n e x = by (goal_node e.packet == n)
    where
      on : (c : Bool) → nat_lt l.cells (message_count x.slots + out + 1) ≡ c → HasRoom l out (if c then N.Full F.Cells else N.Acts W.Pass (Some e) x)
      on true i = tt
      on false i = not_above l.cells (message_count x.slots + out + 1) i

      by : (b : Bool) → HasRoom l out (if b then receipt_act g l n out e x else (if nat_lt l.cells (message_count x.slots + out + 1) then N.Full F.Cells else N.Acts W.Pass (Some e) x))
      by true = within_has_room _
      by false = on (nat_lt l.cells (message_count x.slots + out + 1)) refl

-- the number and the limits of a node stay
record Stays (old new : NodeOf) : Type 0 where
  id : new.id ≡ old.id
  objects : new.most_objects ≡ old.most_objects
  frames : new.most_frames ≡ old.most_frames
  cells : new.most_cells ≡ old.most_cells

same_stays : (old new : NodeOf) → new ≡ old → Stays old new
same_stays old new e = record { id = ap (λ (n : NodeOf). n.id) e; objects = ap (λ (n : NodeOf). n.most_objects) e; frames = ap (λ (n : NodeOf). n.most_frames) e; cells = ap (λ (n : NodeOf). n.most_cells) e }

stays : (act : Act) (old new : NodeOf) (t : NodeActed Placed) → IsActOf act old new t → Stays old new
stays A.Idle old new N.Idle h = same_stays old new h
stays A.Idle old new (N.Acts w p x) h = absurd h
stays A.Idle old new (N.Full k) h = absurd h
stays A.Idle old new N.Nothing h = absurd h
stays (A.Full kind) old new (N.Full k) h = same_stays old new h.1
stays (A.Full kind) old new (N.Acts w p x) h = absurd h
stays (A.Full kind) old new N.Idle h = absurd h
stays (A.Full kind) old new N.Nothing h = absurd h
stays (A.Line what packet) old new (N.Acts w p x) h = record { id = ap (λ (n : NodeOf). n.id) h.2; objects = ap (λ (n : NodeOf). n.most_objects) h.2; frames = ap (λ (n : NodeOf). n.most_frames) h.2; cells = ap (λ (n : NodeOf). n.most_cells) h.2 }
stays (A.Line what packet) old new N.Idle h = absurd h
stays (A.Line what packet) old new (N.Full k) h = absurd h
stays (A.Line what packet) old new N.Nothing h = absurd h

of_placement_stays : (u : Code) (l : Placement) (old new : NodeOf) → Stays old new → IsOfPlacement u l old → IsOfPlacement u l new
of_placement_stays u l old new s h = record {
  suits = h.suits;
  id = subst (λ i. i < l.width * l.height) (sym s.id) h.id;
  objects = s.objects ∙ h.objects;
  frames = s.frames ∙ h.frames;
  cells = s.cells ∙ h.cells;
}

-- the links after a step are sorted, within the cells, and have no more packets than there were steps
record AreKept (l : Placement) (id : ℕ) (acked : List ℕ) (messages : ℕ) (old new : LinksOf Packet) (steps : ℕ) : Type 0 where
  width : new.width ≡ old.width
  height : new.height ≡ old.height
  cells : new.cells ≡ old.cells
  sorted : IsTrue (is_sorted pair_cmp new.links)
  room : messages + leaving new.links id ≤ l.cells
  entered : (b : ℕ) → get_or acked b 0 + length (list_at pair_cmp (id, b) new.links) ≤ steps

module _ (p : StationParts) (ok : IsStation p) (links' : LinksOf Packet) (steps' : ℕ) where
  kept_same : (messages : ℕ) → links' ≡ p.links → p.steps ≤ steps' → messages + leaving p.links.links p.id ≤ p.table.cells → AreKept p.table p.id p.acked.items messages p.links links' steps'
  kept_same messages e more r = subst (λ z. AreKept p.table p.id p.acked.items messages p.links z steps') (sym e) (record {
    width = refl;
    height = refl;
    cells = refl;
    sorted = ok.sorted;
    room = r;
    entered = λ b. let a = ok.entered b in omega (arith, a, more);
  })

  kept_pushed : (messages to : ℕ) (x : Packet) → links' ≡ record p.links { links = push_list pair_cmp (p.id, to) x p.links.links } → steps' ≡ p.steps + 1
      → messages + leaving p.links.links p.id + 1 ≤ p.table.cells → AreKept p.table p.id p.acked.items messages p.links links' steps'
  kept_pushed messages to x e more r = subst (λ z. AreKept p.table p.id p.acked.items messages p.links z steps') (sym e) (record {
    width = refl;
    height = refl;
    cells = refl;
    sorted = pushed_sorted p.links.links (p.id, to) x ok.sorted;
    room = let a = leaving_push p.id (p.id, to) x p.links.links ok.sorted in omega (arith, a, r);
    entered = λ b. entered b (decide b to);
  })
    where
      entered : (b : ℕ) → (b ≡ to) ⊎ (b ≢ to) → get_or p.acked.items b 0 + length (list_at pair_cmp (p.id, b) (push_list pair_cmp (p.id, to) x p.links.links)) ≤ steps'
      entered b (inl q) =
          let here = subst (λ i. list_at pair_cmp (p.id, i) (push_list pair_cmp (p.id, to) x p.links.links) ≡ list_at pair_cmp (p.id, i) p.links.links ++ x ∷ []) (sym q) (pushed_here p.links.links (p.id, to) x) in
          let z = ap length here ∙ length_push (list_at pair_cmp (p.id, b) p.links.links) x in
          let a = ok.entered b in omega (arith, a, z, more)
      entered b (inr d) =
          let z = ap length (pushed_there p.links.links (p.id, b) (p.id, to) x (λ (q : (p.id, b) ≡ (p.id, to)). d (ap (λ (k : Pair). k.1) q))) in
          let a = ok.entered b in omega (arith, a, z, more)

  module _ (n' : NodeOf) (room : StepOutput) where
    node_room : n' ≡ p.node → message_count n'.state.slots + leaving p.links.links p.id ≤ p.table.cells
    node_room e = subst (λ (n : NodeOf). message_count n.state.slots + leaving p.links.links p.id ≤ p.table.cells) (sym e) ok.room

    line_room : (packet : Option Packet) (pk : Option NumberedPacket) (x : NodeState Placed) → option_map numbered packet ≡ pk → n' ≡ record p.node { state = x; ready = n'.ready }
        → message_count x.slots + leaving p.links.links p.id + packet_count pk ≤ p.table.cells
        → message_count n'.state.slots + leaving p.links.links p.id + packet_count (option_map numbered packet) ≤ p.table.cells
    line_room packet pk x same is h =
        let a : message_count n'.state.slots ≡ message_count x.slots = ap (λ (n : NodeOf). message_count n.state.slots) is in
        let b : packet_count (option_map numbered packet) ≡ packet_count pk = ap packet_count same in omega (arith, a, b, h)

    links_kept : (told : TurnOutcome) (t : NodeActed Placed) (outcome : Result StationOutcome StationFault) → IsActOf (act_of told room) p.node n' t → HasRoom p.table (leaving p.links.links p.id) t
        → IsSettled p.table p.id told room.packet p.links p.steps outcome links' steps' → AreKept p.table p.id p.acked.items (message_count n'.state.slots) p.links links' steps'
    links_kept T.Idle N.Idle outcome act has s = kept_same (message_count n'.state.slots) s.1 (let a = s.2 in omega (arith, a)) (node_room act)
    links_kept T.Idle (N.Acts w pk x) outcome act has s = absurd act
    links_kept T.Idle (N.Full k) outcome act has s = absurd act
    links_kept T.Idle N.Nothing outcome act has s = absurd act
    links_kept (T.Full kind) (N.Full k) outcome act has s = kept_same (message_count n'.state.slots) s.1 (let a = s.2 in omega (arith, a)) (node_room act.1)
    links_kept (T.Full kind) (N.Acts w pk x) outcome act has s = absurd act
    links_kept (T.Full kind) N.Idle outcome act has s = absurd act
    links_kept (T.Full kind) N.Nothing outcome act has s = absurd act
    links_kept T.Line (N.Acts w pk x) outcome act has s =
        let r = line_room None pk x act.1 act.2 has in kept_same (message_count n'.state.slots) s.1 (let a = s.2 in omega (arith, a)) (omega (arith, r))
    links_kept T.Line N.Idle outcome act has s = absurd act
    links_kept T.Line (N.Full k) outcome act has s = absurd act
    links_kept T.Line N.Nothing outcome act has s = absurd act
    links_kept T.Leaves (N.Acts w pk x) (Ok (O.Puts to)) act has s =
        let r = line_room (Some room.packet) pk x act.1 act.2 has in kept_pushed (message_count n'.state.slots) to room.packet s.0.2 s.1 (omega (arith, r))
    links_kept T.Leaves (N.Acts w pk x) (Err X.Strays) act has s =
        let r = line_room (Some room.packet) pk x act.1 act.2 has in kept_same (message_count n'.state.slots) s.0.1 (let a = s.1 in omega (arith, a)) (omega (arith, r))
    links_kept T.Leaves (N.Acts w pk x) (Ok O.Silent) act has s = absurd s
    links_kept T.Leaves (N.Acts w pk x) (Ok O.Line) act has s = absurd s
    links_kept T.Leaves (N.Acts w pk x) (Ok (O.Full k)) act has s = absurd s
    links_kept T.Leaves (N.Acts w pk x) (Err X.Unfit) act has s = absurd s
    links_kept T.Leaves (N.Acts w pk x) (Err X.Spent) act has s = absurd s
    links_kept T.Leaves N.Idle outcome act has s = absurd act
    links_kept T.Leaves (N.Full k) outcome act has s = absurd act
    links_kept T.Leaves N.Nothing outcome act has s = absurd act

    -- the station is whole after the step
    pub whole_after : (told : TurnOutcome) (t : NodeActed Placed) (outcome : Result StationOutcome StationFault) → IsActOf (act_of told room) p.node n' t → HasRoom p.table (leaving p.links.links p.id) t
        → IsSettled p.table p.id told room.packet p.links p.steps outcome links' steps' → IsOfUnit p.unit.now n' → (made' : ℕ) → Each (λ k. k ≤ made') n'.state.made
        → ((b : ℕ) → get_or p.handed.items b 0 ≤ steps') → steps' < 2 ^ 64 → IsStation (record p { node = n'; made = made'; links = links'; steps = steps' })
    whole_after told t outcome act has s fits made' made came few =
        let k = links_kept told t outcome act has s in
        let z = stays (act_of told room) p.node n' t act in
        record {
          of_unit = fits;
          of_placement = of_placement_stays p.unit.now p.table p.node n' z ok.of_placement;
          id = z.id ∙ ok.id;
          quantum = ok.quantum;
          width = k.width ∙ ok.width;
          height = k.height ∙ ok.height;
          cells = k.cells ∙ ok.cells;
          sorted = k.sorted;
          acked = ok.acked;
          handed = ok.handed;
          room = k.room;
          made = made;
          entered = k.entered;
          came = came;
          few = few;
        }

    -- a step is counted, if there was one
    pub more_steps : (told : TurnOutcome) (outcome : Result StationOutcome StationFault) → IsSettled p.table p.id told room.packet p.links p.steps outcome links' steps' → p.steps ≤ steps'
    more_steps T.Idle outcome s = let a = s.2 in omega (arith, a)
    more_steps (T.Full kind) outcome s = let a = s.2 in omega (arith, a)
    more_steps T.Line outcome s = let a = s.2 in omega (arith, a)
    more_steps T.Leaves (Ok (O.Puts to)) s = let a = s.1 in omega (arith, a)
    more_steps T.Leaves (Err X.Strays) s = let a = s.1 in omega (arith, a)
    more_steps T.Leaves (Ok O.Silent) s = absurd s
    more_steps T.Leaves (Ok O.Line) s = absurd s
    more_steps T.Leaves (Ok (O.Full k)) s = absurd s
    more_steps T.Leaves (Err X.Unfit) s = absurd s
    more_steps T.Leaves (Err X.Spent) s = absurd s

    pub few_steps : (told : TurnOutcome) (outcome : Result StationOutcome StationFault) → IsSettled p.table p.id told room.packet p.links p.steps outcome links' steps' → p.steps < 2 ^ 64 - 1 → steps' < 2 ^ 64
    few_steps T.Idle outcome s h = let a = s.2 in omega (arith, a, h)
    few_steps (T.Full kind) outcome s h = let a = s.2 in omega (arith, a, h)
    few_steps T.Line outcome s h = let a = s.2 in omega (arith, a, h)
    few_steps T.Leaves (Ok (O.Puts to)) s h = let a = s.1 in omega (arith, a, h)
    few_steps T.Leaves (Err X.Strays) s h = let a = s.1 in omega (arith, a, h)
    few_steps T.Leaves (Ok O.Silent) s h = absurd s
    few_steps T.Leaves (Ok O.Line) s h = absurd s
    few_steps T.Leaves (Ok (O.Full k)) s h = absurd s
    few_steps T.Leaves (Err X.Unfit) s h = absurd s
    few_steps T.Leaves (Err X.Spent) s h = absurd s

    pub id_after : (told : TurnOutcome) (t : NodeActed Placed) → IsActOf (act_of told room) p.node n' t → n'.id ≡ p.node.id
    id_after told t act = (stays (act_of told room) p.node n' t act).id

    -- the outcome, for an event with these frames after which these packets have come
    module _ (hs' : List ℕ) (H : Counts) (e : Event) (frames : List (ℕ × Frame)) where
      abbrev pub new_view : StationOf
      new_view = record (view_of p) { node = n'; links = links'.links; handed = hs'; steps = steps' }

      abbrev pub CountsAre : Result StationOutcome StationFault → Type 0
      CountsAre (Ok O.Line) = counts_from 0 hs' ≡ H
      CountsAre (Ok (O.Puts to)) = counts_from 0 hs' ≡ H
      CountsAre (Ok O.Silent) = hs' ≡ p.handed.items
      CountsAre (Ok (O.Full k)) = hs' ≡ p.handed.items
      CountsAre (Err x) = Unit {0}

      abbrev pub the_answer : NodeActed Placed → Answer Placed
      the_answer t = after_act p.table p.node.id e frames (station_of (view_of p)) (record (station_of (view_of p)) { handed = H }) t

      abbrev pub Gives : Result StationOutcome StationFault → NodeActed Placed → Type 0
      Gives (Ok o) t = IsAnswer e o room (view_of p) new_view (the_answer t)
      Gives (Err X.Strays) t = Strays p.table p.node.id (the_answer t).posted
      Gives (Err X.Unfit) t = ⊥
      Gives (Err X.Spent) t = ⊥

      unchanged : n' ≡ p.node → links' ≡ p.links → hs' ≡ p.handed.items → station_of new_view ≡ station_of (view_of p)
      unchanged a b c = λ i. station_of (record (view_of p) { node = a i; links = (b i).links; handed = c i; steps = steps' })

      changed : (pk : Option NumberedPacket) (x : NodeState Placed) → n' ≡ record p.node { state = x; ready = n'.ready } → map numbered_link links'.links ≡ post_packet p.table p.node.id pk (map numbered_link p.links.links)
          → counts_from 0 hs' ≡ H → station_of new_view ≡ record (station_of (view_of p)) { node = x; links = post_packet p.table p.node.id pk (map numbered_link p.links.links); handed = H }
      changed pk x a b c = λ i. record { node = (a i).state; links = b i; acked = counts_from 0 p.acked.items; handed = c i }

      pub gives : (told : TurnOutcome) (t : NodeActed Placed) (outcome : Result StationOutcome StationFault) → IsActOf (act_of told room) p.node n' t
          → IsSettled p.table p.id told room.packet p.links p.steps outcome links' steps' → CountsAre outcome → Gives outcome t
      gives T.Idle N.Idle outcome act s c =
          subst (λ z. CountsAre z → Gives z N.Idle) (sym s.0) (λ (d : hs' ≡ p.handed.items). record { told = refl; posted = refl; to = tt; station = unchanged act s.1 d }) c
      gives T.Idle (N.Acts w pk x) outcome act s c = absurd act
      gives T.Idle (N.Full k) outcome act s c = absurd act
      gives T.Idle N.Nothing outcome act s c = absurd act
      gives (T.Full kind) (N.Full k) outcome act s c =
          subst (λ z. CountsAre z → Gives z (N.Full k)) (sym s.0) (λ (d : hs' ≡ p.handed.items). record { told = ap (λ j. S.Full j) act.0; posted = refl; to = tt; station = unchanged act.1 s.1 d }) c
      gives (T.Full kind) (N.Acts w pk x) outcome act s c = absurd act
      gives (T.Full kind) N.Idle outcome act s c = absurd act
      gives (T.Full kind) N.Nothing outcome act s c = absurd act
      gives T.Line (N.Acts w pk x) outcome act s c =
          subst (λ z. CountsAre z → Gives z (N.Acts w pk x)) (sym s.0) (λ (d : counts_from 0 hs' ≡ H). record {
            told = ap (λ j. S.Line e j) act.0;
            posted = act.1;
            to = tt;
            station = changed pk x act.2 (ap (λ (z : LinksOf Packet). map numbered_link z.links) s.1 ∙ ap (λ z. post_packet p.table p.node.id z (map numbered_link p.links.links)) act.1) d;
          }) c
      gives T.Line N.Idle outcome act s c = absurd act
      gives T.Line (N.Full k) outcome act s c = absurd act
      gives T.Line N.Nothing outcome act s c = absurd act
      gives T.Leaves (N.Acts w pk x) (Ok (O.Puts to)) act s c = record {
        told = ap (λ j. S.Line e j) act.0;
        posted = act.1;
        to = s.0.1 ∙ ap (λ i. next p.table i (goal_node (numbered room.packet).packet)) (sym ok.id);
        station = changed pk x act.2 links c;
      }
        where
          key : ◌≡◌ {A = Pair} (p.id, to) (p.node.id, next p.table p.node.id (goal_node (numbered room.packet).packet))
          key = λ i. (sym ok.id i, (s.0.1 ∙ ap (λ i. next p.table i (goal_node (numbered room.packet).packet)) (sym ok.id)) i)

          links : map numbered_link links'.links ≡ post_packet p.table p.node.id pk (map numbered_link p.links.links)
          links =
              ap (λ (z : LinksOf Packet). map numbered_link z.links) s.0.2 ∙ sym (push_numbered (p.id, to) room.packet p.links.links)
              ∙ ap (λ (k : Pair). push_list pair_cmp k (numbered room.packet) (map numbered_link p.links.links)) key
              ∙ ap (λ z. post_packet p.table p.node.id z (map numbered_link p.links.links)) act.1
      gives T.Leaves (N.Acts w pk x) (Err X.Strays) act s c =
          subst (Strays p.table p.node.id) act.1 (ap (λ i. is_other_node p.table i (goal_node (numbered room.packet).packet)) ok.id ∙ s.0.0)
      gives T.Leaves (N.Acts w pk x) (Ok O.Silent) act s c = absurd s
      gives T.Leaves (N.Acts w pk x) (Ok O.Line) act s c = absurd s
      gives T.Leaves (N.Acts w pk x) (Ok (O.Full k)) act s c = absurd s
      gives T.Leaves (N.Acts w pk x) (Err X.Unfit) act s c = absurd s
      gives T.Leaves (N.Acts w pk x) (Err X.Spent) act s c = absurd s
      gives T.Leaves N.Idle outcome act s c = absurd act
      gives T.Leaves (N.Full k) outcome act s c = absurd act
      gives T.Leaves N.Nothing outcome act s c = absurd act
