-- Over wires, too, a machine does what its configuration does: the stored part of each wire does what the wire does.
use Rattle.std.proofs.Common.{◌≡◌, ◌≢◌, ◌⊎◌, inl, inr, refl, sym, ap, subst, ◌∙◌, ℕ, ◌+◌, ◌<◌, ◌==◌, List, [], ◌∷◌, ◌++◌, append-nil, append_assoc, length, Option, Some, None, Bool, true, false, ◌||◌, if◌then◌else◌, nat_lt}
use Rattle.std.specs.Prelude.{slice_get, drop}
use Rattle.std.specs.List.{list_any}
use Rattle.std.specs.Option.{unwrap_or}
use Rattle.std.specs.declared.cmp.Ordering.{Ordering}
use Rattle.std.specs.declared.cmp.Ordering.TheVariants.{Less, Equal, Greater}
use Rattle.std.specs.FinMap.{find, put}
use Rattle.run_types.specs.declared.types.Event.{Event}
use Rattle.run_types.specs.declared.types.Event.TheVariants as Ev
use Rattle.run_types.specs.declared.types.What.{What}
use Rattle.run_types.specs.declared.types.What.TheVariants as Wt
use Rattle.run_types.specs.declared.types.WireAct.{WireAct}
use Rattle.run_types.specs.declared.types.FullKind.TheVariants as F
use Rattle.run_types.specs.declared.types.Placement.{Placement}
use Rattle.run_types.specs.Tables.{Pair, pair_cmp, list_at, put_list, has_some}
use Rattle.run_types.specs.LinkTables.{push_list, leaving}
use Rattle.mesh_semantics.specs.Language.{Language}
use Rattle.mesh_semantics.specs.Config.{Config}
use Rattle.run_types.specs.Paths.{next, is_link, on_link, move_head}
use Rattle.mesh_semantics.specs.Wire.{Wire, empty_wire, WireFacts, Coming, Empty, Stale, Next, enter, coming, take, wire_act, is_done}
use Rattle.mesh_semantics.specs.Happenings.{changed, happened}
use Rattle.mesh_semantics.specs.KeptWire.{KeptWire, empty_kept, kept_coming, kept_take, kept_act}
use Rattle.mesh_semantics.specs.Delay.{Packet, Wires, Delay, no_delay, no_delay_on_wires, wire_at, enter_all}
use Rattle.mesh_semantics.specs.NumberedPackets.{NumberedPacket}
use Rattle.mesh_semantics.specs.Act as A
use Rattle.mesh_semantics.specs.Act.{Acted, plain_act, link_move, node_turn, turn_of, first_of, goal_node, on_wires, wire_move, wire_turn, act_over, act, is_acknowledged}
use Rattle.mesh_semantics.specs.Sound.{IsSound}
use Rattle.mesh_semantics.specs.Lawful.{Lawful}
use Rattle.run_types.proofs.Laws.{equals, find_pair_same, find_pair_other, tested, all_tested, each_map, pushed_here, pushed_there, listed_here, listed_there}
use Rattle.mesh_semantics.proofs.Laws.{at_same, at_other, PutsBehind, turn_enters, move_enters, enter_at, stale_handed, next_handed, act_handed, act_facts, take_facts, enter_facts, act_put, take_put, next_is_head, facts_empty, acknowledged_at, enter_same, take_same, kept_act_same, under-append, Behind, kept_result, enterings}
use Rattle.node_semantics.specs.Node as N
use Rattle.node_semantics.specs.Node.{NodeState, NodeActed, message_count, receipt_act, turn_act}
use Rattle.node_semantics.specs.Machine as M
use Rattle.node_semantics.specs.Machine.{KeptWires, Machine, MachineActed, kept_at, post_packet, after_node, turn_in, come, move_in, plain_machine_act, with_kept, kept_move, kept_turn, machine_act_over, machine_act, are_acknowledged, is_machine_quiet}
use Rattle.mesh_semantics.specs.Requests.{Requests}
use Rattle.node_semantics.specs.StandsFor.{packets, MachineStandsFor}
use Rattle.node_semantics.specs.WiresStandFor.{WireStandsFor, WiresStandFor, StandsFor, AgreesOn}
use Rattle.node_semantics.specs.Agrees.{IsOfMesh, IsFresh}
use Rattle.node_semantics.proofs.ActsAgree.{Agrees}
use Rattle.node_semantics.proofs.KeptNumbers.{fits_kept}
use Rattle.node_semantics.proofs.PostedLinks.{decide_link, is_head, moved_links}
use Rattle.node_semantics.proofs.PlainWires.{packets_join, packets_length, plain_enter, plain_coming, coming_plain, plain_take, plain_result, act_plain}
use Rattle.node_semantics.proofs.QuietAgrees.{same_bool}
use Rattle.node_semantics.proofs.EventsAgree.{plain_agrees}

-- one wire

-- a packet more on the link
enter_stands : (v : KeptWire NumberedPacket) (w : Wire Packet) (link : List NumberedPacket) (e : NumberedPacket) → WireStandsFor v w link → WireStandsFor v (enter e.packet w) (link ++ e ∷ [])
enter_stands v w link e s = record {
  wire = enter e s.wire;
  facts = enter_facts e s.wire s.facts;
  rest = ap (λ es. es ++ e ∷ []) s.rest ∙ append_assoc s.wire.handed link (e ∷ []);
  kept = enter_same e s.wire s.facts ∙ s.kept;
  without = plain_enter e s.wire ∙ ap (enter e.packet) s.without;
}

enter_all_stand : (v : KeptWire NumberedPacket) (w : Wire Packet) (link more : List NumberedPacket) → WireStandsFor v w link → WireStandsFor v (happened (enterings (packets more)) w) (link ++ more)
enter_all_stand v w link [] s = subst (WireStandsFor v w) (sym (append-nil link)) s
enter_all_stand v w link (e ∷ more) s =
    subst (WireStandsFor v (happened (enterings (packets more)) (enter e.packet w))) (append_assoc link (e ∷ []) more) (enter_all_stand v (enter e.packet w) (link ++ e ∷ []) more (enter_stands v w link e s))

comes_so : (v : KeptWire NumberedPacket) (w : Wire Packet) (link : List NumberedPacket) (s : WireStandsFor v w link) → kept_coming v ≡ coming s.wire
comes_so v w link s = ap (λ (z : KeptWire NumberedPacket). kept_coming z) (sym s.kept)

-- what comes to the far end is the same
pub coming_stands : (v : KeptWire NumberedPacket) (w : Wire Packet) (link : List NumberedPacket) → WireStandsFor v w link → coming w ≡ plain_coming (kept_coming v)
coming_stands v w link s = ap (λ (z : Wire Packet). coming z) (sym s.without) ∙ coming_plain s.wire ∙ ap plain_coming (sym (comes_so v w link s))

take_stands : (v : KeptWire NumberedPacket) (w : Wire Packet) (link rest : List NumberedPacket) (s : WireStandsFor v w link) → (take s.wire).put ≡ (take s.wire).handed ++ rest → WireStandsFor (kept_take v) (take w) rest
take_stands v w link rest s e = record {
  wire = take s.wire;
  facts = take_facts s.wire s.facts;
  rest = e;
  kept = take_same s.wire ∙ ap (λ (z : KeptWire NumberedPacket). kept_take z) s.kept;
  without = plain_take s.wire ∙ ap (λ (z : Wire Packet). take z) s.without;
}

stale_stands : (v : KeptWire NumberedPacket) (w : Wire Packet) (link : List NumberedPacket) (n : ℕ) → WireStandsFor v w link → kept_coming v ≡ Stale n → WireStandsFor (kept_take v) (take w) link
stale_stands v w link n s h =
    take_stands v w link link s (take_put s.wire ∙ s.rest ∙ ap (λ es. es ++ link) (sym (stale_handed s.wire n (sym (comes_so v w link s) ∙ h))))

-- the next packet is the head of the link
head_stands : (v : KeptWire NumberedPacket) (w : Wire Packet) (link : List NumberedPacket) (e : NumberedPacket) → WireStandsFor v w link → kept_coming v ≡ Next e
    → (rest : List NumberedPacket) × (link ≡ e ∷ rest) × WireStandsFor (kept_take v) (take w) rest
head_stands v w link e s h = by link refl (next_is_head s.wire link e s.facts s.rest i)
  where
    i : coming s.wire ≡ Next e
    i = sym (comes_so v w link s) ∙ h

    by : (es : List NumberedPacket) → link ≡ es → first_of link ≡ Some e → (rest : List NumberedPacket) × (link ≡ e ∷ rest) × WireStandsFor (kept_take v) (take w) rest
    by [] j k = absurd (let q : None ≡ Some e = rw j at k in cc)
    by (x ∷ rest) j k =
        let same : x ≡ e = let q : Some x ≡ Some e = rw j at k in cc in
        let is : link ≡ e ∷ rest = j ∙ ap (λ z. z ∷ rest) same in (
          rest,
          is,
          take_stands v w link rest s (
              take_put s.wire ∙ s.rest ∙ ap (λ es. s.wire.handed ++ es) is ∙ sym (append_assoc s.wire.handed (e ∷ []) rest) ∙ ap (λ es. es ++ rest) (sym (next_handed s.wire e i))),
        )

-- what else happens on the wire is the same
abbrev SameResult : Option (What × KeptWire NumberedPacket) → Option (What × Wire Packet) → List NumberedPacket → Type 0
SameResult None None link = Unit {0}
SameResult (Some r) (Some q) link = (r.0 ≡ q.0) × WireStandsFor r.1 q.1 link
SameResult None (Some q) link = ⊥
SameResult (Some r) None link = ⊥

act_stands : (a : WireAct) (v : KeptWire NumberedPacket) (w : Wire Packet) (link : List NumberedPacket) → WireStandsFor v w link → SameResult (kept_act a link v) (wire_act a w) link
act_stands a v w link s =
    let i : kept_act a link v ≡ kept_result (wire_act a s.wire) = ap (kept_act a link) (sym s.kept) ∙ kept_act_same a s.wire link s.facts s.rest in
    let j : wire_act a w ≡ plain_result (wire_act a s.wire) = ap (wire_act a) (sym s.without) ∙ act_plain a s.wire in
    subst (λ z. SameResult z (wire_act a w) link) (sym i) (subst (λ z. SameResult (kept_result (wire_act a s.wire)) z link) (sym j) (by (wire_act a s.wire) refl))
  where
    by : (o : Option (What × Wire NumberedPacket)) → wire_act a s.wire ≡ o → SameResult (kept_result o) (plain_result o) link
    by None e = tt
    by (Some r) e =
        let now : changed s.wire (wire_act a s.wire) ≡ r.1 = ap (changed s.wire) e in (
          refl,
          record {
            wire = r.1;
            facts = subst WireFacts now (act_facts a s.wire s.facts);
            rest = subst (λ (z : Wire NumberedPacket). z.put ≡ z.handed ++ link) now (act_put a s.wire ∙ s.rest ∙ ap (λ es. es ++ link) (sym (act_handed a s.wire)));
            kept = refl;
            without = refl;
          },
        )

-- the links after an event of the machine

-- these links with more behind each, and these wires
abbrev Grown : {S : Type 0} → List (Pair × List NumberedPacket) → Option KeptWires → MachineActed S → Type 0
Grown before ws (M.Acts w m) = (m.wires ≡ ws) × ((k : Pair) → (more : List NumberedPacket) × (list_at pair_cmp k m.links ≡ list_at pair_cmp k before ++ more))
Grown before ws (M.Full k n) = Unit {0}
Grown before ws M.Nothing = Unit {0}

module _ {S : Type 0} (g : Language S) (l : Placement) where
  posted : (n : ℕ) (x : Option NumberedPacket) (links : List (Pair × List NumberedPacket)) (k : Pair)
      → (more : List NumberedPacket) × (list_at pair_cmp k (post_packet l n x links) ≡ list_at pair_cmp k links ++ more)
  posted n None links k = ([], sym (append-nil (list_at pair_cmp k links)))
  posted n (Some e) links k = by (decide_link k j)
    where
      j : Pair
      j = (n, next l n (goal_node e.packet))

      by : (k ≡ j) ⊎ (k ≢ j) → (more : List NumberedPacket) × (list_at pair_cmp k (push_list pair_cmp j e links) ≡ list_at pair_cmp k links ++ more)
      by (inl i) = (e ∷ [], subst (λ z. list_at pair_cmp z (push_list pair_cmp j e links) ≡ list_at pair_cmp z links ++ e ∷ []) (sym i) (pushed_here links j e))
      by (inr i) = ([], pushed_there links k j e i ∙ sym (append-nil (list_at pair_cmp k links)))

  node_grown : (n : ℕ) (m : Machine S) (a : NodeActed S) → Grown m.links m.wires (after_node l n m a)
  node_grown n m N.Idle = (refl, λ k. ([], sym (append-nil (list_at pair_cmp k m.links))))
  node_grown n m (N.Acts w packet x) = (refl, posted n packet m.links)
  node_grown n m (N.Full k) = tt
  node_grown n m N.Nothing = tt

  turn_grown : (q fresh : ℕ) (m : Machine S) (n : ℕ) (x : Option (NodeState S)) → Grown m.links m.wires (turn_in g l q fresh m n x)
  turn_grown q fresh m n None = tt
  turn_grown q fresh m n (Some x) = node_grown n m (turn_act g l q n (leaving m.links n) fresh x)

  come_grown : (m : Machine S) (b : ℕ) (e : NumberedPacket) (x : Option (NodeState S)) → Grown m.links m.wires (come g l m b e x)
  come_grown m b e None = tt
  come_grown m b e (Some x) = by (goal_node e.packet == b) (nat_lt l.cells (message_count x.slots + leaving m.links b + 1))
    where
      by : (t u : Bool) → Grown m.links m.wires (if t then after_node l b m (receipt_act g l b (leaving m.links b) e x)
          else (if u then M.Full F.Cells b else M.Acts Wt.Pass (record m { links = post_packet l b (Some e) m.links })))
      by true u = node_grown b m (receipt_act g l b (leaving m.links b) e x)
      by false true = tt
      by false false = (refl, posted b (Some e) m.links)

-- the delay's links after an event and the machine's have the same more
cancel : {X : Type 0} (xs ys zs : List X) → xs ++ ys ≡ xs ++ zs → ys ≡ zs
cancel [] ys zs h = h
cancel (x ∷ xs) ys zs h = cancel xs ys zs (let q : xs ++ ys ≡ xs ++ zs = cc in q)

module _ {S : Type 0} (g : Language S) (l : Placement) where
  -- what stands for the delay does not look at wires
  rewired : (m : Machine S) (c : Config S) (d : Delay) (o : Option KeptWires) (ws : Option Wires) → MachineStandsFor g l m c d → MachineStandsFor g l (record m { wires = o }) c (record d { wires = ws })
  rewired m c d o ws st = record {
    nodes = st.nodes;
    few = st.few;
    named = st.named;
    links = st.links;
    in_order = st.in_order;
    last = st.last;
    made = st.made;
    distinct = st.distinct;
    on_links = λ k. each_map _ _ (λ e f. fits_kept m (record m { wires = o }) e (λ q i. record { request = refl; goal = refl }) (λ q z. z) f) (list_at pair_cmp k m.links) (st.on_links k);
    in_mailboxes = st.in_mailboxes;
    in_callers = st.in_callers;
  }

-- after an event in which each link hands out its own head: what has entered the wires, and what is kept of them
module _ (before : List (Pair × List NumberedPacket)) (ls : List (Pair × Packet)) (same : (k : Pair) → packets (list_at pair_cmp k before) ≡ on_link ls k)
    (vs : KeptWires) (ws : Wires) (stand : (k : Pair) → WireStandsFor (kept_at vs k) (wire_at ws k) (list_at pair_cmp k before)) where
  entered_stand : (e : Delay) (links : List (Pair × List NumberedPacket)) (o : Option Wires) → Behind ls o e
      → ((k : Pair) → (more : List NumberedPacket) × (list_at pair_cmp k links ≡ list_at pair_cmp k before ++ more)) → ((k : Pair) → packets (list_at pair_cmp k links) ≡ on_link e.links k)
      → (k : Pair) → WireStandsFor (kept_at vs k) (wire_at (enter_all (drop (length ls) e.links) ws) k) (list_at pair_cmp k links)
  entered_stand e links o b grown after k =
      let more = (grown k).0 in
      let other : on_link e.links k ≡ on_link ls k ++ on_link b.0 k = ap (λ es. on_link es k) b.1 ∙ under-append (is_link k.0 k.1) ls b.0 in
      let is : packets more ≡ on_link b.0 k = cancel (packets (list_at pair_cmp k before)) (packets more) (on_link b.0 k)
      (sym (packets_join (list_at pair_cmp k before) more) ∙ ap packets (sym (grown k).1) ∙ after k ∙ other ∙ ap (λ xs. xs ++ on_link b.0 k) (sym (same k))) in
      subst (λ es. WireStandsFor (kept_at vs k) (wire_at (enter_all (drop (length ls) e.links) ws) k) es) (sym (grown k).1)
      (subst (λ w. WireStandsFor (kept_at vs k) w (list_at pair_cmp k before ++ more))
      (ap (λ ps. happened (enterings ps) (wire_at ws k)) is ∙ sym (enter_at ls b.0 (record e { links = ls }) e ws refl b.1 k))
      (enter_all_stand (kept_at vs k) (wire_at ws k) (list_at pair_cmp k before) more (stand k)))

-- the kept wires after one was changed
kept_same : (k : Pair) (v : KeptWire NumberedPacket) (vs : KeptWires) → kept_at (put pair_cmp k v vs) k ≡ v
kept_same k v vs = ap (λ o. unwrap_or o empty_kept) (find_pair_same k v vs)

kept_other : (j k : Pair) (v : KeptWire NumberedPacket) (vs : KeptWires) → j ≢ k → kept_at (put pair_cmp k v vs) j ≡ kept_at vs j
kept_other j k v vs n = ap (λ o. unwrap_or o empty_kept) (find_pair_other j k v vs n)

-- one wire changes, and the head of its link may leave
changed_stand : (vs : KeptWires) (ws : Wires) (k : Pair) (v : KeptWire NumberedPacket) (w : Wire Packet) (before after : List (Pair × List NumberedPacket))
    → ((j : Pair) → WireStandsFor (kept_at vs j) (wire_at ws j) (list_at pair_cmp j before)) → WireStandsFor v w (list_at pair_cmp k after) → ((j : Pair) → j ≢ k → list_at pair_cmp j after ≡ list_at pair_cmp j before)
    → (j : Pair) → WireStandsFor (kept_at (put pair_cmp k v vs) j) (wire_at (put pair_cmp k w ws) j) (list_at pair_cmp j after)
changed_stand vs ws k v w before after stand now others j = by (decide_link j k)
  where
    here : WireStandsFor (kept_at (put pair_cmp k v vs) k) (wire_at (put pair_cmp k w ws) k) (list_at pair_cmp k after)
    here = subst (λ z. WireStandsFor z (wire_at (put pair_cmp k w ws) k) (list_at pair_cmp k after)) (sym (kept_same k v vs))
        (subst (λ z. WireStandsFor v z (list_at pair_cmp k after)) (sym (at_same k w ws)) now)

    by : (j ≡ k) ⊎ (j ≢ k) → WireStandsFor (kept_at (put pair_cmp k v vs) j) (wire_at (put pair_cmp k w ws) j) (list_at pair_cmp j after)
    by (inl i) = subst (λ z. WireStandsFor (kept_at (put pair_cmp k v vs) z) (wire_at (put pair_cmp k w ws) z) (list_at pair_cmp z after)) (sym i) here
    by (inr i) = subst (λ z. WireStandsFor z (wire_at (put pair_cmp k w ws) j) (list_at pair_cmp j after)) (sym (kept_other j k v vs i))
        (subst (λ z. WireStandsFor (kept_at vs j) z (list_at pair_cmp j after)) (sym (at_other j k w ws i)) (subst (WireStandsFor (kept_at vs j) (wire_at ws j)) (sym (others j i)) (stand j)))

module _ {S : Type 0} (g : Language S) (l : Placement) where
  -- where nothing is a wire
  none_agrees : (before : List (Pair × List NumberedPacket)) (ls : List (Pair × Packet)) (x : MachineActed S) (y : Acted S) → Agrees g l x y → Grown before None x → PutsBehind ls None y → AgreesOn g l x y
  none_agrees before ls (M.Acts w m) (A.Acts v c d) h n b = (
    h.0,
    record {
      state = h.1;
      wires = subst (λ o. WiresStandFor o d.wires m.links) (sym n.0) (subst (λ o. WiresStandFor None o m.links) (sym b.2) tt);
    },
  )
  none_agrees before ls (M.Full j b) (A.Full k n) h p q = h
  none_agrees before ls (M.Acts w m) (A.Full k n) h p q = absurd h
  none_agrees before ls (M.Acts w m) A.Nothing h p q = absurd h
  none_agrees before ls (M.Full j b) (A.Acts v c d) h p q = absurd h
  none_agrees before ls (M.Full j b) A.Nothing h p q = absurd h
  none_agrees before ls M.Nothing y h p q = absurd h

  -- where wires are these before what entered them is added
  wires_agree : (before : List (Pair × List NumberedPacket)) (ls : List (Pair × Packet)) (vs : KeptWires) (ws : Wires) (o : Option Wires) (u : Option KeptWires)
      → ((k : Pair) → packets (list_at pair_cmp k before) ≡ on_link ls k) → ((k : Pair) → WireStandsFor (kept_at vs k) (wire_at ws k) (list_at pair_cmp k before))
      → (x : MachineActed S) (y : Acted S) → Agrees g l x y → Grown before u x → PutsBehind ls o y → AgreesOn g l (with_kept vs x) (on_wires ls ws y)
  wires_agree before ls vs ws o u same stand (M.Acts w m) (A.Acts v c d) h n b = (
    h.0,
    record {
      state = rewired g l m c d (Some vs) (Some (enter_all (drop (length ls) d.links) ws)) h.1;
      wires = entered_stand before ls same vs ws stand d m.links o b n.1 h.1.links;
    },
  )
  wires_agree before ls vs ws o u same stand (M.Full j b) (A.Full k n) h p q = h
  wires_agree before ls vs ws o u same stand (M.Acts w m) (A.Full k n) h p q = absurd h
  wires_agree before ls vs ws o u same stand (M.Acts w m) A.Nothing h p q = absurd h
  wires_agree before ls vs ws o u same stand (M.Full j b) (A.Acts v c d) h p q = absurd h
  wires_agree before ls vs ws o u same stand (M.Full j b) A.Nothing h p q = absurd h
  wires_agree before ls vs ws o u same stand M.Nothing y h p q = absurd h

  -- the machine keeps its wires in a turn
  kept_so : (before : List (Pair × List NumberedPacket)) (vs : KeptWires) (x : MachineActed S) → Grown before (Some vs) x → with_kept vs x ≡ x
  kept_so before vs (M.Acts w m) n = ap (λ o. M.Acts w (record m { wires = o })) (sym n.0)
  kept_so before vs (M.Full k b) n = refl
  kept_so before vs M.Nothing n = refl

module _ {S : Type 0} (g : Language S) (W : Config S → Type 0) (law : Lawful g W) (req : Requests g W) (l : Placement) (few : l.objects < 65536)
    (m : Machine S) (c : Config S) (d : Delay) (sound : IsSound g W l c d) (st : MachineStandsFor g l m c d) (q fresh : ℕ) where
  link_before : (a b : ℕ) (e : NumberedPacket) (rest : List NumberedPacket) → list_at pair_cmp (a, b) m.links ≡ e ∷ rest → Grown (put_list pair_cmp (a, b) rest m.links) m.wires (plain_machine_act g l q fresh m (Ev.Link a b))
  link_before a b e rest h = subst (λ es. Grown (put_list pair_cmp (a, b) rest m.links) m.wires (move_in g l m a b es)) (sym h)
      (come_grown g l (record m { links = put_list pair_cmp (a, b) rest m.links }) b e (slice_get m.nodes b))

  link_puts : (a b : ℕ) (x : Packet) → first_of (on_link d.links (a, b)) ≡ Some x → PutsBehind (move_head (a, b) d.links) d.wires (plain_act g l q c d (Ev.Link a b))
  link_puts a b x h = subst (λ o. PutsBehind (move_head (a, b) d.links) d.wires (link_move g l c d a b o)) (sym h) (move_enters g l c d a b x)

  none_event : (e : Event) → IsOfMesh l e → IsFresh m fresh e → m.wires ≡ None → d.wires ≡ None → AgreesOn g l (plain_machine_act g l q fresh m e) (plain_act g l q c d e)
  none_event (Ev.Turn n) inside is_fresh i j =
      none_agrees g l m.links d.links _ _ (plain_agrees g W law req l few m c d sound st q fresh (Ev.Turn n) inside is_fresh)
      (subst (λ o. Grown m.links o (plain_machine_act g l q fresh m (Ev.Turn n))) i (turn_grown g l q fresh m n (slice_get m.nodes n)))
      (subst (λ o. PutsBehind d.links o (plain_act g l q c d (Ev.Turn n))) j (turn_enters g l q c d n (turn_of g c d n)))
  none_event (Ev.Wire w a b) inside is_fresh i j =
      (refl, record { state = st; wires = subst (λ o. WiresStandFor o d.wires m.links) (sym i) (subst (λ o. WiresStandFor None o m.links) (sym j) tt) })
  none_event (Ev.Link a b) inside is_fresh i j = by (list_at pair_cmp (a, b) m.links) refl
    where
      agrees : Agrees g l (plain_machine_act g l q fresh m (Ev.Link a b)) (plain_act g l q c d (Ev.Link a b))
      agrees = plain_agrees g W law req l few m c d sound st q fresh (Ev.Link a b) inside is_fresh

      by : (es : List NumberedPacket) → list_at pair_cmp (a, b) m.links ≡ es → AgreesOn g l (plain_machine_act g l q fresh m (Ev.Link a b)) (plain_act g l q c d (Ev.Link a b))
      by [] h =
          let z : on_link d.links (a, b) ≡ [] = sym (st.links (a, b)) ∙ ap packets h in
          subst (λ es. AgreesOn g l (move_in g l m a b es) (plain_act g l q c d (Ev.Link a b))) (sym h)
          (subst (λ ps. AgreesOn g l (M.Acts Wt.Idle m) (link_move g l c d a b (first_of ps))) (sym z)
          (refl, record { state = st; wires = subst (λ o. WiresStandFor o d.wires m.links) (sym i) (subst (λ o. WiresStandFor None o m.links) (sym j) tt) }))
      by (e ∷ rest) h =
          none_agrees g l (put_list pair_cmp (a, b) rest m.links) (move_head (a, b) d.links) _ _ agrees
          (subst (λ o. Grown (put_list pair_cmp (a, b) rest m.links) o (plain_machine_act g l q fresh m (Ev.Link a b))) i (link_before a b e rest h))
          (subst (λ o. PutsBehind (move_head (a, b) d.links) o (plain_act g l q c d (Ev.Link a b))) j (link_puts a b e.packet (is_head m.links d.links st.links (a, b) e rest h)))

  module _ (vs : KeptWires) (ws : Wires) (i : m.wires ≡ Some vs) (j : d.wires ≡ Some ws) (stand : (k : Pair) → WireStandsFor (kept_at vs k) (wire_at ws k) (list_at pair_cmp k m.links)) where
    as_it_is : StandsFor g l m c d
    as_it_is = record { state = st; wires = subst (λ o. WiresStandFor o d.wires m.links) (sym i) (subst (λ o. WiresStandFor (Some vs) o m.links) (sym j) stand) }

    some_event : (e : Event) → IsOfMesh l e → IsFresh m fresh e → AgreesOn g l (machine_act_over g l q fresh m (Some vs) e) (act_over g l q c d (Some ws) e)
    some_event (Ev.Turn n) inside is_fresh =
        let grown = turn_grown g l q fresh m n (slice_get m.nodes n) in
        subst (λ x. AgreesOn g l x (on_wires d.links ws (plain_act g l q c d (Ev.Turn n))))
        (kept_so g l m.links vs (plain_machine_act g l q fresh m (Ev.Turn n)) (subst (λ o. Grown m.links o (plain_machine_act g l q fresh m (Ev.Turn n))) i grown))
        (wires_agree g l m.links d.links vs ws d.wires m.wires st.links stand _ _ (plain_agrees g W law req l few m c d sound st q fresh (Ev.Turn n) inside is_fresh) grown
        (turn_enters g l q c d n (turn_of g c d n)))
    some_event (Ev.Link a b) inside is_fresh =
        subst (λ x. AgreesOn g l (kept_move g l m vs a b (kept_coming v)) (wire_move g l c d ws a b x)) (sym (coming_stands v w (list_at pair_cmp k m.links) (stand k))) (by (kept_coming v) refl)
      where
        k : Pair
        k = (a, b)

        v : KeptWire NumberedPacket
        v = kept_at vs (a, b)

        w : Wire Packet
        w = wire_at ws (a, b)

        by : (x : Coming NumberedPacket) → kept_coming v ≡ x → AgreesOn g l (kept_move g l m vs a b x) (wire_move g l c d ws a b (plain_coming x))
        by Empty h = (refl, as_it_is)
        by (Stale n) h = (
          refl,
          record {
            state = rewired g l m c d (Some (put pair_cmp (a, b) (kept_take v) vs)) (Some (put pair_cmp (a, b) (take w) ws)) st;
            wires = changed_stand vs ws (a, b) (kept_take v) (take w) m.links m.links stand (stale_stands v w (list_at pair_cmp (a, b) m.links) n (stand (a, b)) h) (λ z n. refl);
          },
        )
        by (Next e) h =
            let r = head_stands v w (list_at pair_cmp (a, b) m.links) e (stand (a, b)) h in
            wires_agree g l (put_list pair_cmp (a, b) r.0 m.links) (move_head (a, b) d.links) (put pair_cmp (a, b) (kept_take v) vs) (put pair_cmp (a, b) (take w) ws) d.wires m.wires
            (moved_links m.links d.links st.links (a, b) e r.0 r.1)
            (changed_stand vs ws (a, b) (kept_take v) (take w) m.links (put_list pair_cmp (a, b) r.0 m.links) stand
            (subst (WireStandsFor (kept_take v) (take w)) (sym (listed_here m.links (a, b) r.0)) r.2) (λ z n. listed_there m.links z (a, b) r.0 n)) _ _
            (plain_agrees g W law req l few m c d sound st q fresh (Ev.Link a b) inside is_fresh) (link_before a b e r.0 r.1) (link_puts a b e.packet (is_head m.links d.links st.links (a, b) e r.0 r.1))
    some_event (Ev.Wire z a b) inside is_fresh = by (kept_act z (list_at pair_cmp (a, b) m.links) (kept_at vs (a, b))) (wire_act z (wire_at ws (a, b))) (act_stands z (kept_at vs (a, b)) (wire_at ws (a, b)) (list_at pair_cmp (a, b) m.links) (stand (a, b)))
      where
        by : (r : Option (What × KeptWire NumberedPacket)) (p : Option (What × Wire Packet)) → SameResult r p (list_at pair_cmp (a, b) m.links) → AgreesOn g l (kept_turn m vs (a, b) r) (wire_turn c d ws (a, b) p)
        by None None h = (refl, as_it_is)
        by (Some r) (Some p) h = (
          h.0,
          record {
            state = rewired g l m c d (Some (put pair_cmp (a, b) r.1 vs)) (Some (put pair_cmp (a, b) p.1 ws)) st;
            wires = changed_stand vs ws (a, b) r.1 p.1 m.links m.links stand h.1 (λ z n. refl);
          },
        )
        by None (Some p) h = absurd h
        by (Some r) None h = absurd h

  -- every event
  pub event_agrees : WiresStandFor m.wires d.wires m.links → (e : Event) → IsOfMesh l e → IsFresh m fresh e → AgreesOn g l (machine_act g l q fresh m e) (act g l q c d e)
  event_agrees stand e inside is_fresh = by m.wires d.wires refl refl stand
    where
      by : (o : Option KeptWires) (p : Option Wires) → m.wires ≡ o → d.wires ≡ p → WiresStandFor o p m.links → AgreesOn g l (machine_act_over g l q fresh m o e) (act_over g l q c d p e)
      by None None i j h = none_event e inside is_fresh i j
      by (Some vs) (Some ws) i j h = some_event vs ws i j h e inside is_fresh
      by None (Some ws) i j h = absurd h
      by (Some vs) None i j h = absurd h

-- quiet, and the start

no_packets : (es : List NumberedPacket) → packets es ≡ [] → es ≡ []
no_packets [] h = refl
no_packets (e ∷ es) h = absurd (cc)

none_on : (links : List (Pair × List NumberedPacket)) → list_any (λ e. has_some e.1) links ≡ false → (k : Pair) → list_at pair_cmp k links ≡ []
none_on [] h k = refl
none_on (e ∷ links) h k = by e.1 refl (pair_cmp k e.0) refl (λ i. none_on links i k)
  where
    tail : (xs : List NumberedPacket) → e.1 ≡ xs → has_some xs ≡ false → list_any (λ e. has_some e.1) links ≡ false
    tail xs i j = subst (λ b. (b || list_any (λ e. has_some e.1) links) ≡ false) j (subst (λ ys. (has_some ys || list_any (λ e. has_some e.1) links) ≡ false) i h)

    by : (xs : List NumberedPacket) → e.1 ≡ xs → (r : Ordering) → pair_cmp k e.0 ≡ r → (list_any (λ e. has_some e.1) links ≡ false → list_at pair_cmp k links ≡ []) → list_at pair_cmp k (e ∷ links) ≡ []
    by (x ∷ xs) i r j rest = absurd (let q : (true || list_any (λ e. has_some e.1) links) ≡ false = subst (λ ys. (has_some ys || list_any (λ e. has_some e.1) links) ≡ false) i h in cc)
    by [] i Less j rest = rw j (rest (tail [] i refl))
    by [] i Greater j rest = rw j (rest (tail [] i refl))
    by [] i Equal j rest = rw j i

-- a wire on whose link nothing is
done_so : (v : KeptWire NumberedPacket) (w : Wire Packet) → WireStandsFor v w [] → is_done w ≡ (v.acked == v.handed)
done_so v w s =
    let put_is : length s.wire.put ≡ length s.wire.handed = ap length (s.rest ∙ append-nil s.wire.handed) in
    ap (λ (z : Wire Packet). z.acked == length z.put) (sym s.without) ∙ ap (λ n. s.wire.acked == n) (packets_length s.wire.put ∙ put_is) ∙ ap (λ (z : KeptWire NumberedPacket). z.acked == z.handed) s.kept

pub acknowledged_same : (o : Option KeptWires) (p : Option Wires) (links : List (Pair × List NumberedPacket)) → WiresStandFor o p links → list_any (λ e. has_some e.1) links ≡ false
    → are_acknowledged o ≡ is_acknowledged p
acknowledged_same None None links h e = refl
acknowledged_same None (Some ws) links h e = absurd h
acknowledged_same (Some vs) None links h e = absurd h
acknowledged_same (Some vs) (Some ws) links h e = same_bool _ _ forth back
  where
    same : (k : Pair) → is_done (wire_at ws k) ≡ ((kept_at vs k).acked == (kept_at vs k).handed)
    same k = done_so (kept_at vs k) (wire_at ws k) (subst (WireStandsFor (kept_at vs k) (wire_at ws k)) (none_on links e k) (h k))

    kept : are_acknowledged (Some vs) ≡ true → (k : Pair) → ((kept_at vs k).acked == (kept_at vs k).handed) ≡ true
    kept i k = by (find pair_cmp k vs) refl
      where
        by : (o : Option (KeptWire NumberedPacket)) → find pair_cmp k vs ≡ o → ((kept_at vs k).acked == (kept_at vs k).handed) ≡ true
        by None j = rw j refl
        by (Some v) j = tested (λ k. (kept_at vs k).acked == (kept_at vs k).handed) vs i k v j

    forth : are_acknowledged (Some vs) ≡ true → is_acknowledged (Some ws) ≡ true
    forth i = all_tested (λ k. is_done (wire_at ws k)) ws (λ k. same k ∙ kept i k)

    back : is_acknowledged (Some ws) ≡ true → are_acknowledged (Some vs) ≡ true
    back i = all_tested (λ k. (kept_at vs k).acked == (kept_at vs k).handed) vs
        (λ k. sym (same k) ∙ (let q = acknowledged_at ws k i in ap (λ n. n == length (wire_at ws k).put) q ∙ equals (length (wire_at ws k).put)))

-- with nothing on the way the wires are empty
empty_stands : (link : List NumberedPacket) → link ≡ [] → WireStandsFor empty_kept empty_wire link
empty_stands link h = subst (WireStandsFor empty_kept empty_wire) (sym h) (record { wire = empty_wire; facts = facts_empty; rest = refl; kept = refl; without = refl })

module _ {S : Type 0} (g : Language S) (l : Placement) where
  -- the start of a machine, where the start without wires stands for the start
  pub starts_on_wires : (m : Machine S) (c : Config S) → MachineStandsFor g l m c no_delay → StandsFor g l (record m { wires = Some [] }) c no_delay_on_wires
  starts_on_wires m c st = record {
    state = rewired g l m c no_delay (Some []) (Some []) st;
    wires = λ k. empty_stands (list_at pair_cmp k m.links) (no_packets (list_at pair_cmp k m.links) (st.links k));
  }
