-- The packets that entered a wire are those handed out and those on its link. At most one enters in an event, so there
-- are at most as many as events.
use Rattle.std.proofs.Common.{◌≡◌, ◌≢◌, ◌⊎◌, inl, inr, refl, sym, ap, ap₂, subst, ◌∙◌, ℕ, ◌+◌, ◌-◌, ◌<◌, ◌≤◌, ◌==◌, List, [], ◌∷◌, length, map, Option, Some, None, is_some, Bool, true, false, if◌then◌else◌, nat_lt, arith}
use Rattle.std.specs.Prelude.{slice_get}
use Rattle.std.specs.FinMap.{put}
use Rattle.std.specs.Option.{unwrap_or}
use Rattle.std.proofs.lemmas.List.{length-append, length-map}
use Rattle.run_types.specs.declared.types.Event.{Event}
use Rattle.run_types.specs.declared.types.Event.TheVariants as Ev
use Rattle.run_types.specs.declared.types.What.{What}
use Rattle.run_types.specs.declared.types.WireAct.{WireAct}
use Rattle.run_types.specs.declared.types.WireAct.TheVariants as A
use Rattle.run_types.specs.declared.types.FullKind.TheVariants as F
use Rattle.run_types.specs.declared.types.What.TheVariants as W
use Rattle.run_types.specs.declared.types.Placement.{Placement}
use Rattle.code_semantics.specs.declared.unit.Unit.{Unit as Code}
use Rattle.mesh_semantics.specs.Act.{goal_node}
use Rattle.mesh_semantics.specs.Delay.{Wires}
use Rattle.mesh_semantics.specs.NumberedPackets.{NumberedPacket}
use Rattle.mesh_semantics.specs.Language.{Language}
use Rattle.run_types.specs.Paths.{next}
use Rattle.run_types.specs.Tables.{Pair, list_at, pair_cmp, put_list}
use Rattle.run_types.specs.LinkTables.{push_list, leaving}
use Rattle.mesh_semantics.specs.Wire.{Coming, Empty, Stale, Next, Frame, twice, frame_number, ack_number, lose, late, greater}
use Rattle.mesh_semantics.specs.KeptWire.{KeptWire, empty_kept, with_fresh, fresh_in, kept_act, kept_coming, kept_hear_number, kept_launch, kept_send_number, kept_take, kept_take_frame, kept_wanted, with_kept_acks, with_kept_frames}
use Rattle.run_types.proofs.Laws.{find_pair_other, find_pair_same, listed_here, listed_there, pushed_here, pushed_there}
use Rattle.node_semantics.specs.Node as N
use Rattle.node_semantics.specs.Node.{NodeActed, NodeState, message_count, receipt_act, turn_act}
use Rattle.node_semantics.specs.Machine as M
use Rattle.node_semantics.specs.Machine.{KeptWires, Machine, MachineActed, after_node, come, kept_at, kept_move, kept_turn, machine_act, move_in, post_packet, turn_in, with_kept}
use Rattle.node_semantics.specs.WiresStandFor.{WiresStandFor}
use Rattle.node_semantics.proofs.Laws.{decide_link}
use Rattle.mesh_of_code.specs.Coded.{coded}
use Rattle.rendezvous_protocol.specs.declared.packet.Packet.{Packet}
use Rattle.rendezvous_protocol.specs.Packets.{numbered}
use Rattle.mesh_routing.specs.Links.{LinksOf}
use Rattle.node_state.specs.NodeOf.{NodeOf}
use Rattle.machine_network.specs.LinkWires.{LinkWires, numbered_link, numbered_wires, entered_at, wire_of}
use Rattle.machine_network.specs.MachineOn.{machine_on}
use Rattle.machine_network.proofs.Laws.{list_numbered, kept_numbered}
use Rattle.pool_machine.specs.Parts.{machine_from}
use Rattle.pool_machine.specs.OnWires.{WiredMachineInvariant, EachEntered}
use Rattle.pool_machine.proofs.EventsOnWires.{kept_twice, move_same, turn_same}

-- what an event hands out of a wire

module _ {X : Type 0} where
  taken_handed : (v : KeptWire X) → (kept_take v).handed ≤ v.handed + 1
  taken_handed v = by v.frames
    where
      on : (b : Bool) → (if b then v.handed + 1 else v.handed) ≤ v.handed + 1
      on true = omega arith
      on false = omega arith

      by : (fs : List (Frame X)) → (kept_take_frame fs v).handed ≤ v.handed + 1
      by [] = omega arith
      by (f ∷ fs) = on (f.0 == v.handed)

  abbrev HandsNothing : KeptWire X → Option (What × KeptWire X) → Type 0
  HandsNothing v None = Unit {0}
  HandsNothing v (Some r) = r.1.handed ≡ v.handed

  frames_handed : (v : KeptWire X) (r : Option (What × List (Frame X))) → HandsNothing v (with_kept_frames v r)
  frames_handed v None = tt
  frames_handed v (Some r) = refl

  acks_handed : (v : KeptWire X) (r : Option (What × List ℕ)) → HandsNothing v (with_kept_acks v r)
  acks_handed v None = tt
  acks_handed v (Some r) = refl

  act_handed : (a : WireAct) (rest : List X) (v : KeptWire X) → HandsNothing v (kept_act a rest v)
  act_handed A.Send rest v = by (kept_wanted v (v.handed + length rest))
    where
      on : (n : ℕ) (x : Option X) (u : KeptWire X) → (kept_launch n x u).1.handed ≡ u.handed
      on n None u = refl
      on n (Some x) u = refl

      by : (n : Option ℕ) → HandsNothing v (kept_send_number n rest v)
      by None = tt
      by (Some n) = let cs = with_fresh (fresh_in n v rest) v.copies in on n (slice_get cs (n - v.acked)) (record v { next = n + 1; sent = greater v.sent (n + 1); copies = cs })
  act_handed A.Ack rest v = by v.acks
    where
      by : (ns : List ℕ) → HandsNothing v (kept_hear_number ns v)
      by [] = tt
      by (n ∷ ns) = refl
  act_handed A.Lose rest v = frames_handed v (lose frame_number v.frames)
  act_handed A.Twice rest v = frames_handed v (twice frame_number v.frames)
  act_handed A.Late rest v = frames_handed v (late frame_number v.frames)
  act_handed A.LoseAck rest v = acks_handed v (lose ack_number v.acks)
  act_handed A.TwiceAck rest v = acks_handed v (twice ack_number v.acks)
  act_handed A.LateAck rest v = acks_handed v (late ack_number v.acks)

-- what an event puts on links

abbrev Links : Type 0
Links = List (Pair × List NumberedPacket)

abbrev on : Links → Pair → ℕ
on links k = length (list_at pair_cmp k links)

-- no link has more packets than that
abbrev Bounds : {S : Type 0} → (Pair → ℕ) → MachineActed S → Type 0
Bounds most (M.Acts w m) = (k : Pair) → on m.links k ≤ most k
Bounds most (M.Full kind n) = Unit {0}
Bounds most M.Nothing = Unit {0}

module _ {S : Type 0} (g : Language S) (l : Placement) where
  posted : (n : ℕ) (x : Option NumberedPacket) (links : Links) (k : Pair) → on (post_packet l n x links) k ≤ on links k + 1
  posted n None links k = omega arith
  posted n (Some e) links k = by (decide_link k j)
    where
      j : Pair
      j = (n, next l n (goal_node e.packet))

      by : (k ≡ j) ⊎ (k ≢ j) → on (push_list pair_cmp j e links) k ≤ on links k + 1
      by (inl i) =
          subst (λ z. on (push_list pair_cmp j e links) z ≤ on links z + 1) (sym i)
          (let a = ap length (pushed_here links j e) in let b = length-append (list_at pair_cmp j links) (e ∷ []) in omega (arith, a, b))
      by (inr i) = let a = ap length (pushed_there links k j e i) in omega (arith, a)

  node_bounds : (n : ℕ) (m : Machine S) (a : NodeActed S) → Bounds (λ k. on m.links k + 1) (after_node l n m a)
  node_bounds n m N.Idle = λ k. omega arith
  node_bounds n m (N.Acts w packet x) = posted n packet m.links
  node_bounds n m (N.Full k) = tt
  node_bounds n m N.Nothing = tt

  turn_bounds : (q fresh : ℕ) (m : Machine S) (n : ℕ) (x : Option (NodeState S)) → Bounds (λ k. on m.links k + 1) (turn_in g l q fresh m n x)
  turn_bounds q fresh m n None = tt
  turn_bounds q fresh m n (Some x) = node_bounds n m (turn_act g l q n (leaving m.links n) fresh x)

  come_bounds : (m : Machine S) (b : ℕ) (e : NumberedPacket) (x : Option (NodeState S)) → Bounds (λ k. on m.links k + 1) (come g l m b e x)
  come_bounds m b e None = tt
  come_bounds m b e (Some x) = by (goal_node e.packet == b) (nat_lt l.cells (message_count x.slots + leaving m.links b + 1))
    where
      by : (t u : Bool) → Bounds (λ k. on m.links k + 1) (if t then after_node l b m (receipt_act g l b (leaving m.links b) e x)
          else (if u then M.Full F.Cells b else M.Acts W.Pass (record m { links = post_packet l b (Some e) m.links })))
      by true u = node_bounds b m (receipt_act g l b (leaving m.links b) e x)
      by false true = tt
      by false false = posted b (Some e) m.links

  -- how many entered each wire, after an event

  abbrev entered : KeptWires → Links → Pair → ℕ
  entered vs links k = (kept_at vs k).handed + on links k

  abbrev GrowsTo : (Pair → ℕ) → Option KeptWires → Links → Type 0
  GrowsTo before None links = Unit {0}
  GrowsTo before (Some vs) links = (k : Pair) → entered vs links k ≤ before k + 1

  abbrev Grows : (Pair → ℕ) → MachineActed S → Type 0
  Grows before (M.Acts w m) = GrowsTo before m.wires m.links
  Grows before (M.Full kind n) = Unit {0}
  Grows before M.Nothing = Unit {0}

  grown : (vs : KeptWires) (before most : Pair → ℕ) → ((k : Pair) → (kept_at vs k).handed + most k ≤ before k + 1) → (t : MachineActed S) → Bounds most t → Grows before (with_kept vs t)
  grown vs before most h (M.Acts w m) b = λ k. let x = h k in let y = b k in omega (arith, x, y)
  grown vs before most h (M.Full kind n) b = tt
  grown vs before most h M.Nothing b = tt

  kept_here : (k : Pair) (v : KeptWire NumberedPacket) (vs : KeptWires) → kept_at (put pair_cmp k v vs) k ≡ v
  kept_here k v vs = ap (λ o. unwrap_or o empty_kept) (find_pair_same k v vs)

  kept_there : (j k : Pair) (v : KeptWire NumberedPacket) (vs : KeptWires) → j ≢ k → kept_at (put pair_cmp k v vs) j ≡ kept_at vs j
  kept_there j k v vs n = ap (λ o. unwrap_or o empty_kept) (find_pair_other j k v vs n)

  module _ (m : Machine S) (vs : KeptWires) where
    -- one wire has handed out one more or none, and its link has as many less
    changed : (k : Pair) (v : KeptWire NumberedPacket) (most : Pair → ℕ) → v.handed + most k ≤ entered vs m.links k + 1 → ((j : Pair) → j ≢ k → most j ≤ on m.links j + 1)
        → (j : Pair) → (kept_at (put pair_cmp k v vs) j).handed + most j ≤ entered vs m.links j + 1
    changed k v most here there j = by (decide_link j k)
      where
        by : (j ≡ k) ⊎ (j ≢ k) → (kept_at (put pair_cmp k v vs) j).handed + most j ≤ entered vs m.links j + 1
        by (inl i) =
            subst (λ z. (kept_at (put pair_cmp k v vs) z).handed + most z ≤ entered vs m.links z + 1) (sym i)
            (subst (λ (w : KeptWire NumberedPacket). w.handed + most k ≤ entered vs m.links k + 1) (sym (kept_here k v vs)) here)
        by (inr n) =
            subst (λ (w : KeptWire NumberedPacket). w.handed + most j ≤ entered vs m.links j + 1) (sym (kept_there j k v vs n)) (let a = there j n in omega (arith, a))

    abbrev wired : Machine S
    wired = record m { wires = Some vs }

    turn_grows : (q fresh n : ℕ) (x : Option (NodeState S)) → Grows (entered vs m.links) (turn_in g l q fresh (record m { wires = Some vs }) n x)
    turn_grows q fresh n x =
        subst (Grows (entered vs m.links)) (sym (turn_same g l vs q fresh m n x))
        (grown vs (entered vs m.links) (λ k. on m.links k + 1) (λ k. omega arith) (turn_in g l q fresh m n x) (turn_bounds q fresh m n x))

    move_grows : (a b : ℕ) (x : Coming NumberedPacket) → Grows (entered vs m.links) (kept_move g l (record m { wires = Some vs }) vs a b x)
    move_grows a b Empty = λ k. omega arith
    move_grows a b (Stale n) =
        changed (a, b) (kept_take (kept_at vs (a, b))) (on m.links) (let h = taken_handed (kept_at vs (a, b)) in omega (arith, h)) (λ j n. omega arith)
    move_grows a b (Next e) =
        subst (λ t. Grows (entered vs m.links) t) (sym (kept_twice g l vs us (move_in g l m a b es)) ∙ ap (with_kept us) (sym (move_same g l vs m a b es))) (by es refl)
      where
        es : List NumberedPacket
        es = list_at pair_cmp (a, b) m.links

        us : KeptWires
        us = put pair_cmp (a, b) (kept_take (kept_at vs (a, b))) vs

        by : (ys : List NumberedPacket) → list_at pair_cmp (a, b) m.links ≡ ys → Grows (entered vs m.links) (with_kept us (move_in g l m a b ys))
        by [] i = changed (a, b) (kept_take (kept_at vs (a, b))) (on m.links) (let h = taken_handed (kept_at vs (a, b)) in omega (arith, h)) (λ j n. omega arith)
        by (y ∷ ys) i =
            let links = put_list pair_cmp (a, b) ys m.links in
            grown us (entered vs m.links) (λ k. on links k + 1)
            (changed (a, b) (kept_take (kept_at vs (a, b))) (λ k. on links k + 1)
            (let h = taken_handed (kept_at vs (a, b)) in let p = ap length (listed_here m.links (a, b) ys) in let q = ap length i in omega (arith, h, p, q))
            (λ j n. let p = ap length (listed_there m.links j (a, b) ys n) in omega (arith, p)))
            (come g l (record m { links = links }) b y (slice_get m.nodes b)) (come_bounds (record m { links = links }) b y (slice_get m.nodes b))

    wire_grows : (k : Pair) (r : Option (What × KeptWire NumberedPacket)) → HandsNothing (kept_at vs k) r → Grows (entered vs m.links) (kept_turn (record m { wires = Some vs }) vs k r)
    wire_grows k None h = λ j. omega arith
    wire_grows k (Some r) h = changed k r.1 (on m.links) (let e : r.1.handed ≡ (kept_at vs k).handed = h in omega (arith, e)) (λ j n. omega arith)

    event_grows : (q fresh : ℕ) (e : Event) → Grows (entered vs m.links) (machine_act g l q fresh (record m { wires = Some vs }) e)
    event_grows q fresh (Ev.Turn n) = turn_grows q fresh n (slice_get m.nodes n)
    event_grows q fresh (Ev.Link a b) = move_grows a b (kept_coming (kept_at vs (a, b)))
    event_grows q fresh (Ev.Wire w a b) = wire_grows (a, b) (kept_act w (list_at pair_cmp (a, b) m.links) (kept_at vs (a, b))) (act_handed w (list_at pair_cmp (a, b) m.links) (kept_at vs (a, b)))

-- the same of a machine's links and wires

entered_same : (ws : LinkWires) (links : List (Pair × List Packet)) (k : Pair) → (kept_at (numbered_wires ws) k).handed + length (list_at pair_cmp k (map numbered_link links)) ≡ entered_at ws links k
entered_same ws links k =
    ap₂ (λ a b. a + b) (ap (λ (v : KeptWire NumberedPacket). v.handed) (kept_numbered k ws))
    (ap length (list_numbered k links) ∙ length-map (list_at pair_cmp k links) numbered)

module _ (u : Code) (l : Placement) (nodes nodes' : List NodeOf) (k k' : LinksOf Packet) (q fresh : ℕ) (e : Event) (what : What) where
  pub entered_more : (ws ws' : Option LinkWires) → is_some ws' ≡ is_some ws → machine_act (coded u) l q fresh (machine_on nodes k.links ws) e ≡ M.Acts what (machine_on nodes' k'.links ws')
      → (most : ℕ) → EachEntered (λ n. n ≤ most) ws k.links → EachEntered (λ n. n ≤ most + 1) ws' k'.links
  entered_more None None s h most below = tt
  entered_more (Some ws) None s h most below = tt
  entered_more None (Some ws') s h most below = absurd (cc)
  entered_more (Some ws) (Some ws') s h most below = λ j.
      let g = subst (Grows (coded u) l (λ i. (kept_at (numbered_wires ws) i).handed + length (list_at pair_cmp i (map numbered_link k.links)))) h
      (event_grows (coded u) l (machine_from nodes k.links) (numbered_wires ws) q fresh e) in
      let a = g j in let b = below j in let c = entered_same ws k.links j in let d = entered_same ws' k'.links j in omega (arith, a, b, c, d)

pub entered_below : (most top : ℕ) (ws : Option LinkWires) (links : List (Pair × List Packet)) → most < top → EachEntered (λ n. n ≤ most) ws links → EachEntered (λ n. n < top) ws links
entered_below most top None links h below = tt
entered_below most top (Some ws) links h below = λ j. let b = below j in omega (arith, b, h)

-- what was sent has entered, and what was handed out was sent
module _ (u : Code) (l : Placement) (nodes : List NodeOf) (k : LinksOf Packet) (ws : LinkWires) (kept : WiredMachineInvariant u l nodes k (Some ws)) (j : Pair) where
  stands_at : (o : Option Wires) → WiresStandFor (Some (numbered_wires ws)) o (map numbered_link k.links)
      → ((kept_at (numbered_wires ws) j).handed ≤ (kept_at (numbered_wires ws) j).sent) × ((kept_at (numbered_wires ws) j).sent ≤ (kept_at (numbered_wires ws) j).handed + length (list_at pair_cmp j (map numbered_link k.links)))
  stands_at None h = absurd h
  stands_at (Some vs) h =
      let s = h j in
      let a = s.facts.handed in let b = s.facts.sent in let c = ap length s.rest ∙ length-append s.wire.handed (list_at pair_cmp j (map numbered_link k.links)) in
      subst (λ (v : KeptWire NumberedPacket). (v.handed ≤ v.sent) × (v.sent ≤ v.handed + length (list_at pair_cmp j (map numbered_link k.links)))) s.kept (a, omega (arith, b, c))

  pub sent_within : ((wire_of ws j).handed ≤ (wire_of ws j).sent) × ((wire_of ws j).sent ≤ entered_at ws k.links j)
  sent_within =
      let s = stands_at kept.delay.wires kept.stands.wires in
      let r = subst (λ (v : KeptWire NumberedPacket). (v.handed ≤ v.sent) × (v.sent ≤ v.handed + length (list_at pair_cmp j (map numbered_link k.links)))) (kept_numbered j ws) s in
      (r.0, subst (λ n. (wire_of ws j).sent ≤ (wire_of ws j).handed + n) (ap length (list_numbered j k.links) ∙ length-map (list_at pair_cmp j k.links) numbered) r.1)
