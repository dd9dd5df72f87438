-- Steps in any order, in which each packet that is handed out is the one that entered with its number: each is nothing
-- or one act of the machine over links without wires, if its nodes have enough cells.
use Rattle.std.proofs.Common.{◌≡◌, refl, sym, ap, subst, ◌∙◌, ℕ, ◌+◌, ◌*◌, ◌≤◌, ◌<◌, ◌==◌, List, [], ◌∷◌, ◌++◌, Option, Some, None, Bool, true, false, ◌-◌, if◌then◌else◌, nat_lt, nat_le, ◌&&◌, length, arith}
use Rattle.std.specs.Prelude.{slice_get, drop}
use Rattle.run_types.specs.declared.types.What.{What}
use Rattle.run_types.specs.declared.types.What.TheVariants as W
use Rattle.run_types.specs.declared.types.Event.TheVariants as Ev
use Rattle.run_types.specs.declared.types.FullKind.TheVariants as F
use Rattle.run_types.specs.declared.types.Placement.{Placement}
use Rattle.run_types.specs.Tables.{Pair, pair_cmp, list_at, put_list}
use Rattle.run_types.specs.LinkTables.{leaving}
use Rattle.run_types.proofs.Laws.{equal, same_some}
use Rattle.mesh_semantics.specs.Language.{Language}
use Rattle.mesh_semantics.specs.Act.{goal_node}
use Rattle.mesh_semantics.specs.NumberedPackets.{NumberedPacket}
use Rattle.node_semantics.specs.Node as N
use Rattle.node_semantics.specs.Node.{NodeState, NodeActed, set_at, message_count, packet_count, turn_act, receipt_act}
use Rattle.node_semantics.specs.Machine as M
use Rattle.node_semantics.specs.Machine.{Machine, MachineActed, after_node, come, machine_act, machine_act_over, move_in, post_packet, turn_in}
use Rattle.node_semantics.specs.Agrees.{IsUnused}
use Rattle.node_semantics.proofs.Laws.{set_set, set_same}
use Rattle.station_semantics.specs.Station.{Frame, Data, Ack, Station, Input, Turn, Wait, Comes, Silent, Line, Full, Answer, acknowledges, after_act, count_at, counted, data_comes, handed_out, heard, plain_answer, put_count, unchanged, with_sent}
use Rattle.station_semantics.specs.Whole.{Whole, Step, Logged, IsUnusedAt, Makes, after_answer, after_input, after_step, after_steps, from_node, logged, merged, told_by}
use Rattle.station_semantics.specs.Fits.{node_in, Puts}
use Rattle.station_semantics.specs.AnyOrder.{Agrees, AreRight, IsRight, entered_after, entered_by, with_cells}
use Rattle.station_semantics.proofs.Busy.{turn_busy, link_busy}
use Rattle.station_semantics.proofs.Changes.{with_station, handed_before, nodes_set, nodes_kept, place_below}
use Rattle.station_semantics.proofs.LooseActs.{not_full, receipt_loose, turn_loose}
use Rattle.station_semantics.proofs.LooseChanges as C

-- frames are not looked at
resent : {S : Type 0} (l : Placement) (w : Whole S) (m : Machine S) (puts : Puts) (sent : List (Pair × Frame)) → Agrees l w m puts → Agrees l (record w { sent = sent }) m puts
resent l w m puts sent f = record { size = f.size; plain = f.plain; nodes = f.nodes; on_links = f.on_links; handed = f.handed; from = f.from }

module _ {S : Type 0} (g : Language S) (l : Placement) (q : ℕ) where
  -- after a step the machine has made the lines, if its nodes have enough cells, and agrees again
  abbrev Loose : Machine S → List Logged → Whole S → Puts → Type 0
  Loose m lines w' puts' = (most : ℕ) × (m' : Machine S) × ((cells : ℕ) → most ≤ cells → Makes g (with_cells l cells) q m lines m') × Agrees l w' m' puts'

  module _ (w : Whole S) (m : Machine S) (puts : Puts) (f : Agrees l w m puts) (n : ℕ) (s : Station S) (is : slice_get w.stations n ≡ Some s) where
    node : slice_get m.nodes n ≡ Some s.node
    node = f.nodes n ∙ ap node_in is

    inside : n < l.width * l.height
    inside = let h = place_below n w.stations s is in let k = f.size in omega (arith, h, k)

    -- nothing is told, and neither the node nor the counts change
    silent : (s' : Station S) (frames : List (ℕ × Frame)) → s'.node ≡ s.node → s'.handed ≡ s.handed → Loose m [] (after_answer w n (record { told = Silent; posted = None; frames = frames; station = s' })) puts
    silent s' frames e h = (0, m, λ cells k. refl, resent l (with_station w n s') m puts (w.sent ++ from_node n frames) (C.same_agrees l w m puts f n s is s' e h))

    same : Loose m [] (after_answer w n (unchanged Silent s)) puts
    same = silent s [] refl refl

    turn_step : (fresh : ℕ) → IsUnused fresh s.node → (a : NodeActed S) → turn_act g l q n (leaving s.links n) fresh s.node ≡ a
        → Loose m (logged (after_act l n (Ev.Turn n) [] s s a).told) (after_answer w n (after_act l n (Ev.Turn n) [] s s a)) (post_packet l n (after_act l n (Ev.Turn n) [] s s a).posted puts)
    turn_step fresh unused N.Idle e = same
    turn_step fresh unused (N.Full k) e = same
    turn_step fresh unused N.Nothing e = same
    turn_step fresh unused (N.Acts v p x) e = (
      message_count x.slots + leaving m.links n + packet_count p,
      m',
      λ cells room. (
        m',
        record {
          fresh = fresh;
          unused = λ y i. subst (IsUnused fresh) (same_some (sym node ∙ i)) unused;
          inside = inside;
          busy = turn_busy g l q n (leaving s.links n) fresh m s.node node v p x e;
          acts = act cells room;
        },
        refl,
      ),
      resent l (with_station w n s') m' (post_packet l n p puts) (w.sent ++ []) (C.posted_agrees l w m puts f n s is p s' (set_at m.nodes n x) refl (nodes_set w n s is s' m.nodes f.nodes)),
    )
      where
        s' : Station S
        s' = record s { node = x; links = post_packet l n p s.links }

        m' : Machine S
        m' = record m { nodes = set_at m.nodes n x; links = post_packet l n p m.links }

        act : (cells : ℕ) → message_count x.slots + leaving m.links n + packet_count p ≤ cells → machine_act g (with_cells l cells) q fresh m (Ev.Turn n) ≡ M.Acts v m'
        act cells room =
            ap (λ o. machine_act_over g (with_cells l cells) q fresh m o (Ev.Turn n)) f.plain ∙ ap (turn_in g (with_cells l cells) q fresh m n) node
            ∙ ap (after_node (with_cells l cells) n m) (turn_loose g l (leaving s.links n) (leaving m.links n) cells v p x room q n fresh s.node e)

    module _ (a : ℕ) (e : NumberedPacket) (at : slice_get (list_at pair_cmp (a, n) puts) (count_at a s.handed) ≡ Some e) where
      abbrev m2 : Machine S
      m2 = record m { links = put_list pair_cmp (a, n) (drop (count_at a s.handed + 1) (list_at pair_cmp (a, n) puts)) m.links }

      abbrev s2 : Station S
      s2 = counted a s

      abbrev w2 : Whole S
      w2 = with_station w n s2

      is2 : slice_get w2.stations n ≡ Some s2
      is2 = set_same w.stations n s s2 is

      f2 : Agrees l w2 m2 puts
      f2 = C.handed_agrees l w m puts f n s is a e at

      from_mesh : a < l.width * l.height
      from_mesh = by (slice_get w.stations a) refl
        where
          by : (o : Option (Station S)) → slice_get w.stations a ≡ o → a < l.width * l.height
          by None i = absurd (let z = subst (λ xs. slice_get xs (count_at a s.handed) ≡ Some e) (f.from (a, n) i) at in let y : None ≡ Some e = z in cc)
          by (Some t) i = let h = place_below a w.stations t i in let k = f.size in omega (arith, h, k)

      comes : (cells fresh : ℕ) → machine_act g (with_cells l cells) q fresh m (Ev.Link a n) ≡ come g (with_cells l cells) m2 n e (Some s.node)
      comes cells fresh =
          ap (λ o. machine_act_over g (with_cells l cells) q fresh m o (Ev.Link a n)) f.plain ∙ ap (move_in g (with_cells l cells) m a n) (C.head_agrees l w m puts f n s is a e at)
          ∙ ap (come g (with_cells l cells) m2 n e) node

      after : (most : ℕ) (v : What) (p : Option NumberedPacket) (s' : Station S) (nodes : List (NodeState S)) → s'.handed ≡ s2.handed
          → ((j : ℕ) → slice_get nodes j ≡ node_in (slice_get (set_at w2.stations n s') j))
          → ((cells : ℕ) → most ≤ cells → come g (with_cells l cells) m2 n e (Some s.node) ≡ M.Acts v (record m2 { nodes = nodes; links = post_packet l n p m2.links }))
          → Loose m ((Ev.Link a n, v) ∷ []) (after_answer w n (record { told = Line (Ev.Link a n) v; posted = p; frames = acknowledges a s2; station = s' })) (post_packet l n p puts)
      after most v p s' nodes handed same_nodes act = (
        most,
        m3,
        λ cells room. (m3, record { fresh = 0; unused = tt; inside = (from_mesh, inside); busy = link_busy g m (a, n) e _ (C.head_agrees l w m puts f n s is a e at); acts = comes cells 0 ∙ act cells room }, refl),
        resent l (with_station w n s') m3 (post_packet l n p puts) (w.sent ++ from_node n (acknowledges a s2)) f3,
      )
        where
          m3 : Machine S
          m3 = record m2 { nodes = nodes; links = post_packet l n p m2.links }

          f3 : Agrees l (with_station w n s') m3 (post_packet l n p puts)
          f3 = subst (λ ss. Agrees l (record w { stations = ss }) m3 (post_packet l n p puts)) (set_set w.stations n s2 s') (C.posted_agrees l w2 m2 puts f2 n s2 is2 p s' nodes handed same_nodes)

      abbrev Handed : Answer S → Type 0
      Handed b = Loose m (logged b.told) (after_answer w n b) (post_packet l n b.posted puts)

      receipt_step : (goal_node e.packet == n) ≡ true → (b : NodeActed S) → receipt_act g l n (leaving s.links n) e s.node ≡ b → Handed (after_act l n (Ev.Link a n) (acknowledges a s2) s s2 b)
      receipt_step goal N.Idle i = same
      receipt_step goal (N.Full k) i = same
      receipt_step goal N.Nothing i = same
      receipt_step goal (N.Acts v p x) i =
          after (message_count x.slots + leaving m2.links n + packet_count p) v p s' (set_at m.nodes n x) refl (nodes_set w2 n s2 is2 s' m.nodes f2.nodes) act
        where
          s' : Station S
          s' = record s2 { node = x; links = post_packet l n p s2.links }

          act : (cells : ℕ) → message_count x.slots + leaving m2.links n + packet_count p ≤ cells
              → come g (with_cells l cells) m2 n e (Some s.node) ≡ M.Acts v (record m2 { nodes = set_at m.nodes n x; links = post_packet l n p m2.links })
          act cells room =
              let r = receipt_loose g l (leaving s.links n) (leaving m2.links n) cells v p x room n e s.node i in
              ap (λ b. if b then after_node (with_cells l cells) n m2 (receipt_act g (with_cells l cells) n (leaving m2.links n) e s.node)
              else (if nat_lt cells (message_count s.node.slots + leaving m2.links n + 1) then M.Full F.Cells n else M.Acts W.Pass (record m2 { links = post_packet (with_cells l cells) n (Some e) m2.links }))) goal
              ∙ ap (after_node (with_cells l cells) n m2) r

      pass_step : (goal_node e.packet == n) ≡ false → (b : Bool) → nat_lt l.cells (message_count s.node.slots + leaving s.links n + 1) ≡ b
          → Handed (if b then unchanged (Full F.Cells) s
          else record { told = Line (Ev.Link a n) W.Pass; posted = Some e; frames = acknowledges a s2; station = record s2 { links = post_packet l n (Some e) s2.links } })
      pass_step goal true i = same
      pass_step goal false i =
          after (message_count s.node.slots + leaving m2.links n + 1) W.Pass (Some e) (record s2 { links = post_packet l n (Some e) s2.links }) m.nodes refl
          (nodes_kept w2 n s2 is2 (record s2 { links = post_packet l n (Some e) s2.links }) m.nodes refl f2.nodes) act
        where
          act : (cells : ℕ) → message_count s.node.slots + leaving m2.links n + 1 ≤ cells → come g (with_cells l cells) m2 n e (Some s.node) ≡ M.Acts W.Pass (record m2 { links = post_packet l n (Some e) m2.links })
          act cells room =
              ap (λ b. if b then after_node (with_cells l cells) n m2 (receipt_act g (with_cells l cells) n (leaving m2.links n) e s.node)
              else (if nat_lt cells (message_count s.node.slots + leaving m2.links n + 1) then M.Full F.Cells n else M.Acts W.Pass (record m2 { links = post_packet (with_cells l cells) n (Some e) m2.links }))) goal
              ∙ ap (λ b. if b then M.Full F.Cells n else M.Acts W.Pass (record m2 { links = post_packet l n (Some e) m2.links })) (not_full cells (message_count s.node.slots + leaving m2.links n + 1) room)

      next_step : Handed (handed_out g l n a e s)
      next_step = by (goal_node e.packet == n) refl
        where
          by : (b : Bool) → (goal_node e.packet == n) ≡ b → Handed (handed_out g l n a e s)
          by true i = rw i (receipt_step i (receipt_act g l n (leaving s.links n) e s.node) refl)
          by false i = rw i (pass_step i (nat_lt l.cells (message_count s.node.slots + leaving s.links n + 1)) refl)

    abbrev Stepped : Answer S → Type 0
    Stepped b = Loose m (logged b.told) (after_answer w n b) (post_packet l n b.posted puts)

    data_step : (a k : ℕ) (e : NumberedPacket) → (k ≡ count_at a s.handed → slice_get (list_at pair_cmp (a, n) puts) k ≡ Some e) → Stepped (data_comes g l n a k e s)
    data_step a k e h = by (k == count_at a s.handed) refl
      where
        by : (b : Bool) → (k == count_at a s.handed) ≡ b → Stepped (data_comes g l n a k e s)
        by true i = let z = equal k (count_at a s.handed) i in rw i (next_step a e (ap (slice_get (list_at pair_cmp (a, n) puts)) (sym z) ∙ h z))
        by false i = rw i (silent s (acknowledges a s) refl refl)

    heard_step : (b k : ℕ) → Loose m [] (after_answer w n (unchanged Silent (heard n b k s))) puts
    heard_step b k = by (nat_lt (count_at b s.acked) k && nat_le k (count_at b s.acked + length (list_at pair_cmp (n, b) s.links))) refl
      where
        by : (c : Bool) → (nat_lt (count_at b s.acked) k && nat_le k (count_at b s.acked + length (list_at pair_cmp (n, b) s.links))) ≡ c → Loose m [] (after_answer w n (unchanged Silent (heard n b k s))) puts
        by true i = rw i (silent (record s { acked = put_count b k s.acked; links = put_list pair_cmp (n, b) (drop (k - count_at b s.acked) (list_at pair_cmp (n, b) s.links)) s.links }) [] refl refl)
        by false i = rw i same

    input_step : (i : Step) → (it : Input) → IsRight w puts (record i { at = n }) it → Stepped (plain_answer g l q n i.fresh s it)
    input_step i Turn h = turn_step i.fresh (subst (IsUnusedAt i.fresh) is h) (turn_act g l q n (leaving s.links n) i.fresh s.node) refl
    input_step i Wait h = same
    input_step i (Comes a (Data k x)) h = data_step a k x (λ z. h (z ∙ sym (handed_before w n s is s a)))
    input_step i (Comes b (Ack k)) h = heard_step b k

    sending : (a : Answer S) (sends : List (ℕ × ℕ)) → Stepped a → Stepped (with_sent n sends a)
    sending a sends r = (r.0, r.1, r.2, resent l (after_answer w n a) r.1 (post_packet l n a.posted puts) (w.sent ++ from_node n (with_sent n sends a).frames) r.3)

  step : (w : Whole S) (m : Machine S) (puts : Puts) (i : Step) → Agrees l w m puts → IsRight w puts i i.input
      → Loose m (told_by g l q i (slice_get w.stations i.at)) (after_step g l q w i) (entered_after g l q w puts i)
  step w m puts i f h = by (slice_get w.stations i.at) refl
    where
      by : (o : Option (Station S)) → slice_get w.stations i.at ≡ o → Loose m (told_by g l q i o) (after_input g l q w i o) (entered_by g l q i puts o)
      by None e = (0, m, λ cells k. refl, f)
      by (Some s) e = sending w m puts f i.at s e (plain_answer g l q i.at i.fresh s i.input) i.sends (input_step w m puts f i.at s e i i.input h)

  makes_both : (cells : ℕ) (xs ys : List Logged) (m m' m'' : Machine S) → Makes g (with_cells l cells) q m xs m' → Makes g (with_cells l cells) q m' ys m'' → Makes g (with_cells l cells) q m (xs ++ ys) m''
  makes_both cells [] ys m m' m'' h k = subst (λ z. Makes g (with_cells l cells) q z ys m'') (sym h) k
  makes_both cells (x ∷ xs) ys m m' m'' h k = (h.0, h.1, makes_both cells xs ys h.0 m' m'' h.2 k)

  pub any_steps : (is : List Step) (w : Whole S) (m : Machine S) (puts : Puts) → Agrees l w m puts → AreRight g l q w puts is
      → (most : ℕ) × (m' : Machine S) × (puts' : Puts) × ((cells : ℕ) → most ≤ cells → Makes g (with_cells l cells) q m (merged g l q w is) m') × Agrees l (after_steps g l q w is) m' puts'
  any_steps [] w m puts f h = (0, m, puts, λ cells k. refl, f)
  any_steps (i ∷ is) w m puts f h =
      let a = step w m puts i f h.0 in
      let b = any_steps is (after_step g l q w i) a.1 (entered_after g l q w puts i) a.3 h.1 in (
        a.0 + b.0,
        b.1,
        b.2,
        λ cells room. makes_both cells (told_by g l q i (slice_get w.stations i.at)) (merged g l q (after_step g l q w i) is) m a.1 b.1 (a.2 cells (omega (arith, room))) (b.3 cells (omega (arith, room))),
        b.4,
      )
