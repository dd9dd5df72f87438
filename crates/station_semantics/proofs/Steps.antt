-- Each step of the whole is nothing or one act of the machine over links without wires.
use Rattle.std.proofs.Common.{◌≡◌, inl, inr, refl, sym, ap, subst, ◌∙◌, ℕ, ◌+◌, ◌-◌, ◌≤◌, ◌<◌, ◌==◌, List, [], ◌∷◌, ◌++◌, append_assoc, ◌*◌, length, Option, Some, None, Bool, true, false, if◌then◌else◌, nat_lt, nat_le, arith}
use Rattle.std.specs.Prelude.{slice_get, drop}
use Rattle.run_types.specs.declared.types.What.{What}
use Rattle.run_types.specs.declared.types.What.TheVariants as W
use Rattle.run_types.specs.declared.types.Event.TheVariants as Ev
use Rattle.run_types.specs.declared.types.FullKind.TheVariants as F
use Rattle.run_types.specs.declared.types.Placement.{Placement}
use Rattle.run_types.specs.Tables.{Pair, pair_cmp, list_at, put_list, Each}
use Rattle.run_types.specs.LinkTables.{leaving}
use Rattle.run_types.proofs.Laws.{each_both, equal, same_some}
use Rattle.mesh_semantics.specs.Language.{Language}
use Rattle.mesh_semantics.specs.Act.{goal_node}
use Rattle.mesh_semantics.specs.NumberedPackets.{NumberedPacket}
use Rattle.node_semantics.specs.Node as N
use Rattle.node_semantics.specs.Node.{NodeState, NodeActed, set_at, message_count, turn_act, receipt_act}
use Rattle.node_semantics.specs.Machine as M
use Rattle.node_semantics.specs.Machine.{Machine, MachineActed, after_node, come, machine_act, machine_act_over, move_in, plain_machine_act, post_packet, turn_in}
use Rattle.node_semantics.specs.Agrees.{IsUnused}
use Rattle.node_semantics.proofs.Laws.{set_set, set_same}
use Rattle.station_semantics.specs.Station.{Frame, Data, Ack, Station, Input, Turn, Wait, Comes, Silent, Line, Full, Answer, acknowledges, after_act, all_sent, count_at, counted, data_comes, frame_to, handed_out, heard, plain_answer, put_count, sent_again, unchanged, with_sent}
use Rattle.station_semantics.specs.Whole.{Whole, Step, Logged, IsUnusedAt, WasSent, MayCome, AreCarried, Makes, after_answer, after_input, after_step, after_steps, from_node, logged, merged, told_by}
use Rattle.station_semantics.specs.Fits.{node_in, handed_at, Puts, IsHonest, Fits}
use Rattle.station_semantics.proofs.SameActs.{turn_less, receipt_less, less_full}
use Rattle.station_semantics.proofs.Busy.{turn_busy, link_busy}
use Rattle.station_semantics.proofs.Changes as C
use Rattle.station_semantics.proofs.Changes.{with_station, at_drop}

-- a frame that was sent is honest
sent_is_honest : {S : Type 0} (w : Whole S) (puts : Puts) (es : List (Pair × Frame)) → Each (λ e. IsHonest w puts e.0 e.1) es → (k : Pair) (f : Frame) → WasSent es k f → IsHonest w puts k f
sent_is_honest w puts [] h k f s = absurd s
sent_is_honest w puts (e ∷ es) h k f (inl s) = subst (λ z. IsHonest w puts z f) s.0 (subst (λ z. IsHonest w puts e.0 z) s.1 h.0)
sent_is_honest w puts (e ∷ es) h k f (inr s) = sent_is_honest w puts es h.1 k f s

-- frames of a node, one list after the other
from_both : (n : ℕ) (xs ys : List (ℕ × Frame)) → from_node n (xs ++ ys) ≡ from_node n xs ++ from_node n ys
from_both n [] ys = refl
from_both n (x ∷ xs) ys = ap (λ (zs : List (Pair × Frame)). ((n, x.0), x.1) ∷ zs) (from_both n xs ys)

module _ {S : Type 0} (g : Language S) (l : Placement) (q : ℕ) where
  -- after a step the machine has made the lines, and fits again
  abbrev Result : Machine S → List Logged → Whole S → Type 0
  Result m lines w' = (m' : Machine S) × (puts' : Puts) × Makes g l q m lines m' × Fits l w' m' puts'

  module _ (w : Whole S) (m : Machine S) (puts : Puts) (f : Fits l w m puts) (n : ℕ) (s : Station S) (is : slice_get w.stations n ≡ Some s) where
    node : slice_get m.nodes n ≡ Some s.node
    node = f.nodes n ∙ ap node_in is

    inside : n < l.width * l.height
    inside = let h = C.place_below n w.stations s is in let k = f.size in omega (arith, h, k)

    -- nothing is told, and nothing changes that the relation looks at
    silent : (s' : Station S) (frames : List (ℕ × Frame)) → Fits l (with_station w n s') m puts → Each (λ e. IsHonest (with_station w n s') puts e.0 e.1) (from_node n frames)
        → Result m [] (after_answer w n (record { told = Silent; posted = None; frames = frames; station = s' }))
    silent s' frames h k = (m, puts, refl, C.sent_fits l (with_station w n s') m puts (from_node n frames) h k)

    same : Result m [] (after_answer w n (unchanged Silent s))
    same = silent s [] (C.same_fits l w m puts f n s is s refl refl refl refl) tt

    -- a turn

    turn_step : (fresh : ℕ) → IsUnused fresh s.node → (a : NodeActed S) → turn_act g l q n (leaving s.links n) fresh s.node ≡ a
        → Result m (logged (after_act l n (Ev.Turn n) [] s s a).told) (after_answer w n (after_act l n (Ev.Turn n) [] s s a))
    turn_step fresh unused N.Idle e = same
    turn_step fresh unused (N.Full k) e = same
    turn_step fresh unused N.Nothing e = same
    turn_step fresh unused (N.Acts v p x) e = (
      m',
      post_packet l n p puts,
      (m', record { fresh = fresh; unused = λ y i. subst (IsUnused fresh) (same_some (sym node ∙ i)) unused; inside = inside; busy = turn_busy g l q n (leaving s.links n) fresh m s.node node v p x e; acts = act }, refl),
      C.sent_fits l (with_station w n s') m' (post_packet l n p puts) []
          (C.posted_fits l w m puts f n s is p s' (set_at m.nodes n x) refl refl refl (C.nodes_set w n s is s' m.nodes f.nodes)) tt,
    )
      where
        s' : Station S
        s' = record s { node = x; links = post_packet l n p s.links }

        m' : Machine S
        m' = record m { nodes = set_at m.nodes n x; links = post_packet l n p m.links }

        act : machine_act g l q fresh m (Ev.Turn n) ≡ M.Acts v m'
        act =
            ap (λ o. machine_act_over g l q fresh m o (Ev.Turn n)) f.plain ∙ ap (turn_in g l q fresh m n) node
            ∙ ap (after_node l n m) (turn_less g l (leaving s.links n) (leaving m.links n) (C.leaving_counts l w m puts f n s is) v p x q n fresh s.node e)

    -- the next packet of a link

    module _ (a : ℕ) (e : NumberedPacket) (at : slice_get (list_at pair_cmp (a, n) puts) (count_at a s.handed) ≡ Some e) where
      abbrev m2 : Machine S
      m2 = record m { links = put_list pair_cmp (a, n) (drop (count_at a s.handed + 1) (list_at pair_cmp (a, n) puts)) m.links }

      abbrev s2 : Station S
      s2 = counted a s

      abbrev w2 : Whole S
      w2 = with_station w n s2

      is2 : slice_get w2.stations n ≡ Some s2
      is2 = set_same w.stations n s s2 is

      f2 : Fits l w2 m2 puts
      f2 = C.handed_fits l w m puts f n s is a e at

      from_mesh : a < l.width * l.height
      from_mesh = by (slice_get w.stations a) refl
        where
          by : (o : Option (Station S)) → slice_get w.stations a ≡ o → a < l.width * l.height
          by None i = absurd (let z = subst (λ xs. slice_get xs (count_at a s.handed) ≡ Some e) (f.from (a, n) i) at in let y : None ≡ Some e = z in cc)
          by (Some t) i = let h = C.place_below a w.stations t i in let k = f.size in omega (arith, h, k)

      fewer : leaving m2.links n ≤ leaving s.links n
      fewer = C.leaving_counts l w2 m2 puts f2 n s2 is2

      comes : (fresh : ℕ) → machine_act g l q fresh m (Ev.Link a n) ≡ come g l m2 n e (Some s.node)
      comes fresh =
          ap (λ o. machine_act_over g l q fresh m o (Ev.Link a n)) f.plain ∙ ap (move_in g l m a n) (C.head_is l w m puts f n s is a e at)
          ∙ ap (come g l m2 n e) node

      -- the station and the machine after it, with an acknowledgement
      after : (v : What) (p : Option NumberedPacket) (s' : Station S) (nodes : List (NodeState S)) → s'.links ≡ post_packet l n p s2.links → s'.acked ≡ s2.acked → s'.handed ≡ s2.handed
          → ((j : ℕ) → slice_get nodes j ≡ node_in (slice_get (set_at w2.stations n s') j))
          → come g l m2 n e (Some s.node) ≡ M.Acts v (record m2 { nodes = nodes; links = post_packet l n p m2.links })
          → Result m ((Ev.Link a n, v) ∷ []) (after_answer w n (record { told = Line (Ev.Link a n) v; posted = p; frames = acknowledges a s2; station = s' }))
      after v p s' nodes links acked handed same_nodes act =
          (m3, puts3, (m3, record { fresh = 0; unused = tt; inside = (from_mesh, inside); busy = link_busy g m (a, n) e _ (C.head_is l w m puts f n s is a e at); acts = comes 0 ∙ act }, refl), C.sent_fits l (with_station w n s') m3 puts3 (from_node n (acknowledges a s2)) f3 (told, tt))
        where
          m3 : Machine S
          m3 = record m2 { nodes = nodes; links = post_packet l n p m2.links }

          puts3 : Puts
          puts3 = post_packet l n p puts

          f3 : Fits l (with_station w n s') m3 puts3
          f3 = subst (λ ss. Fits l (record w { stations = ss }) m3 puts3) (set_set w.stations n s2 s') (C.posted_fits l w2 m2 puts f2 n s2 is2 p s' nodes links acked handed same_nodes)

          told : count_at a s2.handed ≤ handed_at (with_station w n s') (a, n)
          told = let h = C.handed_here w n s is s' a in let i = ap (count_at a) handed in omega (arith, h, i)

      receipt_step : (goal_node e.packet == n) ≡ true → (b : NodeActed S) → receipt_act g l n (leaving s.links n) e s.node ≡ b
          → Result m (logged (after_act l n (Ev.Link a n) (acknowledges a s2) s s2 b).told) (after_answer w n (after_act l n (Ev.Link a n) (acknowledges a s2) s s2 b))
      receipt_step goal N.Idle i = same
      receipt_step goal (N.Full k) i = same
      receipt_step goal N.Nothing i = same
      receipt_step goal (N.Acts v p x) i =
          after v p s' (set_at m.nodes n x) refl refl refl (C.nodes_set w2 n s2 is2 s' m.nodes f2.nodes) act
        where
          s' : Station S
          s' = record s2 { node = x; links = post_packet l n p s2.links }

          act : come g l m2 n e (Some s.node) ≡ M.Acts v (record m2 { nodes = set_at m.nodes n x; links = post_packet l n p m2.links })
          act =
              let r = receipt_less g l (leaving s.links n) (leaving m2.links n) fewer v p x n e s.node i in
              ap (λ b. if b then after_node l n m2 (receipt_act g l n (leaving m2.links n) e s.node)
              else (if nat_lt l.cells (message_count s.node.slots + leaving m2.links n + 1) then M.Full F.Cells n else M.Acts W.Pass (record m2 { links = post_packet l n (Some e) m2.links }))) goal
              ∙ ap (after_node l n m2) r

      pass_step : (goal_node e.packet == n) ≡ false → (b : Bool) → nat_lt l.cells (message_count s.node.slots + leaving s.links n + 1) ≡ b
          → Result m (logged (if b then unchanged (Full F.Cells) s
          else record { told = Line (Ev.Link a n) W.Pass; posted = Some e; frames = acknowledges a s2; station = record s2 { links = post_packet l n (Some e) s2.links } }).told)
          (after_answer w n (if b then unchanged (Full F.Cells) s
          else record { told = Line (Ev.Link a n) W.Pass; posted = Some e; frames = acknowledges a s2; station = record s2 { links = post_packet l n (Some e) s2.links } }))
      pass_step goal true i = same
      pass_step goal false i =
          after W.Pass (Some e) (record s2 { links = post_packet l n (Some e) s2.links }) m.nodes refl refl refl
          (C.nodes_kept w2 n s2 is2 (record s2 { links = post_packet l n (Some e) s2.links }) m.nodes refl f2.nodes) act
        where
          room : nat_lt l.cells (message_count s.node.slots + leaving m2.links n + 1) ≡ false
          room = less_full l.cells (message_count s.node.slots) 1 (leaving s.links n) (leaving m2.links n) i fewer

          act : come g l m2 n e (Some s.node) ≡ M.Acts W.Pass (record m2 { links = post_packet l n (Some e) m2.links })
          act =
              ap (λ b. if b then after_node l n m2 (receipt_act g l n (leaving m2.links n) e s.node)
              else (if nat_lt l.cells (message_count s.node.slots + leaving m2.links n + 1) then M.Full F.Cells n else M.Acts W.Pass (record m2 { links = post_packet l n (Some e) m2.links }))) goal
              ∙ ap (λ b. if b then M.Full F.Cells n else M.Acts W.Pass (record m2 { links = post_packet l n (Some e) m2.links })) room

      next_step : Result m (logged (handed_out g l n a e s).told) (after_answer w n (handed_out g l n a e s))
      next_step = by (goal_node e.packet == n) refl
        where
          by : (b : Bool) → (goal_node e.packet == n) ≡ b → Result m (logged (handed_out g l n a e s).told) (after_answer w n (handed_out g l n a e s))
          by true i = rw i (receipt_step i (receipt_act g l n (leaving s.links n) e s.node) refl)
          by false i = rw i (pass_step i (nat_lt l.cells (message_count s.node.slots + leaving s.links n + 1)) refl)

    data_step : (a k : ℕ) (e : NumberedPacket) → slice_get (list_at pair_cmp (a, n) puts) k ≡ Some e → Result m (logged (data_comes g l n a k e s).told) (after_answer w n (data_comes g l n a k e s))
    data_step a k e h = by (k == count_at a s.handed) refl
      where
        by : (b : Bool) → (k == count_at a s.handed) ≡ b → Result m (logged (data_comes g l n a k e s).told) (after_answer w n (data_comes g l n a k e s))
        by true i = rw i (next_step a e (ap (slice_get (list_at pair_cmp (a, n) puts)) (sym (equal k (count_at a s.handed) i)) ∙ h))
        by false i = rw i (silent s (acknowledges a s) (C.same_fits l w m puts f n s is s refl refl refl refl)
            (let z = C.handed_here w n s is s a in omega (arith, z), tt))

    -- acknowledgements

    heard_step : (b k : ℕ) → k ≤ handed_at w (n, b) → Result m [] (after_answer w n (unchanged Silent (heard n b k s)))
    heard_step b k h = by (nat_lt (count_at b s.acked) k) refl
      where
        by : (c : Bool) → nat_lt (count_at b s.acked) k ≡ c → Result m [] (after_answer w n (unchanged Silent (heard n b k s)))
        by false i = rw i same
        by true i = on (nat_le k (count_at b s.acked + length (list_at pair_cmp (n, b) s.links))) refl
          where
            low : count_at b s.acked ≤ k
            low = grind (arith, i)

            on : (c : Bool) → nat_le k (count_at b s.acked + length (list_at pair_cmp (n, b) s.links)) ≡ c → Result m [] (after_answer w n (unchanged Silent (heard n b k s)))
            on false j = rw (i, j) same
            on true j = rw (i, j) (silent s' [] (C.acked_fits l w m puts f n s is b k low h s' refl refl refl refl) tt)
              where
                s' : Station S
                s' = record s { acked = put_count b k s.acked; links = put_list pair_cmp (n, b) (drop (k - count_at b s.acked) (list_at pair_cmp (n, b) s.links)) s.links }

    -- any input

    input_step : (i : Step) → i.at ≡ n → (it : Input) → MayCome w (record i { at = n }) it
        → Result m (logged (plain_answer g l q n i.fresh s it).told) (after_answer w n (plain_answer g l q n i.fresh s it))
    input_step i e Turn h = turn_step i.fresh (subst (IsUnusedAt i.fresh) is h) (turn_act g l q n (leaving s.links n) i.fresh s.node) refl
    input_step i e Wait h = same
    input_step i e (Comes a (Data k x)) h = data_step a k x (sent_is_honest w puts w.sent f.honest (a, n) (Data k x) h)
    input_step i e (Comes b (Ack k)) h = heard_step b k (sent_is_honest w puts w.sent f.honest (b, n) (Ack k) h)

  -- packets that are not acknowledged are sent
  module _ (w : Whole S) (m : Machine S) (puts : Puts) (f : Fits l w m puts) (n : ℕ) (s : Station S) (is : slice_get w.stations n ≡ Some s) where
    one_honest : (c : ℕ × ℕ) → Each (λ e. IsHonest w puts e.0 e.1) (from_node n (sent_again n s c))
    one_honest c = by (nat_lt c.1 (count_at c.0 s.acked)) refl
      where
        by : (b : Bool) → nat_lt c.1 (count_at c.0 s.acked) ≡ b → Each (λ e. IsHonest w puts e.0 e.1) (from_node n (sent_again n s c))
        by true i = rw i tt
        by false i = rw i (on (slice_get (list_at pair_cmp (n, c.0) s.links) (c.1 - count_at c.0 s.acked)) refl)
          where
            low : count_at c.0 s.acked + (c.1 - count_at c.0 s.acked) ≡ c.1
            low = grind (arith, i)

            on : (o : Option NumberedPacket) → slice_get (list_at pair_cmp (n, c.0) s.links) (c.1 - count_at c.0 s.acked) ≡ o → Each (λ e. IsHonest w puts e.0 e.1) (from_node n (frame_to c.0 c.1 o))
            on None j = tt
            on (Some e) j = (
              ap (slice_get (list_at pair_cmp (n, c.0) puts)) (sym low) ∙ sym (at_drop (count_at c.0 s.acked) (c.1 - count_at c.0 s.acked) (list_at pair_cmp (n, c.0) puts))
                  ∙ ap (λ xs. slice_get xs (c.1 - count_at c.0 s.acked)) (sym (f.own n c.0 s is).queue) ∙ j,
              tt,
            )

    all_honest : (cs : List (ℕ × ℕ)) → Each (λ e. IsHonest w puts e.0 e.1) (from_node n (all_sent n s cs))
    all_honest [] = tt
    all_honest (c ∷ cs) =
        subst (Each (λ e. IsHonest w puts e.0 e.1)) (sym (from_both n (sent_again n s c) (all_sent n s cs)))
        (each_both (λ (e : Pair × Frame). IsHonest w puts e.0 e.1) (from_node n (sent_again n s c)) (from_node n (all_sent n s cs)) (one_honest c) (all_honest cs))

  sending : (w : Whole S) (m : Machine S) (n : ℕ) (s : Station S) → slice_get w.stations n ≡ Some s → (lines : List Logged) (a : Answer S) (sends : List (ℕ × ℕ))
      → Result m lines (after_answer w n a) → Result m lines (after_answer w n (with_sent n sends a))
  sending w m n s is lines a sends r = (
    r.0,
    r.1,
    r.2,
    subst (λ z. Fits l (record { stations = set_at w.stations n a.station; sent = z }) r.0 r.1)
        (append_assoc w.sent (from_node n a.frames) (from_node n (all_sent n a.station sends)) ∙ ap (λ (z : List (Pair × Frame)). w.sent ++ z) (sym (from_both n a.frames (all_sent n a.station sends))))
        (C.sent_fits l (after_answer w n a) r.0 r.1 (from_node n (all_sent n a.station sends)) r.3
        (all_honest (after_answer w n a) r.0 r.1 r.3 n a.station (set_same w.stations n s a.station is) sends)),
  )

  step : (w : Whole S) (m : Machine S) (puts : Puts) (i : Step) → Fits l w m puts → MayCome w i i.input → Result m (told_by g l q i (slice_get w.stations i.at)) (after_step g l q w i)
  step w m puts i f h = by (slice_get w.stations i.at) refl
    where
      by : (o : Option (Station S)) → slice_get w.stations i.at ≡ o → Result m (told_by g l q i o) (after_input g l q w i o)
      by None e = (m, puts, refl, f)
      by (Some s) e =
          sending w m i.at s e (logged (plain_answer g l q i.at i.fresh s i.input).told) (plain_answer g l q i.at i.fresh s i.input) i.sends (input_step w m puts f i.at s e i refl i.input h)

  -- lines after lines
  makes_both : (xs ys : List Logged) (m m' m'' : Machine S) → Makes g l q m xs m' → Makes g l q m' ys m'' → Makes g l q m (xs ++ ys) m''
  makes_both [] ys m m' m'' h k = subst (λ z. Makes g l q z ys m'') (sym h) k
  makes_both (x ∷ xs) ys m m' m'' h k = (h.0, h.1, makes_both xs ys h.0 m' m'' h.2 k)

  pub steps : (is : List Step) (w : Whole S) (m : Machine S) (puts : Puts) → Fits l w m puts → AreCarried g l q w is
      → (m' : Machine S) × (puts' : Puts) × Makes g l q m (merged g l q w is) m' × Fits l (after_steps g l q w is) m' puts'
  steps [] w m puts f h = (m, puts, refl, f)
  steps (i ∷ is) w m puts f h =
      let a = step w m puts i f h.0 in
      let b = steps is (after_step g l q w i) a.0 a.1 a.3 h.1 in
      (b.0, b.1, makes_both (told_by g l q i (slice_get w.stations i.at)) (merged g l q (after_step g l q w i) is) m a.0 b.0 a.2 b.2, b.3)
