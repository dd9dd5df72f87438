-- An event whose line shows no transition does not change the configuration.
use Rattle.std.proofs.Common.{◌≡◌, refl, subst, ℕ, zero, suc, ◌+◌, ◌==◌, List, [], ◌∷◌, Option, Some, None, Bool, true, false, nat_lt, if◌then◌else◌, replicate}
use Rattle.std.specs.FinMap.{put}
use Rattle.run_types.specs.declared.types.Value.TheVariants as V
use Rattle.run_types.specs.declared.types.Label.{Label}
use Rattle.run_types.specs.declared.types.Label.TheVariants as L
use Rattle.run_types.specs.declared.types.What.{What}
use Rattle.run_types.specs.declared.types.What.TheVariants as W
use Rattle.run_types.specs.declared.types.Event.{Event}
use Rattle.run_types.specs.declared.types.Event.TheVariants as Ev
use Rattle.run_types.specs.declared.types.FullKind.TheVariants as F
use Rattle.run_types.specs.declared.types.Placement.{Placement}
use Rattle.run_types.specs.ObjectNames.{node_of}
use Rattle.run_types.specs.Paths.{move_head, on_link}
use Rattle.run_types.specs.Tables.{Pair, pair_cmp}
use Rattle.mesh_semantics.specs.Kind as K
use Rattle.mesh_semantics.specs.Kind.{Kind, Alternative}
use Rattle.mesh_semantics.specs.Language.{Language}
use Rattle.mesh_semantics.specs.Config.{Config}
use Rattle.mesh_semantics.specs.Moves.{move}
use Rattle.mesh_semantics.specs.Wire.{Coming, Empty, Next, Stale, Wire, coming, take, wire_act}
use Rattle.mesh_semantics.specs.Delay as D
use Rattle.mesh_semantics.specs.Delay.{Arrival, Delay, Packet, Wires, arrived_at, cell_count, count_made, free, hold, post, stepped_last, take_arrival, wire_at}
use Rattle.mesh_semantics.specs.Act.{Acted, Acts, Full, Nothing, accept_turn, act, act_over, choice_turn, chosen_turn, create_turn, first_arrival, first_of, frame_count, goal_node, goal_of, id, is_possible, labelled, link_move, local_steps, local_turn, next_name, node_turn, object_count, object_turn, on_wires, passed, plain_act, received, sent, shows, step_count, turn_of, wire_move, wire_turn, within}
use Rattle.mesh_semantics.specs.Record.{shown}

module _ {S : Type 0} (g : Language S) (l : Placement) (q : ℕ) (c : Config S) where
  -- where its line shows no transition, the configuration is c
  abbrev pub Keeps : Acted S → Type 0
  Keeps (Acts w f k) = shown w ≡ [] → f ≡ c
  Keeps (Full kind n) = Unit {0}
  Keeps Nothing = Unit {0}

  one_of : (b : Bool) (x y : Acted S) → Keeps x → Keeps y → Keeps (if b then x else y)
  one_of true x y h k = h
  one_of false x y h k = k

  within_keeps : (n : ℕ) (a : Acted S) → Keeps a → Keeps (within g l n a)
  within_keeps n (Full kind m) h = tt
  within_keeps n Nothing h = tt
  within_keeps n (Acts w e f) h =
      let cells = one_of (nat_lt l.cells (cell_count f n)) (Full F.Cells n) (Acts w e f) tt h in
      let frames = one_of (nat_lt l.frames (frame_count g e n)) (Full F.Frames n) (if nat_lt l.cells (cell_count f n) then Full F.Cells n else Acts w e f) tt cells in
      one_of (nat_lt l.objects (object_count e n)) (Full F.Heap n)
      (if nat_lt l.frames (frame_count g e n) then Full F.Frames n else (if nat_lt l.cells (cell_count f n) then Full F.Cells n else Acts w e f)) tt frames

  -- a transition shows its label

  shows_keeps : (label : Label) (k : ℕ) (d : Delay) (o : Option (Config S)) → Keeps (shows label (suc k) d o)
  shows_keeps label k d None = tt
  shows_keeps label k d (Some f) = λ e. absurd (let z : label ∷ replicate k label ≡ [] = e in cc)

  labelled_keeps : (label : Label) (d : Delay) → Keeps (labelled g c label d)
  labelled_keeps label d = shows_keeps label 0 d (move g c label)

  -- a turn of an object

  local_keeps : (n o : ℕ) (d : Delay) (k : ℕ) (r : Option (Config S)) → Keeps (local_turn n o d k r)
  local_keeps n o d zero r = tt
  local_keeps n o d (suc k) r = shows_keeps (L.Local o) k d r

  create_keeps : (d : Delay) (n o class goal : ℕ) → Keeps (create_turn g l c d n o class goal)
  create_keeps d n o class goal =
      one_of (goal == n) (labelled g c (L.New o (next_name c n) (id class)) (count_made n class d))
      (Acts (W.PostCreate o (id class) goal) c (hold o D.Posted (post l n goal (D.Create o goal class) (count_made n class d))))
      (labelled_keeps (L.New o (next_name c n) (id class)) (count_made n class d)) (λ e. refl)

  accept_keeps : (d : Delay) (o : ℕ) (names : List ℕ) (a : Option Arrival) → Keeps (accept_turn g c d o names a)
  accept_keeps d o names None = tt
  accept_keeps d o names (Some a) =
      one_of a.is_call (labelled g c (L.Answer o a.sender (id a.method) a.args) (free a.sender (take_arrival o names d)))
      (labelled g c (L.Take o a.sender (id a.method) a.args) (take_arrival o names d))
      (labelled_keeps (L.Answer o a.sender (id a.method) a.args) (free a.sender (take_arrival o names d)))
      (labelled_keeps (L.Take o a.sender (id a.method) a.args) (take_arrival o names d))

  chosen_keeps : (d : Delay) (o i : ℕ) (names : Option (List ℕ)) → Keeps (chosen_turn g c d o i names)
  chosen_keeps d o i None = labelled_keeps (L.Pick o i) d
  chosen_keeps d o i (Some names) = accept_keeps d o names (first_arrival names (arrived_at d o))

  choice_keeps : (d : Delay) (o i : ℕ) (alts : List Alternative) → Keeps (choice_turn g c d o i alts)
  choice_keeps d o i [] = tt
  choice_keeps d o i (a ∷ alts) =
      one_of (is_possible (arrived_at d o) a) (chosen_turn g c d o i a.names) (choice_turn g c d o (i + 1) alts) (chosen_keeps d o i a.names) (choice_keeps d o (i + 1) alts)

  turn_keeps : (d : Delay) (n o : ℕ) (k : Kind) → Keeps (object_turn g l q c d n o k)
  turn_keeps d n o K.Finished = tt
  turn_keeps d n o K.Local = local_keeps n o d (step_count g l q n o c) (local_steps g l n o (step_count g l q n o c) c)
  turn_keeps d n o (K.Fault e) = labelled_keeps (L.Fault o e) d
  turn_keeps d n o (K.New class) = create_keeps d n o class (goal_of g l d n class)
  turn_keeps d n o (K.Send b m args) = λ e. refl
  turn_keeps d n o (K.Async b m args) = labelled_keeps (L.Send o b (id m) args) (sent l n o b false m args (D.Async o b m args) d)
  turn_keeps d n o (K.Write item) = labelled_keeps (L.Write o item) d
  turn_keeps d n o (K.Select alts) = choice_keeps d o 1 alts
  turn_keeps d n o (K.Return k v) = labelled_keeps (L.Return o k v) (if node_of k == n then free k d else hold k (D.Due v) (post l n (node_of k) (D.Result k v) d))
  turn_keeps d n o (K.Waits b m) = tt
  turn_keeps d n o K.Stuck = tt

  node_keeps : (d : Delay) (n : ℕ) (e : Option (ℕ × S)) → Keeps (node_turn g l q c d n e)
  node_keeps d n None = λ h. refl
  node_keeps d n (Some e) = within_keeps n (object_turn g l q c (stepped_last n e.0 d) n e.0 (g.kind e.0 e.1)) (turn_keeps (stepped_last n e.0 d) n e.0 (g.kind e.0 e.1))

  -- a move of a link

  received_keeps : (d : Delay) (b : ℕ) (x : Packet) → Keeps (received g l c d b x)
  received_keeps d b (D.Create o goal class) =
      labelled_keeps (L.New o (next_name c b) (id class)) (hold o (D.Due (V.Ref (next_name c b))) (post l b (node_of o) (D.Created o (next_name c b)) d))
  received_keeps d b (D.Created o name) = λ e. refl
  received_keeps d b (D.Request o r m args) = λ e. refl
  received_keeps d b (D.Result o v) = λ e. refl
  received_keeps d b (D.Async o r m args) = λ e. refl

  passed_keeps : (d : Delay) (b : ℕ) (x : Packet) → Keeps (passed g l c d b x)
  passed_keeps d b x = one_of (goal_node x == b) (received g l c d b x) (Acts W.Pass c (post l b (goal_node x) x d)) (received_keeps d b x) (λ e. refl)

  link_keeps : (d : Delay) (a b : ℕ) (x : Option Packet) → Keeps (link_move g l c d a b x)
  link_keeps d a b None = λ e. refl
  link_keeps d a b (Some x) =
      within_keeps b (passed g l c (record d { links = move_head (a, b) d.links }) b x) (passed_keeps (record d { links = move_head (a, b) d.links }) b x)

  plain_keeps : (d : Delay) (e : Event) → Keeps (plain_act g l q c d e)
  plain_keeps d (Ev.Turn n) = node_keeps d n (turn_of g c d n)
  plain_keeps d (Ev.Link a b) = link_keeps d a b (first_of (on_link d.links (a, b)))
  plain_keeps d (Ev.Wire w a b) = λ e. refl

  -- an event where links are wires

  wires_keep : (before : List (Pair × Packet)) (ws : Wires) (a : Acted S) → Keeps a → Keeps (on_wires before ws a)
  wires_keep before ws (Acts w e f) h = h
  wires_keep before ws (Full kind n) h = tt
  wires_keep before ws Nothing h = tt

  move_keeps : (d : Delay) (ws : Wires) (a b : ℕ) (x : Coming Packet) → Keeps (wire_move g l c d ws a b x)
  move_keeps d ws a b Empty = λ e. refl
  move_keeps d ws a b (Stale n) = λ e. refl
  move_keeps d ws a b (Next x) =
      wires_keep (move_head (a, b) d.links) (put pair_cmp (a, b) (take (wire_at ws (a, b))) ws) (link_move g l c d a b (first_of (on_link d.links (a, b))))
      (link_keeps d a b (first_of (on_link d.links (a, b))))

  happening_keeps : (d : Delay) (ws : Wires) (k : Pair) (r : Option (What × Wire Packet)) → Keeps (wire_turn c d ws k r)
  happening_keeps d ws k None = λ e. refl
  happening_keeps d ws k (Some r) = λ e. refl

  over_keeps : (d : Delay) (ws : Option Wires) (e : Event) → Keeps (act_over g l q c d ws e)
  over_keeps d None e = plain_keeps d e
  over_keeps d (Some ws) (Ev.Turn n) = wires_keep d.links ws (plain_act g l q c d (Ev.Turn n)) (plain_keeps d (Ev.Turn n))
  over_keeps d (Some ws) (Ev.Link a b) = move_keeps d ws a b (coming (wire_at ws (a, b)))
  over_keeps d (Some ws) (Ev.Wire w a b) = happening_keeps d ws (a, b) (wire_act w (wire_at ws (a, b)))

  pub delay_keeps : (d : Delay) (e : Event) (what : What) (f : Config S) (k : Delay) → act g l q c d e ≡ Acts what f k → shown what ≡ [] → f ≡ c
  delay_keeps d e what f k h = subst (λ (a : Acted S). Keeps a) h (over_keeps d d.wires e)
