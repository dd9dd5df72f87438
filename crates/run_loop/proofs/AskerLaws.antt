-- If an event's line posts or answers a request, the object that asked is in the configuration before the event.
use Rattle.std.proofs.Common.{◌≡◌, ◌∙◌, refl, sym, subst, ℕ, zero, suc, ◌+◌, ◌==◌, List, [], ◌∷◌, Option, Some, None, Bool, true, false, if◌then◌else◌}
use Rattle.std.specs.Prelude.{nat_lt}
use Rattle.std.specs.FinMap.{put}
use Rattle.run_types.specs.declared.types.Value.TheVariants as V
use Rattle.run_types.specs.declared.types.Label.{Label}
use Rattle.run_types.specs.declared.types.Label.TheVariants as L
use Rattle.run_types.specs.declared.types.What.{What}
use Rattle.run_types.specs.declared.types.What.TheVariants as W
use Rattle.run_types.specs.declared.types.FullKind.TheVariants as F
use Rattle.run_types.specs.declared.types.Event.{Event}
use Rattle.run_types.specs.declared.types.Event.TheVariants as Ev
use Rattle.run_types.specs.declared.types.Placement.{Placement}
use Rattle.run_types.proofs.Laws.{equal, same_some, given_by}
use Rattle.mesh_semantics.proofs.Laws.{each_head, turn_there, IsOfWire, TellsOfWire, tells_of_wire, running_gives, Fit}
use Rattle.run_types.specs.Asks.{asker_of, is_post_of}
use Rattle.run_types.specs.Tables.{Pair, pair_cmp}
use Rattle.mesh_semantics.specs.Kind as K
use Rattle.mesh_semantics.specs.Kind.{Kind, Alternative}
use Rattle.mesh_semantics.specs.Language.{Language}
use Rattle.mesh_semantics.specs.Lawful.{Lawful}
use Rattle.mesh_semantics.specs.Config.{Config}
use Rattle.mesh_semantics.specs.Moves.{running, move}
use Rattle.run_types.specs.Paths.{on_link, move_head}
use Rattle.mesh_semantics.specs.Wire.{Wire, Coming, Empty, Stale, Next, coming, take, wire_act}
use Rattle.mesh_semantics.specs.Delay as D
use Rattle.mesh_semantics.specs.Delay.{Packet, Arrival, Wires, Delay, wire_at, arrived_at, hold, free, post, take_arrival, count_made, stepped_last, cell_count}
use Rattle.run_types.specs.ObjectNames.{node_of}
use Rattle.mesh_semantics.specs.Act.{id, next_name, sent, Acted, Acts, Full, Nothing, act, within, shows, labelled, object_count, frame_count, local_steps, step_count, local_turn, goal_of, create_turn, first_arrival, accept_turn, chosen_turn, is_possible, choice_turn, object_turn, node_turn, turn_of, first_of, goal_node, received, passed, link_move, plain_act, on_wires, wire_move, wire_turn, act_over}
use Rattle.mesh_semantics.specs.Sound.{IsPlaced, IsSound, IsThere}

module _ {S : Type 0} (g : Language S) where
  -- who asks and who posts is there
  abbrev pub AreThere : Config S → Event → What → Type 0
  AreThere c e w = ((o : ℕ) → asker_of e w ≡ Some o → IsThere c o) × ((o : ℕ) → is_post_of o w ≡ true → IsThere c o)

  abbrev AreTold : Config S → Event → Acted S → Type 0
  AreTold c e (Acts w f h) = AreThere c e w
  AreTold c e (Full kind n) = Unit {0}
  AreTold c e Nothing = Unit {0}

  either_told : (c : Config S) (e : Event) (b : Bool) (x y : Acted S) → AreTold c e x → AreTold c e y → AreTold c e (if b then x else y)
  either_told c e true x y h k = h
  either_told c e false x y h k = k

  silent : (c : Config S) (e : Event) (w : What) → asker_of e w ≡ None → ((o : ℕ) → is_post_of o w ≡ false) → AreThere c e w
  silent c e w a p = (
    λ o h. absurd (let z : None ≡ Some o = sym a ∙ h in cc),
    λ o h. absurd (let z : false ≡ true = sym (p o) ∙ h in cc),
  )

  -- only this object asks
  asks_alone : (c : Config S) (e : Event) (w : What) (o : ℕ) → asker_of e w ≡ Some o → ((q : ℕ) → is_post_of q w ≡ false) → IsThere c o → AreThere c e w
  asks_alone c e w o a p h = (
    λ q i. subst (IsThere c) (same_some (sym a ∙ i)) h,
    λ q i. absurd (let z : false ≡ true = sym (p q) ∙ i in cc),
  )

  module _ (c : Config S) where
    runs_there : (o : ℕ) (x : S) → running g c o ≡ Some x → IsThere c o
    runs_there o x h = (x, (running_gives g c o x h).0)

    label_there : (e : Event) (lab : Label) (times : ℕ) (f : Config S) → move g c lab ≡ Some f → AreThere c e (W.Step lab times)
    label_there e (L.Local o) times f m = silent c e (W.Step (L.Local o) times) refl (λ q. refl)
    label_there (Ev.Turn n) (L.New o p k) times f m = silent c (Ev.Turn n) (W.Step (L.New o p k) times) refl (λ q. refl)
    label_there (Ev.Link a b) (L.New o p k) times f m =
        let x = given_by (running g c o) _ f m in
        asks_alone c (Ev.Link a b) (W.Step (L.New o p k) times) o refl (λ q. refl) (runs_there o x.0 x.1)
    label_there (Ev.Wire w a b) (L.New o p k) times f m = silent c (Ev.Wire w a b) (W.Step (L.New o p k) times) refl (λ q. refl)
    label_there e (L.Answer b o k args) times f m =
        let x = given_by (running g c o) _ f m in
        asks_alone c e (W.Step (L.Answer b o k args) times) o refl (λ q. refl) (runs_there o x.0 x.1)
    label_there e (L.Return b o v) times f m =
        let y = given_by (running g c b) _ f m in
        let x = given_by (running g c o) _ f y.2 in
        asks_alone c e (W.Step (L.Return b o v) times) o refl (λ q. refl) (runs_there o x.0 x.1)
    label_there e (L.Send o b k args) times f m = silent c e (W.Step (L.Send o b k args) times) refl (λ q. refl)
    label_there e (L.Take b s k args) times f m = silent c e (W.Step (L.Take b s k args) times) refl (λ q. refl)
    label_there e (L.Write o item) times f m = silent c e (W.Step (L.Write o item) times) refl (λ q. refl)
    label_there e (L.Pick o i) times f m = silent c e (W.Step (L.Pick o i) times) refl (λ q. refl)
    label_there e (L.Fault o error) times f m = silent c e (W.Step (L.Fault o error) times) refl (λ q. refl)

    labelled_told : (e : Event) (lab : Label) (d : Delay) → AreTold c e (labelled g c lab d)
    labelled_told e lab d = by (move g c lab) refl
      where
        by : (z : Option (Config S)) → move g c lab ≡ z → AreTold c e (shows lab 1 d z)
        by None i = tt
        by (Some f) i = label_there e lab 1 f i

    within_told : (e : Event) (l : Placement) (n : ℕ) (a : Acted S) → AreTold c e a → AreTold c e (within g l n a)
    within_told e l n (Full k m) h = tt
    within_told e l n Nothing h = tt
    within_told e l n (Acts what f d) h = by (nat_lt l.objects (object_count f n)) (nat_lt l.frames (frame_count g f n)) (nat_lt l.cells (cell_count d n))
      where
        by : (a b t : Bool) → AreTold c e (if a then Full F.Heap n else (if b then Full F.Frames n else (if t then Full F.Cells n else Acts what f d)))
        by true b t = tt
        by false true t = tt
        by false false true = tt
        by false false false = h

    -- a turn of an object that is there

    module _ (n : ℕ) where
      abbrev turn : Event
      turn = Ev.Turn n

      local_told : (o : ℕ) (d : Delay) (k : ℕ) (f : Option (Config S)) → AreTold c turn (local_turn n o d k f)
      local_told o d zero f = tt
      local_told o d (suc k) None = tt
      local_told o d (suc k) (Some f) = silent c turn (W.Step (L.Local o) (suc k)) refl (λ q. refl)

      accept_told : (d : Delay) (o : ℕ) (names : List ℕ) (f : Option Arrival) → AreTold c turn (accept_turn g c d o names f)
      accept_told d o names None = tt
      accept_told d o names (Some a) =
          either_told c turn a.is_call (labelled g c (L.Answer o a.sender (id a.method) a.args) (free a.sender (take_arrival o names d)))
          (labelled g c (L.Take o a.sender (id a.method) a.args) (take_arrival o names d))
          (labelled_told turn (L.Answer o a.sender (id a.method) a.args) (free a.sender (take_arrival o names d)))
          (labelled_told turn (L.Take o a.sender (id a.method) a.args) (take_arrival o names d))

      chosen_told : (d : Delay) (o i : ℕ) (names : Option (List ℕ)) → AreTold c turn (chosen_turn g c d o i names)
      chosen_told d o i None = labelled_told turn (L.Pick o i) d
      chosen_told d o i (Some names) = accept_told d o names (first_arrival names (arrived_at d o))

      choice_told : (d : Delay) (o i : ℕ) (alts : List Alternative) → AreTold c turn (choice_turn g c d o i alts)
      choice_told d o i [] = tt
      choice_told d o i (a ∷ alts) =
          either_told c turn (is_possible (arrived_at d o) a) (chosen_turn g c d o i a.names) (choice_turn g c d o (i + 1) alts)
          (chosen_told d o i a.names) (choice_told d o (i + 1) alts)

      posts_alone : (w : What) (o : ℕ) → asker_of turn w ≡ None → ((q : ℕ) → is_post_of q w ≡ true → o ≡ q) → IsThere c o → AreThere c turn w
      posts_alone w o a p h = (λ q i. absurd (let z : None ≡ Some q = sym a ∙ i in cc), λ q i. subst (IsThere c) (p q i) h)

      create_told : (l : Placement) (d : Delay) (o class goal : ℕ) → IsThere c o → AreTold c turn (create_turn g l c d n o class goal)
      create_told l d o class goal h =
          either_told c turn (goal == n) (labelled g c (L.New o (next_name c n) (id class)) (count_made n class d))
          (Acts (W.PostCreate o (id class) goal) c (hold o D.Posted (post l n goal (D.Create o goal class) (count_made n class d))))
          (labelled_told turn (L.New o (next_name c n) (id class)) (count_made n class d))
          (posts_alone (W.PostCreate o (id class) goal) o refl (λ q i. equal o q i) h)

      object_told : (l : Placement) (q : ℕ) (d : Delay) (o : ℕ) (k : Kind) → IsThere c o → AreTold c turn (object_turn g l q c d n o k)
      object_told l q d o K.Local h = local_told o d (step_count g l q n o c) (local_steps g l n o (step_count g l q n o c) c)
      object_told l q d o (K.New class) h = create_told l d o class (goal_of g l d n class) h
      object_told l q d o (K.Send b m args) h = posts_alone (W.PostCall o b (id m) args) o refl (λ q i. equal o q i) h
      object_told l q d o (K.Async b m args) h = labelled_told turn (L.Send o b (id m) args) (sent l n o b false m args (D.Async o b m args) d)
      object_told l q d o (K.Select alts) h = choice_told d o 1 alts
      object_told l q d o (K.Return k v) h = labelled_told turn (L.Return o k v) (if node_of k == n then free k d else hold k (D.Due v) (post l n (node_of k) (D.Result k v) d))
      object_told l q d o (K.Write item) h = labelled_told turn (L.Write o item) d
      object_told l q d o (K.Fault error) h = labelled_told turn (L.Fault o error) d
      object_told l q d o _ h = tt

  module _ (Kept : Config S → Type 0) (law : Lawful g Kept) (l : Placement) (fit : Fit l) (c : Config S) (d : Delay) (s : IsSound g Kept l c d) where
    -- a packet has a sender
    received_told : (a b : ℕ) (x : Packet) → first_of (on_link d.links (a, b)) ≡ Some x → AreTold c (Ev.Link a b) (received g l c (record d { links = move_head (a, b) d.links }) b x)
    received_told a b (D.Create o goal class) head = labelled_told c (Ev.Link a b) (L.New o (next_name c b) (id class))
        (hold o (D.Due (V.Ref (next_name c b))) (post l b (node_of o) (D.Created o (next_name c b)) (record d { links = move_head (a, b) d.links })))
    received_told a b (D.Created o name) head =
        let placed = each_head (IsPlaced l c) (a, b) d.links (D.Created o name) head s.state.packets in
        asks_alone c (Ev.Link a b) (W.Created o name) o refl (λ q. refl) placed.sender
    received_told a b (D.Request o r m args) head = silent c (Ev.Link a b) (W.Arrive o r (id m)) refl (λ q. refl)
    received_told a b (D.Result o v) head =
        let placed = each_head (IsPlaced l c) (a, b) d.links (D.Result o v) head s.state.packets in
        asks_alone c (Ev.Link a b) (W.Result o v) o refl (λ q. refl) placed.sender
    received_told a b (D.Async o r m args) head = silent c (Ev.Link a b) (W.Arrive o r (id m)) refl (λ q. refl)

    link_told : (a b : ℕ) → AreTold c (Ev.Link a b) (link_move g l c d a b (first_of (on_link d.links (a, b))))
    link_told a b = by (first_of (on_link d.links (a, b))) refl
      where
        by : (f : Option Packet) → first_of (on_link d.links (a, b)) ≡ f → AreTold c (Ev.Link a b) (link_move g l c d a b f)
        by None e = silent c (Ev.Link a b) W.Idle refl (λ q. refl)
        by (Some x) e = within_told c (Ev.Link a b) l b (passed g l c (record d { links = move_head (a, b) d.links }) b x)
            (either_told c (Ev.Link a b) (goal_node x == b) (received g l c (record d { links = move_head (a, b) d.links }) b x) (Acts W.Pass c (post l b (goal_node x) x (record d { links = move_head (a, b) d.links })))
            (received_told a b x e) (silent c (Ev.Link a b) W.Pass refl (λ q. refl)))

    plain_told : (q : ℕ) (e : Event) → AreTold c e (plain_act g l q c d e)
    plain_told q (Ev.Wire w a b) = silent c (Ev.Wire w a b) W.Idle refl (λ q. refl)
    plain_told q (Ev.Link a b) = link_told a b
    plain_told q (Ev.Turn n) = by (turn_of g c d n) refl
      where
        by : (z : Option (ℕ × S)) → turn_of g c d n ≡ z → AreTold c (Ev.Turn n) (node_turn g l q c d n z)
        by None i = silent c (Ev.Turn n) W.Idle refl (λ q. refl)
        by (Some e) i =
            within_told c (Ev.Turn n) l n (object_turn g l q c (stepped_last n e.0 d) n e.0 (g.kind e.0 e.1))
            (object_told c n l q (stepped_last n e.0 d) e.0 (g.kind e.0 e.1) (e.1, turn_there g Kept law l fit c d n e s i))

    entered_told : (e : Event) (before : List (Pair × Packet)) (ws : Wires) (a : Acted S) → AreTold c e a → AreTold c e (on_wires before ws a)
    entered_told e before ws (Acts what f h) t = t
    entered_told e before ws (Full k n) t = tt
    entered_told e before ws Nothing t = tt

    wire_told : (e : Event) (what : What) → IsOfWire what → AreThere c e what
    wire_told e (W.Frame k) h = silent c e (W.Frame k) refl (λ q. refl)
    wire_told e (W.Lost k) h = silent c e (W.Lost k) refl (λ q. refl)
    wire_told e (W.Stale k) h = silent c e (W.Stale k) refl (λ q. refl)
    wire_told e (W.Acked k) h = silent c e (W.Acked k) refl (λ q. refl)
    wire_told e (W.Late k) h = silent c e (W.Late k) refl (λ q. refl)
    wire_told e (W.Step label times) h = absurd h
    wire_told e (W.PostCreate o k goal) h = absurd h
    wire_told e (W.PostCall o r m args) h = absurd h
    wire_told e (W.Arrive o r m) h = absurd h
    wire_told e (W.Created o name) h = absurd h
    wire_told e (W.Result o v) h = absurd h
    wire_told e W.Pass h = absurd h
    wire_told e W.Idle h = silent c e W.Idle refl (λ q. refl)

    act_told : (q : ℕ) (e : Event) → AreTold c e (act g l q c d e)
    act_told q e = by d.wires e
      where
        comes : (ws : Wires) (a b : ℕ) (x : Coming Packet) → AreTold c (Ev.Link a b) (wire_move g l c d ws a b x)
        comes ws a b Empty = silent c (Ev.Link a b) W.Idle refl (λ q. refl)
        comes ws a b (Stale n) = silent c (Ev.Link a b) (W.Stale n) refl (λ q. refl)
        comes ws a b (Next x) = entered_told (Ev.Link a b) (move_head (a, b) d.links) (put pair_cmp (a, b) (take (wire_at ws (a, b))) ws) (link_move g l c d a b (first_of (on_link d.links (a, b)))) (link_told a b)

        turns : (e : Event) (ws : Wires) (k : Pair) (r : Option (What × Wire Packet)) → TellsOfWire r → AreTold c e (wire_turn c d ws k r)
        turns e ws k None h = silent c e W.Idle refl (λ q. refl)
        turns e ws k (Some r) h = wire_told e r.0 h

        by : (o : Option Wires) (e : Event) → AreTold c e (act_over g l q c d o e)
        by None e = plain_told q e
        by (Some ws) (Ev.Turn n) = entered_told (Ev.Turn n) d.links ws (plain_act g l q c d (Ev.Turn n)) (plain_told q (Ev.Turn n))
        by (Some ws) (Ev.Link a b) = comes ws a b (coming (wire_at ws (a, b)))
        by (Some ws) (Ev.Wire w a b) = turns (Ev.Wire w a b) ws (a, b) (wire_act w (wire_at ws (a, b))) (tells_of_wire w (wire_at ws (a, b)))

    -- the line of an event
    pub act_there : (q : ℕ) (e : Event) (what : What) (f : Config S) (h : Delay) → act g l q c d e ≡ Acts what f h → AreThere c e what
    act_there q e what f h i = subst (AreTold c e) i (act_told q e)
