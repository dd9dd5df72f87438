-- If each link hands out its own head, an event puts packets after those that were on the links, and leaves wires
-- unchanged.
use Rattle.std.proofs.Common.{◌≡◌, refl, sym, ℕ, zero, suc, ◌+◌, ◌==◌, List, [], ◌∷◌, ◌++◌, append-nil, Option, Some, None, Bool, true, false, nat_lt, if◌then◌else◌}
use Rattle.run_types.specs.declared.types.Value.{Value}
use Rattle.run_types.specs.declared.types.Value.TheVariants as V
use Rattle.run_types.specs.declared.types.Label.{Label}
use Rattle.run_types.specs.declared.types.Label.TheVariants as L
use Rattle.run_types.specs.declared.types.Placement.{Placement}
use Rattle.run_types.specs.Tables.{Pair}
use Rattle.mesh_semantics.specs.Kind as K
use Rattle.mesh_semantics.specs.Kind.{Kind, Alternative}
use Rattle.mesh_semantics.specs.Language.{Language}
use Rattle.mesh_semantics.specs.Config.{Config}
use Rattle.mesh_semantics.specs.Moves.{move}
use Rattle.run_types.specs.Paths.{next, move_head}
use Rattle.mesh_semantics.specs.Delay as D
use Rattle.mesh_semantics.specs.Delay.{Packet, Arrival, Wires, Delay, stepped_last, arrived_at, cell_count, free, hold, count_made, take_arrival, post}
use Rattle.run_types.specs.ObjectNames.{node_of}
use Rattle.mesh_semantics.specs.Act.{Acted, Acts, Full, Nothing, within, shows, labelled, local_steps, step_count, local_turn, goal_of, create_turn, accept_turn, chosen_turn, choice_turn, is_possible, first_arrival, object_turn, node_turn, received, passed, goal_node, link_move, object_count, frame_count, id, next_name, sent}

-- on the links are these packets and more behind them, and the wires are these
abbrev pub Behind : List (Pair × Packet) → Option Wires → Delay → Type 0
Behind before ws d = (more : List (Pair × Packet)) × (d.links ≡ before ++ more) × (d.wires ≡ ws)

abbrev pub PutsBehind : {S : Type 0} → List (Pair × Packet) → Option Wires → Acted S → Type 0
PutsBehind before ws (Acts w c d) = Behind before ws d
PutsBehind before ws (Full k n) = Unit {0}
PutsBehind before ws Nothing = Unit {0}

module _ {S : Type 0} (g : Language S) (l : Placement) where
  same_links : (d : Delay) → Behind d.links d.wires d
  same_links d = ([], sym (append-nil d.links), refl)

  within_enters : (before : List (Pair × Packet)) (ws : Option Wires) (n : ℕ) (x : Acted S) → PutsBehind before ws x → PutsBehind before ws (within g l n x)
  within_enters before ws n (Full k m) h = tt
  within_enters before ws n Nothing h = tt
  within_enters before ws n (Acts w c d) h = by (nat_lt l.objects (object_count c n)) (nat_lt l.frames (frame_count g c n)) (nat_lt l.cells (cell_count d n)) refl refl refl
    where
      by : (i j k : Bool) → nat_lt l.objects (object_count c n) ≡ i → nat_lt l.frames (frame_count g c n) ≡ j → nat_lt l.cells (cell_count d n) ≡ k → PutsBehind before ws (within g l n (Acts w c d))
      by true j k p q r = rw p tt
      by false true k p q r = rw (p, q) tt
      by false false true p q r = rw (p, q, r) tt
      by false false false p q r = rw (p, q, r) h

  shows_enters : (before : List (Pair × Packet)) (ws : Option Wires) (x : Label) (t : ℕ) (d : Delay) (c : Option (Config S)) → Behind before ws d → PutsBehind before ws (shows x t d c)
  shows_enters before ws x t d None h = tt
  shows_enters before ws x t d (Some c) h = h

  labelled_enters : (before : List (Pair × Packet)) (ws : Option Wires) (c : Config S) (x : Label) (d : Delay) → Behind before ws d → PutsBehind before ws (labelled g c x d)
  labelled_enters before ws c x d h = shows_enters before ws x 1 d (move g c x) h

  local_enters : (n o : ℕ) (d : Delay) (k : ℕ) (c : Option (Config S)) → PutsBehind d.links d.wires (local_turn n o d k c)
  local_enters n o d zero c = tt
  local_enters n o d (suc k) c = shows_enters d.links d.wires (L.Local o) (suc k) d c (same_links d)

  create_enters : (c : Config S) (d : Delay) (n o class goal : ℕ) → PutsBehind d.links d.wires (create_turn g l c d n o class goal)
  create_enters c d n o class goal = by (goal == n) refl
    where
      by : (t : Bool) → (goal == n) ≡ t → PutsBehind d.links d.wires (create_turn g l c d n o class goal)
      by true e = rw e (labelled_enters d.links d.wires c (L.New o (next_name c n) (id class)) (count_made n class d) (same_links d))
      by false e = rw e ((((n, next l n goal), D.Create o goal class) ∷ [], refl, refl))

  sent_enters : (n o b : ℕ) (is_call : Bool) (m : ℕ) (args : List Value) (x : Packet) (d : Delay) → Behind d.links d.wires (sent l n o b is_call m args x d)
  sent_enters n o b is_call m args x d = by (node_of b == n) refl
    where
      by : (t : Bool) → (node_of b == n) ≡ t → Behind d.links d.wires (sent l n o b is_call m args x d)
      by true e = rw e (same_links d)
      by false e = rw e (((n, next l n (node_of b)), x) ∷ [], refl, refl)

  return_enters : (c : Config S) (d : Delay) (n o k : ℕ) (v : Value)
      → PutsBehind d.links d.wires (labelled g c (L.Return o k v) (if node_of k == n then free k d else hold k (D.Due v) (post l n (node_of k) (D.Result k v) d)))
  return_enters c d n o k v = labelled_enters d.links d.wires c (L.Return o k v) _ (by (node_of k == n))
    where
      by : (t : Bool) → Behind d.links d.wires (if t then free k d else hold k (D.Due v) (post l n (node_of k) (D.Result k v) d))
      by true = same_links d
      by false = (((n, next l n (node_of k)), D.Result k v) ∷ [], refl, refl)

  accept_enters : (c : Config S) (d : Delay) (o : ℕ) (names : List ℕ) (a : Option Arrival) → PutsBehind d.links d.wires (accept_turn g c d o names a)
  accept_enters c d o names None = tt
  accept_enters c d o names (Some a) = by a.is_call refl
    where
      by : (t : Bool) → a.is_call ≡ t → PutsBehind d.links d.wires (accept_turn g c d o names (Some a))
      by true e = rw e (labelled_enters d.links d.wires c (L.Answer o a.sender (id a.method) a.args) (free a.sender (take_arrival o names d)) (same_links d))
      by false e = rw e (labelled_enters d.links d.wires c (L.Take o a.sender (id a.method) a.args) (take_arrival o names d) (same_links d))

  chosen_enters : (c : Config S) (d : Delay) (o i : ℕ) (names : Option (List ℕ)) → PutsBehind d.links d.wires (chosen_turn g c d o i names)
  chosen_enters c d o i None = labelled_enters d.links d.wires c (L.Pick o i) d (same_links d)
  chosen_enters c d o i (Some names) = accept_enters c d o names (first_arrival names (arrived_at d o))

  choice_enters : (c : Config S) (d : Delay) (o i : ℕ) (alts : List Alternative) → PutsBehind d.links d.wires (choice_turn g c d o i alts)
  choice_enters c d o i [] = tt
  choice_enters c d o i (a ∷ alts) = by (is_possible (arrived_at d o) a) refl (choice_enters c d o (i + 1) alts)
    where
      by : (t : Bool) → is_possible (arrived_at d o) a ≡ t → PutsBehind d.links d.wires (choice_turn g c d o (i + 1) alts) → PutsBehind d.links d.wires (choice_turn g c d o i (a ∷ alts))
      by true e k = rw e (chosen_enters c d o i a.names)
      by false e k = rw e k

  object_enters : (q : ℕ) (c : Config S) (d : Delay) (n o : ℕ) (k : Kind) → PutsBehind d.links d.wires (object_turn g l q c d n o k)
  object_enters q c d n o K.Finished = tt
  object_enters q c d n o K.Local = local_enters n o d (step_count g l q n o c) (local_steps g l n o (step_count g l q n o c) c)
  object_enters q c d n o (K.Fault x) = labelled_enters d.links d.wires c (L.Fault o x) d (same_links d)
  object_enters q c d n o (K.New class) = create_enters c d n o class (goal_of g l d n class)
  object_enters q c d n o (K.Send b m args) = sent_enters n o b true m args (D.Request o b m args) d
  object_enters q c d n o (K.Async b m args) =
      labelled_enters d.links d.wires c (L.Send o b (id m) args) (sent l n o b false m args (D.Async o b m args) d) (sent_enters n o b false m args (D.Async o b m args) d)
  object_enters q c d n o (K.Write item) = labelled_enters d.links d.wires c (L.Write o item) d (same_links d)
  object_enters q c d n o (K.Select alts) = choice_enters c d o 1 alts
  object_enters q c d n o (K.Return k v) = return_enters c d n o k v
  object_enters q c d n o (K.Waits b m) = tt
  object_enters q c d n o K.Stuck = tt

  pub turn_enters : (q : ℕ) (c : Config S) (d : Delay) (n : ℕ) (e : Option (ℕ × S)) → PutsBehind d.links d.wires (node_turn g l q c d n e)
  turn_enters q c d n None = same_links d
  turn_enters q c d n (Some e) = within_enters d.links d.wires n _ (object_enters q c (stepped_last n e.0 d) n e.0 (g.kind e.0 e.1))

  received_enters : (c : Config S) (d : Delay) (b : ℕ) (x : Packet) → PutsBehind d.links d.wires (received g l c d b x)
  received_enters c d b (D.Create o goal class) = labelled_enters d.links d.wires c (L.New o (next_name c b) (id class))
      (hold o (D.Due (V.Ref (next_name c b))) (post l b (node_of o) (D.Created o (next_name c b)) d)) ((((b, next l b (node_of o)), D.Created o (next_name c b)) ∷ [], refl, refl))
  received_enters c d b (D.Created o name) = same_links d
  received_enters c d b (D.Request o r m args) = same_links d
  received_enters c d b (D.Result o v) = same_links d
  received_enters c d b (D.Async o r m args) = same_links d

  passed_enters : (c : Config S) (d : Delay) (b : ℕ) (x : Packet) → PutsBehind d.links d.wires (passed g l c d b x)
  passed_enters c d b x = by (goal_node x == b) refl
    where
      by : (t : Bool) → (goal_node x == b) ≡ t → PutsBehind d.links d.wires (passed g l c d b x)
      by true e = rw e (received_enters c d b x)
      by false e = rw e (((b, next l b (goal_node x)), x) ∷ [], refl, refl)

  pub move_enters : (c : Config S) (d : Delay) (a b : ℕ) (x : Packet) → PutsBehind (move_head (a, b) d.links) d.wires (link_move g l c d a b (Some x))
  move_enters c d a b x = within_enters (move_head (a, b) d.links) d.wires b _ (passed_enters c (record d { links = move_head (a, b) d.links }) b x)
