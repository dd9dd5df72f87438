-- If objects correspond, every event has the same line or the same limit, and the configurations after it correspond.
use Rattle.std.proofs.Common.{◌≡◌, refl, sym, ap, ap₂, subst, ◌∙◌, ℕ, zero, suc, ◌+◌, ◌*◌, ◌==◌, List, [], ◌∷◌, Option, Some, None, is_some, is_none, Bool, true, false, not, ◌&&◌, ◌||◌, if◌then◌else◌, nat_lt, nat_le, slice_get}
use Rattle.std.specs.Prelude.{filter, length, drop}
use Rattle.std.specs.List.{list_any}
use Rattle.std.specs.Ordering.{nat_cmp}
use Rattle.std.specs.FinMap.{find, put}
use Rattle.run_types.specs.declared.types.Value.TheVariants as V
use Rattle.run_types.specs.declared.types.Event.{Event}
use Rattle.run_types.specs.declared.types.Event.TheVariants as Ev
use Rattle.run_types.specs.declared.types.Label.{Label}
use Rattle.run_types.specs.declared.types.Label.TheVariants as L
use Rattle.run_types.specs.declared.types.What.{What}
use Rattle.run_types.specs.declared.types.What.TheVariants as W'
use Rattle.run_types.specs.declared.types.FullKind.TheVariants as F
use Rattle.run_types.specs.declared.types.Placement.{Placement}
use Rattle.run_types.specs.Tables.{Pair, pair_cmp}
use Rattle.run_types.specs.Partial.{◌>>=◌}
use Rattle.mesh_semantics.specs.Kind as K
use Rattle.mesh_semantics.specs.Kind.{Kind, Alternative}
use Rattle.mesh_semantics.specs.Language.{Language}
use Rattle.mesh_semantics.specs.Config.{Config}
use Rattle.mesh_semantics.specs.Moves.{move}
use Rattle.run_types.specs.Paths.{total, on_link, move_head}
use Rattle.mesh_semantics.specs.Delay as D
use Rattle.mesh_semantics.specs.Wire.{Wire, Coming, Empty, Stale, Next, coming, take, wire_act}
use Rattle.mesh_semantics.specs.Delay.{Packet, Arrival, Wires, Delay, wire_at, enter_all, post, arrived_at, take_arrival, held, hold, free, count_made, stepped_last, cell_count}
use Rattle.run_types.specs.ObjectNames.{node_of}
use Rattle.mesh_semantics.specs.Act.{id, object_count, frame_count, is_possible, can_step, is_ready, ready_at, first_of, first_arrival, is_above, turn_of, Acted, Acts, Full, Nothing, within, shows, labelled, within_frames, local_steps, greatest, step_count, local_turn, class_place, goal_by, goal_of, next_name, create_turn, sent, accept_turn, chosen_turn, choice_turn, object_turn, node_turn, received, goal_node, passed, link_move, plain_act, on_wires, wire_move, wire_turn, act_over, act, is_acknowledged, is_quiet}
use Rattle.std.specs.Option.{option_or}
use Rattle.run_types.specs.declared.types.Line.TheVariants as R'
use Rattle.run_types.specs.declared.types.End.TheVariants as E'
use Rattle.mesh_semantics.specs.Record.{after, record_from}
use Rattle.mesh_semantics.specs.Simulates.{Both, Simulates, Zipped, Related, SameAct}
use Rattle.mesh_semantics.proofs.EventSimulation.{move_same}

module _ {S T : Type 0} (g : Language S) (h : Language T) (W : Config S → Type 0) (R : ℕ → S → T → Type 0) (sim : Simulates g h W R) (kept : (c d : Config S) (lab : Label) → W c → move g c lab ≡ Some d → W d) where
  -- counts

  totals : (p : ℕ × S → ℕ) (q : ℕ × T → ℕ) → ((o : ℕ) (x : S) (y : T) → R o x y → p (o, x) ≡ q (o, y)) → (es : List (ℕ × S)) (fs : List (ℕ × T)) → Zipped R es fs → total p es ≡ total q fs
  totals p q k [] [] z = refl
  totals p q k [] (f ∷ fs) z = absurd z
  totals p q k (e ∷ es) [] z = absurd z
  totals p q k (e ∷ es) (f ∷ fs) z = ap₂ ◌+◌ (k e.0 e.1 f.1 z.1 ∙ ap (λ n. q (n, f.1)) z.0) (totals p q k es fs z.2)

  pub objects_same : (c : Config S) (e : Config T) (n : ℕ) → Related R c e → object_count c n ≡ object_count e n
  objects_same c e n z = totals (λ e. if node_of e.0 == n then 1 else 0) (λ e. if node_of e.0 == n then 1 else 0) (λ o x y r. refl) c.objects e.objects z.objects

  pub frames_same : (c : Config S) (e : Config T) (n : ℕ) → Related R c e → frame_count g c n ≡ frame_count h e n
  frames_same c e n z = totals (λ e. if node_of e.0 == n then 1 + g.frames e.1 else 0) (λ e. if node_of e.0 == n then 1 + h.frames e.1 else 0)
      (λ o x y r. ap (λ k. if node_of o == n then 1 + k else 0) (sim.frames o x y r)) c.objects e.objects z.objects

  name_same : (c : Config S) (e : Config T) (n : ℕ) → Related R c e → next_name c n ≡ next_name e n
  name_same c e n z = ap (λ k. n * 65536 + k) (objects_same c e n z)

  -- whose turn it is

  filtered : (p : ℕ × S → Bool) (q : ℕ × T → Bool) → ((o : ℕ) (x : S) (y : T) → R o x y → p (o, x) ≡ q (o, y)) → (es : List (ℕ × S)) (fs : List (ℕ × T)) → Zipped R es fs → Zipped R (filter p es) (filter q fs)
  filtered p q k [] [] z = tt
  filtered p q k [] (f ∷ fs) z = absurd z
  filtered p q k (e ∷ es) [] z = absurd z
  filtered p q k (e ∷ es) (f ∷ fs) z = by (p e) refl (filtered p q k es fs z.2)
    where
      by : (b : Bool) → p e ≡ b → Zipped R (filter p es) (filter q fs) → Zipped R (filter p (e ∷ es)) (filter q (f ∷ fs))
      by true i r = let j : q f ≡ true = sym (k e.0 e.1 f.1 z.1 ∙ ap (λ n. q (n, f.1)) z.0) ∙ i in rw (i, j) (z.0, z.1, r)
      by false i r = let j : q f ≡ false = sym (k e.0 e.1 f.1 z.1 ∙ ap (λ n. q (n, f.1)) z.0) ∙ i in rw (i, j) r

  abbrev pub Twins : ℕ × S → ℕ × T → Type 0
  Twins e f = (e.0 ≡ f.0) × R e.0 e.1 f.1

  firsts : (es : List (ℕ × S)) (fs : List (ℕ × T)) → Zipped R es fs → Both Twins (first_of es) (first_of fs)
  firsts [] [] z = tt
  firsts [] (f ∷ fs) z = absurd z
  firsts (e ∷ es) [] z = absurd z
  firsts (e ∷ es) (f ∷ fs) z = (z.0, z.1)

  either : (a b : Option (ℕ × S)) (c d : Option (ℕ × T)) → Both Twins a c → Both Twins b d → Both Twins (option_or a b) (option_or c d)
  either None b None d p q = q
  either None b (Some f) d p q = absurd p
  either (Some e) b None d p q = absurd p
  either (Some e) b (Some f) d p q = p

  turn_same : (c : Config S) (e : Config T) (d : Delay) (n : ℕ) → Related R c e → Both Twins (turn_of g c d n) (turn_of h e d n)
  turn_same c e d n z =
      let ready : Zipped R (ready_at g c d n) (ready_at h e d n) = filtered (λ e. node_of e.0 == n && is_ready g d e.0 e.1) (λ e. node_of e.0 == n && is_ready h d e.0 e.1)
      (λ o x y r. ap₂ (λ f k. node_of o == n && (is_none (held d o) && is_none f && can_step (arrived_at d o) k)) (sim.faults o x y r) (sim.kinds o x y r)) c.objects e.objects z.objects in
      let above = filtered (λ e. is_above (find nat_cmp n d.last) e.0) (λ e. is_above (find nat_cmp n d.last) e.0) (λ o x y r. refl) (ready_at g c d n) (ready_at h e d n) ready in
      either (first_of (filter (λ e. is_above (find nat_cmp n d.last) e.0) (ready_at g c d n))) (first_of (ready_at g c d n))
      (first_of (filter (λ e. is_above (find nat_cmp n d.last) e.0) (ready_at h e d n))) (first_of (ready_at h e d n)) (firsts _ _ above) (firsts _ _ ready)

  -- steps

  shown_same : (lab : Label) (k : ℕ) (d : Delay) (a : Option (Config S)) (b : Option (Config T)) → Both (Related R) a b → SameAct R (shows lab k d a) (shows lab k d b)
  shown_same lab k d None None r = tt
  shown_same lab k d None (Some e) r = absurd r
  shown_same lab k d (Some c) None r = absurd r
  shown_same lab k d (Some c) (Some e) r = (refl, r, refl)

  within_same : (l : Placement) (n : ℕ) (a : Acted S) (b : Acted T) → SameAct R a b → SameAct R (within g l n a) (within h l n b)
  within_same l n (Acts w c d) (Acts v e f) (i, z, j) = rw (objects_same c e n z, frames_same c e n z, j) (by (nat_lt l.objects (object_count e n)) (nat_lt l.frames (frame_count h e n)) (nat_lt l.cells (cell_count f n)))
    where
      by : (t u s : Bool) → SameAct R (if t then Full F.Heap n else (if u then Full F.Frames n else (if s then Full F.Cells n else Acts w c f))) (if t then Full F.Heap n else (if u then Full F.Frames n else (if s then Full F.Cells n else Acts v e f)))
      by true u s = (refl, refl)
      by false true s = (refl, refl)
      by false false true = (refl, refl)
      by false false false = (i, z, refl)
  within_same l n (Full k m) (Full j q) r = r
  within_same l n Nothing Nothing r = tt
  within_same l n (Acts w c d) (Full j q) r = absurd r
  within_same l n (Acts w c d) Nothing r = absurd r
  within_same l n (Full k m) (Acts v e f) r = absurd r
  within_same l n (Full k m) Nothing r = absurd r
  within_same l n Nothing (Acts v e f) r = absurd r
  within_same l n Nothing (Full j q) r = absurd r

  -- local transitions, with what is kept
  data Locals (a : Option (Config S)) (b : Option (Config T)) : Type 0 where
    Ended : a ≡ None → b ≡ None → Locals a b
    At : (c : Config S) (e : Config T) → a ≡ Some c → b ≡ Some e → W c → Related R c e → Locals a b

  locals : (l : Placement) (n o k : ℕ) (c : Config S) (e : Config T) → W c → Related R c e → Locals (local_steps g l n o k c) (local_steps h l n o k e)
  locals l n o zero c e w z = At c e refl refl w z
  locals l n o (suc k) c e w z = by (locals l n o k c e w z)
    where
      step : (c' : Config S) (e' : Config T) → W c' → Related R c' e' → (a : Option (Config S)) (b : Option (Config T)) → move g c' (L.Local o) ≡ a → Both (Related R) a b
          → Locals (a >>= within_frames g l n) (b >>= within_frames h l n)
      step c' e' w' z' None None i r = Ended refl refl
      step c' e' w' z' None (Some e2) i r = absurd r
      step c' e' w' z' (Some c2) None i r = absurd r
      step c' e' w' z' (Some c2) (Some e2) i r = at (nat_le (frame_count h e2 n) l.frames) refl
        where
          at : (t : Bool) → nat_le (frame_count h e2 n) l.frames ≡ t → Locals (within_frames g l n c2) (within_frames h l n e2)
          at true j = let f = frames_same c2 e2 n r in At c2 e2 (rw (f, j) refl) (rw j refl) (kept c' c2 (L.Local o) w' i) r
          at false j = let f = frames_same c2 e2 n r in Ended (rw (f, j) refl) (rw j refl)

      by : Locals (local_steps g l n o k c) (local_steps h l n o k e) → Locals (local_steps g l n o (suc k) c) (local_steps h l n o (suc k) e)
      by (Ended i j) = Ended (rw i refl) (rw j refl)
      by (At c' e' i j w' z') = rw (i, j) (step c' e' w' z' (move g c' (L.Local o)) (move h e' (L.Local o)) refl (move_same g h W R sim kept c' e' w' z' (L.Local o)))

  greatest_same : (p q : ℕ → Bool) → ((k : ℕ) → p k ≡ q k) → (n : ℕ) → greatest p n ≡ greatest q n
  greatest_same p q k zero = refl
  greatest_same p q k (suc n) = ap₂ (λ b m. if b then suc n else m) (k (suc n)) (greatest_same p q k n)

  local_same : (l : Placement) (n o q : ℕ) (d : Delay) (c : Config S) (e : Config T) → W c → Related R c e
      → SameAct R (local_turn n o d (step_count g l q n o c) (local_steps g l n o (step_count g l q n o c) c)) (local_turn n o d (step_count h l q n o e) (local_steps h l n o (step_count h l q n o e) e))
  local_same l n o q d c e w z = rw same (by (step_count h l q n o e))
    where
      is : (k : ℕ) → Locals (local_steps g l n o k c) (local_steps h l n o k e) → is_some (local_steps g l n o k c) ≡ is_some (local_steps h l n o k e)
      is k (Ended i j) = rw (i, j) refl
      is k (At c' e' i j w' z') = rw (i, j) refl

      same : step_count g l q n o c ≡ step_count h l q n o e
      same = greatest_same (λ k. is_some (local_steps g l n o k c)) (λ k. is_some (local_steps h l n o k e)) (λ k. is k (locals l n o k c e w z)) q

      by : (k : ℕ) → SameAct R (local_turn n o d k (local_steps g l n o k c)) (local_turn n o d k (local_steps h l n o k e))
      by zero = (refl, refl)
      by (suc k) = on (locals l n o (suc k) c e w z)
        where
          on : Locals (local_steps g l n o (suc k) c) (local_steps h l n o (suc k) e) → SameAct R (local_turn n o d (suc k) (local_steps g l n o (suc k) c)) (local_turn n o d (suc k) (local_steps h l n o (suc k) e))
          on (Ended i j) = rw (i, j) tt
          on (At c' e' i j w' z') = rw (i, j) (refl, z', refl)

  module _ (c : Config S) (e : Config T) (w : W c) (z : Related R c e) where
    labelled_same : (lab : Label) (d : Delay) → SameAct R (labelled g c lab d) (labelled h e lab d)
    labelled_same lab d = shown_same lab 1 d (move g c lab) (move h e lab) (move_same g h W R sim kept c e w z lab)

    chosen_same : (d : Delay) (o i : ℕ) (names : Option (List ℕ)) → SameAct R (chosen_turn g c d o i names) (chosen_turn h e d o i names)
    chosen_same d o i None = labelled_same (L.Pick o i) d
    chosen_same d o i (Some names) = by (first_arrival names (arrived_at d o))
      where
        by : (f : Option Arrival) → SameAct R (accept_turn g c d o names f) (accept_turn h e d o names f)
        by None = tt
        by (Some a) = on a.is_call
          where
            on : (t : Bool) → SameAct R (if t then labelled g c (L.Answer o a.sender (id a.method) a.args) (free a.sender (take_arrival o names d)) else labelled g c (L.Take o a.sender (id a.method) a.args) (take_arrival o names d))
                (if t then labelled h e (L.Answer o a.sender (id a.method) a.args) (free a.sender (take_arrival o names d)) else labelled h e (L.Take o a.sender (id a.method) a.args) (take_arrival o names d))
            on true = labelled_same (L.Answer o a.sender (id a.method) a.args) (free a.sender (take_arrival o names d))
            on false = labelled_same (L.Take o a.sender (id a.method) a.args) (take_arrival o names d)

    choice_same : (d : Delay) (o i : ℕ) (alts : List Alternative) → SameAct R (choice_turn g c d o i alts) (choice_turn h e d o i alts)
    choice_same d o i [] = tt
    choice_same d o i (a ∷ alts) = by (is_possible (arrived_at d o) a) (choice_same d o (i + 1) alts)
      where
        by : (t : Bool) → SameAct R (choice_turn g c d o (i + 1) alts) (choice_turn h e d o (i + 1) alts)
            → SameAct R (if t then chosen_turn g c d o i a.names else choice_turn g c d o (i + 1) alts) (if t then chosen_turn h e d o i a.names else choice_turn h e d o (i + 1) alts)
        by true k = chosen_same d o i a.names
        by false k = k

    create_same : (l : Placement) (d : Delay) (n o k goal : ℕ) → SameAct R (create_turn g l c d n o k goal) (create_turn h l e d n o k goal)
    create_same l d n o k goal = by (goal == n)
      where
        by : (t : Bool) → SameAct R (if t then labelled g c (L.New o (next_name c n) (id k)) (count_made n k d) else Acts (W'.PostCreate o (id k) goal) c (hold o D.Posted (post l n goal (D.Create o goal k) (count_made n k d))))
            (if t then labelled h e (L.New o (next_name e n) (id k)) (count_made n k d) else Acts (W'.PostCreate o (id k) goal) e (hold o D.Posted (post l n goal (D.Create o goal k) (count_made n k d))))
        by true = rw (name_same c e n z) (labelled_same (L.New o (next_name e n) (id k)) (count_made n k d))
        by false = (refl, z, refl)

    object_same : (l : Placement) (q : ℕ) (d : Delay) (n o : ℕ) (k : Kind) → SameAct R (object_turn g l q c d n o k) (object_turn h l q e d n o k)
    object_same l q d n o K.Local = local_same l n o q d c e w z
    object_same l q d n o (K.New class) =
        subst (λ ks. SameAct R (create_turn g l c d n o class (goal_of g l d n class)) (create_turn h l e d n o class (goal_by l d n class (slice_get l.places (class_place ks class))))) sim.classes
        (create_same l d n o class (goal_of g l d n class))
    object_same l q d n o (K.Send b m args) = (refl, z, refl)
    object_same l q d n o (K.Async b m args) = labelled_same (L.Send o b (id m) args) (sent l n o b false m args (D.Async o b m args) d)
    object_same l q d n o (K.Select alts) = choice_same d o 1 alts
    object_same l q d n o (K.Return k v) = labelled_same (L.Return o k v) (if node_of k == n then free k d else hold k (D.Due v) (post l n (node_of k) (D.Result k v) d))
    object_same l q d n o (K.Write item) = labelled_same (L.Write o item) d
    object_same l q d n o (K.Fault f) = labelled_same (L.Fault o f) d
    object_same l q d n o K.Finished = tt
    object_same l q d n o (K.Waits b m) = tt
    object_same l q d n o K.Stuck = tt

    received_same : (l : Placement) (d : Delay) (b : ℕ) (x : Packet) → SameAct R (received g l c d b x) (received h l e d b x)
    received_same l d b (D.Create o goal k) = rw (name_same c e b z) (labelled_same (L.New o (next_name e b) (id k)) (hold o (D.Due (V.Ref (next_name e b))) (post l b (node_of o) (D.Created o (next_name e b)) d)))
    received_same l d b (D.Created o name) = (refl, z, refl)
    received_same l d b (D.Request o r m args) = (refl, z, refl)
    received_same l d b (D.Result o v) = (refl, z, refl)
    received_same l d b (D.Async o r m args) = (refl, z, refl)

    passed_same : (l : Placement) (d : Delay) (b : ℕ) (x : Packet) → SameAct R (passed g l c d b x) (passed h l e d b x)
    passed_same l d b x = by (goal_node x == b)
      where
        by : (t : Bool) → SameAct R (if t then received g l c d b x else Acts W'.Pass c (post l b (goal_node x) x d)) (if t then received h l e d b x else Acts W'.Pass e (post l b (goal_node x) x d))
        by true = received_same l d b x
        by false = (refl, z, refl)

    -- every event where each link hands out its own head
    plain_same : (l : Placement) (q : ℕ) (d : Delay) (ev : Event) → SameAct R (plain_act g l q c d ev) (plain_act h l q e d ev)
    plain_same l q d (Ev.Wire w a b) = (refl, z, refl)
    plain_same l q d (Ev.Link a b) = by (first_of (on_link d.links (a, b)))
      where
        by : (f : Option Packet) → SameAct R (link_move g l c d a b f) (link_move h l e d a b f)
        by None = (refl, z, refl)
        by (Some x) = within_same l b _ _ (passed_same l (record d { links = move_head (a, b) d.links }) b x)
    plain_same l q d (Ev.Turn n) = by (turn_of g c d n) (turn_of h e d n) (turn_same c e d n z)
      where
        by : (a : Option (ℕ × S)) (b : Option (ℕ × T)) → Both Twins a b → SameAct R (node_turn g l q c d n a) (node_turn h l q e d n b)
        by None None r = (refl, z, refl)
        by None (Some f) r = absurd r
        by (Some x) None r = absurd r
        by (Some x) (Some f) r = within_same l n _ _
            (subst (λ k. SameAct R (object_turn g l q c (stepped_last n x.0 d) n x.0 (g.kind x.0 x.1)) (object_turn h l q e (stepped_last n k d) n k (h.kind k f.1))) r.0
            (subst (λ k. SameAct R (object_turn g l q c (stepped_last n x.0 d) n x.0 (g.kind x.0 x.1)) (object_turn h l q e (stepped_last n x.0 d) n x.0 k)) (sim.kinds x.0 x.1 f.1 r.1)
            (object_same l q (stepped_last n x.0 d) n x.0 (g.kind x.0 x.1))))

    entered_same : (before : List (Pair × Packet)) (ws : Wires) (a : Acted S) (b : Acted T) → SameAct R a b → SameAct R (on_wires before ws a) (on_wires before ws b)
    entered_same before ws (Acts w k d) (Acts v f t) (i, r, j) = (i, r, ap (λ (u : Delay). record u { wires = Some (enter_all (drop (length before) u.links) ws) }) j)
    entered_same before ws (Acts w k d) (Full j m) r = absurd r
    entered_same before ws (Acts w k d) Nothing r = absurd r
    entered_same before ws (Full k n) (Acts v f t) r = absurd r
    entered_same before ws (Full k n) (Full j m) r = r
    entered_same before ws (Full k n) Nothing r = absurd r
    entered_same before ws Nothing (Acts v f t) r = absurd r
    entered_same before ws Nothing (Full j m) r = absurd r
    entered_same before ws Nothing Nothing r = tt

    -- every event
    over_same : (l : Placement) (q : ℕ) (d : Delay) (ws : Option Wires) (ev : Event) → SameAct R (act_over g l q c d ws ev) (act_over h l q e d ws ev)
    over_same l q d None ev = plain_same l q d ev
    over_same l q d (Some ws) (Ev.Turn n) = entered_same d.links ws (plain_act g l q c d (Ev.Turn n)) (plain_act h l q e d (Ev.Turn n)) (plain_same l q d (Ev.Turn n))
    over_same l q d (Some ws) (Ev.Link a b) = by (coming (wire_at ws (a, b)))
      where
        by : (x : Coming Packet) → SameAct R (wire_move g l c d ws a b x) (wire_move h l e d ws a b x)
        by Empty = (refl, z, refl)
        by (Stale n) = (refl, z, refl)
        by (Next x) = entered_same (move_head (a, b) d.links) (put pair_cmp (a, b) (take (wire_at ws (a, b))) ws) (plain_act g l q c d (Ev.Link a b)) (plain_act h l q e d (Ev.Link a b)) (plain_same l q d (Ev.Link a b))
    over_same l q d (Some ws) (Ev.Wire w a b) = by (wire_act w (wire_at ws (a, b)))
      where
        by : (r : Option (What × Wire Packet)) → SameAct R (wire_turn c d ws (a, b) r) (wire_turn e d ws (a, b) r)
        by None = (refl, z, refl)
        by (Some r) = (refl, z, refl)

    pub act_same : (l : Placement) (q : ℕ) (d : Delay) (ev : Event) → SameAct R (act g l q c d ev) (act h l q e d ev)
    act_same l q d ev = over_same l q d d.wires ev

  -- quiet, and whole records

  none_ready : (d : Delay) (es : List (ℕ × S)) (fs : List (ℕ × T)) → Zipped R es fs → list_any (λ e. is_ready g d e.0 e.1) es ≡ list_any (λ e. is_ready h d e.0 e.1) fs
  none_ready d [] [] z = refl
  none_ready d [] (f ∷ fs) z = absurd z
  none_ready d (e ∷ es) [] z = absurd z
  none_ready d (e ∷ es) (f ∷ fs) z = ap₂ ◌||◌
      (ap₂ (λ a k. is_none (held d e.0) && is_none a && can_step (arrived_at d e.0) k) (sim.faults e.0 e.1 f.1 z.1) (sim.kinds e.0 e.1 f.1 z.1) ∙ ap (λ n. is_ready h d n f.1) z.0) (none_ready d es fs z.2)

  pub quiet_same : (c : Config S) (e : Config T) (d : Delay) → Related R c e → is_quiet g c d ≡ is_quiet h e d
  quiet_same c e d z = ap (λ b. not (list_any (λ e. true) d.links) && (is_acknowledged d.wires && not b)) (none_ready d c.objects e.objects z.objects)

  -- where every event of the first keeps W
  pub record_same : ((c c' : Config S) (d d' : Delay) (l : Placement) (q : ℕ) (ev : Event) (what : What) → W c → act g l q c d ev ≡ Acts what c' d' → W c')
      → (l : Placement) (q : ℕ) (es : List Event) (c : Config S) (e : Config T) (d : Delay) (done : ℕ) → W c → Related R c e
      → (record_from g l q c d done es).lines ≡ (record_from h l q e d done es).lines
  record_same keeps l q [] c e d done w z = by (is_quiet h e d) refl
    where
      by : (b : Bool) → is_quiet h e d ≡ b → (record_from g l q c d done []).lines ≡ (record_from h l q e d done []).lines
      by true i = let j = quiet_same c e d z ∙ i in rw (i, j, record_from) refl
      by false i = let j = quiet_same c e d z ∙ i in rw (i, j, record_from) refl
  record_same keeps l q (ev ∷ es) c e d done w z = by (is_quiet h e d) refl (λ c' e' d' k r. record_same keeps l q es c' e' d' (done + 1) k r)
    where
      on : (a : Acted S) (b : Acted T) → act g l q c d ev ≡ a → SameAct R a b → ((c' : Config S) (e' : Config T) (d' : Delay) → W c' → Related R c' e' → (record_from g l q c' d' (done + 1) es).lines ≡ (record_from h l q e' d' (done + 1) es).lines)
          → (after ev done c d (λ c' d'. record_from g l q c' d' (done + 1) es) a).lines ≡ (after ev done e d (λ c' d'. record_from h l q c' d' (done + 1) es) b).lines
      on (Acts what c' d') (Acts what' e' f') i (j, r, k) rest =
          let tail : (record_from g l q c' d' (done + 1) es).lines ≡ (record_from h l q e' f' (done + 1) es).lines = rest c' e' d' (keeps c c' d d' l q ev what w i) r ∙ ap (λ (d : Delay). (record_from h l q e' d (done + 1) es).lines) k in
          λ t. R'.Event (done + 1) ev (j t) ∷ tail t
      on (Full k n) (Full k' n') i (j, m) rest = λ t. R'.End (E'.Full (j t) (m t) done) ∷ []
      on Nothing Nothing i r rest = refl
      on (Acts what c' d') (Full k n) i r rest = absurd r
      on (Acts what c' d') Nothing i r rest = absurd r
      on (Full k n) (Acts what c' d') i r rest = absurd r
      on (Full k n) Nothing i r rest = absurd r
      on Nothing (Acts what c' d') i r rest = absurd r
      on Nothing (Full k n) i r rest = absurd r

      by : (b : Bool) → is_quiet h e d ≡ b → ((c' : Config S) (e' : Config T) (d' : Delay) → W c' → Related R c' e' → (record_from g l q c' d' (done + 1) es).lines ≡ (record_from h l q e' d' (done + 1) es).lines)
          → (record_from g l q c d done (ev ∷ es)).lines ≡ (record_from h l q e d done (ev ∷ es)).lines
      by true i rest = let j = quiet_same c e d z ∙ i in rw (i, j, record_from) refl
      by false i rest = let j = quiet_same c e d z ∙ i in rw (i, j, record_from) (on (act g l q c d ev) (act h l q e d ev) refl (act_same c e w z l q d ev) rest)
