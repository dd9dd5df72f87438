-- A turn of a node is idle if none of its objects is ready. Otherwise it answers with a line or a limit, if its
-- objects can do their next actions.
use Rattle.std.proofs.Common.{◌≡◌, ◌≢◌, refl, ap, sym, subst, ◌∙◌, ℕ, zero, suc, ◌+◌, List, [], ◌∷◌, Option, Some, None, is_none, is_some, Bool, true, false, ◌&&◌, ◌||◌, ◌==◌, arith}
use Rattle.std.specs.Prelude.{slice_get, filter}
use Rattle.std.specs.List.{list_any}
use Rattle.run_types.specs.declared.types.Value.{Value}
use Rattle.run_types.specs.declared.types.What.{What}
use Rattle.run_types.specs.declared.types.Placement.{Placement}
use Rattle.run_types.proofs.Laws.{first, second, same_some}
use Rattle.mesh_semantics.specs.Kind as K
use Rattle.mesh_semantics.specs.Kind.{Kind, Alternative, answered}
use Rattle.mesh_semantics.specs.Language.{Language}
use Rattle.mesh_semantics.specs.Delay.{Arrival, Packet}
use Rattle.run_types.specs.ObjectNames.{node_of}
use Rattle.mesh_semantics.specs.Act.{first_arrival, first_of, is_possible, can_step, greatest}
use Rattle.std.specs.Option.{option_or}
use Rattle.run_types.specs.Tables.{Each}
use Rattle.node_semantics.specs.Node as N
use Rattle.node_semantics.specs.Node.{IsStep, NumberedArrival, Slot, NodeState, NodeActed, name_at, placed, arrivals, first_on, can_go, comes_after, ready_slots, slot_in_turn, local_state, local_act, room_for, steps_of, made_own, create_act, goal_here, count_one, message_act, taken_act, serve_act, chosen_act, choice_act, give_back, return_act, slot_act, turn_of_slot, turn_act, put_request, put_state}
use Rattle.node_semantics.specs.CanTurn.{CanAct, CanTurn}
use Rattle.node_semantics.proofs.ReceiptsAnswer.{within_answers}
use Rattle.node_semantics.proofs.SelectTurns.{none_same}

-- what holds of each place holds of all that is placed
each_placed : {X : Type 0} (P : ℕ × X → Type 0) (i : ℕ) (xs : List X) → ((j : ℕ) (x : X) → slice_get xs j ≡ Some x → P (i + j, x)) → Each P (placed i xs)
each_placed P i [] h = tt
each_placed {X} P i (x ∷ xs) h = (
  let e : i + 0 ≡ i = omega arith in subst (λ k. P (k, x)) e (h 0 x refl),
  each_placed P (i + 1) xs (λ j y k. let e : i + suc j ≡ i + 1 + j = omega arith in subst (λ z. P (z, y)) e (h (suc j) y k)),
)

each_filter : {X : Type 0} (P : X → Type 0) (t : X → Bool) (xs : List X) → Each P xs → Each (λ x. P x × (t x ≡ true)) (filter t xs)
each_filter P t [] h = tt
each_filter {X} P t (x ∷ xs) h = by (t x) refl (each_filter P t xs h.1)
  where
    by : (b : Bool) → t x ≡ b → Each (λ y. P y × (t y ≡ true)) (filter t xs) → Each (λ y. P y × (t y ≡ true)) (filter t (x ∷ xs))
    by true e r = rw e ((h.0, e), r)
    by false e r = rw e r

each_first : {X : Type 0} (P : X → Type 0) (xs : List X) (x : X) → first_of xs ≡ Some x → Each P xs → P x
each_first P [] x e h = absurd (cc)
each_first P (y ∷ xs) x e h = subst P (same_some e) h.0

greatest_holds : (test : ℕ → Bool) (q k : ℕ) → greatest test q ≡ suc k → test (suc k) ≡ true
greatest_holds test zero k h = absurd (cc)
greatest_holds test (suc q) k h = by (test (suc q)) refl (greatest_holds test q k)
  where
    by : (b : Bool) → test (suc q) ≡ b → (greatest test q ≡ suc k → test (suc k) ≡ true) → test (suc k) ≡ true
    by true e f = let same : suc q ≡ suc k = rw e at h in subst (λ z. test z ≡ true) same e
    by false e f = f (rw e at h)

module _ {S : Type 0} (g : Language S) (n : ℕ) (x : NodeState S) (i : ℕ) (s : Slot S) where
  abbrev o : ℕ
  o = name_at n i

  local_answers : (l : Placement) (q fresh : ℕ) → IsStep (slot_act g l q n fresh x i s K.Local)
  local_answers l q fresh = by (steps_of g l q n x i s) refl
    where
      state : ℕ → Option S
      state k = local_state g (name_at n i) (room_for g l x i s) k s.state

      on : (k : ℕ) (y : Option S) → is_some y ≡ true → IsStep (local_act n (name_at n i) x i s (suc k) y)
      on k None e = absurd (cc)
      on k (Some y) e = tt

      by : (k : ℕ) → steps_of g l q n x i s ≡ k
          → IsStep (local_act n (name_at n i) x i s (steps_of g l q n x i s) (local_state g (name_at n i) (room_for g l x i s) (steps_of g l q n x i s) s.state))
      by zero e = rw e tt
      by (suc k) e = rw e (on k _ (greatest_holds (λ j. is_some (local_state g (name_at n i) (room_for g l x i s) j s.state)) q k e))

  made_answers : (w : ℕ) (y : NodeState S) (z : Option S) → z ≢ None → IsStep (made_own g n y i s w z)
  made_answers w y None f = absurd (f refl)
  made_answers w y (Some z) f = tt

  create_answers : (fresh class goal : ℕ) → g.made class ≢ None → IsStep (create_act g n fresh x i s class goal)
  create_answers fresh class goal f = by (goal == n) refl
    where
      by : (b : Bool) → (goal == n) ≡ b → IsStep (create_act g n fresh x i s class goal)
      by true e = rw e (made_answers class (count_one g class x) (g.made class) f)
      by false e = rw e tt

  message_answers : (w : What) (y : NodeState S) (b : ℕ) (e : NumberedArrival) (p : Packet) → IsStep (message_act n w y b e p)
  message_answers w y b e p = by (node_of b == n) refl
    where
      by : (t : Bool) → (node_of b == n) ≡ t → IsStep (message_act n w y b e p)
      by true z = rw z tt
      by false z = rw z tt

  return_answers : (k : ℕ) (v : Value) (callers : List ℕ) → callers ≢ [] → IsStep (return_act g n x i s k v callers)
  return_answers k v [] f = absurd (f refl)
  return_answers k v (number ∷ callers) f = by (node_of k == n) refl
    where
      by : (t : Bool) → (node_of k == n) ≡ t → IsStep (return_act g n x i s k v (number ∷ callers))
      by true z = rw z tt
      by false z = rw z tt

  taken_answers : (w : What) (names callers : List ℕ) (y : Option S) → y ≢ None → IsStep (taken_act w x names callers i s y)
  taken_answers w names callers None f = absurd (f refl)
  taken_answers w names callers (Some y) f = tt

  serve_answers : (alt : ℕ) (names : List ℕ) (number : Option ℕ) (m : Arrival) → ((caller : Option ℕ) → g.serving o s.state alt m.method caller m.args ≢ None)
      → IsStep (serve_act g n x i s alt names number m)
  serve_answers alt names None m f = taken_answers _ names s.callers (g.serving o s.state alt m.method None m.args) (f None)
  serve_answers alt names (Some k) m f = taken_answers _ names (k ∷ s.callers) (g.serving o s.state alt m.method (Some m.sender) m.args) (f (Some m.sender))

  -- an alternative that is possible
  chosen_answers : (alt : ℕ) (a : Alternative) → is_possible (arrivals s.mailbox) a ≡ true
      → ((e : NumberedArrival) (caller : Option ℕ) → first_on (answered a.names) s.mailbox ≡ Some e → g.serving o s.state alt e.message.method caller e.message.args ≢ None)
      → IsStep (chosen_act g n x i s alt a.names (first_on (answered a.names) s.mailbox))
  chosen_answers alt a possible f = by a.names refl
    where
      by : (names : Option (List ℕ)) → a.names ≡ names → IsStep (chosen_act g n x i s alt a.names (first_on (answered a.names) s.mailbox))
      by None z = rw z tt
      by (Some names) z = rw z (on (first_on names s.mailbox) refl)
        where
          on : (e : Option NumberedArrival) → first_on names s.mailbox ≡ e → IsStep (chosen_act g n x i s alt (Some names) e)
          on None h = absurd (
              let u = none_same names s.mailbox h in
              let v : (a.is_open && false) ≡ true = rw (z, u) at possible in let w = second a.is_open false v in cc)
          on (Some e) h = serve_answers alt names e.number e.message (λ caller. f e caller (rw z h))

  choice_answers : (j : ℕ) (alts : List Alternative) → list_any (is_possible (arrivals s.mailbox)) alts ≡ true
      → ((k : ℕ) (a : Alternative) (e : NumberedArrival) (caller : Option ℕ) → slice_get alts k ≡ Some a → a.is_open ≡ true → first_on (answered a.names) s.mailbox ≡ Some e
      → g.serving o s.state (j + k) e.message.method caller e.message.args ≢ None)
      → IsStep (choice_act g n x i s j alts)
  choice_answers j [] some f = absurd (cc)
  choice_answers j (a ∷ alts) some f = by (is_possible (arrivals s.mailbox) a) refl (choice_answers (j + 1) alts)
    where
      Rest : Type 0
      Rest = list_any (is_possible (arrivals s.mailbox)) alts ≡ true
          → ((k : ℕ) (b : Alternative) (e : NumberedArrival) (caller : Option ℕ) → slice_get alts k ≡ Some b → b.is_open ≡ true → first_on (answered b.names) s.mailbox ≡ Some e
          → g.serving o s.state (j + 1 + k) e.message.method caller e.message.args ≢ None)
          → IsStep (choice_act g n x i s (j + 1) alts)

      by : (b : Bool) → is_possible (arrivals s.mailbox) a ≡ b → Rest → IsStep (choice_act g n x i s j (a ∷ alts))
      by true z r = rw z (chosen_answers j a z (λ e caller h.
          let k : j + 0 ≡ j = omega arith in
          subst (λ w. g.serving o s.state w e.message.method caller e.message.args ≢ None) k
          (f 0 a e caller refl (first a.is_open (is_none a.names || is_some (first_arrival (answered a.names) (arrivals s.mailbox))) z) h)))
      by false z r = rw z (r (rw z at some) (λ k b e caller here opened h.
          let w : j + suc k ≡ j + 1 + k = omega arith in
          subst (λ v. g.serving o s.state v e.message.method caller e.message.args ≢ None) w (f (suc k) b e caller here opened h)))

  slot_answers : (l : Placement) (q fresh : ℕ) (k : Kind) → can_step (arrivals s.mailbox) k ≡ true → CanAct g o s k → IsStep (slot_act g l q n fresh x i s k)
  slot_answers l q fresh K.Local go can = local_answers l q fresh
  slot_answers l q fresh (K.New class) go can = create_answers fresh class (goal_here g l x n class) can
  slot_answers l q fresh (K.Send b m args) go can = message_answers _ (put_request x i s fresh s.goal) b _ _
  slot_answers l q fresh (K.Async b m args) go can = message_answers _ (put_state x i s (g.done s.state)) b _ _
  slot_answers l q fresh (K.Select alts) go can = choice_answers 1 alts go can
  slot_answers l q fresh (K.Return k v) go can = return_answers k v s.callers can
  slot_answers l q fresh (K.Write item) go can = tt
  slot_answers l q fresh (K.Fault e) go can = tt
  slot_answers l q fresh K.Finished go can = absurd (cc)
  slot_answers l q fresh (K.Waits b m) go can = absurd (cc)
  slot_answers l q fresh K.Stuck go can = absurd (cc)

module _ {S : Type 0} (g : Language S) (n : ℕ) (x : NodeState S) where
  -- a slot that is ready, at its place
  abbrev IsReady : ℕ × Slot S → Type 0
  IsReady e = (slice_get x.slots e.0 ≡ Some e.1) × (can_go g n e ≡ true)

  ready : Each IsReady (ready_slots g n x)
  ready = each_filter (λ e. slice_get x.slots e.0 ≡ Some e.1) (can_go g n) (placed 0 x.slots)
      (each_placed (λ e. slice_get x.slots e.0 ≡ Some e.1) 0 x.slots (λ j s h. let e : 0 + j ≡ j = omega arith in subst (λ z. slice_get x.slots z ≡ Some s) (sym e) h))

  in_turn : (e : ℕ × Slot S) → slot_in_turn g n x ≡ Some e → IsReady e
  in_turn e = by (first_of (filter (λ e. comes_after x.last e.0) (ready_slots g n x))) refl
    where
      by : (z : Option (ℕ × Slot S)) → first_of (filter (λ e. comes_after x.last e.0) (ready_slots g n x)) ≡ z → option_or z (first_of (ready_slots g n x)) ≡ Some e → IsReady e
      by None h i = each_first IsReady (ready_slots g n x) e i ready
      by (Some y) h i = (each_first (λ z. IsReady z × (comes_after x.last z.0 ≡ true)) (filter (λ z. comes_after x.last z.0) (ready_slots g n x)) e (h ∙ i)
          (each_filter IsReady (λ z. comes_after x.last z.0) (ready_slots g n x) ready)).0

  -- where a slot is ready, one has the turn
  no_turn : slot_in_turn g n x ≡ None → ready_slots g n x ≡ []
  no_turn h = by (ready_slots g n x) (first_of (filter (λ e. comes_after x.last e.0) (ready_slots g n x))) h
    where
      by : (es : List (ℕ × Slot S)) (z : Option (ℕ × Slot S)) → option_or z (first_of es) ≡ None → es ≡ []
      by [] z i = refl
      by (e ∷ es) None i = absurd (cc)
      by (e ∷ es) (Some y) i = absurd (cc)

  pub turn_steps : CanTurn g n x → (l : Placement) (q leaving fresh : ℕ) → ready_slots g n x ≢ [] → IsStep (turn_act g l q n leaving fresh x)
  turn_steps can l q leaving fresh some = by (slot_in_turn g n x) refl
    where
      by : (z : Option (ℕ × Slot S)) → slot_in_turn g n x ≡ z → IsStep (turn_of_slot g l q n leaving fresh x z)
      by None h = absurd (some (no_turn h))
      by (Some e) h =
          let r = in_turn e h in
          let go = second (is_none e.1.request && is_none (g.fault e.1.state)) (can_step (arrivals e.1.mailbox) (g.kind (name_at n e.0) e.1.state)) r.1 in
          within_answers g l leaving (slot_act g l q n fresh (record x { last = Some e.0 }) e.0 e.1 (g.kind (name_at n e.0) e.1.state))
          (slot_answers g n (record x { last = Some e.0 }) e.0 e.1 l q fresh (g.kind (name_at n e.0) e.1.state) go (can e.0 e.1 r.0))

  pub turn_idles : (l : Placement) (q leaving fresh : ℕ) → ready_slots g n x ≡ [] → turn_act g l q n leaving fresh x ≡ N.Idle
  turn_idles l q leaving fresh none = ap (turn_of_slot g l q n leaving fresh x) (
      ap (λ es. option_or (first_of (filter (λ e. comes_after x.last e.0) es)) (first_of es)) none)
