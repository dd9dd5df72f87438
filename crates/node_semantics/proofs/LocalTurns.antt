-- A turn of local transitions.
use Rattle.std.proofs.Common.{◌≡◌, refl, sym, ap, subst, ◌∙◌, ℕ, zero, suc, ◌+◌, ◌-◌, ◌<◌, ◌≤◌, List, [], ◌∷◌, Option, Some, None, is_some, is_none, Bool, true, false, ◌&&◌, if◌then◌else◌, nat_le, arith}
use Rattle.std.specs.Prelude.{slice_get, sum_by}
use Rattle.std.specs.Ordering.{nat_cmp}
use Rattle.std.specs.declared.cmp.Ordering.{Ordering}
use Rattle.std.specs.declared.cmp.Ordering.TheVariants.{Less, Equal, Greater}
use Rattle.std.specs.FinMap.{put}
use Rattle.std.proofs.lemmas.List.Sums.{sum_by-cons}
use Rattle.run_types.specs.declared.types.Error.{Error}
use Rattle.run_types.specs.declared.types.Label.TheVariants as L
use Rattle.run_types.specs.declared.types.Placement.{Placement}
use Rattle.run_types.specs.Partial.{◌>>=◌}
use Rattle.run_types.proofs.Laws.{same_some, find_put_same}
use Rattle.mesh_semantics.specs.Kind as K
use Rattle.mesh_semantics.specs.Kind.{Kind, is_local}
use Rattle.mesh_semantics.specs.Language.{Language}
use Rattle.mesh_semantics.specs.Config.{Config, object_of, put_object}
use Rattle.mesh_semantics.specs.Moves.{move}
use Rattle.mesh_semantics.specs.Delay.{Delay}
use Rattle.mesh_semantics.specs.Act.{greatest, local_steps, local_turn, step_count, within_frames, frame_count}
use Rattle.node_semantics.specs.Node.{Slot, NodeState, set_at, name_at, put_state, local_state, local_act, steps_of, room_for, frames_in}
use Rattle.node_semantics.specs.Machine.{Machine}
use Rattle.node_semantics.proofs.NamesAndSlots.{set_same, at_node, name_node, name_slot}
use Rattle.node_semantics.proofs.NodeCounts.{frames_count}
use Rattle.node_semantics.proofs.OneObjectTurns.{Row, Turning, x₁, d₁, own_stands}

-- an entry that is put twice
put_put : {X : Type 0} (o : ℕ) (y z : X) (es : List (ℕ × X)) → put nat_cmp o z (put nat_cmp o y es) ≡ put nat_cmp o z es
put_put o y z [] = let e : nat_cmp o o ≡ Equal = grind arith in rw e refl
put_put {X} o y z (e ∷ es) = by (nat_cmp o e.0) refl (put_put o y z es)
  where
    by : (r : Ordering) → nat_cmp o e.0 ≡ r → put nat_cmp o z (put nat_cmp o y es) ≡ put nat_cmp o z es → put nat_cmp o z (put nat_cmp o y (e ∷ es)) ≡ put nat_cmp o z (e ∷ es)
    by Less i k = let f : nat_cmp o o ≡ Equal = grind arith in rw (i, f) refl
    by Equal i k = rw (i, i) refl
    by Greater i k = rw (i, i) (ap (λ (zs : List (ℕ × X)). e ∷ zs) k)

-- a sum in which one summand changed
sum_set : {X : Type 0} (f : X → ℕ) (xs : List X) (i : ℕ) (x y : X) → slice_get xs i ≡ Some x → sum_by f (set_at xs i y) + f x ≡ sum_by f xs + f y
sum_set f [] i x y h = absurd (cc)
sum_set f (z ∷ xs) zero x y h =
    let e : f z ≡ f x = ap f (same_some h) in let a = sum_by-cons f z xs in let b = sum_by-cons f y xs in omega (arith, a, b, e)
sum_set f (z ∷ xs) (suc i) x y h =
    let r = sum_set f xs i x y h in let a = sum_by-cons f z xs in let b = sum_by-cons f z (set_at xs i y) in omega (arith, a, b, r)

greatest_same : (f h : ℕ → Bool) → ((k : ℕ) → f k ≡ h k) → (q : ℕ) → greatest f q ≡ greatest h q
greatest_same f h e zero = refl
greatest_same f h e (suc q) = let r = greatest_same f h e q in rw (e (suc q), r) refl

greatest_holds : (f : ℕ → Bool) (q j : ℕ) → greatest f q ≡ suc j → f (suc j) ≡ true
greatest_holds f zero j h = absurd (grind (arith, h))
greatest_holds f (suc q) j h = by (f (suc q)) refl (greatest_holds f q j)
  where
    by : (b : Bool) → f (suc q) ≡ b → (greatest f q ≡ suc j → f (suc j) ≡ true) → f (suc j) ≡ true
    by true i k = let e : suc q ≡ suc j = rw i at h in subst (λ z. f z ≡ true) e i
    by false i k = k (rw i at h)

le_same : (A a b A' L : ℕ) → A' + (1 + a) ≡ A + (1 + b) → A ≤ L → nat_le A' L ≡ nat_le b (L + a - A)
le_same A a b A' L e h = by (nat_le A' L) (nat_le b (L + a - A)) refl refl
  where
    by : (s t : Bool) → nat_le A' L ≡ s → nat_le b (L + a - A) ≡ t → nat_le A' L ≡ nat_le b (L + a - A)
    by true true i j = i ∙ sym j
    by false false i j = i ∙ sym j
    by true false i j = absurd (let u : A' ≤ L = grind (arith, i) in let v : L + a - A < b = grind (arith, j) in omega (arith, e, h, u, v))
    by false true i j = absurd (let u : L < A' = grind (arith, i) in let v : b ≤ L + a - A = grind (arith, j) in omega (arith, e, h, u, v))

module _ {S : Type 0} (g : Language S) (W : Config S → Type 0) (l : Placement) (m : Machine S) (c : Config S) (d : Delay) (n i : ℕ) (x : NodeState S) (s : Slot S)
    (t : Turning g W l m c d n i x s) where
  abbrev o : ℕ
  o = name_at n i

  abbrev x' : NodeState S
  x' = x₁ g W l m c d n i x s t

  abbrev d' : Delay
  d' = d₁ g W l m c d n i x s t

  abbrev room : ℕ
  room = room_for g l x' i s

  -- a state that local transitions lead to, and the configuration with it
  record Reached (k : ℕ) (y : S) (e : Config S) : Type 0 where
    object : object_of e o ≡ Some y
    typed : W e
    callers : g.callers y ≡ g.callers s.state
    again : (z : S) → put_object e o z ≡ put_object c o z
    is : (j : ℕ) → k ≡ suc j → e ≡ put_object c o y

  data Went (k : ℕ) : Option S → Option (Config S) → Type 0 where
    Nowhere : Went k None None
    To : (y : S) (e : Config S) → Reached k y e → Went k (Some y) (Some e)

  frames_fit : (y : S) → W (put_object c o y) → g.callers y ≡ g.callers s.state → nat_le (frame_count g (put_object c o y) n) l.frames ≡ nat_le (g.frames y) room
  frames_fit y w k = rw (sym now) (le_same (frames_in g x.slots) (g.frames s.state) (g.frames y) (frames_in g (set_at x.slots i (record s { state = y }))) l.frames sums (subst (λ z. z ≤ l.frames) (sym before) (t.sound.limits n).1))
    where
      m' : Machine S
      m' = record m { nodes = set_at m.nodes n (put_state x' i s y); links = m.links }

      now : frames_in g (set_at x.slots i (record s { state = y })) ≡ frame_count g (put_object c o y) n
      now = frames_count g W t.law t.req l m' (put_object c o y) d' (own_stands g W l m c d n i x s t y k) w n (put_state x' i s y) (set_same m.nodes n x (put_state x' i s y) t.node)

      before : frames_in g x.slots ≡ frame_count g c n
      before = frames_count g W t.law t.req l m c d t.st t.sound.state.typed n x t.node

      sums : frames_in g (set_at x.slots i (record s { state = y })) + (1 + g.frames s.state) ≡ frames_in g x.slots + (1 + g.frames y)
      sums = sum_set (λ (z : Slot S). 1 + g.frames z.state) x.slots i s (record s { state = y })
          (ap (slice_get x.slots) (sym (name_slot n i t.small)) ∙ sym (at_node m n x t.node o (name_node n i t.small)) ∙ t.here)

  -- one transition more, on both sides
  further : (k : ℕ) (y : S) (e : Config S) → Reached k y e
      → Went (suc k) (if is_none (g.fault y) && is_local (g.kind o y) && nat_le (g.frames (g.stepped o y)) room then Some (g.stepped o y) else None)
      (move g e (L.Local o) >>= within_frames g l n)
  further k y e r = by_fault (g.fault y) refl
    where
      y' : S
      y' = g.stepped o y

      Goal : Type 0
      Goal = Went (suc k) (if is_none (g.fault y) && is_local (g.kind o y) && nat_le (g.frames (g.stepped o y)) room then Some (g.stepped o y) else None)
          (move g e (L.Local o) >>= within_frames g l n)

      local : g.fault y ≡ None → g.kind o y ≡ K.Local → Goal
      local f h = by (nat_le (g.frames (g.stepped o y)) room) refl
        where
          moved : move g e (L.Local o) ≡ Some (put_object c o (g.stepped o y))
          moved = rw (r.object, f, h) (ap Some (r.again (g.stepped o y)))

          typed : W (put_object c o (g.stepped o y))
          typed = t.law.kept e (put_object c o (g.stepped o y)) (L.Local o) r.typed moved

          callers : g.callers (g.stepped o y) ≡ g.callers s.state
          callers = t.req.stepped_callers e o y r.typed r.object h ∙ r.callers

          fit : nat_le (frame_count g (put_object c o (g.stepped o y)) n) l.frames ≡ nat_le (g.frames (g.stepped o y)) room
          fit = frames_fit (g.stepped o y) typed callers

          reached : Reached (suc k) (g.stepped o y) (put_object c o (g.stepped o y))
          reached = record {
            object = find_put_same o (g.stepped o y) c.objects;
            typed = typed;
            callers = callers;
            again = λ z. ap (λ es. record { objects = es; messages = c.messages }) (put_put o (g.stepped o y) z c.objects);
            is = λ j q. refl;
          }

          by : (b : Bool) → nat_le (g.frames (g.stepped o y)) room ≡ b → Goal
          by true q = subst (λ z. Went (suc k) (if is_none (g.fault y) && is_local (g.kind o y) && nat_le (g.frames (g.stepped o y)) room then Some (g.stepped o y) else None) (z >>= within_frames g l n)) (sym moved)
              (rw (f, h, fit, q) (To (g.stepped o y) (put_object c o (g.stepped o y)) reached))
          by false q = subst (λ z. Went (suc k) (if is_none (g.fault y) && is_local (g.kind o y) && nat_le (g.frames (g.stepped o y)) room then Some (g.stepped o y) else None) (z >>= within_frames g l n)) (sym moved)
              (rw (f, h, fit, q) Nowhere)

      other : (z : Kind) → g.kind o y ≡ z → is_local z ≡ false → g.fault y ≡ None → Goal
      other z h q f =
          let u : is_local (g.kind o y) ≡ false = ap is_local h ∙ q in
          rw (r.object, f, u) Nowhere

      by_kind : (z : Kind) → g.kind o y ≡ z → g.fault y ≡ None → Goal
      by_kind K.Local h f = local f h
      by_kind K.Finished h f = other K.Finished h refl f
      by_kind (K.Fault e) h f = other (K.Fault e) h refl f
      by_kind (K.New a) h f = other (K.New a) h refl f
      by_kind (K.Send a b v) h f = other (K.Send a b v) h refl f
      by_kind (K.Async a b v) h f = other (K.Async a b v) h refl f
      by_kind (K.Write a) h f = other (K.Write a) h refl f
      by_kind (K.Select a) h f = other (K.Select a) h refl f
      by_kind (K.Return a v) h f = other (K.Return a v) h refl f
      by_kind (K.Waits a b) h f = other (K.Waits a b) h refl f
      by_kind K.Stuck h f = other K.Stuck h refl f

      by_fault : (z : Option Error) → g.fault y ≡ z → Goal
      by_fault None f = by_kind (g.kind o y) refl f
      by_fault (Some a) f = rw (r.object, f) Nowhere

  went : (k : ℕ) → Went k (local_state g o room k s.state) (local_steps g l n o k c)
  went zero = To s.state c (record { object = t.there; typed = t.sound.state.typed; callers = refl; again = λ z. refl; is = λ j q. absurd (grind (arith, q)) })
  went (suc k) = by (local_state g o room k s.state) (local_steps g l n o k c) (went k)
    where
      by : (a : Option S) (b : Option (Config S)) → Went k a b
          → Went (suc k) (a >>= λ z. if is_none (g.fault z) && is_local (g.kind o z) && nat_le (g.frames (g.stepped o z)) room then Some (g.stepped o z) else None)
          (b >>= λ e. move g e (L.Local o) >>= within_frames g l n)
      by None None Nowhere = Nowhere
      by (Some y) (Some e) (To y' e' r) = further k y' e' r
      by None (Some e) h = elim h [ ]
      by (Some y) None h = elim h [ ]

  same_some_test : (k : ℕ) → is_some (local_state g o room k s.state) ≡ is_some (local_steps g l n o k c)
  same_some_test k = by (local_state g o room k s.state) (local_steps g l n o k c) (went k)
    where
      by : (a : Option S) (b : Option (Config S)) → Went k a b → is_some a ≡ is_some b
      by None None Nowhere = refl
      by (Some y) (Some e) (To y' e' r) = refl
      by None (Some e) h = elim h [ ]
      by (Some y) None h = elim h [ ]

  abbrev steps : ℕ → ℕ
  steps q = steps_of g l q n x' i s

  same_count : (q : ℕ) → step_count g l q n o c ≡ steps q
  same_count q = sym (greatest_same (λ k. is_some (local_state g o room k s.state)) (λ k. is_some (local_steps g l n o k c)) same_some_test q)

  turned : (q k : ℕ) → steps q ≡ k → Row g W l m n (local_act n o x' i s k (local_state g o room k s.state)) (local_turn n o d' k (local_steps g l n o k c))
  turned q zero h = (refl, refl)
  turned q (suc j) h = by (local_state g o room (suc j) s.state) (local_steps g l n o (suc j) c) (went (suc j)) (greatest_holds (λ k. is_some (local_state g o room k s.state)) q j h)
    where
      by : (a : Option S) (b : Option (Config S)) → Went (suc j) a b → is_some a ≡ true → Row g W l m n (local_act n o x' i s (suc j) a) (local_turn n o d' (suc j) b)
      by None None Nowhere e = absurd (cc)
      by (Some _) (Some _) (To y e r) z =
          let is : e ≡ put_object c o y = r.is j refl in
          subst (λ b. Row g W l m n (local_act n o x' i s (suc j) (Some y)) (local_turn n o d' (suc j) (Some b))) (sym is)
          (refl, subst W is r.typed, own_stands g W l m c d n i x s t y r.callers)
      by None (Some e) k z = elim k [ ]
      by (Some y) None k z = elim k [ ]

  pub local_row : (q : ℕ) → Row g W l m n (local_act n o x' i s (steps q) (local_state g o room (steps q) s.state))
      (local_turn n o d' (step_count g l q n o c) (local_steps g l n o (step_count g l q n o c) c))
  local_row q = subst (λ k. Row g W l m n (local_act n o x' i s (steps q) (local_state g o room (steps q) s.state)) (local_turn n o d' k (local_steps g l n o k c))) (sym (same_count q))
      (turned q (steps q) refl)
