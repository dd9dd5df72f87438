-- The object whose turn it is, by the ready bits.
use Rattle.std.proofs.Common.{◌≡◌, refl, sym, ap, ap₂, subst, ◌∙◌, ℕ, zero, suc, ◌+◌, ◌<◌, ◌&&◌, List, [], ◌∷◌, drop, map, Option, Some, None, is_none, Bool, true, false, arith}
use Rattle.std.specs.Prelude.{slice_get, filter, nat_lt}
use Rattle.std.specs.Option.{option_map, option_or}
use Rattle.std.proofs.lemmas.Bool.Decides.{nat_tests}
use Rattle.mesh_semantics.specs.Act.{first_of, can_step}
use Rattle.mesh_semantics.specs.Language.{Language}
use Rattle.run_types.specs.Tables.{Each}
use Rattle.run_types.proofs.Laws.{first, second, same_some}
use Rattle.node_semantics.specs.Node.{Slot, NodeState, arrivals, can_go, comes_after, name_at, placed, ready_slots, slot_in_turn}
use Rattle.node_state.specs.Bits.{first_bit}
use Rattle.node_turns.specs.Bits.{bit_in_turn}

module _ {S : Type 0} (f : ℕ × Slot S → Bool) where
  abbrev fst : ℕ × Slot S → ℕ
  fst e = e.0

  pub bits_first : (k : ℕ) (ss : List (Slot S)) → option_map fst (first_of (filter f (placed k ss))) ≡ first_bit k (map f (placed k ss))
  bits_first k [] = refl
  bits_first k (s ∷ ss) = by (f (k, s)) refl (bits_first (k + 1) ss)
    where
      by : (b : Bool) → f (k, s) ≡ b → option_map fst (first_of (filter f (placed (k + 1) ss))) ≡ first_bit (k + 1) (map f (placed (k + 1) ss))
          → option_map fst (first_of (filter f (placed k (s ∷ ss)))) ≡ first_bit k (map f (placed k (s ∷ ss)))
      by true e r = rw e refl
      by false e r = rw e r

  -- all are above
  all_above : (last k : ℕ) (ss : List (Slot S)) → last < k → first_of (filter (λ e. nat_lt last e.0) (filter f (placed k ss))) ≡ first_of (filter f (placed k ss))
  all_above last k [] h = refl
  all_above last k (s ∷ ss) h = by (f (k, s)) refl (all_above last (k + 1) ss (omega arith))
    where
      by : (b : Bool) → f (k, s) ≡ b → first_of (filter (λ e. nat_lt last e.0) (filter f (placed (k + 1) ss))) ≡ first_of (filter f (placed (k + 1) ss))
          → first_of (filter (λ e. nat_lt last e.0) (filter f (placed k (s ∷ ss)))) ≡ first_of (filter f (placed k (s ∷ ss)))
      by true e r = let t : nat_lt last k ≡ true = grind (arith, nat_tests) in rw (e, t) refl
      by false e r = rw e r

  bits_above : (last : ℕ) (m k : ℕ) (ss : List (Slot S)) → last + 1 ≡ k + m
      → option_map fst (first_of (filter (λ e. nat_lt last e.0) (filter f (placed k ss)))) ≡ first_bit (last + 1) (drop m (map f (placed k ss)))
  bits_above last zero k ss h =
      let l : last < k = omega arith in
      let e : k ≡ last + 1 = omega arith in
      ap (λ (o : Option (ℕ × Slot S)). option_map fst o) (all_above last k ss l) ∙ (bits_first k ss ∙ ap (λ (n : ℕ). first_bit n (map f (placed k ss))) e)
  bits_above last (suc m) k [] h = refl
  bits_above last (suc m) k (s ∷ ss) h = by (f (k, s)) refl (bits_above last m (k + 1) ss (omega arith))
    where
      by : (b : Bool) → f (k, s) ≡ b → option_map fst (first_of (filter (λ e. nat_lt last e.0) (filter f (placed (k + 1) ss)))) ≡ first_bit (last + 1) (drop m (map f (placed (k + 1) ss)))
          → option_map fst (first_of (filter (λ e. nat_lt last e.0) (filter f (placed k (s ∷ ss))))) ≡ first_bit (last + 1) (drop m (map f (placed (k + 1) ss)))
      by true e r = let t : nat_lt last k ≡ false = grind (arith, nat_tests) in rw (e, t) r
      by false e r = rw e r

  filter_all : (es : List (ℕ × Slot S)) → filter (λ e. comes_after None e.0) es ≡ es
  filter_all [] = refl
  filter_all (e ∷ es) = ap (λ (z : List (ℕ × Slot S)). e ∷ z) (filter_all es)

or_else_map : {X Y : Type 0} (f : X → Y) (a b : Option X) → option_map f (option_or a b) ≡ option_or (option_map f a) (option_map f b)
or_else_map f None b = refl
or_else_map f (Some x) b = refl

or_else_same : {X : Type 0} (a : Option X) → option_or a a ≡ a
or_else_same None = refl
or_else_same (Some x) = refl

module _ {S : Type 0} (g : Language S) (n : ℕ) (x : NodeState S) where
  pub turn_bits : option_map (λ (e : ℕ × Slot S). e.0) (slot_in_turn g n x) ≡ bit_in_turn x.last (map (can_go g n) (placed 0 x.slots))
  turn_bits = or_else_map (λ (e : ℕ × Slot S). e.0) (first_of (filter (λ e. comes_after x.last e.0) (ready_slots g n x))) (first_of (ready_slots g n x)) ∙ by x.last
    where
      by : (last : Option ℕ) → option_or (option_map (λ (e : ℕ × Slot S). e.0) (first_of (filter (λ e. comes_after last e.0) (ready_slots g n x))))
          (option_map (λ (e : ℕ × Slot S). e.0) (first_of (ready_slots g n x))) ≡ bit_in_turn last (map (can_go g n) (placed 0 x.slots))
      by None =
          ap (λ (es : List (ℕ × Slot S)). option_or (option_map (λ (e : ℕ × Slot S). e.0) (first_of es)) (option_map (λ (e : ℕ × Slot S). e.0) (first_of (ready_slots g n x)))) (filter_all (can_go g n) (ready_slots g n x))
          ∙ (or_else_same (option_map (λ (e : ℕ × Slot S). e.0) (first_of (ready_slots g n x))) ∙ bits_first (can_go g n) 0 x.slots)
      by (Some last) =
          let e : last + 1 ≡ 0 + (last + 1) = omega arith in
          ap₂ (λ (a b : Option ℕ). option_or a b) (bits_above (can_go g n) last (last + 1) 0 x.slots e) (bits_first (can_go g n) 0 x.slots)

  -- a slot that is ready, at its place
  abbrev IsReady : ℕ × Slot S → Type 0
  IsReady e = (slice_get x.slots e.0 ≡ Some e.1) × (can_go g n e ≡ true)

  each_placed : (P : ℕ × Slot S → Type 0) (i : ℕ) (xs : List (Slot S)) → ((j : ℕ) (y : Slot S) → slice_get xs j ≡ Some y → P (i + j, y)) → Each P (placed i xs)
  each_placed P i [] h = tt
  each_placed P i (y ∷ xs) h = (
    let e : i + 0 ≡ i = omega arith in subst (λ k. P (k, y)) e (h 0 y refl),
    each_placed P (i + 1) xs (λ j z k. let e : i + suc j ≡ i + 1 + j = omega arith in subst (λ w. P (w, z)) e (h (suc j) z k)),
  )

  each_filter : (P : ℕ × Slot S → Type 0) (t : ℕ × Slot S → Bool) (es : List (ℕ × Slot S)) → Each P es → Each (λ e. P e × (t e ≡ true)) (filter t es)
  each_filter P t [] h = tt
  each_filter P t (e ∷ es) h = by (t e) refl (each_filter P t es h.1)
    where
      by : (b : Bool) → t e ≡ b → Each (λ y. P y × (t y ≡ true)) (filter t es) → Each (λ y. P y × (t y ≡ true)) (filter t (e ∷ es))
      by true z r = rw z ((h.0, z), r)
      by false z r = rw z r

  each_first : (P : ℕ × Slot S → Type 0) (es : List (ℕ × Slot S)) (e : ℕ × Slot S) → first_of es ≡ Some e → Each P es → P e
  each_first P [] e z h = absurd (cc)
  each_first P (y ∷ es) e z h = subst P (same_some z) h.0

  ready : Each IsReady (ready_slots g n x)
  ready = each_filter (λ e. slice_get x.slots e.0 ≡ Some e.1) (can_go g n) (placed 0 x.slots)
      (each_placed (λ e. slice_get x.slots e.0 ≡ Some e.1) 0 x.slots (λ j s h. let e : 0 + j ≡ j = omega arith in subst (λ z. slice_get x.slots z ≡ Some s) (sym e) h))

  pub in_turn : (e : ℕ × Slot S) → slot_in_turn g n x ≡ Some e → IsReady e
  in_turn e = by (first_of (filter (λ e. comes_after x.last e.0) (ready_slots g n x))) refl
    where
      by : (z : Option (ℕ × Slot S)) → first_of (filter (λ e. comes_after x.last e.0) (ready_slots g n x)) ≡ z → option_or z (first_of (ready_slots g n x)) ≡ Some e → IsReady e
      by None h i = each_first IsReady (ready_slots g n x) e i ready
      by (Some y) h i = (each_first (λ z. IsReady z × (comes_after x.last z.0 ≡ true)) (filter (λ z. comes_after x.last z.0) (ready_slots g n x)) e (h ∙ i)
          (each_filter IsReady (λ z. comes_after x.last z.0) (ready_slots g n x) ready)).0

none_is : {X : Type 0} (o : Option X) → is_none o ≡ true → o ≡ None
none_is None e = refl
none_is (Some x) e = absurd (cc)

-- what it is to be ready
pub record CanGo {S : Type 0} (g : Language S) (n i : ℕ) (s : Slot S) : Type 0 where
  pub free : s.request ≡ None
  pub fault : g.fault s.state ≡ None
  pub steps : can_step (arrivals s.mailbox) (g.kind (name_at n i) s.state) ≡ true

pub can_go_is : {S : Type 0} (g : Language S) (n i : ℕ) (s : Slot S) → can_go g n (i, s) ≡ true → CanGo g n i s
can_go_is g n i s h =
    let a = first (is_none s.request && is_none (g.fault s.state)) (can_step (arrivals s.mailbox) (g.kind (name_at n i) s.state)) h in
    record {
      free = none_is s.request (first (is_none s.request) (is_none (g.fault s.state)) a);
      fault = none_is (g.fault s.state) (second (is_none s.request) (is_none (g.fault s.state)) a);
      steps = second (is_none s.request && is_none (g.fault s.state)) (can_step (arrivals s.mailbox) (g.kind (name_at n i) s.state)) h;
    }
