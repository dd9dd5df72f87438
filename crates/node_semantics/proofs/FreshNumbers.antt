-- Fresh request numbers exist for each schedule; and a test of numbers along a run.
use Rattle.std.proofs.Common.{◌≡◌, ◌≢◌, ap, subst, ◌∙◌, ℕ, zero, suc, ◌+◌, ◌<◌, List, [], ◌∷◌, Option, Some, None, Bool, true, false, not, ◌&&◌, ◌||◌, arith}
use Rattle.std.specs.Prelude.{slice_get}
use Rattle.run_types.specs.declared.types.Event.{Event}
use Rattle.run_types.specs.declared.types.Event.TheVariants as Ev
use Rattle.run_types.specs.declared.types.Placement.{Placement}
use Rattle.run_types.proofs.Laws.{same_some, equals, first, second}
use Rattle.mesh_semantics.specs.Language.{Language}
use Rattle.node_semantics.specs.Node.{Slot, NodeState, has_number}
use Rattle.node_semantics.specs.Machine as M
use Rattle.node_semantics.specs.Machine.{Machine, MachineActed, machine_act, machine_start, machine_start_on_wires, is_machine_quiet}
use Rattle.node_semantics.specs.Agrees.{IsFresh, IsUnused}
use Rattle.node_semantics.specs.MachineLines.{Then, UnlessQuiet, AreFresh, AreFreshAt, FreshAlong, FreshAlongWires}

abbrev above : Option ℕ → ℕ
above None = 0
above (Some k) = k + 1

unless : (b : Bool) (P : Type 0) → P → UnlessQuiet b P
unless true P h = tt
unless false P h = h

module _ {S : Type 0} where
  -- more than each number that is out
  abbrev bound : List (Slot S) → ℕ
  bound [] = 0
  bound (s ∷ ss) = above s.request + bound ss

  below : (ss : List (Slot S)) (i : ℕ) (s : Slot S) (k : ℕ) → slice_get ss i ≡ Some s → s.request ≡ Some k → k < bound ss
  below [] i s k e h = absurd (cc)
  below (z ∷ ss) zero s k e h = let same : z ≡ s = same_some e in let f : above z.request ≡ k + 1 = ap (λ (y : Slot S). above y.request) same ∙ ap above h in omega (arith, f)
  below (z ∷ ss) (suc i) s k e h = let r = below ss i s k e h in omega (arith, r)

  -- so a node has a number that is not out
  pub unused_number : (x : NodeState S) → (k : ℕ) × IsUnused k x
  unused_number x = (bound x.slots, λ i s here h. let b = below x.slots i s (bound x.slots) here h in omega (arith, b))

  abbrev node_bound : Option (NodeState S) → ℕ
  node_bound None = 0
  node_bound (Some x) = bound x.slots

  abbrev number : Machine S → Event → ℕ
  number m (Ev.Turn n) = node_bound (slice_get m.nodes n)
  number m (Ev.Link a b) = 0
  number m (Ev.Wire w a b) = 0

  -- there is always a number that is not out
  is_fresh : (m : Machine S) (e : Event) → IsFresh m (number m e) e
  is_fresh m (Ev.Turn n) = λ x node i s here h.
      let a : s.request ≡ Some (bound x.slots) = h ∙ ap (λ z. Some (node_bound z)) node in
      let b = below x.slots i s (bound x.slots) here a in omega (arith, b)
  is_fresh m (Ev.Link a b) = tt
  is_fresh m (Ev.Wire w a b) = tt

  module _ (g : Language S) (l : Placement) (q : ℕ) where
    onwards : (es : List Event) (a : MachineActed S) → ((m : Machine S) → (ks : List ℕ) × AreFresh g l q m es ks) → (ks : List ℕ) × Then (λ m. AreFresh g l q m es ks) a
    onwards es (M.Acts w m) f = f m
    onwards es (M.Full k n) f = ([], tt)
    onwards es M.Nothing f = ([], tt)

    fresh_from : (es : List Event) (m : Machine S) → (ks : List ℕ) × AreFresh g l q m es ks
    fresh_from [] m = ([], tt)
    fresh_from (e ∷ es) m =
        let r = onwards es (machine_act g l q (number m e) m e) (λ m'. fresh_from es m') in
        (number m e ∷ r.0, unless (is_machine_quiet g m) (IsFresh m (number m e) e × Then (λ m'. AreFresh g l q m' es r.0) (machine_act g l q (number m e) m e)) (is_fresh m e, r.1))

    fresh_at : (es : List Event) (m : Option (Machine S)) → (ks : List ℕ) × AreFreshAt g l q m es ks
    fresh_at es None = ([], tt)
    fresh_at es (Some m) = fresh_from es m

    pub numbers_exist : (es : List Event) → (ks : List ℕ) × FreshAlong g l q es ks
    numbers_exist es = fresh_at es (machine_start g l)

    pub numbers_exist_on_wires : (es : List Event) → (ks : List ℕ) × FreshAlongWires g l q es ks
    numbers_exist_on_wires es = fresh_at es (machine_start_on_wires g l)

-- a test of numbers
module _ {S : Type 0} where
  abbrev pub is_unused : ℕ → List (Slot S) → Bool
  is_unused k [] = true
  is_unused k (s ∷ ss) = not (has_number s.request k) && is_unused k ss

  abbrev pub is_fresh_at : ℕ → Option (NodeState S) → Bool
  is_fresh_at k None = true
  is_fresh_at k (Some x) = is_unused k x.slots

  abbrev pub is_fresh_number : Machine S → ℕ → Event → Bool
  is_fresh_number m k (Ev.Turn n) = is_fresh_at k (slice_get m.nodes n)
  is_fresh_number m k (Ev.Link a b) = true
  is_fresh_number m k (Ev.Wire w a b) = true

  unused_if : (k : ℕ) (ss : List (Slot S)) → is_unused k ss ≡ true → (i : ℕ) (s : Slot S) → slice_get ss i ≡ Some s → s.request ≢ Some k
  unused_if k [] h i s e r = absurd (cc)
  unused_if k (z ∷ ss) h zero s e r =
      let a : has_number z.request k ≡ true = ap (λ (y : Slot S). has_number y.request k) (same_some e) ∙ ap (λ y. has_number y k) r ∙ equals k in
      let b = first (not (has_number z.request k)) (is_unused k ss) h in cc
  unused_if k (z ∷ ss) h (suc i) s e r = unused_if k ss (second (not (has_number z.request k)) (is_unused k ss) h) i s e r

  fresh_if : (m : Machine S) (k : ℕ) (e : Event) → is_fresh_number m k e ≡ true → IsFresh m k e
  fresh_if m k (Ev.Turn n) h = λ x node. unused_if k x.slots (let a : is_fresh_at k (Some x) ≡ true = subst (λ z. is_fresh_at k z ≡ true) node h in a)
  fresh_if m k (Ev.Link a b) h = tt
  fresh_if m k (Ev.Wire w a b) h = tt

  module _ (g : Language S) (l : Placement) (q : ℕ) where
    abbrev fresh_then : (Machine S → Bool) → MachineActed S → Bool
    fresh_then test (M.Acts w m) = test m
    fresh_then test _ = true

    abbrev pub are_fresh : Machine S → List Event → List ℕ → Bool
    are_fresh m [] ks = true
    are_fresh m (e ∷ es) [] = false
    are_fresh m (e ∷ es) (k ∷ ks) = is_machine_quiet g m || (is_fresh_number m k e && fresh_then (λ m'. are_fresh m' es ks) (machine_act g l q k m e))

    abbrev pub are_fresh_at : Option (Machine S) → List Event → List ℕ → Bool
    are_fresh_at None es ks = true
    are_fresh_at (Some m) es ks = are_fresh m es ks

    fresh_onwards : (es : List Event) (ks : List ℕ) (a : MachineActed S) → ((m : Machine S) → are_fresh m es ks ≡ true → AreFresh g l q m es ks)
        → fresh_then (λ m. are_fresh m es ks) a ≡ true → Then (λ m. AreFresh g l q m es ks) a
    fresh_onwards es ks (M.Acts w m) f h = f m h
    fresh_onwards es ks (M.Full k n) f h = tt
    fresh_onwards es ks M.Nothing f h = tt

    fresh_by : (es : List Event) (ks : List ℕ) (m : Machine S) → are_fresh m es ks ≡ true → AreFresh g l q m es ks
    fresh_by [] ks m h = tt
    fresh_by (e ∷ es) [] m h = absurd (cc)
    fresh_by (e ∷ es) (k ∷ ks) m h = by (is_machine_quiet g m) h (λ m'. fresh_by es ks m')
      where
        by : (b : Bool) → (b || (is_fresh_number m k e && fresh_then (λ m'. are_fresh m' es ks) (machine_act g l q k m e))) ≡ true
            → ((m' : Machine S) → are_fresh m' es ks ≡ true → AreFresh g l q m' es ks)
            → UnlessQuiet b (IsFresh m k e × Then (λ m'. AreFresh g l q m' es ks) (machine_act g l q k m e))
        by true z f = tt
        by false z f = (
          fresh_if m k e (first (is_fresh_number m k e) (fresh_then (λ m'. are_fresh m' es ks) (machine_act g l q k m e)) z),
          fresh_onwards es ks (machine_act g l q k m e) f (second (is_fresh_number m k e) (fresh_then (λ m'. are_fresh m' es ks) (machine_act g l q k m e)) z),
        )

    -- numbers that pass the test are fresh along the run
    pub fresh_along : (es : List Event) (ks : List ℕ) → are_fresh_at (machine_start g l) es ks ≡ true → FreshAlong g l q es ks
    fresh_along es ks = by (machine_start g l)
      where
        by : (m : Option (Machine S)) → are_fresh_at m es ks ≡ true → AreFreshAt g l q m es ks
        by None h = tt
        by (Some m) h = fresh_by es ks m h
