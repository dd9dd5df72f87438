-- Names and slots after a change of one slot.
use Rattle.std.proofs.Common.{◌≡◌, ◌≢◌, ◌⊎◌, inl, inr, refl, sym, ap, ap₂, ◌∙◌, ℕ, zero, suc, ◌<◌, List, [], ◌∷◌, ◌++◌, length, Some, arith}
use Rattle.std.specs.Prelude.{slice_get}
use Rattle.run_types.proofs.Laws.{decide}
use Rattle.run_types.specs.ObjectNames.{node_of, slot_of}
use Rattle.node_semantics.specs.Node.{Slot, NodeState, set_at, name_at}
use Rattle.node_semantics.specs.Machine.{Machine}
use Rattle.node_semantics.specs.StandsFor.{slot_in, slot_at}

pub whole_name : (o : ℕ) → name_at (node_of o) (slot_of o) ≡ o
whole_name o = omega arith

pub name_node : (n i : ℕ) → i < 65536 → node_of (name_at n i) ≡ n
name_node n i h = omega (arith, h)

pub name_slot : (n i : ℕ) → i < 65536 → slot_of (name_at n i) ≡ i
name_slot n i h = omega (arith, h)

pub slot_below : (o : ℕ) → slot_of o < 65536
slot_below o = omega arith

module _ {X : Type 0} where
  pub set_same : (xs : List X) (i : ℕ) (x y : X) → slice_get xs i ≡ Some x → slice_get (set_at xs i y) i ≡ Some y
  set_same [] i x y h = absurd (cc)
  set_same (z ∷ xs) zero x y h = refl
  set_same (z ∷ xs) (suc i) x y h = set_same xs i x y h

  pub set_other : (xs : List X) (i j : ℕ) (y : X) → j ≢ i → slice_get (set_at xs i y) j ≡ slice_get xs j
  set_other [] i j y n = refl
  set_other (z ∷ xs) zero zero y n = absurd (n refl)
  set_other (z ∷ xs) zero (suc j) y n = refl
  set_other (z ∷ xs) (suc i) zero y n = refl
  set_other (z ∷ xs) (suc i) (suc j) y n = set_other xs i j y (λ e. n (ap suc e))

  pub set_length : (xs : List X) (i : ℕ) (y : X) → length (set_at xs i y) ≡ length xs
  set_length [] i y = refl
  set_length (z ∷ xs) zero y = refl
  set_length (z ∷ xs) (suc i) y = ap suc (set_length xs i y)

  pub set_set : (xs : List X) (i : ℕ) (y z : X) → set_at (set_at xs i y) i z ≡ set_at xs i z
  set_set [] i y z = refl
  set_set (x ∷ xs) zero y z = refl
  set_set (x ∷ xs) (suc i) y z = ap (λ (ys : List X). x ∷ ys) (set_set xs i y z)

  pub last_there : (xs : List X) (y : X) → slice_get (xs ++ y ∷ []) (length xs) ≡ Some y
  last_there [] y = refl
  last_there (x ∷ xs) y = last_there xs y

  pub front_there : (xs : List X) (y : X) (i : ℕ) → i ≢ length xs → slice_get (xs ++ y ∷ []) i ≡ slice_get xs i
  front_there [] y zero n = absurd (n refl)
  front_there [] y (suc i) n = refl
  front_there (x ∷ xs) y zero n = refl
  front_there (x ∷ xs) y (suc i) n = front_there xs y i (λ e. n (ap suc e))

-- the slots of one node
pub at_node : {S : Type 0} (m : Machine S) (n : ℕ) (x : NodeState S) → slice_get m.nodes n ≡ Some x → (q : ℕ) → node_of q ≡ n → slot_at m q ≡ slice_get x.slots (slot_of q)
at_node m n x is q e = ap (λ o. slot_in o (slot_of q)) (ap (slice_get m.nodes) e ∙ is)

module _ {S : Type 0} (m m' : Machine S) (n : ℕ) (x x' : NodeState S) (is : slice_get m.nodes n ≡ Some x) (now : m'.nodes ≡ set_at m.nodes n x') where
  -- the slots of other nodes
  pub elsewhere : (q : ℕ) → node_of q ≢ n → slot_at m' q ≡ slot_at m q
  elsewhere q e = ap (λ ns. slot_in (slice_get ns (node_of q)) (slot_of q)) now ∙ ap (λ o. slot_in o (slot_of q)) (set_other m.nodes n (node_of q) x' e)

  pub before : (q : ℕ) → node_of q ≡ n → slot_at m q ≡ slice_get x.slots (slot_of q)
  before q e = ap (λ o. slot_in o (slot_of q)) (ap (slice_get m.nodes) e ∙ is)

  pub after : (q : ℕ) → node_of q ≡ n → slot_at m' q ≡ slice_get x'.slots (slot_of q)
  after q e = ap (λ o. slot_in o (slot_of q)) (ap (λ ns. slice_get ns (node_of q)) now ∙ ap (slice_get (set_at m.nodes n x')) e ∙ set_same m.nodes n x x' is)

  -- a node with one slot changed
  module _ (o : ℕ) (own : node_of o ≡ n) (s s' : Slot S) (was : slot_at m o ≡ Some s) (set : x'.slots ≡ set_at x.slots (slot_of o) s') where
    pub changed_here : slot_at m' o ≡ Some s'
    changed_here = after o own ∙ ap (λ ss. slice_get ss (slot_of o)) set ∙ set_same x.slots (slot_of o) s s' (sym (before o own) ∙ was)

    pub changed_there : (q : ℕ) → q ≢ o → slot_at m' q ≡ slot_at m q
    changed_there q e = by (decide (node_of q) n)
      where
        by : (node_of q ≡ n) ⊎ (node_of q ≢ n) → slot_at m' q ≡ slot_at m q
        by (inr i) = elsewhere q i
        by (inl i) =
            after q i ∙ ap (λ ss. slice_get ss (slot_of q)) set
            ∙ set_other x.slots (slot_of o) (slot_of q) s' (λ j. e (sym (whole_name q) ∙ ap₂ name_at (i ∙ sym own) j ∙ whole_name o))
            ∙ sym (before q i)
