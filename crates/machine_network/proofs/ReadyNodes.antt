-- Searches through nodes for one with an object that can step.
use Rattle.std.proofs.Common.{◌≡◌, refl, sym, ap, ap₂, subst, ◌∙◌, ℕ, zero, suc, ◌+◌, ◌<◌, List, [], ◌∷◌, length, map, get_or, Option, Some, None, is_some, Bool, true, false, ◌||◌, arith, below_more}
use Rattle.std.specs.Prelude.{slice_get}
use Rattle.std.specs.Option.{option_map}
use Rattle.std.proofs.lemmas.Option.{slice_get-get_or, slice_get-map}
use Rattle.mesh_semantics.specs.Act.{first_of}
use Rattle.mesh_semantics.specs.Language.{Language}
use Rattle.run_types.proofs.Laws.{same_some}
use Rattle.node_semantics.specs.Node.{NodeState, ready_slots}
use Rattle.node_semantics.specs.Machine.{any_ready}
use Rattle.mesh_of_code.specs.Coded.{Placed}
use Rattle.node_state.specs.NodeOf.{NodeOf}

-- the element at an index
pub element : {X : Type 0} (xs : List X) (i : ℕ) (x : X) → i < length xs → x ≡ get_or xs i x → slice_get xs i ≡ Some x
element xs i x h e = slice_get-get_or xs i x h ∙ ap Some (sym e)

-- one more place
pub one_further : {X : Type 0} (P : X → Type 0) (xs : List X) (n : ℕ) (y : X) → slice_get xs n ≡ Some y → P y → ((i : ℕ) → i < n → (x : X) → slice_get xs i ≡ Some x → P x)
    → (i : ℕ) → i < n + 1 → (x : X) → slice_get xs i ≡ Some x → P x
one_further P xs n y at here h = below_more (λ i. (x : _) → slice_get xs i ≡ Some x → P x) n h (λ x e. subst P (same_some (sym at ∙ e)) here)

-- the states of nodes

abbrev has_ready : {S : Type 0} → Language S → ℕ → NodeState S → Bool
has_ready g n x = is_some (first_of (ready_slots g n x))

module _ {S : Type 0} (g : Language S) where
  pub ready_found : (n : ℕ) (xs : List (NodeState S)) (i : ℕ) (x : NodeState S) → slice_get xs i ≡ Some x → has_ready g (n + i) x ≡ true → any_ready g n xs ≡ true
  ready_found n [] i x h e = absurd (cc)
  ready_found n (y ∷ xs) zero x h e =
      let z : n + zero ≡ n = omega arith in
      ap (λ b. b || any_ready g (n + 1) xs) (ap₂ (has_ready g) (sym z) (same_some h) ∙ e)
  ready_found n (y ∷ xs) (suc i) x h e =
      let z : n + suc i ≡ n + 1 + i = omega arith in
      by (has_ready g n y) (ready_found (n + 1) xs i x h (ap (λ k. has_ready g k x) (sym z) ∙ e))
    where
      by : (b : Bool) → any_ready g (n + 1) xs ≡ true → (b || any_ready g (n + 1) xs) ≡ true
      by true r = refl
      by false r = r

  pub none_ready : (n : ℕ) (xs : List (NodeState S)) → ((i : ℕ) (x : NodeState S) → slice_get xs i ≡ Some x → has_ready g (n + i) x ≡ false) → any_ready g n xs ≡ false
  none_ready n [] h = refl
  none_ready n (y ∷ xs) h =
      let z : n + zero ≡ n = omega arith in
      ap₂ (λ a b. a || b) (ap (λ k. has_ready g k y) (sym z) ∙ h zero y refl)
      (none_ready (n + 1) xs (λ i x e. let w : n + 1 + i ≡ n + suc i = omega arith in ap (λ k. has_ready g k x) w ∙ h (suc i) x e))

-- a state of a list of nodes is that of one of them
pub node_behind : (nodes : List NodeOf) (i : ℕ) (x : NodeState Placed) → slice_get (map (λ n. n.state) nodes) i ≡ Some x → (n : NodeOf) × (slice_get nodes i ≡ Some n) × (n.state ≡ x)
node_behind nodes i x h = by (slice_get nodes i) refl
  where
    at : option_map (λ (n : NodeOf). n.state) (slice_get nodes i) ≡ Some x
    at = sym (slice_get-map (λ (n : NodeOf). n.state) nodes i) ∙ h

    by : (z : Option NodeOf) → slice_get nodes i ≡ z → (n : NodeOf) × (slice_get nodes i ≡ Some n) × (n.state ≡ x)
    by None e = absurd (let a : None ≡ Some x = sym (ap (option_map (λ (n : NodeOf). n.state)) e) ∙ at in cc)
    by (Some n) e = (n, e, same_some (sym (ap (option_map (λ (n : NodeOf). n.state)) e) ∙ at))

-- the state of a node is in the list of states
pub state_there : (nodes : List NodeOf) (i : ℕ) (n : NodeOf) → slice_get nodes i ≡ Some n → slice_get (map (λ n. n.state) nodes) i ≡ Some n.state
state_there nodes i n h = slice_get-map (λ (n : NodeOf). n.state) nodes i ∙ ap (option_map (λ (n : NodeOf). n.state)) h
