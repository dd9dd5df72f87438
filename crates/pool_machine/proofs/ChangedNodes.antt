-- Nodes after one of them has changed.
use Rattle.std.proofs.Common.{◌≡◌, ◌≢◌, ◌⊎◌, inl, inr, refl, sym, ap, subst, ◌∙◌, ℕ, zero, suc, ◌+◌, ◌<◌, ◌≤◌, List, [], ◌∷◌, map, set, Option, Some, None, true, arith}
use Rattle.std.specs.Prelude.{slice_get}
use Rattle.std.specs.Option.{option_map}
use Rattle.std.proofs.lemmas.Option.{slice_get-map}
use Rattle.std.proofs.lemmas.List.{length-set}
use Rattle.run_types.specs.declared.types.Placement.{Placement}
use Rattle.code_semantics.specs.declared.unit.Unit.{Unit as Code}
use Rattle.run_types.specs.Tables.{Pair, no_entry_empty, Each}
use Rattle.run_types.proofs.Laws.{same_some, decide}
use Rattle.node_semantics.specs.Node.{NodeState, set_at}
use Rattle.mesh_of_code.specs.Coded.{Placed}
use Rattle.mesh_routing.specs.Links.{LinksOf}
use Rattle.node_state.specs.NodeOf.{NodeOf}
use Rattle.node_state.specs.OfUnit.{IsOfPlacement, IsOfUnit}
use Rattle.rendezvous_protocol.specs.declared.packet.Packet.{Packet}
use Rattle.machine_network.specs.MachineOn.{AreOfUnit}
use Rattle.pool_machine.specs.Parts.{NodesAreWellFormed, EachCount, IsNodeOf}

module _ {X : Type 0} where
  pub set_here : (xs : List X) (i : ℕ) (x y : X) → slice_get xs i ≡ Some x → slice_get (set xs i y) i ≡ Some y
  set_here [] i x y h = absurd (cc)
  set_here (z ∷ xs) zero x y h = refl
  set_here (z ∷ xs) (suc i) x y h = set_here xs i x y h

  pub set_there : (xs : List X) (i j : ℕ) (y : X) → j ≢ i → slice_get (set xs i y) j ≡ slice_get xs j
  set_there [] i j y n = refl
  set_there (z ∷ xs) zero zero y n = absurd (n refl)
  set_there (z ∷ xs) zero (suc j) y n = refl
  set_there (z ∷ xs) (suc i) zero y n = refl
  set_there (z ∷ xs) (suc i) (suc j) y n = set_there xs i j y (λ e. n (ap suc e))

  pub set_itself : (xs : List X) (i : ℕ) (x : X) → slice_get xs i ≡ Some x → set xs i x ≡ xs
  set_itself [] i x h = refl
  set_itself (z ∷ xs) zero x h = ap (λ (y : X). y ∷ xs) (sym (same_some h))
  set_itself (z ∷ xs) (suc i) x h = ap (λ (ys : List X). z ∷ ys) (set_itself xs i x h)

abbrev states : List NodeOf → List (NodeState Placed)
states nodes = map (λ n. n.state) nodes

pub states_set : (nodes : List NodeOf) (i : ℕ) (n : NodeOf) → map (λ n. n.state) (set nodes i n) ≡ set_at (map (λ n. n.state) nodes) i n.state
states_set [] i n = refl
states_set (x ∷ nodes) zero n = refl
states_set (x ∷ nodes) (suc i) n = ap (λ (z : List (NodeState Placed)). x.state ∷ z) (states_set nodes i n)

pub made_set : (nodes : List NodeOf) (i : ℕ) (n n' : NodeOf) → slice_get nodes i ≡ Some n → n'.state.made ≡ n.state.made → map (λ n. n.state.made) (set nodes i n') ≡ map (λ n. n.state.made) nodes
made_set [] i n n' h e = refl
made_set (x ∷ nodes) zero n n' h e = ap (λ (z : List ℕ). z ∷ map (λ n. n.state.made) nodes) (e ∙ ap (λ (y : NodeOf). y.state.made) (sym (same_some h)))
made_set (x ∷ nodes) (suc i) n n' h e = ap (λ (z : List (List ℕ)). x.state.made ∷ z) (made_set nodes i n n' h e)

-- a node that is as it was but for its state
pub node_kept : (u : Code) (l : Placement) (i : ℕ) (n n' : NodeOf) (x : NodeState Placed) → IsNodeOf u l i n → IsOfUnit u n' → n' ≡ record n { state = x; ready = n'.ready } → IsNodeOf u l i n'
node_kept u l i n n' x h fits e = record {
  id = ap (λ (y : NodeOf). y.id) e ∙ h.id;
  of_unit = fits;
  of_placement = subst (IsOfPlacement u l) (sym e) (record {
    suits = h.of_placement.suits;
    id = h.of_placement.id;
    objects = h.of_placement.objects;
    frames = h.of_placement.frames;
    cells = h.of_placement.cells;
  });
}

module _ (u : Code) (l : Placement) (nodes : List NodeOf) (k : LinksOf Packet) (parts : NodesAreWellFormed u l nodes k) where
  pub parts_changed : (i : ℕ) (n n' : NodeOf) → slice_get nodes i ≡ Some n → IsNodeOf u l i n' → NodesAreWellFormed u l (set nodes i n') k
  parts_changed i n n' h is = record {
    proper = parts.proper;
    suits = parts.suits;
    count = length-set nodes i n' ∙ parts.count;
    each = λ j z e. by j z (decide j i) e;
    width = parts.width;
    height = parts.height;
    cells = parts.cells;
    filled = parts.filled;
  }
    where
      by : (j : ℕ) (z : NodeOf) → (j ≡ i) ⊎ (j ≢ i) → slice_get (set nodes i n') j ≡ Some z → IsNodeOf u l j z
      by j z (inl s) e =
          let at : slice_get (set nodes i n') i ≡ Some z = subst (λ t. slice_get (set nodes i n') t ≡ Some z) s e in
          let same : n' ≡ z = same_some (sym (set_here nodes i n n' h) ∙ at) in
          subst (λ t. IsNodeOf u l t z) (sym s) (subst (IsNodeOf u l i) same is)
      by j z (inr s) e = parts.each j z (sym (set_there nodes i j n' s) ∙ e)

  pub parts_moved : (links : List (Pair × List Packet)) → no_entry_empty links ≡ true → NodesAreWellFormed u l nodes (record k { links = links })
  parts_moved links h = record {
    proper = parts.proper;
    suits = parts.suits;
    count = parts.count;
    each = parts.each;
    width = parts.width;
    height = parts.height;
    cells = parts.cells;
    filled = h;
  }

-- the counts of the nodes

more : (most : ℕ) (ks : List ℕ) → Each (λ k. k ≤ most) ks → Each (λ k. k ≤ most + 1) ks
more most [] h = tt
more most (k ∷ ks) h = ((let a = h.0 in omega (arith, a)), more most ks h.1)

pub counts_more : (most : ℕ) (nodes : List NodeOf) → EachCount (λ k. k ≤ most) nodes → EachCount (λ k. k ≤ most + 1) nodes
counts_more most nodes h i n e = more most n.state.made (h i n e)

pub counts_set : (most : ℕ) (nodes : List NodeOf) (i : ℕ) (n n' : NodeOf) → slice_get nodes i ≡ Some n → (Each (λ k. k ≤ most) n.state.made → Each (λ k. k ≤ most + 1) n'.state.made)
    → EachCount (λ k. k ≤ most) nodes → EachCount (λ k. k ≤ most + 1) (set nodes i n')
counts_set most nodes i n n' here one h j z e = by (decide j i)
  where
    by : (j ≡ i) ⊎ (j ≢ i) → Each (λ k. k ≤ most + 1) z.state.made
    by (inl s) =
        let at : slice_get (set nodes i n') i ≡ Some z = subst (λ t. slice_get (set nodes i n') t ≡ Some z) s e in
        let same : n' ≡ z = same_some (sym (set_here nodes i n n' here) ∙ at) in
        subst (λ (t : NodeOf). Each (λ k. k ≤ most + 1) t.state.made) same (one (h i n here))
    by (inr s) = more most z.state.made (h j z (sym (set_there nodes i j n' s) ∙ e))

pub counts_same : (P : ℕ → Type 0) (nodes nodes' : List NodeOf) → map (λ n. n.state.made) nodes' ≡ map (λ n. n.state.made) nodes → EachCount P nodes → EachCount P nodes'
counts_same P nodes nodes' same h i n' e = by (slice_get nodes i) refl
  where
    at : slice_get (map (λ (n : NodeOf). n.state.made) nodes) i ≡ Some n'.state.made
    at = ap (λ (z : List (List ℕ)). slice_get z i) (sym same) ∙ slice_get-map (λ (n : NodeOf). n.state.made) nodes' i ∙ ap (option_map (λ (n : NodeOf). n.state.made)) e

    by : (z : Option NodeOf) → slice_get nodes i ≡ z → Each P n'.state.made
    by None j = absurd (let a = sym (slice_get-map (λ (n : NodeOf). n.state.made) nodes i) ∙ at in let b = ap (option_map (λ (n : NodeOf). n.state.made)) j in cc)
    by (Some n) j =
        let a : Some n.state.made ≡ Some n'.state.made = sym (slice_get-map (λ (n : NodeOf). n.state.made) nodes i ∙ ap (option_map (λ (n : NodeOf). n.state.made)) j) ∙ at in
        subst (Each P) (same_some a) (h i n j)

-- a bound on the counts
below : (most top : ℕ) (ks : List ℕ) → most < top → Each (λ k. k ≤ most) ks → Each (λ k. k < top) ks
below most top [] t h = tt
below most top (k ∷ ks) t h = ((let a = h.0 in omega (arith, a, t)), below most top ks t h.1)

pub counts_below : (most top : ℕ) (nodes : List NodeOf) → most < top → EachCount (λ k. k ≤ most) nodes → EachCount (λ k. k < top) nodes
counts_below most top nodes t h i n e = below most top n.state.made t (h i n e)

pub are_of_unit : (u : Code) (l : Placement) (nodes : List NodeOf) (k : LinksOf Packet) → NodesAreWellFormed u l nodes k → AreOfUnit u nodes
are_of_unit u l nodes k parts i n e = ((parts.each i n e).id, (parts.each i n e).of_unit)
