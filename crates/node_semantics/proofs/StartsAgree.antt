-- The start of a machine represents the start of the configuration.
use Rattle.std.proofs.Common.{◌≡◌, ◌⊎◌, inl, inr, refl, sym, ap, subst, ◌∙◌, ℕ, zero, suc, ◌*◌, ◌<◌, ◌≤◌, List, [], ◌∷◌, length, replicate, Option, Some, None, arith}
use Rattle.std.proofs.lemmas.List.{length-replicate}
use Rattle.std.specs.Prelude.{slice_get}
use Rattle.run_types.specs.declared.types.Placement.{Placement}
use Rattle.run_types.proofs.Laws.{same_some, there_at}
use Rattle.mesh_semantics.specs.Language.{Language}
use Rattle.mesh_semantics.specs.Config.{Config}
use Rattle.mesh_semantics.specs.Delay.{no_delay, no_delay_on_wires}
use Rattle.run_types.specs.ObjectNames.{node_of, slot_of}
use Rattle.mesh_semantics.proofs.Laws.{Fit}
use Rattle.run_types.specs.declared.types.Place.{Place}
use Rattle.run_types.specs.declared.types.Place.TheVariants as Pl
use Rattle.mesh_semantics.specs.Record.{start, last_place, root_name, root_node, with_root}
use Rattle.node_semantics.specs.Node.{NodeState, name_at, set_at, fresh_slot}
use Rattle.node_semantics.specs.Machine.{Machine, empty_node, machine_start, machine_start_on_wires, on_wires_from, start_with}
use Rattle.node_semantics.specs.WiresStandFor.{StandsFor, StartAgrees}
use Rattle.mesh_semantics.specs.Requests.{Requests}
use Rattle.node_semantics.specs.StandsFor.{slot_at, slot_in, request_of, request_in, CountsMade, MachineStandsFor}
use Rattle.node_semantics.proofs.WiresAgree.{starts_on_wires}
use Rattle.node_semantics.proofs.AddedObject.{add_stands}
use Rattle.mesh_semantics.specs.Act.{class_place}
use Rattle.node_semantics.proofs.ClassPlaces.{zeros}

copy_is : {X : Type 0} (n : ℕ) (x y : X) (i : ℕ) → slice_get (replicate n x) i ≡ Some y → x ≡ y
copy_is zero x y i h = absurd (cc)
copy_is (suc n) x y zero h = same_some h
copy_is (suc n) x y (suc i) h = copy_is n x y i h

copied : {X : Type 0} (n : ℕ) (x : X) (i : ℕ) → (slice_get (replicate n x) i ≡ Some x) ⊎ (slice_get (replicate n x) i ≡ None)
copied zero x i = inr refl
copied (suc n) x zero = inl refl
copied (suc n) x (suc i) = copied n x i

last_in : (ps : List Place) (p : Place) → last_place ps ≡ Some p → (i : ℕ) × (slice_get ps i ≡ Some p)
last_in [] p h = absurd (cc)
last_in (q ∷ []) p h = (zero, h)
last_in (q ∷ r ∷ ps) p h = let z = last_in (r ∷ ps) p h in (suc z.0, z.1)

module _ {S : Type 0} (g : Language S) (W : Config S → Type 0) (req : Requests g W) (l : Placement) where
  abbrev m₀ : Machine S
  m₀ = record { nodes = replicate (l.width * l.height) (empty_node g); links = []; wires = None }

  abbrev c₀ : Config S
  c₀ = record { objects = []; messages = [] }

  nowhere : (q : ℕ) → slot_at m₀ q ≡ None
  nowhere q = by (copied (l.width * l.height) (empty_node g) (node_of q))
    where
      by : (slice_get m₀.nodes (node_of q) ≡ Some (empty_node g)) ⊎ (slice_get m₀.nodes (node_of q) ≡ None) → slot_at m₀ q ≡ None
      by (inl e) = ap (λ z. slot_in z (slot_of q)) e
      by (inr e) = ap (λ z. slot_in z (slot_of q)) e

  empty : MachineStandsFor g l m₀ c₀ no_delay
  empty = record {
    nodes = length-replicate (l.width * l.height) (empty_node g);
    few = λ n x h. let e : (empty_node g) ≡ x = copy_is (l.width * l.height) (empty_node g) x n h in subst (λ (z : NodeState S). length z.slots ≤ 65536) e (omega arith);
    named = λ o. rw (nowhere o) (refl, refl);
    links = λ k. refl;
    in_order = refl;
    last = λ n x h. let e : (empty_node g) ≡ x = copy_is (l.width * l.height) (empty_node g) x n h in subst (λ (z : NodeState S). z.last ≡ None) e refl;
    made = λ n x h. let e : (empty_node g) ≡ x = copy_is (l.width * l.height) (empty_node g) x n h in subst (λ (z : NodeState S). CountsMade g z no_delay n) e (length-replicate (length g.classes) 0, (λ k i. zeros (length g.classes) (class_place g.classes k)));
    distinct = λ a b k e i j. absurd (let z : request_of m₀ a ≡ None = ap request_in (nowhere a) in cc);
    on_links = λ k. tt;
    in_mailboxes = λ o. rw (nowhere o) tt;
    in_callers = λ o. rw (nowhere o) tt;
  }

  alone : (k : ℕ) (y : S) → k < l.width * l.height → g.callers y ≡ []
      → MachineStandsFor g l (record m₀ { nodes = set_at m₀.nodes k (record (empty_node g) { slots = fresh_slot y ∷ [] }); links = [] }) (record { objects = (k * 65536, y) ∷ []; messages = [] }) no_delay
  alone k y inside none =
      let x = there_at m₀.nodes k (subst (λ z. k < z) (sym (length-replicate (l.width * l.height) (empty_node g))) inside) in
      let e : (empty_node g) ≡ x.0 = copy_is (l.width * l.height) (empty_node g) x.0 k x.1 in
      let node : slice_get m₀.nodes k ≡ Some (empty_node g) = x.1 ∙ ap Some (sym e) in
      let name : name_at k 0 ≡ k * 65536 = omega arith in
      subst (λ z. MachineStandsFor g l (record m₀ { nodes = set_at m₀.nodes k (record (empty_node g) { slots = fresh_slot y ∷ [] }); links = [] }) (record { objects = (z, y) ∷ []; messages = [] }) no_delay) name
      (add_stands g l m₀ c₀ no_delay empty k (empty_node g) node W req (omega arith) y (λ b z h i. absurd (cc)) refl none)

  root_at : (k : ℕ) → node_of (k * 65536) ≡ k
  root_at k = omega arith

  pub start_agrees : Fit l → StartAgrees g l no_delay (machine_start g l) (start g l)
  start_agrees fit = by g.root refl
    where
      root : (p : Option Place) → last_place l.places ≡ p → root_node p < l.width * l.height
      root None e = fit.nodes
      root (Some Pl.Same) e = fit.nodes
      root (Some Pl.Spread) e = fit.nodes
      root (Some (Pl.At k)) e = let i = last_in l.places (Pl.At k) e in fit.places i.0 k i.1

      by : (y : Option S) → g.root ≡ y → StartAgrees g l no_delay (start_with g l (node_of (root_name l)) y) (with_root (root_name l) y)
      by None e = tt
      by (Some y) e =
          subst (λ z. StandsFor g l (record m₀ { nodes = set_at m₀.nodes z (record (empty_node g) { slots = fresh_slot y ∷ [] }); links = [] }) (record { objects = (root_name l, y) ∷ []; messages = [] }) no_delay)
          (sym (root_at (root_node (last_place l.places)))) (record { state = alone (root_node (last_place l.places)) y (root (last_place l.places) refl) (req.root_callers y e); wires = tt })

  -- and so with wires
  pub start_agrees_on_wires : Fit l → StartAgrees g l no_delay_on_wires (machine_start_on_wires g l) (start g l)
  start_agrees_on_wires fit = by (machine_start g l) (start g l) (start_agrees fit)
    where
      by : (m : Option (Machine S)) (c : Option (Config S)) → StartAgrees g l no_delay m c → StartAgrees g l no_delay_on_wires (on_wires_from m) c
      by None None h = tt
      by (Some m) (Some c) h = starts_on_wires g l m c h.state
      by None (Some c) h = absurd h
      by (Some m) None h = absurd h
