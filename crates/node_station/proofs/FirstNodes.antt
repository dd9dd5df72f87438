-- A node at the start of a run, as each machine of the unit has it, and the station of it.
use Rattle.std.proofs.Common.{◌≡◌, ◌≢◌, refl, sym, ap, subst, ◌∙◌, ℕ, zero, suc, ◌+◌, ◌*◌, ◌<◌, ◌≤◌, List, [], ◌∷◌, length, map, Option, Some, None, arith}
use Rattle.std.specs.Prelude.{replicate, slice_get}
use Rattle.std.specs.Option.{option_map}
use Rattle.std.proofs.lemmas.List.Sums.{sum_by-cons}
use Rattle.std.proofs.lemmas.Option.{slice_get-map}
use Rattle.run_types.specs.declared.types.Placement.{Placement}
use Rattle.run_types.specs.ObjectNames.{node_of}
use Rattle.run_types.specs.Tables.{Each, Pair}
use Rattle.run_types.proofs.Laws.{same_some}
use Rattle.code_semantics.specs.declared.unit.Unit.{Unit as Code}
use Rattle.mesh_semantics.specs.Record.{last_place, root_name, root_node}
use Rattle.mesh_of_code.specs.Coded.{Placed, coded}
use Rattle.node_semantics.specs.Machine.{Machine, empty_node, machine_start, start_with}
use Rattle.node_semantics.specs.Node.{NodeState, Slot, fresh_slot, message_count, set_at}
use Rattle.node_semantics.proofs.Laws.{set_other, set_same}
use Rattle.node_state.specs.NodeOf.{NodeOf}
use Rattle.node_state.specs.OfUnit.{IsOfPlacement, IsOfUnit}
use Rattle.rendezvous_protocol.specs.declared.packet.Packet.{Packet}
use Rattle.machine_network.specs.LinkWires.{numbered_link}
use Rattle.station_semantics.specs.Station.{alone}
use Rattle.node_station.specs.Parts.{IsFirst}
use Rattle.node_station.specs.StationOf.{counts_from}

zeros : (n : ℕ) → Each (λ k. k ≤ 0) (replicate n 0)
zeros zero = tt
zeros (suc n) = (omega arith, zeros n)

copy_there : {X : Type 0} (n i : ℕ) (x : X) → i < n → slice_get (replicate n x) i ≡ Some x
copy_there zero i x h = absurd (omega arith)
copy_there (suc n) zero x h = refl
copy_there (suc n) (suc i) x h = copy_there n i x (omega (arith, h))

root_at : (k : ℕ) → node_of (k * 65536) ≡ k
root_at k = omega arith

module _ (u : Code) (l : Placement) where
  abbrev root : ℕ
  root = root_node (last_place l.places)

  abbrev size : ℕ
  size = l.width * l.height

  abbrev first_state : Placed → NodeState Placed
  first_state y = record (empty_node (coded u)) { slots = fresh_slot y ∷ [] }

  -- the nodes of a machine at its start
  nodes_are : (m : Machine Placed) → machine_start (coded u) l ≡ Some m → (y : Placed) × ((coded u).root ≡ Some y) × (m.nodes ≡ set_at (replicate size (empty_node (coded u))) root (first_state y))
  nodes_are m = by (coded u).root refl
    where
      by : (o : Option Placed) → (coded u).root ≡ o → start_with (coded u) l (node_of (root_name l)) o ≡ Some m
          → (y : Placed) × ((coded u).root ≡ Some y) × (m.nodes ≡ set_at (replicate size (empty_node (coded u))) root (first_state y))
      by None e h = absurd (cc)
      by (Some y) e h =
          (y, e, ap (λ (z : Machine Placed). z.nodes) (sym (same_some h)) ∙ ap (λ i. set_at (replicate size (empty_node (coded u))) i (first_state y)) (root_at root))

  module _ (i : ℕ) (inside : i < size) where
    pub empty_first : (n : NodeOf) → n.id ≡ i → IsOfUnit u n → IsOfPlacement u l n → n.state ≡ empty_node (coded u) → root ≢ i → IsFirst u l i n
    empty_first n id fits placed state other = record {
      id = id;
      of_unit = fits;
      of_placement = placed;
      made = subst (λ (x : NodeState Placed). Each (λ k. k ≤ 0) x.made) (sym state) (zeros (length (coded u).classes));
      messages = ap (λ (x : NodeState Placed). message_count x.slots) state;
      first = λ m h. let z = nodes_are m h in
          ap (λ (ns : List (NodeState Placed)). slice_get ns i) z.2
          ∙ set_other (replicate size (empty_node (coded u))) root i (first_state z.0) (λ q. other (sym q)) ∙ copy_there size i (empty_node (coded u)) inside ∙ ap (λ (x : NodeState Placed). Some x) (sym state);
    }

    pub root_first : (n n' : NodeOf) (y : Placed) → n.id ≡ i → IsOfUnit u n' → IsOfPlacement u l n → n.state ≡ empty_node (coded u) → (coded u).root ≡ Some y
        → n' ≡ record n { state = record n.state { slots = fresh_slot y ∷ [] }; ready = n'.ready } → root ≡ i → IsFirst u l i n'
    root_first n n' y id fits placed state made is here = record {
      id = ap (λ (z : NodeOf). z.id) is ∙ id;
      of_unit = fits;
      of_placement = subst (IsOfPlacement u l) (sym is) (record { suits = placed.suits; id = placed.id; objects = placed.objects; frames = placed.frames; cells = placed.cells });
      made = subst (λ (x : NodeState Placed). Each (λ k. k ≤ 0) x.made) (sym state_is) (zeros (length (coded u).classes));
      messages = ap (λ (x : NodeState Placed). message_count x.slots) state_is ∙ none y;
      first = λ m h. let z = nodes_are m h in
          ap (λ (ns : List (NodeState Placed)). slice_get ns i) z.2
          ∙ subst (λ j. slice_get (set_at (replicate size (empty_node (coded u))) root (first_state z.0)) j ≡ Some (first_state z.0)) here (there z.0)
          ∙ ap (λ w. Some (first_state w)) (same_some (sym z.1 ∙ made)) ∙ ap (λ (x : NodeState Placed). Some x) (sym state_is);
    }
      where
        state_is : n'.state ≡ first_state y
        state_is = ap (λ (z : NodeOf). z.state) is ∙ ap (λ (z : NodeState Placed). record z { slots = fresh_slot y ∷ [] }) state

        none : (w : Placed) → message_count (fresh_slot w ∷ []) ≡ 0
        none w = sum_by-cons (λ (s : Slot Placed). length s.mailbox) (fresh_slot w) []

        there : (w : Placed) → slice_get (set_at (replicate size (empty_node (coded u))) root (first_state w)) root ≡ Some (first_state w)
        there w = set_same (replicate size (empty_node (coded u))) root (empty_node (coded u)) (first_state w) (copy_there size root (empty_node (coded u)) (subst (λ j. j < size) (sym here) inside))

-- no counts
none_counted : (b n : ℕ) → counts_from b (replicate n 0) ≡ []
none_counted b zero = refl
none_counted b (suc n) = none_counted (b + 1) n

-- the station of a node before its first input
pub is_alone : (x : NodeState Placed) (es : List (Pair × List Packet)) (ks hs : List ℕ) (n : ℕ) (ns : List (NodeState Placed)) (i : ℕ) → es ≡ [] → ks ≡ replicate n 0 → hs ≡ replicate n 0 → slice_get ns i ≡ Some x
    → slice_get (map alone ns) i ≡ Some (record { node = x; links = map numbered_link es; acked = counts_from 0 ks; handed = counts_from 0 hs })
is_alone x es ks hs n ns i a b c h =
    slice_get-map alone ns i ∙ ap (option_map alone) h
    ∙ λ j. Some (record { node = x; links = map numbered_link (sym a j); acked = (sym (ap (counts_from 0) b ∙ none_counted 0 n)) j; handed = (sym (ap (counts_from 0) c ∙ none_counted 0 n)) j })
