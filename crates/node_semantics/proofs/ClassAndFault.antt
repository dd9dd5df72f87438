-- The slot of an object has its class and its fault. A machine has an object with a fault exactly if its configuration
-- has one.
use Rattle.std.proofs.Common.{◌≡◌, refl, sym, ap, subst, ◌∙◌, IsTrue, ℕ, zero, suc, ◌<◌, List, [], ◌∷◌, Option, Some, None, is_some, true, arith}
use Rattle.std.specs.Prelude.{slice_get}
use Rattle.std.specs.List.{list_any}
use Rattle.std.specs.Ordering.{nat_cmp}
use Rattle.std.specs.declared.cmp.Ordering.{Ordering}
use Rattle.std.specs.declared.cmp.Ordering.TheVariants.{Less, Equal, Greater}
use Rattle.std.specs.FinMap.{find}
use Rattle.std.specs.FinMap.Entries.{is_sorted, below_all}
use Rattle.std.proofs.lemmas.Option.{slice_get_within}
use Rattle.run_types.specs.declared.types.Placement.{Placement}
use Rattle.run_types.proofs.Laws.{first, second, same_some}
use Rattle.mesh_semantics.specs.Language.{Language}
use Rattle.mesh_semantics.specs.Config.{Config, object_of}
use Rattle.mesh_semantics.specs.Delay.{Holding, Delay, held, arrived_at}
use Rattle.run_types.specs.ObjectNames.{node_of, slot_of}
use Rattle.run_types.specs.Tables.{Each}
use Rattle.node_semantics.specs.Node.{Slot, NodeState, name_at}
use Rattle.node_semantics.specs.Machine.{Machine, any_faulted}
use Rattle.mesh_semantics.specs.Requests.{KeepsClassAndFault}
use Rattle.node_semantics.specs.StandsFor.{slot_at, slot_in, SlotStandsFor, Free, Served, Posted, Due, AtName, MachineStandsFor}
use Rattle.node_semantics.proofs.NamesAndSlots.{at_node, name_node, name_slot}
use Rattle.node_semantics.proofs.NamesAfterChange.{Found, found}
use Rattle.node_semantics.proofs.SlotsOfObjects.{find_head, find_skip, each_below}
use Rattle.node_semantics.proofs.QuietAgrees.{same_bool, one_of, of_one}

module _ {Y : Type 0} where
  below_place : (k : ℕ) (es : List (ℕ × Y)) (i : ℕ) (e : ℕ × Y) → Each (λ z. k < z.0) es → slice_get es i ≡ Some e → k < e.0
  below_place k [] i e h r = absurd (cc)
  below_place k (z ∷ es) zero e h r = let same : z ≡ e = same_some r in subst (λ w. k < w.0) same h.0
  below_place k (z ∷ es) (suc i) e h r = below_place k es i e h.1 r

  -- what stands at a place of a map is found under its key
  place_found : (es : List (ℕ × Y)) (i : ℕ) (e : ℕ × Y) → IsTrue (is_sorted nat_cmp es) → slice_get es i ≡ Some e → find nat_cmp e.0 es ≡ Some e.1
  place_found [] i e o h = absurd (cc)
  place_found (z ∷ es) zero e o h = let same : z ≡ e = same_some h in subst (λ w. find nat_cmp w.0 (z ∷ es) ≡ Some w.1) same (find_head z.0 z.1 es)
  place_found (z ∷ es) (suc i) e o h =
      let b = below_place z.0 es i e (each_below z.0 es (first (below_all nat_cmp z.0 es) (is_sorted nat_cmp es) o)) h in
      find_skip e.0 z es (λ q. absurd (omega (arith, b, q))) ∙ place_found es i e (second (below_all nat_cmp z.0 es) (is_sorted nat_cmp es) o) h

  -- what is found has a place
  found_place : (es : List (ℕ × Y)) (k : ℕ) (y : Y) → find nat_cmp k es ≡ Some y → (i : ℕ) × (slice_get es i ≡ Some (k, y))
  found_place [] k y h = absurd (cc)
  found_place (z ∷ es) k y h = by (nat_cmp k z.0) refl (found_place es k y)
    where
      by : (r : Ordering) → nat_cmp k z.0 ≡ r → (find nat_cmp k es ≡ Some y → (i : ℕ) × (slice_get es i ≡ Some (k, y))) → (i : ℕ) × (slice_get (z ∷ es) i ≡ Some (k, y))
      by Equal e f =
          let a : k ≡ z.0 = grind (arith, e) in
          let b : Some z.1 ≡ Some y = rw e at h in
          let c : z.1 ≡ y = same_some b in
          (zero, subst (λ n. Some z ≡ Some (n, y)) (sym a) (subst (λ w. Some z ≡ Some (z.0, w)) c refl))
      by Less e f = let r = f (rw e at h) in (suc r.0, r.1)
      by Greater e f = let r = f (rw e at h) in (suc r.0, r.1)

same_test : {X : Type 0} (a b : Option X) → a ≡ b → is_some a ≡ true → is_some b ≡ true
same_test a b e h = subst (λ z. is_some z ≡ true) e h

module _ {S : Type 0} (g : Language S) (keeps : KeepsClassAndFault g) where
  slot_class : (o : ℕ) (s : Slot S) (x : S) (h : Option Holding) → SlotStandsFor g o s x h → g.class s.state ≡ g.class x
  slot_class o s x None (Free e z) = ap g.class z
  slot_class o s x None (Served b m args e z y) = sym (keeps.waiting_class o s.state b m args z) ∙ ap g.class y
  slot_class o s x (Some _) (Posted e z) = ap g.class z
  slot_class o s x (Some _) (Due v e a z) = sym (keeps.given_class o s.state v a) ∙ ap g.class z

  slot_fault : (o : ℕ) (s : Slot S) (x : S) (h : Option Holding) → SlotStandsFor g o s x h → g.fault s.state ≡ g.fault x
  slot_fault o s x None (Free e z) = ap g.fault z
  slot_fault o s x None (Served b m args e z y) = sym (keeps.waiting_fault o s.state b m args z) ∙ ap g.fault y
  slot_fault o s x (Some _) (Posted e z) = ap g.fault z
  slot_fault o s x (Some _) (Due v e a z) = sym (keeps.given_fault o s.state v a) ∙ ap g.fault z

  module _ (l : Placement) (m : Machine S) (c : Config S) (d : Delay) (st : MachineStandsFor g l m c d) where
    pub class_kept : (o : ℕ) (x : S) (s : Slot S) → object_of c o ≡ Some x → slot_at m o ≡ Some s → g.class s.state ≡ g.class x
    class_kept o x s there here =
        let f : Found g l m c d st o x = found g l m c d st o x there in
        let same : f.slot ≡ s = same_some (sym f.here ∙ here) in
        subst (λ (z : Slot S). g.class z.state ≡ g.class x) same (slot_class o f.slot x (held d o) f.stands.state)

    pub fault_kept : (o : ℕ) (x : S) (s : Slot S) → object_of c o ≡ Some x → slot_at m o ≡ Some s → g.fault s.state ≡ g.fault x
    fault_kept o x s there here =
        let f : Found g l m c d st o x = found g l m c d st o x there in
        let same : f.slot ≡ s = same_some (sym f.here ∙ here) in
        subst (λ (z : Slot S). g.fault z.state ≡ g.fault x) same (slot_fault o f.slot x (held d o) f.stands.state)

    -- the object of a slot
    object_here : (o : ℕ) (s : Slot S) → slot_at m o ≡ Some s → (x : S) × (object_of c o ≡ Some x)
    object_here o s here = by (object_of c o) (subst (λ z. AtName g o z (object_of c o) (held d o) (arrived_at d o)) here (st.named o))
      where
        by : (x : Option S) → AtName g o (Some s) x (held d o) (arrived_at d o) → (y : S) × (x ≡ Some y)
        by None h = absurd h
        by (Some x) h = (x, refl)

    -- the slot of an object, in its node
    slot_here : (o : ℕ) (s : Slot S) → slot_at m o ≡ Some s → (x : NodeState S) × (slice_get m.nodes (node_of o) ≡ Some x) × (slice_get x.slots (slot_of o) ≡ Some s)
    slot_here o s = by (slice_get m.nodes (node_of o))
      where
        by : (z : Option (NodeState S)) → slot_in z (slot_of o) ≡ Some s → (x : NodeState S) × (z ≡ Some x) × (slice_get x.slots (slot_of o) ≡ Some s)
        by None h = absurd (cc)
        by (Some x) h = (x, refl, h)

    pub any_fault : IsTrue (is_sorted nat_cmp c.objects) → any_faulted g m ≡ list_any (λ e. is_some (g.fault e.1)) c.objects
    any_fault sorted = same_bool _ _ forth back
      where
        forth : any_faulted g m ≡ true → list_any (λ e. is_some (g.fault e.1)) c.objects ≡ true
        forth h =
            let n = one_of (λ x. list_any (λ s. is_some (g.fault s.state)) x.slots) m.nodes h in
            let i = one_of (λ s. is_some (g.fault s.state)) n.1.slots n.3 in
            let a = slice_get_within n.1.slots i.0 i.1 i.2 in
            let b = st.few n.0 n.1 n.2 in
            let small : i.0 < 65536 = omega (arith, a, b) in
            let here : slot_at m (name_at n.0 i.0) ≡ Some i.1 = at_node m n.0 n.1 n.2 (name_at n.0 i.0) (name_node n.0 i.0 small) ∙ ap (slice_get n.1.slots) (name_slot n.0 i.0 small) ∙ i.2 in
            let x = object_here (name_at n.0 i.0) i.1 here in
            let p = found_place c.objects (name_at n.0 i.0) x.0 x.1 in
            of_one (λ e. is_some (g.fault e.1)) c.objects p.0 (name_at n.0 i.0, x.0) p.1 (same_test (g.fault i.1.state) (g.fault x.0) (fault_kept (name_at n.0 i.0) x.0 i.1 x.1 here) i.3)

        back : list_any (λ e. is_some (g.fault e.1)) c.objects ≡ true → any_faulted g m ≡ true
        back h =
            let e = one_of (λ e. is_some (g.fault e.1)) c.objects h in
            let there = place_found c.objects e.0 e.1 sorted e.2 in
            let f : Found g l m c d st e.1.0 e.1.1 = found g l m c d st e.1.0 e.1.1 there in
            let s = slot_here e.1.0 f.slot f.here in
            of_one (λ x. list_any (λ s. is_some (g.fault s.state)) x.slots) m.nodes (node_of e.1.0) s.0 s.1
            (of_one (λ s. is_some (g.fault s.state)) s.0.slots (slot_of e.1.0) f.slot s.2 (same_test (g.fault e.1.1) (g.fault f.slot.state) (sym (fault_kept e.1.0 e.1.1 f.slot there f.here)) e.3))
