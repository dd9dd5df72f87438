-- The parts of a node with one object more.
use Rattle.std.proofs.Common.{◌≡◌, ◌≢◌, ◌⊎◌, inl, inr, refl, sym, ap, ap₂, subst, ◌∙◌, ℕ, zero, suc, ◌+◌, ◌<◌, ◌≤◌, List, [], ◌∷◌, ◌++◌, length, take, get_or, map, Some, None, Bool, true, false, if◌then◌else◌, arith}
use Rattle.std.specs.Prelude.{slice_get, slice_set, nat_le}
use Rattle.std.specs.Option.{option_map}
use Rattle.std.proofs.lemmas.List.{length_push, take_more_set, get_or_push, length-set}
use Rattle.std.proofs.lemmas.Bool.Decides.{nat_tests}
use Rattle.run_types.specs.declared.types.Value.{Value}
use Rattle.run_types.specs.declared.frames.CodeObject.{CodeObject}
use Rattle.code_semantics.specs.declared.unit.ClassCode.{ClassCode}
use Rattle.code_semantics.specs.declared.unit.Unit.{Unit as Code}
use Rattle.run_types.specs.Operands.{padded}
use Rattle.code_semantics.specs.Step.{at_rest, code_placed, placed_of}
use Rattle.code_semantics.specs.NodeWords.{most_vars}
use Rattle.code_semantics.specs.Forget.{forget}
use Rattle.code_semantics.specs.StepInstructions.{FitsUnit, IsAtStep, AnyValue}
use Rattle.code_semantics.proofs.Laws.{forget_placed}
use Rattle.run_types.specs.Tables.{Each}
use Rattle.run_types.proofs.Laws.{decide, same_some}
use Rattle.node_heap.specs.Heaps.{HeapOf, object_at, put_object, no_object, unbegun, body_frame}
use Rattle.object_interp.specs.SettledObject.{settled_at}
use Rattle.slot_queues.specs.declared.Message.{Message}
use Rattle.slot_queues.specs.Mail.{box_of}
use Rattle.mesh_of_code.specs.Coded as E
use Rattle.mesh_of_code.specs.Coded.{Placed, coded}
use Rattle.node_semantics.specs.Node.{Slot, can_go, fresh_slot, name_at, placed}
use Rattle.node_semantics.proofs.Laws.{last_there, front_there}
use Rattle.node_state.specs.declared.state.NodeParts.{NodeParts}
use Rattle.node_state.specs.NodeOf.{NodeOf}
use Rattle.node_state.specs.OfUnit.{IsSlotOf, IsOfUnit}
use Rattle.node_state.specs.Views.{NodeInvariant, numbers_of, slot_by, slots_of, node_of, slot_at, refreshed}
use Rattle.node_state.specs.Changes.{added, IsAdded}
use Rattle.node_state.proofs.Slots.{slots_length, slots_add, map_placed_add}
use Rattle.node_state.proofs.SlotUpdate.{get_is}
use Rattle.node_state.proofs.ServedNumbers.{numbers_rest}

module _ (u : Code) (n : NodeOf) (of : IsOfUnit u n) (y : Placed) where
  where_it_is : (j : ℕ) (v : Slot Placed) → slice_get (n.state.slots ++ fresh_slot y ∷ []) j ≡ Some v
      → ((j ≡ length n.state.slots) × (v ≡ fresh_slot y)) ⊎ (slice_get n.state.slots j ≡ Some v)
  where_it_is j v h = by (decide j (length n.state.slots))
    where
      by : (j ≡ length n.state.slots) ⊎ (j ≢ length n.state.slots) → ((j ≡ length n.state.slots) × (v ≡ fresh_slot y)) ⊎ (slice_get n.state.slots j ≡ Some v)
      by (inl e) =
          let k : slice_get (n.state.slots ++ fresh_slot y ∷ []) (length n.state.slots) ≡ Some v = subst (λ (z : ℕ). slice_get (n.state.slots ++ fresh_slot y ∷ []) z ≡ Some v) e h in
          inl (e, same_some (sym k ∙ last_there n.state.slots (fresh_slot y)))
      by (inr e) = inr (sym (front_there n.state.slots (fresh_slot y) j e) ∙ h)

  pub added_of_unit : FitsUnit u y.object → IsAtStep u y.object → y.served ≡ None → IsOfUnit u (added u n y)
  added_of_unit fits rests plain = record { proper = of.proper; vars = of.vars; made = of.made; slots = slots; distinct = distinct; ready = bits; long = of.long }
    where
      slots : (j : ℕ) (v : Slot Placed) → slice_get (n.state.slots ++ fresh_slot y ∷ []) j ≡ Some v → IsSlotOf u (name_at n.id j) v
      slots j v h = by (where_it_is j v h)
        where
          by : ((j ≡ length n.state.slots) × (v ≡ fresh_slot y)) ⊎ (slice_get n.state.slots j ≡ Some v) → IsSlotOf u (name_at n.id j) v
          by (inl e) = subst (λ (z : Slot Placed). IsSlotOf u (name_at n.id j) z) (sym e.1) (record { fits = fits; rests = rests; plain = plain; asks = λ number k. absurd (cc) })
          by (inr e) = of.slots j v e

      no_number : (v : Slot Placed) (number : ℕ) → v ≡ fresh_slot y → v.request ≡ Some number → ⊥
      no_number v number e r = let w : None ≡ Some number = sym (ap (λ (z : Slot Placed). z.request) e) ∙ r in absurd (cc)

      distinct : (j k number : ℕ) (v w : Slot Placed) → slice_get (n.state.slots ++ fresh_slot y ∷ []) j ≡ Some v → slice_get (n.state.slots ++ fresh_slot y ∷ []) k ≡ Some w
          → v.request ≡ Some number → w.request ≡ Some number → j ≡ k
      distinct j k number v w h l p q = by (where_it_is j v h) (where_it_is k w l)
        where
          by : ((j ≡ length n.state.slots) × (v ≡ fresh_slot y)) ⊎ (slice_get n.state.slots j ≡ Some v)
              → ((k ≡ length n.state.slots) × (w ≡ fresh_slot y)) ⊎ (slice_get n.state.slots k ≡ Some w) → j ≡ k
          by (inl e) f = absurd (no_number v number e.1 p)
          by (inr e) (inl f) = absurd (no_number w number f.1 q)
          by (inr e) (inr f) = of.distinct j k number v w e f p q

      bits : n.ready ++ can_go (coded u) n.id (length n.state.slots, fresh_slot y) ∷ [] ≡ map (can_go (coded u) n.id) (placed 0 (n.state.slots ++ fresh_slot y ∷ []))
      bits =
          let e : 0 + length n.state.slots ≡ length n.state.slots = omega arith in
          ap (λ (bs : List Bool). bs ++ can_go (coded u) n.id (length n.state.slots, fresh_slot y) ∷ []) of.ready
          ∙ sym (map_placed_add (can_go (coded u) n.id) 0 n.state.slots (fresh_slot y)
          ∙ ap (λ j. map (can_go (coded u) n.id) (placed 0 n.state.slots) ++ can_go (coded u) n.id (j, fresh_slot y) ∷ []) e)

module _ (u : Code) (p : NodeParts) (whole : NodeInvariant p) (room : length p.heap.objects < p.heap.most_objects) (y : CodeObject) where
  abbrev more : NodeParts
  more = record p { heap = record p.heap { objects = p.heap.objects ++ y ∷ [] } }

  abbrev n : ℕ
  n = length p.heap.objects

  above : (j : ℕ) → length (p.heap.objects ++ y ∷ []) ≤ j → length p.heap.objects ≤ j
  above j l = let e = length_push p.heap.objects y in omega (arith, e, l)

  more_whole : NodeInvariant (refreshed u more n)
  more_whole = record {
    node = whole.node;
    cells = whole.cells;
    boxes = whole.boxes;
    requests = whole.requests;
    faults = whole.faults;
    goals = whole.goals;
    ready = length-set p.ready n (can_go (coded u) p.id (n, slot_at more n)) ∙ whole.ready;
    objects = let e = length_push p.heap.objects y in omega (arith, e, room);
    few = whole.few;
    room = whole.room;
    frames = whole.frames;
    no_box = λ j l. whole.no_box j (above j l);
    no_request = λ j l. whole.no_request j (above j l);
    no_fault = λ j l. whole.no_fault j (above j l);
    no_goal = λ j l. whole.no_goal j (above j l);
  }

  module _ (same : forget y ≡ y) (none : numbers_of y.frames ≡ []) where
    rest_of : slot_by y (get_or p.outstanding n None) (get_or p.faults n None) (get_or p.goals n 0) (box_of p.mailbox n) ≡ fresh_slot (E.placed y)
    rest_of =
        let z : n ≤ n = omega arith in
        ap₂ (λ o f. slot_by y o f (get_or p.goals n 0) (box_of p.mailbox n)) (whole.no_request n z) (whole.no_fault n z)
        ∙ (ap₂ (λ (g : ℕ) (b : List Message). slot_by y None None g b) (whole.no_goal n z) (whole.no_box n z)
        ∙ ap₂ (λ (x : CodeObject) (ns : List ℕ). record (fresh_slot (E.placed y)) { state = E.placed x; callers = ns }) same none)

    slot_more : slot_at more n ≡ fresh_slot (E.placed y)
    slot_more =
        let e : object_at (record p.heap { objects = p.heap.objects ++ y ∷ [] }) n ≡ y = get_or_push p.heap.objects y no_object n refl in
        ap (λ (x : CodeObject). slot_by x (get_or p.outstanding n None) (get_or p.faults n None) (get_or p.goals n 0) (box_of p.mailbox n)) e ∙ rest_of

    more_slots : slots_of more ≡ slots_of p ++ fresh_slot (E.placed y) ∷ []
    more_slots = slots_add p.heap.objects p.outstanding p.faults p.goals p.mailbox.boxes y ∙ ap (λ (s : Slot Placed). slots_of p ++ s ∷ []) rest_of

    more_bits : take (length (p.heap.objects ++ y ∷ [])) (slice_set p.ready n (can_go (coded u) p.id (n, slot_at more n)))
        ≡ take n p.ready ++ can_go (coded u) p.id (length (slots_of p), fresh_slot (E.placed y)) ∷ []
    more_bits =
        let bound : n < length p.ready = let k = whole.ready in omega (arith, k, room) in
        ap₂ (λ (k : ℕ) (s : Slot Placed). take k (slice_set p.ready n (can_go (coded u) p.id (n, s)))) (length_push p.heap.objects y) slot_more
        ∙ (take_more_set p.ready n (can_go (coded u) p.id (n, fresh_slot (E.placed y))) bound
        ∙ ap (λ (k : ℕ). take n p.ready ++ can_go (coded u) p.id (k, fresh_slot (E.placed y)) ∷ []) (sym (slots_length p.heap.objects p.outstanding p.faults p.goals p.mailbox.boxes)))

    abbrev with_slots : List (Slot Placed) → List Bool → NodeOf
    with_slots ss bits = record (node_of p) { state = record (node_of p).state { slots = ss }; ready = bits }

    pub more_added : IsOfUnit u (node_of p) → FitsUnit u y → IsAtStep u y → IsAdded u p (refreshed u more n) (E.placed y)
    more_added of fits rests =
        let seen : node_of (refreshed u more n) ≡ added u (node_of p) (E.placed y) = ap₂ with_slots more_slots more_bits in
        record { whole = more_whole; unit = subst (λ (z : NodeOf). IsOfUnit u z) (sym seen) (added_of_unit u (node_of p) of (E.placed y) fits rests refl); is = seen }

pub most_is : (ks : List ClassCode) (i : ℕ) (k : ClassCode) → slice_get ks i ≡ Some k → k.vars ≤ most_vars ks
most_is [] i k h = absurd (cc)
most_is (c ∷ ks) zero k h = subst (λ (z : ClassCode). z.vars ≤ most_vars (c ∷ ks)) (same_some h) (by (nat_le c.vars (most_vars ks)) refl)
  where
    by : (b : Bool) → nat_le c.vars (most_vars ks) ≡ b → c.vars ≤ (if b then most_vars ks else c.vars)
    by true e = grind (arith, nat_tests)
    by false e = omega arith
most_is (c ∷ ks) (suc i) k h = by (nat_le c.vars (most_vars ks)) refl (most_is ks i k h)
  where
    by : (b : Bool) → nat_le c.vars (most_vars ks) ≡ b → k.vars ≤ most_vars ks → k.vars ≤ (if b then most_vars ks else c.vars)
    by true e l = l
    by false e l = let w : most_vars ks ≤ c.vars = grind (arith, nat_tests) in omega (arith, l, w)

-- an object that was just placed
module _ (u : Code) (c : ℕ) (k : ClassCode) (is : slice_get u.classes c ≡ Some k) where
  each_padded : (n : ℕ) → Each AnyValue (padded n [])
  each_padded zero = tt
  each_padded (suc n) = (tt, each_padded n)

  padded_length : (n : ℕ) (vs : List Value) → length (padded n vs) ≡ n
  padded_length zero vs = refl
  padded_length (suc n) vs = ap suc (padded_length n _)

  pub unbegun_fits : FitsUnit u (unbegun c k.vars)
  unbegun_fits = record {
    class = k;
    is_class = is;
    count = padded_length k.vars [];
    vars = each_padded k.vars;
    frames = (record { reached = (0, (refl, refl)); has_temps = refl; temps = tt; operands = tt }, tt, refl, refl);
  }

  pub settled_placed : code_placed u c ≡ Some (settled_at u (unbegun c k.vars))
  settled_placed = ap (λ o. placed_of c o) is ∙ ap (λ o. Some (at_rest o (unbegun c k.vars) body_frame [])) (sym is)

  pub settled_same : forget (settled_at u (unbegun c k.vars)) ≡ settled_at u (unbegun c k.vars)
  settled_same = same_some (sym (ap (λ o. option_map forget o) settled_placed) ∙ (forget_placed u c ∙ settled_placed))

  pub settled_numbers : numbers_of (settled_at u (unbegun c k.vars)).frames ≡ []
  settled_numbers = numbers_rest (slice_get u.classes c) (unbegun c k.vars) body_frame []

  -- the parts after a slot was made and brought to a step
  pub by_added : (p : NodeParts) (hp hq : HeapOf) (slot : ℕ) (q : NodeParts) → NodeInvariant p → IsOfUnit u (node_of p) → length p.heap.objects ≢ p.heap.most_objects
      → (slot ≡ length p.heap.objects) × (hp ≡ record p.heap { objects = p.heap.objects ++ unbegun c k.vars ∷ [] })
      → hq ≡ put_object hp slot (settled_at u (object_at hp slot)) → FitsUnit u (object_at hq slot) → IsAtStep u (object_at hq slot)
      → q ≡ refreshed u (record p { heap = hq }) slot
      → (y : CodeObject) × (code_placed u c ≡ Some y) × IsAdded u p q (E.placed y)
  by_added p hp hq slot q whole of unlike first second fits rests last =
      let n = length p.heap.objects in
      let x = unbegun c k.vars in
      let y = settled_at u x in
      let room : length p.heap.objects < p.heap.most_objects = let l = whole.objects in omega (arith, l, unlike) in
      let hp₁ = record p.heap { objects = p.heap.objects ++ x ∷ [] } in
      let a : object_at hp₁ n ≡ x = get_or_push p.heap.objects x no_object n refl in
      let b : put_object hp₁ n (settled_at u (object_at hp₁ n)) ≡ record p.heap { objects = p.heap.objects ++ y ∷ [] } =
      ap (λ (z : CodeObject). put_object hp₁ n (settled_at u z)) a ∙ ap (λ (xs : List CodeObject). record p.heap { objects = xs }) (set_last p.heap.objects x y) in
      let e : hq ≡ record p.heap { objects = p.heap.objects ++ y ∷ [] } = second ∙ (ap₂ (λ (z : HeapOf) (i : ℕ). put_object z i (settled_at u (object_at z i))) first.1 first.0 ∙ b) in
      let w : object_at hq slot ≡ y = ap₂ (λ (z : HeapOf) (i : ℕ). object_at z i) e first.0 ∙ get_or_push p.heap.objects y no_object n refl in
      let t : q ≡ refreshed u (record p { heap = record p.heap { objects = p.heap.objects ++ y ∷ [] } }) n =
      last ∙ ap₂ (λ (z : HeapOf) (i : ℕ). refreshed u (record p { heap = z }) i) e first.0 in (
        y,
        settled_placed,
        subst (λ (z : NodeParts). IsAdded u p z (E.placed y)) (sym t)
            (more_added u p whole room y settled_same settled_numbers of (subst (λ (z : CodeObject). FitsUnit u z) w fits) (subst (λ (z : CodeObject). IsAtStep u z) w rests)),
      )
    where
      set_last : (xs : List CodeObject) (x y : CodeObject) → slice_set (xs ++ x ∷ []) (length xs) y ≡ xs ++ y ∷ []
      set_last [] x y = refl
      set_last (z ∷ xs) x y = ap (λ (zs : List CodeObject). z ∷ zs) (set_last xs x y)

pub class_there : (ks js : List ClassCode) (i : ℕ) (d : ClassCode) → i < length ks → js ≡ ks → slice_get ks i ≡ Some (get_or js i d)
class_there ks js i d h e = get_is ks i d h ∙ ap (λ (zs : List ClassCode). Some (get_or zs i d)) (sym e)

pub placed_there : (h hp : HeapOf) (slot : ℕ) (x : CodeObject) → (slot ≡ length h.objects) × (hp ≡ record h { objects = h.objects ++ x ∷ [] }) → object_at hp slot ≡ x
placed_there h hp slot x e = ap₂ (λ (z : HeapOf) (i : ℕ). object_at z i) e.1 e.0 ∙ get_or_push h.objects x no_object (length h.objects) refl
