-- After a change of one slot the node is seen with that change, and keeps its invariants.
use Rattle.std.proofs.Common.{◌≡◌, ◌≢◌, ◌⊎◌, inl, inr, refl, sym, ap, ap₂, subst, ◌∙◌, ℕ, zero, suc, ◌+◌, ◌<◌, ◌≤◌, List, [], ◌∷◌, length, take, get_or, map, Option, Some, None, Bool, true, arith}
use Rattle.std.specs.Prelude.{slice_get, slice_set}
use Rattle.std.proofs.lemmas.List.{length-set, get_or-set_same, get_or-set_other}
use Rattle.run_types.specs.declared.types.Error.{Error}
use Rattle.run_types.specs.declared.frames.CodeObject.{CodeObject}
use Rattle.code_semantics.specs.declared.unit.Unit.{Unit as Code}
use Rattle.code_semantics.specs.Kinds as C
use Rattle.code_semantics.specs.Kinds.{code_kind}
use Rattle.code_semantics.specs.Forget.{forget_kind}
use Rattle.code_semantics.specs.StepInstructions.{FitsUnit, IsAtStep, AnyValue}
use Rattle.code_semantics.proofs.Laws.{forget_of, forget_at_step, forget_code_kind}
use Rattle.node_heap.specs.Heaps.{object_at, no_object}
use Rattle.slot_queues.specs.declared.Message.{Message}
use Rattle.mesh_of_code.specs.Coded.{Placed, coded, kind_of}
use Rattle.run_types.proofs.Laws.{decide, same_some}
use Rattle.node_semantics.specs.Node.{Slot, NodeState, can_go, name_at, set_at, placed}
use Rattle.mesh_semantics.specs.Requests.{posts_request}
use Rattle.node_semantics.specs.Agrees.{IsUnused}
use Rattle.node_semantics.proofs.Laws.{set_same, set_other}
use Rattle.node_state.specs.declared.state.NodeParts.{NodeParts}
use Rattle.node_state.specs.NodeOf.{NodeOf}
use Rattle.node_state.specs.OfUnit.{IsSlotOf, IsOfUnit}
use Rattle.node_state.specs.Views.{NodeInvariant, slot_by, slots_of, node_of, slot_at, refreshed}
use Rattle.node_state.proofs.AllParts.{put_all}
use Rattle.node_state.specs.Changes.{changed, IsChanged}
use Rattle.node_state.proofs.Slots.{slot_here, slots_length, slots_set, take_set, map_placed}

-- a request that the changed slot has is its own from before, or is out for no slot
abbrev pub IsRightful : NodeState Placed → Option ℕ → Option ℕ → Type 0
IsRightful x before after = (number : ℕ) → after ≡ Some number → (before ≡ Some number) ⊎ IsUnused number x

module _ (u : Code) (n : NodeOf) (of : IsOfUnit u n) (i : ℕ) (s t : Slot Placed) (here : slice_get n.state.slots i ≡ Some s) where
  there : (j : ℕ) (v : Slot Placed) → slice_get (set_at n.state.slots i t) j ≡ Some v → ((j ≡ i) × (v ≡ t)) ⊎ ((j ≢ i) × (slice_get n.state.slots j ≡ Some v))
  there j v h = by (decide j i)
    where
      by : (j ≡ i) ⊎ (j ≢ i) → ((j ≡ i) × (v ≡ t)) ⊎ ((j ≢ i) × (slice_get n.state.slots j ≡ Some v))
      by (inl e) =
          let k : slice_get (set_at n.state.slots i t) i ≡ Some v = subst (λ (z : ℕ). slice_get (set_at n.state.slots i t) z ≡ Some v) e h in
          inl (e, same_some (sym k ∙ set_same n.state.slots i s t here))
      by (inr e) = inr (e, sym (set_other n.state.slots i j t e) ∙ h)

  pub changed_of_unit : IsSlotOf u (name_at n.id i) t → IsRightful n.state s.request t.request → IsOfUnit u (changed u n i t)
  changed_of_unit is rightful = record {
    proper = of.proper;
    vars = of.vars;
    made = of.made;
    slots = slots;
    distinct = distinct;
    ready = ap (λ (bits : List Bool). slice_set bits i (can_go (coded u) n.id (i, t))) of.ready ∙ sym bits;
    long = of.long;
  }
    where
      slots : (j : ℕ) (v : Slot Placed) → slice_get (set_at n.state.slots i t) j ≡ Some v → IsSlotOf u (name_at n.id j) v
      slots j v h = by (there j v h)
        where
          by : ((j ≡ i) × (v ≡ t)) ⊎ ((j ≢ i) × (slice_get n.state.slots j ≡ Some v)) → IsSlotOf u (name_at n.id j) v
          by (inl e) = subst (λ (z : ℕ). IsSlotOf u (name_at n.id z) v) (sym e.0) (subst (λ (z : Slot Placed). IsSlotOf u (name_at n.id i) z) (sym e.1) is)
          by (inr e) = of.slots j v e.1

      one : (j k : ℕ) (v w : Slot Placed) (number : ℕ) → (j ≡ i) × (v ≡ t) → (k ≢ i) × (slice_get n.state.slots k ≡ Some w) → v.request ≡ Some number → w.request ≡ Some number → j ≡ k
      one j k v w number e f p q = by (rightful number (ap (λ (z : Slot Placed). z.request) (sym e.1) ∙ p))
        where
          by : (s.request ≡ Some number) ⊎ IsUnused number n.state → j ≡ k
          by (inl r) = e.0 ∙ of.distinct i k number s w here f.1 r q
          by (inr r) = absurd (r k w f.1 q)

      distinct : (j k number : ℕ) (v w : Slot Placed) → slice_get (set_at n.state.slots i t) j ≡ Some v → slice_get (set_at n.state.slots i t) k ≡ Some w
          → v.request ≡ Some number → w.request ≡ Some number → j ≡ k
      distinct j k number v w h l p q = by (there j v h) (there k w l)
        where
          by : ((j ≡ i) × (v ≡ t)) ⊎ ((j ≢ i) × (slice_get n.state.slots j ≡ Some v)) → ((k ≡ i) × (w ≡ t)) ⊎ ((k ≢ i) × (slice_get n.state.slots k ≡ Some w)) → j ≡ k
          by (inl e) (inl f) = e.0 ∙ sym f.0
          by (inl e) (inr f) = one j k v w number e f p q
          by (inr e) (inl f) = sym (one k j w v number f e q p)
          by (inr e) (inr f) = of.distinct j k number v w e.1 f.1 p q

      bits : map (can_go (coded u) n.id) (placed 0 (set_at n.state.slots i t)) ≡ slice_set (map (can_go (coded u) n.id) (placed 0 n.state.slots)) i (can_go (coded u) n.id (i, t))
      bits =
          let e : 0 + i ≡ i = omega arith in
          map_placed (can_go (coded u) n.id) 0 n.state.slots i t
          ∙ ap (λ j. slice_set (map (can_go (coded u) n.id) (placed 0 n.state.slots)) i (can_go (coded u) n.id (j, t))) e

-- what is behind a slot
pub record IsReal (u : Code) (p : NodeParts) (i : ℕ) : Type 0 where
  pub here : slice_get (slots_of p) i ≡ Some (slot_at p i)
  pub fits : FitsUnit u (object_at p.heap i)
  pub rests : IsAtStep u (object_at p.heap i)
  pub asks : (number : ℕ) → get_or p.outstanding i None ≡ Some number → posts_request ((coded u).kind (name_at p.id i) (slot_at p i).state) ≡ true

pub slot_real : (u : Code) (p : NodeParts) → IsOfUnit u (node_of p) → (i : ℕ) → i < length p.heap.objects → IsReal u p i
slot_real u p of i h =
    let here : slice_get (slots_of p) i ≡ Some (slot_at p i) = slot_here p.heap.objects p.outstanding p.faults p.goals p.mailbox.boxes i h in
    let s = of.slots i (slot_at p i) here in
    record { here = here; fits = (forget_of u AnyValue (object_at p.heap i)).0 s.fits; rests = (forget_at_step u (object_at p.heap i)).0 s.rests; asks = s.asks }

module _ (u : Code) (p : NodeParts) (whole : NodeInvariant p) (i : ℕ) (h : i < length p.heap.objects) (y : CodeObject) (r : Option ℕ) (f : Option Error) (g : ℕ) (b : List Message) where
  above : (j : ℕ) → length (slice_set p.heap.objects i y) ≤ j → length p.heap.objects ≤ j
  above j l = let e = length-set p.heap.objects i y in omega (arith, e, l)

  other : (j : ℕ) → length (slice_set p.heap.objects i y) ≤ j → j ≢ i
  other j l e = let k = above j l in absurd (omega (arith, k, e, h))

  pub put_whole : NodeInvariant (refreshed u (put_all p i y r f g b) i)
  put_whole = record {
    node = whole.node;
    cells = whole.cells;
    boxes = length-set p.mailbox.boxes i b ∙ whole.boxes;
    requests = length-set p.outstanding i r ∙ whole.requests;
    faults = length-set p.faults i f ∙ whole.faults;
    goals = length-set p.goals i g ∙ whole.goals;
    ready = length-set p.ready i (can_go (coded u) p.id (i, slot_at (put_all p i y r f g b) i)) ∙ whole.ready;
    objects = let e = length-set p.heap.objects i y in let k = whole.objects in omega (arith, e, k);
    few = whole.few;
    room = whole.room;
    frames = whole.frames;
    no_box = λ j l. get_or-set_other p.mailbox.boxes i j b [] (other j l) ∙ whole.no_box j (above j l);
    no_request = λ j l. get_or-set_other p.outstanding i j r None (other j l) ∙ whole.no_request j (above j l);
    no_fault = λ j l. get_or-set_other p.faults i j f None (other j l) ∙ whole.no_fault j (above j l);
    no_goal = λ j l. get_or-set_other p.goals i j g 0 (other j l) ∙ whole.no_goal j (above j l);
  }

  -- the slot that is put
  put_slot : slot_at (put_all p i y r f g b) i ≡ slot_by y r f g b
  put_slot =
      let n = whole.objects in
      let a : get_or (slice_set p.heap.objects i y) i no_object ≡ y = get_or-set_same p.heap.objects i y no_object h in
      let o : i < length p.outstanding = let k = whole.requests in omega (arith, k, n, h) in
      let c : get_or (slice_set p.outstanding i r) i None ≡ r = get_or-set_same p.outstanding i r None o in
      let o₁ : i < length p.faults = let k = whole.faults in omega (arith, k, n, h) in
      let d : get_or (slice_set p.faults i f) i None ≡ f = get_or-set_same p.faults i f None o₁ in
      let o₂ : i < length p.goals = let k = whole.goals in omega (arith, k, n, h) in
      let e : get_or (slice_set p.goals i g) i 0 ≡ g = get_or-set_same p.goals i g 0 o₂ in
      let o₃ : i < length p.mailbox.boxes = let k = whole.boxes in omega (arith, k, n, h) in
      let z : get_or (slice_set p.mailbox.boxes i b) i [] ≡ b = get_or-set_same p.mailbox.boxes i b [] o₃ in
      ap₂ (λ (x : CodeObject) (k : Option ℕ). slot_by x k (get_or (slice_set p.faults i f) i None) (get_or (slice_set p.goals i g) i 0) (get_or (slice_set p.mailbox.boxes i b) i [])) a c
      ∙ (ap₂ (λ (x : Option Error) (k : ℕ). slot_by y r x k (get_or (slice_set p.mailbox.boxes i b) i [])) d e
      ∙ ap (λ (x : List Message). slot_by y r f g x) z)

  abbrev with_slots : List (Slot Placed) → List Bool → NodeOf
  with_slots ss bits = record (node_of p) { state = record (node_of p).state { slots = ss }; ready = bits }

  pub put_seen : node_of (refreshed u (put_all p i y r f g b) i) ≡ changed u (node_of p) i (slot_by y r f g b)
  put_seen = ap₂ with_slots slots bits
    where
      slots : slots_of (put_all p i y r f g b) ≡ set_at (slots_of p) i (slot_by y r f g b)
      slots =
          let n = whole.objects in
          slots_set p.heap.objects p.outstanding p.faults p.goals p.mailbox.boxes i y r f g b
          (let k = whole.requests in omega (arith, k, n, h)) (let k = whole.faults in omega (arith, k, n, h)) (let k = whole.goals in omega (arith, k, n, h)) (let k = whole.boxes in omega (arith, k, n, h))

      bits : take (length (slice_set p.heap.objects i y)) (slice_set p.ready i (can_go (coded u) p.id (i, slot_at (put_all p i y r f g b) i)))
          ≡ slice_set (take (length p.heap.objects) p.ready) i (can_go (coded u) p.id (i, slot_by y r f g b))
      bits =
          ap₂ (λ (n : ℕ) (s : Slot Placed). take n (slice_set p.ready i (can_go (coded u) p.id (i, s)))) (length-set p.heap.objects i y) put_slot
          ∙ take_set (length p.heap.objects) p.ready i (can_go (coded u) p.id (i, slot_by y r f g b)) h

  pub put_changed : IsOfUnit u (node_of p) → FitsUnit u y → IsAtStep u y
      → ((number : ℕ) → r ≡ Some number → posts_request ((coded u).kind (name_at p.id i) (slot_by y r f g b).state) ≡ true)
      → IsRightful (node_of p).state (get_or p.outstanding i None) r
      → IsChanged u p (refreshed u (put_all p i y r f g b) i) i (slot_by y r f g b)
  put_changed of fits rests asks rightful =
      let here = (slot_real u p of i h).here in
      let is : IsSlotOf u (name_at p.id i) (slot_by y r f g b) =
      record { fits = (forget_of u AnyValue y).1 fits; rests = (forget_at_step u y).1 rests; plain = refl; asks = asks } in
      record {
        whole = put_whole;
        unit = subst (λ (n : NodeOf). IsOfUnit u n) (sym put_seen) (changed_of_unit u (node_of p) of i (slot_at p i) (slot_by y r f g b) here is rightful);
        is = put_seen;
      }

pub below_length : {X : Type 0} (xs : List X) (i : ℕ) (x : X) → slice_get xs i ≡ Some x → i < length xs
below_length [] i x h = absurd (cc)
below_length (y ∷ xs) zero x h = omega arith
below_length (y ∷ xs) (suc i) x h = let k = below_length xs i x h in omega (arith, k)

pub get_is : {X : Type 0} (xs : List X) (i : ℕ) (d : X) → i < length xs → slice_get xs i ≡ Some (get_or xs i d)
get_is [] i d h = absurd (omega arith)
get_is (y ∷ xs) zero d h = refl
get_is (y ∷ xs) (suc i) d h = get_is xs i d (omega (arith, h))

pub got : {X : Type 0} (xs : List X) (i : ℕ) (d x : X) → slice_get xs i ≡ Some x → get_or xs i d ≡ x
got xs i d x h = same_some (sym (get_is xs i d (below_length xs i x h)) ∙ h)

number_there : (os : List (Option ℕ)) (i number : ℕ) → get_or os i None ≡ Some number → slice_get os i ≡ Some (Some number)
number_there [] i number h = absurd (cc)
number_there (o ∷ os) zero number h = ap (λ (z : Option ℕ). Some z) h
number_there (o ∷ os) (suc i) number h = number_there os i number h

-- a slot that is seen
pub slot_view : (p : NodeParts) (i : ℕ) (s : Slot Placed) → slice_get (slots_of p) i ≡ Some s → (i < length p.heap.objects) × (s ≡ slot_at p i)
slot_view p i s h =
    let e = slots_length p.heap.objects p.outstanding p.faults p.goals p.mailbox.boxes in
    let k = below_length (slots_of p) i s h in
    let l : i < length p.heap.objects = omega (arith, e, k) in
    (l, same_some (sym h ∙ slot_here p.heap.objects p.outstanding p.faults p.goals p.mailbox.boxes i l))

pub unused_seen : (p : NodeParts) (number : ℕ) → ((k : ℕ) → slice_get p.outstanding k ≢ Some (Some number)) → IsUnused number (node_of p).state
unused_seen p number unused i s here out =
    let v = slot_view p i s here in
    unused i (number_there p.outstanding i number (sym (ap (λ (z : Slot Placed). z.request) v.1) ∙ out))

kind_same : (k : C.Kind) → kind_of (forget_kind k) ≡ kind_of k
kind_same (C.Return k n v) = refl
kind_same _ = refl

-- what the object of a slot does next is what the object of the heap does next
pub kind_seen : (u : Code) (p : NodeParts) (i o : ℕ) → (coded u).kind o (slot_at p i).state ≡ kind_of (code_kind u (object_at p.heap i))
kind_seen u p i o = ap kind_of (forget_code_kind u (object_at p.heap i)) ∙ kind_same (code_kind u (object_at p.heap i))
