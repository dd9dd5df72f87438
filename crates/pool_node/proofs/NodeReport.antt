-- The reports of a node on its objects.
use Rattle.std.proofs.Common.{◌≡◌, inl, inr, ◌-◌, refl, sym, ap, ap₂, subst, ◌∙◌, ℕ, zero, suc, ◌+◌, ◌<◌, ◌≤◌, ◌||◌, List, [], ◌∷◌, length, take, drop, get_or, map, Option, Some, None, is_some, Bool, true, false, if◌then◌else◌, arith}
use Rattle.std.specs.Prelude.{slice_get, nat_le, is_ok}
use Rattle.std.specs.Option.{option_map}
use Rattle.std.specs.List.{list_any}
use Rattle.std.proofs.lemmas.Bool.Decides.{nat_tests}
use Rattle.std.proofs.lemmas.List.{nil_from_length}
use Rattle.std.specs.declared.result.Result.{Result}
use Rattle.std.specs.declared.result.Result.TheVariants.{Ok, Err}
use Rattle.run_types.specs.declared.types.NameId.{NameId}
use Rattle.code_semantics.specs.Kinds as C
use Rattle.code_semantics.specs.Kinds.{code_kind}
use Rattle.code_semantics.specs.Step.{class_from, code_made, code_placed, placed_at}
use Rattle.node_heap.specs.declared.types.HeapFull.{HeapFull}
use Rattle.node_heap.specs.declared.types.HeapFull.TheVariants as HF
use Rattle.mesh_of_code.specs.Coded as E
use Rattle.mesh_semantics.specs.Kind.{Kind}
use Rattle.mesh_semantics.specs.Standing as T
use Rattle.run_types.specs.PathFacts.{In}
use Rattle.run_types.specs.Partial.{◌>>=◌}
use Rattle.node_semantics.specs.Standings.{slot_standing, slot_standing_by}
use Rattle.pool_node.proofs.PacketReceipt.{named_there}
use Rattle.run_types.specs.declared.types.Error.{Error}
use Rattle.code_semantics.specs.declared.unit.ClassCode.{ClassCode}
use Rattle.run_types.specs.declared.frames.CodeObject.{CodeObject}
use Rattle.code_semantics.specs.declared.unit.Unit.{Unit as Code}
use Rattle.code_semantics.specs.NodeWords.{most_vars}
use Rattle.node_heap.specs.Heaps.{object_at}
use Rattle.slot_queues.specs.declared.Message.{Message}
use Rattle.slot_queues.specs.Mail.{lengths}
use Rattle.mesh_of_code.specs.Coded.{Placed, coded, class_numbers, kind_of, last_code}
use Rattle.mesh_semantics.specs.Act.{can_step, first_of}
use Rattle.mesh_semantics.specs.Delay.{Arrival}
use Rattle.object_interp.specs.declared.types.Hand.TheVariants as H
use Rattle.object_interp.specs.declared.types.Need.TheVariants as N
use Rattle.object_interp.specs.Offers.{IsChoosing, hand_of}
use Rattle.run_types.specs.declared.types.Value.{Value}
use Rattle.pool_node.specs.Standings.{chosen_standing}
use Rattle.node_semantics.specs.Node.{Slot, can_go, arrivals, message_count, name_at, placed, ready_slots}
use Rattle.node_state.specs.declared.state.NodeParts.{NodeParts}
use Rattle.node_state.specs.NodeOf.{NodeOf}
use Rattle.node_state.specs.OfUnit.{IsOfUnit}
use Rattle.node_state.specs.Views.{NodeInvariant, tail_of, slots_by, slots_of, node_of, slot_at}
use Rattle.node_state.specs.Bits.{first_bit, first_bit_from}
use Rattle.node_state.proofs.Laws.{slots_length, slot_view, kind_seen}
use Rattle.node_acts.proofs.Laws.{kind_halted, kind_send, messages_seen}
use Rattle.node_turns.proofs.Laws.{bits_first}

pub objects_are : (p : NodeParts) (n : NodeOf) → node_of p ≡ n → length p.heap.objects ≡ length n.state.slots
objects_are p n e = sym (slots_length p.heap.objects p.outstanding p.faults p.goals p.mailbox.boxes) ∙ ap (λ (z : NodeOf). length z.state.slots) e

pub messages_are : (p : NodeParts) (n : NodeOf) → node_of p ≡ n → NodeInvariant p → lengths p.mailbox.boxes ≡ message_count n.state.slots
messages_are p n e w = sym (messages_seen p w) ∙ ap (λ (z : NodeOf). message_count z.state.slots) e

pub slot_below : (p : NodeParts) (n : NodeOf) (i : ℕ) → node_of p ≡ n → i < length n.state.slots → i < length p.heap.objects
slot_below p n i e h = let a = objects_are p n e in omega (arith, a, h)

pub the_slot : (p : NodeParts) (n : NodeOf) (i : ℕ) (s : Slot Placed) → node_of p ≡ n → slice_get n.state.slots i ≡ Some s → s ≡ slot_at p i
the_slot p n i s e h = (slot_view p i s (ap (λ (z : NodeOf). slice_get z.state.slots i) e ∙ h)).1

pub ready_is : (u : Code) (p : NodeParts) (n : NodeOf) (r : Option ℕ) → node_of p ≡ n → IsOfUnit u n → r ≡ first_bit_from 0 (take (length p.heap.objects) p.ready)
    → is_some r ≡ is_some (first_of (ready_slots (coded u) n.id n.state))
ready_is u p n r e of h =
    let bits : take (length p.heap.objects) p.ready ≡ map (can_go (coded u) n.id) (placed 0 n.state.slots) = ap (λ (z : NodeOf). z.ready) e ∙ of.ready in
    let k : r ≡ option_map (λ (d : ℕ × Slot Placed). d.0) (first_of (ready_slots (coded u) n.id n.state)) =
    h ∙ (ap (λ (bs : List Bool). first_bit 0 bs) bits ∙ sym (bits_first (can_go (coded u) n.id) 0 n.state.slots)) in
    ap (λ (o : Option ℕ). is_some o) k ∙ by (first_of (ready_slots (coded u) n.id n.state))
  where
    by : (o : Option (ℕ × Slot Placed)) → is_some (option_map (λ (d : ℕ × Slot Placed). d.0) o) ≡ is_some o
    by None = refl
    by (Some d) = refl

none_any : (fs : List (Option Error)) → ((i : ℕ) → get_or fs i None ≡ None) → false ≡ list_any (λ (f : Option Error). is_some f) fs
none_any [] h = refl
none_any (f ∷ fs) h = let e : f ≡ None = h 0 in rw e (none_any fs (λ i. h (suc i)))

any_by : (xs : List CodeObject) (os : List (Option ℕ)) (fs : List (Option Error)) (gs : List ℕ) (bs : List (List Message)) → ((i : ℕ) → length xs ≤ i → get_or fs i None ≡ None)
    → list_any (λ (s : Slot Placed). is_some s.state.fault) (slots_by xs os fs gs bs) ≡ list_any (λ (f : Option Error). is_some f) fs
any_by [] os fs gs bs h = none_any fs (λ i. h i (omega arith))
any_by (x ∷ xs) os [] gs bs h = any_by xs (tail_of os) [] (tail_of gs) (tail_of bs) (λ i l. refl)
any_by (x ∷ xs) os (f ∷ fs) gs bs h = ap (λ (b : Bool). is_some f || b) (any_by xs (tail_of os) fs (tail_of gs) (tail_of bs) (λ i l. h (suc i) (omega (arith, l))))

pub any_is : (p : NodeParts) → NodeInvariant p → list_any (λ (f : Option Error). is_some f) p.faults ≡ list_any (λ (s : Slot Placed). is_some s.state.fault) (slots_of p)
any_is p w = sym (any_by p.heap.objects p.outstanding p.faults p.goals p.mailbox.boxes w.no_fault)

-- the greatest number of variables
vars_at : (ks : List ClassCode) (i : ℕ) (d : ClassCode) → i < length ks
    → most_vars (drop i ks) ≡ (if nat_le (get_or ks i d).vars (most_vars (drop (suc i) ks)) then most_vars (drop (suc i) ks) else (get_or ks i d).vars)
vars_at [] i d h = absurd (omega arith)
vars_at (k ∷ ks) zero d h = refl
vars_at (k ∷ ks) (suc i) d h = vars_at ks i d (omega (arith, h))

pub vars_same : (ks : List ClassCode) (i most : ℕ) (d : ClassCode) → i < length ks → most ≡ most_vars (drop (i + 1) ks) → (get_or ks i d).vars ≤ most → most ≡ most_vars (drop i ks)
vars_same ks i most d h e l =
    let s : suc i ≡ i + 1 = omega arith in
    let f : most_vars (drop (suc i) ks) ≡ most = ap (λ (j : ℕ). most_vars (drop j ks)) s ∙ sym e in
    sym (vars_at ks i d h ∙ by (nat_le (get_or ks i d).vars (most_vars (drop (suc i) ks))) refl f)
  where
    by : (b : Bool) → nat_le (get_or ks i d).vars (most_vars (drop (suc i) ks)) ≡ b → most_vars (drop (suc i) ks) ≡ most
        → (if b then most_vars (drop (suc i) ks) else (get_or ks i d).vars) ≡ most
    by true t f = f
    by false t f = absurd (let k : most_vars (drop (suc i) ks) < (get_or ks i d).vars = grind (arith, nat_tests) in omega (arith, k, f, l))

pub most_small : (ks : List ClassCode) → ((j : ℕ) (k : ClassCode) → slice_get ks j ≡ Some k → k.vars ≤ 64) → most_vars ks ≤ 64
most_small [] h = omega arith
most_small (k ∷ ks) h = by (nat_le k.vars (most_vars ks)) (h 0 k refl) (most_small ks (λ j c e. h (suc j) c e))
  where
    by : (b : Bool) → k.vars ≤ 64 → most_vars ks ≤ 64 → (if b then most_vars ks else k.vars) ≤ 64
    by true a c = c
    by false a c = a

is_none_of : {X : Type 0} (o : Option X) → is_some o ≡ false → o ≡ None
is_none_of None h = refl
is_none_of (Some x) h = absurd (cc)

-- the status of the object of a slot
module _ (u : Code) (p : NodeParts) (i : ℕ) where
  abbrev kind : C.Kind
  kind = code_kind u (object_at p.heap i)

  abbrev box : List Arrival
  box = arrivals (slot_at p i).mailbox

  seen : (r : Option ℕ) (f : Option Error) (k : C.Kind) → (slot_at p i).request ≡ r → (slot_at p i).state.fault ≡ f → kind ≡ k
      → slot_standing_by r f box (slot_at p i).goal (kind_of k) ≡ slot_standing (coded u) (name_at p.id i) (slot_at p i)
  seen r f k er ef ek =
      sym (ap (λ (z : Kind). slot_standing_by (slot_at p i).request (slot_at p i).state.fault box (slot_at p i).goal z) (kind_seen u p i (name_at p.id i) ∙ ap kind_of ek)
      ∙ ap₂ (λ (o : Option ℕ) (e : Option Error). slot_standing_by o e box (slot_at p i).goal (kind_of k)) er ef)

  -- it has an outstanding request
  asking : (s : T.Standing) (k : C.Kind) → is_some (slot_at p i).request ≡ true → kind ≡ k
      → ((n : ℕ) → s ≡ slot_standing_by (Some n) (slot_at p i).state.fault box (slot_at p i).goal (kind_of k)) → s ≡ slot_standing (coded u) (name_at p.id i) (slot_at p i)
  asking s k out e h = by (slot_at p i).request refl out
    where
      by : (o : Option ℕ) → (slot_at p i).request ≡ o → is_some o ≡ true → s ≡ slot_standing (coded u) (name_at p.id i) (slot_at p i)
      by None w t = absurd (cc)
      by (Some n) w t = h n ∙ seen (Some n) (slot_at p i).state.fault k w refl e

  pub creates : (k name : NameId) (goal : ℕ) → is_some (slot_at p i).request ≡ true → kind ≡ C.New k → name ≡ k → goal ≡ (slot_at p i).goal
      → T.Creates name.0 goal ≡ slot_standing (coded u) (name_at p.id i) (slot_at p i)
  creates k name goal out e same at = asking (T.Creates name.0 goal) (C.New k) out e (λ n. ap₂ (λ (z : NameId) (g : ℕ). T.Creates z.0 g) same at)

  pub calls : (to : ℕ) (m : NameId) (args : List Value) → is_some (slot_at p i).request ≡ true → H.At (N.Send to m args) ≡ hand_of u kind
      → T.Calls to m.0 ≡ slot_standing (coded u) (name_at p.id i) (slot_at p i)
  calls to m args out h = asking (T.Calls to m.0) (C.Send to m args) out (kind_send u kind to m args h) (λ _. refl)

  -- it has none, and has met no error
  free : (s : T.Standing) (k : C.Kind) → is_some (slot_at p i).request ≡ false → is_some (slot_at p i).state.fault ≡ false → kind ≡ k
      → s ≡ slot_standing_by None None box (slot_at p i).goal (kind_of k) → s ≡ slot_standing (coded u) (name_at p.id i) (slot_at p i)
  free s k no_request no_fault e h = h ∙ seen None None k (is_none_of (slot_at p i).request no_request) (is_none_of (slot_at p i).state.fault no_fault) e

  pub finished : is_some (slot_at p i).request ≡ false → is_some (slot_at p i).state.fault ≡ false → H.At N.Halted ≡ hand_of u kind
      → T.Finished ≡ slot_standing (coded u) (name_at p.id i) (slot_at p i)
  finished no_request no_fault h = free T.Finished C.Finished no_request no_fault (kind_halted u kind h) refl

  pub chosen : (s : T.Standing) → is_some (slot_at p i).request ≡ false → is_some (slot_at p i).state.fault ≡ false → IsChoosing kind
      → s ≡ chosen_standing (can_step box (kind_of kind)) → s ≡ slot_standing (coded u) (name_at p.id i) (slot_at p i)
  chosen s no_request no_fault c e = free s kind no_request no_fault refl (e ∙ by kind c)
    where
      tests : (b : Bool) → chosen_standing b ≡ (if b then T.Ready else T.Awaits)
      tests true = refl
      tests false = refl

      by : (k : C.Kind) → IsChoosing k → chosen_standing (can_step box (kind_of k)) ≡ slot_standing_by None None box (slot_at p i).goal (kind_of k)
      by (C.Answer names) c = tests (can_step box (kind_of (C.Answer names)))
      by (C.Select alts) c = tests (can_step box (kind_of (C.Select alts)))
      by _ c = absurd c

-- the root
last_is : (ks : List ClassCode) (d : ClassCode) → 0 < length ks → last_code ks ≡ Some (get_or ks (length ks - 1) d)
last_is [] d h = absurd (omega arith)
last_is (k ∷ []) d h = refl
last_is (k ∷ j ∷ ks) d h =
    let e : length (k ∷ j ∷ ks) - 1 ≡ suc (length (j ∷ ks) - 1) = omega arith in
    last_is (j ∷ ks) d (omega arith) ∙ ap (λ (n : ℕ). Some (get_or (k ∷ j ∷ ks) n d)) (sym e)

in_numbers : (ks : List ClassCode) (i : ℕ) (d : ClassCode) → i < length ks → In (get_or ks i d).name.0 (class_numbers ks)
in_numbers [] i d h = absurd (omega arith)
in_numbers (k ∷ ks) zero d h = inl refl
in_numbers (k ∷ ks) (suc i) d h = inr (in_numbers ks i d (omega (arith, h)))

module _ (u : Code) (js : List ClassCode) (d : ClassCode) (some : 0 < length u.classes) (same : js ≡ u.classes) where
  abbrev name : NameId
  name = (get_or js (length js - 1) d).name

  pub root_named : class_from 0 u.classes name ≡ None → ⊥
  root_named e =
      let l = ap (λ (ks : List ClassCode). length ks) same in
      named_there 0 u.classes name (subst (λ (ks : List ClassCode). In name.0 (class_numbers ks)) same (in_numbers js (length js - 1) d (omega (arith, l, some)))) e

  pub root_is : (c : ℕ) (y : CodeObject) → class_from 0 u.classes name ≡ Some c → code_placed u c ≡ Some y → (coded u).root ≡ Some (E.placed y)
  root_is c y e h =
      let l = ap (λ (ks : List ClassCode). length ks) same in
      let f : last_code u.classes ≡ Some (get_or js (length js - 1) d) =
      ap (λ (ks : List ClassCode). last_code ks) (sym same) ∙ last_is js d (omega (arith, l, some)) in
      ap (λ (o : Option ClassCode). o >>= λ k. code_made u k.name >>= λ z. Some (E.placed z)) f
      ∙ (ap (λ (o : Option ℕ). placed_at u o >>= λ z. Some (E.placed z)) e ∙ ap (λ (o : Option CodeObject). o >>= λ z. Some (E.placed z)) h)

pub ok_of : (r : Result ℕ HeapFull) → (r ≡ Err HF.Objects → ⊥) → (r ≡ Err HF.Frames → ⊥) → is_ok r ≡ true
ok_of (Ok x) a b = refl
ok_of (Err HF.Objects) a b = absurd (a refl)
ok_of (Err HF.Frames) a b = absurd (b refl)

pub nothing_there : (p : NodeParts) → slots_of p ≡ [] → p.heap.objects ≡ []
nothing_there p e =
    let a = slots_length p.heap.objects p.outstanding p.faults p.goals p.mailbox.boxes in
    let b = ap (λ (ss : List (Slot Placed)). length ss) e in nil_from_length p.heap.objects (sym a ∙ b)
