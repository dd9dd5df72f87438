-- The change of a slot that each small change of the parts of a node makes.
use Rattle.std.proofs.Common.{◌≡◌, ◌≢◌, inl, inr, refl, sym, ap, ap₂, subst, ◌∙◌, ℕ, ◌<◌, ◌≤◌, List, [], ◌∷◌, ◌++◌, length, get_or, Option, Some, None, Bool, true, false, arith}
use Rattle.std.specs.Prelude.{slice_get, slice_set, IsErr, OnOk, is_ok, nat_le}
use Rattle.std.specs.declared.result.Result.{Result}
use Rattle.std.specs.declared.result.Result.TheVariants.{Ok, Err}
use Rattle.std.proofs.lemmas.Bool.Decides.{nat_tests}
use Rattle.object_interp.specs.Offers.{IsAsking}
use Rattle.std.specs.Option.{option_map}
use Rattle.std.proofs.lemmas.List.{set-get_or, get_or-set_same}
use Rattle.run_types.specs.declared.types.NameId.{NameId}
use Rattle.run_types.specs.declared.types.Value.{Value}
use Rattle.run_types.specs.declared.types.Error.{Error}
use Rattle.run_types.specs.declared.types.Serves.{Serves}
use Rattle.run_types.specs.declared.frames.CodeObject.{CodeObject}
use Rattle.code_semantics.specs.declared.unit.Unit.{Unit as Code}
use Rattle.code_semantics.specs.Kinds as C
use Rattle.code_semantics.specs.Kinds.{code_kind}
use Rattle.code_semantics.specs.Step.{code_given, code_gone_on, code_picked, code_serving}
use Rattle.code_semantics.specs.Forget.{forget, forget_serves}
use Rattle.code_semantics.specs.StepInstructions.{FitsUnit, IsAtStep}
use Rattle.code_semantics.proofs.Laws.{forget_given, forget_gone_on, forget_picked, forget_serving}
use Rattle.node_heap.specs.Heaps.{HeapOf, object_at, put_object, no_object}
use Rattle.slot_queues.specs.declared.Message.{Message}
use Rattle.slot_queues.specs.Mail.{Mail, box_of, with_box}
use Rattle.mesh_of_code.specs.Coded.{Placed, coded, kind_of}
use Rattle.node_semantics.specs.Node.{Slot, NumberedArrival, name_at}
use Rattle.mesh_semantics.specs.Requests.{posts_request, is_at_once}
use Rattle.node_semantics.specs.Agrees.{IsUnused}
use Rattle.node_state.specs.declared.state.NodeParts.{NodeParts}
use Rattle.node_state.specs.OfUnit.{IsOfUnit}
use Rattle.node_state.specs.Views.{NodeInvariant, arrival_of, arrivals_of, numbers_of, number_by, tail_of, slot_by, node_of, slot_at, refreshed}
use Rattle.node_state.proofs.AllParts.{put_all}
use Rattle.node_state.specs.Changes.{IsChanged}
use Rattle.node_state.proofs.SlotUpdate.{IsRightful, put_changed, slot_real, kind_seen, unused_seen, got}
use Rattle.node_state.proofs.ServedNumbers.{numbers_given, numbers_done, numbers_picked, numbers_returned, numbers_serving}

pub arrivals_append : (xs : List Message) (m : Message) → arrivals_of (xs ++ m ∷ []) ≡ arrivals_of xs ++ arrival_of m ∷ []
arrivals_append [] m = refl
arrivals_append (x ∷ xs) m = ap (λ (zs : List NumberedArrival). arrival_of x ∷ zs) (arrivals_append xs m)

-- a slot with another object, which serves the same calls or others
abbrev with_object : Slot Placed → CodeObject → List ℕ → Slot Placed
with_object s x callers = record s { state = record s.state { object = x }; callers = callers }

module _ (u : Code) (p : NodeParts) (whole : NodeInvariant p) (of : IsOfUnit u (node_of p)) (i : ℕ) (h : i < length p.heap.objects) where
  abbrev x : CodeObject
  x = object_at p.heap i

  abbrev own : Option ℕ
  own = get_or p.outstanding i None

  abbrev fault : Option Error
  fault = get_or p.faults i None

  abbrev goal : ℕ
  goal = get_or p.goals i 0

  abbrev box : List Message
  box = box_of p.mailbox i

  -- the parts with new lists
  abbrev lists : List CodeObject → List (Option ℕ) → List (Option Error) → List ℕ → List (List Message) → NodeParts
  lists xs os fs gs bs = record p {
    heap = record p.heap { objects = xs };
    outstanding = os;
    faults = fs;
    goals = gs;
    mailbox = record { boxes = bs; cells = p.mailbox.cells };
  }

  as_put : (xs : List CodeObject) (os : List (Option ℕ)) (fs : List (Option Error)) (gs : List ℕ) (bs : List (List Message))
      → (y : CodeObject) (r : Option ℕ) (f : Option Error) (g : ℕ) (b : List Message)
      → slice_set p.heap.objects i y ≡ xs → slice_set p.outstanding i r ≡ os → slice_set p.faults i f ≡ fs → slice_set p.goals i g ≡ gs → slice_set p.mailbox.boxes i b ≡ bs
      → put_all p i y r f g b ≡ lists xs os fs gs bs
  as_put xs os fs gs bs y r f g b hx ho hf hg hb =
      ap₂ (λ (a : List CodeObject) (c : List (Option ℕ)). lists a c (slice_set p.faults i f) (slice_set p.goals i g) (slice_set p.mailbox.boxes i b)) hx ho
      ∙ (ap₂ (λ (a : List (Option Error)) (c : List ℕ). lists xs os a c (slice_set p.mailbox.boxes i b)) hf hg ∙ ap (λ (a : List (List Message)). lists xs os fs gs a) hb)

  same_objects : slice_set p.heap.objects i x ≡ p.heap.objects
  same_objects = set-get_or p.heap.objects i no_object

  same_requests : slice_set p.outstanding i own ≡ p.outstanding
  same_requests = set-get_or p.outstanding i None

  same_faults : slice_set p.faults i fault ≡ p.faults
  same_faults = set-get_or p.faults i None

  same_goals : slice_set p.goals i goal ≡ p.goals
  same_goals = set-get_or p.goals i 0

  same_boxes : slice_set p.mailbox.boxes i box ≡ p.mailbox.boxes
  same_boxes = set-get_or p.mailbox.boxes i []

  keeps : IsRightful (node_of p).state own own
  keeps number e = inl e

  -- the object of a slot without request is another one
  object_changed : (y : CodeObject) → own ≡ None → FitsUnit u y → IsAtStep u y
      → IsChanged u p (refreshed u (record p { heap = put_object p.heap i y }) i) i (slot_by y own fault goal box)
  object_changed y free fits rests =
      subst (λ (q : NodeParts). IsChanged u p (refreshed u q i) i (slot_by y own fault goal box))
      (as_put (slice_set p.heap.objects i y) p.outstanding p.faults p.goals p.mailbox.boxes y own fault goal box refl same_requests same_faults same_goals same_boxes)
      (put_changed u p whole i h y own fault goal box of fits rests (λ number e. let w = sym free ∙ e in absurd (cc)) keeps)

  to : {s t : Slot Placed} {q : NodeParts} → s ≡ t → IsChanged u p q i s → IsChanged u p q i t
  to {s = s} {t = t} {q = q} e c = subst (λ (z : Slot Placed). IsChanged u p q i z) e c

  pub done_changed : own ≡ None → is_at_once (kind_of (code_kind u x)) ≡ true → FitsUnit u (code_gone_on u x) → IsAtStep u (code_gone_on u x)
      → IsChanged u p (refreshed u (record p { heap = put_object p.heap i (code_gone_on u x) }) i) i (record (slot_at p i) { state = (coded u).done (slot_at p i).state })
  done_changed free once fits rests =
      to (ap₂ (with_object (slot_at p i)) (forget_gone_on u x) (numbers_done u x once)) (object_changed (code_gone_on u x) free fits rests)

  pub returned_changed : (c n : ℕ) (v : Value) → own ≡ None → code_kind u x ≡ C.Return c n v → FitsUnit u (code_gone_on u x) → IsAtStep u (code_gone_on u x)
      → IsChanged u p (refreshed u (record p { heap = put_object p.heap i (code_gone_on u x) }) i) i
      (record (slot_at p i) { state = (coded u).returned (slot_at p i).state; callers = tail_of (slot_at p i).callers })
  returned_changed c n v free kind fits rests =
      let e = numbers_returned u x c n v (slot_real u p of i h).fits kind in
      to (ap₂ (with_object (slot_at p i)) (forget_gone_on u x) (sym (ap (λ (ns : List ℕ). tail_of ns) e))) (object_changed (code_gone_on u x) free fits rests)

  pub returned_number : (c n : ℕ) (v : Value) → code_kind u x ≡ C.Return c n v → (slot_at p i).callers ≡ n ∷ tail_of (slot_at p i).callers
  returned_number c n v kind =
      let e = numbers_returned u x c n v (slot_real u p of i h).fits kind in
      e ∙ ap (λ (ns : List ℕ). n ∷ ns) (sym (ap (λ (ns : List ℕ). tail_of ns) e))

  pub given_changed : (v : Value) → own ≡ None → FitsUnit u (code_given u x v) → IsAtStep u (code_given u x v)
      → IsChanged u p (refreshed u (record p { heap = put_object p.heap i (code_given u x v) }) i) i (record (slot_at p i) { state = (coded u).given (slot_at p i).state v })
  given_changed v free fits rests =
      to (ap₂ (with_object (slot_at p i)) (forget_given u x v) (numbers_given u x v)) (object_changed (code_given u x v) free fits rests)

  pub picked_changed : (alt : ℕ) → own ≡ None → FitsUnit u (code_picked u x alt) → IsAtStep u (code_picked u x alt)
      → IsChanged u p (refreshed u (record p { heap = put_object p.heap i (code_picked u x alt) }) i) i
      (record (slot_at p i) { state = (coded u).picked (name_at p.id i) (slot_at p i).state alt })
  picked_changed alt free fits rests =
      to (ap₂ (with_object (slot_at p i)) (forget_picked u x alt) (numbers_picked u x alt)) (object_changed (code_picked u x alt) free fits rests)

  -- local steps were made
  pub burst_changed : (y : CodeObject) → own ≡ None → numbers_of y.frames ≡ numbers_of x.frames → FitsUnit u y → IsAtStep u y
      → IsChanged u p (refreshed u (record p { heap = put_object p.heap i y }) i) i (record (slot_at p i) { state = record (slot_at p i).state { object = forget y } })
  burst_changed y free same fits rests = to (ap (λ (ns : List ℕ). with_object (slot_at p i) (forget y) ns) same) (object_changed y free fits rests)

  -- a value has come for its request
  pub settled_changed : (v : Value) → FitsUnit u (code_given u x v) → IsAtStep u (code_given u x v)
      → IsChanged u p (refreshed u (record p { outstanding = slice_set p.outstanding i None; heap = put_object p.heap i (code_given u x v) }) i) i
      (record (slot_at p i) { state = (coded u).given (slot_at p i).state v; request = None })
  settled_changed v fits rests =
      let s = record (slot_at p i) { request = None } in
      to (ap₂ (with_object s) (forget_given u x v) (numbers_given u x v))
      (subst (λ (q : NodeParts). IsChanged u p (refreshed u q i) i (slot_by (code_given u x v) None fault goal box))
      (as_put (slice_set p.heap.objects i (code_given u x v)) (slice_set p.outstanding i None) p.faults p.goals p.mailbox.boxes
      (code_given u x v) None fault goal box refl refl same_faults same_goals same_boxes)
      (put_changed u p whole i h (code_given u x v) None fault goal box of fits rests (λ number e. absurd (cc)) (λ number e. absurd (cc))))

  -- a request is posted
  pub asked_changed : (number g : ℕ) → ((k : ℕ) → slice_get p.outstanding k ≢ Some (Some number)) → posts_request (kind_of (code_kind u x)) ≡ true
      → IsChanged u p (refreshed u (record p { outstanding = slice_set p.outstanding i (Some number); goals = slice_set p.goals i g }) i) i
      (record (slot_at p i) { request = Some number; goal = g })
  asked_changed number g unused posts =
      let real = slot_real u p of i h in
      subst (λ (q : NodeParts). IsChanged u p (refreshed u q i) i (record (slot_at p i) { request = Some number; goal = g }))
      (as_put p.heap.objects (slice_set p.outstanding i (Some number)) p.faults (slice_set p.goals i g) p.mailbox.boxes
      x (Some number) fault g box same_objects refl same_faults refl same_boxes)
      (put_changed u p whole i h x (Some number) fault g box of real.fits real.rests
      (λ k e. ap (λ z. posts_request z) (kind_seen u p i (name_at p.id i)) ∙ posts)
      (λ k e. let w : number ≡ k = cc in inr (subst (λ (z : ℕ). IsUnused z (node_of p).state) w (unused_seen p number unused))))

  -- an error is met
  pub faulted_changed : (e : Error) → own ≡ None
      → IsChanged u p (refreshed u (record p { faults = slice_set p.faults i (Some e) }) i) i (record (slot_at p i) { state = (coded u).faulted (slot_at p i).state e })
  faulted_changed e free =
      let real = slot_real u p of i h in
      subst (λ (q : NodeParts). IsChanged u p (refreshed u q i) i (record (slot_at p i) { state = (coded u).faulted (slot_at p i).state e }))
      (as_put p.heap.objects p.outstanding (slice_set p.faults i (Some e)) p.goals p.mailbox.boxes x own (Some e) goal box same_objects same_requests refl same_goals same_boxes)
      (put_changed u p whole i h x own (Some e) goal box of real.fits real.rests (λ number k. let w = sym free ∙ k in absurd (cc)) keeps)

  -- a message arrives
  pub delivered_changed : (m : Message)
      → IsChanged u p (refreshed u (record p { mailbox = with_box p.mailbox i (box ++ m ∷ []) }) i) i
      (record (slot_at p i) { mailbox = (slot_at p i).mailbox ++ arrival_of m ∷ [] })
  delivered_changed m =
      let real = slot_real u p of i h in
      to (ap (λ (b : List NumberedArrival). record (slot_at p i) { mailbox = b }) (arrivals_append box m))
      (subst (λ (q : NodeParts). IsChanged u p (refreshed u q i) i (slot_by x own fault goal (box ++ m ∷ [])))
      (as_put p.heap.objects p.outstanding p.faults p.goals (slice_set p.mailbox.boxes i (box ++ m ∷ [])) x own fault goal (box ++ m ∷ []) same_objects same_requests same_faults same_goals refl)
      (put_changed u p whole i h x own fault goal (box ++ m ∷ []) of real.fits real.rests real.asks keeps))

  -- a message is taken
  pub served_changed : (y : CodeObject) (b : List Message) (alt : ℕ) (m : NameId) (args : List Value) (serves : Serves) → own ≡ None
      → code_serving u x alt m args serves ≡ Some y → FitsUnit u y → IsAtStep u y
      → IsChanged u p (refreshed u (record p { mailbox = with_box p.mailbox i b; heap = put_object p.heap i y }) i) i
      (record (slot_at p i) { state = record (slot_at p i).state { object = forget y }; callers = number_by serves (slot_at p i).callers; mailbox = arrivals_of b })
  served_changed y b alt m args serves free is fits rests =
      let s = record (slot_at p i) { mailbox = arrivals_of b } in
      to (ap (λ (ns : List ℕ). with_object s (forget y) ns) (numbers_serving u x y alt m args serves (slot_real u p of i h).fits is).0)
      (subst (λ (q : NodeParts). IsChanged u p (refreshed u q i) i (slot_by y own fault goal b))
      (as_put (slice_set p.heap.objects i y) p.outstanding p.faults p.goals (slice_set p.mailbox.boxes i b) y own fault goal b refl same_requests same_faults same_goals refl)
      (put_changed u p whole i h y own fault goal b of fits rests (λ number e. let w = sym free ∙ e in absurd (cc)) keeps))

  -- the object after the method is begun, as the language has it
  pub served_is : (y : CodeObject) (alt : ℕ) (m : NameId) (args : List Value) (serves : Serves) → code_serving u x alt m args serves ≡ Some y
      → code_serving u (forget x) alt m args (forget_serves serves) ≡ Some (forget y)
  served_is y alt m args serves is = sym (forget_serving u x alt m args serves) ∙ ap (λ (o : Option CodeObject). option_map forget o) is

  -- what a call of the interpreter leaves in the heap
  here_now : (y : CodeObject) (hp : HeapOf) → hp ≡ put_object p.heap i y → object_at hp i ≡ y
  here_now y hp e = ap (λ (z : HeapOf). object_at z i) e ∙ get_or-set_same p.heap.objects i y no_object h

  pub by_heap : (y : CodeObject) (hp : HeapOf) (q : NodeParts) (s : Slot Placed) → hp ≡ put_object p.heap i y → FitsUnit u (object_at hp i) → IsAtStep u (object_at hp i)
      → q ≡ refreshed u (record p { heap = hp }) i
      → (FitsUnit u y → IsAtStep u y → IsChanged u p (refreshed u (record p { heap = put_object p.heap i y }) i) i s) → IsChanged u p q i s
  by_heap y hp q s e fits rests is go =
      let w = here_now y hp e in
      let t : q ≡ refreshed u (record p { heap = put_object p.heap i y }) i = is ∙ ap (λ (z : HeapOf). refreshed u (record p { heap = z }) i) e in
      subst (λ (z : NodeParts). IsChanged u p z i s) (sym t) (go (subst (λ (z : CodeObject). FitsUnit u z) w fits) (subst (λ (z : CodeObject). IsAtStep u z) w rests))

  pub by_settled : (v : Value) (os : List (Option ℕ)) (hp : HeapOf) (q : NodeParts) → os ≡ slice_set p.outstanding i None → hp ≡ put_object p.heap i (code_given u x v)
      → FitsUnit u (object_at hp i) → IsAtStep u (object_at hp i) → q ≡ refreshed u (record p { outstanding = os; heap = hp }) i
      → IsChanged u p q i (record (slot_at p i) { state = (coded u).given (slot_at p i).state v; request = None })
  by_settled v os hp q eo e fits rests is =
      let w = here_now (code_given u x v) hp e in
      let t : q ≡ refreshed u (record p { outstanding = slice_set p.outstanding i None; heap = put_object p.heap i (code_given u x v) }) i =
      is ∙ ap₂ (λ (a : List (Option ℕ)) (z : HeapOf). refreshed u (record p { outstanding = a; heap = z }) i) eo e in
      subst (λ (z : NodeParts). IsChanged u p z i (record (slot_at p i) { state = (coded u).given (slot_at p i).state v; request = None })) (sym t)
      (settled_changed v (subst (λ (z : CodeObject). FitsUnit u z) w fits) (subst (λ (z : CodeObject). IsAtStep u z) w rests))

  pub by_asked : (number g : ℕ) (os : List (Option ℕ)) (gs : List ℕ) (q : NodeParts) → os ≡ slice_set p.outstanding i (Some number) → gs ≡ slice_set p.goals i g
      → ((k : ℕ) → slice_get p.outstanding k ≢ Some (Some number)) → posts_request (kind_of (code_kind u x)) ≡ true
      → q ≡ refreshed u (record p { outstanding = os; goals = gs }) i → IsChanged u p q i (record (slot_at p i) { request = Some number; goal = g })
  by_asked number g os gs q eo eg unused posts is =
      let t : q ≡ refreshed u (record p { outstanding = slice_set p.outstanding i (Some number); goals = slice_set p.goals i g }) i =
      is ∙ ap₂ (λ (a : List (Option ℕ)) (z : List ℕ). refreshed u (record p { outstanding = a; goals = z }) i) eo eg in
      subst (λ (z : NodeParts). IsChanged u p z i (record (slot_at p i) { request = Some number; goal = g })) (sym t) (asked_changed number g unused posts)

  pub by_faulted : (e : Error) (fs : List (Option Error)) (q : NodeParts) → fs ≡ slice_set p.faults i (Some e) → own ≡ None → q ≡ refreshed u (record p { faults = fs }) i
      → IsChanged u p q i (record (slot_at p i) { state = (coded u).faulted (slot_at p i).state e })
  by_faulted e fs q ef free is =
      let t : q ≡ refreshed u (record p { faults = slice_set p.faults i (Some e) }) i = is ∙ ap (λ (a : List (Option Error)). refreshed u (record p { faults = a }) i) ef in
      subst (λ (z : NodeParts). IsChanged u p z i (record (slot_at p i) { state = (coded u).faulted (slot_at p i).state e })) (sym t) (faulted_changed e free)

  pub by_delivered : (m : Message) (ml : Mail Message) (q : NodeParts) → ml ≡ with_box p.mailbox i (box ++ m ∷ []) → q ≡ refreshed u (record p { mailbox = ml }) i
      → IsChanged u p q i (record (slot_at p i) { mailbox = (slot_at p i).mailbox ++ arrival_of m ∷ [] })
  by_delivered m ml q em is =
      let t : q ≡ refreshed u (record p { mailbox = with_box p.mailbox i (box ++ m ∷ []) }) i = is ∙ ap (λ (a : Mail Message). refreshed u (record p { mailbox = a }) i) em in
      subst (λ (z : NodeParts). IsChanged u p z i (record (slot_at p i) { mailbox = (slot_at p i).mailbox ++ arrival_of m ∷ [] })) (sym t) (delivered_changed m)

  pub by_served : (y : CodeObject) (b : List Message) (alt : ℕ) (m : NameId) (args : List Value) (serves : Serves) (ml : Mail Message) (hp : HeapOf) (q : NodeParts)
      → own ≡ None → code_serving u x alt m args serves ≡ Some y → ml ≡ with_box p.mailbox i b → hp ≡ put_object p.heap i y → FitsUnit u (object_at hp i) → IsAtStep u (object_at hp i)
      → q ≡ refreshed u (record p { mailbox = ml; heap = hp }) i
      → IsChanged u p q i (record (slot_at p i) { state = record (slot_at p i).state { object = forget y }; callers = number_by serves (slot_at p i).callers; mailbox = arrivals_of b })
  by_served y b alt m args serves ml hp q free serving em e fits rests is =
      let w = here_now y hp e in
      let s = record (slot_at p i) { state = record (slot_at p i).state { object = forget y }; callers = number_by serves (slot_at p i).callers; mailbox = arrivals_of b } in
      let t : q ≡ refreshed u (record p { mailbox = with_box p.mailbox i b; heap = put_object p.heap i y }) i =
      is ∙ ap₂ (λ (a : Mail Message) (z : HeapOf). refreshed u (record p { mailbox = a; heap = z }) i) em e in
      subst (λ (z : NodeParts). IsChanged u p z i s) (sym t)
      (served_changed y b alt m args serves free serving (subst (λ (z : CodeObject). FitsUnit u z) w fits) (subst (λ (z : CodeObject). IsAtStep u z) w rests))

pub on_ok : {X E : Type 0} (r : Result X E) (P : Type 0) → OnOk r P → is_ok r ≡ true → P
on_ok (Ok x) P h e = h
on_ok (Err x) P h e = absurd (cc)

pub not_ok : {X E : Type 0} (r : Result X E) → is_ok r ≡ false → IsErr r
not_ok (Ok x) e = absurd (cc)
not_ok (Err x) e = refl

-- a slot of which a number is out
module _ (p : NodeParts) (whole : NodeInvariant p) (i number : ℕ) (out : slice_get p.outstanding i ≡ Some (Some number)) where
  pub number_of_slot : get_or p.outstanding i None ≡ Some number
  number_of_slot = got p.outstanding i None (Some number) out

  pub slot_of_number : i < length p.heap.objects
  slot_of_number = by (nat_le (length p.heap.objects) i) refl
    where
      by : (b : Bool) → nat_le (length p.heap.objects) i ≡ b → i < length p.heap.objects
      by true e =
          let k : length p.heap.objects ≤ i = grind (arith, nat_tests) in
          let w : None ≡ Some number = sym (whole.no_request i k) ∙ number_of_slot in absurd (cc)
      by false e = grind (arith, nat_tests)

asking_kind : (k : C.Kind) → posts_request (kind_of k) ≡ true → IsAsking k
asking_kind (C.New c) e = tt
asking_kind (C.Send b m args) e = tt
asking_kind C.Finished e = absurd (cc)
asking_kind C.Local e = absurd (cc)
asking_kind (C.Fault f) e = absurd (cc)
asking_kind (C.Async b m args) e = absurd (cc)
asking_kind (C.Write item) e = absurd (cc)
asking_kind (C.Answer names) e = absurd (cc)
asking_kind (C.Select alts) e = absurd (cc)
asking_kind (C.Return k n v) e = absurd (cc)

pub asks_now : (u : Code) (p : NodeParts) (of : IsOfUnit u (node_of p)) (i : ℕ) (h : i < length p.heap.objects) (number : ℕ) → get_or p.outstanding i None ≡ Some number
    → posts_request (kind_of (code_kind u (object_at p.heap i))) ≡ true
asks_now u p of i h number out = ap (λ z. posts_request z) (sym (kind_seen u p i (name_at p.id i))) ∙ (slot_real u p of i h).asks number out

pub asking_now : (u : Code) (p : NodeParts) (of : IsOfUnit u (node_of p)) (i : ℕ) (h : i < length p.heap.objects) (number : ℕ) → get_or p.outstanding i None ≡ Some number
    → IsAsking (code_kind u (object_at p.heap i))
asking_now u p of i h number out = asking_kind (code_kind u (object_at p.heap i)) (asks_now u p of i h number out)
