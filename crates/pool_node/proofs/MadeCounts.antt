-- The number of objects that were made, after an act.
use Rattle.std.proofs.Common.{◌≡◌, refl, sym, ap, subst, ◌∙◌, ℕ, zero, suc, ◌+◌, ◌<◌, ◌≤◌, ◌==◌, List, [], ◌∷◌, Option, Some, None, Bool, true, false, if◌then◌else◌, arith}
use Rattle.std.specs.Prelude.{slice_get, nat_lt}
use Rattle.std.specs.Option.{unwrap_or}
use Rattle.run_types.specs.declared.types.Value.{Value}
use Rattle.run_types.specs.declared.types.What.{What}
use Rattle.run_types.specs.declared.types.What.TheVariants as W
use Rattle.run_types.specs.declared.types.FullKind.TheVariants as F
use Rattle.run_types.specs.declared.types.Placement.{Placement}
use Rattle.mesh_semantics.specs.Kind as K
use Rattle.mesh_semantics.specs.Kind.{Kind, Alternative, answered}
use Rattle.mesh_semantics.specs.Language.{Language}
use Rattle.mesh_semantics.specs.Delay as D
use Rattle.run_types.specs.ObjectNames as DObjectNames
use Rattle.mesh_semantics.specs.Delay.{Packet, Arrival}
use Rattle.mesh_semantics.specs.NumberedPackets.{NumberedPacket}
use Rattle.mesh_semantics.specs.Act.{class_place, id, is_possible}
use Rattle.run_types.specs.Tables.{Each}
use Rattle.mesh_of_code.specs.Coded.{Placed}
use Rattle.node_semantics.specs.Node as N
use Rattle.node_semantics.specs.Node.{Slot, NodeState, NodeActed, NumberedArrival, arrivals, chosen_act, choice_act, create_act, created_for, count_one, deliver, deliver_in, first_on, give_back, goal_here, local_act, local_state, made_own, message_act, message_count, packet_count, frames_in, put_request, put_state, receipt, receipt_act, return_act, room_for, serve_act, settle_number, settled, slot_act, slot_in_turn, steps_of, taken_act, turn_act, turn_of_slot, name_at, set_at, within_node}
use Rattle.node_acts.specs.ActOf.{Act}
use Rattle.node_acts.specs.ActOf as A
use Rattle.node_state.specs.NodeOf.{NodeOf}
use Rattle.node_turns.specs.Acts.{IsActOf}

-- a property of the counts after an act
abbrev Counts : (List ℕ → Type 0) → NodeActed Placed → Type 0
Counts P (N.Acts w p x) = P x.made
Counts P N.Idle = Unit {0}
Counts P (N.Full k) = Unit {0}
Counts P N.Nothing = Unit {0}

module _ (g : Language Placed) (P : List ℕ → Type 0) where
  within_counts : (l : Placement) (leaving : ℕ) (a : NodeActed Placed) → Counts P a → Counts P (within_node g l leaving a)
  within_counts l leaving N.Idle h = tt
  within_counts l leaving (N.Full k) h = tt
  within_counts l leaving N.Nothing h = tt
  within_counts l leaving (N.Acts w p x) h =
      by (nat_lt l.objects (Rattle.std.proofs.Common.length x.slots)) (nat_lt l.frames (frames_in g x.slots)) (nat_lt l.cells (message_count x.slots + leaving + packet_count p))
    where
      by : (a b c : Bool) → Counts P (if a then N.Full F.Heap else (if b then N.Full F.Frames else (if c then N.Full F.Cells else N.Acts w p x)))
      by true b c = tt
      by false true c = tt
      by false false true = tt
      by false false false = h

  delivered_made : (i : ℕ) (a : NumberedArrival) (x : NodeState Placed) (o : Option (Slot Placed)) → (deliver_in i a x o).made ≡ x.made
  delivered_made i a x None = refl
  delivered_made i a x (Some s) = refl

  message_counts : (n : ℕ) (w : What) (x : NodeState Placed) (b : ℕ) (a : NumberedArrival) (p : Packet) → P x.made → Counts P (message_act n w x b a p)
  message_counts n w x b a p h = by (DObjectNames.node_of b == n)
    where
      by : (t : Bool) → Counts P (if t then N.Acts w None (deliver b a x) else N.Acts w (Some (record { number = a.number; packet = p })) x)
      by true = subst P (sym (delivered_made (DObjectNames.slot_of b) a x (slice_get x.slots (DObjectNames.slot_of b)))) h
      by false = h

  taken_counts : (w : What) (x : NodeState Placed) (names callers : List ℕ) (i : ℕ) (s : Slot Placed) (y : Option Placed) → P x.made → Counts P (taken_act w x names callers i s y)
  taken_counts w x names callers i s None h = tt
  taken_counts w x names callers i s (Some y) h = h

  serve_counts : (n : ℕ) (x : NodeState Placed) (i : ℕ) (s : Slot Placed) (alt : ℕ) (names : List ℕ) (number : Option ℕ) (m : Arrival) → P x.made → Counts P (serve_act g n x i s alt names number m)
  serve_counts n x i s alt names None m h = taken_counts _ x names s.callers i s (g.serving (name_at n i) s.state alt m.method None m.args) h
  serve_counts n x i s alt names (Some k) m h = taken_counts _ x names (k ∷ s.callers) i s (g.serving (name_at n i) s.state alt m.method (Some m.sender) m.args) h

  chosen_counts : (n : ℕ) (x : NodeState Placed) (i : ℕ) (s : Slot Placed) (alt : ℕ) (names : Option (List ℕ)) (a : Option NumberedArrival) → P x.made → Counts P (chosen_act g n x i s alt names a)
  chosen_counts n x i s alt None a h = h
  chosen_counts n x i s alt (Some names) None h = tt
  chosen_counts n x i s alt (Some names) (Some a) h = serve_counts n x i s alt names a.number a.message h

  choice_counts : (n : ℕ) (x : NodeState Placed) (i : ℕ) (s : Slot Placed) (alt : ℕ) (alts : List Alternative) → P x.made → Counts P (choice_act g n x i s alt alts)
  choice_counts n x i s alt [] h = tt
  choice_counts n x i s alt (a ∷ alts) h = by (is_possible (arrivals s.mailbox) a) (choice_counts n x i s (alt + 1) alts h)
    where
      by : (b : Bool) → Counts P (choice_act g n x i s (alt + 1) alts)
          → Counts P (if b then chosen_act g n x i s alt a.names (first_on (answered a.names) s.mailbox) else choice_act g n x i s (alt + 1) alts)
      by true r = chosen_counts n x i s alt a.names (first_on (answered a.names) s.mailbox) h
      by false r = r

  back_counts : (n number : ℕ) (w : What) (k : ℕ) (v : Value) (x : NodeState Placed) → P x.made → Counts P (give_back g n number w k v x)
  back_counts n number w k v x h = by (DObjectNames.node_of k == n)
    where
      by : (t : Bool) → Counts P (if t then N.Acts w None (record x { slots = settled g number v x.slots }) else N.Acts w (Some (record { number = Some number; packet = D.Result k v })) x)
      by true = h
      by false = h

  return_counts : (n : ℕ) (x : NodeState Placed) (i : ℕ) (s : Slot Placed) (k : ℕ) (v : Value) (callers : List ℕ) → P x.made → Counts P (return_act g n x i s k v callers)
  return_counts n x i s k v [] h = tt
  return_counts n x i s k v (number ∷ callers) h = back_counts n number _ k v _ h

  local_counts : (n o : ℕ) (x : NodeState Placed) (i : ℕ) (s : Slot Placed) (k : ℕ) (y : Option Placed) → P x.made → Counts P (local_act n o x i s k y)
  local_counts n o x i s zero y h = tt
  local_counts n o x i s (suc k) None h = tt
  local_counts n o x i s (suc k) (Some y) h = h

  own_counts : (n : ℕ) (x : NodeState Placed) (i : ℕ) (s : Slot Placed) (class : ℕ) (y : Option Placed) → P x.made → Counts P (made_own g n x i s class y)
  own_counts n x i s class None h = tt
  own_counts n x i s class (Some y) h = h

  create_counts : (n fresh : ℕ) (x : NodeState Placed) (i : ℕ) (s : Slot Placed) (class goal : ℕ) → P (count_one g class x).made → Counts P (create_act g n fresh x i s class goal)
  create_counts n fresh x i s class goal h = by (goal == n)
    where
      by : (t : Bool) → Counts P (if t then made_own g n (count_one g class x) i s class (g.made class)
          else N.Acts (W.PostCreate (name_at n i) (id class) goal) (Some (record { number = Some fresh; packet = D.Create (name_at n i) goal class })) (put_request (count_one g class x) i s fresh goal))
      by true = own_counts n (count_one g class x) i s class (g.made class) h
      by false = h

  slot_counts : (l : Placement) (q n fresh : ℕ) (x : NodeState Placed) (i : ℕ) (s : Slot Placed) (k : Kind) → P x.made → ((class : ℕ) → P (count_one g class x).made)
      → Counts P (slot_act g l q n fresh x i s k)
  slot_counts l q n fresh x i s K.Local h c = local_counts n (name_at n i) x i s (steps_of g l q n x i s) (local_state g (name_at n i) (room_for g l x i s) (steps_of g l q n x i s) s.state) h
  slot_counts l q n fresh x i s (K.New class) h c = create_counts n fresh x i s class (goal_here g l x n class) (c class)
  slot_counts l q n fresh x i s (K.Send b m args) h c = message_counts n _ (put_request x i s fresh s.goal) b _ _ h
  slot_counts l q n fresh x i s (K.Async b m args) h c = message_counts n _ (put_state x i s (g.done s.state)) b _ _ h
  slot_counts l q n fresh x i s (K.Select alts) h c = choice_counts n x i s 1 alts h
  slot_counts l q n fresh x i s (K.Return k v) h c = return_counts n x i s k v s.callers h
  slot_counts l q n fresh x i s (K.Write item) h c = h
  slot_counts l q n fresh x i s (K.Fault e) h c = h
  slot_counts l q n fresh x i s K.Finished h c = tt
  slot_counts l q n fresh x i s (K.Waits b m) h c = tt
  slot_counts l q n fresh x i s K.Stuck h c = tt

  turn_counts : (l : Placement) (q n leaving fresh : ℕ) (x : NodeState Placed) → P x.made → ((class : ℕ) → P (count_one g class x).made) → Counts P (turn_act g l q n leaving fresh x)
  turn_counts l q n leaving fresh x h c = by (slot_in_turn g n x)
    where
      by : (o : Option (ℕ × Slot Placed)) → Counts P (turn_of_slot g l q n leaving fresh x o)
      by None = tt
      by (Some e) =
          within_counts l leaving (slot_act g l q n fresh (record x { last = Some e.0 }) e.0 e.1 (g.kind (name_at n e.0) e.1.state))
          (slot_counts l q n fresh (record x { last = Some e.0 }) e.0 e.1 (g.kind (name_at n e.0) e.1.state) h c)

  settle_counts : (v : Value) (number : Option ℕ) (x : NodeState Placed) → P x.made → P (settle_number g v number x).made
  settle_counts v None x h = h
  settle_counts v (Some number) x h = h

  created_counts : (n : ℕ) (x : NodeState Placed) (number : Option ℕ) (o class : ℕ) (y : Option Placed) → P x.made → Counts P (created_for n x number o class y)
  created_counts n x number o class None h = tt
  created_counts n x number o class (Some y) h = h

  receipt_counts : (n : ℕ) (x : NodeState Placed) (number : Option ℕ) (p : Packet) → P x.made → Counts P (receipt g n x number p)
  receipt_counts n x number (D.Create o goal class) h = created_counts n x number o class (g.made class) h
  receipt_counts n x number (D.Created o name) h = settle_counts _ number x h
  receipt_counts n x number (D.Request o r m args) h = subst P (sym (delivered_made (DObjectNames.slot_of r) _ x (slice_get x.slots (DObjectNames.slot_of r)))) h
  receipt_counts n x number (D.Result o v) h = settle_counts v number x h
  receipt_counts n x number (D.Async o r m args) h = subst P (sym (delivered_made (DObjectNames.slot_of r) _ x (slice_get x.slots (DObjectNames.slot_of r)))) h

-- the counts of the node after it
acted_counts : (P : List ℕ → Type 0) (act : Act) (old new : NodeOf) (a : NodeActed Placed) → IsActOf act old new a → Counts P a → P old.state.made → P new.state.made
acted_counts P A.Idle old new N.Idle k c h = subst (λ (n : NodeOf). P n.state.made) (sym k) h
acted_counts P (A.Line w p) old new (N.Acts v d x) k c h = subst (λ (n : NodeOf). P n.state.made) (sym k.2) c
acted_counts P (A.Full kind) old new (N.Full j) k c h = subst (λ (n : NodeOf). P n.state.made) (sym k.1) h
acted_counts P A.Idle old new (N.Acts v d x) k c h = absurd k
acted_counts P A.Idle old new (N.Full j) k c h = absurd k
acted_counts P A.Idle old new N.Nothing k c h = absurd k
acted_counts P (A.Line w p) old new N.Idle k c h = absurd k
acted_counts P (A.Line w p) old new (N.Full j) k c h = absurd k
acted_counts P (A.Line w p) old new N.Nothing k c h = absurd k
acted_counts P (A.Full kind) old new N.Idle k c h = absurd k
acted_counts P (A.Full kind) old new (N.Acts v d x) k c h = absurd k
acted_counts P (A.Full kind) old new N.Nothing k c h = absurd k

each_more : (most : ℕ) (ks : List ℕ) → Each (λ k. k ≤ most) ks → Each (λ k. k ≤ most + 1) ks
each_more most [] h = tt
each_more most (k ∷ ks) h = ((let a = h.0 in omega (arith, a)), each_more most ks h.1)

each_counted : (most : ℕ) (ks : List ℕ) (c : ℕ) → Each (λ k. k ≤ most) ks → Each (λ k. k ≤ most + 1) (set_at ks c (unwrap_or (slice_get ks c) 0 + 1))
each_counted most [] c h = tt
each_counted most (k ∷ ks) zero h = ((let a = h.0 in omega (arith, a)), each_more most ks h.1)
each_counted most (k ∷ ks) (suc c) h = ((let a = h.0 in omega (arith, a)), each_counted most ks c h.1)

pub counts_after : (g : Language Placed) (l : Placement) (q n leaving fresh : ℕ) (act : Act) (old new : NodeOf) → IsActOf act old new (turn_act g l q n leaving fresh old.state)
    → (most : ℕ) → Each (λ k. k ≤ most) old.state.made → Each (λ k. k ≤ most + 1) new.state.made
counts_after g l q n leaving fresh act old new k most h =
    let P : List ℕ → Type 0 = λ ks. Each (λ (k : ℕ). k ≤ most + 1) ks in
    acted_counts P act old new (turn_act g l q n leaving fresh old.state) k
    (turn_counts g P l q n leaving fresh old.state (each_more most old.state.made h) (λ class. each_counted most old.state.made (class_place g.classes class) h)) (each_more most old.state.made h)

pub made_after : (g : Language Placed) (l : Placement) (n leaving : ℕ) (e : NumberedPacket) (act : Act) (old new : NodeOf) → IsActOf act old new (receipt_act g l n leaving e old.state)
    → new.state.made ≡ old.state.made
made_after g l n leaving e act old new k =
    let P : List ℕ → Type 0 = λ ks. ks ≡ old.state.made in
    acted_counts P act old new (receipt_act g l n leaving e old.state) k
    (within_counts g P l leaving (receipt g n old.state e.number e.packet) (receipt_counts g P n old.state e.number e.packet refl)) refl
