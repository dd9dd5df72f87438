-- The counts of a node, and its limits.
use Rattle.std.proofs.Common.{◌≡◌, refl, sym, ap, subst, ◌∙◌, ℕ, zero, suc, ◌+◌, ◌<◌, ◌≤◌, List, [], ◌∷◌, ◌++◌, length, get_or, map, Option, Some, None, true, false, arith}
use Rattle.std.specs.Prelude.{slice_get, nat_lt}
use Rattle.std.specs.List.{sum_by}
use Rattle.std.proofs.lemmas.List.Sums.{sum_by-cons, sum_by_push}
use Rattle.std.proofs.lemmas.Bool.Decides.{nat_tests}
use Rattle.run_types.specs.declared.types.Value.{Value}
use Rattle.run_types.specs.declared.types.Error.{Error}
use Rattle.run_types.specs.declared.types.What.{What}
use Rattle.run_types.specs.declared.types.FullKind.TheVariants as F
use Rattle.run_types.specs.declared.types.Placement.{Placement}
use Rattle.code_semantics.specs.declared.unit.ClassCode.{ClassCode}
use Rattle.run_types.specs.declared.frames.CodeObject.{CodeObject}
use Rattle.run_types.specs.declared.frames.Frame.{Frame}
use Rattle.code_semantics.specs.declared.unit.Unit.{Unit as Code}
use Rattle.code_semantics.specs.OfUnit.{AreFramesOf}
use Rattle.code_semantics.specs.Forget.{forget_frame}
use Rattle.code_semantics.specs.StepInstructions.{FitsUnit}
use Rattle.node_heap.specs.Heaps.{frames_of, frames_used, object_at, no_object}
use Rattle.slot_queues.specs.declared.Message.{Message}
use Rattle.slot_queues.specs.Mail.{lengths}
use Rattle.mesh_of_code.specs.Coded.{Placed, coded, under_way}
use Rattle.mesh_semantics.specs.Language.{Language}
use Rattle.run_types.proofs.Laws.{same_some}
use Rattle.node_semantics.specs.Node as N
use Rattle.node_semantics.specs.Node.{Slot, NodeState, NodeActed, NumberedArrival, set_at, message_count, frames_in, packet_count, within_node}
use Rattle.mesh_semantics.specs.NumberedPackets.{NumberedPacket}
use Rattle.node_state.specs.declared.state.NodeParts.{NodeParts}
use Rattle.node_state.specs.OfUnit.{IsOfUnit}
use Rattle.node_state.specs.Views.{NodeInvariant, arrivals_of, head_or, tail_of, slot_by, slots_by, slots_of, node_of}
use Rattle.node_state.proofs.Laws.{below_length, got, slot_real}

pub sum_set : {X : Type 0} (f : X → ℕ) (xs : List X) (i : ℕ) (x y : X) → slice_get xs i ≡ Some x → sum_by f (set_at xs i y) + f x ≡ sum_by f xs + f y
sum_set f [] i x y h = absurd (cc)
sum_set f (z ∷ xs) zero x y h =
    let a = sum_by-cons f y xs in let b = sum_by-cons f z xs in
    let e : f z ≡ f x = ap f (same_some h) in
    omega (arith, a, b, e)
sum_set f (z ∷ xs) (suc i) x y h =
    let a = sum_by-cons f z (set_at xs i y) in let b = sum_by-cons f z xs in let r = sum_set f xs i x y h in omega (arith, a, b, r)

arrivals_length : (b : List Message) → length (arrivals_of b) ≡ length b
arrivals_length [] = refl
arrivals_length (m ∷ b) = ap suc (arrivals_length b)

all_empty : (bs : List (List Message)) → ((i : ℕ) → get_or bs i [] ≡ []) → lengths bs ≡ 0
all_empty [] h = refl
all_empty (b ∷ bs) h =
    let e = ap (λ (z : List Message). length z) (h 0) in
    let r = all_empty bs (λ i. h (suc i)) in omega (arith, e, r)

messages_by : (xs : List CodeObject) (os : List (Option ℕ)) (fs : List (Option Error)) (gs : List ℕ) (bs : List (List Message))
    → ((i : ℕ) → length xs ≤ i → get_or bs i [] ≡ []) → message_count (slots_by xs os fs gs bs) ≡ lengths bs
messages_by [] os fs gs bs h = sym (all_empty bs (λ i. h i (omega arith)))
messages_by (x ∷ xs) os fs gs [] h =
    let r = messages_by xs (tail_of os) (tail_of fs) (tail_of gs) [] (λ i l. refl) in
    sum_by-cons (λ (s : Slot Placed). length s.mailbox) (slot_by x (head_or None os) (head_or None fs) (head_or 0 gs) []) (slots_by xs (tail_of os) (tail_of fs) (tail_of gs) []) ∙ omega (arith, r)
messages_by (x ∷ xs) os fs gs (b ∷ bs) h =
    let r = messages_by xs (tail_of os) (tail_of fs) (tail_of gs) bs (λ i l. h (suc i) (omega (arith, l))) in
    let e = arrivals_length b in
    sum_by-cons (λ (s : Slot Placed). length s.mailbox) (slot_by x (head_or None os) (head_or None fs) (head_or 0 gs) b) (slots_by xs (tail_of os) (tail_of fs) (tail_of gs) bs) ∙ omega (arith, r, e)

pub messages_seen : (p : NodeParts) → NodeInvariant p → message_count (slots_of p) ≡ lengths p.mailbox.boxes
messages_seen p whole = messages_by p.heap.objects p.outstanding p.faults p.goals p.mailbox.boxes whole.no_box

frames_forgotten : (fs : List Frame) → 0 < length fs → 1 + under_way (map forget_frame fs) ≡ length fs
frames_forgotten [] h = absurd (omega arith)
frames_forgotten (f ∷ fs) h = let e = forgotten_length fs in omega (arith, e)
  where
    forgotten_length : (gs : List Frame) → length (map forget_frame gs) ≡ length gs
    forgotten_length [] = refl
    forgotten_length (g ∷ gs) = ap suc (forgotten_length gs)

frames_by : (u : Code) (xs : List CodeObject) (os : List (Option ℕ)) (fs : List (Option Error)) (gs : List ℕ) (bs : List (List Message))
    → ((i : ℕ) (x : CodeObject) → slice_get xs i ≡ Some x → 0 < length x.frames) → frames_in (coded u) (slots_by xs os fs gs bs) ≡ frames_of xs
frames_by u [] os fs gs bs h = refl
frames_by u (x ∷ xs) os fs gs bs h =
    let r = frames_by u xs (tail_of os) (tail_of fs) (tail_of gs) (tail_of bs) (λ i y e. h (suc i) y e) in
    let e = frames_forgotten x.frames (h 0 x refl) in
    sum_by-cons (λ (s : Slot Placed). 1 + (coded u).frames s.state) (slot_by x (head_or None os) (head_or None fs) (head_or 0 gs) (head_or [] bs)) (slots_by xs (tail_of os) (tail_of fs) (tail_of gs) (tail_of bs)) ∙ omega (arith, r, e)

frames_not_none : (k : ClassCode) (P : Value → Type 0) (fs : List Frame) → AreFramesOf k P None fs → 0 < length fs
frames_not_none k P [] h = absurd h
frames_not_none k P (f ∷ fs) h = omega arith

pub some_frame : (u : Code) (x : CodeObject) → FitsUnit u x → 0 < length x.frames
some_frame u x fits = frames_not_none fits.class _ x.frames fits.frames

pub frames_seen : (u : Code) (p : NodeParts) → IsOfUnit u (node_of p) → frames_in (coded u) (slots_of p) ≡ frames_used p.heap
frames_seen u p of = frames_by u p.heap.objects p.outstanding p.faults p.goals p.mailbox.boxes (λ i x e.
    let r = slot_real u p of i (below_length p.heap.objects i x e) in
    let w : object_at p.heap i ≡ x = got p.heap.objects i no_object x e in
    subst (λ (z : CodeObject). 0 < length z.frames) w (some_frame u (object_at p.heap i) r.fits))

-- frames of an object as the language counts them
pub under_way_is : (u : Code) (x : CodeObject) → 0 < length x.frames → 1 + under_way (map forget_frame x.frames) ≡ length x.frames
under_way_is u x h = frames_forgotten x.frames h

-- one slot changed, or one more
module _ (u : Code) (ss : List (Slot Placed)) (i : ℕ) (s t : Slot Placed) (here : slice_get ss i ≡ Some s) where
  pub messages_set : message_count (set_at ss i t) + length s.mailbox ≡ message_count ss + length t.mailbox
  messages_set = sum_set (λ (z : Slot Placed). length z.mailbox) ss i s t here

  pub frames_set : frames_in (coded u) (set_at ss i t) + (1 + under_way s.state.object.frames) ≡ frames_in (coded u) ss + (1 + under_way t.state.object.frames)
  frames_set = sum_set (λ (z : Slot Placed). 1 + (coded u).frames z.state) ss i s t here

pub messages_add : (ss : List (Slot Placed)) (t : Slot Placed) → message_count (ss ++ t ∷ []) ≡ message_count ss + length t.mailbox
messages_add ss t = sum_by_push (λ (z : Slot Placed). length z.mailbox) ss t

pub frames_add : (u : Code) (ss : List (Slot Placed)) (t : Slot Placed) → frames_in (coded u) (ss ++ t ∷ []) ≡ frames_in (coded u) ss + (1 + under_way t.state.object.frames)
frames_add u ss t = sum_by_push (λ (z : Slot Placed). 1 + (coded u).frames z.state) ss t

-- the limits
lt_true : (a b : ℕ) → a < b → nat_lt a b ≡ true
lt_true a b h = grind (arith, nat_tests)

lt_false : (a b : ℕ) → b ≤ a → nat_lt a b ≡ false
lt_false a b h = grind (arith, nat_tests)

module _ {S : Type 0} (g : Language S) (l : Placement) (leaving : ℕ) (w : What) (e : Option NumberedPacket) (x : NodeState S) where
  pub within_fits : length x.slots ≤ l.objects → frames_in g x.slots ≤ l.frames → message_count x.slots + leaving + packet_count e ≤ l.cells
      → within_node g l leaving (N.Acts w e x) ≡ N.Acts w e x
  within_fits a b c = rw (lt_false l.objects (length x.slots) a, lt_false l.frames (frames_in g x.slots) b, lt_false l.cells (message_count x.slots + leaving + packet_count e) c) refl

  pub within_heap : l.objects < length x.slots → within_node g l leaving (N.Acts w e x) ≡ N.Full F.Heap
  within_heap a = rw (lt_true l.objects (length x.slots) a) refl

  pub within_frames : length x.slots ≤ l.objects → l.frames < frames_in g x.slots → within_node g l leaving (N.Acts w e x) ≡ N.Full F.Frames
  within_frames a b = rw (lt_false l.objects (length x.slots) a, lt_true l.frames (frames_in g x.slots) b) refl

  pub within_cells : length x.slots ≤ l.objects → frames_in g x.slots ≤ l.frames → l.cells < message_count x.slots + leaving + packet_count e
      → within_node g l leaving (N.Acts w e x) ≡ N.Full F.Cells
  within_cells a b c = rw (lt_false l.objects (length x.slots) a, lt_false l.frames (frames_in g x.slots) b, lt_true l.cells (message_count x.slots + leaving + packet_count e) c) refl
