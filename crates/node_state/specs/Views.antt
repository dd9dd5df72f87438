-- The node that contracts see of its parts, with a slot for each object of the heap, and the invariant of the parts.
use Rattle.std.specs.Prelude.{◌≡◌, ℕ, ◌≤◌, ◌∷◌, List, [], Option, None, is_some, length, get_or, slice_set, take}
use Rattle.run_types.specs.declared.types.Error.{Error}
use Rattle.run_types.specs.declared.types.Serves.{Serves}
use Rattle.run_types.specs.declared.types.Serves.TheVariants as S
use Rattle.run_types.specs.declared.frames.CodeObject.{CodeObject}
use Rattle.run_types.specs.declared.frames.Frame.{Frame}
use Rattle.code_semantics.specs.declared.unit.Unit.{Unit as Code}
use Rattle.code_semantics.specs.Forget.{forget}
use Rattle.mesh_of_code.specs.Coded.{Placed, coded}
use Rattle.node_semantics.specs.Node.{NumberedArrival, Slot, can_go}
use Rattle.slot_queues.specs.declared.Message.{Message}
use Rattle.slot_queues.specs.Mail.{box_of}
use Rattle.node_heap.specs.Heaps.{object_at}
use Rattle.node_state.specs.declared.state.NodeParts.{NodeParts}
use Rattle.node_state.specs.NodeOf.{NodeOf}

-- a message as the node of its receiver stores it
abbrev pub arrival_of : Message → NumberedArrival
arrival_of m = record { number = m.call; message = record { sender = m.from; is_call = is_some m.call; method = m.method.0; args = m.args } }

abbrev pub arrivals_of : List Message → List NumberedArrival
arrivals_of [] = []
arrivals_of (m ∷ ms) = arrival_of m ∷ arrivals_of ms

-- the numbers, after that of the caller that a frame serves
abbrev pub number_by : Serves → List ℕ → List ℕ
number_by (S.Caller k n) ns = n ∷ ns
number_by _ ns = ns

-- the numbers of the calls that frames serve, the innermost first
abbrev pub numbers_of : List Frame → List ℕ
numbers_of [] = []
numbers_of (f ∷ fs) = number_by f.serves (numbers_of fs)

-- the slot of an object with its request, its error, its goal and its messages
abbrev pub slot_by : CodeObject → Option ℕ → Option Error → ℕ → List Message → Slot Placed
slot_by x request fault goal box = record {
  state = record { object = forget x; fault = fault; served = None };
  request = request;
  callers = numbers_of x.frames;
  goal = goal;
  mailbox = arrivals_of box;
}

abbrev pub head_or : {X : Type 0} → X → List X → X
head_or d [] = d
head_or d (x ∷ xs) = x

abbrev pub tail_of : {X : Type 0} → List X → List X
tail_of [] = []
tail_of (x ∷ xs) = xs

-- the slots of these objects
abbrev pub slots_by : List CodeObject → List (Option ℕ) → List (Option Error) → List ℕ → List (List Message) → List (Slot Placed)
slots_by [] requests faults goals boxes = []
slots_by (x ∷ xs) requests faults goals boxes =
    slot_by x (head_or None requests) (head_or None faults) (head_or 0 goals) (head_or [] boxes)
    ∷ slots_by xs (tail_of requests) (tail_of faults) (tail_of goals) (tail_of boxes)

abbrev pub slots_of : NodeParts → List (Slot Placed)
slots_of p = slots_by p.heap.objects p.outstanding p.faults p.goals p.mailbox.boxes

-- the node as contracts see it
abbrev pub node_of : NodeParts → NodeOf
node_of p = record {
  id = p.id;
  most_objects = p.heap.most_objects;
  most_frames = p.heap.most_frames;
  most_cells = p.mailbox.cells;
  most_vars = p.heap.most_vars;
  state = record { slots = slots_of p; last = p.last; made = p.made };
  ready = take (length p.heap.objects) p.ready;
  long = p.long;
}

-- the slot of this number
abbrev pub slot_at : NodeParts → ℕ → Slot Placed
slot_at p i = slot_by (object_at p.heap i) (get_or p.outstanding i None) (get_or p.faults i None) (get_or p.goals i 0) (box_of p.mailbox i)

-- the parts after the ready bit of a slot was updated
abbrev pub refreshed : Code → NodeParts → ℕ → NodeParts
refreshed u p i = record p { ready = slice_set p.ready i (can_go (coded u) p.id (i, slot_at p i)) }

-- The parts agree: each has room for as many slots as the limit of objects, and has nothing for a slot without object.
pub record NodeInvariant (p : NodeParts) : Type 0 where
  pub node : p.heap.node ≡ p.id
  pub cells : p.mailbox.cells ≡ p.cells
  pub boxes : length p.mailbox.boxes ≡ p.heap.most_objects
  pub requests : length p.outstanding ≡ p.heap.most_objects
  pub faults : length p.faults ≡ p.heap.most_objects
  pub goals : length p.goals ≡ p.heap.most_objects
  pub ready : length p.ready ≡ p.heap.most_objects
  pub objects : length p.heap.objects ≤ p.heap.most_objects
  pub few : p.heap.most_objects ≤ 4096
  -- the limits allow an object and a frame
  pub room : 1 ≤ p.heap.most_objects
  pub frames : 1 ≤ p.heap.most_frames
  pub no_box : (i : ℕ) → length p.heap.objects ≤ i → box_of p.mailbox i ≡ []
  pub no_request : (i : ℕ) → length p.heap.objects ≤ i → get_or p.outstanding i None ≡ None
  pub no_fault : (i : ℕ) → length p.heap.objects ≤ i → get_or p.faults i None ≡ None
  pub no_goal : (i : ℕ) → length p.heap.objects ≤ i → get_or p.goals i 0 ≡ 0
