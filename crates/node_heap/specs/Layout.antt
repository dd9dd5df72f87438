-- The objects of code that the slots, the queues of frames and the array of variables of a heap represent.
use Rattle.std.specs.Prelude.{◌≡◌, ℕ, ◌*◌, ◌<◌, ◌≤◌, List, [], ◌∷◌, length, map, take, drop, replicate}
use Rattle.run_types.specs.declared.types.Value.{Value}
use Rattle.run_types.specs.declared.types.Value.TheVariants.{Nil}
use Rattle.run_types.specs.declared.frames.Frame.{Frame}
use Rattle.run_types.specs.declared.frames.CodeObject.{CodeObject}
use Rattle.node_heap.specs.declared.cells.FrameCell.{FrameCell}
use Rattle.node_heap.specs.declared.cells.Slot.{Slot}

abbrev pub frame_of : FrameCell → Frame
frame_of c = record { method = c.method; at = c.at; temps = c.temps; operands = c.operands; serves = c.serves }

-- the object of a slot with these frames; its variables are the first of these values
abbrev pub object_of : Slot → List FrameCell → List Value → CodeObject
object_of s cs vs = record { class = s.class; vars = take s.vars vs; frames = map frame_of cs }

-- the objects of these slots, if each slot has w values
abbrev pub objects_of : ℕ → List Slot → List (List FrameCell) → List Value → List CodeObject
objects_of w [] queues vs = []
objects_of w (s ∷ ss) [] vs = []
objects_of w (s ∷ ss) (cs ∷ queues) vs = object_of s cs vs ∷ objects_of w ss queues (drop w vs)

-- Each slot has a frame and at most w variables. After the last slot the queues are empty, and the values are nil.
abbrev pub IsLaid : ℕ → List Slot → List (List FrameCell) → List Value → Type 0
IsLaid w [] queues vs = (queues ≡ replicate (length queues) []) × (vs ≡ replicate (length queues * w) Nil)
IsLaid w (s ∷ ss) [] vs = ⊥
IsLaid w (s ∷ ss) (cs ∷ queues) vs = (s.vars ≤ w) × (0 < length cs) × (w ≤ length vs) × IsLaid w ss queues (drop w vs)
