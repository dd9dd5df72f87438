-- The heap of a node as contracts see it: its limits, and an object of code for each slot.
use Rattle.std.specs.Prelude.{ℕ, ◌+◌, List, [], ◌∷◌, length, get_or, slice_set, None, refl}
use Rattle.std.specs.Coded.{Coded, code_by, coded×, coded_list, coded_ℕ}
use Rattle.run_types.specs.declared.types.Value.{Value}
use Rattle.run_types.specs.declared.types.Serves.TheVariants as S
use Rattle.run_types.specs.declared.frames.Frame.{Frame}
use Rattle.run_types.specs.declared.frames.CodeObject.{CodeObject}
use Rattle.run_types.specs.Operands.{padded}
use Rattle.node_heap.specs.declared.types.FrameHead.{FrameHead}

pub record HeapOf : Type 0 where
  -- the number of the node
  pub node : ℕ
  -- the largest numbers of objects, of frames of all objects together, and of variables of an object
  pub most_objects : ℕ
  pub most_frames : ℕ
  pub most_vars : ℕ
  pub objects : List CodeObject

-- how the logic encodes it
abbrev pub heap_code : Coded CodeObject → Coded HeapOf
heap_code c =
    code_by (ℕ × (ℕ × (ℕ × (ℕ × List CodeObject)))) (coded× coded_ℕ (coded× coded_ℕ (coded× coded_ℕ (coded× coded_ℕ (coded_list c)))))
    (λ h. (h.node, (h.most_objects, (h.most_frames, (h.most_vars, h.objects)))))
    (λ t. record { node = t.0; most_objects = t.1.0; most_frames = t.1.1.0; most_vars = t.1.1.1.0; objects = t.1.1.1.1 }) (λ _. refl)

-- an object without class, variables and frames, the default for a missing slot
abbrev pub no_object : CodeObject
no_object = record { class = 0; vars = []; frames = [] }

-- the object of a slot
abbrev pub object_at : HeapOf → ℕ → CodeObject
object_at h slot = get_or h.objects slot no_object

-- the heap with this object in a slot
abbrev pub put_object : HeapOf → ℕ → CodeObject → HeapOf
put_object h slot x = record h { objects = slice_set h.objects slot x }

-- the number of frames of all objects together
abbrev pub frames_of : List CodeObject → ℕ
frames_of [] = 0
frames_of (x ∷ xs) = length x.frames + frames_of xs

abbrev pub frames_used : HeapOf → ℕ
frames_used h = frames_of h.objects

-- n times nil
abbrev pub nils : ℕ → List Value
nils n = padded n []

-- the frame of a body at its start
abbrev pub body_frame : Frame
body_frame = record { method = None; at = 0; temps = []; operands = []; serves = S.Sender }

-- a new object: its variables are nil, and its body is at its start
abbrev pub unbegun : ℕ → ℕ → CodeObject
unbegun class vars = record { class = class; vars = nils vars; frames = body_frame ∷ [] }

-- the frame at its start that has this head, with nil temps
abbrev pub frame_by : FrameHead → Frame
frame_by h = record { method = h.method; at = 0; temps = nils h.temps; operands = []; serves = h.serves }

abbrev pub head_by : Frame → FrameHead
head_by f = record { method = f.method; temps = length f.temps; serves = f.serves }

-- the innermost frame
abbrev pub top_in : List Frame → Frame
top_in [] = body_frame
top_in (f ∷ fs) = f

abbrev pub under_top : List Frame → List Frame
under_top [] = []
under_top (f ∷ fs) = fs

-- the innermost frame of a slot
abbrev pub top_at : HeapOf → ℕ → Frame
top_at h slot = top_in (object_at h slot).frames

-- the heap with this innermost frame in a slot
abbrev pub put_top : HeapOf → ℕ → Frame → HeapOf
put_top h slot f = put_object h slot (record (object_at h slot) { frames = f ∷ under_top (object_at h slot).frames })
