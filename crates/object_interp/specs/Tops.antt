-- The innermost frame of an object, its code, and its current instruction.
use Rattle.std.specs.Prelude.{◌≡◌, List, ◌∷◌, Option, Some, slice_get}
use Rattle.code_semantics.specs.declared.unit.Instr.{Instr}
use Rattle.code_semantics.specs.declared.unit.ClassCode.{ClassCode}
use Rattle.code_semantics.specs.declared.unit.Unit.{Unit as Code}
use Rattle.run_types.specs.declared.frames.Frame.{Frame}
use Rattle.run_types.specs.declared.frames.CodeObject.{CodeObject}
use Rattle.code_semantics.specs.Frames.{code_of}
use Rattle.code_semantics.specs.OfUnit.{IsFrameOf}
use Rattle.code_semantics.specs.StepInstructions.{AnyValue}
use Rattle.node_heap.specs.Heaps.{top_in, under_top}

-- the class of an object
abbrev pub class_in : Code → CodeObject → Option ClassCode
class_in u x = slice_get u.classes x.class

-- the code of its innermost frame
abbrev pub code_in : Code → CodeObject → List Instr
code_in u x = code_of (class_in u x) (top_in x.frames).method

-- the current instruction
abbrev pub instr_in : Code → CodeObject → Option Instr
instr_in u x = slice_get (code_in u x) (top_in x.frames).at

-- the object with this frame over these
abbrev pub over : CodeObject → Frame → List Frame → CodeObject
over x f fs = record x { frames = f ∷ fs }

-- The object has a frame, and the innermost frame is in code of its class.
pub record HasTop (u : Code) (x : CodeObject) : Type 0 where
  pub class : ClassCode
  pub is_class : class_in u x ≡ Some class
  pub some : x.frames ≡ top_in x.frames ∷ under_top x.frames
  pub is_frame : IsFrameOf class AnyValue 0 (top_in x.frames)
