-- A new object after its silent instructions were run, so that it is at a step instruction.
use Rattle.std.specs.Prelude.{List, [], ◌∷◌, Option, slice_get}
use Rattle.code_semantics.specs.declared.unit.ClassCode.{ClassCode}
use Rattle.code_semantics.specs.declared.unit.Unit.{Unit as Code}
use Rattle.run_types.specs.declared.frames.Frame.{Frame}
use Rattle.run_types.specs.declared.frames.CodeObject.{CodeObject}
use Rattle.code_semantics.specs.Step.{at_rest}

abbrev pub frames_settled : Option ClassCode → CodeObject → List Frame → CodeObject
frames_settled k x [] = x
frames_settled k x (f ∷ fs) = at_rest k x f fs

-- the object after the silent instructions from its current place
abbrev pub settled_at : Code → CodeObject → CodeObject
settled_at u x = frames_settled (slice_get u.classes x.class) x x.frames
