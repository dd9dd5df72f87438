-- An object of code with another innermost frame.
use Rattle.run_types.specs.declared.frames.Frame.{Frame}
use Rattle.run_types.specs.declared.frames.CodeObject.{CodeObject}
use Rattle.node_heap.specs.Heaps.{under_top}
use Rattle.object_interp.specs.Tops.{over}

-- the object with this frame in place of the innermost
abbrev pub with_top : CodeObject → Frame → CodeObject
with_top x f = over x f (under_top x.frames)
