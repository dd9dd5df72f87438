-- Erases the numbers of requests from an object of code and from its next action: each becomes 0.
use Rattle.std.specs.Prelude.{map}
use Rattle.run_types.specs.declared.types.Serves.{Serves}
use Rattle.run_types.specs.declared.types.Serves.TheVariants as S
use Rattle.run_types.specs.declared.frames.Frame.{Frame}
use Rattle.run_types.specs.declared.frames.CodeObject.{CodeObject}
use Rattle.code_semantics.specs.Kinds as K
use Rattle.code_semantics.specs.Kinds.{Kind}

-- the caller that a method serves, without the number of its request
abbrev pub forget_serves : Serves → Serves
forget_serves (S.Caller k n) = S.Caller k 0
forget_serves S.Own = S.Own
forget_serves S.Sender = S.Sender

-- the frame without the number of a request
abbrev pub forget_frame : Frame → Frame
forget_frame f = record f { serves = forget_serves f.serves }

-- the object without the numbers of requests
abbrev pub forget : CodeObject → CodeObject
forget x = record x { frames = map forget_frame x.frames }

-- the next action without the number of a request
abbrev pub forget_kind : Kind → Kind
forget_kind (K.Return k n v) = K.Return k 0 v
forget_kind k = k
