-- Objects of code as stacks of frames, and the silent instructions that a frame executes before it is at a step instruction.
use Rattle.std.specs.Prelude.{ℕ, zero, suc, List, [], ◌∷◌, length, Option, Some, None, slice_get}
use Rattle.run_types.specs.declared.types.Value.{Value}
use Rattle.run_types.specs.declared.types.Value.TheVariants as V
use Rattle.run_types.specs.declared.types.Serves.{Serves}
use Rattle.run_types.specs.declared.types.Serves.TheVariants as S
use Rattle.code_semantics.specs.declared.unit.Instr.{Instr}
use Rattle.code_semantics.specs.declared.unit.Instr.TheVariants as I
pub use Rattle.run_types.specs.declared.frames.Frame.{Frame}
pub use Rattle.run_types.specs.declared.frames.CodeObject.{CodeObject}
use Rattle.code_semantics.specs.declared.unit.MethodCode.{MethodCode}
use Rattle.code_semantics.specs.declared.unit.ClassCode.{ClassCode}

-- the code of a method
abbrev pub method_code : Option MethodCode → List Instr
method_code None = []
method_code (Some m) = m.code

-- the code of a frame of this class
abbrev pub code_of : Option ClassCode → Option ℕ → List Instr
code_of None m = []
code_of (Some k) None = k.body.code
code_of (Some k) (Some m) = method_code (slice_get k.methods m)

-- a frame at the next place, with these operands
abbrev pub next : Frame → List Value → Frame
next f vs = record f { at = suc f.at; operands = vs }

-- `Post` is silent in a frame that serves no caller
abbrev pub post_passed : Frame → Serves → Option Frame
post_passed f (S.Caller k n) = None
post_passed f _ = Some (next f f.operands)

-- the frame after a silent instruction; none for a step instruction
abbrev pub silent : Frame → Option Instr → Option Frame
silent f (Some (I.PushInt z)) = Some (next f (V.Int z ∷ f.operands))
silent f (Some (I.PushBool b)) = Some (next f (V.Bool b ∷ f.operands))
silent f (Some I.PushNil) = Some (next f (V.Nil ∷ f.operands))
silent f (Some (I.Jump a)) = Some (record f { at = a })
silent f (Some I.Post) = post_passed f f.serves
silent f _ = None

-- continues with the frame that is given, if any
abbrev pub go_on_with : Frame → (Frame → Frame) → Option Frame → Frame
go_on_with f go None = f
go_on_with f go (Some g) = go g

-- the frame after at most n silent instructions
abbrev pub settled_within : List Instr → ℕ → Frame → Frame
settled_within code zero f = f
settled_within code (suc n) f = go_on_with f (settled_within code n) (silent f (slice_get code f.at))

-- the frame after all silent instructions from its place on; in a proper unit a chain of them is never longer than the code
abbrev pub settled : List Instr → Frame → Frame
settled code f = settled_within code (length code) f
