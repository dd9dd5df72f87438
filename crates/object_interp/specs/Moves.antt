-- The object after an instruction, before the silent instructions after it are run.
use Rattle.std.specs.Prelude.{◌≡◌, ℕ, suc, Bool, true, false, nat_lt, ◌<◌, ◌≤◌, ◌^◌, List, [], ◌∷◌, length, Option, Some, None, if◌then◌else◌, slice_set}
use Rattle.run_types.specs.declared.types.Value.{Value}
use Rattle.run_types.specs.declared.types.Value.TheVariants as V
use Rattle.run_types.specs.declared.types.Serves.TheVariants as S
use Rattle.run_types.specs.Values.{is_true}
use Rattle.code_semantics.specs.declared.unit.Instr.{Instr}
use Rattle.code_semantics.specs.declared.unit.Instr.TheVariants as I
use Rattle.code_semantics.specs.declared.unit.ClassCode.{ClassCode}
use Rattle.run_types.specs.declared.frames.Frame.{Frame}
use Rattle.run_types.specs.declared.frames.CodeObject.{CodeObject}
use Rattle.run_types.specs.Operands.{top, below, taken, dropped, nth}
use Rattle.code_semantics.specs.Frames.{next}
use Rattle.code_semantics.specs.Kinds.{operated, arity}
use Rattle.code_semantics.specs.Step.{Numbered, method_named, begun, outcome_value, is_own}
use Rattle.node_heap.specs.Heaps.{HeapOf, put_top, frames_used, top_in}
use Rattle.object_interp.specs.Tops.{over}

-- a frame after a branch
abbrev pub branched : Frame → ℕ → Frame
branched f a = record f { at = if is_true (top f.operands) then suc f.at else a; operands = below f.operands }

-- a frame at the next place, with this value instead of its last n operands
abbrev pub replaced : Frame → ℕ → Value → Frame
replaced f n v = next f (v ∷ dropped n f.operands)

-- the object after a call of its own method
abbrev pub entered : CodeObject → Frame → List Frame → Option Numbered → CodeObject
entered x f fs None = x
entered x f fs (Some m) =
    over x (begun m (taken m.code.params f.operands []) S.Own) (next f (dropped m.code.params f.operands) ∷ fs)

-- the frame g below a method f that has ended
abbrev pub handed_on : Frame → Frame → Frame
handed_on f g = if is_own f.serves then record g { operands = top f.operands ∷ g.operands } else g

-- the object after its method f has ended
abbrev pub ended : CodeObject → Frame → List Frame → CodeObject
ended x f [] = x
ended x f (g ∷ gs) = over x (handed_on f g) gs

-- the object after the local transition of an instruction
abbrev pub moved : Option ClassCode → ℕ → CodeObject → Frame → List Frame → Instr → CodeObject
moved k o x f fs (I.LoadI n) = over x (next f (nth x.vars n ∷ f.operands)) fs
moved k o x f fs (I.LoadT n) = over x (next f (nth f.temps n ∷ f.operands)) fs
moved k o x f fs I.SelfRef = over x (next f (V.Ref o ∷ f.operands)) fs
moved k o x f fs (I.StoreI n) = over (record x { vars = slice_set x.vars n (top f.operands) }) (next f (below f.operands)) fs
moved k o x f fs (I.StoreT n) = over x (next (record f { temps = slice_set f.temps n (top f.operands) }) (below f.operands)) fs
moved k o x f fs (I.Oper op) = over x (replaced f (arity op) (outcome_value (operated op f.operands))) fs
moved k o x f fs I.Pop = over x (next f (below f.operands)) fs
moved k o x f fs (I.Branch a) = over x (branched f a) fs
moved k o x f fs I.Loop = over x (next f f.operands) fs
moved k o x f fs (I.Call m) = entered x f fs (method_named k m)
moved k o x f fs I.Ret = ended x f fs
moved k o x f fs _ = x

-- the local transition stays in its frame, so the code is the same
abbrev pub stays_in_frame : Instr → Bool
stays_in_frame (I.Call m) = false
stays_in_frame I.Ret = false
stays_in_frame _ = true

-- the object after the request of its instruction was done
abbrev pub gone : CodeObject → Frame → List Frame → Instr → CodeObject
gone x f fs I.Write = over x (next f (below f.operands)) fs
gone x f fs (I.WriteText s) = over x (next f f.operands) fs
gone x f fs (I.Async m n) = over x (next f (dropped (suc n) f.operands)) fs
gone x f [] I.Ret = x
gone x f (g ∷ gs) I.Ret = over x g gs
gone x f fs I.Post = over x (next (record f { serves = S.Sender }) f.operands) fs
gone x f fs _ = x

-- whether the instruction is not a call, or a frame is free
abbrev pub call_fits : HeapOf → Instr → Bool
call_fits h (I.Call m) = nat_lt (frames_used h) h.most_frames
call_fits h _ = true

-- whether a silent instruction was run, and the heap after it
abbrev pub RunsTo : HeapOf → ℕ → Option Frame → Bool → HeapOf → Type 0
RunsTo h slot None ran new = (ran ≡ false) × (new ≡ h)
RunsTo h slot (Some g) ran new = (ran ≡ true) × (new ≡ put_top h slot g)

-- the premises of continuing: the operands, the next place, and a frame below one that has ended
abbrev pub Passes : CodeObject → Instr → Type 0
Passes x I.Write = (suc (top_in x.frames).at < 2 ^ 32) × (0 < length (top_in x.frames).operands)
Passes x (I.WriteText s) = suc (top_in x.frames).at < 2 ^ 32
Passes x (I.Async m n) = (suc (top_in x.frames).at < 2 ^ 32) × (suc n ≤ length (top_in x.frames).operands) × (n ≤ 8)
Passes x I.Ret = 1 < length x.frames
Passes x I.Post = suc (top_in x.frames).at < 2 ^ 32
Passes x _ = Unit {0}
