-- Objects of a unit that are at a step instruction, and groups of next actions.
use Rattle.std.specs.Prelude.{◌≡◌, List, [], ◌∷◌, Option, None, slice_get, ◌⊎◌}
use Rattle.run_types.specs.declared.types.NameId.{NameId}
use Rattle.run_types.specs.declared.types.Value.{Value}
use Rattle.code_semantics.specs.declared.unit.ClassCode.{ClassCode}
use Rattle.code_semantics.specs.declared.unit.Unit.{Unit as Code}
use Rattle.run_types.specs.declared.frames.Frame.{Frame}
use Rattle.run_types.specs.declared.frames.CodeObject.{CodeObject}
use Rattle.code_semantics.specs.Frames.{code_of, silent}
use Rattle.code_semantics.specs.Kinds as K
use Rattle.code_semantics.specs.Kinds.{Kind}
use Rattle.code_semantics.specs.OfUnit.{IsObjectOf}

-- the property of every value
abbrev pub AnyValue : Value → Type 0
AnyValue v = Unit {0}

abbrev pub FitsUnit : Code → CodeObject → Type 0
FitsUnit u x = IsObjectOf u AnyValue x

-- the first frame is at a step instruction
abbrev pub IsAtStepOf : Option ClassCode → List Frame → Type 0
IsAtStepOf k [] = ⊥
IsAtStepOf k (f ∷ fs) = silent f (slice_get (code_of k f.method) f.at) ≡ None

-- the object is at a step instruction
abbrev pub IsAtStep : Code → CodeObject → Type 0
IsAtStep u x = IsAtStepOf (slice_get u.classes x.class) x.frames

-- the object is to be given a value: the name of a new object, or the value of a call
abbrev pub IsAsking : Kind → Type 0
IsAsking (K.New c) = Unit {0}
IsAsking (K.Send b m args) = Unit {0}
IsAsking _ = ⊥

-- a message or an alternative is chosen
abbrev pub IsChoosing : Kind → Type 0
IsChoosing (K.Answer names) = Unit {0}
IsChoosing (K.Select alts) = Unit {0}
IsChoosing _ = ⊥

-- a message is sent, an item is written, or a value is returned to a caller
abbrev pub IsGoingOn : Kind → Type 0
IsGoingOn (K.Async b m args) = Unit {0}
IsGoingOn (K.Write item) = Unit {0}
IsGoingOn (K.Return k n v) = Unit {0}
IsGoingOn _ = ⊥

-- the name is one of these
abbrev pub IsNamed : NameId → List NameId → Type 0
IsNamed m [] = ⊥
IsNamed m (n ∷ ns) = (n.0 ≡ m.0) ⊎ IsNamed m ns
