-- The changes of the stepper by which an object takes its part in a transition.
use Rattle.std.specs.Prelude.{◌≡◌, ℕ, ◌==◌, List, Option, Some, None, Bool, true, false}
use Rattle.run_types.specs.declared.types.Value.{Value}
use Rattle.run_types.specs.declared.types.Item.{Item}
use Rattle.run_types.specs.declared.types.Error.{Error}
use Rattle.run_types.specs.Same.{is_same_item, error_number}
use Rattle.pool_syntax.specs.Terms.{ProgramTree}
use Rattle.pool_relation.specs.Action.{Object, action}
use Rattle.object_acts.specs.Acts.{acted, changed, Fits, Suits}
use Rattle.object_acts.specs.declared.act.Act.{Act}
use Rattle.object_acts.specs.declared.act.Act.TheVariants as C
use Rattle.object_acts.specs.declared.change.Change.{Change}
use Rattle.stepper_objects.specs.ObjectStates.{thing_object}
use Rattle.stepper_objects.specs.declared.object_state.ObjectState.{ObjectState}
use Rattle.stepper_terms.specs.Arguments.{now_args, now_names, now_choices}
use Rattle.object_moves.specs.Roles.{acts}
use Rattle.object_moves.specs.declared.parts.Role.{Role}

-- the next action of the object t of the name o
pub record IsActOf (p : ProgramTree) (o : ℕ) (t : ObjectState) (a : Act) : Type 0 where
  pub gives : action p o (thing_object t) ≡ acted (thing_object t) (now_args t.work.next) (now_names t.work.next) (now_choices t.work.next) a
  pub suits : Suits t.work.calls.items t.work.next a

-- the act writes this item
abbrev pub writes_act : Act → Item → Bool
writes_act (C.Write i) j = is_same_item i j
writes_act _ j = false

-- the act is this error
abbrev pub fails_act : Act → Error → Bool
fails_act (C.Fault e) f = error_number e == error_number f
fails_act _ f = false

-- the act makes an object of this class
abbrev pub makes_act : Act → ℕ → Bool
makes_act (C.New k) c = k.0 == c
makes_act _ c = false

-- the object t, if it has met no error, does this by the change; or there is no change, and it does not do it
abbrev pub IsChangeOf : ProgramTree → ℕ → Role → List Value → ObjectState → Option Change → Type 0
IsChangeOf p o r args t None = acts p o r args (thing_object t) ≡ None
IsChangeOf p o r args t (Some h) = Fits t.work.calls.items t.work.next h × (acts p o r args (thing_object t) ≡ Some (changed (thing_object t) (now_args t.work.next) h))

-- the object x became y, as this says; or it says nothing, and y is x
abbrev pub IsMade : Bool → Option Object → Object → Object → Type 0
IsMade true r x y = r ≡ Some y
IsMade false r x y = (r ≡ None) × (y ≡ x)
