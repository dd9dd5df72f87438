-- The objects of the transition relation that the stepper's objects represent.
use Rattle.std.specs.Prelude.{ℕ, List, map}
use Rattle.stepper_objects.specs.declared.object_state.ObjectState.{ObjectState}
use Rattle.pool_relation.specs.Action.{Object}
use Rattle.stepper_terms.specs.Parts.{term_of}
use Rattle.object_acts.specs.Acts.{object_with}

-- the object that t represents
abbrev pub thing_object : ObjectState → Object
thing_object t = object_with t.class t.vars.items (term_of t.work) t.fault

-- the objects under their names
abbrev pub things : List (ℕ × ObjectState) → List (ℕ × Object)
things es = map (λ e. (e.0, thing_object e.1)) es
