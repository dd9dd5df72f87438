-- Whether only objects that wait for the object b know its name, as tests of objects and messages.
use Rattle.std.specs.Prelude.{◌≡◌, ℕ, List, Option, Some, None, is_some, is_none, Bool, true, false, ◌&&◌, ◌||◌, ◌==◌, nat_lt}
use Rattle.std.specs.List.{list_all}
use Rattle.run_types.specs.Message.{Message}
use Rattle.pool_syntax.specs.Terms.{ProgramTree}
use Rattle.pool_relation.specs.Action.{Object, action}
use Rattle.pool_relation.specs.Configuration.{Configuration, object_of}
use Rattle.reachability.specs.Search.{is_in_call}
use Rattle.search_laws.specs.Stubborn.{serves, waits_for}
use Rattle.stepper_objects.specs.declared.object_state.ObjectState.{ObjectState}
use Rattle.stepper_objects.specs.ObjectStates.{thing_object}
use Rattle.known_names.specs.OtherNames.{object_is_other, value_is_other}

-- the object b is there and has met no error, and its action is an answer or a select
abbrev pub is_serving : ProgramTree → ℕ → Option Object → Bool
is_serving p b None = false
is_serving p b (Some x) = is_none x.fault && serves (action p b x)

-- the object q is there and has met no error, and its action is a call or the wait of one
abbrev pub is_calling : ProgramTree → ℕ → Option Object → Bool
is_calling p q None = false
is_calling p q (Some x) = is_none x.fault && is_in_call (action p q x)

-- the object q is there and has met an error, has finished, or is at a call of b
abbrev pub awaits : ProgramTree → ℕ → ℕ → Option Object → Bool
awaits p b q None = false
awaits p b q (Some x) = is_some x.fault || waits_for b (action p q x)

-- the object q in the state t of the stepper is b, awaits b, or has a name below n and knows only other names
abbrev pub is_state_fit : ProgramTree → ℕ → ℕ → ℕ → ObjectState → Bool
is_state_fit p n b q t = q == b || awaits p b q (Some (thing_object t)) || (nat_lt q n && object_is_other n b t)

-- so is it in the state x of the transition relation
abbrev pub IsFit : ProgramTree → ℕ → ℕ → ℕ → Object → Type 0
IsFit p n b q x = (t : ObjectState) × (thing_object t ≡ x) × (is_state_fit p n b q t ≡ true)

-- the message has only other names
abbrev pub is_message_other : ℕ → ℕ → Message → Bool
is_message_other n b m = list_all (value_is_other n b) m.args

-- the receiver r of these messages is b or awaits b, or they have only other names
abbrev pub is_queue_fit : ProgramTree → ℕ → ℕ → Configuration → ℕ → List Message → Bool
is_queue_fit p n b c r ms = r == b || awaits p b r (object_of c r) || list_all (is_message_other n b) ms
