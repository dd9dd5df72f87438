-- The configuration that a state of the stepper represents, and steps of such states.
use Rattle.std.specs.Prelude.{◌≡◌, ℕ, map, Option, Some, None, Bool, true, false}
use Rattle.std.specs.Ordering.{nat_cmp}
use Rattle.std.specs.BTreeMap.{BTreeMap, get}
use Rattle.pool_syntax.specs.Terms.{ProgramTree}
use Rattle.stepper_objects.specs.declared.object_state.ObjectState.{ObjectState}
use Rattle.object_acts.specs.declared.act.Act.{Act}
use Rattle.pool_semantics.specs.declared.plain.state.State.{State}
use Rattle.pool_relation.specs.Action.{action}
use Rattle.pool_relation.specs.Configuration.{Configuration}
use Rattle.object_acts.specs.Acts.{acted, Suits}
use Rattle.stepper_terms.specs.Arguments.{now_args, now_names, now_choices}
use Rattle.message_queue.specs.Mails.{message_of}
use Rattle.stepper_objects.specs.ObjectStates.{thing_object, things}

-- the configuration that s represents
abbrev pub configuration : State → Configuration
configuration s = record { objects = things s.objects.entries; messages = map (λ e. (e.0, map message_of e.1)) s.messages.entries }

-- the object of the name o is t, which has met no error and has this next action
pub record Doing (p : ProgramTree) (m : BTreeMap ℕ ObjectState) (o : ℕ) (t : ObjectState) (a : Act) : Type 0 where
  pub found : get nat_cmp m o ≡ Some t
  pub sound : t.fault ≡ None
  pub gives : action p o (thing_object t) ≡ acted (thing_object t) (now_args t.work.next) (now_names t.work.next) (now_choices t.work.next) a
  pub suits : Suits t.work.calls.items t.work.next a

-- the transition was made and leads from s to t; or it is not possible, and t is s
abbrev pub Stepped : Bool → Option Configuration → State → State → Type 0
Stepped true o s t = (o ≡ Some (configuration t)) × (t.program ≡ s.program)
Stepped false o s t = (o ≡ None) × (t ≡ s)
