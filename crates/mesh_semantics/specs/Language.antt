-- A language of objects: for each state of an object its next action, and the state after each step.
use Rattle.std.specs.Prelude.{ℕ, List, Option}
use Rattle.run_types.specs.declared.types.Value.{Value}
use Rattle.run_types.specs.declared.types.Error.{Error}
use Rattle.mesh_semantics.specs.Kind.{Kind}

pub record Language (S : Type 0) : Type 0 where
  -- the classes in the order of the text
  pub classes : List ℕ
  -- a new object of the last class, if there is a class
  pub root : Option S
  -- a new object of this class, if the class exists
  pub made : ℕ → Option S
  -- the class of an object
  pub class : S → ℕ
  -- the run-time error that the object has met, if any
  pub fault : S → Option Error
  -- the number of methods under way in the object
  pub frames : S → ℕ
  -- the callers that the object serves, the innermost first
  pub callers : S → List ℕ
  -- the next action of the object with this name
  pub kind : ℕ → S → Kind
  -- the object with this name after a local transition
  pub stepped : ℕ → S → S
  -- the object after it got the name of its new object, or the value of its call
  pub given : S → Value → S
  -- the object while the receiver serves its call of the method
  pub waiting : S → (receiver method : ℕ) → S
  -- the object after a send or a write
  pub done : S → S
  -- the object after it returned the value of a served method
  pub returned : S → S
  -- the object after it has chosen the alternative with this number, from 1
  pub picked : ℕ → S → (alternative : ℕ) → S
  -- the object when it begins to serve the method for the caller, or for no one; None if its class does not have the
  -- method
  pub serving : ℕ → S → (alternative method : ℕ) → (caller : Option ℕ) → List Value → Option S
  -- the object after it met the error
  pub faulted : S → Error → S
