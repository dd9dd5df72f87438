-- What one object does in a transition: a move of it, if its next action is for it.
use Rattle.std.specs.Prelude.{ℕ, zero, suc, List, [], Option, Some, None, Bool, true, false}
use Rattle.run_types.specs.declared.types.NameId.{NameId}
use Rattle.run_types.specs.declared.types.Value.{Value}
use Rattle.run_types.specs.declared.types.Value.TheVariants as V
use Rattle.run_types.specs.Partial.{◌>>=◌, ◌>>◌, require}
use Rattle.pool_syntax.specs.Classes.{class_of}
use Rattle.pool_syntax.specs.Terms.{ProgramTree}
use Rattle.pool_relation.specs.Action.{Object, action}
use Rattle.pool_relation.specs.Transition.{without_fault, makes, calls, posts, returns, waits_on, writes, fails, new_object}
use Rattle.search_laws.specs.Moves.{moved}
use Rattle.search_laws.specs.Moves as M
use Rattle.object_moves.specs.declared.known.Duo.{Duo}
use Rattle.object_moves.specs.declared.known.Parcel.{Parcel}
use Rattle.object_moves.specs.declared.known.Solo.{Solo}
use Rattle.object_moves.specs.declared.known.Solo.TheVariants as S
use Rattle.object_moves.specs.declared.parts.Role.{Role}
use Rattle.object_moves.specs.declared.parts.Role.TheVariants as R
use Rattle.object_moves.specs.declared.parts.Part.{Part}

module _ (p : ProgramTree) (o : ℕ) where
  -- the object x of the name o after it has done this, with these arguments of a message
  abbrev pub acts : Role → List Value → Object → Option Object
  acts R.Goes args x = moved p o x M.Goes
  acts (R.Writes item) args x = require (writes (action p o x) item) >> moved p o x M.Passes
  acts (R.Picks i) args x = moved p o x (M.Picks i)
  acts (R.Fails e) args x = require (fails (action p o x) e) >> moved p o x (M.Fails e)
  acts (R.Sends b m) args x = require (posts (action p o x) b m.0 args) >> moved p o x M.Passes
  acts (R.Calls b m) args x = require (calls (action p o x) b m.0 args) >> moved p o x (M.Awaits b m.0)
  acts (R.Serves m k) args x = moved p o x (M.Serves m.0 k args)
  acts (R.Returns k v) args x = require (returns (action p o x) k v) >> moved p o x M.Returns
  acts (R.Gets b v) args x = require (waits_on (action p o x) b) >> moved p o x (M.Gets v)
  acts (R.Makes k n) args x = require (makes (action p o x) k.0) >> moved p o x (M.Gets (V.Ref n))

  -- the same, if it has met no error
  abbrev pub does : Role → List Value → Object → Option Object
  does r args x = without_fault x x.fault >>= acts r args

  -- the object after its part in a transition
  abbrev pub after : Part → Object → Option Object
  after a x = does a.role a.args x

  -- the object after this number of local transitions
  abbrev pub after_local : ℕ → Object → Option Object
  after_local zero x = Some x
  after_local (suc k) x = after_local k x >>= does R.Goes []

-- a new object of this class
abbrev pub newborn : ProgramTree → NameId → Option Object
newborn p k = class_of p k.0 >>= λ class. Some (new_object class)

-- the role of an object in a transition that it makes alone
abbrev pub solo_role : Solo → Role
solo_role (S.Write item) = R.Writes item
solo_role (S.Pick i) = R.Picks i
solo_role (S.Fault e) = R.Fails e

-- the role of an object that takes the message, or sends it
abbrev pub mail_role : Parcel → Bool → Role
mail_role a true = R.Serves a.method None
mail_role a false = R.Sends a.other a.method

-- the role of the caller in an answer of the receiver b, or in the return of this value
abbrev pub asking_role : ℕ → Duo → Option Value → Role
asking_role b a None = R.Calls b a.method
asking_role b a (Some v) = R.Gets b v

-- the role of the receiver in an answer to the caller o, or in the return of this value
abbrev pub serving_role : ℕ → Duo → Option Value → Role
serving_role o a None = R.Serves a.method (Some o)
serving_role o a (Some v) = R.Returns o v
