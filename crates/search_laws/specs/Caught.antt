-- Caught objects: each calls another caught object, or an object that has finished or met an error.
use Rattle.std.specs.Prelude.{◌≡◌, ◌⊎◌, ℕ, zero, suc, length, Option, Some, None, Bool, true, false, ◌&&◌}
use Rattle.run_types.specs.declared.types.Error.{Error}
use Rattle.pool_syntax.specs.Terms.{ProgramTree}
use Rattle.pool_relation.specs.Action as A
use Rattle.pool_relation.specs.Action.{Object, Action, action}
use Rattle.pool_relation.specs.Configuration.{Configuration, object_of}

-- what an object is at, as far as its callers depend on it
pub data Stance : Type 0 where
  -- it may go on, by itself or by a call or a message; or there is no such object
  Free : Stance
  -- it has finished, or has met an error
  Over : Stance
  -- it is at a call of this receiver, or in one
  Calls : (receiver : ℕ) → Stance

-- the stance of an object with this action that has met no error
abbrev pub stance_of : Action → Stance
stance_of A.Finished = Over
stance_of (A.Send b m args) = Calls b
stance_of (A.Waits b m) = Calls b
stance_of _ = Free

-- the same, if it may have met an error
abbrev pub stance_unless : Option Error → Action → Stance
stance_unless None a = stance_of a
stance_unless (Some e) a = Over

-- the stance of the object o, if it is there
abbrev pub stance_in : ProgramTree → ℕ → Option Object → Stance
stance_in p o None = Free
stance_in p o (Some x) = stance_unless x.fault (action p o x)

-- the stance of the object o in c
abbrev pub stance : ProgramTree → Configuration → ℕ → Stance
stance p c o = stance_in p o (object_of c o)

-- the object o calls one of these, or an object that has finished or met an error
pub record WaitsFor (p : ProgramTree) (c : Configuration) (these : ℕ → Bool) (o : ℕ) : Type 0 where
  pub receiver : ℕ
  pub calls : stance p c o ≡ Calls receiver
  pub held : (these receiver ≡ true) ⊎ (stance p c receiver ≡ Over)

-- the object o is one of some objects that each call one of them, or an object that has finished or met an error
pub record IsCaught (p : ProgramTree) (c : Configuration) (o : ℕ) : Type 0 where
  pub these : ℕ → Bool
  pub one : these o ≡ true
  pub each : (q : ℕ) → these q ≡ true → WaitsFor p c these q

-- one step of the walk along calls: it fails at a free object, ends at one that is over, and goes on to a receiver
abbrev pub goes_by : Stance → (ℕ → Bool) → Bool
goes_by Free rest = false
goes_by Over rest = true
goes_by (Calls b) rest = rest b

-- the first n objects of the walk from o are not free
abbrev pub never_free : (ℕ → Stance) → ℕ → ℕ → Bool
never_free at zero o = true
never_free at (suc n) o = goes_by (at o) (never_free at n)

-- the object calls
abbrev pub is_calling : Stance → Bool
is_calling (Calls b) = true
is_calling _ = false

-- The object o calls, and no object of the walk from it is free. A walk of more steps than there are objects comes back
-- to one of them.
abbrev pub is_caught : ProgramTree → Configuration → ℕ → Bool
is_caught p c o = is_calling (stance p c o) && never_free (stance p c) (suc (length c.objects)) o
