-- The targets of a search over all runs (stuck, unfinished and faulty configurations that are reached), and the order of
-- new names in runs and in lists of configurations.
use Rattle.std.specs.Ordering.{nat_cmp}
use Rattle.run_types.specs.Tables.{pair_cmp, has_some}
use Rattle.std.specs.FinMap.Entries.{is_sorted}
use Rattle.std.specs.Prelude.{◌≡◌, ◌≢◌, ◌⊎◌, ◌==◌, ℕ, suc, List, [], ◌∷◌, Some, None, Bool, true, false, IsTrue, ◌&&◌}
use Rattle.run_types.specs.declared.types.Label.{Label}
use Rattle.run_types.specs.declared.types.Label.TheVariants as L
use Rattle.pool_syntax.specs.Terms.{ProgramTree}
use Rattle.pool_relation.specs.Action as A
use Rattle.pool_relation.specs.Action.{Object, Action, action}
use Rattle.pool_relation.specs.Configuration.{Configuration, object_of, messages_of}
use Rattle.pool_relation.specs.Transition.{transition, run, start}

-- some run leads to d from the start, for some name of the first object
pub record IsReached (p : ProgramTree) (d : Configuration) : Type 0 where
  pub root : ℕ
  pub first : Configuration
  pub labels : List Label
  pub starts : start p root ≡ Some first
  pub leads : run p first labels ≡ Some d

-- no label is possible
abbrev pub IsAtEnd : ProgramTree → Configuration → Type 0
IsAtEnd p c = (l : Label) → transition p c l ≡ None

-- the action is a call, or the wait of a call
abbrev pub is_in_call : Action → Bool
is_in_call (A.Send b m args) = true
is_in_call (A.Waits b m) = true
is_in_call _ = false

-- this object has met no error, and is at a call or in one
pub record WaitsAt (p : ProgramTree) (c : Configuration) (o : ℕ) : Type 0 where
  pub object : Object
  pub there : object_of c o ≡ Some object
  pub sound : object.fault ≡ None
  pub waits : is_in_call (action p o object) ≡ true

-- no label is possible, and an object is at a call or in one
pub record IsStuck (p : ProgramTree) (c : Configuration) : Type 0 where
  pub at_end : IsAtEnd p c
  pub name : ℕ
  pub waits : WaitsAt p c name

-- the action is a call, a wait, an answer or a select
abbrev pub is_left_over : Action → Bool
is_left_over (A.Send b m args) = true
is_left_over (A.Waits b m) = true
is_left_over (A.Answer names) = true
is_left_over (A.Select choices) = true
is_left_over _ = false

-- this object has met no error, and is at a call, a wait, an answer or a select
pub record StaysAt (p : ProgramTree) (c : Configuration) (o : ℕ) : Type 0 where
  pub object : Object
  pub there : object_of c o ≡ Some object
  pub sound : object.fault ≡ None
  pub stays : is_left_over (action p o object) ≡ true

-- there is such an object, or a message that no object took
pub data HasLeftOver (p : ProgramTree) (c : Configuration) : Type 0 where
  AnObject : (o : ℕ) → StaysAt p c o → HasLeftOver p c
  AMessage : (s r : ℕ) → has_some (messages_of c s r) ≡ true → HasLeftOver p c

-- no label is possible, and an object or a message is left over
pub record IsUnfinished (p : ProgramTree) (c : Configuration) : Type 0 where
  pub at_end : IsAtEnd p c
  pub left : HasLeftOver p c

-- an object has met a run-time error
pub record IsFaulty (c : Configuration) : Type 0 where
  pub name : ℕ
  pub object : Object
  pub there : object_of c name ≡ Some object
  pub met : object.fault ≢ None

-- the next name after the label, if it was n before
abbrev pub after : ℕ → Label → ℕ
after n (L.New o m k) = suc n
after n _ = n

-- the label gives a new object the name n, or makes no object
abbrev pub names_next : ℕ → Label → Bool
names_next n (L.New o m k) = m == n
names_next n _ = true

-- new objects get the names n, n + 1 and so on, in the order of the labels
abbrev pub in_order : ℕ → List Label → Bool
in_order n [] = true
in_order n (l ∷ ls) = names_next n l && in_order (after n l) ls

-- the list has this configuration with this next name
abbrev pub IsIn : ℕ → Configuration → List (ℕ × Configuration) → Type 0
IsIn n c [] = ⊥
IsIn n c (e ∷ es) = ((e.0 ≡ n) × (e.1 ≡ c)) ⊎ IsIn n c es

-- The order of such a transition in a run does not matter: it is local, a write, an asynchronous send, an error or a
-- return.
abbrev pub needs_no_choice : Label → Bool
needs_no_choice (L.Local o) = true
needs_no_choice (L.Return b o v) = true
needs_no_choice (L.Send o b m args) = true
needs_no_choice (L.Write o item) = true
needs_no_choice (L.Fault o e) = true
needs_no_choice _ = false

-- the keys of both maps of the configuration rise
abbrev pub IsInOrder : Configuration → Type 0
IsInOrder c = IsTrue (is_sorted nat_cmp c.objects) × IsTrue (is_sorted pair_cmp c.messages)
