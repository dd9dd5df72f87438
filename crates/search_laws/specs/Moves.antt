-- Moves: what a transition makes of one object. The state and the name of the object determine its state after the
-- move, so that a program can keep it.
use Rattle.std.specs.Prelude.{◌≡◌, ◌==◌, ℕ, List, [], ◌∷◌, ◌++◌, length, Option, Some, None, is_none, is_some, not, true, ◌&&◌}
use Rattle.run_types.specs.declared.types.Value.{Value}
use Rattle.run_types.specs.declared.types.Value.TheVariants as V
use Rattle.run_types.specs.declared.types.Item.{Item}
use Rattle.run_types.specs.declared.types.Error.{Error}
use Rattle.run_types.specs.declared.types.Label.{Label}
use Rattle.run_types.specs.declared.types.Label.TheVariants as L
use Rattle.run_types.specs.Message.{Message}
use Rattle.run_types.specs.Partial.{◌>>=◌, ◌>>◌, require}
use Rattle.run_types.specs.Same.{are_same}
use Rattle.pool_syntax.specs.Terms as T
use Rattle.pool_syntax.specs.Terms.{ProgramTree}
use Rattle.pool_syntax.specs.Classes.{class_of}
use Rattle.pool_relation.specs.Reducible.{AsExpression, AsStatements}
use Rattle.pool_relation.specs.Action.{Object, method_of, action}
use Rattle.pool_relation.specs.Configuration.{Configuration, object_of, put_object, messages_of, put_messages}
use Rattle.pool_relation.specs.Transition.{running, local_step, makes, calls, posts, returns, waits_on, writes, fails, picked, offer, has_message, first_message, without_first, refilled, done, returned, given, serving, new_object}

-- the moves of an object
pub data Move : Type 0 where
  -- it makes a local transition
  Goes : Move
  -- a value takes the place of its redex
  Gets : (value : Value) → Move
  -- its call was answered
  Awaits : (receiver method : ℕ) → Move
  -- it begins to serve a method
  Serves : (method : ℕ) (caller : Option ℕ) (args : List Value) → Move
  -- it gave a value back
  Returns : Move
  -- its statement is done
  Passes : Move
  -- it picks an alternative
  Picks : (number : ℕ) → Move
  -- it meets an error
  Fails : (error : Error) → Move

-- the object o after the move
abbrev pub moved : ProgramTree → ℕ → Object → Move → Option Object
moved p o x Goes = local_step x (action p o x)
moved p o x (Gets v) = Some (given x v)
moved p o x (Awaits b m) = Some (refilled x (AsExpression (T.Wait b m)))
moved p o x (Serves m k args) = do
  v ← offer (action p o x) m
  method ← method_of p x.class m (length args)
  Some (serving x method k args v.work)
moved p o x Returns = Some (returned x)
moved p o x Passes = Some (done x)
moved p o x (Picks i) = do
  work ← picked (action p o x) i
  Some (refilled x (AsStatements work))
moved p o x (Fails e) = Some (record x { fault = Some e })

-- the same as `transition`, with a move for each object that is there
abbrev pub by_moves : ProgramTree → Configuration → Label → Option Configuration
by_moves p c (L.Local o) = do
  x ← running c o
  y ← moved p o x Goes
  Some (put_object c o y)
by_moves p c (L.New o n k) = do
  x ← running c o
  require (makes (action p o x) k.0 && is_none (object_of c n))
  class ← class_of p k.0
  y ← moved p o x (Gets (V.Ref n))
  Some (put_object (put_object c o y) n (new_object class))
by_moves p c (L.Answer b o m args) = do
  x ← running c o
  y ← running c b
  require (calls (action p o x) b m.0 args)
  v ← offer (action p b y) m.0
  require (not (has_message v.names (messages_of c o b)))
  z ← moved p b y (Serves m.0 (Some o) args)
  w ← moved p o x (Awaits b m.0)
  Some (put_object (put_object c o w) b z)
by_moves p c (L.Return b o v) = do
  y ← running c b
  x ← running c o
  require (returns (action p b y) o v && waits_on (action p o x) b)
  z ← moved p b y Returns
  w ← moved p o x (Gets v)
  Some (put_object (put_object c b z) o w)
by_moves p c (L.Send o b m args) = do
  x ← running c o
  require (posts (action p o x) b m.0 args && is_some (object_of c b))
  y ← moved p o x Passes
  Some (put_messages (put_object c o y) o b (messages_of c o b ++ record { method = m.0; args = args } ∷ []))
by_moves p c (L.Take b s m args) = do
  y ← running c b
  v ← offer (action p b y) m.0
  first ← first_message v.names (messages_of c s b)
  require (first.method == m.0 && are_same first.args args)
  z ← moved p b y (Serves m.0 None args)
  Some (put_messages (put_object c b z) s b (without_first v.names (messages_of c s b)))
by_moves p c (L.Write o item) = do
  x ← running c o
  require (writes (action p o x) item)
  y ← moved p o x Passes
  Some (put_object c o y)
by_moves p c (L.Pick o i) = do
  x ← running c o
  y ← moved p o x (Picks i)
  Some (put_object c o y)
by_moves p c (L.Fault o e) = do
  x ← running c o
  require (fails (action p o x) e)
  y ← moved p o x (Fails e)
  Some (put_object c o y)

-- any number of moves of the object o that need no choice, one after another, and none of them a return; with the
-- messages that it sends, each with its receiver
pub data Rests (p : ProgramTree) (o : ℕ) : Object → List (ℕ × Message) → Object → Type 0 where
  Still : {x : Object} → Rests p o x [] x
  ByItself : {x y z : Object} {ms : List (ℕ × Message)} → x.fault ≡ None → moved p o x Goes ≡ Some y → Rests p o y ms z → Rests p o x ms z
  ByWriting : {x y z : Object} {ms : List (ℕ × Message)} (item : Item) → x.fault ≡ None → writes (action p o x) item ≡ true → moved p o x Passes ≡ Some y → Rests p o y ms z → Rests p o x ms z
  BySending : {x y z : Object} {ms : List (ℕ × Message)} (b : ℕ) (m : Message) → x.fault ≡ None → posts (action p o x) b m.method m.args ≡ true → moved p o x Passes ≡ Some y → Rests p o y ms z
      → Rests p o x ((b, m) ∷ ms) z
  ByFailing : {x y : Object} (e : Error) → x.fault ≡ None → fails (action p o x) e ≡ true → moved p o x (Fails e) ≡ Some y → Rests p o x [] y

-- the configuration after o has sent these messages, in their order
abbrev pub posted : Configuration → ℕ → List (ℕ × Message) → Configuration
posted c o [] = c
posted c o (e ∷ es) = posted (put_messages c o e.0 (messages_of c o e.0 ++ e.1 ∷ [])) o es

-- each of these messages has a receiver that is there
abbrev pub HaveReceivers : Configuration → List (ℕ × Message) → Type 0
HaveReceivers c [] = Unit {0}
HaveReceivers c (e ∷ es) = (is_some (object_of c e.0) ≡ true) × HaveReceivers c es
