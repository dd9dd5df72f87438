-- The actions and changes of the transition relation that the stepper's acts and changes represent.
use Rattle.std.specs.Prelude.{◌≡◌, ℕ, List, Option, Some, Bool, true, false, ◌==◌, ◌&&◌, IsTrue}
use Rattle.run_types.specs.declared.types.Value.{Value}
use Rattle.run_types.specs.declared.types.Error.{Error}
use Rattle.pool_syntax.specs.declared.tree.Named.{Named}
use Rattle.pool_syntax.specs.TreeOf.{expression_of, statements_of, method_tree}
use Rattle.pool_syntax.specs.Terms as T
use Rattle.pool_syntax.specs.Terms.{Store, Statements, append}
use Rattle.pool_relation.specs.Reducible.{Choice, AsStatements, AsExpression, set_value, fill_statements}
use Rattle.run_types.specs.Values.{is_same}
use Rattle.pool_relation.specs.Action as A
use Rattle.pool_relation.specs.Action.{Object, Action, literal, temps_of}
use Rattle.pool_relation.specs.Transition.{refilled, given, returned, serving}
use Rattle.object_acts.specs.declared.act.Act.{Act}
use Rattle.object_acts.specs.declared.act.Act.TheVariants as C
use Rattle.object_acts.specs.declared.change.Change.{Change}
use Rattle.object_acts.specs.declared.change.Change.TheVariants as H
use Rattle.stepper_terms.specs.declared.contexts.Activation.{Activation}
use Rattle.stepper_terms.specs.Changes.{is_expression, is_statement, is_call, is_end, is_awaited, keeps_temps, next_assigns, end_part}
use Rattle.stepper_terms.specs.declared.contexts.Focus.{Focus}
use Rattle.stepper_terms.specs.Parts.{loop_of}

-- an object with these parts
abbrev pub object_with : ℕ → Store → Statements → Option Error → Object
object_with k vars term fault = record { class = k; vars = vars; term = term; fault = fault }

-- the object after a change; vs are the arguments of the redex
abbrev pub changed : Object → List Value → Change → Object
changed x vs (H.Becomes v) = given x v
changed x vs H.Done = refilled x (AsStatements T.Done)
changed x vs (H.SetTemp n v) = refilled x (AsStatements T.Done)
changed x vs (H.SetVariable n v) = record x { term = fill_statements x.term (AsStatements T.Done); vars = set_value x.vars n v }
changed x vs (H.Branch ss) = refilled x (AsStatements (statements_of ss.now))
changed x vs (H.Repeat e ss) = refilled x (AsStatements (append (statements_of ss.now) (loop_of (expression_of e.now) (statements_of ss.now))))
changed x vs (H.Unfold e ss) =
    refilled x (AsStatements (T.Then (T.If (expression_of e.now) (append (statements_of ss.now) (loop_of (expression_of e.now) (statements_of ss.now))) T.Done) T.Done))
changed x vs (H.Call m) =
    refilled x (AsExpression (T.Frame m.now.name.name.0 (temps_of (method_tree m.now) vs) (statements_of m.now.body) (expression_of m.now.value) (statements_of m.now.post)))
changed x vs (H.Leave v) = given x v
changed x vs H.End = refilled x (AsStatements T.Done)
changed x vs H.Returned = returned x
changed x vs (H.Wait b m) = refilled x (AsExpression (T.Wait b m.0))
changed x vs (H.Serve m k args after) = serving x (method_tree m.now) k args (statements_of after.now)
changed x vs (H.Fault e) = record x { fault = Some e }

-- the action, with the arguments, the names and the guards of the redex
abbrev pub acted : Object → List Value → List Named → List Choice → Act → Action
acted x vs ns cs C.Finished = A.Finished
acted x vs ns cs (C.Local h) = A.Local (changed x vs h).term (changed x vs h).vars
acted x vs ns cs (C.Fault e) = A.Fault e
acted x vs ns cs (C.New c) = A.New c.0
acted x vs ns cs (C.Send b m) = A.Send b m.0 vs
acted x vs ns cs (C.Async b m) = A.Async b m.0 vs
acted x vs ns cs (C.Write i) = A.Write i
acted x vs ns cs C.Answer = A.Answer ns
acted x vs ns cs C.Select = A.Select cs
acted x vs ns cs (C.Return k v) = A.Return k v
acted x vs ns cs (C.Waits b m) = A.Waits b m.0
acted x vs ns cs C.Stuck = A.Stuck

-- the change fits this focus and these methods under way
abbrev pub Fits : List Activation → Focus → Change → Type 0
Fits xs n (H.Becomes v) = IsTrue (is_expression n)
Fits xs n H.Done = IsTrue (is_statement n) × IsTrue (keeps_temps n)
Fits xs n (H.SetTemp x v) = IsTrue (is_statement n) × (next_assigns n ≡ Some (x, v))
Fits xs n (H.SetVariable x v) = IsTrue (is_statement n) × (next_assigns n ≡ Some (x, v))
Fits xs n (H.Branch ss) = IsTrue (is_statement n) × IsTrue (keeps_temps n)
Fits xs n (H.Repeat e ss) = IsTrue (is_statement n) × IsTrue (keeps_temps n)
Fits xs n (H.Unfold e ss) = IsTrue (is_statement n) × IsTrue (keeps_temps n)
Fits xs n (H.Call m) = IsTrue (is_call n)
Fits xs n (H.Leave v) = IsTrue (is_end n) × (end_part xs n ≡ AsExpression (literal v))
Fits xs n H.End = IsTrue (is_end n) × (end_part xs n ≡ AsStatements T.Done)
Fits xs n H.Returned = IsTrue (is_end n) × IsTrue (is_awaited xs)
Fits xs n (H.Wait b m) = IsTrue (is_expression n)
Fits xs n (H.Serve m k args after) = IsTrue (is_statement n) × IsTrue (keeps_temps n)
Fits xs n (H.Fault e) = Unit {0}

-- whether the change is that of a local transition
abbrev pub is_local : Change → Bool
is_local H.Returned = false
is_local (H.Wait b m) = false
is_local (H.Serve m k args after) = false
is_local (H.Fault e) = false
is_local _ = true

-- the act fits this focus and these methods under way
abbrev pub Suits : List Activation → Focus → Act → Type 0
Suits xs n C.Finished = Unit {0}
Suits xs n (C.Local h) = Fits xs n h × IsTrue (is_local h)
Suits xs n (C.Fault e) = Unit {0}
Suits xs n (C.New c) = IsTrue (is_expression n)
Suits xs n (C.Send b m) = IsTrue (is_expression n)
Suits xs n (C.Async b m) = IsTrue (is_statement n) × IsTrue (keeps_temps n)
Suits xs n (C.Write i) = IsTrue (is_statement n) × IsTrue (keeps_temps n)
Suits xs n C.Answer = IsTrue (is_statement n) × IsTrue (keeps_temps n)
Suits xs n C.Select = IsTrue (is_statement n) × IsTrue (keeps_temps n)
Suits xs n (C.Return k v) = IsTrue (is_end n) × IsTrue (is_awaited xs)
Suits xs n (C.Waits b m) = IsTrue (is_expression n)
Suits xs n C.Stuck = Unit {0}

-- the act returns this value to o
abbrev pub returns_act : Act → ℕ → Value → Bool
returns_act (C.Return k v) o w = k == o && is_same v w
returns_act _ o w = false

-- the act waits for r
abbrev pub waits_act : Act → ℕ → Bool
waits_act (C.Waits b k) r = b == r
waits_act _ r = false

-- the act calls this method of r, if k says that the arguments are the same
abbrev pub calls_act : Act → ℕ → ℕ → Bool → Bool
calls_act (C.Send b m) r n k = b == r && m.0 == n && k
calls_act _ r n k = false

-- the act sends r a message for this method, if k says that the arguments are the same
abbrev pub posts_act : Act → ℕ → ℕ → Bool → Bool
posts_act (C.Async b m) r n k = b == r && m.0 == n && k
posts_act _ r n k = false
