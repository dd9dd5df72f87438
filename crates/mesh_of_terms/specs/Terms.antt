-- Terms as a language of objects: their actions are those of the transition relation.
use Rattle.std.specs.Prelude.{ℕ, suc, true, List, [], ◌∷◌, ◌++◌, length, Option, Some, None, slice_get}
use Rattle.pool_syntax.specs.declared.tree.Named.{Named}
use Rattle.pool_syntax.specs.Terms as T
use Rattle.pool_syntax.specs.Terms.{Statements, MethodTree, ClassTree, ProgramTree}
use Rattle.pool_syntax.specs.Classes.{class_of}
use Rattle.pool_relation.specs.Reducible.{Choice, AsExpression, AsStatements}
use Rattle.pool_relation.specs.Action as A
use Rattle.run_types.specs.Values.{is_true}
use Rattle.pool_relation.specs.Action.{Object, Action, action, method_of}
use Rattle.pool_relation.specs.UnderWay.{Activity, Own, Serving, in_statements, frames_of}
use Rattle.pool_relation.specs.Configuration.{Configuration}
use Rattle.pool_relation.specs.Transition as X
use Rattle.run_types.specs.Partial.{◌>>=◌}
use Rattle.pool_relation.specs.Transition.{refilled, new_object}
use Rattle.mesh_semantics.specs.Kind as K
use Rattle.mesh_semantics.specs.Kind.{Kind, Alternative}
use Rattle.mesh_semantics.specs.Language.{Language}
use Rattle.mesh_semantics.specs.Config.{Config}

abbrev pub numbers : List Named → List ℕ
numbers [] = []
numbers (n ∷ ns) = n.name.0 ∷ numbers ns

abbrev pub names_of : Option (List Named) → Option (List ℕ)
names_of None = None
names_of (Some ns) = Some (numbers ns)

abbrev pub alternatives_of : List Choice → List Alternative
alternatives_of [] = []
alternatives_of (c ∷ cs) = record { is_open = is_true c.guard; names = names_of c.answer } ∷ alternatives_of cs

abbrev pub kind_of : Action → Kind
kind_of A.Finished = K.Finished
kind_of (A.Local term vars) = K.Local
kind_of (A.Fault e) = K.Fault e
kind_of (A.New c) = K.New c
kind_of (A.Send b m args) = K.Send b m args
kind_of (A.Async b m args) = K.Async b m args
kind_of (A.Write item) = K.Write item
kind_of (A.Answer names) = K.Select (record { is_open = true; names = Some (numbers names) } ∷ [])
kind_of (A.Select cs) = K.Select (alternatives_of cs)
kind_of (A.Return k v) = K.Return k v
kind_of (A.Waits b m) = K.Waits b m
kind_of A.Stuck = K.Stuck

-- the object after its local transition
abbrev pub after_local : Object → Action → Object
after_local x (A.Local term vars) = record x { term = term; vars = vars }
after_local x _ = x

abbrev pub work_at : Option Choice → Statements
work_at None = T.Done
work_at (Some c) = c.work

-- the work of the alternative with this number, from 1
abbrev pub work_of : Action → ℕ → Statements
work_of (A.Select cs) (suc i) = work_at (slice_get cs i)
work_of _ i = T.Done

abbrev pub class_names : ProgramTree → List ℕ
class_names [] = []
class_names (k ∷ ks) = k.name.name.0 ∷ class_names ks

-- the callers that these methods under way serve, the innermost first
abbrev pub callers_in : List Activity → List ℕ
callers_in [] = []
callers_in (Own m ∷ rest) = callers_in rest
callers_in (Serving m None ∷ rest) = callers_in rest
callers_in (Serving m (Some k) ∷ rest) = callers_in rest ++ k ∷ []

abbrev pub terms : ProgramTree → Language Object
terms p = record {
  classes = class_names p;
  root = X.last_class p >>= λ k. Some (new_object k);
  made = λ k. class_of p k >>= λ class. Some (new_object class);
  class = λ x. x.class;
  fault = λ x. x.fault;
  frames = λ x. frames_of x.term;
  callers = λ x. callers_in (in_statements x.term);
  kind = λ o x. kind_of (action p o x);
  stepped = λ o x. after_local x (action p o x);
  given = X.given;
  waiting = λ x b m. refilled x (AsExpression (T.Wait b m));
  done = X.done;
  returned = X.returned;
  picked = λ o x i. refilled x (AsStatements (work_of (action p o x) i));
  serving = λ o x i m caller args. method_of p x.class m (length args) >>= λ method. Some (X.serving x method caller args (work_of (action p o x) i));
  faulted = λ x e. record x { fault = Some e };
}

-- a configuration of terms as one of the relation
abbrev pub plain : Config Object → Configuration
plain c = record { objects = c.objects; messages = c.messages }
