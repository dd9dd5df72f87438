-- Typed configurations, which every run of a program without class faults keeps, and the actions that go wrong.
use Rattle.std.specs.Prelude.{◌≡◌, ℕ, ◌+◌, ◌==◌, List, [], ◌∷◌, length, Option, Some, None, is_some, is_none, nat_le, Bool, true, false, not, ◌&&◌, ◌||◌, if◌then◌else◌, All, IsTrue}
use Rattle.std.specs.FinMap.{is_sorted}
use Rattle.std.specs.Ordering.{nat_cmp}
use Rattle.run_types.specs.declared.types.Value.{Value}
use Rattle.run_types.specs.declared.types.Error.{Error}
use Rattle.pool_syntax.specs.declared.tree.Var.{Var}
use Rattle.pool_syntax.specs.Terms.{Store, Expression, Literal, Me, Variable, Create, Prefix, Infix, Call, Send, Frame, Wait, Expressions, NoArgs, Arg, Statement, Assign, Write, WriteText, Do, Async}
use Rattle.pool_syntax.specs.Terms.{If, While, Answer, Select, Serve, Statements, Done, Then, Alternatives, NoAlts, Alt, MethodTree, ProgramTree}
use Rattle.pool_relation.specs.Reducible.{is_value, is_done}
use Rattle.pool_relation.specs.Action as A
use Rattle.pool_syntax.specs.Classes.{class_of}
use Rattle.pool_relation.specs.Action.{Object, Action, action, method_of}
use Rattle.run_types.specs.Tables.{pair_cmp, no_entry_empty}
use Rattle.run_types.specs.Message.{Message}
use Rattle.pool_relation.specs.Configuration.{Configuration, object_of, messages_of}
use Rattle.pool_relation.specs.UnderWay.{serves}
use Rattle.pool_syntax.specs.SourceParts.{is_prefix, is_source, are_source, are_source_statements, are_source_alternatives, is_value_for}
use Rattle.pool_syntax.specs.Typing.{Scope, kind_sort, value_sort, is_dangling, is_open, vars_of_class, statements_faults, own_method, temps_of_method, inside, behind_value}
use Rattle.run_types.specs.Sorts.{is_same_sort}

-- the class of an object
abbrev pub class_at : Option Object → Option ℕ
class_at None = None
class_at (Some x) = Some x.class

-- the scope of the term of an object of class k: no temps, and the objects of c
abbrev pub scope : ProgramTree → Configuration → ℕ → Scope
scope p c k = record { program = p; class = k; own = class_of p k; temps = []; object_class = λ n. class_at (object_of c n); under_way = true; held = 0 }

-- the value fits the variable: it has the variable's kind, or is nil; the name of no object fits nothing
abbrev pub fits : Scope → Value → Var → Bool
fits g v var =
    not (is_dangling g v) && (is_open (value_sort g v) || is_same_sort (value_sort g v) (kind_sort g.program var.kind))

-- the store has these variables, in their order, with values that fit
abbrev pub is_store_of : Scope → List Var → Store → Bool
is_store_of g [] [] = true
is_store_of g (v ∷ vs) (b ∷ bs) = v.name.0 == b.0 && fits g b.1 v && is_store_of g vs bs
is_store_of g _ _ = false

-- whether an expression can begin after this many held operands: they are fewer than 64
abbrev pub has_room : ℕ → Bool
has_room held = not (nat_le 64 held)

-- whether the method can have this value; a method without result has nil
abbrev pub is_value_of : Option MethodTree → Expression → Bool
is_value_of None e = false
is_value_of (Some m) e = is_value_for m.outcome e

-- Whether a part is sound, with h operands held before it. Each method under way and each wait is the redex or
-- contains it, and is at a place where an expression can begin. A method under way has temps that fit and a value that
-- it can have. Each operator has its number of operands.
abbrev mutual
  pub is_sound : Scope → ℕ → Expression → Bool
  is_sound g h (Literal v p) = true
  is_sound g h (Me p) = true
  is_sound g h (Variable x p) = true
  is_sound g h (Create c p) = true
  is_sound g h (Prefix op e p) = is_prefix op && is_sound g h e
  is_sound g h (Infix op l r p) = not (is_prefix op) && (if is_value l then is_sound g (h + 1) r else is_sound g h l && is_source r)
  is_sound g h (Call m es p) = are_sound g h es
  is_sound g h (Send e m es p) = if is_value e then are_sound g (h + 1) es else is_sound g h e && are_source es
  is_sound g h (Frame m t ss e qs) =
      has_room h && is_store_of g (temps_of_method (own_method g m)) t && is_value_of (own_method g m) e
      && (if is_done ss
      then (if is_value e then are_sound_statements (behind_value (inside g m)) qs else is_sound (inside g m) 0 e && are_source_statements qs)
      else are_sound_statements (inside g m) ss && is_source e && are_source_statements qs)
  is_sound g h (Wait b m) = has_room h

  pub are_sound : Scope → ℕ → Expressions → Bool
  are_sound g h NoArgs = true
  are_sound g h (Arg e es) = if is_value e then are_sound g (h + 1) es else is_sound g h e && are_source es

  pub is_sound_statement : Scope → Statement → Bool
  is_sound_statement g (Assign x p e) = is_sound g g.held e
  is_sound_statement g (Write e) = is_sound g g.held e
  is_sound_statement g (WriteText s) = true
  is_sound_statement g (Do e) = is_sound g g.held e
  is_sound_statement g (Async e m p es) = if is_value e then are_sound g (g.held + 1) es else is_sound g g.held e && are_source es
  is_sound_statement g (If e these those) = is_sound g g.held e && are_source_statements these && are_source_statements those
  is_sound_statement g (While e ss) = is_source e && are_source_statements ss
  is_sound_statement g (Answer names) = true
  is_sound_statement g (Select alts) = are_sound_alternatives g g.held alts
  is_sound_statement g (Serve m k t ss e qs) =
      is_store_of g (temps_of_method (own_method g m)) t && is_value_of (own_method g m) e
      && (if is_done ss
      then (if is_none k && is_value e then are_sound_statements (behind_value (inside g m)) qs else is_sound (inside g m) 0 e && are_source_statements qs)
      else are_sound_statements (inside g m) ss && is_source e && are_source_statements qs)

  pub are_sound_statements : Scope → Statements → Bool
  are_sound_statements g Done = true
  are_sound_statements g (Then s ss) = is_sound_statement g s && are_source_statements ss

  pub are_sound_alternatives : Scope → ℕ → Alternatives → Bool
  are_sound_alternatives g i NoAlts = true
  are_sound_alternatives g i (Alt e names ss alts) =
      are_source_statements ss && (if is_value e then are_sound_alternatives g (i + 1) alts else is_sound g i e && are_source_alternatives alts)

-- whether the values fit the parameters, one by one
abbrev pub all_fit : Scope → List Value → List Var → Bool
all_fit g [] [] = true
all_fit g (v ∷ vs) (x ∷ xs) = fits g v x && all_fit g vs xs
all_fit g _ _ = false

-- the object has the method of the message, and the arguments fit its parameters
abbrev pub IsMessageFor : ProgramTree → Configuration → Object → Message → Type 0
IsMessageFor p c y m =
    (method : MethodTree) × (method_of p y.class m.method (length m.args) ≡ Some method) × IsTrue (all_fit (scope p c y.class) m.args method.params)

-- A typed configuration. The keys of its maps rise. Each object has the variables of its class, with values that fit.
-- Its term has no class faults and is sound. If an object has met an error, its next action is that error. Each
-- message fits a method of its receiver.
pub record Typed (p : ProgramTree) (c : Configuration) : Type 0 where
  pub in_order : IsTrue (is_sorted nat_cmp c.objects) × IsTrue (is_sorted pair_cmp c.messages)
  pub no_empty : IsTrue (no_entry_empty c.messages)
  pub class : (o : ℕ) (x : Object) → object_of c o ≡ Some x → IsTrue (is_some (class_of p x.class))
  pub vars : (o : ℕ) (x : Object) → object_of c o ≡ Some x → IsTrue (is_store_of (scope p c x.class) (vars_of_class (class_of p x.class)) x.vars)
  pub term : (o : ℕ) (x : Object) → object_of c o ≡ Some x → statements_faults (scope p c x.class) x.term ≡ []
  pub sound : (o : ℕ) (x : Object) → object_of c o ≡ Some x → IsTrue (are_sound_statements (scope p c x.class) x.term)
  pub fault : (o : ℕ) (x : Object) (e : Error) → object_of c o ≡ Some x → x.fault ≡ Some e → action p o x ≡ A.Fault e
  pub messages : (s r : ℕ) → All (λ m. (y : Object) × (object_of c r ≡ Some y) × IsMessageFor p c y m) (messages_of c s r)
  -- each wait is served exactly once, and each method that serves a caller has the wait of that caller
  pub waits : (o b m : ℕ) (x : Object) → object_of c o ≡ Some x → action p o x ≡ A.Waits b m → (y : Object) × (object_of c b ≡ Some y) × (serves o y.term ≡ m ∷ [])
  pub served : (o b m : ℕ) (ms : List ℕ) (y : Object) → object_of c b ≡ Some y → serves o y.term ≡ m ∷ ms → (x : Object) × (object_of c o ≡ Some x) × (action p o x ≡ A.Waits b m)

-- the object b exists and has the method m with n parameters
abbrev pub CanTake : ProgramTree → Configuration → ℕ → ℕ → ℕ → Type 0
CanTake p c b m n = (y : Object) × (k : MethodTree) × (object_of c b ≡ Some y) × (method_of p y.class m n ≡ Some k)

-- the action goes wrong: it is stuck, it calls or sends to an object without the method, or it returns to an object
-- that does not wait for it
abbrev pub GoesWrong : ProgramTree → Configuration → ℕ → Action → Type 0
GoesWrong p c o A.Stuck = Unit {0}
GoesWrong p c o (A.Send b m args) = ¬ (CanTake p c b m (length args))
GoesWrong p c o (A.Async b m args) = ¬ (CanTake p c b m (length args))
GoesWrong p c o (A.Return k v) = ¬ ((x : Object) × (m : ℕ) × (object_of c k ≡ Some x) × (action p k x ≡ A.Waits o m))
GoesWrong p c o _ = ⊥
