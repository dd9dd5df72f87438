-- A single test of typed parts of a term: class faults, form, and the methods and waits that may be under way.
use Rattle.std.proofs.Common.{◌≡◌, IsTrue, ℕ, ◌+◌, List, [], ◌∷◌, length, Option, Some, None, is_some, is_none, Bool, true, false, not, ◌&&◌, ◌||◌, ◌==◌, if◌then◌else◌}
use Rattle.run_types.specs.declared.types.Op.{Op}
use Rattle.run_types.specs.declared.types.Op.TheVariants as O
use Rattle.run_types.specs.declared.types.Kind.{Kind}
use Rattle.pool_syntax.specs.declared.tree.Var.{Var}
use Rattle.pool_syntax.specs.Terms.{Expression, Literal, Me, Variable, Create, Prefix, Infix, Call, Send, Frame, Wait, Expressions, NoArgs, Arg, Statement, Assign, Write, WriteText, Do, Async, If, While, Answer, Select, Serve, Statements, Done, Then, Alternatives, NoAlts, Alt, MethodTree, ProgramTree}
use Rattle.pool_syntax.specs.Classes.{class_of, named_method}
use Rattle.run_types.specs.Sorts.{Sort, BoolSort, ClassSort, NilSort, NoSort, BrokenSort, operand_sort, is_same_sort}
use Rattle.pool_syntax.specs.Typing.{Scope, kind_sort, name_sort, is_dangling, sort_of, is_open, is_broken_name, is_comparable, params_of, size, sent_method, methods_of, own_method, temps_of_method, inside, behind_value, names_faults, answer_faults}
use Rattle.pool_relation.specs.Reducible.{is_value, is_done}
use Rattle.pool_relation.specs.Typed.{is_store_of, has_room, is_value_of}
use Rattle.pool_syntax.specs.SourceParts.{is_prefix}

-- what may be under way in a part: nothing, methods, or a wait too
pub data Holds : Type 0 where
  Nothing : Holds
  Methods : Holds
  Waits : Holds

abbrev pub has_methods : Holds → Bool
has_methods Nothing = false
has_methods _ = true

abbrev pub has_waits : Holds → Bool
has_waits Waits = true
has_waits _ = false

-- what may be under way in a part behind another: nothing, where that is not done
abbrev pub past : Bool → Holds → Holds
past b k = if b then k else Nothing

unfoldable pub has_no_sort : Sort → Bool
has_no_sort NoSort = true
has_no_sort _ = false

abbrev pub is_broken : Sort → Bool
is_broken BrokenSort = true
is_broken _ = false

-- whether an expression of this sort fits where another is needed
unfoldable pub fits_need : Sort → Sort → Bool
fits_need s need = not (has_no_sort s) && (is_open s || is_same_sort s need || is_broken need)

-- whether operands of these sorts fit their operator
unfoldable pub fit_operands : Op → Sort → Sort → Bool
fit_operands O.Same s t = not (has_no_sort s) && not (has_no_sort t) && is_comparable s t
fit_operands O.Differs s t = not (has_no_sort s) && not (has_no_sort t) && is_comparable s t
fit_operands op s t = fits_need s (operand_sort op) && fits_need t (operand_sort op)

-- whether the method is there and has so many parameters
unfoldable pub takes : Option MethodTree → ℕ → Bool
takes None n = false
takes (Some m) n = length m.params == n

-- whether a send to this sort has no fault
unfoldable pub is_destination : Scope → Sort → ℕ → ℕ → Bool
is_destination g (ClassSort c) m n = takes (named_method (methods_of g.program c) m) n
is_destination g BrokenSort m n = true
is_destination g NilSort m n = g.under_way
is_destination g _ m n = false

unfoldable pub fits_outcome : ProgramTree → Option Kind → Sort → Bool
fits_outcome p None s = true
fits_outcome p (Some k) s = fits_need s (kind_sort p k)

-- whether the value of a method under way may be of this sort
unfoldable pub gives : ProgramTree → Option MethodTree → Sort → Bool
gives p None s = false
gives p (Some m) s = fits_outcome p m.outcome s

-- a part of a term that stands in this scope, behind so many operands
abbrev mutual
  pub TypedExpression : Holds → Scope → ℕ → Expression → Type 0
  TypedExpression k g h (Literal v p) = IsTrue (has_room h) × (is_dangling g v ≡ false)
  TypedExpression k g h (Me p) = IsTrue (has_room h)
  TypedExpression k g h (Variable x p) = IsTrue (has_room h) × (is_broken_name g x ≡ false)
  TypedExpression k g h (Create c p) = IsTrue (has_room h) × IsTrue (is_some (class_of g.program c))
  TypedExpression k g h (Prefix op e p) =
      IsTrue (has_room h) × IsTrue (is_prefix op) × TypedExpression k g h e × IsTrue (fits_need (sort_of g e) (operand_sort op))
  TypedExpression k g h (Infix op l r p) =
      IsTrue (has_room h) × (is_prefix op ≡ false) × TypedExpression k g h l × TypedExpression (past (is_value l) k) g (h + 1) r
      × IsTrue (fit_operands op (sort_of g l) (sort_of g r))
  TypedExpression k g h (Call m es p) =
      IsTrue (has_room h) × IsTrue (takes (own_method g m) (size es)) × TypedArguments k g h (params_of (own_method g m)) es
  TypedExpression k g h (Send e m es p) =
      IsTrue (has_room h) × TypedExpression k g h e × IsTrue (is_destination g (sort_of g e) m (size es))
      × TypedArguments (past (is_value e) k) g (h + 1) (params_of (sent_method g (sort_of g e) m)) es
  TypedExpression k g h (Frame m t ss e qs) =
      IsTrue (has_methods k) × IsTrue (has_room h) × IsTrue (is_store_of g (temps_of_method (own_method g m)) t)
      × TypedStatements k (inside g m) ss × TypedExpression (past (is_done ss) k) (inside g m) 0 e
      × IsTrue (gives g.program (own_method g m) (sort_of (inside g m) e)) × IsTrue (is_value_of (own_method g m) e)
      × TypedStatements (past (is_done ss) (past (is_value e) k)) (behind_value (inside g m)) qs
  TypedExpression k g h (Wait b m) = IsTrue (has_waits k) × IsTrue (has_room h) × IsTrue (is_some (g.object_class b))

  pub TypedArguments : Holds → Scope → ℕ → List Var → Expressions → Type 0
  TypedArguments k g h vs NoArgs = Unit {0}
  TypedArguments k g h [] (Arg e es) =
      TypedExpression k g h e × (has_no_sort (sort_of g e) ≡ false) × TypedArguments (past (is_value e) k) g (h + 1) [] es
  TypedArguments k g h (v ∷ vs) (Arg e es) =
      TypedExpression k g h e × IsTrue (fits_need (sort_of g e) (kind_sort g.program v.kind))
      × TypedArguments (past (is_value e) k) g (h + 1) vs es

  pub TypedStatement : Holds → Scope → Statement → Type 0
  TypedStatement k g (Assign x p e) =
      (is_broken_name g x ≡ false) × TypedExpression k g g.held e × IsTrue (fits_need (sort_of g e) (name_sort g x))
  TypedStatement k g (Write e) = TypedExpression k g g.held e × (has_no_sort (sort_of g e) ≡ false)
  TypedStatement k g (WriteText s) = Unit {0}
  TypedStatement k g (Do e) = TypedExpression k g g.held e
  TypedStatement k g (Async e m p es) =
      TypedExpression k g g.held e × IsTrue (is_destination g (sort_of g e) m (size es))
      × TypedArguments (past (is_value e) k) g (g.held + 1) (params_of (sent_method g (sort_of g e) m)) es
  TypedStatement k g (If e these those) =
      TypedExpression k g g.held e × IsTrue (fits_need (sort_of g e) BoolSort) × TypedStatements Nothing g these
      × TypedStatements Nothing g those
  TypedStatement k g (While e ss) =
      TypedExpression Nothing g g.held e × IsTrue (fits_need (sort_of g e) BoolSort) × TypedStatements Nothing g ss
  TypedStatement k g (Answer names) = names_faults g [] names ≡ []
  TypedStatement k g (Select alts) = TypedAlternatives k g g.held alts
  TypedStatement k g (Serve m c t ss e qs) =
      IsTrue (has_methods k) × IsTrue (is_store_of g (temps_of_method (own_method g m)) t) × TypedStatements k (inside g m) ss
      × TypedExpression (past (is_done ss) k) (inside g m) 0 e × IsTrue (gives g.program (own_method g m) (sort_of (inside g m) e))
      × IsTrue (is_value_of (own_method g m) e)
      × TypedStatements (past (is_done ss) (past (is_value e) (past (is_none c) k))) (behind_value (inside g m)) qs

  pub TypedStatements : Holds → Scope → Statements → Type 0
  TypedStatements k g Done = Unit {0}
  TypedStatements k g (Then s ss) = TypedStatement k g s × TypedStatements Nothing g ss

  pub TypedAlternatives : Holds → Scope → ℕ → Alternatives → Type 0
  TypedAlternatives k g i NoAlts = Unit {0}
  TypedAlternatives k g i (Alt e names ss alts) =
      TypedExpression k g i e × IsTrue (fits_need (sort_of g e) BoolSort) × (answer_faults g names ≡ [])
      × TypedStatements Nothing g ss × TypedAlternatives (past (is_value e) k) g (i + 1) alts
