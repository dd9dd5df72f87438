-- Facts about a redex in a typed term, and the parts that may replace it.
use Rattle.std.proofs.Common.{◌≡◌, IsTrue, ℕ, List, [], ◌∷◌, length, is_some, false}
use Rattle.run_types.specs.declared.types.Value.{Value}
use Rattle.pool_syntax.specs.declared.tree.Var.{Var}
use Rattle.pool_syntax.specs.Terms.{Store, Expression, Expressions, Statement, Statements, Alternatives}
use Rattle.pool_syntax.specs.Classes.{class_of}
use Rattle.run_types.specs.Sorts.{Sort, BoolSort, ClassSort, op_sort, operand_sort}
use Rattle.pool_syntax.specs.Typing.{Scope, kind_sort, name_sort, value_sort, object_sort, is_dangling, sort_of, own_sort, send_sort, is_broken_name, own_method, params_of, sent_method, names_faults, answer_faults, size}
use Rattle.pool_relation.specs.Reducible.{Choice, Reducible, OwnName, Read, Make, Unary, Binary, Invoke, SynchronousSend, Leave, Waiting, Set, Print, Drop, Post, Branch, Loop, Accept, Choose, Finish, Contractum, AsExpression, AsStatements, fill_expression, fill_expressions, fill_statement, fill_statements, fill_guards, At, expression_redex, expressions_redex, statement_redex, statements_redex}
use Rattle.pool_relation.specs.Reducible.{guards_redex}
use Rattle.pool_relation.specs.Action.{literal}
use Rattle.pool_relation.specs.Typed.{is_store_of, has_room}
use Rattle.pool_syntax.specs.SourceParts.{is_prefix}
use Rattle.pool_relation.proofs.typing.TypedTerm.{Holds, Nothing, fits_need, fit_operands, takes, is_destination, TypedExpression, TypedArguments, TypedStatements, TypedAlternatives}
use Rattle.pool_relation.proofs.typing.Sorts.{MayBecome}

-- where a part stands in a method: its temps, and how many operands are held before an outermost expression
pub record Spot : Type 0 where
  pub temps : List Var
  pub held : ℕ

abbrev pub spot : List Var → ℕ → Spot
spot vs h = record { temps = vs; held = h }

-- the scope at another spot
abbrev pub at : Scope → Spot → Scope
at g s = record g { temps = s.temps; held = s.held }

-- values that fit the parameters, as far as there are any
abbrev pub FitValues : Scope → List Var → List Value → Type 0
FitValues g ps [] = Unit {0}
FitValues g [] (v ∷ vs) = (is_dangling g v ≡ false) × FitValues g [] vs
FitValues g (x ∷ ps) (v ∷ vs) =
    (is_dangling g v ≡ false) × IsTrue (fits_need (value_sort g v) (kind_sort g.program x.kind)) × FitValues g ps vs

-- alternatives whose guards are truth values or nil
abbrev pub TypedChoices : Scope → List Choice → Type 0
TypedChoices g [] = Unit {0}
TypedChoices g (c ∷ cs) =
    (is_dangling g c.guard ≡ false) × IsTrue (fits_need (value_sort g c.guard) BoolSort) × (answer_faults g c.answer ≡ [])
    × TypedStatements Nothing g c.work × TypedChoices g cs

-- what is known of a redex in a typed term
abbrev pub TypedRedex : Scope → Reducible → Type 0
TypedRedex g OwnName = Unit {0}
TypedRedex g (Read x) = is_broken_name g x ≡ false
TypedRedex g (Make c) = IsTrue (is_some (class_of g.program c))
TypedRedex g (Unary op v) =
    IsTrue (is_prefix op) × (is_dangling g v ≡ false) × IsTrue (fits_need (value_sort g v) (operand_sort op))
TypedRedex g (Binary op v w) =
    (is_prefix op ≡ false) × (is_dangling g v ≡ false) × (is_dangling g w ≡ false)
    × IsTrue (fit_operands op (value_sort g v) (value_sort g w))
TypedRedex g (Invoke m vs) = IsTrue (takes (own_method g m) (length vs)) × FitValues g (params_of (own_method g m)) vs
TypedRedex g (SynchronousSend v m vs) =
    (is_dangling g v ≡ false) × IsTrue (is_destination g (value_sort g v) m (length vs))
    × FitValues g (params_of (sent_method g (value_sort g v) m)) vs
TypedRedex g (Leave v) = is_dangling g v ≡ false
TypedRedex g (Waiting b m) = IsTrue (is_some (g.object_class b))
TypedRedex g (Set x v) =
    (is_broken_name g x ≡ false) × (is_dangling g v ≡ false) × IsTrue (fits_need (value_sort g v) (name_sort g x))
TypedRedex g (Print item) = Unit {0}
TypedRedex g (Drop v) = Unit {0}
TypedRedex g (Post v m vs) =
    (is_dangling g v ≡ false) × IsTrue (is_destination g (value_sort g v) m (length vs))
    × FitValues g (params_of (sent_method g (value_sort g v) m)) vs
TypedRedex g (Branch v these those) =
    (is_dangling g v ≡ false) × IsTrue (fits_need (value_sort g v) BoolSort) × TypedStatements Nothing g these
    × TypedStatements Nothing g those
TypedRedex g (Loop e ss) =
    TypedExpression Nothing g g.held e × IsTrue (fits_need (sort_of g e) BoolSort) × TypedStatements Nothing g ss
TypedRedex g (Accept names) = names_faults g [] names ≡ []
TypedRedex g (Choose cs) = TypedChoices g cs
TypedRedex g (Finish c v work) = is_dangling g v ≡ false

-- an expression that may take the place of one of this sort
abbrev pub AnExpression : Holds → Scope → Sort → Contractum → Type 0
AnExpression j g s x =
    (e : Expression) × (x ≡ AsExpression e) × ((h : ℕ) → IsTrue (has_room h) → TypedExpression j g h e)
    × MayBecome s (sort_of g e)

-- statements
abbrev pub SomeStatements : Holds → Scope → Contractum → Type 0
SomeStatements j g x = (ss : Statements) × (x ≡ AsStatements ss) × TypedStatements j g ss

-- what may take the redex's place
abbrev pub Suits : Holds → Scope → Reducible → Contractum → Type 0
Suits j g OwnName x = AnExpression j g (ClassSort g.class) x
Suits j g (Read n) x = AnExpression j g (name_sort g n) x
Suits j g (Make c) x = AnExpression j g (ClassSort c) x
Suits j g (Unary op v) x = AnExpression j g (op_sort op) x
Suits j g (Binary op v w) x = AnExpression j g (op_sort op) x
Suits j g (Invoke m vs) x = AnExpression j g (own_sort g m) x
Suits j g (SynchronousSend v m vs) x = AnExpression j g (send_sort g.program (value_sort g v) m) x
Suits j g (Leave v) x = x ≡ AsExpression (literal v)
Suits j g (Waiting b m) x = AnExpression j g (send_sort g.program (object_sort (g.object_class b)) m) x
Suits j g (Finish c v work) x = x ≡ AsStatements work
Suits j g _ x = SomeStatements j g x

-- a redex and where it stands, and what holds after a suitable part took its place
pub record Replacement (j : Holds) (g : Scope) (r : Reducible) (u : Store) (After : Contractum → Type 0) : Type 0 where
  pub spot : Spot
  pub store : IsTrue (is_store_of g spot.temps u)
  pub typed : TypedRedex (at g spot) r
  pub filled : (x : Contractum) → Suits j (at g spot) r x → After x

-- more holds after it
pub wider : {j : Holds} {g : Scope} {r : Reducible} {u : Store} {A B : Contractum → Type 0} → Replacement j g r u A
    → ((x : Contractum) → A x → B x) → Replacement j g r u B
wider s f = record { spot = s.spot; store = s.store; typed = s.typed; filled = λ x t. f x (s.filled x t) }

-- what holds after the redex was replaced in a part
abbrev pub NewExpression : Holds → Scope → ℕ → Expression → Contractum → Type 0
NewExpression j g h e x = TypedExpression j g h (fill_expression e x) × MayBecome (sort_of g e) (sort_of g (fill_expression e x))

abbrev pub NewArguments : Holds → Scope → ℕ → List Var → Expressions → Contractum → Type 0
NewArguments j g h vs es x = TypedArguments j g h vs (fill_expressions es x) × (size (fill_expressions es x) ≡ size es)

abbrev pub NewStatement : Holds → Scope → Statement → Contractum → Type 0
NewStatement j g s x = TypedStatements j g (fill_statement s x)

abbrev pub NewStatements : Holds → Scope → Statements → Contractum → Type 0
NewStatements j g ss x = TypedStatements j g (fill_statements ss x)

abbrev pub NewAlternatives : Holds → Scope → ℕ → Alternatives → Contractum → Type 0
NewAlternatives j g i alts x = TypedAlternatives j g i (fill_guards alts x)

-- a spot at each redex of a part
abbrev pub AtExpression : Holds → Scope → ℕ → Store → Expression → Type 0
AtExpression j g h t e = (r : Reducible) (u : Store) → expression_redex t e ≡ At r u → Replacement j g r u (NewExpression j g h e)

abbrev pub AtArguments : Holds → Scope → ℕ → List Var → Store → Expressions → Type 0
AtArguments j g h vs t es = (r : Reducible) (u : Store) → expressions_redex t es ≡ At r u → Replacement j g r u (NewArguments j g h vs es)

abbrev pub AtStatement : Holds → Scope → Store → Statement → Type 0
AtStatement j g t s = (r : Reducible) (u : Store) → statement_redex t s ≡ At r u → Replacement j g r u (NewStatement j g s)

abbrev pub AtStatements : Holds → Scope → Store → Statements → Type 0
AtStatements j g t ss = (r : Reducible) (u : Store) → statements_redex t ss ≡ At r u → Replacement j g r u (NewStatements j g ss)

abbrev pub AtAlternatives : Holds → Scope → ℕ → Store → Alternatives → Type 0
AtAlternatives j g i t alts = (r : Reducible) (u : Store) → guards_redex t alts ≡ At r u → Replacement j g r u (NewAlternatives j g i alts)
