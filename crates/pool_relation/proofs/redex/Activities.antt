-- Methods under way before the redex of a term and in the redex.
use Rattle.std.proofs.Common.{◌≡◌, refl, sym, ap, ◌∙◌, subst, IsTrue, ℕ, List, [], ◌∷◌, ◌++◌, append_assoc, Bool, true, false, arith}
use Rattle.pool_syntax.specs.Terms.{Store, Expression, Expressions, Statement, Statements, Done, Then, Alternatives, append}
use Rattle.pool_syntax.specs.Typing.{Scope, value_sort, own_method}
use Rattle.pool_relation.specs.Reducible.{Reducible, At, OwnName, Read, Make, Unary, Binary, Invoke, SynchronousSend, Leave, Waiting, Finish, Contractum, AsExpression, AsStatements, as_expression, as_statements, fill_expression, fill_expressions, fill_statement, fill_statements, fill_guards, expression_redex, expressions_redex, statement_redex, statements_redex}
use Rattle.pool_relation.specs.Reducible.{guards_redex}
use Rattle.pool_relation.specs.UnderWay.{Activity, Own, Serving, in_expression, in_expressions, in_statement, in_statements, in_guards, serves}
use Rattle.pool_relation.proofs.typing.TypedTerm.{gives}

-- what the redex ends: a served method, an own one, or nothing
abbrev pub Ends : Scope → Reducible → List Activity → Type 0
Ends g (Finish c v work) now =
    (m : ℕ) × (now ≡ Serving m c ∷ []) × IsTrue (gives g.program (own_method g m) (value_sort g v)) × ((o : ℕ) → serves o work ≡ [])
Ends g (Leave v) now = (m : ℕ) × (now ≡ Own m ∷ [])
Ends g _ now = now ≡ []

-- whether the redex is a statement
abbrev pub is_statement : Reducible → Bool
is_statement OwnName = false
is_statement (Read n) = false
is_statement (Make c) = false
is_statement (Unary op v) = false
is_statement (Binary op v w) = false
is_statement (Invoke m vs) = false
is_statement (SynchronousSend v m vs) = false
is_statement (Leave v) = false
is_statement (Waiting b m) = false
is_statement _ = true

-- whether the part can take the redex's place
abbrev pub Matches : Reducible → Contractum → Type 0
Matches r (AsExpression e) = is_statement r ≡ false
Matches r (AsStatements ss) = is_statement r ≡ true

abbrev pub in_part : Contractum → List Activity
in_part (AsExpression e) = in_expression e
in_part (AsStatements ss) = in_statements ss

-- what is under way before the redex, and in it; a part in its place puts what is under way in it there
pub record Activities (g : Scope) (r : Reducible) (old : List Activity) (new : Contractum → List Activity) : Type 0 where
  pub before : List Activity
  pub now : List Activity
  pub old_is : old ≡ before ++ now
  pub new_is : (x : Contractum) → Matches r x → new x ≡ before ++ in_part x
  pub ends : Ends g r now

-- the same, with other names
pub same : {g : Scope} {r : Reducible} {old old' : List Activity} {new new' : Contractum → List Activity} → Activities g r old new → old' ≡ old
    → ((x : Contractum) → new' x ≡ new x) → Activities g r old' new'
same b o n = record { before = b.before; now = b.now; old_is = o ∙ b.old_is; new_is = λ x k. n x ∙ b.new_is x k; ends = b.ends }

-- behind a method under way
pub behind_one : {g : Scope} {r : Reducible} {old old' : List Activity} {new new' : Contractum → List Activity} (a : Activity)
    → Activities g r old new → old' ≡ a ∷ old → ((x : Contractum) → new' x ≡ a ∷ new x) → Activities g r old' new'
behind_one a b o n = record { before = a ∷ b.before; now = b.now; old_is = o ∙ ap (λ l. a ∷ l) b.old_is; new_is = λ x k. n x ∙ ap (λ l. a ∷ l) (b.new_is x k); ends = b.ends }

-- here
pub at_once : {g : Scope} {old : List Activity} {new : Contractum → List Activity} (a r : Reducible) → a ≡ r → Ends g a old
    → ((x : Contractum) → Matches a x → new x ≡ in_part x) → Activities g r old new
at_once {g} {old} {new} a r e d n = subst (λ (b : Reducible). Activities g b old new) e (record { before = []; now = old; old_is = refl; new_is = n; ends = d })

pub placed_expression : (r : Reducible) (x : Contractum) (old : Expression) → is_statement r ≡ false → Matches r x
    → in_expression (as_expression x old) ≡ in_part x
placed_expression r (AsExpression e) old s k = refl
placed_expression r (AsStatements ss) old s k = absurd (grind (arith, s, k))

pub placed_statement : (r : Reducible) (x : Contractum) (old : Statement) → is_statement r ≡ true → Matches r x
    → in_statements (as_statements x old) ≡ in_part x
placed_statement r (AsExpression e) old s k = absurd (grind (arith, s, k))
placed_statement r (AsStatements ss) old s k = refl

-- what is under way in two lists of statements
pub append_activities : (ss rest : Statements) → in_statements (append ss rest) ≡ in_statements ss ++ in_statements rest
append_activities Done rest = refl
append_activities (Then s ss) rest = rw (append_activities ss rest) (sym (append_assoc (in_statement s) (in_statements ss) (in_statements rest)))

abbrev pub ExpressionActivities : Scope → Store → Expression → Type 0
ExpressionActivities g t e = (r : Reducible) (u : Store) → expression_redex t e ≡ At r u → Activities g r (in_expression e) (λ x. in_expression (fill_expression e x))

abbrev pub ArgumentsActivities : Scope → Store → Expressions → Type 0
ArgumentsActivities g t es = (r : Reducible) (u : Store) → expressions_redex t es ≡ At r u → Activities g r (in_expressions es) (λ x. in_expressions (fill_expressions es x))

abbrev pub StatementActivities : Scope → Store → Statement → Type 0
StatementActivities g t s = (r : Reducible) (u : Store) → statement_redex t s ≡ At r u → Activities g r (in_statement s) (λ x. in_statements (fill_statement s x))

abbrev pub StatementsActivities : Scope → Store → Statements → Type 0
StatementsActivities g t ss = (r : Reducible) (u : Store) → statements_redex t ss ≡ At r u → Activities g r (in_statements ss) (λ x. in_statements (fill_statements ss x))

abbrev pub AlternativesActivities : Scope → Store → Alternatives → Type 0
AlternativesActivities g t alts = (r : Reducible) (u : Store) → guards_redex t alts ≡ At r u → Activities g r (in_guards alts) (λ x. in_guards (fill_guards alts x))
