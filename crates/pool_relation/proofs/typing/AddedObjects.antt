-- A typed part stays typed if objects are added.
use Rattle.std.proofs.Common.{◌≡◌, refl, sym, ap, ◌∙◌, ℕ, ◌+◌, List, [], ◌∷◌, Option, Some, None, is_some, is_none, true, false, arith}
use Rattle.run_types.specs.declared.types.Value.{Value}
use Rattle.run_types.specs.declared.types.Value.TheVariants as V
use Rattle.pool_syntax.specs.declared.tree.Named.{Named}
use Rattle.pool_syntax.specs.declared.tree.Var.{Var}
use Rattle.pool_syntax.specs.Terms.{Store, Expression, Literal, Me, Variable, Create, Prefix, Infix, Call, Send, Frame, Wait, Expressions, NoArgs, Arg, Statement, Assign, Write, WriteText, Do, Async, If, While, Answer, Select, Serve, Statements, Done, Then, Alternatives, NoAlts, Alt}
use Rattle.run_types.specs.Sorts.{Sort, IntSort, BoolSort, ClassSort, NilSort, NoSort, BrokenSort}
use Rattle.pool_syntax.specs.Typing.{Scope, value_sort, object_sort, is_dangling, sort_of, send_sort, inside, behind_value, names_faults, answer_faults, own_method, size, params_of, sent_method, temps_of_method}
use Rattle.pool_relation.specs.Reducible.{is_value, is_done}
use Rattle.pool_relation.specs.Typed.{fits, is_store_of}
use Rattle.pool_relation.proofs.typing.TypedTerm.{Holds, Nothing, past, is_destination, TypedExpression, TypedArguments, TypedStatement, TypedStatements, TypedAlternatives}

-- a scope with these objects, for terms under way
abbrev pub grown : Scope → (ℕ → Option ℕ) → Scope
grown g f = record g { object_class = f; under_way = true }

-- each object of the first is one of the second, of the same class
pub record Grows (f f' : ℕ → Option ℕ) : Type 0 where
  pub kept : (n c : ℕ) → f n ≡ Some c → f' n ≡ Some c

object_kept : (f f' : ℕ → Option ℕ) (n : ℕ) → Grows f f' → is_some (f n) ≡ true → f' n ≡ f n
object_kept f f' n w h = by (f n) refl
  where
    by : (x : Option ℕ) → f n ≡ x → f' n ≡ f n
    by None e = absurd (grind (arith, h, e))
    by (Some c) e = w.kept n c e ∙ sym e

value_sort_grown : (g : Scope) (f : ℕ → Option ℕ) (v : Value) → Grows g.object_class f → is_dangling g v ≡ false
    → value_sort (grown g f) v ≡ value_sort g v
value_sort_grown g f (V.Ref n) w h = ap object_sort (object_kept g.object_class f n w (grind arith))
value_sort_grown g f _ w h = refl

dangling_grown : (g : Scope) (f : ℕ → Option ℕ) (v : Value) → Grows g.object_class f → is_dangling g v ≡ false
    → is_dangling (grown g f) v ≡ false
dangling_grown g f (V.Ref n) w h = rw (object_kept g.object_class f n w (grind arith)) h
dangling_grown g f _ w h = refl

pub fits_grown : (g : Scope) (f : ℕ → Option ℕ) (v : Value) (x : Var) → Grows g.object_class f → fits g v x ≡ true
    → fits (grown g f) v x ≡ true
fits_grown g f v x w h = let d : is_dangling g v ≡ false = grind arith in rw (dangling_grown g f v w d, value_sort_grown g f v w d) (grind arith)

pub store_grown : (g : Scope) (f : ℕ → Option ℕ) (vs : List Var) (bs : Store) → Grows g.object_class f
    → is_store_of g vs bs ≡ true → is_store_of (grown g f) vs bs ≡ true
store_grown g f [] [] w h = refl
store_grown g f (v ∷ vs) (b ∷ bs) w h = grind (arith, fits_grown g f b.1 v w, store_grown g f vs bs w)
store_grown g f [] (b ∷ bs) w h = h
store_grown g f (v ∷ vs) [] w h = h

destination_grown : (g : Scope) (f : ℕ → Option ℕ) (s : Sort) (m n : ℕ) → is_destination g s m n ≡ true
    → is_destination (grown g f) s m n ≡ true
unfolding is_destination
destination_grown g f NilSort m n h = refl
destination_grown g f IntSort m n h = h
destination_grown g f BoolSort m n h = h
destination_grown g f (ClassSort c) m n h = h
destination_grown g f NoSort m n h = h
destination_grown g f BrokenSort m n h = h

names_faults_grown : (g : Scope) (f : ℕ → Option ℕ) (before : List ℕ) (names : List Named)
    → names_faults (grown g f) before names ≡ names_faults g before names
names_faults_grown g f before [] = refl
names_faults_grown g f before (n ∷ ns) = rw (names_faults_grown g f (n.name.0 ∷ before) ns) refl

answer_faults_grown : (g : Scope) (f : ℕ → Option ℕ) (names : Option (List Named))
    → answer_faults (grown g f) names ≡ answer_faults g names
answer_faults_grown g f None = refl
answer_faults_grown g f (Some names) = names_faults_grown g f [] names

-- the sort of a typed expression stays
pub sort_grown : (k : Holds) (g : Scope) (f : ℕ → Option ℕ) (h : ℕ) (e : Expression) → Grows g.object_class f
    → TypedExpression k g h e → sort_of (grown g f) e ≡ sort_of g e
sort_grown k g f h (Literal v p) w t = value_sort_grown g f v w t.1
sort_grown k g f h (Send e m es p) w t = ap (λ s. send_sort g.program s m) (sort_grown k g f h e w t.1)
sort_grown k g f h (Wait b m) w t = ap (λ s. send_sort g.program (object_sort s) m) (object_kept g.object_class f b w t.2)
sort_grown k g f h _ w t = refl

mutual
  pub expression_grown : (k : Holds) (g : Scope) (f : ℕ → Option ℕ) (h : ℕ) (e : Expression) → Grows g.object_class f
      → TypedExpression k g h e → TypedExpression k (grown g f) h e
  expression_grown k g f h (Literal v p) w t = (t.0, dangling_grown g f v w t.1)
  expression_grown k g f h (Me p) w t = t
  expression_grown k g f h (Variable x p) w t = t
  expression_grown k g f h (Create c p) w t = t
  expression_grown k g f h (Prefix op e p) w t =
      (t.0, t.1, expression_grown k g f h e w t.2, rw (sort_grown k g f h e w t.2) t.3)
  expression_grown k g f h (Infix op l r p) w t = (
    t.0,
    t.1,
    expression_grown k g f h l w t.2,
    expression_grown (past (is_value l) k) g f (h + 1) r w t.3,
    rw (sort_grown k g f h l w t.2, sort_grown (past (is_value l) k) g f (h + 1) r w t.3) t.4,
  )
  expression_grown k g f h (Call m es p) w t = (t.0, t.1, arguments_grown k g f h (params_of (own_method g m)) es w t.2)
  expression_grown k g f h (Send e m es p) w t =
      let same : sort_of (grown g f) e ≡ sort_of g e = sort_grown k g f h e w t.1 in (
        t.0,
        expression_grown k g f h e w t.1,
        rw same (destination_grown g f (sort_of g e) m (size es) t.2),
        rw same (arguments_grown (past (is_value e) k) g f (h + 1) (params_of (sent_method g (sort_of g e) m)) es w t.3),
      )
  expression_grown k g f h (Frame m u ss e qs) w t = (
    t.0,
    t.1,
    store_grown g f (temps_of_method (own_method g m)) u w t.2,
    statements_grown k (inside g m) f ss w t.3,
    expression_grown (past (is_done ss) k) (inside g m) f 0 e w t.4,
    rw (sort_grown (past (is_done ss) k) (inside g m) f 0 e w t.4) t.5,
    t.6,
    statements_grown (past (is_done ss) (past (is_value e) k)) (behind_value (inside g m)) f qs w t.7,
  )
  expression_grown k g f h (Wait b m) w t = (t.0, t.1, rw (object_kept g.object_class f b w t.2) t.2)

  pub arguments_grown : (k : Holds) (g : Scope) (f : ℕ → Option ℕ) (h : ℕ) (vs : List Var) (es : Expressions)
      → Grows g.object_class f → TypedArguments k g h vs es → TypedArguments k (grown g f) h vs es
  arguments_grown k g f h vs NoArgs w t = tt
  arguments_grown k g f h [] (Arg e es) w t = (
    expression_grown k g f h e w t.0,
    rw (sort_grown k g f h e w t.0) t.1,
    arguments_grown (past (is_value e) k) g f (h + 1) [] es w t.2,
  )
  arguments_grown k g f h (v ∷ vs) (Arg e es) w t = (
    expression_grown k g f h e w t.0,
    rw (sort_grown k g f h e w t.0) t.1,
    arguments_grown (past (is_value e) k) g f (h + 1) vs es w t.2,
  )

  pub statement_grown : (k : Holds) (g : Scope) (f : ℕ → Option ℕ) (s : Statement) → Grows g.object_class f
      → TypedStatement k g s → TypedStatement k (grown g f) s
  statement_grown k g f (Assign x p e) w t = (t.0, expression_grown k g f g.held e w t.1, rw (sort_grown k g f g.held e w t.1) t.2)
  statement_grown k g f (Write e) w t = (expression_grown k g f g.held e w t.0, rw (sort_grown k g f g.held e w t.0) t.1)
  statement_grown k g f (WriteText s) w t = tt
  statement_grown k g f (Do e) w t = expression_grown k g f g.held e w t
  statement_grown k g f (Async e m p es) w t =
      let same : sort_of (grown g f) e ≡ sort_of g e = sort_grown k g f g.held e w t.0 in (
        expression_grown k g f g.held e w t.0,
        rw same (destination_grown g f (sort_of g e) m (size es) t.1),
        rw same (arguments_grown (past (is_value e) k) g f (g.held + 1) (params_of (sent_method g (sort_of g e) m)) es w t.2),
      )
  statement_grown k g f (If e these those) w t = (
    expression_grown k g f g.held e w t.0,
    rw (sort_grown k g f g.held e w t.0) t.1,
    statements_grown Nothing g f these w t.2,
    statements_grown Nothing g f those w t.3,
  )
  statement_grown k g f (While e ss) w t =
      (expression_grown Nothing g f g.held e w t.0, rw (sort_grown Nothing g f g.held e w t.0) t.1, statements_grown Nothing g f ss w t.2)
  statement_grown k g f (Answer names) w t = rw (names_faults_grown g f [] names) t
  statement_grown k g f (Select alts) w t = alternatives_grown k g f g.held alts w t
  statement_grown k g f (Serve m o u ss e qs) w t = (
    t.0,
    store_grown g f (temps_of_method (own_method g m)) u w t.1,
    statements_grown k (inside g m) f ss w t.2,
    expression_grown (past (is_done ss) k) (inside g m) f 0 e w t.3,
    rw (sort_grown (past (is_done ss) k) (inside g m) f 0 e w t.3) t.4,
    t.5,
    statements_grown (past (is_done ss) (past (is_value e) (past (is_none o) k))) (behind_value (inside g m)) f qs w t.6,
  )

  pub statements_grown : (k : Holds) (g : Scope) (f : ℕ → Option ℕ) (ss : Statements) → Grows g.object_class f
      → TypedStatements k g ss → TypedStatements k (grown g f) ss
  statements_grown k g f Done w t = tt
  statements_grown k g f (Then s ss) w t = (statement_grown k g f s w t.0, statements_grown Nothing g f ss w t.1)

  pub alternatives_grown : (k : Holds) (g : Scope) (f : ℕ → Option ℕ) (i : ℕ) (alts : Alternatives) → Grows g.object_class f
      → TypedAlternatives k g i alts → TypedAlternatives k (grown g f) i alts
  alternatives_grown k g f i NoAlts w t = tt
  alternatives_grown k g f i (Alt e names ss alts) w t = (
    expression_grown k g f i e w t.0,
    rw (sort_grown k g f i e w t.0) t.1,
    rw (answer_faults_grown g f names) t.2,
    statements_grown Nothing g f ss w t.3,
    alternatives_grown (past (is_value e) k) g f (i + 1) alts w t.4,
  )
