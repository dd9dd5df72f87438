-- Facts at the redex of a typed object, and the parts of typing that a replacement of the redex keeps.
use Rattle.std.proofs.Common.{◌≡◌, refl, sym, ap, ◌∙◌, IsTrue, ℕ, List, [], ◌∷◌, ◌++◌, Option, Some, None, Bool, true, false, ◌==◌, if◌then◌else◌}
use Rattle.run_types.specs.declared.types.Value.{Value}
use Rattle.pool_syntax.specs.Terms.{Store, Expression, Statements, ProgramTree}
use Rattle.run_types.specs.Sorts.{Sort}
use Rattle.pool_syntax.specs.Typing.{Scope, value_sort, is_dangling}
use Rattle.pool_relation.specs.Reducible.{Reducible, Contractum, AsExpression, AsStatements, fill_statements}
use Rattle.pool_relation.specs.Action.{Object, literal}
use Rattle.pool_relation.specs.UnderWay.{Activity, Own, Serving, in_statements, served_for, serves}
use Rattle.pool_relation.proofs.typing.TypedTerm.{Holds, Methods, has_methods}
use Rattle.pool_relation.proofs.typing.Sorts.{MayBecome}
use Rattle.pool_relation.proofs.typing.AddedObjects.{Grows}
use Rattle.pool_relation.proofs.redex.TypedRedex.{at, AnExpression, Suits, Replacement, NewStatements}
use Rattle.pool_relation.proofs.action.TypedAction.{place, Steps}
use Rattle.pool_relation.proofs.redex.Activities.{Activities, Matches, in_part, is_statement}

pub put_front : {X : Type 0} (b : Bool) (m : X) (a c d : List X) → c ≡ a ++ d → (if b then m ∷ c else c) ≡ (if b then m ∷ a else a) ++ d
put_front true m a c d e = ap (λ l. m ∷ l) e
put_front false m a c d e = e

pub served-append : (q : ℕ) (a b : List Activity) → served_for q (a ++ b) ≡ served_for q a ++ served_for q b
served-append q [] b = refl
served-append q (Own m ∷ a) b = served-append q a b
served-append q (Serving m None ∷ a) b = served-append q a b
served-append q (Serving m (Some k) ∷ a) b = put_front (k == q) m (served_for q a) _ (served_for q b) (served-append q a b)

-- what is served stays where the part in the redex's place serves what the redex served
pub served_kept : {g : Scope} {r : Reducible} {old : List Activity} {new : Contractum → List Activity} (q : ℕ) (b : Activities g r old new) (x : Contractum)
    → Matches r x
    → served_for q b.now ≡ served_for q (in_part x) → served_for q (new x) ≡ served_for q old
served_kept q b x k e =
    ap (served_for q) (b.new_is x k) ∙ served-append q b.before (in_part x) ∙ ap (λ l. served_for q b.before ++ l) (sym e)
    ∙ sym (served-append q b.before b.now) ∙ ap (served_for q) (sym b.old_is)

pub grows_itself : (f : ℕ → Option ℕ) → Grows f f
grows_itself f = record { kept = λ n c e. e }

-- a spot at the redex of the object, in each scope with more objects
abbrev pub ReplacementAt : ProgramTree → (ℕ → Option ℕ) → Object → Reducible → Store → Type 0
ReplacementAt p f x r u = (j : Holds) (f' : ℕ → Option ℕ) → IsTrue (has_methods j) → Grows f f' → Replacement j (place p f' x) r u (NewStatements j (place p f' x) x.term)

abbrev pub ActivitiesAt : ProgramTree → (ℕ → Option ℕ) → Object → Reducible → Type 0
ActivitiesAt p f x r = Activities (place p f x) r (in_statements x.term) (λ y. in_statements (fill_statements x.term y))

-- the redex serves no one
abbrev pub ServesNone : {g : Scope} {r : Reducible} {old : List Activity} {new : Contractum → List Activity} → Activities g r old new → Type 0
ServesNone b = (q : ℕ) → served_for q b.now ≡ []

module _ (p : ProgramTree) (f : ℕ → Option ℕ) (x : Object) (r : Reducible) (u : Store) (replacement : ReplacementAt p f x r u) (activities : ActivitiesAt p f x r) (none : ServesNone activities) where
  -- an expression in the place of the redex
  pub expression_step : (f' : ℕ → Option ℕ) (w : Grows f f') (e : Expression) → is_statement r ≡ false
      → Suits Methods (at (place p f' x) (replacement Methods f' refl w).spot) r (AsExpression e)
      → ((q : ℕ) → served_for q (in_part (AsExpression e)) ≡ [])
      → Steps p f' x (fill_statements x.term (AsExpression e))
  expression_step f' w e i s n = ((replacement Methods f' refl w).filled (AsExpression e) s, λ q. served_kept q activities (AsExpression e) i (none q ∙ sym (n q)))

  -- statements
  pub statements_step : (ss : Statements) → is_statement r ≡ true
      → Suits Methods (at (place p f x) (replacement Methods f refl (grows_itself f)).spot) r (AsStatements ss)
      → ((q : ℕ) → serves q ss ≡ []) → Steps p f x (fill_statements x.term (AsStatements ss))
  statements_step ss i s n = ((replacement Methods f refl (grows_itself f)).filled (AsStatements ss) s, λ q. served_kept q activities (AsStatements ss) i (none q ∙ sym (n q)))

-- a value of the sort that is needed
pub a_value : (g : Scope) (s : Sort) (v : Value) → is_dangling g v ≡ false → MayBecome s (value_sort g v)
    → AnExpression Methods g s (AsExpression (literal v))
a_value g s v d b = (literal v, refl, (λ h room. (room, d)), b)
