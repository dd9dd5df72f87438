-- An object waits next only if its redex is a wait.
use Rattle.std.proofs.Common.{◌≡◌, refl, ap, ◌∙◌, ℕ, List, [], length, Option, Some, None, is_some, Bool, true, false, if◌then◌else◌, arith}
use Rattle.std.specs.List.{list_any}
use Rattle.run_types.specs.declared.types.Error.TheVariants.{NoOpenGuard, NilOperand}
use Rattle.run_types.specs.declared.types.Value.{Value}
use Rattle.run_types.specs.declared.types.Value.TheVariants as V
use Rattle.pool_syntax.specs.Terms.{Store, Statements, MethodTree, ProgramTree}
use Rattle.pool_syntax.specs.Classes.{class_of}
use Rattle.run_types.specs.Values.{Outcome, Gives, Fails, WrongSort, prefix_value, infix_value, is_nil, not_bool, is_true}
use Rattle.pool_relation.specs.Reducible as R
use Rattle.pool_relation.specs.Reducible.{Choice, Reducible, Found, Evaluated, At, Waiting, statements_redex}
use Rattle.pool_relation.specs.Action as A
use Rattle.pool_relation.specs.Action.{Object, Action, action, redex_action, found_action, on_outcome, read, on_call, on_assignment, on_branch, on_select, on_finish, value_of, method_of}
use Rattle.pool_relation.proofs.typing.TypedTerm.{Methods, TypedStatements}
use Rattle.pool_relation.proofs.redex.NoWait.{statements_no_wait}
use Rattle.pool_relation.proofs.action.TypedAction.{place}

abbrev pub is_waits : Action → Bool
is_waits (A.Waits b m) = true
is_waits _ = false

outcome_waits : (x : Object) (a : Outcome) → is_waits (on_outcome x a) ≡ false
outcome_waits x (Gives v) = refl
outcome_waits x (Fails e) = refl
outcome_waits x WrongSort = refl

read_waits : (x : Object) (a b : Option Value) → is_waits (read x a b) ≡ false
read_waits x (Some v) b = refl
read_waits x None (Some v) = refl
read_waits x None None = refl

call_waits : (x : Object) (args : List Value) (m : Option MethodTree) → is_waits (on_call x args m) ≡ false
call_waits x args None = refl
call_waits x args (Some m) = refl

chosen_waits : (b : Bool) (k l : Action) → is_waits k ≡ false → is_waits l ≡ false → is_waits (if b then k else l) ≡ false
chosen_waits true k l p q = p
chosen_waits false k l p q = q

branch_waits : (x : Object) (v : Value) (these those : Statements) → is_waits (on_branch x v these those) ≡ false
branch_waits x (V.Bool true) these those = refl
branch_waits x (V.Bool false) these those = refl
branch_waits x (V.Int z) these those = refl
branch_waits x (V.Ref n) these those = refl
branch_waits x V.Nil these those = refl

waits_only : (p : ProgramTree) (o : ℕ) (x : Object) (u : Store) (r : Reducible) (b m : ℕ) → redex_action p o x u r ≡ A.Waits b m
    → r ≡ Waiting b m
waits_only p o x u r b m e = by r (ap is_waits e) e
  where
    no : (a : Action) → is_waits a ≡ true → is_waits a ≡ false → ⊥
    no a i j = absurd (grind (arith, i, j))

    by : (s : Reducible) → is_waits (redex_action p o x u s) ≡ true → redex_action p o x u s ≡ A.Waits b m → s ≡ Waiting b m
    by R.OwnName i k = absurd (grind (arith, i))
    by (R.Read n) i k = absurd (no _ i (read_waits x (value_of u n) (value_of x.vars n)))
    by (R.Make c) i k = absurd (no _ i (chosen_waits (is_some (class_of p c)) (A.New c) A.Stuck refl refl))
    by (R.Unary op v) i k = absurd (no _ i (outcome_waits x (prefix_value op v)))
    by (R.Binary op v w) i k = absurd (no _ i (outcome_waits x (infix_value op v w)))
    by (R.Invoke n args) i k = absurd (no _ i (call_waits x args (method_of p x.class n (length args))))
    by (R.SynchronousSend (V.Ref n) q args) i k = absurd (grind (arith, i))
    by (R.SynchronousSend (V.Int z) q args) i k = absurd (grind (arith, i))
    by (R.SynchronousSend (V.Bool z) q args) i k = absurd (grind (arith, i))
    by (R.SynchronousSend V.Nil q args) i k = absurd (grind (arith, i))
    by (R.Leave v) i k = absurd (grind (arith, i))
    by (R.Waiting c n) i k = let f : c ≡ b = cc in let g : n ≡ m = cc in cc
    by (R.Set n v) i k = absurd (no _ i (chosen_waits (is_some (value_of u n)) _ _ refl (chosen_waits (is_some (value_of x.vars n)) _ _ refl refl)))
    by (R.Print item) i k = absurd (grind (arith, i))
    by (R.Drop v) i k = absurd (grind (arith, i))
    by (R.Post (V.Ref n) q args) i k = absurd (grind (arith, i))
    by (R.Post (V.Int z) q args) i k = absurd (grind (arith, i))
    by (R.Post (V.Bool z) q args) i k = absurd (grind (arith, i))
    by (R.Post V.Nil q args) i k = absurd (grind (arith, i))
    by (R.Branch v these those) i k = absurd (no _ i (branch_waits x v these those))
    by (R.Loop c ss) i k = absurd (grind (arith, i))
    by (R.Accept names) i k = absurd (grind (arith, i))
    by (R.Choose cs) i k =
        absurd (no _ i (chosen_waits (list_any (λ c. is_nil c.guard) cs) (A.Fault NilOperand) _ refl
        (chosen_waits (list_any (λ c. not_bool c.guard) cs) A.Stuck _ refl (chosen_waits (list_any (λ c. is_true c.guard) cs) (A.Select cs) (A.Fault NoOpenGuard) refl refl))))
    by (R.Finish None v work) i k = absurd (grind (arith, i))
    by (R.Finish (Some c) v work) i k = absurd (grind (arith, i))

-- an object in whose term no wait stands does not wait
pub does_not_wait : (p : ProgramTree) (f : ℕ → Option ℕ) (o : ℕ) (x : Object) → TypedStatements Methods (place p f x) x.term
    → (b m : ℕ) → ¬ (action p o x ≡ A.Waits b m)
does_not_wait p f o x d b m e = by (statements_redex [] x.term) refl e
  where
    by : (a : Found (Unit {0})) → statements_redex [] x.term ≡ a → found_action p o x a ≡ A.Waits b m → ⊥
    by (Evaluated v) q i = absurd (grind (arith, ap is_waits i))
    by (At r u) q i =
        let s : r ≡ Waiting b m = waits_only p o x u r b m i in
        statements_no_wait Methods (place p f x) [] x.term refl d b m u (q ∙ ap (λ r. At r u) s)
