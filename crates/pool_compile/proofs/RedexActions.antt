-- The next action at each redex, except a fault or a stuck one.
use Rattle.std.proofs.Common.{◌≡◌, refl, subst, ℕ, ◌==◌, List, length, Option, Some, None, is_some, Bool, true, false, arith}
use Rattle.std.specs.Prelude.{if◌then◌else◌, ◌||◌}
use Rattle.std.specs.List.{list_any}
use Rattle.run_types.specs.declared.types.Value.{Value}
use Rattle.run_types.specs.declared.types.Value.TheVariants as V
use Rattle.run_types.specs.declared.types.Error.TheVariants.{NilDestination, NilOperand, NoOpenGuard}
use Rattle.pool_syntax.specs.Terms.{Store, Statements, MethodTree, ProgramTree}
use Rattle.pool_syntax.specs.Classes.{class_of}
use Rattle.run_types.specs.Values.{Outcome, Gives, Fails, WrongSort, prefix_value, infix_value, is_nil, not_bool, is_true}
use Rattle.pool_relation.specs.Reducible as R
use Rattle.pool_relation.specs.Reducible.{Choice, Reducible}
use Rattle.pool_relation.specs.Action as A
use Rattle.pool_relation.specs.Action.{Object, Action, redex_action, on_object, on_outcome, read, on_call, on_assignment, on_branch, on_select, value_of, method_of}

abbrev pub tag : Action → ℕ
tag A.Finished = 0
tag (A.Local t v) = 1
tag (A.Fault e) = 2
tag (A.New c) = 3
tag (A.Send b m args) = 4
tag (A.Async b m args) = 5
tag (A.Write i) = 6
tag (A.Answer ns) = 7
tag (A.Select cs) = 8
tag (A.Return w v) = 9
tag (A.Waits b m) = 10
tag A.Stuck = 11

abbrev pub tag_of : Reducible → ℕ
tag_of (R.Make c) = 3
tag_of (R.SynchronousSend v m args) = 4
tag_of (R.Post v m args) = 5
tag_of (R.Print i) = 6
tag_of (R.Accept ns) = 7
tag_of (R.Choose cs) = 8
tag_of (R.Finish (Some w) v work) = 9
tag_of (R.Waiting b m) = 10
tag_of _ = 1

abbrev pub Fine : ℕ → Action → Type 0
Fine n a = (tag a == n || (tag a == 2 || tag a == 11)) ≡ true

fine_if : (n : ℕ) (b : Bool) (x y : Action) → Fine n x → Fine n y → Fine n (if b then x else y)
fine_if n true x y p q = p
fine_if n false x y p q = q

fine_outcome : (x : Object) (a : Outcome) → Fine 1 (on_outcome x a)
fine_outcome x (Gives v) = refl
fine_outcome x (Fails e) = refl
fine_outcome x WrongSort = refl

fine_read : (x : Object) (a b : Option Value) → Fine 1 (read x a b)
fine_read x (Some v) b = refl
fine_read x None (Some v) = refl
fine_read x None None = refl

fine_call : (x : Object) (args : List Value) (m : Option MethodTree) → Fine 1 (on_call x args m)
fine_call x args None = refl
fine_call x args (Some m) = refl

fine_object : (n : ℕ) (v : Value) (go : ℕ → Action) → Fine n A.Stuck → Fine n (A.Fault NilDestination) → ((b : ℕ) → Fine n (go b)) → Fine n (on_object v go)
fine_object n (V.Ref b) go p q f = f b
fine_object n V.Nil go p q f = q
fine_object n (V.Int z) go p q f = p
fine_object n (V.Bool b) go p q f = p

fine_branch : (x : Object) (v : Value) (a b : Statements) → Fine 1 (on_branch x v a b)
fine_branch x (V.Bool true) a b = refl
fine_branch x (V.Bool false) a b = refl
fine_branch x V.Nil a b = refl
fine_branch x (V.Int z) a b = refl
fine_branch x (V.Ref n) a b = refl

fine_at : (p : ProgramTree) (o : ℕ) (x : Object) (t : Store) (r : Reducible) → Fine (tag_of r) (redex_action p o x t r)
fine_at p o x t R.OwnName = refl
fine_at p o x t (R.Read n) = fine_read x (value_of t n) (value_of x.vars n)
fine_at p o x t (R.Make c) = fine_if 3 (is_some (class_of p c)) (A.New c) A.Stuck refl refl
fine_at p o x t (R.Unary op v) = fine_outcome x (prefix_value op v)
fine_at p o x t (R.Binary op v w) = fine_outcome x (infix_value op v w)
fine_at p o x t (R.Invoke m args) = fine_call x args (method_of p x.class m (length args))
fine_at p o x t (R.SynchronousSend v m args) = fine_object 4 v (λ b. A.Send b m args) refl refl (λ b. refl)
fine_at p o x t (R.Leave v) = refl
fine_at p o x t (R.Waiting b m) = refl
fine_at p o x t (R.Set n v) = fine_if 1 (is_some (value_of t n)) _ _ refl (fine_if 1 (is_some (value_of x.vars n)) _ A.Stuck refl refl)
fine_at p o x t (R.Print i) = refl
fine_at p o x t (R.Drop v) = refl
fine_at p o x t (R.Post v m args) = fine_object 5 v (λ b. A.Async b m args) refl refl (λ b. refl)
fine_at p o x t (R.Branch v a b) = fine_branch x v a b
fine_at p o x t (R.Loop e ss) = refl
fine_at p o x t (R.Accept ns) = refl
fine_at p o x t (R.Choose cs) =
    fine_if 8 (list_any (λ c. is_nil c.guard) cs) (A.Fault NilOperand) _ refl
    (fine_if 8 (list_any (λ c. not_bool c.guard) cs) A.Stuck _ refl
    (fine_if 8 (list_any (λ c. is_true c.guard) cs) (A.Select cs) (A.Fault NoOpenGuard) refl refl))
fine_at p o x t (R.Finish None v work) = refl
fine_at p o x t (R.Finish (Some w) v work) = refl

by_tag : (m n : ℕ) (b d : Bool) → (m == n) ≡ b → (b || d) ≡ true → d ≡ false → m ≡ n
by_tag m n true d e f q = let i : m ≡ n = grind (arith, e) in i
by_tag m n false d e f q = absurd (grind (arith, f, q))

-- what is done tells the redex
pub tag_is : (p : ProgramTree) (o : ℕ) (x : Object) (t : Store) (r : Reducible) (a : Action) → redex_action p o x t r ≡ a → (tag a == 2 || tag a == 11) ≡ false → tag a ≡ tag_of r
tag_is p o x t r a e q =
    by_tag (tag a) (tag_of r) (tag a == tag_of r) (tag a == 2 || tag a == 11) refl (subst (Fine (tag_of r)) e (fine_at p o x t r)) q
