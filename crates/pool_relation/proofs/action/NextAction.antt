-- A typed object's next action, for each redex.
use Rattle.std.proofs.Common.{◌≡◌, refl, IsTrue, ℕ, [], Option, Some}
use Rattle.pool_syntax.specs.Terms.{Store, ProgramTree}
use Rattle.pool_syntax.specs.Classes.{class_of}
use Rattle.pool_syntax.specs.Typing.{faults}
use Rattle.pool_relation.specs.Reducible as R
use Rattle.pool_relation.specs.Reducible.{Choice, Reducible, Found, Evaluated, At, Contractum, AsExpression, AsStatements, fill_statements, statements_redex}
use Rattle.pool_relation.specs.Action.{Object, action, redex_action, found_action}
use Rattle.pool_syntax.specs.Written.{is_written}
use Rattle.pool_relation.proofs.typing.TypedTerm.{Waits}
use Rattle.pool_relation.proofs.typing.AddedObjects.{statements_grown}
use Rattle.pool_relation.proofs.typing.DeclaredStores.{Known}
use Rattle.pool_relation.proofs.action.TypedAction.{place, VarsFit, TypedAction, TypedObject}
use Rattle.pool_relation.proofs.typing.CheckedProgram.{class_known}
use Rattle.pool_relation.proofs.redex.Replacement.{statements_at}
use Rattle.pool_relation.proofs.redex.TermActivities.{statements_activities}
use Rattle.pool_relation.proofs.action.AtRedex.{ReplacementAt, ActivitiesAt}
use Rattle.pool_relation.proofs.action.ExpressionActions.{own_name_typed, read_typed, make_typed, unary_typed, binary_typed, invoke_typed, request_typed, post_typed, waiting_typed, leave_typed}
use Rattle.pool_relation.proofs.action.StatementActions.{set_typed, print_typed, drop_typed, branch_typed, loop_typed, accept_typed, choose_typed, finish_typed}

-- by redex
redex_action_typed : (p : ProgramTree) (f : ℕ → Option ℕ) (x : Object) (o : ℕ) (r : Reducible) (u : Store) → faults p ≡ []
    → IsTrue (is_written p) → f o ≡ Some x.class
    → Known p (class_of p x.class) → VarsFit p f x x.vars → statements_redex [] x.term ≡ At r u
    → ReplacementAt p f x r u → ActivitiesAt p f x r → TypedAction p f x (redex_action p o x u r)
redex_action_typed p f x o R.OwnName u none written here known vars q replacement activities = own_name_typed p f x o u vars here replacement activities
redex_action_typed p f x o (R.Read n) u none written here known vars q replacement activities = read_typed p f x o n u vars replacement activities
redex_action_typed p f x o (R.Make c) u none written here known vars q replacement activities = make_typed p f x o c u replacement activities
redex_action_typed p f x o (R.Unary op v) u none written here known vars q replacement activities = unary_typed p f x o op v u vars replacement activities
redex_action_typed p f x o (R.Binary op v w) u none written here known vars q replacement activities = binary_typed p f x o op v w u vars replacement activities
redex_action_typed p f x o (R.Invoke m args) u none written here known vars q replacement activities = invoke_typed p f x o m args u none written vars replacement activities
redex_action_typed p f x o (R.SynchronousSend v m args) u none written here known vars q replacement activities = request_typed p f x o v m args u q replacement activities
redex_action_typed p f x o (R.Leave v) u none written here known vars q replacement activities = leave_typed p f x o v u vars replacement activities
redex_action_typed p f x o (R.Waiting b m) u none written here known vars q replacement activities = waiting_typed p f x o b m u replacement activities
redex_action_typed p f x o (R.Set n v) u none written here known vars q replacement activities = set_typed p f x o n v u known vars replacement activities
redex_action_typed p f x o (R.Print item) u none written here known vars q replacement activities = print_typed p f x o item u replacement activities
redex_action_typed p f x o (R.Drop v) u none written here known vars q replacement activities = drop_typed p f x o v u vars replacement activities
redex_action_typed p f x o (R.Post v m args) u none written here known vars q replacement activities = post_typed p f x o v m args u replacement activities
redex_action_typed p f x o (R.Branch v these those) u none written here known vars q replacement activities = branch_typed p f x o v these those u vars replacement activities
redex_action_typed p f x o (R.Loop e ss) u none written here known vars q replacement activities = loop_typed p f x o e ss u vars replacement activities
redex_action_typed p f x o (R.Accept names) u none written here known vars q replacement activities = accept_typed p f x o names u replacement activities
redex_action_typed p f x o (R.Choose cs) u none written here known vars q replacement activities = choose_typed p f x o cs u replacement activities
redex_action_typed p f x o (R.Finish c v work) u none written here known vars q replacement activities = finish_typed p f x o c v work u vars q replacement activities

-- the next action of a typed object
pub action_typed : (p : ProgramTree) (f : ℕ → Option ℕ) (x : Object) (o : ℕ) → faults p ≡ [] → IsTrue (is_written p)
    → f o ≡ Some x.class → TypedObject p f x → TypedAction p f x (action p o x)
action_typed p f x o none written here object = by (statements_redex [] x.term) refl
  where
    known : Known p (class_of p x.class)
    known = class_known p x.class none written

    by : (a : Found (Unit {0})) → statements_redex [] x.term ≡ a → TypedAction p f x (found_action p o x a)
    by (Evaluated v) q = tt
    by (At r u) q =
        redex_action_typed p f x o r u none written here known object.vars q
        (λ j f' m w. statements_at j m (place p f' x) [] x.term known refl refl (statements_grown Waits (place p f x) f' x.term w object.term) r u q)
        (statements_activities (place p f x) [] x.term object.term r u q)
