-- The next action of a typed object whose redex is a statement or a send.
use Rattle.std.proofs.Common.{◌≡◌, refl, sym, ap, ◌∙◌, subst, IsTrue, ℕ, List, [], ◌∷◌, ◌++◌, append-nil, Option, Some, None, Bool, true, false, if◌then◌else◌, arith}
use Rattle.std.specs.List.{list_any}
use Rattle.run_types.specs.declared.types.Error.TheVariants.{NoOpenGuard}
use Rattle.run_types.specs.declared.types.Value.{Value}
use Rattle.run_types.specs.declared.types.Item.{Item}
use Rattle.pool_syntax.specs.declared.tree.Named.{Named}
use Rattle.pool_syntax.specs.declared.tree.Var.{Var}
use Rattle.pool_syntax.specs.Terms as T
use Rattle.pool_syntax.specs.Terms.{Store, Expression, Statements, MethodTree, ClassTree, ProgramTree, append}
use Rattle.pool_syntax.specs.Classes.{class_of}
use Rattle.pool_syntax.specs.Typing.{var_of, kind_sort, Scope, value_sort, vars_of_class, name_sort}
use Rattle.run_types.specs.Values.{is_nil, not_bool, is_true}
use Rattle.pool_relation.specs.Reducible as R
use Rattle.pool_relation.specs.Reducible.{Choice, Reducible, Found, Evaluated, At, Contractum, AsExpression, AsStatements, fill_statements, statements_redex}
use Rattle.pool_relation.specs.Action as A
use Rattle.pool_relation.specs.Action.{Object, Action, action, redex_action, found_action, method_of, method_in, with_count, temps_of, value_of, on_assignment, on_branch, on_select, literal, becomes, becomes_value, on_outcome, read}
use Rattle.pool_relation.specs.Transition.{returned, work_left}
use Rattle.pool_relation.specs.UnderWay.{in_statements, served_for, serves}
use Rattle.pool_relation.proofs.typing.TypedTerm.{Nothing, Methods, fits_need, TypedStatements}
use Rattle.pool_relation.proofs.typing.DeclaredStores.{Known, set_fits, Valued, Has, Lacks, valued}
use Rattle.pool_relation.proofs.redex.TypedRedex.{at, TypedChoices, Suits, Replacement, NewStatements}
use Rattle.pool_relation.proofs.typing.Weakening.{nothing_below, expression_weaker, statements_weaker, append_typed}
use Rattle.pool_relation.proofs.typing.Outcomes.{IsTruth, Truth, NoTruth, truth_is}
use Rattle.pool_relation.proofs.action.TypedAction.{place, VarsFit, Steps, TakesStatements, TypedAction}
use Rattle.pool_relation.proofs.redex.Idle.{statements_idle, expression_idle}
use Rattle.pool_relation.proofs.redex.Activities.{is_statement}
use Rattle.pool_relation.proofs.action.AtRedex.{served-append, grows_itself, ReplacementAt, ActivitiesAt, statements_step}

pub set_typed : (p : ProgramTree) (f : ℕ → Option ℕ) (x : Object) (o n : ℕ) (v : Value) (u : Store) → Known p (class_of p x.class)
    → VarsFit p f x x.vars
    → ReplacementAt p f x (R.Set n v) u → ActivitiesAt p f x (R.Set n v) → TypedAction p f x (redex_action p o x u (R.Set n v))
set_typed p f x o n v u known vars replacement activities = by (valued (place p f x) sp.spot.temps u n sp.store) (valued (place p f x) (vars_of_class (class_of p x.class)) x.vars n vars)
  where
    sp : Replacement Methods (place p f x) (R.Set n v) u (NewStatements Methods (place p f x) x.term)
    sp = replacement Methods f refl (grows_itself f)

    step : Steps p f x (fill_statements x.term (AsStatements T.Done))
    step = statements_step p f x (R.Set n v) u replacement activities (λ q. rw activities.ends refl) T.Done refl (T.Done, refl, tt) (λ q. refl)

    by : Valued (place p f x) sp.spot.temps u n → Valued (place p f x) (vars_of_class (class_of p x.class)) x.vars n
        → TypedAction p f x (on_assignment x u n v)
    by (Has y w e i fit) own = rw i (step, vars)
    by (Lacks e i) (Has y w k l fit) =
        let kind : name_sort (at (place p f x) sp.spot) n ≡ kind_sort p y.kind = rw (e, k) refl in
        let need : (z : Var) → var_of (vars_of_class (class_of p x.class)) n ≡ Some z → IsTrue (fits_need (value_sort (place p f x) v) (kind_sort p z.kind)) =
        λ z c. let a : y ≡ z = cc in rw (← a) (rw kind at sp.typed.2) in
        rw (i, l) (step, set_fits (place p f x) (vars_of_class (class_of p x.class)) x.vars n v known.vars sp.typed.1 need vars)
    by (Lacks e i) (Lacks k l) = absurd (grind (arith, rw (e, k) at sp.typed.0))

pub print_typed : (p : ProgramTree) (f : ℕ → Option ℕ) (x : Object) (o : ℕ) (item : Item) (u : Store)
    → ReplacementAt p f x (R.Print item) u → ActivitiesAt p f x (R.Print item) → TypedAction p f x (redex_action p o x u (R.Print item))
print_typed p f x o item u replacement activities = statements_step p f x (R.Print item) u replacement activities (λ q. rw activities.ends refl) T.Done refl (T.Done, refl, tt) (λ q. refl)

pub drop_typed : (p : ProgramTree) (f : ℕ → Option ℕ) (x : Object) (o : ℕ) (v : Value) (u : Store) → VarsFit p f x x.vars
    → ReplacementAt p f x (R.Drop v) u → ActivitiesAt p f x (R.Drop v) → TypedAction p f x (redex_action p o x u (R.Drop v))
drop_typed p f x o v u vars replacement activities = (statements_step p f x (R.Drop v) u replacement activities (λ q. rw activities.ends refl) T.Done refl (T.Done, refl, tt) (λ q. refl), vars)

pub branch_typed : (p : ProgramTree) (f : ℕ → Option ℕ) (x : Object) (o : ℕ) (v : Value) (these those : Statements) (u : Store)
    → VarsFit p f x x.vars
    → ReplacementAt p f x (R.Branch v these those) u → ActivitiesAt p f x (R.Branch v these those)
    → TypedAction p f x (redex_action p o x u (R.Branch v these those))
branch_typed p f x o v these those u vars replacement activities = by (truth_is (place p f x) v sp.typed.0 sp.typed.1)
  where
    sp : Replacement Methods (place p f x) (R.Branch v these those) u (NewStatements Methods (place p f x) x.term)
    sp = replacement Methods f refl (grows_itself f)

    chosen : (ss : Statements) → TypedStatements Nothing (at (place p f x) sp.spot) ss → TypedAction p f x (becomes x (AsStatements ss))
    chosen ss d = (
      statements_step p f x (R.Branch v these those) u replacement activities (λ q. rw activities.ends refl) ss refl (ss, refl, statements_weaker Nothing Methods (at (place p f x) sp.spot) ss (nothing_below Methods) d)
          (λ q. rw (statements_idle (at (place p f x) sp.spot) ss d) refl),
      vars,
    )

    by : IsTruth v → TypedAction p f x (on_branch x v these those)
    by (Truth true e) = rw e (chosen these sp.typed.2)
    by (Truth false e) = rw e (chosen those sp.typed.3)
    by (NoTruth e) = rw e tt

pub loop_typed : (p : ProgramTree) (f : ℕ → Option ℕ) (x : Object) (o : ℕ) (e : Expression) (ss : Statements) (u : Store)
    → VarsFit p f x x.vars
    → ReplacementAt p f x (R.Loop e ss) u → ActivitiesAt p f x (R.Loop e ss) → TypedAction p f x (redex_action p o x u (R.Loop e ss))
loop_typed p f x o e ss u vars replacement activities =
    let sp = replacement Methods f refl (grows_itself f) in
    let g : Scope = at (place p f x) sp.spot in
    let again : TypedStatements Nothing g (append ss (T.Then (T.While e ss) T.Done)) = append_typed Nothing g ss (T.Then (T.While e ss) T.Done) sp.typed.2 (sp.typed, tt) in
    let new : TypedStatements Methods g (T.Then (T.If e (append ss (T.Then (T.While e ss) T.Done)) T.Done) T.Done) =
    ((expression_weaker Nothing Methods g g.held e (nothing_below Methods) sp.typed.0, sp.typed.1, again, tt), tt) in (
      statements_step p f x (R.Loop e ss) u replacement activities (λ q. rw activities.ends refl) (T.Then (T.If e (append ss (T.Then (T.While e ss) T.Done)) T.Done) T.Done) refl
          (T.Then (T.If e (append ss (T.Then (T.While e ss) T.Done)) T.Done) T.Done, refl, new) (λ q. rw (expression_idle g g.held e sp.typed.0) refl),
      vars,
    )

pub takes_statements : (p : ProgramTree) (f : ℕ → Option ℕ) (x : Object) (r : Reducible) (u : Store) (sp : Replacement Methods (place p f x) r u (NewStatements Methods (place p f x) x.term))
    → ((ss : Statements) → TypedStatements Methods (at (place p f x) sp.spot) ss → Suits Methods (at (place p f x) sp.spot) r (AsStatements ss))
    → (activities : ActivitiesAt p f x r) → activities.now ≡ [] → is_statement r ≡ true → TakesStatements p f x sp.spot
takes_statements p f x r u sp suits activities none i =
    let old : in_statements x.term ≡ activities.before = activities.old_is ∙ ap (λ l. activities.before ++ l) none ∙ append-nil activities.before in (
      (λ ss d. sp.filled (AsStatements ss) (suits ss d)),
      (λ ss q. ap (served_for q) (activities.new_is (AsStatements ss) i) ∙ served-append q activities.before (in_statements ss)
          ∙ ap (λ l. served_for q l ++ serves q ss) (sym old)),
    )

pub accept_typed : (p : ProgramTree) (f : ℕ → Option ℕ) (x : Object) (o : ℕ) (names : List Named) (u : Store)
    → ReplacementAt p f x (R.Accept names) u → ActivitiesAt p f x (R.Accept names) → TypedAction p f x (redex_action p o x u (R.Accept names))
accept_typed p f x o names u replacement activities =
    let sp = replacement Methods f refl (grows_itself f) in
    (sp.spot, takes_statements p f x (R.Accept names) u sp (λ ss d. (ss, refl, d)) activities activities.ends refl)

-- guards that are neither nil nor of a wrong sort are truth values
pub all_truths : (g : Scope) (cs : List Choice) → TypedChoices g cs → list_any (λ c. is_nil c.guard) cs ≡ false
    → list_any (λ c. not_bool c.guard) cs ≡ false
all_truths g [] d h = refl
all_truths g (c ∷ cs) d h = by (truth_is g c.guard d.0 d.1) (all_truths g cs d.4)
  where
    by : IsTruth c.guard → (list_any (λ c. is_nil c.guard) cs ≡ false → list_any (λ c. not_bool c.guard) cs ≡ false)
        → list_any (λ c. not_bool c.guard) (c ∷ cs) ≡ false
    by (Truth b e) rest = rw e (rest (rw e at h))
    by (NoTruth e) rest = absurd (grind (arith, rw e at h))

pub choose_typed : (p : ProgramTree) (f : ℕ → Option ℕ) (x : Object) (o : ℕ) (cs : List Choice) (u : Store)
    → ReplacementAt p f x (R.Choose cs) u → ActivitiesAt p f x (R.Choose cs) → TypedAction p f x (redex_action p o x u (R.Choose cs))
choose_typed p f x o cs u replacement activities = by (list_any (λ c. is_nil c.guard) cs) refl (list_any (λ c. is_true c.guard) cs)
  where
    sp : Replacement Methods (place p f x) (R.Choose cs) u (NewStatements Methods (place p f x) x.term)
    sp = replacement Methods f refl (grows_itself f)

    open_one : (b : Bool) → TypedAction p f x (if b then A.Select cs else A.Fault NoOpenGuard)
    open_one true = (sp.spot, sp.typed, takes_statements p f x (R.Choose cs) u sp (λ ss d. (ss, refl, d)) activities activities.ends refl)
    open_one false = tt

    by : (a : Bool) → list_any (λ c. is_nil c.guard) cs ≡ a → Bool → TypedAction p f x (on_select cs)
    by true e b = rw e tt
    by false e b = rw (e, all_truths (at (place p f x) sp.spot) cs sp.typed e) (open_one (list_any (λ c. is_true c.guard) cs))

pub finish_typed : (p : ProgramTree) (f : ℕ → Option ℕ) (x : Object) (o : ℕ) (c : Option ℕ) (v : Value) (work : Statements) (u : Store) → VarsFit p f x x.vars
    → statements_redex [] x.term ≡ At (R.Finish c v work) u
    → ReplacementAt p f x (R.Finish c v work) u → ActivitiesAt p f x (R.Finish c v work) → TypedAction p f x (redex_action p o x u (R.Finish c v work))
finish_typed p f x o None v work u vars i replacement activities =
    (statements_step p f x (R.Finish None v work) u replacement activities (λ q. rw activities.ends.1 refl) work refl refl activities.ends.3, vars)
finish_typed p f x o (Some k) v work u vars i replacement activities =
    let sp = replacement Methods f refl (grows_itself f) in
    let e = activities.ends in
    let is : (returned x).term ≡ fill_statements x.term (AsStatements work) = ap (λ a. fill_statements x.term (AsStatements (work_left a))) i in (
      e.0,
      activities.before,
      subst (TypedStatements Methods (place p f x)) (sym is) (sp.filled (AsStatements work) refl),
      (λ q. ap (served_for q) activities.old_is ∙ served-append q activities.before activities.now ∙ ap (λ l. served_for q activities.before ++ served_for q l) e.1),
      (λ q. ap (λ ss. serves q ss) is ∙ ap (served_for q) (activities.new_is (AsStatements work) refl) ∙ served-append q activities.before (in_statements work)
          ∙ ap (λ l. served_for q activities.before ++ l) (e.3 q) ∙ append-nil (served_for q activities.before)),
      sp.typed,
      e.2,
    )
