-- The next action of a renamed object is the renamed action.
use Rattle.std.proofs.Common.{◌≡◌, refl, ap, ◌∙◌, ℕ, ℤ, pos, negsuc, zero, suc, List, [], ◌∷◌, ◌++◌, length, map, option_map, Option, Some, None, is_some, Bool, true, false, not, ◌==◌}
use Rattle.std.specs.Prelude.{int_div, int_rem, neg_ℤ, ◌+ℤ◌, ◌-ℤ◌, ◌*ℤ◌}
use Rattle.std.specs.List.{list_any}
use Rattle.std.proofs.lemmas.List.{length-map}
use Rattle.run_types.specs.declared.types.Value.{Value}
use Rattle.run_types.specs.declared.types.Value.TheVariants as V
use Rattle.run_types.specs.declared.types.Op.{Op}
use Rattle.run_types.specs.declared.types.Op.TheVariants as O
use Rattle.run_types.specs.declared.types.Error.TheVariants.{Overflow}
use Rattle.pool_syntax.specs.declared.tree.Var.{Var}
use Rattle.pool_syntax.specs.Terms as T
use Rattle.pool_syntax.specs.Terms.{Store, Statements, MethodTree, ClassTree, ProgramTree, append}
use Rattle.pool_syntax.specs.Classes.{class_of, named_method}
use Rattle.run_types.specs.Values.{Outcome, Gives, Fails, WrongSort, is_in_range, number, truth, quotient, remainder, is_same, on_ints, on_bools, prefix_value, infix_value, negated, denied, is_nil, not_bool, is_true}
use Rattle.pool_relation.specs.Reducible as R
use Rattle.pool_relation.specs.Reducible.{Choice, Reducible, Found, Evaluated, At, Contractum, AsExpression, AsStatements, set_value, fill_statements, statements_redex}
use Rattle.pool_relation.specs.Action as A
use Rattle.pool_relation.specs.Action.{Object, Action, value_of, with_count, method_in, method_of, nil_store, bind, temps_of, literal, becomes, becomes_value, on_outcome, read, on_call, on_object, on_assignment, on_branch, on_select, on_finish, redex_action, found_action, action}
use Rattle.search_laws.specs.Renamed.{renamed_value, renamed_store, renamed_name, renamed_item, renamed_expression, renamed_statements, renamed_method, renamed_class, renamed_program, renamed_object}
use Rattle.search_laws.proofs.RenamedRedex.{renamed_choice, renamed_reducible, renamed_found, nothing_renamed, renamed_part, statements_found}
use Rattle.search_laws.proofs.RenamedFill.{either_way, append_renamed, set_renamed, statements_filled}

abbrev pub renamed_action : (ℕ → ℕ) → Action → Action
renamed_action f A.Finished = A.Finished
renamed_action f (A.Local term vars) = A.Local (renamed_statements f term) (renamed_store f vars)
renamed_action f (A.Fault e) = A.Fault e
renamed_action f (A.New c) = A.New c
renamed_action f (A.Send b m args) = A.Send (f b) m (map (renamed_value f) args)
renamed_action f (A.Async b m args) = A.Async (f b) m (map (renamed_value f) args)
renamed_action f (A.Write item) = A.Write (renamed_item f item)
renamed_action f (A.Answer names) = A.Answer names
renamed_action f (A.Select cs) = A.Select (map (renamed_choice f) cs)
renamed_action f (A.Return k v) = A.Return (f k) (renamed_value f v)
renamed_action f (A.Waits b m) = A.Waits (f b) m
renamed_action f A.Stuck = A.Stuck

abbrev renamed_outcome : (ℕ → ℕ) → Outcome → Outcome
renamed_outcome f (Gives v) = Gives (renamed_value f v)
renamed_outcome f (Fails e) = Fails e
renamed_outcome f WrongSort = WrongSort

any_map : {A B : Type 0} (g : A → B) (t : B → Bool) (u : A → Bool) (xs : List A) → ((x : A) → t (g x) ≡ u x) → list_any t (map g xs) ≡ list_any u xs
any_map g t u [] e = refl
any_map g t u (x ∷ xs) e = rw (e x, any_map g t u xs e) refl

module _ (f : ℕ → ℕ) (one : (m n : ℕ) → (f m == f n) ≡ (m == n)) where
  -- operators see of a name only whether it is the same
  number_plain : (z : ℤ) → number z ≡ renamed_outcome f (number z)
  number_plain z = either_way (renamed_outcome f) (is_in_range z) (is_in_range z) _ _ (Gives (V.Int z)) (Fails Overflow) refl refl refl

  pub same_kept : (v w : Value) → is_same (renamed_value f v) (renamed_value f w) ≡ is_same v w
  same_kept (V.Ref m) (V.Ref n) = one m n
  same_kept (V.Ref m) (V.Int y) = refl
  same_kept (V.Ref m) (V.Bool y) = refl
  same_kept (V.Ref m) V.Nil = refl
  same_kept (V.Int x) (V.Ref n) = refl
  same_kept (V.Int x) (V.Int y) = refl
  same_kept (V.Int x) (V.Bool y) = refl
  same_kept (V.Int x) V.Nil = refl
  same_kept (V.Bool x) (V.Ref n) = refl
  same_kept (V.Bool x) (V.Int y) = refl
  same_kept (V.Bool x) (V.Bool y) = refl
  same_kept (V.Bool x) V.Nil = refl
  same_kept V.Nil (V.Ref n) = refl
  same_kept V.Nil (V.Int y) = refl
  same_kept V.Nil (V.Bool y) = refl
  same_kept V.Nil V.Nil = refl

  ints_renamed : (g : ℤ → ℤ → Outcome) (v w : Value) → ((x y : ℤ) → g x y ≡ renamed_outcome f (g x y))
      → on_ints g (renamed_value f v) (renamed_value f w) ≡ renamed_outcome f (on_ints g v w)
  ints_renamed g (V.Ref m) (V.Ref n) e = refl
  ints_renamed g (V.Ref m) (V.Int y) e = refl
  ints_renamed g (V.Ref m) (V.Bool y) e = refl
  ints_renamed g (V.Ref m) V.Nil e = refl
  ints_renamed g (V.Int x) (V.Ref n) e = refl
  ints_renamed g (V.Int x) (V.Int y) e = e x y
  ints_renamed g (V.Int x) (V.Bool y) e = refl
  ints_renamed g (V.Int x) V.Nil e = refl
  ints_renamed g (V.Bool x) (V.Ref n) e = refl
  ints_renamed g (V.Bool x) (V.Int y) e = refl
  ints_renamed g (V.Bool x) (V.Bool y) e = refl
  ints_renamed g (V.Bool x) V.Nil e = refl
  ints_renamed g V.Nil w e = refl

  bools_renamed : (g : Bool → Bool → Bool) (v w : Value) → on_bools g (renamed_value f v) (renamed_value f w) ≡ renamed_outcome f (on_bools g v w)
  bools_renamed g (V.Ref m) (V.Ref n) = refl
  bools_renamed g (V.Ref m) (V.Int y) = refl
  bools_renamed g (V.Ref m) (V.Bool y) = refl
  bools_renamed g (V.Ref m) V.Nil = refl
  bools_renamed g (V.Int x) (V.Ref n) = refl
  bools_renamed g (V.Int x) (V.Int y) = refl
  bools_renamed g (V.Int x) (V.Bool y) = refl
  bools_renamed g (V.Int x) V.Nil = refl
  bools_renamed g (V.Bool x) (V.Ref n) = refl
  bools_renamed g (V.Bool x) (V.Int y) = refl
  bools_renamed g (V.Bool x) (V.Bool y) = refl
  bools_renamed g (V.Bool x) V.Nil = refl
  bools_renamed g V.Nil w = refl

  quotient_plain : (x y : ℤ) → quotient x y ≡ renamed_outcome f (quotient x y)
  quotient_plain x (pos zero) = refl
  quotient_plain x (pos (suc n)) = number_plain (int_div x (pos (suc n)))
  quotient_plain x (negsuc n) = number_plain (int_div x (negsuc n))

  remainder_plain : (x y : ℤ) → remainder x y ≡ renamed_outcome f (remainder x y)
  remainder_plain x (pos zero) = refl
  remainder_plain x (pos (suc n)) = number_plain (int_rem x (pos (suc n)))
  remainder_plain x (negsuc n) = number_plain (int_rem x (negsuc n))

  infix_renamed : (op : Op) (v w : Value) → infix_value op (renamed_value f v) (renamed_value f w) ≡ renamed_outcome f (infix_value op v w)
  infix_renamed O.Add v w = ints_renamed (λ x y. number (x +ℤ y)) v w (λ x y. number_plain (x +ℤ y))
  infix_renamed O.Sub v w = ints_renamed (λ x y. number (x -ℤ y)) v w (λ x y. number_plain (x -ℤ y))
  infix_renamed O.Mul v w = ints_renamed (λ x y. number (x *ℤ y)) v w (λ x y. number_plain (x *ℤ y))
  infix_renamed O.Div v w = ints_renamed _ v w quotient_plain
  infix_renamed O.Rem v w = ints_renamed _ v w remainder_plain
  infix_renamed O.Less v w = ints_renamed _ v w (λ x y. refl)
  infix_renamed O.LessEq v w = ints_renamed _ v w (λ x y. refl)
  infix_renamed O.More v w = ints_renamed _ v w (λ x y. refl)
  infix_renamed O.MoreEq v w = ints_renamed _ v w (λ x y. refl)
  infix_renamed O.Same v w = ap truth (same_kept v w)
  infix_renamed O.Differs v w = ap (λ b. truth (not b)) (same_kept v w)
  infix_renamed O.And v w = bools_renamed _ v w
  infix_renamed O.Or v w = bools_renamed _ v w
  infix_renamed O.Neg v w = refl
  infix_renamed O.Not v w = refl

  negated_renamed : (v : Value) → negated (renamed_value f v) ≡ renamed_outcome f (negated v)
  negated_renamed (V.Ref n) = refl
  negated_renamed (V.Int x) = number_plain (neg_ℤ x)
  negated_renamed (V.Bool b) = refl
  negated_renamed V.Nil = refl

  denied_renamed : (v : Value) → denied (renamed_value f v) ≡ renamed_outcome f (denied v)
  denied_renamed (V.Ref n) = refl
  denied_renamed (V.Int x) = refl
  denied_renamed (V.Bool b) = refl
  denied_renamed V.Nil = refl

  prefix_renamed : (op : Op) (v : Value) → prefix_value op (renamed_value f v) ≡ renamed_outcome f (prefix_value op v)
  prefix_renamed O.Neg v = negated_renamed v
  prefix_renamed O.Not v = denied_renamed v
  prefix_renamed _ v = refl

  nil_kept : (v : Value) → is_nil (renamed_value f v) ≡ is_nil v
  nil_kept (V.Ref n) = refl
  nil_kept (V.Int x) = refl
  nil_kept (V.Bool b) = refl
  nil_kept V.Nil = refl

  not_bool_kept : (v : Value) → not_bool (renamed_value f v) ≡ not_bool v
  not_bool_kept (V.Ref n) = refl
  not_bool_kept (V.Int x) = refl
  not_bool_kept (V.Bool b) = refl
  not_bool_kept V.Nil = refl

  pub true_kept : (v : Value) → is_true (renamed_value f v) ≡ is_true v
  true_kept (V.Ref n) = refl
  true_kept (V.Int x) = refl
  true_kept (V.Bool b) = refl
  true_kept V.Nil = refl

  -- classes, methods, variables
  pub class_renamed : (p : ProgramTree) (c : ℕ) → class_of (renamed_program f p) c ≡ option_map (renamed_class f) (class_of p c)
  class_renamed [] c = refl
  class_renamed (k ∷ ks) c = either_way (option_map (renamed_class f)) (k.name.name.0 == c) (k.name.name.0 == c) _ _ (Some k) (class_of ks c) refl refl (class_renamed ks c)

  named_renamed : (ms : List MethodTree) (m : ℕ) → named_method (map (renamed_method f) ms) m ≡ option_map (renamed_method f) (named_method ms m)
  named_renamed [] m = refl
  named_renamed (k ∷ ks) m = either_way (option_map (renamed_method f)) (k.name.name.0 == m) (k.name.name.0 == m) _ _ (Some k) (named_method ks m) refl refl (named_renamed ks m)

  count_renamed : (n : ℕ) (o : Option MethodTree) → with_count n (option_map (renamed_method f) o) ≡ option_map (renamed_method f) (with_count n o)
  count_renamed n None = refl
  count_renamed n (Some m) = either_way (option_map (renamed_method f)) (length m.params == n) (length m.params == n) _ _ (Some m) None refl refl refl

  in_class_renamed : (k : Option ClassTree) (m n : ℕ) → method_in (option_map (renamed_class f) k) m n ≡ option_map (renamed_method f) (method_in k m n)
  in_class_renamed None m n = refl
  in_class_renamed (Some k) m n = ap (with_count n) (named_renamed k.methods m) ∙ count_renamed n (named_method k.methods m)

  pub method_renamed : (p : ProgramTree) (c m n : ℕ) → method_of (renamed_program f p) c m n ≡ option_map (renamed_method f) (method_of p c m n)
  method_renamed p c m n = ap (λ k. method_in k m n) (class_renamed p c) ∙ in_class_renamed (class_of p c) m n

  pub nil_store_renamed : (vs : List Var) → nil_store vs ≡ renamed_store f (nil_store vs)
  nil_store_renamed [] = refl
  nil_store_renamed (v ∷ vs) = ap (λ r. (v.name.0, V.Nil) ∷ r) (nil_store_renamed vs)

  bind_renamed : (vs : List Var) (xs : List Value) → bind vs (map (renamed_value f) xs) ≡ renamed_store f (bind vs xs)
  bind_renamed [] xs = refl
  bind_renamed (v ∷ vs) [] = nil_store_renamed (v ∷ vs)
  bind_renamed (v ∷ vs) (x ∷ xs) = ap (λ r. (v.name.0, renamed_value f x) ∷ r) (bind_renamed vs xs)

  store_append : (s t : Store) → renamed_store f s ++ renamed_store f t ≡ renamed_store f (s ++ t)
  store_append [] t = refl
  store_append (b ∷ s) t = ap (λ r. (b.0, renamed_value f b.1) ∷ r) (store_append s t)

  pub temps_renamed : (m : MethodTree) (args : List Value) → temps_of (renamed_method f m) (map (renamed_value f) args) ≡ renamed_store f (temps_of m args)
  temps_renamed m args =
      ap (λ s. s ++ nil_store m.locals) (bind_renamed m.params args) ∙ ap (λ s. renamed_store f (bind m.params args) ++ s) (nil_store_renamed m.locals)
      ∙ store_append (bind m.params args) (nil_store m.locals)

  value_renamed : (t : Store) (n : ℕ) → value_of (renamed_store f t) n ≡ option_map (renamed_value f) (value_of t n)
  value_renamed [] n = refl
  value_renamed (b ∷ bs) n = either_way (option_map (renamed_value f)) (b.0 == n) (b.0 == n) _ _ (Some b.1) (value_of bs n) refl refl (value_renamed bs n)

  some_kept : {A B : Type 0} (g : A → B) (o : Option A) → is_some (option_map g o) ≡ is_some o
  some_kept g None = refl
  some_kept g (Some a) = refl

  -- what an object does at its redex
  becomes_renamed : (x : Object) (part : Contractum) → becomes (renamed_object f x) (renamed_part f part) ≡ renamed_action f (becomes x part)
  becomes_renamed x part = ap (λ s. A.Local s (renamed_store f x.vars)) (statements_filled f x.term part)

  value_step : (x : Object) (v : Value) → becomes_value (renamed_object f x) (renamed_value f v) ≡ renamed_action f (becomes_value x v)
  value_step x v = becomes_renamed x (AsExpression (literal v))

  outcome_step : (x : Object) (o : Outcome) → on_outcome (renamed_object f x) (renamed_outcome f o) ≡ renamed_action f (on_outcome x o)
  outcome_step x (Gives v) = value_step x v
  outcome_step x (Fails e) = refl
  outcome_step x WrongSort = refl

  read_step : (x : Object) (a b : Option Value) → read (renamed_object f x) (option_map (renamed_value f) a) (option_map (renamed_value f) b) ≡ renamed_action f (read x a b)
  read_step x (Some v) b = value_step x v
  read_step x None (Some v) = value_step x v
  read_step x None None = refl

  call_step : (x : Object) (args : List Value) (m : Option MethodTree)
      → on_call (renamed_object f x) (map (renamed_value f) args) (option_map (renamed_method f) m) ≡ renamed_action f (on_call x args m)
  call_step x args None = refl
  call_step x args (Some m) =
      ap (λ t. becomes (renamed_object f x) (AsExpression (T.Frame m.name.name.0 t (renamed_statements f m.body) (renamed_expression f m.value) (renamed_statements f m.post)))) (temps_renamed m args)
      ∙ becomes_renamed x (AsExpression (T.Frame m.name.name.0 (temps_of m args) m.body m.value m.post))

  object_step : (v : Value) (go go' : ℕ → Action) → ((b : ℕ) → go' (f b) ≡ renamed_action f (go b)) → on_object (renamed_value f v) go' ≡ renamed_action f (on_object v go)
  object_step (V.Ref b) go go' e = e b
  object_step V.Nil go go' e = refl
  object_step (V.Int x) go go' e = refl
  object_step (V.Bool b) go go' e = refl

  assignment_step : (x : Object) (t : Store) (n : ℕ) (v : Value)
      → on_assignment (renamed_object f x) (renamed_store f t) n (renamed_value f v) ≡ renamed_action f (on_assignment x t n v)
  assignment_step x t n v =
      either_way (renamed_action f) _ (is_some (value_of t n)) _ _ _ _ (ap is_some (value_renamed t n) ∙ some_kept (renamed_value f) (value_of t n))
      (becomes_renamed x (AsStatements T.Done))
      (either_way (renamed_action f) _ (is_some (value_of x.vars n)) _ _ _ _ (ap is_some (value_renamed x.vars n) ∙ some_kept (renamed_value f) (value_of x.vars n))
      (ap (λ s. A.Local s (set_value (renamed_store f x.vars) n (renamed_value f v))) (statements_filled f x.term (AsStatements T.Done))
      ∙ ap (A.Local (renamed_statements f (fill_statements x.term (AsStatements T.Done)))) (set_renamed f x.vars n v))
      refl)

  branch_step : (x : Object) (v : Value) (these those : Statements)
      → on_branch (renamed_object f x) (renamed_value f v) (renamed_statements f these) (renamed_statements f those) ≡ renamed_action f (on_branch x v these those)
  branch_step x (V.Bool true) these those = becomes_renamed x (AsStatements these)
  branch_step x (V.Bool false) these those = becomes_renamed x (AsStatements those)
  branch_step x V.Nil these those = refl
  branch_step x (V.Ref n) these those = refl
  branch_step x (V.Int z) these those = refl

  select_step : (cs : List Choice) → on_select (map (renamed_choice f) cs) ≡ renamed_action f (on_select cs)
  select_step cs =
      either_way (renamed_action f) _ (list_any (λ c. is_nil c.guard) cs) _ _ _ _ (any_map (renamed_choice f) (λ c. is_nil c.guard) (λ c. is_nil c.guard) cs (λ c. nil_kept c.guard)) refl
      (either_way (renamed_action f) _ (list_any (λ c. not_bool c.guard) cs) _ _ _ _ (any_map (renamed_choice f) (λ c. not_bool c.guard) (λ c. not_bool c.guard) cs (λ c. not_bool_kept c.guard)) refl
      (either_way (renamed_action f) _ (list_any (λ c. is_true c.guard) cs) _ _ _ _ (any_map (renamed_choice f) (λ c. is_true c.guard) (λ c. is_true c.guard) cs (λ c. true_kept c.guard)) refl refl))

  finish_step : (x : Object) (k : Option ℕ) (v : Value) (work : Statements)
      → on_finish (renamed_object f x) (renamed_name f k) (renamed_value f v) (renamed_statements f work) ≡ renamed_action f (on_finish x k v work)
  finish_step x None v work = becomes_renamed x (AsStatements work)
  finish_step x (Some k) v work = refl

  redex_step : (p : ProgramTree) (o : ℕ) (x : Object) (t : Store) (r : Reducible)
      → redex_action (renamed_program f p) (f o) (renamed_object f x) (renamed_store f t) (renamed_reducible f r) ≡ renamed_action f (redex_action p o x t r)
  redex_step p o x t R.OwnName = value_step x (V.Ref o)
  redex_step p o x t (R.Read n) =
      ap (λ a. read (renamed_object f x) a (value_of (renamed_store f x.vars) n)) (value_renamed t n)
      ∙ ap (read (renamed_object f x) (option_map (renamed_value f) (value_of t n))) (value_renamed x.vars n) ∙ read_step x (value_of t n) (value_of x.vars n)
  redex_step p o x t (R.Make c) =
      either_way (renamed_action f) _ (is_some (class_of p c)) _ _ _ _ (ap is_some (class_renamed p c) ∙ some_kept (renamed_class f) (class_of p c)) refl refl
  redex_step p o x t (R.Unary op v) = ap (on_outcome (renamed_object f x)) (prefix_renamed op v) ∙ outcome_step x (prefix_value op v)
  redex_step p o x t (R.Binary op v w) = ap (on_outcome (renamed_object f x)) (infix_renamed op v w) ∙ outcome_step x (infix_value op v w)
  redex_step p o x t (R.Invoke m args) =
      ap (λ n. on_call (renamed_object f x) (map (renamed_value f) args) (method_of (renamed_program f p) x.class m n)) (length-map args (renamed_value f))
      ∙ ap (on_call (renamed_object f x) (map (renamed_value f) args)) (method_renamed p x.class m (length args)) ∙ call_step x args (method_of p x.class m (length args))
  redex_step p o x t (R.SynchronousSend v m args) = object_step v (λ b. A.Send b m args) (λ b. A.Send b m (map (renamed_value f) args)) (λ b. refl)
  redex_step p o x t (R.Leave v) = value_step x v
  redex_step p o x t (R.Waiting b m) = refl
  redex_step p o x t (R.Set n v) = assignment_step x t n v
  redex_step p o x t (R.Print item) = refl
  redex_step p o x t (R.Drop v) = becomes_renamed x (AsStatements T.Done)
  redex_step p o x t (R.Post v m args) = object_step v (λ b. A.Async b m args) (λ b. A.Async b m (map (renamed_value f) args)) (λ b. refl)
  redex_step p o x t (R.Branch v these those) = branch_step x v these those
  redex_step p o x t (R.Loop e ss) =
      ap (λ s. becomes (renamed_object f x) (AsStatements (T.Then (T.If (renamed_expression f e) s T.Done) T.Done))) (append_renamed f ss (T.Then (T.While e ss) T.Done))
      ∙ becomes_renamed x (AsStatements (T.Then (T.If e (append ss (T.Then (T.While e ss) T.Done)) T.Done) T.Done))
  redex_step p o x t (R.Accept names) = refl
  redex_step p o x t (R.Choose cs) = select_step cs
  redex_step p o x t (R.Finish caller v work) = finish_step x caller v work

  found_step : (p : ProgramTree) (o : ℕ) (x : Object) (g : Found (Unit {0}))
      → found_action (renamed_program f p) (f o) (renamed_object f x) (renamed_found f nothing_renamed g) ≡ renamed_action f (found_action p o x g)
  found_step p o x (Evaluated u) = refl
  found_step p o x (At r t) = redex_step p o x t r

  -- renaming an object renames what it does next
  pub action_renamed : (p : ProgramTree) (o : ℕ) (x : Object) → action (renamed_program f p) (f o) (renamed_object f x) ≡ renamed_action f (action p o x)
  action_renamed p o x = ap (found_action (renamed_program f p) (f o) (renamed_object f x)) (statements_found f [] x.term) ∙ found_step p o x (statements_redex [] x.term)
