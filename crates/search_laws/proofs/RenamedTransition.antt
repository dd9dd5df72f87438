-- A renamed label leads from a renamed configuration to a renamed one, exactly if the label leads from the
-- configuration to that one.
use Rattle.std.proofs.Common.{◌≡◌, ◌≢◌, refl, sym, ap, ◌∙◌, subst, ℕ, zero, suc, List, [], ◌∷◌, ◌++◌, length, map, option_map, Option, Some, None, is_some, is_none, Bool, true, false, not, ◌&&◌, ◌||◌, ◌==◌, slice_get}
use Rattle.std.proofs.lemmas.List.{map-append, length-map}
use Rattle.run_types.specs.declared.types.Value.{Value}
use Rattle.run_types.specs.declared.types.Value.TheVariants as V
use Rattle.run_types.specs.declared.types.Item.{Item}
use Rattle.run_types.specs.declared.types.Item.TheVariants as I
use Rattle.run_types.specs.declared.types.Error.{Error}
use Rattle.run_types.specs.declared.types.Label.{Label}
use Rattle.run_types.specs.declared.types.Label.TheVariants as L
use Rattle.pool_syntax.specs.declared.tree.Named.{Named}
use Rattle.pool_syntax.specs.Terms as T
use Rattle.pool_syntax.specs.Terms.{Store, Expression, Statements, MethodTree, ClassTree, ProgramTree}
use Rattle.pool_syntax.specs.Classes.{class_of}
use Rattle.run_types.specs.Values.{is_true}
use Rattle.run_types.specs.Message.{Message}
use Rattle.run_types.specs.Partial.{◌>>=◌, ◌>>◌, require}
use Rattle.run_types.specs.Same.{are_same, is_same_item}
use Rattle.run_types.proofs.Laws.{equal, equals, put_list_same}
use Rattle.pool_relation.specs.Reducible as R
use Rattle.pool_relation.specs.Reducible.{Choice, Found, Evaluated, At, Contractum, AsExpression, AsStatements, statements_redex}
use Rattle.pool_relation.specs.Action as A
use Rattle.pool_relation.specs.Action.{Object, Action, method_of, temps_of, literal, action}
use Rattle.pool_relation.specs.Configuration.{Configuration, object_of, put_object, messages_of, put_messages}
use Rattle.pool_relation.specs.Transition.{without_fault, running, names_method, Offer, answered, select_offer, offer, plain_choice, picked, has_message, first_message, without_first, refilled, done, returned, work_left, serving, new_object, local_step, makes, calls, posts, returns, waits_on, writes, fails, transition}
use Rattle.search_laws.specs.Renamed.{Renaming, renamed_value, renamed_name, renamed_item, renamed_expression, renamed_statements, renamed_method, renamed_class, renamed_program, renamed_object, renamed_message, renamed_label, IsRenamed}
use Rattle.pool_relation.proofs.Laws.{Put, New, Old, put_cases, PutMessages, NewMessages, OldMessages, put_messages_cases}
use Rattle.search_laws.proofs.RenamedRedex.{renamed_choice, renamed_found, nothing_renamed, renamed_part, statements_found}
use Rattle.search_laws.proofs.RenamedFill.{either_way, statements_filled}
use Rattle.search_laws.proofs.RenamedAction.{renamed_action, same_kept, true_kept, class_renamed, method_renamed, nil_store_renamed, temps_renamed, action_renamed}

-- nothing in both places, or renamed configurations
pub data Alike (f : ℕ → ℕ) : Option Configuration → Option Configuration → Type 0 where
  Neither : Alike f None None
  Both : {c d : Configuration} → IsRenamed f c d → Alike f (Some c) (Some d)

abbrev pub renamed_offer : (ℕ → ℕ) → Offer → Offer
renamed_offer f v = record { names = v.names; work = renamed_statements f v.work }

-- the messages of a pair are those that were put
messages_at : (c : Configuration) (s r : ℕ) (ms : List Message) → messages_of (put_messages c s r ms) s r ≡ ms
messages_at c s r ms = put_list_same (s, r) ms c.messages

object_at : (c : Configuration) (o : ℕ) (y : Object) → object_of (put_object c o y) o ≡ Some y
object_at c o y = by (put_cases c o y o)
  where
    by : Put c o y o → object_of (put_object c o y) o ≡ Some y
    by (New e i) = i
    by (Old n i) = absurd (n refl)

pub unequal : (m n : ℕ) → (m == n) ≡ false → m ≢ n
unequal m n h e = let t : (n == n) ≡ true = equals n in let u : (n == n) ≡ false = subst (λ (k : ℕ). (k == n) ≡ false) e h in absurd (let z : true ≡ false = sym t ∙ u in cc)

module _ (f : Renaming) where
  pub to_one : (m n : ℕ) → f.to m ≡ f.to n → m ≡ n
  to_one m n e = sym (f.from_to m) ∙ ap f.from e ∙ f.from_to n

  pub same_names : (m n : ℕ) → (f.to m == f.to n) ≡ (m == n)
  same_names m n = by (f.to m == f.to n) refl (m == n) refl
    where
      by : (a : Bool) → (f.to m == f.to n) ≡ a → (b : Bool) → (m == n) ≡ b → (f.to m == f.to n) ≡ (m == n)
      by true i true j = i ∙ sym j
      by false i false j = i ∙ sym j
      by true i false j = absurd (unequal m n j (to_one m n (equal (f.to m) (f.to n) i)))
      by false i true j = absurd (unequal (f.to m) (f.to n) i (ap f.to (equal m n j)))

  -- lists of values, of messages
  are_same_kept : (vs ws : List Value) → are_same (map (renamed_value f.to) vs) (map (renamed_value f.to) ws) ≡ are_same vs ws
  are_same_kept [] [] = refl
  are_same_kept [] (w ∷ ws) = refl
  are_same_kept (v ∷ vs) [] = refl
  are_same_kept (v ∷ vs) (w ∷ ws) = rw (same_kept f.to same_names v w, are_same_kept vs ws) refl

  has_kept : (names : List Named) (ms : List Message) → has_message names (map (renamed_message f.to) ms) ≡ has_message names ms
  has_kept names [] = refl
  has_kept names (m ∷ ms) = ap (λ b. names_method names m.method || b) (has_kept names ms)

  pub first_renamed : (names : List Named) (ms : List Message) → first_message names (map (renamed_message f.to) ms) ≡ option_map (renamed_message f.to) (first_message names ms)
  first_renamed names [] = refl
  first_renamed names (m ∷ ms) =
      either_way (option_map (renamed_message f.to)) (names_method names m.method) (names_method names m.method) _ _ (Some m) (first_message names ms) refl refl (first_renamed names ms)

  pub without_renamed : (names : List Named) (ms : List Message) → without_first names (map (renamed_message f.to) ms) ≡ map (renamed_message f.to) (without_first names ms)
  without_renamed names [] = refl
  without_renamed names (m ∷ ms) =
      either_way (map (renamed_message f.to)) (names_method names m.method) (names_method names m.method) _ _ ms (m ∷ without_first names ms) refl refl
      (ap (λ r. renamed_message f.to m ∷ r) (without_renamed names ms))

  -- objects as they change
  pub filled : (x : Object) (part : Contractum) → refilled (renamed_object f.to x) (renamed_part f.to part) ≡ renamed_object f.to (refilled x part)
  filled x part = ap (λ s. record (renamed_object f.to x) { term = s }) (statements_filled f.to x.term part)

  pub served : (y : Object) (m : MethodTree) (caller : Option ℕ) (args : List Value) (work : Statements)
      → serving (renamed_object f.to y) (renamed_method f.to m) (renamed_name f.to caller) (map (renamed_value f.to) args) (renamed_statements f.to work)
      ≡ renamed_object f.to (serving y m caller args work)
  served y m caller args work =
      ap (λ t. refilled (renamed_object f.to y) (AsStatements (T.Then (T.Serve m.name.name.0 (renamed_name f.to caller) t (renamed_statements f.to m.body) (renamed_expression f.to m.value) (renamed_statements f.to m.post)) (renamed_statements f.to work))))
      (temps_renamed f.to same_names m args)
      ∙ filled y (AsStatements (T.Then (T.Serve m.name.name.0 caller (temps_of m args) m.body m.value m.post) work))

  left_kept : (x : Found (Unit {0})) → work_left (renamed_found f.to nothing_renamed x) ≡ renamed_statements f.to (work_left x)
  left_kept (Evaluated done) = refl
  left_kept (At (R.Finish k v work) t) = refl
  left_kept (At R.OwnName t) = refl
  left_kept (At (R.Read n) t) = refl
  left_kept (At (R.Make c) t) = refl
  left_kept (At (R.Unary op v) t) = refl
  left_kept (At (R.Binary op v w) t) = refl
  left_kept (At (R.Invoke m vs) t) = refl
  left_kept (At (R.SynchronousSend v m vs) t) = refl
  left_kept (At (R.Leave v) t) = refl
  left_kept (At (R.Waiting b m) t) = refl
  left_kept (At (R.Set n v) t) = refl
  left_kept (At (R.Print i) t) = refl
  left_kept (At (R.Drop v) t) = refl
  left_kept (At (R.Post v m vs) t) = refl
  left_kept (At (R.Branch v these those) t) = refl
  left_kept (At (R.Loop e ss) t) = refl
  left_kept (At (R.Accept names) t) = refl
  left_kept (At (R.Choose cs) t) = refl

  pub gave : (x : Object) → returned (renamed_object f.to x) ≡ renamed_object f.to (returned x)
  gave x =
      ap (λ w. refilled (renamed_object f.to x) (AsStatements w)) (ap work_left (statements_found f.to [] x.term) ∙ left_kept (statements_redex [] x.term))
      ∙ filled x (AsStatements (work_left (statements_redex [] x.term)))

  pub made : (k : ClassTree) → new_object (renamed_class f.to k) ≡ renamed_object f.to (new_object k)
  made k = ap (λ s. record { class = k.name.name.0; vars = s; term = renamed_statements f.to k.body; fault = None }) (nil_store_renamed f.to same_names k.vars)

  -- what is tested of an action
  pub local_renamed : (x : Object) (a : Action) → local_step (renamed_object f.to x) (renamed_action f.to a) ≡ option_map (renamed_object f.to) (local_step x a)
  local_renamed x (A.Local term vars) = refl
  local_renamed x A.Finished = refl
  local_renamed x (A.Fault e) = refl
  local_renamed x (A.New c) = refl
  local_renamed x (A.Send b m args) = refl
  local_renamed x (A.Async b m args) = refl
  local_renamed x (A.Write i) = refl
  local_renamed x (A.Answer names) = refl
  local_renamed x (A.Select cs) = refl
  local_renamed x (A.Return k v) = refl
  local_renamed x (A.Waits b m) = refl
  local_renamed x A.Stuck = refl

  makes_kept : (a : Action) (k : ℕ) → makes (renamed_action f.to a) k ≡ makes a k
  makes_kept (A.New c) k = refl
  makes_kept (A.Local term vars) k = refl
  makes_kept A.Finished k = refl
  makes_kept (A.Fault e) k = refl
  makes_kept (A.Send b m args) k = refl
  makes_kept (A.Async b m args) k = refl
  makes_kept (A.Write i) k = refl
  makes_kept (A.Answer names) k = refl
  makes_kept (A.Select cs) k = refl
  makes_kept (A.Return d v) k = refl
  makes_kept (A.Waits b m) k = refl
  makes_kept A.Stuck k = refl

  calls_kept : (a : Action) (r n : ℕ) (vs : List Value) → calls (renamed_action f.to a) (f.to r) n (map (renamed_value f.to) vs) ≡ calls a r n vs
  calls_kept (A.Send b m args) r n vs = rw (same_names b r, are_same_kept args vs) refl
  calls_kept (A.New c) r n vs = refl
  calls_kept (A.Local term vars) r n vs = refl
  calls_kept A.Finished r n vs = refl
  calls_kept (A.Fault e) r n vs = refl
  calls_kept (A.Async b m args) r n vs = refl
  calls_kept (A.Write i) r n vs = refl
  calls_kept (A.Answer names) r n vs = refl
  calls_kept (A.Select cs) r n vs = refl
  calls_kept (A.Return d v) r n vs = refl
  calls_kept (A.Waits b m) r n vs = refl
  calls_kept A.Stuck r n vs = refl

  posts_kept : (a : Action) (r n : ℕ) (vs : List Value) → posts (renamed_action f.to a) (f.to r) n (map (renamed_value f.to) vs) ≡ posts a r n vs
  posts_kept (A.Async b m args) r n vs = rw (same_names b r, are_same_kept args vs) refl
  posts_kept (A.Send b m args) r n vs = refl
  posts_kept (A.New c) r n vs = refl
  posts_kept (A.Local term vars) r n vs = refl
  posts_kept A.Finished r n vs = refl
  posts_kept (A.Fault e) r n vs = refl
  posts_kept (A.Write i) r n vs = refl
  posts_kept (A.Answer names) r n vs = refl
  posts_kept (A.Select cs) r n vs = refl
  posts_kept (A.Return d v) r n vs = refl
  posts_kept (A.Waits b m) r n vs = refl
  posts_kept A.Stuck r n vs = refl

  returns_kept : (a : Action) (o : ℕ) (w : Value) → returns (renamed_action f.to a) (f.to o) (renamed_value f.to w) ≡ returns a o w
  returns_kept (A.Return k v) o w = rw (same_names k o, same_kept f.to same_names v w) refl
  returns_kept (A.Send b m args) o w = refl
  returns_kept (A.New c) o w = refl
  returns_kept (A.Local term vars) o w = refl
  returns_kept A.Finished o w = refl
  returns_kept (A.Fault e) o w = refl
  returns_kept (A.Async b m args) o w = refl
  returns_kept (A.Write i) o w = refl
  returns_kept (A.Answer names) o w = refl
  returns_kept (A.Select cs) o w = refl
  returns_kept (A.Waits b m) o w = refl
  returns_kept A.Stuck o w = refl

  waits_kept : (a : Action) (r : ℕ) → waits_on (renamed_action f.to a) (f.to r) ≡ waits_on a r
  waits_kept (A.Waits b m) r = same_names b r
  waits_kept (A.Send b m args) r = refl
  waits_kept (A.New c) r = refl
  waits_kept (A.Local term vars) r = refl
  waits_kept A.Finished r = refl
  waits_kept (A.Fault e) r = refl
  waits_kept (A.Async b m args) r = refl
  waits_kept (A.Write i) r = refl
  waits_kept (A.Answer names) r = refl
  waits_kept (A.Select cs) r = refl
  waits_kept (A.Return k v) r = refl
  waits_kept A.Stuck r = refl

  item_kept : (i j : Item) → is_same_item (renamed_item f.to i) (renamed_item f.to j) ≡ is_same_item i j
  item_kept (I.Value v) (I.Value w) = same_kept f.to same_names v w
  item_kept (I.Value v) (I.Text t) = refl
  item_kept (I.Text s) (I.Value w) = refl
  item_kept (I.Text s) (I.Text t) = refl

  writes_kept : (a : Action) (j : Item) → writes (renamed_action f.to a) (renamed_item f.to j) ≡ writes a j
  writes_kept (A.Write i) j = item_kept i j
  writes_kept (A.Send b m args) j = refl
  writes_kept (A.New c) j = refl
  writes_kept (A.Local term vars) j = refl
  writes_kept A.Finished j = refl
  writes_kept (A.Fault e) j = refl
  writes_kept (A.Async b m args) j = refl
  writes_kept (A.Answer names) j = refl
  writes_kept (A.Select cs) j = refl
  writes_kept (A.Return k v) j = refl
  writes_kept (A.Waits b m) j = refl
  writes_kept A.Stuck j = refl

  fails_kept : (a : Action) (e : Error) → fails (renamed_action f.to a) e ≡ fails a e
  fails_kept (A.Fault d) e = refl
  fails_kept (A.Send b m args) e = refl
  fails_kept (A.New c) e = refl
  fails_kept (A.Local term vars) e = refl
  fails_kept A.Finished e = refl
  fails_kept (A.Async b m args) e = refl
  fails_kept (A.Write i) e = refl
  fails_kept (A.Answer names) e = refl
  fails_kept (A.Select cs) e = refl
  fails_kept (A.Return k v) e = refl
  fails_kept (A.Waits b m) e = refl
  fails_kept A.Stuck e = refl

  -- offers and choices

  select_renamed : (cs : List Choice) (m : ℕ) → select_offer (map (renamed_choice f.to) cs) m ≡ option_map (renamed_offer f.to) (select_offer cs m)
  select_renamed [] m = refl
  select_renamed (c ∷ cs) m =
      either_way (option_map (renamed_offer f.to)) _ (is_true c.guard && names_method (answered c.answer) m) _ _ (Some (record { names = answered c.answer; work = c.work })) (select_offer cs m)
      (ap (λ b. b && names_method (answered c.answer) m) (true_kept f.to same_names c.guard)) refl (select_renamed cs m)

  only_if : (b : Bool) (v : Offer) → (require b >> Some ((renamed_offer f.to) v)) ≡ option_map (renamed_offer f.to) (require b >> Some v)
  only_if true v = refl
  only_if false v = refl

  pub offer_renamed : (a : Action) (m : ℕ) → offer (renamed_action f.to a) m ≡ option_map (renamed_offer f.to) (offer a m)
  offer_renamed (A.Answer names) m = only_if (names_method names m) (record { names = names; work = T.Done })
  offer_renamed (A.Select cs) m = select_renamed cs m
  offer_renamed (A.Send b n args) m = refl
  offer_renamed (A.New c) m = refl
  offer_renamed (A.Local term vars) m = refl
  offer_renamed A.Finished m = refl
  offer_renamed (A.Fault e) m = refl
  offer_renamed (A.Async b n args) m = refl
  offer_renamed (A.Write i) m = refl
  offer_renamed (A.Return k v) m = refl
  offer_renamed (A.Waits b n) m = refl
  offer_renamed A.Stuck m = refl

  work_if : (b : Bool) (ss : Statements) → (require b >> Some (renamed_statements f.to ss)) ≡ option_map (renamed_statements f.to) (require b >> Some ss)
  work_if true ss = refl
  work_if false ss = refl

  plain_renamed : (c : Option Choice) → plain_choice (option_map (renamed_choice f.to) c) ≡ option_map (renamed_statements f.to) (plain_choice c)
  plain_renamed None = refl
  plain_renamed (Some c) =
      ap (λ b. require (b && is_none c.answer) >> Some (renamed_statements f.to c.work)) (true_kept f.to same_names c.guard)
      ∙ work_if (is_true c.guard && is_none c.answer) c.work

  at_renamed : (cs : List Choice) (i : ℕ) → slice_get (map (renamed_choice f.to) cs) i ≡ option_map (renamed_choice f.to) (slice_get cs i)
  at_renamed [] i = refl
  at_renamed (c ∷ cs) zero = refl
  at_renamed (c ∷ cs) (suc i) = at_renamed cs i

  pub picked_renamed : (a : Action) (i : ℕ) → picked (renamed_action f.to a) i ≡ option_map (renamed_statements f.to) (picked a i)
  picked_renamed (A.Select cs) zero = refl
  picked_renamed (A.Select cs) (suc i) = ap plain_choice (at_renamed cs i) ∙ plain_renamed (slice_get cs i)
  picked_renamed (A.Answer names) i = refl
  picked_renamed (A.Send b n args) i = refl
  picked_renamed (A.New c) i = refl
  picked_renamed (A.Local term vars) i = refl
  picked_renamed A.Finished i = refl
  picked_renamed (A.Fault e) i = refl
  picked_renamed (A.Async b n args) i = refl
  picked_renamed (A.Write j) i = refl
  picked_renamed (A.Return k v) i = refl
  picked_renamed (A.Waits b n) i = refl
  picked_renamed A.Stuck i = refl

  -- configurations as they change
  pub put_renamed : {c d : Configuration} (o : ℕ) (y : Object) → IsRenamed f.to c d → IsRenamed f.to (put_object c o y) (put_object d (f.to o) (renamed_object f.to y))
  put_renamed {c} {d} o y h = record { objects = λ q. by q (put_cases c o y q) (put_cases d (f.to o) (renamed_object f.to y) (f.to q)); messages = h.messages }
    where
      by : (q : ℕ) → Put c o y q → Put d (f.to o) (renamed_object f.to y) (f.to q)
          → object_of (put_object d (f.to o) (renamed_object f.to y)) (f.to q) ≡ option_map (renamed_object f.to) (object_of (put_object c o y) q)
      by q (New e i) (New g j) = j ∙ sym (ap (option_map (renamed_object f.to)) i)
      by q (New e i) (Old n j) = absurd (n (ap f.to e))
      by q (Old n i) (New g j) = absurd (n (to_one q o g))
      by q (Old n i) (Old m j) = j ∙ h.objects q ∙ sym (ap (option_map (renamed_object f.to)) i)

  pub put_messages_renamed : {c d : Configuration} (s r : ℕ) (ms : List Message) → IsRenamed f.to c d
      → IsRenamed f.to (put_messages c s r ms) (put_messages d (f.to s) (f.to r) (map (renamed_message f.to) ms))
  put_messages_renamed {c} {d} s r ms h = record { objects = h.objects; messages = λ a b. by a b (a == s) refl (b == r) refl }
    where
      ns : List Message
      ns = map (renamed_message f.to) ms

      other : (a b : ℕ) → ¬ ((a ≡ s) × (b ≡ r)) → PutMessages c s r ms a b → PutMessages d (f.to s) (f.to r) ns (f.to a) (f.to b)
          → messages_of (put_messages d (f.to s) (f.to r) ns) (f.to a) (f.to b) ≡ map (renamed_message f.to) (messages_of (put_messages c s r ms) a b)
      other a b n (NewMessages i j k) q = absurd (n (i, j))
      other a b n (OldMessages k) (NewMessages i j l) = absurd (n (to_one a s i, to_one b r j))
      other a b n (OldMessages k) (OldMessages l) = l ∙ h.messages a b ∙ sym (ap (map (renamed_message f.to)) k)

      same : (a b : ℕ) → a ≡ s → b ≡ r
          → messages_of (put_messages d (f.to s) (f.to r) ns) (f.to a) (f.to b) ≡ map (renamed_message f.to) (messages_of (put_messages c s r ms) a b)
      same a b i j =
          ap (λ q. messages_of (put_messages d (f.to s) (f.to r) ns) (f.to q) (f.to b)) i ∙ ap (λ q. messages_of (put_messages d (f.to s) (f.to r) ns) (f.to s) (f.to q)) j
          ∙ messages_at d (f.to s) (f.to r) ns
          ∙ sym (ap (map (renamed_message f.to)) (ap (λ q. messages_of (put_messages c s r ms) q b) i ∙ ap (λ q. messages_of (put_messages c s r ms) s q) j ∙ messages_at c s r ms))

      by : (a b : ℕ) → (x : Bool) → (a == s) ≡ x → (y : Bool) → (b == r) ≡ y
          → messages_of (put_messages d (f.to s) (f.to r) ns) (f.to a) (f.to b) ≡ map (renamed_message f.to) (messages_of (put_messages c s r ms) a b)
      by a b true i true j = same a b (equal a s i) (equal b r j)
      by a b true i false j = other a b (λ e. unequal b r j e.1) (put_messages_cases c s r ms a b) (put_messages_cases d (f.to s) (f.to r) ns (f.to a) (f.to b))
      by a b false i y j = other a b (λ e. unequal a s i e.0) (put_messages_cases c s r ms a b) (put_messages_cases d (f.to s) (f.to r) ns (f.to a) (f.to b))

  -- chains of steps
  going_on : {X Y : Type 0} (g : X → Y) (o : Option X) (o' : Option Y) (k : X → Option Configuration) (k' : Y → Option Configuration)
      → o' ≡ option_map g o → ((x : X) → Alike f.to (k x) (k' (g x))) → Alike f.to (o >>= k) (o' >>= k')
  going_on g None o' k k' e n = subst (λ q. Alike f.to None (q >>= k')) (sym e) Neither
  going_on g (Some x) o' k k' e n = subst (λ q. Alike f.to (k x) (q >>= k')) (sym e) (n x)

  requiring : (b b' : Bool) (k k' : Option Configuration) → b' ≡ b → Alike f.to k k' → Alike f.to (require b >> k) (require b' >> k')
  requiring true b' k k' e a = subst (λ q. Alike f.to k (require q >> k')) (sym e) a
  requiring false b' k k' e a = subst (λ q. Alike f.to None (require q >> k')) (sym e) Neither

  running_renamed : {c d : Configuration} → IsRenamed f.to c d → (o : ℕ) → running d (f.to o) ≡ option_map (renamed_object f.to) (running c o)
  running_renamed {c} {d} h o = ap (λ q. q >>= (λ x. without_fault x x.fault)) (h.objects o) ∙ by (object_of c o)
    where
      still : (x : Object) (e : Option Error) → without_fault (renamed_object f.to x) e ≡ option_map (renamed_object f.to) (without_fault x e)
      still x None = refl
      still x (Some e) = refl

      by : (q : Option Object) → (option_map (renamed_object f.to) q >>= (λ x. without_fault x x.fault)) ≡ option_map (renamed_object f.to) (q >>= (λ x. without_fault x x.fault))
      by None = refl
      by (Some x) = still x x.fault

  none_kept : {A B : Type 0} (g : A → B) (o : Option A) → is_none (option_map g o) ≡ is_none o
  none_kept g None = refl
  none_kept g (Some a) = refl

  some_kept : {A B : Type 0} (g : A → B) (o : Option A) → is_some (option_map g o) ≡ is_some o
  some_kept g None = refl
  some_kept g (Some a) = refl

  -- one object put
  one_put : {c d : Configuration} (o : ℕ) (y y' : Object) → IsRenamed f.to c d → y' ≡ renamed_object f.to y
      → Alike f.to (Some (put_object c o y)) (Some (put_object d (f.to o) y'))
  one_put {c} {d} o y y' h e = subst (λ z. Alike f.to (Some (put_object c o y)) (Some (put_object d (f.to o) z))) (sym e) (Both (put_renamed o y h))

  two_put : {c d : Configuration} (o b : ℕ) (y y' z z' : Object) → IsRenamed f.to c d → y' ≡ renamed_object f.to y → z' ≡ renamed_object f.to z
      → Alike f.to (Some (put_object (put_object c o y) b z)) (Some (put_object (put_object d (f.to o) y') (f.to b) z'))
  two_put {c} {d} o b y y' z z' h e i =
      subst (λ u. Alike f.to (Some (put_object (put_object c o y) b z)) (Some (put_object (put_object d (f.to o) u) (f.to b) z'))) (sym e)
      (one_put b z z' (put_renamed o y h) i)

  pub transition_renamed : (p : ProgramTree) (c d : Configuration) (l : Label) → IsRenamed f.to c d
      → Alike f.to (transition p c l) (transition (renamed_program f.to p) d (renamed_label f.to l))
  transition_renamed p c d (L.Local o) h =
      going_on (renamed_object f.to) (running c o) _ _ _ (running_renamed h o)
      (λ x. going_on (renamed_object f.to) (local_step x (action p o x)) _ _ _
      (ap (local_step (renamed_object f.to x)) (action_renamed f.to same_names p o x) ∙ local_renamed x (action p o x))
      (λ y. one_put o y _ h refl))
  transition_renamed p c d (L.New o n k) h =
      going_on (renamed_object f.to) (running c o) _ _ _ (running_renamed h o)
      (λ x. requiring (makes (action p o x) k.0 && is_none (object_of c n)) _ _ _
      (ap (λ a. makes a k.0 && is_none (object_of d (f.to n))) (action_renamed f.to same_names p o x)
      ∙ ap (λ b. b && is_none (object_of d (f.to n))) (makes_kept (action p o x) k.0)
      ∙ ap (λ b. makes (action p o x) k.0 && b) (ap is_none (h.objects n) ∙ none_kept (renamed_object f.to) (object_of c n)))
      (going_on (renamed_class f.to) (class_of p k.0) _ _ _ (class_renamed f.to same_names p k.0)
      (λ class. two_put o n _ _ _ _ h (filled x (AsExpression (literal (V.Ref n)))) (made class))))
  transition_renamed p c d (L.Answer b o m args) h =
      going_on (renamed_object f.to) (running c o) _ _ _ (running_renamed h o)
      (λ x. going_on (renamed_object f.to) (running c b) _ _ _ (running_renamed h b)
      (λ y. requiring (calls (action p o x) b m.0 args) _ _ _
      (ap (λ a. calls a (f.to b) m.0 (map (renamed_value f.to) args)) (action_renamed f.to same_names p o x) ∙ calls_kept (action p o x) b m.0 args)
      (going_on (renamed_offer f.to) (offer (action p b y) m.0) _ _ _
      (ap (λ a. offer a m.0) (action_renamed f.to same_names p b y) ∙ offer_renamed (action p b y) m.0)
      (λ v. requiring (not (has_message v.names (messages_of c o b))) _ _ _
      (ap not (ap (has_message v.names) (h.messages o b) ∙ has_kept v.names (messages_of c o b)))
      (going_on (renamed_method f.to) (method_of p y.class m.0 (length args)) _ _ _
      (ap (method_of (renamed_program f.to p) y.class m.0) (length-map args (renamed_value f.to)) ∙ method_renamed f.to same_names p y.class m.0 (length args))
      (λ method. two_put o b _ _ _ _ h (filled x (AsExpression (T.Wait b m.0))) (served y method (Some o) args v.work)))))))
  transition_renamed p c d (L.Return b o v) h =
      going_on (renamed_object f.to) (running c b) _ _ _ (running_renamed h b)
      (λ y. going_on (renamed_object f.to) (running c o) _ _ _ (running_renamed h o)
      (λ x. requiring (returns (action p b y) o v && waits_on (action p o x) b) _ _ _
      (ap (λ a. returns a (f.to o) (renamed_value f.to v) && waits_on (action (renamed_program f.to p) (f.to o) (renamed_object f.to x)) (f.to b)) (action_renamed f.to same_names p b y)
      ∙ ap (λ t. t && waits_on (action (renamed_program f.to p) (f.to o) (renamed_object f.to x)) (f.to b)) (returns_kept (action p b y) o v)
      ∙ ap (λ a. returns (action p b y) o v && waits_on a (f.to b)) (action_renamed f.to same_names p o x)
      ∙ ap (λ t. returns (action p b y) o v && t) (waits_kept (action p o x) b))
      (two_put b o _ _ _ _ h (gave y) (filled x (AsExpression (literal v))))))
  transition_renamed p c d (L.Send o b m args) h =
      going_on (renamed_object f.to) (running c o) _ _ _ (running_renamed h o)
      (λ x. requiring (posts (action p o x) b m.0 args && is_some (object_of c b)) _ _ _
      (ap (λ a. posts a (f.to b) m.0 (map (renamed_value f.to) args) && is_some (object_of d (f.to b))) (action_renamed f.to same_names p o x)
      ∙ ap (λ t. t && is_some (object_of d (f.to b))) (posts_kept (action p o x) b m.0 args)
      ∙ ap (λ t. posts (action p o x) b m.0 args && t) (ap is_some (h.objects b) ∙ some_kept (renamed_object f.to) (object_of c b)))
      (posted x))
    where
      message : Message
      message = record { method = m.0; args = args }

      posted : (x : Object) → Alike f.to (Some (put_messages (put_object c o (done x)) o b (messages_of c o b ++ message ∷ [])))
          (Some (put_messages (put_object d (f.to o) (done (renamed_object f.to x))) (f.to o) (f.to b) (messages_of d (f.to o) (f.to b) ++ renamed_message f.to message ∷ [])))
      posted x =
          subst (λ ms. Alike f.to (Some (put_messages (put_object c o (done x)) o b (messages_of c o b ++ message ∷ [])))
          (Some (put_messages (put_object d (f.to o) (done (renamed_object f.to x))) (f.to o) (f.to b) ms)))
          (map-append (renamed_message f.to) (messages_of c o b) (message ∷ []) ∙ sym (ap (λ l. l ++ renamed_message f.to message ∷ []) (h.messages o b)))
          (subst (λ z. Alike f.to (Some (put_messages (put_object c o (done x)) o b (messages_of c o b ++ message ∷ [])))
          (Some (put_messages (put_object d (f.to o) z) (f.to o) (f.to b) (map (renamed_message f.to) (messages_of c o b ++ message ∷ [])))))
          (sym (filled x (AsStatements T.Done))) (Both (put_messages_renamed o b (messages_of c o b ++ message ∷ []) (put_renamed o (done x) h))))
  transition_renamed p c d (L.Take b s m args) h =
      going_on (renamed_object f.to) (running c b) _ _ _ (running_renamed h b)
      (λ y. going_on (renamed_offer f.to) (offer (action p b y) m.0) _ _ _
      (ap (λ a. offer a m.0) (action_renamed f.to same_names p b y) ∙ offer_renamed (action p b y) m.0)
      (λ v. going_on (renamed_message f.to) (first_message v.names (messages_of c s b)) _ _ _
      (ap (first_message v.names) (h.messages s b) ∙ first_renamed v.names (messages_of c s b))
      (λ g. requiring (g.method == m.0 && are_same g.args args) _ _ _ (ap (λ t. g.method == m.0 && t) (are_same_kept g.args args))
      (going_on (renamed_method f.to) (method_of p y.class m.0 (length args)) _ _ _
      (ap (method_of (renamed_program f.to p) y.class m.0) (length-map args (renamed_value f.to)) ∙ method_renamed f.to same_names p y.class m.0 (length args))
      (λ method. taken_from y method v)))))
    where
      taken_from : (y : Object) (method : MethodTree) (v : Offer)
          → Alike f.to (Some (put_messages (put_object c b (serving y method None args v.work)) s b (without_first v.names (messages_of c s b))))
          (Some (put_messages (put_object d (f.to b) (serving (renamed_object f.to y) (renamed_method f.to method) None (map (renamed_value f.to) args) (renamed_statements f.to v.work)))
          (f.to s) (f.to b) (without_first v.names (messages_of d (f.to s) (f.to b)))))
      taken_from y method v =
          subst (λ ms. Alike f.to (Some (put_messages (put_object c b (serving y method None args v.work)) s b (without_first v.names (messages_of c s b))))
          (Some (put_messages (put_object d (f.to b) (serving (renamed_object f.to y) (renamed_method f.to method) None (map (renamed_value f.to) args) (renamed_statements f.to v.work)))
          (f.to s) (f.to b) ms)))
          (sym (ap (without_first v.names) (h.messages s b) ∙ without_renamed v.names (messages_of c s b)))
          (subst (λ z. Alike f.to (Some (put_messages (put_object c b (serving y method None args v.work)) s b (without_first v.names (messages_of c s b))))
          (Some (put_messages (put_object d (f.to b) z) (f.to s) (f.to b) (map (renamed_message f.to) (without_first v.names (messages_of c s b))))))
          (sym (served y method None args v.work))
          (Both (put_messages_renamed s b (without_first v.names (messages_of c s b)) (put_renamed b (serving y method None args v.work) h))))
  transition_renamed p c d (L.Write o item) h =
      going_on (renamed_object f.to) (running c o) _ _ _ (running_renamed h o)
      (λ x. requiring (writes (action p o x) item) _ _ _
      (ap (λ a. writes a (renamed_item f.to item)) (action_renamed f.to same_names p o x) ∙ writes_kept (action p o x) item)
      (one_put o (done x) _ h (filled x (AsStatements T.Done))))
  transition_renamed p c d (L.Pick o i) h =
      going_on (renamed_object f.to) (running c o) _ _ _ (running_renamed h o)
      (λ x. going_on (renamed_statements f.to) (picked (action p o x) i) _ _ _
      (ap (λ a. picked a i) (action_renamed f.to same_names p o x) ∙ picked_renamed (action p o x) i)
      (λ work. one_put o (refilled x (AsStatements work)) _ h (filled x (AsStatements work))))
  transition_renamed p c d (L.Fault o e) h =
      going_on (renamed_object f.to) (running c o) _ _ _ (running_renamed h o)
      (λ x. requiring (fails (action p o x) e) _ _ _
      (ap (λ a. fails a e) (action_renamed f.to same_names p o x) ∙ fails_kept (action p o x) e)
      (one_put o (record x { fault = Some e }) _ h refl))
