-- The changes of the stepper do what the parts of objects in transitions say.
use Rattle.std.proofs.Common.{◌≡◌, refl, sym, ap, subst, ◌∙◌, ℕ, List, length, Option, Some, None, Bool, true, false, if◌then◌else◌, arith}
use denote.Bor.{Bor}
use Rattle.run_types.specs.declared.types.Error.{Error}
use Rattle.run_types.specs.declared.types.Item.{Item}
use Rattle.run_types.specs.declared.types.NameId.{NameId}
use Rattle.run_types.specs.declared.types.Value.{Value}
use Rattle.run_types.specs.declared.types.Value.TheVariants as V
use Rattle.run_types.specs.Partial.{◌>>=◌, ◌>>◌, require}
use Rattle.run_types.specs.Same.{are_same}
use Rattle.pool_syntax.specs.declared.tree.Method.{Method}
use Rattle.pool_syntax.specs.declared.tree.Named.{Named}
use Rattle.pool_syntax.specs.declared.tree.Stmt.{Stmt}
use Rattle.pool_syntax.specs.Terms as T
use Rattle.pool_syntax.specs.Terms.{ProgramTree, Statements}
use Rattle.pool_syntax.specs.TreeOf.{method_tree, statements_of}
use Rattle.pool_relation.specs.Reducible.{Choice, AsExpression, AsStatements}
use Rattle.pool_relation.specs.Action as A
use Rattle.pool_relation.specs.Action.{Object, action, method_of}
use Rattle.pool_relation.specs.Transition as X
use Rattle.pool_relation.specs.Transition.{local_step, makes, calls, posts, returns, waits_on, writes, fails, picked, offer, refilled, done, returned, given, serving}
use Rattle.object_acts.specs.Acts.{acted, calls_act, changed, Fits, is_local, posts_act, returns_act, Suits, waits_act}
use Rattle.object_acts.specs.declared.act.Act.{Act}
use Rattle.object_acts.specs.declared.act.Act.TheVariants as C
use Rattle.object_acts.specs.declared.change.Change.{Change}
use Rattle.object_acts.specs.declared.change.Change.TheVariants as H
use Rattle.stepper_objects.specs.ObjectStates.{thing_object}
use Rattle.stepper_objects.specs.Offers.{offer_act}
use Rattle.stepper_objects.specs.declared.object_state.ObjectState.{ObjectState}
use Rattle.stepper_terms.specs.Arguments.{now_args, now_names, now_choices}
use Rattle.stepper_terms.specs.declared.contexts.Activation.{Activation}
use Rattle.stepper_terms.specs.declared.contexts.Focus.{Focus}
use Rattle.object_moves.specs.Changed.{IsActOf, IsChangeOf, fails_act, makes_act, writes_act}
use Rattle.object_moves.specs.Roles.{acts}
use Rattle.object_moves.specs.declared.parts.Role.{Role}
use Rattle.object_moves.specs.declared.parts.Role.TheVariants as R

-- what each test of an action says of an act
module _ (x : Object) (vs : List Value) (ns : List Named) (cs : List Choice) where
  writes_acted : (a : Act) (j : Item) → writes (acted x vs ns cs a) j ≡ writes_act a j
  writes_acted (C.Write i) j = refl
  writes_acted _ j = refl

  fails_acted : (a : Act) (e : Error) → fails (acted x vs ns cs a) e ≡ fails_act a e
  fails_acted (C.Fault f) e = refl
  fails_acted _ e = refl

  makes_acted : (a : Act) (k : ℕ) → makes (acted x vs ns cs a) k ≡ makes_act a k
  makes_acted (C.New c) k = refl
  makes_acted _ k = refl

  posts_acted : (a : Act) (b m : ℕ) (args : List Value) → posts (acted x vs ns cs a) b m args ≡ posts_act a b m (are_same vs args)
  posts_acted (C.Async c n) b m args = refl
  posts_acted _ b m args = refl

  calls_acted : (a : Act) (b m : ℕ) (args : List Value) → calls (acted x vs ns cs a) b m args ≡ calls_act a b m (are_same vs args)
  calls_acted (C.Send c n) b m args = refl
  calls_acted _ b m args = refl

  returns_acted : (a : Act) (k : ℕ) (v : Value) → returns (acted x vs ns cs a) k v ≡ returns_act a k v
  returns_acted (C.Return c w) k v = refl
  returns_acted _ k v = refl

  waits_acted : (a : Act) (b : ℕ) → waits_on (acted x vs ns cs a) b ≡ waits_act a b
  waits_acted (C.Waits c m) b = refl
  waits_acted _ b = refl

  offer_acted : (a : Act) (m : ℕ) → offer (acted x vs ns cs a) m ≡ offer_act a ns cs m
  offer_acted C.Answer m = refl
  offer_acted C.Select m = refl
  offer_acted _ m = refl

  not_picked : (a : Act) (i : ℕ) → (a ≡ C.Select → ⊥) → picked (acted x vs ns cs a) i ≡ None
  not_picked C.Select i n = absurd (n refl)
  not_picked _ i n = refl

-- the change suits the act
module _ (xs : List Activation) (n : Focus) where
  write_fits : (a : Act) (j : Item) → Suits xs n a → writes_act a j ≡ true → Fits xs n H.Done
  write_fits (C.Write i) j s h = s
  write_fits _ j s h = absurd (grind (arith, h))

  make_fits : (a : Act) (k : ℕ) (v : Value) → Suits xs n a → makes_act a k ≡ true → Fits xs n (H.Becomes v)
  make_fits (C.New c) k v s h = s
  make_fits _ k v s h = absurd (grind (arith, h))

  post_fits : (a : Act) (b m : ℕ) (t : Bool) → Suits xs n a → posts_act a b m t ≡ true → Fits xs n H.Done
  post_fits (C.Async c k) b m t s h = s
  post_fits _ b m t s h = absurd (grind (arith, h))

  call_fits : (a : Act) (b : ℕ) (m : NameId) (t : Bool) → Suits xs n a → calls_act a b m.0 t ≡ true → Fits xs n (H.Wait b m)
  call_fits (C.Send c k) b m t s h = s
  call_fits _ b m t s h = absurd (grind (arith, h))

  return_fits : (a : Act) (k : ℕ) (v : Value) → Suits xs n a → returns_act a k v ≡ true → Fits xs n H.Returned
  return_fits (C.Return c w) k v s h = s
  return_fits _ k v s h = absurd (grind (arith, h))

  wait_fits : (a : Act) (b : ℕ) (v : Value) → Suits xs n a → waits_act a b ≡ true → Fits xs n (H.Becomes v)
  wait_fits (C.Waits c m) b v s h = s
  wait_fits _ b v s h = absurd (grind (arith, h))

  serve_fits : (a : Act) (ns : List Named) (cs : List Choice) (m : ℕ) (v : X.Offer) (k : Bor Method) (c : Option ℕ) (args : List Value) (w : Bor (List Stmt)) → Suits xs n a → offer_act a ns cs m ≡ Some v → Fits xs n (H.Serve k c args w)
  serve_fits C.Answer ns cs m v k c args w s h = s
  serve_fits C.Select ns cs m v k c args w s h = s
  serve_fits _ ns cs m v k c args w s h = absurd (grind (arith, h))

-- a local change alters the term and the variables alone
changed_keeps : (x : Object) (vs : List Value) (h : Change) → is_local h ≡ true → record x { term = (changed x vs h).term; vars = (changed x vs h).vars } ≡ changed x vs h
changed_keeps x vs H.Returned e = absurd (grind arith)
changed_keeps x vs (H.Wait b m) e = absurd (grind arith)
changed_keeps x vs (H.Serve m k args after) e = absurd (grind arith)
changed_keeps x vs (H.Fault f) e = absurd (grind arith)
changed_keeps x vs (H.Becomes v) e = refl
changed_keeps x vs H.Done e = refl
changed_keeps x vs (H.SetTemp n v) e = refl
changed_keeps x vs (H.SetVariable n v) e = refl
changed_keeps x vs (H.Branch ss) e = refl
changed_keeps x vs (H.Repeat k ss) e = refl
changed_keeps x vs (H.Unfold k ss) e = refl
changed_keeps x vs (H.Call m) e = refl
changed_keeps x vs (H.Leave v) e = refl
changed_keeps x vs H.End e = refl

pub local_made : (p : ProgramTree) (o : ℕ) (t : ObjectState) (args : List Value) (h : Change) → IsActOf p o t (C.Local h) → IsChangeOf p o R.Goes args t (Some h)
local_made p o t args h d = (d.suits.0, ap (local_step (thing_object t)) d.gives ∙ ap Some (changed_keeps (thing_object t) (now_args t.work.next) h d.suits.1))

pub not_local : (p : ProgramTree) (o : ℕ) (t : ObjectState) (args : List Value) (a : Act) → IsActOf p o t a → ((h : Change) → a ≡ C.Local h → ⊥) → IsChangeOf p o R.Goes args t None
not_local p o t args (C.Local h) d n = absurd (n h refl)
not_local p o t args _ d n = ap (local_step (thing_object t)) d.gives

module _ (p : ProgramTree) (o : ℕ) (t : ObjectState) (args : List Value) (a : Act) (d : IsActOf p o t a) where
  abbrev x : Object
  x = thing_object t

  abbrev vs : List Value
  vs = now_args t.work.next

  abbrev ns : List Named
  ns = now_names t.work.next

  abbrev cs : List Choice
  cs = now_choices t.work.next

  by_test : (r : Role) (b : Bool) (h : Change) → (b ≡ true → Fits t.work.calls.items t.work.next h) → acts p o r args x ≡ (require b >> Some (changed x vs h)) → IsChangeOf p o r args t (if b then Some h else None)
  by_test r true h fits is = (fits refl, is)
  by_test r false h fits is = is

  pub write_change : (j : Item) → IsChangeOf p o (R.Writes j) args t (if writes_act a j then Some H.Done else None)
  write_change j =
      by_test (R.Writes j) (writes_act a j) H.Done (write_fits t.work.calls.items t.work.next a j d.suits)
      (ap (λ b. require (writes b j) >> Some (done x)) d.gives ∙ ap (λ b. require b >> Some (done x)) (writes_acted x vs ns cs a j))

  pub fail_change : (e : Error) → IsChangeOf p o (R.Fails e) args t (if fails_act a e then Some (H.Fault e) else None)
  fail_change e =
      by_test (R.Fails e) (fails_act a e) (H.Fault e) (λ h. tt)
      (ap (λ b. require (fails b e) >> Some (record x { fault = Some e })) d.gives ∙ ap (λ b. require b >> Some (record x { fault = Some e })) (fails_acted x vs ns cs a e))

  pub send_change : (b : ℕ) (m : NameId) → IsChangeOf p o (R.Sends b m) args t (if posts_act a b m.0 (are_same vs args) then Some H.Done else None)
  send_change b m =
      by_test (R.Sends b m) (posts_act a b m.0 (are_same vs args)) H.Done (post_fits t.work.calls.items t.work.next a b m.0 (are_same vs args) d.suits)
      (ap (λ k. require (posts k b m.0 args) >> Some (done x)) d.gives ∙ ap (λ k. require k >> Some (done x)) (posts_acted x vs ns cs a b m.0 args))

  pub call_change : (b : ℕ) (m : NameId) → IsChangeOf p o (R.Calls b m) args t (if calls_act a b m.0 (are_same vs args) then Some (H.Wait b m) else None)
  call_change b m =
      let waits = refilled x (AsExpression (T.Wait b m.0)) in
      by_test (R.Calls b m) (calls_act a b m.0 (are_same vs args)) (H.Wait b m) (call_fits t.work.calls.items t.work.next a b m (are_same vs args) d.suits)
      (ap (λ k. require (calls k b m.0 args) >> Some waits) d.gives ∙ ap (λ k. require k >> Some waits) (calls_acted x vs ns cs a b m.0 args))

  pub return_change : (k : ℕ) (v : Value) → IsChangeOf p o (R.Returns k v) args t (if returns_act a k v then Some H.Returned else None)
  return_change k v =
      by_test (R.Returns k v) (returns_act a k v) H.Returned (return_fits t.work.calls.items t.work.next a k v d.suits)
      (ap (λ b. require (returns b k v) >> Some (returned x)) d.gives ∙ ap (λ b. require b >> Some (returned x)) (returns_acted x vs ns cs a k v))

  pub get_change : (b : ℕ) (v : Value) → IsChangeOf p o (R.Gets b v) args t (if waits_act a b then Some (H.Becomes v) else None)
  get_change b v =
      by_test (R.Gets b v) (waits_act a b) (H.Becomes v) (wait_fits t.work.calls.items t.work.next a b v d.suits)
      (ap (λ k. require (waits_on k b) >> Some (given x v)) d.gives ∙ ap (λ k. require k >> Some (given x v)) (waits_acted x vs ns cs a b))

  pub make_change : (k : NameId) (n : ℕ) → IsChangeOf p o (R.Makes k n) args t (if makes_act a k.0 then Some (H.Becomes (V.Ref n)) else None)
  make_change k n =
      by_test (R.Makes k n) (makes_act a k.0) (H.Becomes (V.Ref n)) (make_fits t.work.calls.items t.work.next a k.0 (V.Ref n) d.suits)
      (ap (λ b. require (makes b k.0) >> Some (given x (V.Ref n))) d.gives ∙ ap (λ b. require b >> Some (given x (V.Ref n))) (makes_acted x vs ns cs a k.0))

  -- an alternative
  pub no_pick : (i : ℕ) → (a ≡ C.Select → ⊥) → IsChangeOf p o (R.Picks i) args t None
  no_pick i n = ap (λ k. picked k i >>= λ work. Some (refilled x (AsStatements work))) d.gives ∙ ap (λ r. r >>= λ work. Some (refilled x (AsStatements work))) (not_picked x vs ns cs a i n)

  -- a method to serve
  pub no_offer : (m : NameId) (k : Option ℕ) → offer_act a ns cs m.0 ≡ None → IsChangeOf p o (R.Serves m k) args t None
  no_offer m k e =
      ap (λ b. offer b m.0 >>= λ v. method_of p x.class m.0 (length args) >>= λ method. Some (serving x method k args v.work)) d.gives
      ∙ ap (λ r. r >>= λ v. method_of p x.class m.0 (length args) >>= λ method. Some (serving x method k args v.work)) (offer_acted x vs ns cs a m.0 ∙ e)

  pub no_method : (m : NameId) (k : Option ℕ) (v : X.Offer) → offer_act a ns cs m.0 ≡ Some v → method_of p t.class m.0 (length args) ≡ None → IsChangeOf p o (R.Serves m k) args t None
  no_method m k v e f =
      ap (λ b. offer b m.0 >>= λ v. method_of p x.class m.0 (length args) >>= λ method. Some (serving x method k args v.work)) d.gives
      ∙ ap (λ r. r >>= λ v. method_of p x.class m.0 (length args) >>= λ method. Some (serving x method k args v.work)) (offer_acted x vs ns cs a m.0 ∙ e)
      ∙ ap (λ r. r >>= λ method. Some (serving x method k args v.work)) f

  pub serve_change : (m : NameId) (k : Option ℕ) (v : X.Offer) (method : Bor Method) (w : Bor (List Stmt)) → offer_act a ns cs m.0 ≡ Some v → v.work ≡ statements_of w.now → method_of p t.class m.0 (length args) ≡ Some (method_tree method.now)
      → IsChangeOf p o (R.Serves m k) args t (Some (H.Serve method k args w))
  serve_change m k v method w e g f = (
    serve_fits t.work.calls.items t.work.next a ns cs m.0 v method k args w d.suits e,
    ap (λ b. offer b m.0 >>= λ v. method_of p x.class m.0 (length args) >>= λ method. Some (serving x method k args v.work)) d.gives
        ∙ ap (λ r. r >>= λ v. method_of p x.class m.0 (length args) >>= λ method. Some (serving x method k args v.work)) (offer_acted x vs ns cs a m.0 ∙ e)
        ∙ ap (λ r. r >>= λ method. Some (serving x method k args v.work)) f ∙ ap (λ (s : Statements). Some (serving x (method_tree method.now) k args s)) g,
  )

-- an alternative of an object that is at a select
module _ (p : ProgramTree) (o : ℕ) (t : ObjectState) (args : List Value) (d : IsActOf p o t C.Select) where
  pub pick_change : (i : ℕ) (w : Bor (List Stmt)) → picked (A.Select (now_choices t.work.next)) i ≡ Some (statements_of w.now) → IsChangeOf p o (R.Picks i) args t (Some (H.Branch w))
  pick_change i w e = (
    d.suits,
    ap (λ k. picked k i >>= λ work. Some (refilled (thing_object t) (AsStatements work))) d.gives ∙ ap (λ r. r >>= λ work. Some (refilled (thing_object t) (AsStatements work))) e,
  )

  pub none_picked : (i : ℕ) → picked (A.Select (now_choices t.work.next)) i ≡ None → IsChangeOf p o (R.Picks i) args t None
  none_picked i e = ap (λ k. picked k i >>= λ work. Some (refilled (thing_object t) (AsStatements work))) d.gives ∙ ap (λ r. r >>= λ work. Some (refilled (thing_object t) (AsStatements work))) e

-- the same of a role and a change that are the same
pub told : (p : ProgramTree) (o : ℕ) (t : ObjectState) (args : List Value) (q r : Role) (k h : Option Change) → q ≡ r → k ≡ h → IsChangeOf p o r args t h → IsChangeOf p o q args t k
told p o t args q r k h same is change = subst (λ (s : Role). IsChangeOf p o s args t k) (sym same) (subst (IsChangeOf p o r args t) (sym is) change)

-- a change under a test
pub tested : (test b : Bool) (h : Change) (k : Option Change) → k ≡ (if test then Some h else None) → test ≡ b → k ≡ (if b then Some h else None)
tested test b h k e f = e ∙ ap (λ (t : Bool). if t then Some h else None) f
