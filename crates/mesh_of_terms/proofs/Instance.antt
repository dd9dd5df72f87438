-- The transition relation over terms is that of the language of terms.
use Rattle.std.proofs.Common.{◌≡◌, refl, sym, ap, ap₂, ◌∙◌, ℕ, zero, suc, ◌+◌, ◌==◌, List, [], ◌∷◌, ◌++◌, length, Option, Some, None, is_some, is_none, Bool, true, false, not, ◌&&◌, ◌||◌, if◌then◌else◌, slice_get, arith}
use Rattle.run_types.specs.declared.types.Value.{Value}
use Rattle.run_types.specs.declared.types.Value.TheVariants as V
use Rattle.run_types.specs.declared.types.Item.{Item}
use Rattle.run_types.specs.declared.types.Error.{Error}
use Rattle.run_types.specs.declared.types.Label.{Label}
use Rattle.run_types.specs.declared.types.Label.TheVariants as L
use Rattle.pool_syntax.specs.declared.tree.Named.{Named}
use Rattle.pool_syntax.specs.Terms as T
use Rattle.pool_syntax.specs.Terms.{Statements, MethodTree, ProgramTree}
use Rattle.pool_syntax.specs.Classes.{class_of}
use Rattle.pool_relation.specs.Reducible.{Choice, AsExpression, AsStatements}
use Rattle.pool_relation.specs.Action as A
use Rattle.run_types.specs.Values.{is_true}
use Rattle.pool_relation.specs.Action.{Object, Action, action, method_of}
use Rattle.pool_relation.specs.Configuration as C
use Rattle.run_types.specs.Message.{Message}
use Rattle.pool_relation.specs.Configuration.{Configuration}
use Rattle.pool_relation.specs.Transition as X
use Rattle.run_types.specs.Same.{are_same}
use Rattle.run_types.specs.Partial.{◌>>=◌, ◌>>◌, require}
use Rattle.pool_relation.specs.Transition.{Offer, transition, offer, names_method, refilled, local_step}
use Rattle.mesh_semantics.specs.Kind.{is_local, makes, calls, posts, returns, waits_on, writes, fails, has_name, answered, answers, alternatives, is_plain}
use Rattle.mesh_semantics.specs.Config.{Config, object_of, put_object, messages_of, put_messages}
use Rattle.mesh_semantics.specs.Moves.{move, running, offered, numbered, can_pick, has_message, first_message, without_message}
use Rattle.mesh_of_terms.specs.Terms.{numbers, names_of, alternatives_of, kind_of, after_local, work_at, work_of, terms, plain}
use Rattle.mesh_of_terms.specs.OneEvent.{as_plain}

running_is : (p : ProgramTree) (c : Config Object) (o : ℕ) → running (terms p) c o ≡ X.running (plain c) o
running_is p c o = refl

-- the questions that are asked of an action
makes_is : (a : Action) (k : ℕ) → makes (kind_of a) k ≡ X.makes a k
makes_is (A.New c) k = refl
makes_is _ k = refl

calls_is : (a : Action) (r n : ℕ) (vs : List Value) → calls (kind_of a) r n vs ≡ X.calls a r n vs
calls_is (A.Send b m args) r n vs = refl
calls_is _ r n vs = refl

posts_is : (a : Action) (r n : ℕ) (vs : List Value) → posts (kind_of a) r n vs ≡ X.posts a r n vs
posts_is (A.Async b m args) r n vs = refl
posts_is _ r n vs = refl

returns_is : (a : Action) (o : ℕ) (v : Value) → returns (kind_of a) o v ≡ X.returns a o v
returns_is (A.Return k w) o v = refl
returns_is _ o v = refl

waits_is : (a : Action) (r : ℕ) → waits_on (kind_of a) r ≡ X.waits_on a r
waits_is (A.Waits b m) r = refl
waits_is _ r = refl

writes_is : (a : Action) (i : Item) → writes (kind_of a) i ≡ X.writes a i
writes_is (A.Write j) i = refl
writes_is _ i = refl

fails_is : (a : Action) (e : Error) → fails (kind_of a) e ≡ X.fails a e
fails_is (A.Fault f) e = refl
fails_is _ e = refl

-- names by their numbers

pub name_is : (ns : List Named) (m : ℕ) → has_name (numbers ns) m ≡ names_method ns m
name_is [] m = refl
name_is (n ∷ ns) m = ap (λ b. (n.name.0 == m) || b) (name_is ns m)

message_is : (ns : List Named) (ms : List Message) → has_message (numbers ns) ms ≡ X.has_message ns ms
message_is ns [] = refl
message_is ns (m ∷ ms) = ap₂ ◌||◌ (name_is ns m.method) (message_is ns ms)

pub first_is : (ns : List Named) (ms : List Message) → first_message (numbers ns) ms ≡ X.first_message ns ms
first_is ns [] = refl
first_is ns (m ∷ ms) = ap₂ (λ b z. if b then Some m else z) (name_is ns m.method) (first_is ns ms)

without_is : (ns : List Named) (ms : List Message) → without_message (numbers ns) ms ≡ X.without_first ns ms
without_is ns [] = refl
without_is ns (m ∷ ms) = ap₂ (λ b z. if b then ms else m ∷ z) (name_is ns m.method) (without_is ns ms)

-- what is offered to a call
pub data Offering (a : Action) (m : ℕ) : Type 0 where
  Nothing : offered 1 (alternatives (kind_of a)) m ≡ None → offer a m ≡ None → Offering a m
  Something : (i : ℕ) (v : Offer) → offered 1 (alternatives (kind_of a)) m ≡ Some (i, numbers v.names) → offer a m ≡ Some v → work_of a i ≡ v.work → Offering a m

answered_is : (o : Option (List Named)) → answered (names_of o) ≡ numbers (X.answered o)
answered_is None = refl
answered_is (Some ns) = refl

answers_is : (c : Choice) (m : ℕ) → answers (record { is_open = is_true c.guard; names = names_of c.answer }) m ≡ (is_true c.guard && names_method (X.answered c.answer) m)
answers_is c m = ap (λ b. is_true c.guard && b) (ap (λ ns. has_name ns m) (answered_is c.answer) ∙ name_is (X.answered c.answer) m)

data Selects (i : ℕ) (cs : List Choice) (m : ℕ) : Type 0 where
  No_choice : offered i (alternatives_of cs) m ≡ None → X.select_offer cs m ≡ None → Selects i cs m
  A_choice : (j : ℕ) (v : Offer) → offered i (alternatives_of cs) m ≡ Some (i + j, numbers v.names) → X.select_offer cs m ≡ Some v → work_at (slice_get cs j) ≡ v.work → Selects i cs m

selects : (i : ℕ) (cs : List Choice) (m : ℕ) → Selects i cs m
selects i [] m = No_choice refl refl
selects i (c ∷ cs) m = by (is_true c.guard && names_method (X.answered c.answer) m) refl (selects (i + 1) cs m)
  where
    none : i + 0 ≡ i
    none = omega arith

    by : (b : Bool) → (is_true c.guard && names_method (X.answered c.answer) m) ≡ b → Selects (i + 1) cs m → Selects i (c ∷ cs) m
    by true e k = A_choice 0 (record { names = X.answered c.answer; work = c.work }) (rw (answers_is c m, e, answered_is c.answer, none) refl) (rw e refl) refl
    by false e (No_choice f h) = No_choice (rw (answers_is c m, e) f) (rw e h)
    by false e (A_choice j v f h w) =
        let later : (i + 1) + j ≡ i + suc j = omega arith in
        A_choice (suc j) v (rw (answers_is c m, e) (f ∙ ap (λ n. Some (n, numbers v.names)) later)) (rw e h) w

pub offering : (a : Action) (m : ℕ) → Offering a m
offering (A.Answer names) m = by (names_method names m) refl
  where
    by : (b : Bool) → names_method names m ≡ b → Offering (A.Answer names) m
    by true e = Something 1 (record { names = names; work = T.Done }) (rw (name_is names m, e) refl) (rw e refl) refl
    by false e = Nothing (rw (name_is names m, e) refl) (rw e refl)
offering (A.Select cs) m = by (selects 1 cs m)
  where
    by : Selects 1 cs m → Offering (A.Select cs) m
    by (No_choice f h) = Nothing f h
    by (A_choice j v f h w) = Something (1 + j) v f h (let e : 1 + j ≡ suc j = omega arith in ap (work_of (A.Select cs)) e ∙ w)
offering _ m = Nothing refl refl

pub picked_is : (a : Action) (i : ℕ) → X.picked a i ≡ (require (can_pick (numbered (alternatives (kind_of a)) i)) >> Some (work_of a i))
picked_is (A.Select cs) zero = refl
picked_is (A.Select cs) (suc i) = at cs i
  where
    plain_is : (c : Choice) → (is_true c.guard && is_none c.answer) ≡ is_plain (record { is_open = is_true c.guard; names = names_of c.answer })
    plain_is c = ap (λ b. is_true c.guard && b) (by c.answer)
      where
        by : (o : Option (List Named)) → is_none o ≡ is_none (names_of o)
        by None = refl
        by (Some ns) = refl

    at : (cs : List Choice) (i : ℕ) → X.plain_choice (slice_get cs i) ≡ (require (can_pick (slice_get (alternatives_of cs) i)) >> Some (work_at (slice_get cs i)))
    at [] i = refl
    at (c ∷ cs) zero = ap (λ b. require b >> Some c.work) (plain_is c)
    at (c ∷ cs) (suc i) = at cs i
picked_is (A.Answer names) zero = refl
picked_is (A.Answer names) (suc zero) = refl
picked_is (A.Answer names) (suc (suc i)) = refl
picked_is _ zero = refl
picked_is _ (suc i) = refl

required_plain : (b : Bool) (z : Option (Config Object)) → as_plain (require b >> z) ≡ (require b >> as_plain z)
required_plain true z = refl
required_plain false z = refl

then_plain : {A : Type 0} (o : Option A) (f : A → Option (Config Object)) → as_plain (o >>= f) ≡ (o >>= λ a. as_plain (f a))
then_plain None f = refl
then_plain (Some a) f = refl

join : {A B D : Type 0} (o : Option A) (f : A → B) (h : B → Option D) → ((o >>= λ a. Some (f a)) >>= h) ≡ (o >>= λ a. h (f a))
join None f h = refl
join (Some a) f h = refl

local_is : (x : Object) (a : Action) (f : Object → Config Object) → as_plain (require (is_local (kind_of a)) >> Some (f (after_local x a))) ≡ (local_step x a >>= λ y. Some (plain (f y)))
local_is x (A.Local term vars) f = refl
local_is x _ f = refl

module _ (p : ProgramTree) (c : Config Object) where
  -- where the object is not there, or has a fault
  gone : (o : ℕ) (F : Object → Option (Config Object)) (G : Object → Option Configuration) → ((x : Object) → as_plain (F x) ≡ G x)
      → as_plain (running (terms p) c o >>= F) ≡ (X.running (plain c) o >>= G)
  gone o F G h = by (X.running (plain c) o)
    where
      by : (z : Option Object) → as_plain (z >>= F) ≡ (z >>= G)
      by None = refl
      by (Some x) = h x

  -- the object o is asked first, and then the object b
  both_gone : (o b : ℕ) (F : Object → Object → Option (Config Object)) (G : Object → Object → Option Configuration) → ((x y : Object) → as_plain (F x y) ≡ G x y)
      → as_plain (running (terms p) c o >>= λ x. running (terms p) c b >>= λ y. F x y) ≡ (X.running (plain c) o >>= λ x. X.running (plain c) b >>= λ y. G x y)
  both_gone o b F G h = gone o (λ x. running (terms p) c b >>= λ y. F x y) (λ x. X.running (plain c) b >>= λ y. G x y) (λ x. gone b (λ y. F x y) (λ y. G x y) (λ y. h x y))

  pub move_is : (lab : Label) → as_plain (move (terms p) c lab) ≡ transition p (plain c) lab
  move_is (L.Local o) = gone o (λ x. require (is_local (kind_of (action p o x))) >> Some (put_object c o (after_local x (action p o x))))
      (λ x. local_step x (action p o x) >>= λ y. Some (C.put_object (plain c) o y)) (λ x. local_is x (action p o x) (λ y. put_object c o y))
  move_is (L.New o n k) = gone o
      (λ x. require (makes (kind_of (action p o x)) k.0 && is_none (object_of c n)) >> ((class_of p k.0 >>= λ class. Some (X.new_object class)) >>= λ y. Some (put_object (put_object c o (X.given x (V.Ref n))) n y)))
      (λ x. require (X.makes (action p o x) k.0 && is_none (object_of c n)) >> (class_of p k.0 >>= λ class. Some (C.put_object (C.put_object (plain c) o (X.given x (V.Ref n))) n (X.new_object class))))
      (λ x. required_plain (makes (kind_of (action p o x)) k.0 && is_none (object_of c n)) _
      ∙ ap₂ (λ b z. require (b && is_none (object_of c n)) >> z) (makes_is (action p o x) k.0)
      (ap as_plain (join (class_of p k.0) X.new_object (λ y. Some (put_object (put_object c o (X.given x (V.Ref n))) n y)))
      ∙ then_plain (class_of p k.0) (λ class. Some (put_object (put_object c o (X.given x (V.Ref n))) n (X.new_object class)))))
  move_is (L.Send o b m args) = gone o
      (λ x. require (posts (kind_of (action p o x)) b m.0 args && is_some (object_of c b)) >> Some (put_messages (put_object c o (X.done x)) o b (messages_of c o b ++ record { method = m.0; args = args } ∷ [])))
      (λ x. require (X.posts (action p o x) b m.0 args && is_some (object_of c b)) >> Some (C.put_messages (C.put_object (plain c) o (X.done x)) o b (messages_of c o b ++ record { method = m.0; args = args } ∷ [])))
      (λ x. required_plain (posts (kind_of (action p o x)) b m.0 args && is_some (object_of c b)) _
      ∙ ap (λ t. require (t && is_some (object_of c b)) >> Some (C.put_messages (C.put_object (plain c) o (X.done x)) o b (messages_of c o b ++ record { method = m.0; args = args } ∷ []))) (posts_is (action p o x) b m.0 args))
  move_is (L.Write o item) = gone o
      (λ x. require (writes (kind_of (action p o x)) item) >> Some (put_object c o (X.done x)))
      (λ x. require (X.writes (action p o x) item) >> Some (C.put_object (plain c) o (X.done x)))
      (λ x. required_plain (writes (kind_of (action p o x)) item) _ ∙ ap (λ t. require t >> Some (C.put_object (plain c) o (X.done x))) (writes_is (action p o x) item))
  move_is (L.Fault o e) = gone o
      (λ x. require (fails (kind_of (action p o x)) e) >> Some (put_object c o (record x { fault = Some e })))
      (λ x. require (X.fails (action p o x) e) >> Some (C.put_object (plain c) o (record x { fault = Some e })))
      (λ x. required_plain (fails (kind_of (action p o x)) e) _ ∙ ap (λ t. require t >> Some (C.put_object (plain c) o (record x { fault = Some e }))) (fails_is (action p o x) e))
  move_is (L.Pick o i) = gone o
      (λ x. require (can_pick (numbered (alternatives (kind_of (action p o x))) i)) >> Some (put_object c o (refilled x (AsStatements (work_of (action p o x) i)))))
      (λ x. X.picked (action p o x) i >>= λ work. Some (C.put_object (plain c) o (refilled x (AsStatements work))))
      (λ x. required_plain (can_pick (numbered (alternatives (kind_of (action p o x))) i)) _
      ∙ sym (ap (λ z. z >>= λ work. Some (C.put_object (plain c) o (refilled x (AsStatements work)))) (picked_is (action p o x) i)
      ∙ pulled (can_pick (numbered (alternatives (kind_of (action p o x))) i)) (work_of (action p o x) i) (λ work. Some (C.put_object (plain c) o (refilled x (AsStatements work))))))
    where
      pulled : {A B : Type 0} (b : Bool) (a : A) (f : A → Option B) → ((require b >> Some a) >>= f) ≡ (require b >> f a)
      pulled true a f = refl
      pulled false a f = refl
  move_is (L.Return b o v) = both_gone b o
      (λ y x. require (returns (kind_of (action p b y)) o v && waits_on (kind_of (action p o x)) b) >> Some (put_object (put_object c b (X.returned y)) o (X.given x v)))
      (λ y x. require (X.returns (action p b y) o v && X.waits_on (action p o x) b) >> Some (C.put_object (C.put_object (plain c) b (X.returned y)) o (X.given x v)))
      (λ y x. required_plain (returns (kind_of (action p b y)) o v && waits_on (kind_of (action p o x)) b) _
      ∙ ap₂ (λ t u. require (t && u) >> Some (C.put_object (C.put_object (plain c) b (X.returned y)) o (X.given x v))) (returns_is (action p b y) o v) (waits_is (action p o x) b))
  move_is (L.Answer b o m args) = both_gone o b
      (λ x y. require (calls (kind_of (action p o x)) b m.0 args) >> (offered 1 (alternatives (kind_of (action p b y))) m.0 >>= λ v. require (not (has_message v.1 (messages_of c o b)))
      >> ((method_of p y.class m.0 (length args) >>= λ method. Some (X.serving y method (Some o) args (work_of (action p b y) v.0))) >>= λ z. Some (put_object (put_object c o (refilled x (AsExpression (T.Wait b m.0)))) b z))))
      (λ x y. require (X.calls (action p o x) b m.0 args) >> (offer (action p b y) m.0 >>= λ v. require (not (X.has_message v.names (messages_of c o b)))
      >> (method_of p y.class m.0 (length args) >>= λ method. Some (C.put_object (C.put_object (plain c) o (refilled x (AsExpression (T.Wait b m.0)))) b (X.serving y method (Some o) args v.work)))))
      (λ x y. required_plain (calls (kind_of (action p o x)) b m.0 args) _
      ∙ ap₂ (λ t z. require t >> z) (calls_is (action p o x) b m.0 args) (by x y (offering (action p b y) m.0)))
    where
      by : (x y : Object) → Offering (action p b y) m.0
          → as_plain (offered 1 (alternatives (kind_of (action p b y))) m.0 >>= λ v. require (not (has_message v.1 (messages_of c o b)))
          >> ((method_of p y.class m.0 (length args) >>= λ method. Some (X.serving y method (Some o) args (work_of (action p b y) v.0))) >>= λ z. Some (put_object (put_object c o (refilled x (AsExpression (T.Wait b m.0)))) b z)))
          ≡ (offer (action p b y) m.0 >>= λ v. require (not (X.has_message v.names (messages_of c o b)))
          >> (method_of p y.class m.0 (length args) >>= λ method. Some (C.put_object (C.put_object (plain c) o (refilled x (AsExpression (T.Wait b m.0)))) b (X.serving y method (Some o) args v.work))))
      by x y (Nothing e f) = rw (e, f) refl
      by x y (Something i v e f h) = rw (e, f)
          (required_plain (not (has_message (numbers v.names) (messages_of c o b))) _
          ∙ ap₂ (λ t z. require (not t) >> z) (message_is v.names (messages_of c o b))
          (ap as_plain (join (method_of p y.class m.0 (length args)) (λ method. X.serving y method (Some o) args (work_of (action p b y) i)) (λ z. Some (put_object (put_object c o (refilled x (AsExpression (T.Wait b m.0)))) b z)))
          ∙ then_plain (method_of p y.class m.0 (length args)) (λ method. Some (put_object (put_object c o (refilled x (AsExpression (T.Wait b m.0)))) b (X.serving y method (Some o) args (work_of (action p b y) i))))
          ∙ ap (λ w. method_of p y.class m.0 (length args) >>= λ method. Some (C.put_object (C.put_object (plain c) o (refilled x (AsExpression (T.Wait b m.0)))) b (X.serving y method (Some o) args w))) h))
  move_is (L.Take b s m args) = gone b
      (λ y. offered 1 (alternatives (kind_of (action p b y))) m.0 >>= λ v. first_message v.1 (messages_of c s b) >>= λ first. require (first.method == m.0 && are_same first.args args)
      >> ((method_of p y.class m.0 (length args) >>= λ method. Some (X.serving y method None args (work_of (action p b y) v.0))) >>= λ z. Some (put_messages (put_object c b z) s b (without_message v.1 (messages_of c s b)))))
      (λ y. offer (action p b y) m.0 >>= λ v. X.first_message v.names (messages_of c s b) >>= λ first. require (first.method == m.0 && are_same first.args args)
      >> (method_of p y.class m.0 (length args) >>= λ method. Some (C.put_messages (C.put_object (plain c) b (X.serving y method None args v.work)) s b (X.without_first v.names (messages_of c s b)))))
      (λ y. by y (offering (action p b y) m.0))
    where
      by : (y : Object) → Offering (action p b y) m.0
          → as_plain (offered 1 (alternatives (kind_of (action p b y))) m.0 >>= λ v. first_message v.1 (messages_of c s b) >>= λ first. require (first.method == m.0 && are_same first.args args)
          >> ((method_of p y.class m.0 (length args) >>= λ method. Some (X.serving y method None args (work_of (action p b y) v.0))) >>= λ z. Some (put_messages (put_object c b z) s b (without_message v.1 (messages_of c s b)))))
          ≡ (offer (action p b y) m.0 >>= λ v. X.first_message v.names (messages_of c s b) >>= λ first. require (first.method == m.0 && are_same first.args args)
          >> (method_of p y.class m.0 (length args) >>= λ method. Some (C.put_messages (C.put_object (plain c) b (X.serving y method None args v.work)) s b (X.without_first v.names (messages_of c s b)))))
      by y (Nothing e f) = rw (e, f) refl
      by y (Something i v e f h) = rw (e, f, first_is v.names (messages_of c s b)) (at (X.first_message v.names (messages_of c s b)))
        where
          at : (z : Option Message)
              → as_plain (z >>= λ first. require (first.method == m.0 && are_same first.args args)
              >> ((method_of p y.class m.0 (length args) >>= λ method. Some (X.serving y method None args (work_of (action p b y) i))) >>= λ z. Some (put_messages (put_object c b z) s b (without_message (numbers v.names) (messages_of c s b)))))
              ≡ (z >>= λ first. require (first.method == m.0 && are_same first.args args)
              >> (method_of p y.class m.0 (length args) >>= λ method. Some (C.put_messages (C.put_object (plain c) b (X.serving y method None args v.work)) s b (X.without_first v.names (messages_of c s b)))))
          at None = refl
          at (Some first) = required_plain (first.method == m.0 && are_same first.args args) _
              ∙ ap (λ z. require (first.method == m.0 && are_same first.args args) >> z)
              (ap as_plain (join (method_of p y.class m.0 (length args)) (λ method. X.serving y method None args (work_of (action p b y) i)) (λ z. Some (put_messages (put_object c b z) s b (without_message (numbers v.names) (messages_of c s b)))))
              ∙ then_plain (method_of p y.class m.0 (length args)) (λ method. Some (put_messages (put_object c b (X.serving y method None args (work_of (action p b y) i))) s b (without_message (numbers v.names) (messages_of c s b))))
              ∙ ap₂ (λ w ms. method_of p y.class m.0 (length args) >>= λ method. Some (C.put_messages (C.put_object (plain c) b (X.serving y method None args w)) s b ms)) h (without_is v.names (messages_of c s b)))
