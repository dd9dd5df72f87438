-- An object can make a transition exactly if it can alone, by the answer of a call, or by the take of a message.
use Rattle.std.proofs.Common.{◌≡◌, ◌≢◌, ◌⊎◌, inl, inr, refl, sym, ap, subst, ◌∙◌, ℕ, zero, suc, ◌==◌, List, [], ◌∷◌, length, Option, Some, None, is_some, is_none, Bool, true, false, not}
use Rattle.std.specs.Prelude.{◌&&◌, slice_get}
use Rattle.std.specs.List.{list_any}
use Rattle.run_types.specs.declared.types.Value.{Value}
use Rattle.run_types.specs.declared.types.Item.{Item}
use Rattle.run_types.specs.declared.types.Error.{Error}
use Rattle.run_types.specs.declared.types.Label.{Label}
use Rattle.run_types.specs.declared.types.Label.TheVariants as L
use Rattle.pool_syntax.specs.declared.tree.Named.{Named}
use Rattle.pool_syntax.specs.Terms as T
use Rattle.pool_syntax.specs.Terms.{Statements, MethodTree, ProgramTree}
use Rattle.run_types.specs.Values.{is_true}
use Rattle.run_types.specs.Message.{Message}
use Rattle.run_types.specs.Same.{are_same}
use Rattle.run_types.proofs.Laws.{first, second, equal, equals, same_some, given_by, required, same_values, values_itself}
use Rattle.pool_relation.specs.Reducible.{Choice, AsExpression, AsStatements}
use Rattle.pool_relation.specs.Action as A
use Rattle.pool_relation.specs.Action.{Object, Action, action, method_of}
use Rattle.pool_relation.specs.Configuration.{Configuration, object_of, put_object, messages_of, put_messages}
use Rattle.pool_relation.specs.Progress.{agent, HasOwnTransition}
use Rattle.pool_relation.specs.Communication.{IsCommunication}
use Rattle.pool_relation.specs.Ready.{is_open_plain}
use Rattle.pool_relation.specs.Typed.{CanTake, GoesWrong, IsMessageFor}
use Rattle.pool_relation.specs.Transition.{Offer, offer, select_offer, answered, names_method, running, local_step, makes, calls, posts, returns, waits_on, writes, fails, picked, plain_choice, first_message, has_message, without_first, refilled, serving, transition}
use Rattle.pool_relation.proofs.Laws.{not_wrong, goes_on_or_meets, first_fits, running_is}
use Rattle.pool_semantics.specs.Sound.{Sound}
use Rattle.pool_semantics.specs.Moving.{goes_alone, is_offered, Answers, alone, answers}
use Rattle.pool_semantics.proofs.MovingObjects.{Moves, by_object, by_message}

-- what the tests of labels say of an action

local_alone : (x y : Object) (k : Action) → local_step x k ≡ Some y → goes_alone k ≡ true
local_alone x y (A.Local term vars) h = refl
local_alone x y _ h = absurd (cc)

makes_alone : (k : Action) (n : ℕ) → makes k n ≡ true → goes_alone k ≡ true
makes_alone (A.New c) n h = refl
makes_alone _ n h = absurd (let z : false ≡ true = h in cc)

returns_alone : (k : Action) (o : ℕ) (v : Value) → returns k o v ≡ true → goes_alone k ≡ true
returns_alone (A.Return j w) o v h = refl
returns_alone _ o v h = absurd (let z : false ≡ true = h in cc)

posts_alone : (k : Action) (b m : ℕ) (args : List Value) → posts k b m args ≡ true → goes_alone k ≡ true
posts_alone (A.Async r n vs) b m args h = refl
posts_alone _ b m args h = absurd (let z : false ≡ true = h in cc)

writes_alone : (k : Action) (item : Item) → writes k item ≡ true → goes_alone k ≡ true
writes_alone (A.Write i) item h = refl
writes_alone _ item h = absurd (let z : false ≡ true = h in cc)

fails_alone : (k : Action) (e : Error) → fails k e ≡ true → goes_alone k ≡ true
fails_alone (A.Fault d) e h = refl
fails_alone _ e h = absurd (let z : false ≡ true = h in cc)

plain_open : (cs : List Choice) (i : ℕ) (work : Statements) → plain_choice (slice_get cs i) ≡ Some work → list_any is_open_plain cs ≡ true
plain_open [] i work h = absurd (cc)
plain_open (c ∷ cs) zero work h = by (is_open_plain c) refl
  where
    by : (b : Bool) → is_open_plain c ≡ b → list_any is_open_plain (c ∷ cs) ≡ true
    by true e = rw e refl
    by false e = absurd (let z : None ≡ Some work = rw e at h in cc)
plain_open (c ∷ cs) (suc i) work h = by (is_open_plain c) refl (plain_open cs i work h)
  where
    by : (b : Bool) → is_open_plain c ≡ b → list_any is_open_plain cs ≡ true → list_any is_open_plain (c ∷ cs) ≡ true
    by true e more = rw e refl
    by false e more = rw e more

picked_alone : (k : Action) (i : ℕ) (work : Statements) → picked k i ≡ Some work → goes_alone k ≡ true
picked_alone (A.Select cs) zero work h = absurd (cc)
picked_alone (A.Select cs) (suc i) work h = plain_open cs i work h
picked_alone _ i work h = absurd (cc)

calls_is : (k : Action) (b m : ℕ) (args : List Value) → calls k b m args ≡ true → k ≡ A.Send b m args
calls_is (A.Send r n vs) b m args h =
    let i = first (r == b && n == m) (are_same vs args) h in
    let q = equal r b (first (r == b) (n == m) i) in
    let s = equal n m (second (r == b) (n == m) i) in
    let t = same_values vs args (second (r == b && n == m) (are_same vs args) h) in cc
calls_is _ b m args h = absurd (let z : false ≡ true = h in cc)

-- an open alternative has a number
open_plain : (cs : List Choice) → list_any is_open_plain cs ≡ true → (i : ℕ) × (work : Statements) × (plain_choice (slice_get cs i) ≡ Some work)
open_plain [] h = absurd (let z : false ≡ true = h in cc)
open_plain (c ∷ cs) h = by (is_open_plain c) refl (open_plain cs)
  where
    by : (b : Bool) → is_open_plain c ≡ b → (list_any is_open_plain cs ≡ true → (i : ℕ) × (work : Statements) × (plain_choice (slice_get cs i) ≡ Some work))
        → (i : ℕ) × (work : Statements) × (plain_choice (slice_get (c ∷ cs) i) ≡ Some work)
    by true e more = (0, c.work, rw e refl)
    by false e more = let r = more (rw e at h) in (suc r.0, r.1, r.2)

-- what is offered with a method is offered with each that is named beside it

select_beside : (cs : List Choice) (n k : ℕ) (v : Offer) → select_offer cs n ≡ Some v → names_method v.names k ≡ true → is_some (select_offer cs k) ≡ true
select_beside [] n k v h named = absurd (cc)
select_beside (c ∷ cs) n k v h named = by (is_true c.guard) refl (names_method (answered c.answer) n) refl (names_method (answered c.answer) k) refl (select_beside cs n k v)
  where
    by : (u : Bool) → is_true c.guard ≡ u → (a : Bool) → names_method (answered c.answer) n ≡ a → (b : Bool) → names_method (answered c.answer) k ≡ b
        → (select_offer cs n ≡ Some v → names_method v.names k ≡ true → is_some (select_offer cs k) ≡ true) → is_some (select_offer (c ∷ cs) k) ≡ true
    by false g a i b j more = rw g (more (rw g at h) named)
    by true g true i true j more = rw (g, j) refl
    by true g false i true j more = rw (g, j) refl
    by true g false i false j more = rw (g, j) (more (rw (g, i) at h) named)
    by true g true i false j more =
        let e : v.names ≡ answered c.answer = sym (ap (λ (w : Offer). w.names) (same_some (rw (g, i) at h))) in
        let z : true ≡ false = sym named ∙ (ap (λ l. names_method l k) e ∙ j) in absurd (cc)

offered_beside : (a : Action) (n k : ℕ) (v : Offer) → offer a n ≡ Some v → names_method v.names k ≡ true → is_some (offer a k) ≡ true
offered_beside (A.Answer names) n k v h named = by (names_method names n) refl
  where
    by : (b : Bool) → names_method names n ≡ b → is_some (offer (A.Answer names) k) ≡ true
    by false i = absurd (let z : None ≡ Some v = rw i at h in cc)
    by true i =
        let e : v.names ≡ names = sym (ap (λ (w : Offer). w.names) (same_some (rw i at h))) in
        let j : names_method names k ≡ true = ap (λ l. names_method l k) (sym e) ∙ named in rw j refl
offered_beside (A.Select cs) n k v h named = select_beside cs n k v h named
offered_beside _ n k v h named = absurd (cc)

select_named : (cs : List Choice) (n : ℕ) (v : Offer) → select_offer cs n ≡ Some v → names_method v.names n ≡ true
select_named [] n v h = absurd (cc)
select_named (c ∷ cs) n v h = by (is_true c.guard && names_method (answered c.answer) n) refl (select_named cs n v)
  where
    by : (b : Bool) → (is_true c.guard && names_method (answered c.answer) n) ≡ b → (select_offer cs n ≡ Some v → names_method v.names n ≡ true) → names_method v.names n ≡ true
    by false i more = more (rw i at h)
    by true i more =
        let e : v.names ≡ answered c.answer = sym (ap (λ (w : Offer). w.names) (same_some (rw i at h))) in
        ap (λ l. names_method l n) e ∙ second (is_true c.guard) (names_method (answered c.answer) n) i

offered_named : (a : Action) (n : ℕ) (v : Offer) → offer a n ≡ Some v → names_method v.names n ≡ true
offered_named (A.Answer names) n v h = by (names_method names n) refl
  where
    by : (b : Bool) → names_method names n ≡ b → names_method v.names n ≡ true
    by false i = absurd (let z : None ≡ Some v = rw i at h in cc)
    by true i = let e : v.names ≡ names = sym (ap (λ (w : Offer). w.names) (same_some (rw i at h))) in ap (λ l. names_method l n) e ∙ i
offered_named (A.Select cs) n v h = select_named cs n v h
offered_named _ n v h = absurd (cc)

-- of these messages the first on the methods that are offered with it is this one
record CanTakeOf (a : Action) (ms : List Message) : Type 0 where
  message : Message
  offers : Offer
  offered : offer a message.method ≡ Some offers
  earliest : first_message offers.names ms ≡ Some message

can_take_of : (a : Action) (ms : List Message) → is_offered a ms ≡ true → CanTakeOf a ms
can_take_of a [] h = absurd (let z : false ≡ true = h in cc)
can_take_of a (m ∷ ms) h = by (offer a m.method) refl (can_take_of a ms)
  where
    by : (w : Option Offer) → offer a m.method ≡ w → (is_offered a ms ≡ true → CanTakeOf a ms) → CanTakeOf a (m ∷ ms)
    by (Some v) e more = record { message = m; offers = v; offered = e; earliest = let n = offered_named a m.method v e in rw n refl }
    by None e more = on (more (rw e at h))
      where
        on : CanTakeOf a ms → CanTakeOf a (m ∷ ms)
        on t = is (names_method t.offers.names m.method) refl
          where
            is : (b : Bool) → names_method t.offers.names m.method ≡ b → CanTakeOf a (m ∷ ms)
            is false n = record { message = t.message; offers = t.offers; offered = t.offered; earliest = rw n t.earliest }
            is true n = let z : is_some (offer a m.method) ≡ true = offered_beside a t.message.method m.method t.offers t.offered n in let y : false ≡ true = rw e at z in absurd (cc)

some_offered : (a : Action) (names : List Named) (ms : List Message) (f : Message) (v : Offer) → first_message names ms ≡ Some f → offer a f.method ≡ Some v → is_offered a ms ≡ true
some_offered a names [] f v h o = absurd (cc)
some_offered a names (m ∷ ms) f v h o = by (names_method names m.method) refl (some_offered a names ms f v)
  where
    is : (w : Option Offer) → offer a m.method ≡ w → is_offered a ms ≡ true → is_offered a (m ∷ ms) ≡ true
    is (Some u) e more = rw e refl
    is None e more = rw e more

    by : (b : Bool) → names_method names m.method ≡ b → (first_message names ms ≡ Some f → offer a f.method ≡ Some v → is_offered a ms ≡ true) → is_offered a (m ∷ ms) ≡ true
    by true n more = let e : m ≡ f = same_some (rw n at h) in let k : offer a m.method ≡ Some v = ap (λ (z : Message). offer a z.method) e ∙ o in rw k refl
    by false n more = is (offer a m.method) refl (more (rw n at h) o)

module _ (p : ProgramTree) (c : Configuration) where
  -- a label that is possible
  pub moves_of : (lab : Label) (d : Configuration) → transition p c lab ≡ Some d → Moves p c (agent lab)
  moves_of (L.Local o) d e =
      let a = given_by (running c o) _ d e in
      let y = given_by (local_step a.0 (action p o a.0)) _ d a.2 in
      by_object o (alone a.0 a.1 (local_alone a.0 y.0 (action p o a.0) y.1) refl)
  moves_of (L.New o n k) d e =
      let a = given_by (running c o) _ d e in
      let t = required (makes (action p o a.0) k.0 && is_none (object_of c n)) _ d a.2 in
      by_object o (alone a.0 a.1 (makes_alone (action p o a.0) k.0 (first _ (is_none (object_of c n)) t.0)) refl)
  moves_of (L.Answer b o m args) d e =
      let a = given_by (running c o) _ d e in
      let i = given_by (running c b) _ d a.2 in
      let t = required (calls (action p o a.0) b m.0 args) _ d i.2 in
      let v = given_by (offer (action p b i.0) m.0) _ d t.1 in
      let n = required (not (has_message v.0.names (messages_of c o b))) _ d v.2 in
      by_object o (answers (record {
        caller = a.0;
        waits = a.1;
        method = m.0;
        args = args;
        calls = calls_is (action p o a.0) b m.0 args t.0;
        object = i.0;
        runs = i.1;
        offers = v.0;
        offered = v.1;
        free = not_of (has_message v.0.names (messages_of c o b)) n.0;
      }))
    where
      not_of : (b : Bool) → not b ≡ true → b ≡ false
      not_of true h = absurd (let z : false ≡ true = h in cc)
      not_of false h = refl
  moves_of (L.Return b o v) d e =
      let i = given_by (running c b) _ d e in
      let a = given_by (running c o) _ d i.2 in
      let t = required (returns (action p b i.0) o v && waits_on (action p o a.0) b) _ d a.2 in
      by_object b (alone i.0 i.1 (returns_alone (action p b i.0) o v (first _ (waits_on (action p o a.0) b) t.0)) refl)
  moves_of (L.Send o b m args) d e =
      let a = given_by (running c o) _ d e in
      let t = required (posts (action p o a.0) b m.0 args && is_some (object_of c b)) _ d a.2 in
      by_object o (alone a.0 a.1 (posts_alone (action p o a.0) b m.0 args (first _ (is_some (object_of c b)) t.0)) refl)
  moves_of (L.Take b s m args) d e =
      let a = given_by (running c b) _ d e in
      let v = given_by (offer (action p b a.0) m.0) _ d a.2 in
      let f = given_by (first_message v.0.names (messages_of c s b)) _ d v.2 in
      let t = required (f.0.method == m.0 && are_same f.0.args args) _ d f.2 in
      let same : f.0.method ≡ m.0 = equal f.0.method m.0 (first _ (are_same f.0.args args) t.0) in
      let offered : offer (action p b a.0) f.0.method ≡ Some v.0 = ap (offer (action p b a.0)) same ∙ v.1 in
      by_message s (record { object = a.0; runs = a.1; offered = some_offered (action p b a.0) v.0.names (messages_of c s b) f.0 v.0 f.1 offered })
  moves_of (L.Write o item) d e =
      let a = given_by (running c o) _ d e in
      let t = required (writes (action p o a.0) item) _ d a.2 in
      by_object o (alone a.0 a.1 (writes_alone (action p o a.0) item t.0) refl)
  moves_of (L.Pick o i) d e =
      let a = given_by (running c o) _ d e in
      let t = given_by (picked (action p o a.0) i) _ d a.2 in
      by_object o (alone a.0 a.1 (picked_alone (action p o a.0) i t.0 t.1) refl)
  moves_of (L.Fault o error) d e =
      let a = given_by (running c o) _ d e in
      let t = required (fails (action p o a.0) error) _ d a.2 in
      by_object o (alone a.0 a.1 (fails_alone (action p o a.0) error t.0) refl)

  module _ (sound : Sound p c) where
    -- one that goes on alone
    goes : (b : ℕ) (x : Object) → running c b ≡ Some x → (k : Action) → action p b x ≡ k → goes_alone k ≡ true → HasOwnTransition p c b
    goes b x r k i h = on k i h
      where
        own : (k : Action) → action p b x ≡ k → k ≢ A.Finished → ¬ (IsCommunication k) → HasOwnTransition p c b
        own k i f n = from (goes_on_or_meets p sound.faultless sound.written c b x sound.typed (running_is c b x r).0 (running_is c b x r).1 (λ z. f (sym i ∙ z)))
          where
            from : (HasOwnTransition p c b) ⊎ IsCommunication (action p b x) → HasOwnTransition p c b
            from (inl t) = t
            from (inr t) = absurd (n (subst IsCommunication i t))

        on : (k : Action) → action p b x ≡ k → goes_alone k ≡ true → HasOwnTransition p c b
        on (A.Select cs) i h =
            let t = open_plain cs h in (L.Pick b (suc t.0), refl, put_object c b (refilled x (AsStatements t.1)), rw (r, i, t.2) refl)
        on (A.Local term vars) i h = own (A.Local term vars) i (λ z. cc) (λ z. z)
        on (A.Fault e) i h = own (A.Fault e) i (λ z. cc) (λ z. z)
        on (A.New n) i h = own (A.New n) i (λ z. cc) (λ z. z)
        on (A.Async r m args) i h = own (A.Async r m args) i (λ z. cc) (λ z. z)
        on (A.Write item) i h = own (A.Write item) i (λ z. cc) (λ z. z)
        on (A.Return o v) i h = own (A.Return o v) i (λ z. cc) (λ z. z)
        on A.Finished i h = absurd (let z : false ≡ true = h in cc)
        on (A.Send r m args) i h = absurd (let z : false ≡ true = h in cc)
        on (A.Answer names) i h = absurd (let z : false ≡ true = h in cc)
        on (A.Waits r m) i h = absurd (let z : false ≡ true = h in cc)
        on A.Stuck i h = absurd (let z : false ≡ true = h in cc)

    -- one that takes a message
    taking : (b : ℕ) (x : Object) → running c b ≡ Some x → (s : ℕ) → CanTakeOf (action p b x) (messages_of c s b) → HasOwnTransition p c b
    taking b x r s t =
        let fit = first_fits p sound.faultless sound.written (λ m. (y : Object) × (object_of c b ≡ Some y) × IsMessageFor p c y m) t.offers.names (messages_of c s b) t.message (sound.typed.messages s b) t.earliest in
        let same : fit.0 ≡ x = same_some (sym fit.1 ∙ (running_is c b x r).0) in
        let method : method_of p x.class t.message.method (length t.message.args) ≡ Some fit.2.0 =
        subst (λ (z : Object). method_of p z.class t.message.method (length t.message.args) ≡ Some fit.2.0) same fit.2.1 in (
          L.Take b s (record { 0 = t.message.method }) t.message.args,
          refl,
          put_messages (put_object c b (serving x fit.2.0 None t.message.args t.offers.work)) s b (without_first t.offers.names (messages_of c s b)),
          rw (r, t.offered, t.earliest, equals t.message.method, values_itself t.message.args, method) refl,
        )

    -- one that answers a caller
    answering : (o b : ℕ) → Answers p c o b → HasOwnTransition p c b
    answering o b a = by (method_of p a.object.class a.method (length a.args)) refl
      where
        right : ¬ (¬ (CanTake p c b a.method (length a.args)))
        right = subst (λ (k : Action). ¬ (GoesWrong p c o k)) a.calls (not_wrong p sound.faultless sound.written c o a.caller sound.typed (running_is c o a.caller a.waits).0)

        by : (t : Option MethodTree) → method_of p a.object.class a.method (length a.args) ≡ t → HasOwnTransition p c b
        by (Some t) e = (
          L.Answer b o (record { 0 = a.method }) a.args,
          refl,
          put_object (put_object c o (refilled a.caller (AsExpression (T.Wait b a.method)))) b (serving a.object t (Some o) a.args a.offers.work),
          rw (a.waits, a.runs, a.calls, equals b, equals a.method, values_itself a.args, a.offered, a.free, e) refl,
        )
        by None e = absurd (right (λ k.
            let same : k.0 ≡ a.object = same_some (sym k.2 ∙ (running_is c b a.object a.runs).0) in
            let z : None ≡ Some k.1 = sym e ∙ subst (λ (y : Object). method_of p y.class a.method (length a.args) ≡ Some k.1) same k.3 in cc))

    pub possible_of : (b : ℕ) → Moves p c b → HasOwnTransition p c b
    possible_of b (by_object o (alone x r h e)) = subst (λ (q : ℕ). HasOwnTransition p c q) e (goes o x r (action p o x) refl h)
    possible_of b (by_object o (answers a)) = answering o b a
    possible_of b (by_message s t) = taking b t.object t.runs s (can_take_of (action p b t.object) (messages_of c s b) t.offered)
