-- A message that is sent or taken, in any configuration.
use Rattle.std.proofs.Common.{◌≡◌, ◌≢◌, refl, sym, ap, ap₂, subst, ◌∙◌, ℕ, List, [], ◌∷◌, ◌++◌, length, Option, Some, None, is_some, Bool, true, false, ◌==◌, ◌&&◌, if◌then◌else◌, arith}
use Rattle.run_types.specs.declared.types.Label.TheVariants as L
use Rattle.run_types.specs.declared.types.NameId.{NameId}
use Rattle.run_types.specs.declared.types.Value.{Value}
use Rattle.run_types.specs.Message.{Message}
use Rattle.run_types.specs.Partial.{◌>>=◌, ◌>>◌, require}
use Rattle.run_types.specs.Same.{are_same}
use Rattle.run_types.specs.Values.{is_true}
use Rattle.run_types.proofs.Laws.{differ, first, second, both, equal, equals, required, same_some, same_values, values_itself}
use Rattle.pool_syntax.specs.declared.tree.Named.{Named}
use Rattle.pool_syntax.specs.Terms as T
use Rattle.pool_syntax.specs.Terms.{MethodTree, ProgramTree}
use Rattle.pool_relation.specs.Reducible.{Choice}
use Rattle.pool_relation.specs.Action as A
use Rattle.pool_relation.specs.Action.{Object, Action, action, method_of}
use Rattle.pool_relation.specs.Configuration.{Configuration, object_of, put_object, messages_of, put_messages}
use Rattle.pool_relation.specs.Transition.{transition, without_fault, posts, names_method, answered, Offer, select_offer, offer, first_message, without_first, done, serving}
use Rattle.object_moves.specs.Effects.{effect_mail}
use Rattle.message_queue.specs.Mails.{first_of}
use Rattle.object_moves.proofs.OptionalSteps.{assoc, after_test, alike, alike_for, none_then, none_after, none_after_for, none_tested}

-- the offer of an alternative
abbrev offered : Choice → Offer
offered c = record { names = answered c.answer; work = c.work }

-- an offer for a method names it
select_named : (cs : List Choice) (m : ℕ) (v : Offer) → select_offer cs m ≡ Some v → names_method v.names m ≡ true
select_named [] m v e = absurd (grind (arith, e))
select_named (c ∷ cs) m v e = by (is_true c.guard && names_method (answered c.answer) m) refl e (select_named cs m v)
  where
    by : (t : Bool) → (is_true c.guard && names_method (answered c.answer) m) ≡ t → (if t then Some (offered c) else select_offer cs m) ≡ Some v → (select_offer cs m ≡ Some v → names_method v.names m ≡ true)
        → names_method v.names m ≡ true
    by true h e later = subst (λ (w : Offer). names_method w.names m ≡ true) (same_some e) (second (is_true c.guard) (names_method (answered c.answer) m) h)
    by false h e later = later e

offer_named : (a : Action) (m : ℕ) (v : Offer) → offer a m ≡ Some v → names_method v.names m ≡ true
offer_named (A.Answer names) m v e =
    let r = required (names_method names m) (Some (record { names = names; work = T.Done })) v e in
    subst (λ (w : Offer). names_method w.names m ≡ true) (same_some r.1) r.0
offer_named (A.Select choices) m v e = select_named choices m v e
offer_named _ m v e = absurd (grind (arith, e))

pub and_true : (t : Bool) → (t && true) ≡ t
and_true true = refl
and_true false = refl

-- the first message for these methods is the first one for its own method
first_named : (names : List Named) (ms : List Message) (f : Message) → first_message names ms ≡ Some f → names_method names f.method ≡ true → first_of f.method ms ≡ Some f
first_named names [] f e named = absurd (grind (arith, e))
first_named names (x ∷ ms) f e named = by (names_method names x.method) refl e (λ i. first_named names ms f i named)
  where
    by : (t : Bool) → names_method names x.method ≡ t → (if t then Some x else first_message names ms) ≡ Some f → (first_message names ms ≡ Some f → first_of f.method ms ≡ Some f)
        → (if x.method == f.method then Some x else first_of f.method ms) ≡ Some f
    by true h e later = ap (λ (y : Message). if x.method == y.method then Some x else first_of y.method ms) (sym (same_some e)) ∙ ap (λ t. if t then Some x else first_of x.method ms) (equals x.method) ∙ e
    by false h e later = ap (λ t. if t then Some x else first_of f.method ms) (differ x.method f.method (λ i. other (sym (ap (names_method names) i) ∙ h))) ∙ later e
      where
        other : names_method names f.method ≡ false → ⊥
        other i = absurd (grind (arith, i, named))

abbrev message_with : ℕ → List Value → Message
message_with m args = record { method = m; args = args }

module _ (p : ProgramTree) (c : Configuration) (o b : ℕ) (m : NameId) (args : List Value) (x : Object) (there : object_of c o ≡ Some x) where
  abbrev the_message : Message
  the_message = record { method = m.0; args = args }

  -- a send to b, which exists or not
  abbrev sent : Bool → Object → Option Configuration
  sent s a = require (posts (action p o a) b m.0 args && s) >> Some (put_messages (put_object c o (done a)) o b (messages_of c o b ++ the_message ∷ []))

  found : transition p c (L.Send o b m args) ≡ (without_fault x x.fault >>= sent (is_some (object_of c b)))
  found = ap (λ r. (r >>= λ x. without_fault x x.fault) >>= sent (is_some (object_of c b))) there

  pub send_made : is_some (object_of c b) ≡ true
      → transition p c (L.Send o b m args) ≡ (effect_mail p (L.Send o b m args) x >>= λ y. Some (put_messages (put_object c o y) o b (messages_of c o b ++ the_message ∷ [])))
  send_made receiver =
      found ∙ ap (λ s. without_fault x x.fault >>= sent s) receiver ∙ alike (without_fault x x.fault) _ _ step
      ∙ sym (assoc (without_fault x x.fault) (λ a. require (posts (action p o a) b m.0 args) >> Some (done a)) placed)
    where
      placed : Object → Option Configuration
      placed y = Some (put_messages (put_object c o y) o b (messages_of c o b ++ the_message ∷ []))

      step : (a : Object) → sent true a ≡ ((require (posts (action p o a) b m.0 args) >> Some (done a)) >>= placed)
      step a = ap (λ t. require t >> placed (done a)) (and_true (posts (action p o a) b m.0 args)) ∙ sym (after_test (posts (action p o a) b m.0 args) (Some (done a)) placed)

  pub send_none : effect_mail p (L.Send o b m args) x ≡ None → transition p c (L.Send o b m args) ≡ None
  send_none none = found ∙ none_then (without_fault x x.fault) (λ a. require (posts (action p o a) b m.0 args) >> Some (done a)) (sent (is_some (object_of c b))) step none
    where
      refused : {Y Z : Type 0} (t s : Bool) (y : Y) (z : Z) → (require t >> Some y) ≡ None → (require (t && s) >> Some z) ≡ None
      refused true s y z e = absurd (grind (arith, e))
      refused false s y z e = refl

      step : (a : Object) → (require (posts (action p o a) b m.0 args) >> Some (done a)) ≡ None → sent (is_some (object_of c b)) a ≡ None
      step a e = refused (posts (action p o a) b m.0 args) (is_some (object_of c b)) _ _ e

  -- a take of a message of b, where these wait
  abbrev taken_of : List Message → Object → Option Configuration
  taken_of ms a =
      offer (action p o a) m.0 >>= λ v. first_message v.names ms >>= λ first. require (first.method == m.0 && are_same first.args args)
      >> (method_of p a.class m.0 (length args) >>= λ method. Some (put_messages (put_object c o (serving a method None args v.work)) b o (without_first v.names ms)))

  got : transition p c (L.Take o b m args) ≡ (without_fault x x.fault >>= taken_of (messages_of c b o))
  got = ap (λ r. (r >>= λ x. without_fault x x.fault) >>= taken_of (messages_of c b o)) there

  abbrev served : Object → Offer → Option Object
  served a v = method_of p a.class m.0 (length args) >>= λ method. Some (serving a method None args v.work)

  pub take_made : (rest : List Message) → messages_of c b o ≡ the_message ∷ rest
      → transition p c (L.Take o b m args) ≡ (effect_mail p (L.Take o b m args) x >>= λ y. Some (put_messages (put_object c o y) b o rest))
  take_made rest first =
      got ∙ ap (λ ms. without_fault x x.fault >>= taken_of ms) first ∙ alike (without_fault x x.fault) _ _ step
      ∙ sym (assoc (without_fault x x.fault) (λ a. offer (action p o a) m.0 >>= served a) placed)
    where
      placed : Object → Option Configuration
      placed y = Some (put_messages (put_object c o y) b o rest)

      -- the first message is this one
      head : (a : Object) (v : Offer) → names_method v.names m.0 ≡ true
          → (first_message v.names (the_message ∷ rest) >>= λ first. require (first.method == m.0 && are_same first.args args)
          >> (method_of p a.class m.0 (length args) >>= λ method. Some (put_messages (put_object c o (serving a method None args v.work)) b o (without_first v.names (the_message ∷ rest)))))
          ≡ (served a v >>= placed)
      head a v named =
          ap (λ t. (if t then Some the_message else first_message v.names rest) >>= λ first. require (first.method == m.0 && are_same first.args args)
          >> (method_of p a.class m.0 (length args) >>= λ method. Some (put_messages (put_object c o (serving a method None args v.work)) b o (if t then rest else the_message ∷ without_first v.names rest)))) named
          ∙ ap (λ t. require t >> (method_of p a.class m.0 (length args) >>= λ method. placed (serving a method None args v.work))) (both (m.0 == m.0) (are_same args args) (equals m.0) (values_itself args))
          ∙ sym (assoc (method_of p a.class m.0 (length args)) (λ method. Some (serving a method None args v.work)) placed)

      step : (a : Object) → taken_of (the_message ∷ rest) a ≡ ((offer (action p o a) m.0 >>= served a) >>= placed)
      step a =
          alike_for (offer (action p o a) m.0) _ _ (λ v e. head a v (offer_named (action p o a) m.0 v e))
          ∙ sym (assoc (offer (action p o a) m.0) (served a) placed)

  pub take_none : effect_mail p (L.Take o b m args) x ≡ None → transition p c (L.Take o b m args) ≡ None
  take_none none = got ∙ none_then (without_fault x x.fault) (λ a. offer (action p o a) m.0 >>= served a) (taken_of (messages_of c b o)) step none
    where
      later : (a : Object) (v : Offer) (first : Message) → served a v ≡ None
          → (require (first.method == m.0 && are_same first.args args)
          >> (method_of p a.class m.0 (length args) >>= λ method. Some (put_messages (put_object c o (serving a method None args v.work)) b o (without_first v.names (messages_of c b o))))) ≡ None
      later a v first e =
          none_tested (first.method == m.0 && are_same first.args args) _ (none_then (method_of p a.class m.0 (length args)) (λ method. Some (serving a method None args v.work))
          (λ method. Some (put_messages (put_object c o (serving a method None args v.work)) b o (without_first v.names (messages_of c b o)))) (λ method i. absurd (grind (arith, i))) e)

      step : (a : Object) → (offer (action p o a) m.0 >>= served a) ≡ None → taken_of (messages_of c b o) a ≡ None
      step a e = none_then (offer (action p o a) m.0) (served a) _ (λ v i. none_after (first_message v.names (messages_of c b o)) _ (λ first. later a v first i)) e

  -- a message that is not the first one of its sender for its method is not taken
  pub take_gone : first_of m.0 (messages_of c b o) ≢ Some the_message → transition p c (L.Take o b m args) ≡ None
  take_gone gone =
      got ∙ none_after (without_fault x x.fault) (taken_of (messages_of c b o)) (λ a. none_after_for (offer (action p o a) m.0) _ (λ v e. none_after_for (first_message v.names (messages_of c b o)) _ (λ f i. step a v f e i)))
    where
      -- the message that is taken is another one
      refused : (v : Offer) (f : Message) → names_method v.names m.0 ≡ true → first_message v.names (messages_of c b o) ≡ Some f → (t : Bool) → (f.method == m.0 && are_same f.args args) ≡ t → t ≡ false
      refused v f named i false h = refl
      refused v f named i true h =
          let method : f.method ≡ m.0 = equal f.method m.0 (first (f.method == m.0) (are_same f.args args) h) in
          let values : f.args ≡ args = same_values f.args args (second (f.method == m.0) (are_same f.args args) h) in
          let first_is = first_named v.names (messages_of c b o) f i (ap (names_method v.names) method ∙ named) in
          absurd (gone (ap (λ n. first_of n (messages_of c b o)) (sym method) ∙ first_is ∙ ap Some (ap₂ message_with method values)))

      step : (a : Object) (v : Offer) (f : Message) → offer (action p o a) m.0 ≡ Some v → first_message v.names (messages_of c b o) ≡ Some f
          → (require (f.method == m.0 && are_same f.args args)
          >> (method_of p a.class m.0 (length args) >>= λ method. Some (put_messages (put_object c o (serving a method None args v.work)) b o (without_first v.names (messages_of c b o))))) ≡ None
      step a v f e i =
          ap (λ t. require t >> (method_of p a.class m.0 (length args) >>= λ method. Some (put_messages (put_object c o (serving a method None args v.work)) b o (without_first v.names (messages_of c b o)))))
          (refused v f (offer_named (action p o a) m.0 v e) i (f.method == m.0 && are_same f.args args) refl)
