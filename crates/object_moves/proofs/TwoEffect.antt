-- An answer or a return, in any configuration where no message waits.
use Rattle.std.proofs.Common.{◌≡◌, refl, sym, ap, ap₂, subst, ◌∙◌, ℕ, List, [], length, Option, Some, None, not, ◌&&◌}
use Rattle.run_types.specs.declared.types.Label.{Label}
use Rattle.run_types.specs.declared.types.Label.TheVariants as L
use Rattle.run_types.specs.declared.types.NameId.{NameId}
use Rattle.run_types.specs.declared.types.Value.{Value}
use Rattle.run_types.specs.Partial.{◌>>=◌, ◌>>◌, require}
use Rattle.pool_syntax.specs.Terms as T
use Rattle.pool_syntax.specs.Terms.{MethodTree, ProgramTree}
use Rattle.pool_relation.specs.Reducible.{AsExpression}
use Rattle.pool_relation.specs.Action.{Object, action, method_of}
use Rattle.pool_relation.specs.Configuration.{Configuration, object_of, put_object, messages_of}
use Rattle.pool_relation.specs.Transition.{transition, running, without_fault, calls, Offer, offer, has_message, returns, waits_on, refilled, returned, given, serving}
use Rattle.object_moves.specs.Effects.{effect_two, IsBetween}
use Rattle.object_moves.proofs.OptionalSteps.{assoc, after_test, alike}

-- a step of two running objects, the first before the second, and what becomes of them
by_two : {E F : Type 0} (c : Configuration) (o b : ℕ) (f : Object → Object → Option E) (g : E → Option F)
    → (running c o >>= λ x. running c b >>= λ y. f x y >>= g)
    ≡ (object_of c o >>= λ x. object_of c b >>= λ y. (without_fault x x.fault >>= λ a. without_fault y y.fault >>= λ d. f a d) >>= g)
by_two c o b f g =
    assoc (object_of c o) (λ x. without_fault x x.fault) (λ x. running c b >>= λ y. f x y >>= g)
    ∙ alike (object_of c o) _ _ (λ x. within x)
  where
    -- the tests of both, in the other order
    past : (m : Option Object) (n : Option Object) → (m >>= λ a. (n >>= λ y. without_fault y y.fault) >>= λ d. f a d >>= g)
        ≡ (n >>= λ y. (m >>= λ a. without_fault y y.fault >>= λ d. f a d) >>= g)
    past None None = refl
    past None (Some y) = refl
    past (Some a) n = assoc n (λ y. without_fault y y.fault) (λ d. f a d >>= g) ∙ alike n _ _ (λ y. sym (assoc (without_fault y y.fault) (f a) g))

    within : (x : Object) → (without_fault x x.fault >>= λ a. running c b >>= λ y. f a y >>= g)
        ≡ (object_of c b >>= λ y. (without_fault x x.fault >>= λ a. without_fault y y.fault >>= λ d. f a d) >>= g)
    within x = past (without_fault x x.fault) (object_of c b)

module _ (p : ProgramTree) (c : Configuration) (b o : ℕ) where
  answer_effect : (m : NameId) (args : List Value) → messages_of c o b ≡ []
      → transition p c (L.Answer b o m args) ≡ (object_of c o >>= λ x. object_of c b >>= λ y. effect_two p (L.Answer b o m args) y x >>= λ e. Some (put_object (put_object c o e.1) b e.0))
  answer_effect m args none = alike (running c o) _ _ (λ a. alike (running c b) _ _ (λ d. step a d)) ∙ by_two c o b effect placed
    where
      placed : Object × Object → Option Configuration
      placed e = Some (put_object (put_object c o e.1) b e.0)

      served : Object → Object → Offer → MethodTree → Object × Object
      served a d v method = (serving d method (Some o) args v.work, refilled a (AsExpression (T.Wait b m.0)))

      offers : Object → Object → Option (Object × Object)
      offers a d = offer (action p b d) m.0 >>= λ v. method_of p d.class m.0 (length args) >>= λ method. Some (served a d v method)

      effect : Object → Object → Option (Object × Object)
      effect a d = require (calls (action p o a) b m.0 args) >> offers a d

      free : (v : Offer) (r : Option Configuration) → (require (not (has_message v.names (messages_of c o b))) >> r) ≡ r
      free v r = ap (λ ms. require (not (has_message v.names ms)) >> r) none

      step : (a d : Object)
          → (require (calls (action p o a) b m.0 args) >> (offer (action p b d) m.0 >>= λ v. require (not (has_message v.names (messages_of c o b))) >> (method_of p d.class m.0 (length args) >>= λ method. placed (served a d v method))))
          ≡ (effect a d >>= placed)
      step a d =
          ap (λ r. require (calls (action p o a) b m.0 args) >> r)
          (alike (offer (action p b d) m.0) _ _ (λ v. free v (method_of p d.class m.0 (length args) >>= λ method. placed (served a d v method)) ∙ sym (assoc (method_of p d.class m.0 (length args)) (λ method. Some (served a d v method)) placed))
          ∙ sym (assoc (offer (action p b d) m.0) (λ v. method_of p d.class m.0 (length args) >>= λ method. Some (served a d v method)) placed))
          ∙ sym (after_test (calls (action p o a) b m.0 args) (offers a d) placed)

  return_effect : (v : Value)
      → transition p c (L.Return b o v) ≡ (object_of c b >>= λ y. object_of c o >>= λ x. effect_two p (L.Return b o v) y x >>= λ e. Some (put_object (put_object c b e.0) o e.1))
  return_effect v = alike (running c b) _ _ (λ d. alike (running c o) _ _ (λ a. step a d)) ∙ by_two c b o (λ d a. effect d a) placed
    where
      placed : Object × Object → Option Configuration
      placed e = Some (put_object (put_object c b e.0) o e.1)

      effect : Object → Object → Option (Object × Object)
      effect d a = require (returns (action p b d) o v && waits_on (action p o a) b) >> Some (returned d, given a v)

      step : (a d : Object) → (require (returns (action p b d) o v && waits_on (action p o a) b) >> placed (returned d, given a v)) ≡ (effect d a >>= placed)
      step a d = sym (after_test (returns (action p b d) o v && waits_on (action p o a) b) (Some (returned d, given a v)) placed)

-- the configuration after an answer or a return that makes these of the receiver and the caller
abbrev pub placed : Configuration → Label → ℕ → ℕ → Object × Object → Configuration
placed c (L.Return b o v) r s e = put_object (put_object c r e.0) s e.1
placed c _ r s e = put_object (put_object c s e.1) r e.0

module _ (p : ProgramTree) (c : Configuration) (r s : ℕ) (y x : Object) (there : object_of c r ≡ Some y) (here : object_of c s ≡ Some x) where
  pub two_made : (l : Label) → IsBetween l r s → messages_of c s r ≡ [] → transition p c l ≡ (effect_two p l y x >>= λ e. Some (placed c l r s e))
  two_made (L.Answer b o m args) h none =
      let e : transition p c (L.Answer r s m args) ≡ (effect_two p (L.Answer r s m args) y x >>= λ e. Some (placed c (L.Answer r s m args) r s e)) =
      answer_effect p c r s m args none
      ∙ ap (λ k. k >>= λ x. object_of c r >>= λ y. effect_two p (L.Answer r s m args) y x >>= λ e. Some (put_object (put_object c s e.1) r e.0)) here
      ∙ ap (λ k. k >>= λ y. effect_two p (L.Answer r s m args) y x >>= λ e. Some (put_object (put_object c s e.1) r e.0)) there
      in
      subst (λ l. transition p c l ≡ (effect_two p l y x >>= λ e. Some (placed c l r s e))) (sym (ap₂ (λ d q. L.Answer d q m args) h.0 h.1)) e
  two_made (L.Return b o v) h none =
      let e : transition p c (L.Return r s v) ≡ (effect_two p (L.Return r s v) y x >>= λ e. Some (placed c (L.Return r s v) r s e)) =
      return_effect p c r s v
      ∙ ap (λ k. k >>= λ y. object_of c s >>= λ x. effect_two p (L.Return r s v) y x >>= λ e. Some (put_object (put_object c r e.0) s e.1)) there
      ∙ ap (λ k. k >>= λ x. effect_two p (L.Return r s v) y x >>= λ e. Some (put_object (put_object c r e.0) s e.1)) here
      in
      subst (λ l. transition p c l ≡ (effect_two p l y x >>= λ e. Some (placed c l r s e))) (sym (ap₂ (λ d q. L.Return d q v) h.0 h.1)) e
  two_made (L.Local o) h none = absurd h
  two_made (L.New o n k) h none = absurd h
  two_made (L.Send o b m args) h none = absurd h
  two_made (L.Take b t m args) h none = absurd h
  two_made (L.Write o item) h none = absurd h
  two_made (L.Pick o i) h none = absurd h
  two_made (L.Fault o e) h none = absurd h
