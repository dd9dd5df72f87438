-- What a transition makes of the one or two objects that take part in it. Nothing else decides it, but for messages
-- that wait.
use Rattle.std.specs.Prelude.{◌≡◌, ℕ, length, Option, Some, None, Bool, true, false, ◌&&◌}
use Rattle.run_types.specs.declared.types.Label.{Label}
use Rattle.run_types.specs.declared.types.Label.TheVariants as L
use Rattle.run_types.specs.declared.types.Value.TheVariants as V
use Rattle.pool_syntax.specs.Classes.{class_of}
use Rattle.run_types.specs.Partial.{◌>>=◌, ◌>>◌, require}
use Rattle.pool_syntax.specs.Terms as T
use Rattle.pool_syntax.specs.Terms.{ProgramTree}
use Rattle.pool_relation.specs.Reducible.{AsExpression, AsStatements}
use Rattle.pool_relation.specs.Action.{Object, method_of, action}
use Rattle.pool_relation.specs.Transition.{without_fault, makes, calls, returns, waits_on, writes, fails, picked, posts, offer, refilled, done, returned, given, serving, new_object}

-- it is the label of a transition that one object makes alone: a write, a pick or an error
abbrev pub is_of_one : Label → Bool
is_of_one (L.Write o item) = true
is_of_one (L.Pick o i) = true
is_of_one (L.Fault o e) = true
is_of_one _ = false

-- the label is an answer or a return between these two
abbrev pub IsBetween : Label → ℕ → ℕ → Type 0
IsBetween (L.Answer b o m args) r s = (b ≡ r) × (o ≡ s)
IsBetween (L.Return b o v) r s = (b ≡ r) × (o ≡ s)
IsBetween _ r s = ⊥

module _ (p : ProgramTree) where
  -- the object x after a transition of it alone. No other label is one.
  abbrev pub effect_one : Label → Object → Option Object
  effect_one (L.Write o item) x = without_fault x x.fault >>= λ a. require (writes (action p o a) item) >> Some (done a)
  effect_one (L.Pick o i) x = without_fault x x.fault >>= λ a. picked (action p o a) i >>= λ work. Some (refilled a (AsStatements work))
  effect_one (L.Fault o e) x = without_fault x x.fault >>= λ a. require (fails (action p o a) e) >> Some (record a { fault = Some e })
  effect_one _ x = None

  -- the receiver y and the caller x after an answer or a return. No other label is one.
  abbrev pub effect_two : Label → Object → Object → Option (Object × Object)
  effect_two (L.Answer b o m args) y x =
      without_fault x x.fault >>= λ a. without_fault y y.fault >>= λ d. require (calls (action p o a) b m.0 args) >> (offer (action p b d) m.0 >>= λ v. method_of p d.class m.0 (length args)
      >>= λ method. Some (serving d method (Some o) args v.work, refilled a (AsExpression (T.Wait b m.0))))
  effect_two (L.Return b o v) y x =
      without_fault y y.fault >>= λ d. without_fault x x.fault >>= λ a. require (returns (action p b d) o v && waits_on (action p o a) b) >> Some (returned d, given a v)
  effect_two _ y x = None

  -- the object x after it has sent a message, or has taken it, if the message is the first one of its sender. No other
  -- label is one.
  abbrev pub effect_mail : Label → Object → Option Object
  effect_mail (L.Send o b m args) x = without_fault x x.fault >>= λ a. require (posts (action p o a) b m.0 args) >> Some (done a)
  effect_mail (L.Take b s m args) x =
      without_fault x x.fault >>= λ a. offer (action p b a) m.0 >>= λ v. method_of p a.class m.0 (length args) >>= λ method. Some (serving a method None args v.work)
  effect_mail _ x = None

  -- the object x after it has made an object, and the new object. No other label is one.
  abbrev pub effect_new : Label → Object → Option (Object × Object)
  effect_new (L.New o n k) x = without_fault x x.fault >>= λ a. require (makes (action p o a) k.0) >> (class_of p k.0 >>= λ class. Some (given a (V.Ref n), new_object class))
  effect_new _ x = None
