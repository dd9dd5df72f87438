-- An object that is made, in any configuration that has none of its name.
use Rattle.std.proofs.Common.{◌≡◌, sym, ap, ◌∙◌, ℕ, Option, Some, None, is_none, Bool, true, ◌&&◌}
use Rattle.run_types.specs.declared.types.Label.TheVariants as L
use Rattle.run_types.specs.declared.types.NameId.{NameId}
use Rattle.run_types.specs.declared.types.Value.TheVariants as V
use Rattle.run_types.specs.Partial.{◌>>=◌, ◌>>◌, require}
use Rattle.pool_syntax.specs.Classes.{class_of}
use Rattle.pool_syntax.specs.Terms.{ProgramTree}
use Rattle.pool_relation.specs.Action.{Object, action}
use Rattle.pool_relation.specs.Configuration.{Configuration, object_of, put_object}
use Rattle.pool_relation.specs.Transition.{transition, without_fault, makes, given, new_object}
use Rattle.object_moves.specs.Effects.{effect_new}
use Rattle.object_moves.proofs.MailEffect.{and_true}
use Rattle.object_moves.proofs.OptionalSteps.{assoc, after_test, alike}

module _ (p : ProgramTree) (c : Configuration) (o n : ℕ) (k : NameId) (x : Object) (there : object_of c o ≡ Some x) (free : object_of c n ≡ None) where
  -- the configuration in which the object is so, and the new one is there
  abbrev pub born : Object × Object → Configuration
  born e = put_object (put_object c o e.0) n e.1

  -- the object and the new one
  abbrev parent : Object → Option (Object × Object)
  parent a = class_of p k.0 >>= λ class. Some (given a (V.Ref n), new_object class)

  -- under a name that is free or not
  abbrev made : Bool → Object → Option Configuration
  made s a = require (makes (action p o a) k.0 && s) >> (class_of p k.0 >>= λ class. Some (born (given a (V.Ref n), new_object class)))

  found : transition p c (L.New o n k) ≡ (without_fault x x.fault >>= made (is_none (object_of c n)))
  found = ap (λ r. (r >>= λ x. without_fault x x.fault) >>= made (is_none (object_of c n))) there

  pub new_made : transition p c (L.New o n k) ≡ (effect_new p (L.New o n k) x >>= λ e. Some (born e))
  new_made =
      found ∙ ap (λ s. without_fault x x.fault >>= made s) (ap is_none free) ∙ alike (without_fault x x.fault) _ _ step
      ∙ sym (assoc (without_fault x x.fault) (λ a. require (makes (action p o a) k.0) >> parent a) placed)
    where
      placed : Object × Object → Option Configuration
      placed e = Some (born e)

      step : (a : Object) → made true a ≡ ((require (makes (action p o a) k.0) >> parent a) >>= placed)
      step a =
          ap (λ t. require t >> (class_of p k.0 >>= λ class. placed (given a (V.Ref n), new_object class))) (and_true (makes (action p o a) k.0))
          ∙ ap (λ r. require (makes (action p o a) k.0) >> r) (sym (assoc (class_of p k.0) (λ class. Some (given a (V.Ref n), new_object class)) placed))
          ∙ sym (after_test (makes (action p o a) k.0) (parent a) placed)

  pub new_none : effect_new p (L.New o n k) x ≡ None → transition p c (L.New o n k) ≡ None
  new_none none = new_made ∙ ap (λ r. r >>= λ e. Some (born e)) none
