-- A transition that one object makes alone, in any configuration.
use Rattle.std.proofs.Common.{◌≡◌, sym, ap, ◌∙◌, ℕ, [], Option, Some, true, arith}
use Rattle.run_types.specs.declared.types.Label.{Label}
use Rattle.run_types.specs.declared.types.Label.TheVariants as L
use Rattle.run_types.specs.Partial.{◌>>=◌, ◌>>◌, require}
use Rattle.pool_syntax.specs.Terms.{ProgramTree}
use Rattle.pool_relation.specs.Reducible.{AsStatements}
use Rattle.pool_relation.specs.Action.{Object, action}
use Rattle.pool_relation.specs.Configuration.{Configuration, object_of, put_object}
use Rattle.pool_relation.specs.Progress.{agent}
use Rattle.pool_relation.specs.Transition.{transition, running, without_fault, local_step, writes, fails, picked, refilled, done}
use Rattle.object_moves.specs.Effects.{effect_one, is_of_one}
use Rattle.object_moves.specs.Roles.{does}
use Rattle.object_moves.specs.declared.parts.Role.TheVariants as R
use Rattle.object_moves.proofs.OptionalSteps.{assoc, after_test, alike}

-- a step of the running object o, and what is put in its place
by_object : (c : Configuration) (o : ℕ) (F : Object → Option Object)
    → (running c o >>= λ a. F a >>= λ y. Some (put_object c o y)) ≡ (object_of c o >>= λ x. (without_fault x x.fault >>= F) >>= λ y. Some (put_object c o y))
by_object c o F =
    assoc (object_of c o) (λ x. without_fault x x.fault) (λ a. F a >>= λ y. Some (put_object c o y))
    ∙ alike (object_of c o) _ _ (λ x. sym (assoc (without_fault x x.fault) F (λ y. Some (put_object c o y))))

module _ (p : ProgramTree) (c : Configuration) where
  pub one_made : (l : Label) → is_of_one l ≡ true → transition p c l ≡ (object_of c (agent l) >>= λ x. effect_one p l x >>= λ y. Some (put_object c (agent l) y))
  one_made (L.Write o item) h =
      alike (running c o) _ _ (λ a. sym (after_test (writes (action p o a) item) (Some (done a)) (λ y. Some (put_object c o y))))
      ∙ by_object c o (λ a. require (writes (action p o a) item) >> Some (done a))
  one_made (L.Pick o i) h =
      alike (running c o) _ _ (λ a. sym (assoc (picked (action p o a) i) (λ work. Some (refilled a (AsStatements work))) (λ y. Some (put_object c o y))))
      ∙ by_object c o (λ a. picked (action p o a) i >>= λ work. Some (refilled a (AsStatements work)))
  one_made (L.Fault o e) h =
      alike (running c o) _ _ (λ a. sym (after_test (fails (action p o a) e) (Some (record a { fault = Some e })) (λ y. Some (put_object c o y))))
      ∙ by_object c o (λ a. require (fails (action p o a) e) >> Some (record a { fault = Some e }))
  one_made (L.Local o) h = absurd (grind (arith, h))
  one_made (L.New o n k) h = absurd (grind (arith, h))
  one_made (L.Answer b o m args) h = absurd (grind (arith, h))
  one_made (L.Return b o v) h = absurd (grind (arith, h))
  one_made (L.Send o b m args) h = absurd (grind (arith, h))
  one_made (L.Take b s m args) h = absurd (grind (arith, h))

  pub local_made : (o : ℕ) → transition p c (L.Local o) ≡ (object_of c o >>= λ x. does p o R.Goes [] x >>= λ y. Some (put_object c o y))
  local_made o = by_object c o (λ a. local_step a (action p o a))

  -- where the object is there
  pub one_here : (l : Label) (x : Object) → is_of_one l ≡ true → object_of c (agent l) ≡ Some x → transition p c l ≡ (effect_one p l x >>= λ y. Some (put_object c (agent l) y))
  one_here l x h there = one_made l h ∙ ap (λ r. r >>= λ x. effect_one p l x >>= λ y. Some (put_object c (agent l) y)) there

  pub local_here : (o : ℕ) (x : Object) → object_of c o ≡ Some x → transition p c (L.Local o) ≡ (does p o R.Goes [] x >>= λ y. Some (put_object c o y))
  local_here o x there = local_made o ∙ ap (λ r. r >>= λ x. does p o R.Goes [] x >>= λ y. Some (put_object c o y)) there
