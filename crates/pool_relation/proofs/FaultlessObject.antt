-- An object that exists and has met no error.
use Rattle.std.proofs.Common.{◌≡◌, refl, sym, ap, ◌∙◌, ℕ, Option, Some, None, arith}
use Rattle.run_types.specs.declared.types.Error.{Error}
use Rattle.run_types.proofs.Laws.{given_by}
use Rattle.pool_relation.specs.Action.{Object}
use Rattle.pool_relation.specs.Configuration.{Configuration, object_of}
use Rattle.pool_relation.specs.Transition.{running, without_fault}

pub running_is : (c : Configuration) (o : ℕ) (x : Object) → running c o ≡ Some x → (object_of c o ≡ Some x) × (x.fault ≡ None)
running_is c o x e = let a = given_by (object_of c o) _ x e in by a.0 a.0.fault refl a.1 a.2
  where
    by : (y : Object) (f : Option Error) → y.fault ≡ f → object_of c o ≡ Some y → without_fault y f ≡ Some x
        → (object_of c o ≡ Some x) × (x.fault ≡ None)
    by y None i h g = let same : y ≡ x = cc in (h ∙ ap Some same, ap (λ z. z.fault) (sym same) ∙ i)
    by y (Some r) i h g = absurd (grind (arith, g))
