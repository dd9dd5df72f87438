use Rattle.std.proofs.Common.{◌≡◌, drop}
use Rattle.pool_relation.specs.Transition.{select_offer}
use Rattle.stepper_terms.specs.Reduced.{choices}
use Rattle.stepper_objects.proofs.offers.select_offer.Given as goal

abbrev pub invariant-loop-guarded : goal.invariant-loop-guarded
invariant-loop-guarded l = select_offer (choices (drop l.guarded-index l.guards)) l.method ≡ select_offer (choices l.guards) l.method
