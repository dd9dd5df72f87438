use Rattle.std.proofs.Common.{◌≡◌, drop}
use Rattle.std.specs.List.{list_any}
use Rattle.pool_relation.specs.Ready.{is_open_plain}
use Rattle.stepper_terms.specs.Reduced.{choices}
use Rattle.stepper_objects.proofs.offers.any_open_plain.Given as goal

abbrev pub invariant-loop-guarded : goal.invariant-loop-guarded
invariant-loop-guarded l = list_any is_open_plain (choices (drop l.guarded-index l.guards)) ≡ list_any is_open_plain (choices l.guards)
