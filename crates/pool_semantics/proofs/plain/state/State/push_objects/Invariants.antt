use Rattle.std.proofs.Common.{◌≡◌, ◌++◌}
use Rattle.pool_syntax.specs.TreeOf.{program_of}
use Rattle.reachability.specs.Labels.{object_labels}
use Rattle.stepper_objects.specs.ObjectStates.{things}
use Rattle.pool_semantics.specs.Plains.{configuration}
use Rattle.pool_semantics.proofs.plain.state.State.push_objects.Given as goal

abbrev pub invariant-loop-object : goal.invariant-loop-object
invariant-loop-object l =
    l.into.items ++ object_labels (program_of l.self.program.now) l.name (things l.object-iterator) ≡ l.fn.into.items ++ object_labels (program_of l.self.program.now) l.name (configuration l.self).objects
