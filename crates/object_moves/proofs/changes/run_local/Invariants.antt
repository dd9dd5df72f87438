use Rattle.std.proofs.Common.{◌≡◌, Some}
use Rattle.pool_syntax.specs.TreeOf.{program_of}
use Rattle.stepper_objects.specs.ObjectStates.{thing_object}
use Rattle.object_moves.specs.Roles.{after_local}
use Rattle.object_moves.proofs.changes.run_local.Given as goal

-- so far the object made this many local transitions
abbrev pub invariant-loop-made : goal.invariant-loop-made
invariant-loop-made l = after_local (program_of l.program) l.object l.made (thing_object l.initial.state) ≡ Some (thing_object l.state)
