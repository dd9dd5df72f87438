use Rattle.std.proofs.Common.{◌≡◌, ◌++◌}
use Rattle.pool_syntax.specs.TreeOf.{program_of}
use Rattle.stepper_objects.specs.ObjectStates.{things}
use Rattle.waiting_objects.specs.Waiting.{waiting_in}
use Rattle.waiting_objects.proofs.waiting.waiting_in.Given as goal

abbrev pub invariant-loop-name : goal.invariant-loop-name
invariant-loop-name l =
    l.rows.items ++ waiting_in l.all (program_of l.program) (things l.name-iterator) ≡ waiting_in l.all (program_of l.program) (things l.objects.entries)
