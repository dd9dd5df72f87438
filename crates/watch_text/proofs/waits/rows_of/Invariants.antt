use Rattle.std.proofs.Common.{◌≡◌, ◌++◌}
use Rattle.pool_syntax.specs.TreeOf.{program_of}
use Rattle.stepper_objects.specs.ObjectStates.{things}
use Rattle.watch_text.specs.ObjectRows.{rows_of}
use Rattle.watch_text.proofs.waits.rows_of.Given as goal

abbrev pub invariant-loop-name : goal.invariant-loop-name
invariant-loop-name l =
    l.rows.items ++ rows_of l.movers (program_of l.program) (things l.name-iterator) ≡ rows_of l.movers (program_of l.program) (things l.objects.entries)
