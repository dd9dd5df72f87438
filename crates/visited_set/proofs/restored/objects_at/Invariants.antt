use Rattle.std.proofs.Common.{◌≡◌, take}
use Rattle.stepper_objects.specs.ObjectStates.{things}
use Rattle.object_moves.specs.Tables.{known_states}
use Rattle.object_moves.specs.Rows.{objects_from}
use Rattle.visited_set.proofs.restored.objects_at.Given as goal

abbrev pub invariant-loop-i : goal.invariant-loop-i
invariant-loop-i l = things l.objects.entries ≡ objects_from 0 (known_states l.table) (take l.i l.numbers)
