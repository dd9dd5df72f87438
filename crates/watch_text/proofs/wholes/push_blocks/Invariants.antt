use Rattle.std.proofs.Common.{◌≡◌, ◌++◌}
use Rattle.pool_syntax.specs.TreeOf.{program_of}
use Rattle.stepper_objects.specs.ObjectStates.{things}
use Rattle.term_text.specs.StateText.{blocks}
use Rattle.watch_text.proofs.wholes.push_blocks.Given as goal

-- the text so far and that of the rest are the text of all
abbrev pub invariant-loop-object : goal.invariant-loop-object
invariant-loop-object l =
    l.text.items ++ blocks l.names (program_of l.program) (things l.object-iterator) ≡ l.initial.text.items ++ blocks l.names (program_of l.program) (things l.objects.entries)
