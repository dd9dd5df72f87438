use Rattle.std.proofs.Common.{◌≡◌, ◌≤◌, ◌-◌, false, Some, replicate}
use Rattle.run_types.specs.declared.types.Label.TheVariants as L
use Rattle.pool_relation.specs.Transition.{run}
use Rattle.pool_semantics.specs.PlainOf.{configuration_of, program_tree, is_spent}
use Rattle.stream_check.specs.Filled.{most_filled}
use Rattle.stream_check.proofs.local.make_local.Given as goal

-- as many local transitions were made
abbrev pub invariant-loop-made : goal.invariant-loop-made
invariant-loop-made l =
    record {
      few : l.made ≤ most_filled;
      program : program_tree l.plain ≡ program_tree l.initial.plain;
      going_on : is_spent l.initial.plain ≡ false → is_spent l.plain ≡ false;
      leads : run (program_tree l.initial.plain) (configuration_of l.initial.plain) (replicate l.made (L.Local l.object)) ≡ Some (configuration_of l.plain);
    }

abbrev pub decreases-loop-made : goal.decreases-loop-made
decreases-loop-made l = most_filled - l.made
