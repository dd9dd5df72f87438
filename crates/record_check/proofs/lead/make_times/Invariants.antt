use Rattle.std.proofs.Common.{◌≡◌, false, Some, replicate}
use Rattle.pool_relation.specs.Transition.{run}
use Rattle.pool_semantics.specs.PlainOf.{configuration_of, program_tree, is_spent}
use Rattle.record_check.proofs.lead.make_times.Given as goal

-- as many transitions were made
abbrev pub invariant-loop-made : goal.invariant-loop-made
invariant-loop-made l =
    record {
      program : program_tree l.plain ≡ program_tree l.initial.plain;
      going_on : is_spent l.initial.plain ≡ false → is_spent l.plain ≡ false;
      leads : run (program_tree l.initial.plain) (configuration_of l.initial.plain) (replicate l._made l.label) ≡ Some (configuration_of l.plain);
    }
