use Rattle.std.proofs.Common.{◌≡◌, ◌-◌, replicate}
use Rattle.pool_relation.specs.Transition.{run}
use Rattle.pool_semantics.specs.PlainOf.{configuration_of, program_tree}
use Rattle.search_text.proofs.shown.repeat.Given as goal

-- those that are left lead where all lead
abbrev pub invariant-loop-made : goal.invariant-loop-made
invariant-loop-made l =
    record {
      program : program_tree l.plain ≡ program_tree l.initial.plain;
      left : run (program_tree l.initial.plain) (configuration_of l.initial.plain) (replicate l.times l.label)
          ≡ run (program_tree l.initial.plain) (configuration_of l.plain) (replicate (l.times - l._made) l.label);
    }
