use Rattle.std.proofs.Common.{◌≡◌, ◌++◌, false, Some, drop, take}
use Rattle.pool_relation.specs.Transition.{run}
use Rattle.mesh_semantics.specs.Record.{labels}
use Rattle.pool_semantics.specs.PlainOf.{configuration_of, program_tree, is_spent}
use Rattle.term_text.specs.Watched.{followed_text}
use Rattle.watch_text.proofs.follow.push_followed.Given as goal

-- the labels of the lines so far lead where the stepper is, and the text so far and that of the rest are the text of all
abbrev pub invariant-loop-line : goal.invariant-loop-line
invariant-loop-line l =
    record {
      program : program_tree l.plain ≡ program_tree l.initial.plain;
      going_on : is_spent l.initial.plain ≡ false → is_spent l.plain ≡ false;
      leads : run (program_tree l.initial.plain) (configuration_of l.initial.plain) (labels (take l.line-index l.lines)) ≡ Some (configuration_of l.plain);
      text : l.text.items ++ followed_text l.names (program_tree l.initial.plain) (configuration_of l.plain) (drop l.line-index l.lines)
          ≡ l.initial.text.items ++ followed_text l.names (program_tree l.initial.plain) (configuration_of l.initial.plain) l.lines;
    }
