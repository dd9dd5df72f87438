use Rattle.std.proofs.Common.{◌≡◌, drop}
use Rattle.code_semantics.specs.NodeWords.{most_vars}
use Rattle.placement_reader.proofs.Maximum.{greater}
use Rattle.placement_reader.proofs.read.most_vars.Given as goal

-- the greatest of the number so far and those that are left is the greatest of all
abbrev pub invariant-loop-class : goal.invariant-loop-class
invariant-loop-class l = greater l.most (most_vars (drop l.class-index l.classes)) ≡ most_vars l.classes
