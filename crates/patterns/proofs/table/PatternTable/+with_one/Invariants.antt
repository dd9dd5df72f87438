use Rattle.patterns.proofs.table.PatternTable.+with_one.Given as goal

-- each level counts one down
abbrev pub decreases-with_one : goal.decreases-with_one
decreases-with_one l = l.left
