use Rattle.patterns.proofs.table.PatternTable.+same.Given as goal

-- each level counts one down
abbrev pub decreases-same : goal.decreases-same
decreases-same l = l.left
