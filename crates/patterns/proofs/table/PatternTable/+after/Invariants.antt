use Rattle.patterns.proofs.table.PatternTable.+after.Given as goal

-- each level counts one down
abbrev pub decreases-after : goal.decreases-after
decreases-after l = l.left
