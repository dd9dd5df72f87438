use Rattle.patterns.proofs.table.PatternTable.+alternatives.Given as goal

-- each level counts one down
abbrev pub decreases-alternatives : goal.decreases-alternatives
decreases-alternatives l = l.left
