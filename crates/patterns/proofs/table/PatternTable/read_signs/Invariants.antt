use Rattle.std.proofs.Common.{drop}
use Rattle.patterns.specs.Meaning.{reading}
use Rattle.patterns.specs.Readers.{HasRead}
use Rattle.patterns.specs.Rows.{IsGrown}
use Rattle.patterns.specs.Tables.{patterns}
use Rattle.patterns.proofs.table.PatternTable.read_signs.Given as goal

-- the signs from here on were read
abbrev pub invariant-loop-i : goal.invariant-loop-i
invariant-loop-i l = record { grown : IsGrown (patterns l.initial.self) (patterns l.self); read : HasRead (patterns l.self) l.reader (reading (drop l.i l.signs)) }
