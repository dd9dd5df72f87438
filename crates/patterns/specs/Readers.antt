-- What contracts see of a reader of signs.
use Rattle.std.specs.Prelude.{◌≡◌, List, map, reverse}
use Rattle.run_types.specs.Tables.{Each}
use Rattle.patterns.specs.Patterns.{Pattern}
use Rattle.patterns.specs.Meaning.{Reading, IsLevel, behind}
use Rattle.patterns.specs.declared.level.Reader.{Reader}

-- the reader has numbers of these patterns
pub record IsReader (ps : List Pattern) (x : Reader) : Type 0 where
  pub here : IsLevel ps x.here
  pub around : Each (IsLevel ps) x.around.items

-- what it has read
abbrev pub reading_of : List Pattern → Reader → Reading
reading_of ps x = record { here = behind ps x.here; around = reverse (map (behind ps) x.around.items) }

-- it has read this
pub record HasRead (ps : List Pattern) (x : Reader) (r : Reading) : Type 0 where
  pub within : IsReader ps x
  pub is : reading_of ps x ≡ r
