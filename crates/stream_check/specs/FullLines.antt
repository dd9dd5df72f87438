-- Records in which a line shows as many local transitions of one object as may be filled in.
use Rattle.std.specs.Prelude.{◌≡◌, ◌++◌, ℕ, List}
use Rattle.run_types.specs.declared.types.Line.{Line}
use Rattle.stream_check.specs.Filled.{IsFull}

-- a line of these shows as many local transitions of one object as may be filled in
pub record HasFull (ls : List Line) : Type 0 where
  pub before : List Line
  pub behind : List Line
  pub object : ℕ
  pub full : IsFull before object
  pub whole : ls ≡ before ++ behind
