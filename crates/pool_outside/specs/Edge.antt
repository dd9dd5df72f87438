-- Files and sinks of the system, as contracts see them: counts of calls, and the bytes that are left or held.
use Rattle.std.specs.Prelude.{ℕ, Bool, List, Option}

-- the counts of calls, whether a file is open, and the bytes that it has left, if they are known
pub record Counts : Type 0 where
  pub opens : ℕ
  pub given : ℕ
  pub faults : ℕ
  pub live : Bool
  pub left : Option (List ℕ)

-- the bytes that the writer of a sink holds, if they are known, and the number of writes that have failed
pub record Passed : Type 0 where
  pub held : Option (List ℕ)
  pub faults : ℕ
