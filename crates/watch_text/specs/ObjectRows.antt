-- The rows of the report on a configuration, as the code makes them.
use Rattle.std.specs.Prelude.{ℕ, List, [], ◌∷◌, Option, Some, None, Bool, true, false}
use Rattle.std.specs.Ordering.{nat_cmp}
use Rattle.std.specs.BTreeSet.{BTreeSet, contains}
use Rattle.pool_syntax.specs.Terms.{ProgramTree}
use Rattle.run_types.specs.declared.types.Error.{Error}
use Rattle.run_types.specs.declared.types.Standing.{Standing}
use Rattle.run_types.specs.declared.types.Standing.TheVariants as Z
use Rattle.pool_relation.specs.Action as A
use Rattle.pool_relation.specs.Action.{Object, Action, action}
use Rattle.wait_report.specs.declared.rows.ObjectRow.{ObjectRow}

-- the status of an object at an answer or select
abbrev pub served_standing : Bool → Standing
served_standing true = Z.Ready
served_standing false = Z.Awaits

-- the status of an object with this action that has met no error; the test says whether it can make a transition of its
-- own
abbrev pub standing_at : Bool → Action → Standing
standing_at moves A.Finished = Z.Finished
standing_at moves (A.Local term vars) = Z.Ready
standing_at moves (A.Fault e) = Z.Ready
standing_at moves (A.New c) = Z.Ready
standing_at moves (A.Send b m args) = Z.Calls b (record { 0 = m })
standing_at moves (A.Async b m args) = Z.Ready
standing_at moves (A.Write item) = Z.Ready
standing_at moves (A.Answer names) = served_standing moves
standing_at moves (A.Select choices) = served_standing moves
standing_at moves (A.Return k v) = Z.Ready
standing_at moves (A.Waits b m) = Z.Calls b (record { 0 = m })
standing_at moves A.Stuck = Z.Ready

abbrev pub standing_of : Bool → Option Error → Action → Standing
standing_of moves (Some e) a = Z.Faulted e
standing_of moves None a = standing_at moves a

abbrev pub object_row : Bool → ProgramTree → ℕ × Object → ObjectRow
object_row moves p e = record { name = e.0; class = record { 0 = e.1.class }; standing = standing_of moves e.1.fault (action p e.0 e.1) }

-- the rows of the objects; those of the set can make a transition of their own
abbrev pub rows_of : BTreeSet ℕ → ProgramTree → List (ℕ × Object) → List ObjectRow
rows_of movers p [] = []
rows_of movers p (e ∷ es) = object_row (contains nat_cmp movers e.0) p e ∷ rows_of movers p es
