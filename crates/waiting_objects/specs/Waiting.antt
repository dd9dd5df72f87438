-- The objects that wait in a configuration: those in a call or
-- before a call; with `all`, also those at `answer` or `select`.
use Rattle.std.specs.Prelude.{ℕ, List, filter_map, Option, Some, None, option_map, Bool, true, false}
use Rattle.pool_syntax.specs.Terms.{ProgramTree}
use Rattle.run_types.specs.declared.types.Error.{Error}
use Rattle.run_types.specs.declared.types.Standing.{Standing}
use Rattle.run_types.specs.declared.types.Standing.TheVariants as Z
use Rattle.pool_relation.specs.Action as A
use Rattle.pool_relation.specs.Action.{Object, Action, action}
use Rattle.pool_relation.specs.Configuration.{Configuration}
use Rattle.wait_report.specs.declared.rows.ObjectRow.{ObjectRow}

-- the status of an object with this action, if it waits
abbrev pub waiting_at : Bool → Action → Option Standing
waiting_at all A.Finished = None
waiting_at all (A.Local term vars) = None
waiting_at all (A.Fault e) = None
waiting_at all (A.New c) = None
waiting_at all (A.Send b m args) = Some (Z.Calls b (record { 0 = m }))
waiting_at all (A.Async b m args) = None
waiting_at all (A.Write item) = None
waiting_at true (A.Answer names) = Some Z.Awaits
waiting_at false (A.Answer names) = None
waiting_at true (A.Select choices) = Some Z.Awaits
waiting_at false (A.Select choices) = None
waiting_at all (A.Return k v) = None
waiting_at all (A.Waits b m) = Some (Z.Calls b (record { 0 = m }))
waiting_at all A.Stuck = None

-- an object with a run-time error does not wait
abbrev pub waiting_now : Bool → Option Error → Action → Option Standing
waiting_now all (Some e) a = None
waiting_now all None a = waiting_at all a

-- the row of an object, if it waits
abbrev pub waiting_row : Bool → ProgramTree → ℕ × Object → Option ObjectRow
waiting_row all p e =
    option_map (λ s. record { name = e.0; class = record { 0 = e.1.class }; standing = s }) (waiting_now all e.1.fault (action p e.0 e.1))

abbrev pub waiting_in : Bool → ProgramTree → List (ℕ × Object) → List ObjectRow
waiting_in all p es = filter_map (waiting_row all p) es

-- the rows of the objects that wait in a configuration, by rising names
abbrev pub waiting_rows : Bool → ProgramTree → Configuration → List ObjectRow
waiting_rows all p c = waiting_in all p c.objects
