-- Ready actions: those for which an object need not wait for a message or a return.
use Rattle.std.specs.Prelude.{Bool, true, false, ◌&&◌, is_none}
use Rattle.std.specs.List.{list_any}
use Rattle.pool_relation.specs.Reducible.{Choice}
use Rattle.pool_relation.specs.Action as A
use Rattle.pool_relation.specs.Action.{Action}
use Rattle.run_types.specs.Values.{is_true}

-- the alternative is open and plain
abbrev pub is_open_plain : Choice → Bool
is_open_plain c = is_true c.guard && is_none c.answer

-- An answer waits for a message, and so does a select without an open plain alternative. A wait waits for a return.
abbrev pub is_ready : Action → Bool
is_ready A.Finished = false
is_ready (A.Local term vars) = true
is_ready (A.Fault e) = true
is_ready (A.New c) = true
is_ready (A.Send b m args) = true
is_ready (A.Async b m args) = true
is_ready (A.Write item) = true
is_ready (A.Answer names) = false
is_ready (A.Select choices) = list_any is_open_plain choices
is_ready (A.Return k v) = true
is_ready (A.Waits b m) = false
is_ready A.Stuck = false
