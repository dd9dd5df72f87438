-- What a table of object states represents, as a list of objects of the transition relation.
use Rattle.std.specs.Prelude.{List, map}
use Rattle.pool_relation.specs.Action.{Object}
use Rattle.stepper_objects.specs.ObjectStates.{thing_object}
use Rattle.search_states.specs.declared.table.StateTable.{StateTable}

-- the objects, in the order of their numbers
abbrev pub states : StateTable → List Object
states t = map thing_object t.things.items
