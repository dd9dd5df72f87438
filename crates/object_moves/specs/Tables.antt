-- What contracts see of a table of moves: its program, and the object states in the order of their numbers.
use Rattle.std.specs.Prelude.{List}
use Rattle.pool_syntax.specs.Terms.{ProgramTree}
use Rattle.pool_syntax.specs.TreeOf.{program_of}
use Rattle.pool_relation.specs.Action.{Object}
use Rattle.search_states.specs.States.{states}
use Rattle.object_moves.specs.declared.table.MoveTable.{MoveTable}

-- the program
abbrev pub table_program : MoveTable → ProgramTree
table_program m = program_of m.program.now

-- the object states
abbrev pub known_states : MoveTable → List Object
known_states m = states m.table
