-- The parts of a `Plain` that contracts mention: its program, its configuration, and whether it has run out of memory.
use Rattle.std.specs.Prelude.{Bool}
use Rattle.pool_syntax.specs.Terms.{ProgramTree}
use Rattle.pool_syntax.specs.TreeOf.{program_of}
use Rattle.pool_relation.specs.Configuration.{Configuration}
use Rattle.pool_semantics.specs.Plains.{configuration}
use Rattle.pool_semantics.specs.declared.plain.Plain.{Plain}
use Rattle.pool_semantics.specs.declared.plain.state.State.{State}

-- the state: program, objects and messages, as the stepper stores them
abbrev pub state_of : Plain → State
state_of s = s.state

-- the program
abbrev pub program_tree : Plain → ProgramTree
program_tree s = program_of s.state.program.now

-- the configuration
abbrev pub configuration_of : Plain → Configuration
configuration_of s = configuration s.state

-- whether memory has run out
abbrev pub is_spent : Plain → Bool
is_spent s = s.spent
