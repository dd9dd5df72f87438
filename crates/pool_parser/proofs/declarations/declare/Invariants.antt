use Rattle.std.proofs.Common.{◌≡◌, ◌++◌, take}
use Rattle.pool_grammar.specs.Grammar.{variables}
use Rattle.pool_parser.proofs.declarations.declare.Given as goal

-- the names up to here have their variables
abbrev pub invariant-loop-name : goal.invariant-loop-name
invariant-loop-name l = l.vars ≡ l.fn.vars ++ variables (take l.name-index l.names) (l.kind, l.kind_pos)
