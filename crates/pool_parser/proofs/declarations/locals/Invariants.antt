use Rattle.std.proofs.Common.{◌-◌, ◌≤◌, List, [], length}
use Rattle.pool_syntax.specs.declared.tree.Var.{Var}
use Rattle.pool_grammar.specs.Rules.{more_locals}
use Rattle.expression_parser.specs.Reads.{Outcome, ReadsPhrase}
use Rattle.expression_parser.specs.Parses.{seen}
use Rattle.pool_parser.proofs.declarations.locals.Given as goal

-- what is read from here on is what all give
abbrev pub invariant-locals : goal.invariant-locals
invariant-locals l = (l.at ≤ l.next) × (l.next ≤ length l.source.tokens.now) × ((o : Outcome (List Var)) → ReadsPhrase (seen l.source.tokens.now) (more_locals (l.vars)) l.next o → ReadsPhrase (seen l.source.tokens.now) (more_locals ([])) l.at o)

abbrev pub decreases-locals : goal.decreases-locals
decreases-locals l = length l.source.tokens.now - l.next
