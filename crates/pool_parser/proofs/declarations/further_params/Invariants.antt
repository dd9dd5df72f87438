use Rattle.std.proofs.Common.{◌-◌, ◌≤◌, List, length}
use Rattle.pool_syntax.specs.declared.tree.Var.{Var}
use Rattle.pool_grammar.specs.Rules.{more_params}
use Rattle.expression_parser.specs.Reads.{Outcome, ReadsPhrase}
use Rattle.expression_parser.specs.Parses.{seen}
use Rattle.pool_parser.proofs.declarations.further_params.Given as goal

-- what is read from here on is what all give
abbrev pub invariant-params : goal.invariant-params
invariant-params l = (l.at ≤ l.next) × (l.next ≤ length l.source.tokens.now) × ((o : Outcome (List Var)) → ReadsPhrase (seen l.source.tokens.now) (more_params (l.params)) l.next o → ReadsPhrase (seen l.source.tokens.now) (more_params (l.fn.params)) l.at o)

abbrev pub decreases-params : goal.decreases-params
decreases-params l = length l.source.tokens.now - l.next
