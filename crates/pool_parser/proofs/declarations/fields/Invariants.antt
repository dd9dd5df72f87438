use Rattle.std.proofs.Common.{◌-◌, ◌≤◌, List, [], length}
use Rattle.pool_syntax.specs.declared.tree.Var.{Var}
use Rattle.pool_grammar.specs.Rules.{more_vars}
use Rattle.expression_parser.specs.Reads.{Outcome, ReadsPhrase}
use Rattle.expression_parser.specs.Parses.{seen}
use Rattle.pool_parser.proofs.declarations.fields.Given as goal

-- what is read from here on is what all give
abbrev pub invariant-fields : goal.invariant-fields
invariant-fields l = (l.at ≤ l.next) × (l.next ≤ length l.source.tokens.now) × ((o : Outcome (List Var)) → ReadsPhrase (seen l.source.tokens.now) (more_vars (l.vars)) l.next o → ReadsPhrase (seen l.source.tokens.now) (more_vars ([])) l.at o)

abbrev pub decreases-fields : goal.decreases-fields
decreases-fields l = length l.source.tokens.now - l.next
