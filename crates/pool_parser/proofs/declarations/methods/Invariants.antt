use Rattle.std.proofs.Common.{◌-◌, ◌≤◌, List, [], map, length}
use Rattle.pool_syntax.specs.Terms.{MethodTree}
use Rattle.pool_grammar.specs.Rules.{more_methods}
use Rattle.pool_syntax.specs.TreeOf.{method_tree}
use Rattle.expression_parser.specs.Reads.{Outcome, ReadsPhrase}
use Rattle.expression_parser.specs.Parses.{seen}
use Rattle.pool_parser.proofs.declarations.methods.Given as goal

-- what is read from here on is what all give
abbrev pub invariant-methods : goal.invariant-methods
invariant-methods l = (l.at ≤ l.next) × (l.next ≤ length l.source.tokens.now) × ((o : Outcome (List MethodTree)) → ReadsPhrase (seen l.source.tokens.now) (more_methods (map method_tree l.methods)) l.next o → ReadsPhrase (seen l.source.tokens.now) (more_methods ([])) l.at o)

abbrev pub decreases-methods : goal.decreases-methods
decreases-methods l = length l.source.tokens.now - l.next
