use Rattle.std.proofs.Common.{◌-◌, ◌<◌, ◌≤◌, List, length}
use Rattle.pool_syntax.specs.declared.tree.Named.{Named}
use Rattle.pool_grammar.specs.Rules.{names, more_names}
use Rattle.expression_parser.specs.Reads.{Outcome, ReadsPhrase}
use Rattle.expression_parser.specs.Parses.{seen}
use Rattle.expression_parser.proofs.naming.names.Given as goal

-- what the names from here on give is what all give
abbrev pub invariant-names : goal.invariant-names
invariant-names l =
    (l.at < l.next) × (l.next ≤ length l.source.tokens.now) × ((o : Outcome (List Named)) → ReadsPhrase (seen l.source.tokens.now) (more_names l.list) l.next o → ReadsPhrase (seen l.source.tokens.now) names l.at o)

abbrev pub decreases-names : goal.decreases-names
decreases-names l = length l.source.tokens.now - l.next
