use Rattle.std.proofs.Common.{◌-◌, ◌≤◌, List, map, length}
use Rattle.pool_syntax.specs.Terms.{ClassTree}
use Rattle.pool_grammar.specs.Rules.{more_classes}
use Rattle.pool_syntax.specs.TreeOf.{class_tree}
use Rattle.expression_parser.specs.Reads.{Outcome, ReadsPhrase}
use Rattle.expression_parser.specs.Parses.{seen}
use Rattle.pool_parser.proofs.declarations.further_classes.Given as goal

-- what is read from here on is what all give
abbrev pub invariant-classes : goal.invariant-classes
invariant-classes l = (l.at ≤ l.next) × (l.next ≤ length l.source.tokens.now) × ((o : Outcome (List ClassTree)) → ReadsPhrase (seen l.source.tokens.now) (more_classes (map class_tree l.classes)) l.next o → ReadsPhrase (seen l.source.tokens.now) (more_classes (map class_tree l.fn.classes)) l.at o)

abbrev pub decreases-classes : goal.decreases-classes
decreases-classes l = length l.source.tokens.now - l.next
