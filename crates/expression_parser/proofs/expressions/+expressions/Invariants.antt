use Rattle.std.proofs.Common.{◌+◌, ◌-◌, ◌<◌, ◌≤◌, length}
use Rattle.pool_syntax.specs.Terms.{Expression, Expressions}
use Rattle.pool_grammar.specs.Rules.{group, expression, postfix, more_operands, more_sends, more_args}
use Rattle.pool_grammar.specs.Grammar.{rule}
use Rattle.pool_grammar.specs.Derives.{Derives}
use Rattle.pool_syntax.specs.TreeOf.{expression_of, expressions_of}
use Rattle.expression_parser.specs.Reads.{Outcome, ReadsPhrase}
use Rattle.expression_parser.specs.Parses.{seen, Invokes}
use Rattle.expression_parser.specs.Groups.{group_of}
use Rattle.expression_parser.proofs.Ranks.{rank, left_at}
use Rattle.expression_parser.proofs.expressions.+expressions.Given as goal

abbrev pub decreases-grouped : goal.decreases-grouped
decreases-grouped l = left_at l.source.tokens.now l.at (rank l.grouping + 1)

abbrev pub decreases-operand : goal.decreases-operand
decreases-operand l = left_at l.source.tokens.now l.at (rank l.grouping)

abbrev pub decreases-comparison : goal.decreases-comparison
decreases-comparison l = left_at l.source.tokens.now l.at 8

abbrev pub decreases-factor : goal.decreases-factor
decreases-factor l = left_at l.source.tokens.now l.at 3

abbrev pub decreases-postfix : goal.decreases-postfix
decreases-postfix l = left_at l.source.tokens.now l.at 2

abbrev pub decreases-primary : goal.decreases-primary
decreases-primary l = left_at l.source.tokens.now l.at 1

abbrev pub decreases-parenthesized : goal.decreases-parenthesized
decreases-parenthesized l = left_at l.source.tokens.now l.at 0

abbrev pub decreases-named : goal.decreases-named
decreases-named l = left_at l.source.tokens.now l.at 0

abbrev pub decreases-arguments : goal.decreases-arguments
decreases-arguments l = left_at l.source.tokens.now l.at 0

abbrev pub decreases-more_arguments : goal.decreases-more_arguments
decreases-more_arguments l = left_at l.source.tokens.now l.at 0

-- what the operators from here on give is what the whole gives
abbrev pub invariant-grouped-operands : goal.invariant-grouped-operands
invariant-grouped-operands l =
    let g = group_of l.grouping in
    (l.at < l.next) × (l.next ≤ length l.source.tokens.now) × ((o : Outcome Expression) → ReadsPhrase (seen l.source.tokens.now) (more_operands g (expression_of l.left)) l.next o → ReadsPhrase (seen l.source.tokens.now) (expression (group g)) l.at o)

abbrev pub decreases-grouped-operands : goal.decreases-grouped-operands
decreases-grouped-operands l = length l.source.tokens.now - l.next

-- what the sends from here on give is what the whole gives; what is read is a postfix, and an invocation or not
abbrev pub invariant-postfix-sends : goal.invariant-postfix-sends
invariant-postfix-sends l =
    let ts = seen l.source.tokens.now in let e = expression_of l.to.tree in
    (l.at < l.next) × (l.next ≤ length l.source.tokens.now) × ((o : Outcome Expression) → ReadsPhrase ts (more_sends e) l.next o → ReadsPhrase ts (expression postfix) l.at o)
    × Derives ts (expression postfix) (rule (expression postfix)) l.at l.next e × Invokes ts l.at l.next e l.to.invokes

abbrev pub decreases-postfix-sends : goal.decreases-postfix-sends
decreases-postfix-sends l = length l.source.tokens.now - l.next

-- what the arguments from here on give is what all give
abbrev pub invariant-more_arguments-arguments : goal.invariant-more_arguments-arguments
invariant-more_arguments-arguments l =
    (l.at ≤ l.next) × (l.next ≤ length l.source.tokens.now) × ((o : Outcome Expressions) → ReadsPhrase (seen l.source.tokens.now) (more_args (expressions_of l.args)) l.next o → ReadsPhrase (seen l.source.tokens.now) (more_args (expressions_of l.fn.args)) l.at o)

abbrev pub decreases-more_arguments-arguments : goal.decreases-more_arguments-arguments
decreases-more_arguments-arguments l = length l.source.tokens.now - l.next
