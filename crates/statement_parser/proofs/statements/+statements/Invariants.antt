use Rattle.std.proofs.Common.{◌-◌, ◌≤◌, length}
use Rattle.pool_syntax.specs.Terms.{Statements, Alternatives}
use Rattle.pool_grammar.specs.Rules.{stmts, more_stmts, more_alts}
use Rattle.pool_syntax.specs.TreeOf.{statements_of, alternatives_of}
use Rattle.expression_parser.specs.Reads.{Outcome, ReadsPhrase}
use Rattle.expression_parser.specs.Parses.{seen}
use Rattle.expression_parser.proofs.Laws.{left_at}
use Rattle.statement_parser.proofs.statements.+statements.Given as goal

abbrev pub decreases-conditional : goal.decreases-conditional
decreases-conditional l = left_at l.source.tokens.now l.at 0

abbrev pub decreases-else_part : goal.decreases-else_part
decreases-else_part l = left_at l.source.tokens.now l.at 0

abbrev pub decreases-repetition : goal.decreases-repetition
decreases-repetition l = left_at l.source.tokens.now l.at 0

abbrev pub decreases-selection : goal.decreases-selection
decreases-selection l = left_at l.source.tokens.now l.at 0

abbrev pub decreases-alternative : goal.decreases-alternative
decreases-alternative l = left_at l.source.tokens.now l.at 0

abbrev pub decreases-work : goal.decreases-work
decreases-work l = left_at l.source.tokens.now l.at 0

abbrev pub decreases-more_alternatives : goal.decreases-more_alternatives
decreases-more_alternatives l = left_at l.source.tokens.now l.at 1

abbrev pub decreases-worded_statement : goal.decreases-worded_statement
decreases-worded_statement l = left_at l.source.tokens.now l.at 1

abbrev pub decreases-statement : goal.decreases-statement
decreases-statement l = left_at l.source.tokens.now l.at 2

abbrev pub decreases-statements : goal.decreases-statements
decreases-statements l = left_at l.source.tokens.now l.at 3

-- what the alternatives from here on give is what all give
abbrev pub invariant-more_alternatives-alternatives : goal.invariant-more_alternatives-alternatives
invariant-more_alternatives-alternatives l =
    (l.at ≤ l.next) × (l.next ≤ length l.source.tokens.now) × ((o : Outcome Alternatives) → ReadsPhrase (seen l.source.tokens.now) (more_alts (alternatives_of l.alts)) l.next o → ReadsPhrase (seen l.source.tokens.now) (more_alts (alternatives_of l.fn.alts)) l.at o)

abbrev pub decreases-more_alternatives-alternatives : goal.decreases-more_alternatives-alternatives
decreases-more_alternatives-alternatives l = length l.source.tokens.now - l.next

-- what the statements from here on give is what all give
abbrev pub invariant-statements-statements : goal.invariant-statements-statements
invariant-statements-statements l =
    (l.at ≤ l.next) × (l.next ≤ length l.source.tokens.now) × ((o : Outcome Statements) → ReadsPhrase (seen l.source.tokens.now) (more_stmts (statements_of l.list)) l.next o → ReadsPhrase (seen l.source.tokens.now) stmts l.at o)

abbrev pub decreases-statements-statements : goal.decreases-statements-statements
decreases-statements-statements l = length l.source.tokens.now - l.next
