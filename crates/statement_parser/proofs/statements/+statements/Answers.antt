use Rattle.std.proofs.Common.{arith, rules, sym}
use Rattle.pool_syntax.specs.TreeOf.{statement_of}
use Rattle.statement_parser.specs.Alternatives.{alternative_of}
use Rattle.expression_parser.specs.Reads.{read, refused}
use Rattle.expression_parser.proofs.Laws.{passed_on, unexpected, relay, word_there, word_missing}
use Rattle.statement_parser.proofs.SimpleStatements.{other_read, word_tells_none, other_tells_none}
use Rattle.statement_parser.proofs.Bodies.{if_refused, then_missing, these_refused, these_read, else_refused, else_read, no_else, while_refused, do_missing, body_refused, body_read, when_missing, guard_refused, guard_read, answers_refused, answers_read, no_answers, work_read, select_refused, select_refused_later, select_read, alt_read, alt_refused, alts_end, stmts_read, stmts_refused, stmts_empty, statement_read, statement_refused, statements_end}
use Rattle.pool_syntax.proofs.Laws.{if_tree, while_tree, select_tree}
use Rattle.statement_parser.proofs.Lists.{statements-last, alternatives-last}
use Rattle.statement_parser.proofs.statements.+statements.Goals as goal

pub statement-returns-in_default : goal.statement-returns-in_default
statement-returns-in_default t c =
    let h = other_tells_none _ c.in_default.not-Name c.in_default.not-Word in record {
      parses = relay _ _ _ _ _ _ _ statement_of statement_of (λ x k. other_read _ c.peek.ensures h) (λ u. other_read _ c.peek.ensures h) _ c.sending.ensures.parses;
      next = c.sending.ensures.next;
    }

pub worded_statement-returns-in_default : goal.worded_statement-returns-in_default
worded_statement-returns-in_default t c =
    let d = c.in_default in let h = word_tells_none _ d.not-Write d.not-Answer d.not-If d.not-While d.not-Select in record {
      parses = relay _ _ _ _ _ _ _ statement_of statement_of (λ x k. other_read _ c.requires.word h) (λ u. other_read _ c.requires.word h) _ c.sending.ensures.parses;
      next = c.sending.ensures.next;
    }

pub conditional-returns-in-Err-clause-parses : goal.conditional-returns-in-Err-clause-parses
conditional-returns-in-Err-clause-parses t c = passed_on (λ u. if_refused c.requires.word) _ c.in-Err.ensures.parses

pub conditional-returns-in-Err-expect-clause-parses : goal.conditional-returns-in-Err-expect-clause-parses
conditional-returns-in-Err-expect-clause-parses t c = unexpected _ _ _ _ _ _ c.in-Err-expect.ensures.err.0 (then_missing c.requires.word c.in-Ok.ensures.parses c.in-Err-expect.ensures.err.1)

pub conditional-returns-in-Err-statements-clause-parses : goal.conditional-returns-in-Err-statements-clause-parses
conditional-returns-in-Err-statements-clause-parses t c = passed_on (λ u. these_refused c.requires.word c.in-Ok.ensures.parses c.in-Ok-expect.ensures.ok) _ c.in-Err-statements.ensures.parses

pub conditional-returns-clause-parses : goal.conditional-returns-clause-parses
conditional-returns-clause-parses t c = relay _ _ _ _ _ _ _ statement_of statement_of
    (λ x k. these_read _ c.requires.word c.in-Ok.ensures.parses c.in-Ok-expect.ensures.ok c.in-Ok-statements.ensures.parses)
    (λ u. these_read _ c.requires.word c.in-Ok.ensures.parses c.in-Ok-expect.ensures.ok c.in-Ok-statements.ensures.parses) _ c.else_part.ensures.parses

pub else_part-returns-in-Err-clause-parses : goal.else_part-returns-in-Err-clause-parses
else_part-returns-in-Err-clause-parses t c = passed_on (λ u. else_refused (c.is_at.ensures.yes (search rules))) _ c.in-Err.ensures.parses

pub else_part-returns-in-Err-expect-clause-parses : goal.else_part-returns-in-Err-expect-clause-parses
else_part-returns-in-Err-expect-clause-parses t c = unexpected _ _ _ _ _ _ c.in-Err-expect.ensures.err.0 (else_read (c.is_at.ensures.yes (search rules)) c.in-Ok.ensures.parses (word_missing c.in-Err-expect.ensures.err.1))

pub else_part-returns-in-Err-expect-2-clause-parses : goal.else_part-returns-in-Err-expect-2-clause-parses
else_part-returns-in-Err-expect-2-clause-parses t c = unexpected _ _ _ _ _ _ c.in-Err-expect-2.ensures.err.0 (no_else (c.is_at.ensures.no (search rules)) (word_missing c.in-Err-expect-2.ensures.err.1))

pub else_part-returns-in-Ok-expect-clause-parses : goal.else_part-returns-in-Ok-expect-clause-parses
else_part-returns-in-Ok-expect-clause-parses t c = rw if_tree (else_read (c.is_at.ensures.yes (search rules)) c.in-Ok.ensures.parses (word_there c.in-Ok-expect.ensures.ok))

pub else_part-returns-in-Ok-expect-2-clause-parses : goal.else_part-returns-in-Ok-expect-2-clause-parses
else_part-returns-in-Ok-expect-2-clause-parses t c = rw (if_tree, c.make-no.ensures) (no_else (c.is_at.ensures.no (search rules)) (word_there c.in-Ok-expect-2.ensures.ok))

pub repetition-returns-in-Err-clause-parses : goal.repetition-returns-in-Err-clause-parses
repetition-returns-in-Err-clause-parses t c = passed_on (λ u. while_refused c.requires.word) _ c.in-Err.ensures.parses

pub repetition-returns-in-Err-expect-clause-parses : goal.repetition-returns-in-Err-expect-clause-parses
repetition-returns-in-Err-expect-clause-parses t c = unexpected _ _ _ _ _ _ c.in-Err-expect.ensures.err.0 (do_missing c.requires.word c.in-Ok.ensures.parses c.in-Err-expect.ensures.err.1)

pub repetition-returns-in-Err-statements-clause-parses : goal.repetition-returns-in-Err-statements-clause-parses
repetition-returns-in-Err-statements-clause-parses t c = passed_on (λ u. body_refused c.requires.word c.in-Ok.ensures.parses c.in-Ok-expect.ensures.ok) _ c.in-Err-statements.ensures.parses

pub repetition-returns-in-Err-expect-2-clause-parses : goal.repetition-returns-in-Err-expect-2-clause-parses
repetition-returns-in-Err-expect-2-clause-parses t c = unexpected _ _ _ _ _ _ c.in-Err-expect-2.ensures.err.0 (body_read c.requires.word c.in-Ok.ensures.parses c.in-Ok-expect.ensures.ok c.in-Ok-statements.ensures.parses (word_missing c.in-Err-expect-2.ensures.err.1))

pub repetition-returns-clause-parses : goal.repetition-returns-clause-parses
repetition-returns-clause-parses t c = rw while_tree (body_read c.requires.word c.in-Ok.ensures.parses c.in-Ok-expect.ensures.ok c.in-Ok-statements.ensures.parses (word_there c.in-Ok-expect-2.ensures.ok))

pub selection-returns-in-Err-clause-parses : goal.selection-returns-in-Err-clause-parses
selection-returns-in-Err-clause-parses t c = passed_on (λ u. select_refused c.requires.word) _ c.in-Err.ensures.parses

pub selection-returns-in-Err-more_alternatives-clause-parses : goal.selection-returns-in-Err-more_alternatives-clause-parses
selection-returns-in-Err-more_alternatives-clause-parses t c = passed_on (λ u R. select_refused_later c.requires.word c.in-Ok.ensures.parses (rw (c.in-Ok-pushed.ensures.ok, c.make-alts.ensures) at R)) _ c.in-Err-more_alternatives.ensures.parses

pub selection-returns-in-Err-expect-clause-parses : goal.selection-returns-in-Err-expect-clause-parses
selection-returns-in-Err-expect-clause-parses t c = unexpected _ _ _ _ _ _ c.in-Err-expect.ensures.err.0 (select_read c.requires.word c.in-Ok.ensures.parses
    (rw (c.in-Ok-pushed.ensures.ok, c.make-alts.ensures) at c.in-Ok-more_alternatives.ensures.parses) (word_missing c.in-Err-expect.ensures.err.1))

pub selection-returns-clause-parses : goal.selection-returns-clause-parses
selection-returns-clause-parses t c = rw select_tree (select_read c.requires.word c.in-Ok.ensures.parses
    (rw (c.in-Ok-pushed.ensures.ok, c.make-alts.ensures) at c.in-Ok-more_alternatives.ensures.parses) (word_there c.in-Ok-expect.ensures.ok))

pub more_alternatives-returns-in-Err-clause-parses : goal.more_alternatives-returns-in-Err-clause-parses
more_alternatives-returns-in-Err-clause-parses t c = passed_on (λ u R. c.alternatives.invariant.2 _ (alt_refused (c.alternatives-test.ensures.yes (search rules)) R)) _ c.in-Err.ensures.parses

pub more_alternatives-alternatives-preserved : goal.more_alternatives-alternatives-preserved
more_alternatives-alternatives-preserved t c = (
  omega (arith, c.in-Ok.ensures.next),
  omega (arith, c.in-Ok.ensures.next),
  λ o R. c.alternatives.invariant.2 _
      (alt_read _ o (c.alternatives-test.ensures.yes (search rules)) c.in-Ok.ensures.parses (rw (c.in-Ok-pushed.ensures.ok, alternatives-last) at R)),
)

pub more_alternatives-returns-clause-parses : goal.more_alternatives-returns-clause-parses
more_alternatives-returns-clause-parses t c = c.alternatives.invariant.2 _ (alts_end (c.alternatives-test.ensures.no (search rules)))

pub alternative-returns-in-Err-clause-parses : goal.alternative-returns-in-Err-clause-parses
alternative-returns-in-Err-clause-parses t c = unexpected _ _ _ _ _ _ c.in-Err.ensures.err.0 (when_missing c.in-Err.ensures.err.1)

pub alternative-returns-in-Err-grouped-clause-parses : goal.alternative-returns-in-Err-grouped-clause-parses
alternative-returns-in-Err-grouped-clause-parses t c = passed_on (λ u. guard_refused c.in-Ok.ensures.ok) _ c.in-Err-grouped.ensures.parses

pub alternative-returns-in-Err-answer_list-clause-parses : goal.alternative-returns-in-Err-answer_list-clause-parses
alternative-returns-in-Err-answer_list-clause-parses t c = passed_on (λ u R. guard_read _ c.in-Ok.ensures.ok c.in-Ok-grouped.ensures.parses (answers_refused (c.is_at.ensures.yes (search rules)) R)) _ c.in-Err-answer_list.ensures.parses

pub alternative-returns-in-Ok-answer_list-clause-parses : goal.alternative-returns-in-Ok-answer_list-clause-parses
alternative-returns-in-Ok-answer_list-clause-parses t c = relay _ _ _ _ _ _ _ alternative_of alternative_of
    (λ x k R. guard_read _ c.in-Ok.ensures.ok c.in-Ok-grouped.ensures.parses (answers_read _ (c.is_at.ensures.yes (search rules)) c.in-Ok-answer_list.ensures.parses R))
    (λ u R. guard_read _ c.in-Ok.ensures.ok c.in-Ok-grouped.ensures.parses (answers_read _ (c.is_at.ensures.yes (search rules)) c.in-Ok-answer_list.ensures.parses R)) _ c.work.ensures.parses

pub alternative-returns-else-is_at-clause-parses : goal.alternative-returns-else-is_at-clause-parses
alternative-returns-else-is_at-clause-parses t c = relay _ _ _ _ _ _ _ alternative_of alternative_of
    (λ x k R. guard_read _ c.in-Ok.ensures.ok c.in-Ok-grouped.ensures.parses (no_answers _ (c.is_at.ensures.no (search rules)) R))
    (λ u R. guard_read _ c.in-Ok.ensures.ok c.in-Ok-grouped.ensures.parses (no_answers _ (c.is_at.ensures.no (search rules)) R)) _ c.work-else-is_at.ensures.parses

pub work-returns-in-Err-clause-parses : goal.work-returns-in-Err-clause-parses
work-returns-in-Err-clause-parses t c = unexpected _ _ _ _ _ _ c.in-Err.ensures.err.0 (word_missing c.in-Err.ensures.err.1)

pub work-returns-in-Err-statements-clause-parses : goal.work-returns-in-Err-statements-clause-parses
work-returns-in-Err-statements-clause-parses t c = passed_on (λ u. work_read (refused u) c.in-Ok.ensures.ok) _ c.in-Err-statements.ensures.parses

pub work-returns-clause-parses : goal.work-returns-clause-parses
work-returns-clause-parses t c = work_read (read _ _) c.in-Ok.ensures.ok c.in-Ok-statements.ensures.parses

pub statements-returns-then-not-begins_statement-clause-parses : goal.statements-returns-then-not-begins_statement-clause-parses
statements-returns-then-not-begins_statement-clause-parses t c = rw c.make.ensures (stmts_empty c.peek.ensures (sym c.if-not-begins_statement.ensures))

pub statements-returns-in-Err-clause-parses : goal.statements-returns-in-Err-clause-parses
statements-returns-in-Err-clause-parses t c = passed_on (λ u. stmts_refused c.peek.ensures (search rules)) _ c.in-Err.ensures.parses

pub statements-statements-init : goal.statements-statements-init
statements-statements-init t c = (
  omega (arith, c.in-Ok.ensures.next),
  omega (arith, c.in-Ok.ensures.next),
  λ o R. stmts_read o c.peek.ensures (search rules) c.in-Ok.ensures.parses (rw (c.in-Ok-pushed.ensures.ok, c.make-list.ensures) at R),
)

pub statements-returns-in-Err-statement-clause-parses : goal.statements-returns-in-Err-statement-clause-parses
statements-returns-in-Err-statement-clause-parses t c = passed_on (λ u R. c.statements.invariant.2 _ (statement_refused (c.statements-test.ensures.yes (search rules)) R)) _ c.in-Err-statement.ensures.parses

pub statements-statements-preserved : goal.statements-statements-preserved
statements-statements-preserved t c = (
  omega (arith, c.in-Ok-statement.ensures.next),
  omega (arith, c.in-Ok-statement.ensures.next),
  λ o R. c.statements.invariant.2 _
      (statement_read _ (c.statements-test.ensures.yes (search rules)) c.in-Ok-statement.ensures.parses (rw (c.in-Ok-pushed-2.ensures.ok, statements-last) at R)),
)

pub statements-returns-clause-parses : goal.statements-returns-clause-parses
statements-returns-clause-parses t c = c.statements.invariant.2 _ (statements_end (c.statements-test.ensures.no (search rules)))
