use Rattle.std.proofs.Common.{arith, rules, sym}
use Rattle.expression_parser.specs.Reads.{read, refused}
use Rattle.expression_parser.proofs.Exits.{passed_on, unexpected}
use Rattle.expression_parser.proofs.Invocation.{invoke_postfix}
use Rattle.expression_parser.proofs.ParserTokens.{seen_within}
use Rattle.expression_parser.proofs.SingleTokens.{sign_there, sign_missing}
use Rattle.expression_parser.proofs.Levels.{grouped_read, grouped_refused, operator_read, operator_refused, operators_end}
use Rattle.expression_parser.proofs.Primaries.{comparison_one, comparison_two, comparison_refused, prefix_read, plain_read, literal_read, literal_not, variable_read, call_read, inside_read, inside_refused, primary_refused, other_begins_none, postfix_read, postfix_refused, postfix_alone, send_read, send_refused, send_missing, sends_end, call_invokes, send_invokes, not_invoke}
use Rattle.expression_parser.proofs.ArgumentLists.{args_missing, args_empty, args_read, args_refused, args_refused_later, arg_read, arg_refused, arg_end}
use Rattle.pool_syntax.proofs.Laws.{call_tree}
use Rattle.expression_parser.proofs.Lists.{expressions-last}
use Rattle.expression_parser.proofs.expressions.+expressions.Goals as goal

pub grouped-returns-in-Err-clause-parses : goal.grouped-returns-in-Err-clause-parses
grouped-returns-in-Err-clause-parses t c = passed_on (λ u. grouped_refused _) _ c.in-Err.ensures.parses

pub grouped-operands-init : goal.grouped-operands-init
grouped-operands-init t c = (omega (arith, c.in-Ok.ensures.next), omega (arith, c.in-Ok.ensures.next), λ o. grouped_read _ o c.in-Ok.ensures.parses)

pub grouped-returns-in-Err-operand-clause-parses : goal.grouped-returns-in-Err-operand-clause-parses
grouped-returns-in-Err-operand-clause-parses t c = passed_on (λ u R. c.operands.invariant.2 _ (operator_refused _ c.peek.ensures (sym c.in-Some.ensures.table) R)) _ c.in-Err-operand.ensures.parses

pub grouped-operands-preserved : goal.grouped-operands-preserved
grouped-operands-preserved t c = (
  omega (arith, c.in-Ok-operand.ensures.next),
  omega (arith, c.in-Ok-operand.ensures.next),
  λ o R. c.operands.invariant.2 _
      (operator_read _ _ c.peek.ensures (sym c.in-Some.ensures.table) c.in-Ok-operand.ensures.parses (rw c.in-Ok-binary.ensures.ok at R)),
)

pub grouped-returns-clause-parses : goal.grouped-returns-clause-parses
grouped-returns-clause-parses t c = c.operands.invariant.2 _ (operators_end _ c.peek.ensures (sym c.in_default.ensures.table))

pub comparison-returns-in-Err-clause-parses : goal.comparison-returns-in-Err-clause-parses
comparison-returns-in-Err-clause-parses t c = passed_on (λ u. comparison_refused) _ c.in-Err.ensures.parses

pub comparison-returns-in-Err-grouped-clause-parses : goal.comparison-returns-in-Err-grouped-clause-parses
comparison-returns-in-Err-grouped-clause-parses t c = passed_on (λ u R. comparison_two (refused u) c.in-Ok.ensures.parses c.peek.ensures (sym c.in-Some.ensures) R) _ c.in-Err-grouped.ensures.parses

pub comparison-returns-in-None-clause-parses : goal.comparison-returns-in-None-clause-parses
comparison-returns-in-None-clause-parses t c = comparison_one c.in-Ok.ensures.parses c.peek.ensures (sym c.in-None.ensures)

pub comparison-returns-in-Ok-binary-clause-parses : goal.comparison-returns-in-Ok-binary-clause-parses
comparison-returns-in-Ok-binary-clause-parses t c = rw c.in-Ok-binary.ensures.ok
    (comparison_two (read _ _) c.in-Ok.ensures.parses c.peek.ensures (sym c.in-Some.ensures) c.in-Ok-grouped.ensures.parses)

pub factor-returns-in-Err-clause-parses : goal.factor-returns-in-Err-clause-parses
factor-returns-in-Err-clause-parses t c = passed_on (λ u. plain_read (refused u) c.peek.ensures (sym c.in-None.ensures)) _ c.in-Err.ensures.parses

pub factor-returns-in-Err-factor-clause-parses : goal.factor-returns-in-Err-factor-clause-parses
factor-returns-in-Err-factor-clause-parses t c = passed_on (λ u R. prefix_read (refused u) c.peek.ensures (sym c.in-Some.ensures) R) _ c.in-Err-factor.ensures.parses

pub factor-returns-in-Ok-clause-parses : goal.factor-returns-in-Ok-clause-parses
factor-returns-in-Ok-clause-parses t c = plain_read (read _ _) c.peek.ensures (sym c.in-None.ensures) c.in-Ok.ensures.parses

pub factor-returns-in-Ok-unary-clause-parses : goal.factor-returns-in-Ok-unary-clause-parses
factor-returns-in-Ok-unary-clause-parses t c = rw c.in-Ok-unary.ensures.ok (prefix_read (read _ _) c.peek.ensures (sym c.in-Some.ensures) c.in-Ok-factor.ensures.parses)

pub arguments-returns-in-Err-clause-parses : goal.arguments-returns-in-Err-clause-parses
arguments-returns-in-Err-clause-parses t c = unexpected _ _ _ _ _ _ c.in-Err.ensures.err.0 (args_missing c.in-Err.ensures.err.1)

pub arguments-returns-then-is_at-clause-parses : goal.arguments-returns-then-is_at-clause-parses
arguments-returns-then-is_at-clause-parses t c = rw c.make.ensures (args_empty c.in-Ok.ensures.ok (c.is_at.ensures.yes (search rules)))

pub arguments-returns-in-Err-grouped-clause-parses : goal.arguments-returns-in-Err-grouped-clause-parses
arguments-returns-in-Err-grouped-clause-parses t c = passed_on (λ u. args_refused c.in-Ok.ensures.ok (c.is_at.ensures.no (search rules))) _ c.in-Err-grouped.ensures.parses

pub arguments-returns-in-Err-more_arguments-clause-parses : goal.arguments-returns-in-Err-more_arguments-clause-parses
arguments-returns-in-Err-more_arguments-clause-parses t c = passed_on (λ u R. args_refused_later c.in-Ok.ensures.ok (c.is_at.ensures.no (search rules)) c.in-Ok-grouped.ensures.parses (rw (c.in-Ok-pushed.ensures.ok, c.make-args.ensures) at R)) _ c.in-Err-more_arguments.ensures.parses

pub arguments-returns-in-Err-expect-clause-parses : goal.arguments-returns-in-Err-expect-clause-parses
arguments-returns-in-Err-expect-clause-parses t c = unexpected _ _ _ _ _ _ c.in-Err-expect.ensures.err.0 (args_read c.in-Ok.ensures.ok (c.is_at.ensures.no (search rules)) c.in-Ok-grouped.ensures.parses
    (rw (c.in-Ok-pushed.ensures.ok, c.make-args.ensures) at c.in-Ok-more_arguments.ensures.parses) (sign_missing c.in-Err-expect.ensures.err.1))

pub arguments-returns-clause-parses : goal.arguments-returns-clause-parses
arguments-returns-clause-parses t c = args_read c.in-Ok.ensures.ok (c.is_at.ensures.no (search rules)) c.in-Ok-grouped.ensures.parses
    (rw (c.in-Ok-pushed.ensures.ok, c.make-args.ensures) at c.in-Ok-more_arguments.ensures.parses) (sign_there c.in-Ok-expect.ensures.ok)

pub more_arguments-returns-in-Err-clause-parses : goal.more_arguments-returns-in-Err-clause-parses
more_arguments-returns-in-Err-clause-parses t c = passed_on (λ u R. c.arguments.invariant.2 _ (arg_refused (c.arguments-test.ensures.yes (search rules)) R)) _ c.in-Err.ensures.parses

pub more_arguments-arguments-preserved : goal.more_arguments-arguments-preserved
more_arguments-arguments-preserved t c = (
  omega (arith, c.in-Ok.ensures.next),
  omega (arith, c.in-Ok.ensures.next),
  λ o R. c.arguments.invariant.2 _ (arg_read _ (c.arguments-test.ensures.yes (search rules)) c.in-Ok.ensures.parses (rw (c.in-Ok-pushed.ensures.ok, expressions-last) at R)),
)

pub more_arguments-returns-clause-parses : goal.more_arguments-returns-clause-parses
more_arguments-returns-clause-parses t c = c.arguments.invariant.2 _ (arg_end (c.arguments-test.ensures.no (search rules)))

pub named-returns-in-Err-clause-parses : goal.named-returns-in-Err-clause-parses
named-returns-in-Err-clause-parses t c = passed_on (λ u R. call_read (refused u) c.requires.name (c.is_at.ensures.yes (search rules)) R) _ c.in-Err.ensures.parses

pub named-returns-in-Ok-clause-parses : goal.named-returns-in-Ok-clause-parses
named-returns-in-Ok-clause-parses t c = rw call_tree (call_read (read _ _) c.requires.name (c.is_at.ensures.yes (search rules)) c.in-Ok.ensures.parses)

pub named-returns-in-Ok-clause-invokes : goal.named-returns-in-Ok-clause-invokes
named-returns-in-Ok-clause-invokes t c = rw call_tree (call_invokes c.requires.name c.in-Ok.ensures.parses)

pub named-returns-else-is_at-clause-parses : goal.named-returns-else-is_at-clause-parses
named-returns-else-is_at-clause-parses t c = variable_read c.requires.name (c.is_at.ensures.no (search rules))

pub named-returns-else-is_at-clause-invokes : goal.named-returns-else-is_at-clause-invokes
named-returns-else-is_at-clause-invokes t c = not_invoke (λ n h. c.is_at.ensures.no (search rules)) (λ e. let n = c.requires.name in cc) (variable_read c.requires.name (c.is_at.ensures.no (search rules)))

pub parenthesized-returns-in-Err-clause-parses : goal.parenthesized-returns-in-Err-clause-parses
parenthesized-returns-in-Err-clause-parses t c = unexpected _ _ _ _ _ _ c.in-Err.ensures.err.0 (let w = seen_within _ _ c.requires.within in primary_refused w.1
    (other_begins_none w.0 _ (c.requires.no_literal w.0 w.1) (λ k e. c.requires.no_word k (rw e at w.1)) (λ n e. c.requires.no_name n (rw e at w.1)) (λ e. c.in-Err.ensures.err.1 (rw e at w.1))))

pub parenthesized-returns-in-Err-grouped-clause-parses : goal.parenthesized-returns-in-Err-grouped-clause-parses
parenthesized-returns-in-Err-grouped-clause-parses t c = passed_on (λ u. inside_refused c.in-Ok.ensures.ok) _ c.in-Err-grouped.ensures.parses

pub parenthesized-returns-in-Err-expect-clause-parses : goal.parenthesized-returns-in-Err-expect-clause-parses
parenthesized-returns-in-Err-expect-clause-parses t c = unexpected _ _ _ _ _ _ c.in-Err-expect.ensures.err.0 (inside_read c.in-Ok.ensures.ok c.in-Ok-grouped.ensures.parses (sign_missing c.in-Err-expect.ensures.err.1))

pub parenthesized-returns-clause-parses : goal.parenthesized-returns-clause-parses
parenthesized-returns-clause-parses t c = inside_read c.in-Ok.ensures.ok c.in-Ok-grouped.ensures.parses (sign_there c.in-Ok-expect.ensures.ok)

pub parenthesized-returns-clause-invokes : goal.parenthesized-returns-clause-invokes
parenthesized-returns-clause-invokes t c = not_invoke (λ n h. absurd (c.requires.no_name n h)) (λ e. c.requires.no_word _ e)
    (inside_read c.in-Ok.ensures.ok c.in-Ok-grouped.ensures.parses (sign_there c.in-Ok-expect.ensures.ok))

pub postfix-returns-in-Err-clause-parses : goal.postfix-returns-in-Err-clause-parses
postfix-returns-in-Err-clause-parses t c = passed_on (λ u. postfix_refused) _ c.in-Err.ensures.parses

pub postfix-sends-init : goal.postfix-sends-init
postfix-sends-init t c = (
  omega (arith, c.in-Ok.ensures.next),
  omega (arith, c.in-Ok.ensures.next),
  λ o. postfix_read o c.in-Ok.ensures.parses,
  postfix_alone c.in-Ok.ensures.parses,
  c.in-Ok.ensures.invokes,
)

pub postfix-returns-in-Err-expect_name-clause-parses : goal.postfix-returns-in-Err-expect_name-clause-parses
postfix-returns-in-Err-expect_name-clause-parses t c = unexpected _ _ _ _ _ _ c.in-Err-expect_name.ensures.err.0 (c.sends.invariant.2 _ (send_missing (c.sends-test.ensures.yes (search rules)) c.in-Err-expect_name.ensures.err.1))

pub postfix-returns-in-Err-arguments-clause-parses : goal.postfix-returns-in-Err-arguments-clause-parses
postfix-returns-in-Err-arguments-clause-parses t c = passed_on (λ u R. c.sends.invariant.2 _ (send_refused _ (c.sends-test.ensures.yes (search rules)) c.in-Ok-expect_name.ensures.ok R)) _ c.in-Err-arguments.ensures.parses

pub postfix-sends-preserved : goal.postfix-sends-preserved
postfix-sends-preserved t c =
    let d = send_invokes c.in-Ok-expect_name.read c.sends.invariant.3 (c.sends-test.ensures.yes (search rules)) c.in-Ok-expect_name.ensures.ok c.in-Ok-arguments.ensures.parses in (
      omega (arith, c.in-Ok-arguments.ensures.next),
      omega (arith, c.in-Ok-arguments.ensures.next),
      λ o R. c.sends.invariant.2 _
          (send_read o c.in-Ok-expect_name.read (c.sends-test.ensures.yes (search rules)) c.in-Ok-expect_name.ensures.ok c.in-Ok-arguments.ensures.parses (rw c.in-Ok-send.ensures.ok at R)),
      rw c.in-Ok-send.ensures.ok (invoke_postfix _ _ _ _ d),
      rw c.in-Ok-send.ensures.ok d,
    )

pub postfix-returns-clause-parses : goal.postfix-returns-clause-parses
postfix-returns-clause-parses t c = c.sends.invariant.2 _ (sends_end (c.sends-test.ensures.no (search rules)))

pub primary-returns-in-Some-clause-parses : goal.primary-returns-in-Some-clause-parses
primary-returns-in-Some-clause-parses t c = literal_read _ c.peek-token.ensures (sym c.in-Some.ensures)

pub primary-returns-in-Some-clause-invokes : goal.primary-returns-in-Some-clause-invokes
primary-returns-in-Some-clause-invokes t c = literal_not _ c.peek-token.ensures (sym c.in-Some.ensures)
