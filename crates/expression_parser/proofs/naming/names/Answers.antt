use Rattle.std.proofs.Common.{◌+◌, ◌≤◌, length, arith, rules}
use Rattle.expression_parser.proofs.Exits.{unexpected}
use Rattle.expression_parser.proofs.NameLists.{names_read, names_missing, more_read, more_missing, names_end}
use Rattle.expression_parser.proofs.ParserTokens.{seen_ended}
use Rattle.expression_parser.proofs.naming.names.Goals as goal

pub returns-in-Err-clause-parses : goal.returns-in-Err-clause-parses
returns-in-Err-clause-parses c = unexpected _ _ _ _ _ _ c.in-Err.ensures.err.0 (names_missing c.in-Err.ensures.err.1)

pub names-init : goal.names-init
names-init c = (
  omega arith,
  seen_ended c.args.source.tokens.now _ _ c.in-Ok.ensures.ok.0 (λ e. cc),
  λ o R. names_read c.in-Ok.read o c.in-Ok.ensures.ok (rw (c.in-Ok-pushed.ensures.ok, c.make-list.ensures) at R),
)

pub returns-in-Err-expect_name-clause-parses : goal.returns-in-Err-expect_name-clause-parses
returns-in-Err-expect_name-clause-parses c = unexpected _ _ _ _ _ _ c.in-Err-expect_name.ensures.err.0 (c.names.invariant.2 _ (more_missing _ (c.names-test.ensures.yes (search rules)) c.in-Err-expect_name.ensures.err.1))

pub names-preserved : goal.names-preserved
names-preserved c = (
  omega arith,
  let l : c.names.next + 1 + 1 ≤ length c.args.source.tokens.now = seen_ended c.args.source.tokens.now _ _ c.in-Ok-expect_name.ensures.ok.0 (λ e. cc) in omega arith,
  λ o R. c.names.invariant.2 _
      (more_read _ c.in-Ok-expect_name.read o (c.names-test.ensures.yes (search rules)) c.in-Ok-expect_name.ensures.ok (rw c.in-Ok-pushed-2.ensures.ok at R)),
)

pub returns-clause-parses : goal.returns-clause-parses
returns-clause-parses c = c.names.invariant.2 _ (names_end _ (c.names-test.ensures.no (search rules)))
