use Rattle.std.proofs.Common.{refl}
use Rattle.expression_parser.proofs.Laws.{passed_on, unexpected, reads_inner, reads_refused, clear_any, sign_read, word_read, word_there, word_missing}
use Rattle.statement_parser.proofs.Laws.{ends_statements}
use Rattle.pool_parser.proofs.DeclarationRules.{ends_locals, after_value, ends_post}
use Rattle.pool_parser.proofs.declarations.with_result.Goals as goal

pub returns-in-Err-clause-parses : goal.returns-in-Err-clause-parses
returns-in-Err-clause-parses c = passed_on (λ u R. sign_read c.requires.colon (reads_refused R (λ z. clear_any (λ t u. u)))) _ c.in-Err.ensures.parses

pub returns-in-Err-locals-clause-parses : goal.returns-in-Err-locals-clause-parses
returns-in-Err-locals-clause-parses c = passed_on (λ u R. sign_read c.requires.colon (reads_inner c.in-Ok.ensures.parses (λ z. clear_any (λ t u. u)) (reads_refused R (λ z. ends_locals)))) _ c.in-Err-locals.ensures.parses

pub returns-in-Err-expect-clause-parses : goal.returns-in-Err-expect-clause-parses
returns-in-Err-expect-clause-parses c = unexpected _ _ _ _ _ _ c.in-Err-expect.ensures.err.0 (sign_read c.requires.colon (reads_inner c.in-Ok.ensures.parses (λ z. clear_any (λ t u. u)) (reads_inner c.in-Ok-locals.ensures.parses (λ z. ends_locals) (word_missing c.in-Err-expect.ensures.err.1))))

pub returns-in-Err-statements-clause-parses : goal.returns-in-Err-statements-clause-parses
returns-in-Err-statements-clause-parses c = passed_on (λ u R. sign_read c.requires.colon (reads_inner c.in-Ok.ensures.parses (λ z. clear_any (λ t u. u)) (reads_inner c.in-Ok-locals.ensures.parses (λ z. ends_locals) (word_read c.in-Ok-expect.ensures.ok (reads_refused R (λ z. ends_statements refl refl)))))) _ c.in-Err-statements.ensures.parses

pub returns-in-Err-expect-2-clause-parses : goal.returns-in-Err-expect-2-clause-parses
returns-in-Err-expect-2-clause-parses c = unexpected _ _ _ _ _ _ c.in-Err-expect-2.ensures.err.0 (sign_read c.requires.colon (reads_inner c.in-Ok.ensures.parses (λ z. clear_any (λ t u. u)) (reads_inner c.in-Ok-locals.ensures.parses (λ z. ends_locals) (word_read c.in-Ok-expect.ensures.ok
    (reads_inner c.in-Ok-statements.ensures.parses (λ z. ends_statements refl refl) (word_missing c.in-Err-expect-2.ensures.err.1))))))

pub returns-in-Err-grouped-clause-parses : goal.returns-in-Err-grouped-clause-parses
returns-in-Err-grouped-clause-parses c = passed_on (λ u R. sign_read c.requires.colon (reads_inner c.in-Ok.ensures.parses (λ z. clear_any (λ t u. u)) (reads_inner c.in-Ok-locals.ensures.parses (λ z. ends_locals) (word_read c.in-Ok-expect.ensures.ok
    (reads_inner c.in-Ok-statements.ensures.parses (λ z. ends_statements refl refl) (word_read c.in-Ok-expect-2.ensures.ok (reads_refused R (λ z. after_value)))))))) _ c.in-Err-grouped.ensures.parses

pub returns-in-Err-post-clause-parses : goal.returns-in-Err-post-clause-parses
returns-in-Err-post-clause-parses c = passed_on (λ u R. sign_read c.requires.colon (reads_inner c.in-Ok.ensures.parses (λ z. clear_any (λ t u. u)) (reads_inner c.in-Ok-locals.ensures.parses (λ z. ends_locals) (word_read c.in-Ok-expect.ensures.ok
    (reads_inner c.in-Ok-statements.ensures.parses (λ z. ends_statements refl refl) (word_read c.in-Ok-expect-2.ensures.ok (reads_inner c.in-Ok-grouped.ensures.parses (λ z. after_value) (reads_refused R (λ z. ends_post))))))))) _ c.in-Err-post.ensures.parses

pub returns-in-Err-expect-3-clause-parses : goal.returns-in-Err-expect-3-clause-parses
returns-in-Err-expect-3-clause-parses c = unexpected _ _ _ _ _ _ c.in-Err-expect-3.ensures.err.0 (sign_read c.requires.colon (reads_inner c.in-Ok.ensures.parses (λ z. clear_any (λ t u. u)) (reads_inner c.in-Ok-locals.ensures.parses (λ z. ends_locals) (word_read c.in-Ok-expect.ensures.ok
    (reads_inner c.in-Ok-statements.ensures.parses (λ z. ends_statements refl refl) (word_read c.in-Ok-expect-2.ensures.ok (reads_inner c.in-Ok-grouped.ensures.parses (λ z. after_value) (reads_inner c.in-Ok-post.ensures.parses (λ z. ends_post) (word_missing c.in-Err-expect-3.ensures.err.1)))))))))

pub returns-clause-parses : goal.returns-clause-parses
returns-clause-parses c = sign_read c.requires.colon (reads_inner c.in-Ok.ensures.parses (λ z. clear_any (λ t u. u)) (reads_inner c.in-Ok-locals.ensures.parses (λ z. ends_locals) (word_read c.in-Ok-expect.ensures.ok
    (reads_inner c.in-Ok-statements.ensures.parses (λ z. ends_statements refl refl) (word_read c.in-Ok-expect-2.ensures.ok (reads_inner c.in-Ok-grouped.ensures.parses (λ z. after_value) (reads_inner c.in-Ok-post.ensures.parses (λ z. ends_post) (word_there c.in-Ok-expect-3.ensures.ok))))))))
