use Rattle.std.proofs.Common.{sym, ap, ◌∙◌, ◌<◌, ◌++◌, codes, length, rules}
use Rattle.pool_syntax.specs.Terms as T
use Rattle.pool_syntax.specs.TreeOf.{expression_of, statements_of}
use Rattle.term_text.specs.Words.{statement_text, statements_text, word}
use Rattle.term_text.proofs.Laws.{on_ok, then}
use Rattle.stepper_text.proofs.Again.{body_long}
use Rattle.stepper_text.proofs.redex.push_again.Goals as goal

pub returns-in-Ok-push_word : goal.returns-in-Ok-push_word
returns-in-Ok-push_word c =
    let names = c.args.names.now in
    let base = c.args.text.now.items in
    let e = expression_of c.args.cond.now in
    let ss = c.args.body.now in
    let more : 0 < length ss = search rules in
    let body = statements_text names (statements_of ss) in
    let loop = statement_text names (T.While e (statements_of ss)) in
    let one = c.push_statements.new.text.items in
    let two = c.push_word.new.text.items in
    on_ok c.push_loop-in-Some.result
    (λ q.
    then base body (word (codes ";") ++ loop) one _ c.in-Ok.ensures
    (then one (word (codes ";")) loop two _ c.in-Ok-push_word.ensures q)
    ∙ ap (λ t. base ++ t) (sym (body_long names e ss more)))
    c.push_loop-in-Some.ensures
