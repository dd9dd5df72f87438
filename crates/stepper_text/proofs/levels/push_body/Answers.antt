use Rattle.std.proofs.Common.{sym, ap, ◌∙◌, ◌++◌}
use Rattle.run_types.specs.declared.types.Value.TheVariants as V
use Rattle.pool_syntax.specs.TreeOf.{expression_of, statements_of}
use Rattle.term_text.specs.Words.{bare_text}
use Rattle.term_text.proofs.Laws.{on_ok, then}
use Rattle.stepper_text.specs.Inners.{body_text, done_text, later_text}
use Rattle.stepper_text.proofs.levels.push_body.Goals as goal

pub returns-in-Ok-push_done_value : goal.returns-in-Ok-push_done_value
returns-in-Ok-push_done_value c =
    let names = c.args.names.now in
    let base = c.args.text.now.items in
    let last = later_text names (statements_of c.args.last.now) in
    on_ok c.push_later-in-Over.result
    (λ e.
    then base (done_text V.Nil) last c.push_done_value-in-Over.new.text.items _ c.in-Ok-push_done_value.ensures e
    ∙ ap (λ i. base ++ body_text names (bare_text names (expression_of c.args.value.now)) (later_text names (statements_of c.args.post.now)) last i) (sym c.in-Over.is))
    c.push_later-in-Over.ensures
