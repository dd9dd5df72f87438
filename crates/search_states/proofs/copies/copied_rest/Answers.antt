use Rattle.std.proofs.Common.{refl, ap, ◌∙◌, ◌+◌, ◌++◌, drop, arith}
use Rattle.pool_syntax.specs.Terms.{append}
use Rattle.stepper_terms.specs.Parts.{left, segment}
use Rattle.search_states.proofs.Folds.{copied_more}
use Rattle.search_states.proofs.copies.copied_rest.Goals as goal

pub loop-part-preserved : goal.loop-part-preserved
loop-part-preserved c =
    let i = c.loop-part.part-index in
    ap (λ l. left (l ++ drop (i + 1) c.args.rest.now)) c.in_ok-push.ensures.items
    ∙ copied_more left segment (λ s b. append b s) (λ g gs. refl) c.args.rest.now c.loop-part.copied.items i c.part-item.result c.copied_segment.result (omega arith)
    c.part-item.is c.copied_segment.ensures c.loop-part.invariant
