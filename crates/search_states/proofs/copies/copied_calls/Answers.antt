use Rattle.std.proofs.Common.{◌≡◌, refl, sym, ap, ◌∙◌, ◌+◌, ◌++◌, drop, arith}
use Rattle.std.proofs.lemmas.Grind.{common_steps}
use Rattle.stepper_terms.specs.Parts.{layers, wrapped}
use Rattle.search_states.proofs.Folds.{copied_more, everywhere}
use Rattle.search_states.proofs.copies.copied_calls.Goals as goal

pub loop-call-preserved : goal.loop-call-preserved
loop-call-preserved c = λ z.
    let i = c.loop-call.call-index in
    ap (λ l. layers (l ++ drop (i + 1) c.args.calls.now) z) c.in_ok-push.ensures.items
    ∙ copied_more (λ l. layers l z) wrapped (λ h b. h b) (λ a l. refl) c.args.calls.now c.loop-call.copied.items i c.call-item.result c.in-Ok.one (omega arith)
    c.call-item.is (everywhere c.in-Ok.ensures) (c.loop-call.invariant z)

pub returns : goal.returns
returns c = λ z.
    let all : c.loop-call.copied.items ++ drop c.loop-call.call-index c.args.calls.now ≡ c.loop-call.copied.items = grind (arith, common_steps) in
    ap (λ l. layers l z) (sym all) ∙ c.loop-call.invariant z
