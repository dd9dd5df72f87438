use Rattle.std.proofs.Common.{refl, ap, ◌∙◌, ◌+◌, ◌++◌, drop, arith}
use Rattle.stepper_terms.specs.Parts.{nested, placed}
use Rattle.search_states.proofs.Folds.{copied_more, everywhere}
use Rattle.search_states.proofs.copies.copied_places.Goals as goal

pub loop-place-preserved : goal.loop-place-preserved
loop-place-preserved c = λ e.
    let i = c.loop-place.place-index in
    ap (λ l. nested (l ++ drop (i + 1) c.args.places.now) e) c.in_ok-push.ensures.items
    ∙ copied_more (λ ks. nested ks e) placed (λ h b. h b) (λ k ks. refl) c.args.places.now c.loop-place.copied.items i c.place-item.result c.in-Ok.one (omega arith)
    c.place-item.is (everywhere c.in-Ok.ensures) (c.loop-place.invariant e)
