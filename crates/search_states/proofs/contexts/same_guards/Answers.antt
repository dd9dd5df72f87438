use Rattle.std.proofs.Common.{◌≡◌, refl, [], ◌∷◌, true, arith}
use Rattle.std.proofs.lemmas.Grind.{common_steps}
use Rattle.stepper_terms.specs.Parts.{guarded}
use Rattle.search_states.specs.Equal.{EqualGuard}
use Rattle.search_states.proofs.Folds.{rests_same, everywhere}
use Rattle.search_states.proofs.PairwiseLists.{as_many, pair_read}
use Rattle.search_states.proofs.contexts.same_guards.Goals as goal

pub loop-i-preserved : goal.loop-i-preserved
loop-i-preserved c = λ rest.
    let here : c.same_guard.result ≡ true = grind (arith, common_steps) in
    c.loop-i.invariant (λ alts.
    rests_same (λ gs. guarded gs alts) (λ g. guarded (g ∷ [])) (λ h b. h b) (λ g gs. refl) c.args.left.now c.args.right.now c.loop-i.i c.index-left-i.result c.index-right-i.result
    (omega arith) (omega arith) c.index-left-i.is c.index-right-i.is (everywhere (c.same_guard.ensures.same here)) (rest alts))

pub returns-then-left-right-clause-different : goal.returns-then-left-right-clause-different
returns-then-left-right-clause-different c = λ p.
    let l = as_many EqualGuard _ _ p in
    grind (arith, common_steps)

pub returns-then-not-same_guard-clause-different : goal.returns-then-not-same_guard-clause-different
returns-then-not-same_guard-clause-different c = λ p.
    let s = c.same_guard.ensures.different (pair_read EqualGuard _ _ c.loop-i.i _ _ (omega arith) c.index-left-i.is c.index-right-i.is p) in
    grind (arith, common_steps)
