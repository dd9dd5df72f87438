use Rattle.std.proofs.Common.{◌≡◌, ◌∙◌, ap, sym, rules}
use Rattle.std.specs.Prelude.{true, false}
use Rattle.code_verifier.specs.Scopes.{scope_of}
use Rattle.code_verifier.specs.Spreads.{gone}
use Rattle.code_verifier.proofs.SpreadSteps.{begins}
use Rattle.code_verifier.proofs.SpreadTurns.{turned, turned_less, turned_out}
use Rattle.code_verifier.proofs.spread.spread_over.Goals as goal

pub loop-visit-init : goal.loop-visit-init
loop-visit-init c =
    (c.in_ok-spread.ensures.kept, begins (scope_of c.args.scope.now) c.args.code.now _ _ (search rules) c.in_ok-spread.ensures.visits)

pub returns-then-not-branch : goal.returns-then-not-branch
returns-then-not-branch c =
    let z = c.step.new.self in
    let b : c.in_ok-step.field-0 ≡ false = search rules in
    turned_out (scope_of c.args.scope.now) c.args.code.now c.loop-visit.spread c.take_next.new.self z c.in-Some.visit c.in-Some.ensures
    (sym (ap (λ k. gone k z) b) ∙ c.in_ok-step.ensures.step) c.loop-visit.invariant.1

pub loop-visit-smaller : goal.loop-visit-smaller
loop-visit-smaller c =
    let z = c.step.new.self in
    let b : c.in_ok-step.field-0 ≡ true = search rules in
    turned_less (scope_of c.args.scope.now) c.args.code.now c.loop-visit.spread c.take_next.new.self z c.in-Some.visit c.in-Some.ensures
    (sym (ap (λ k. gone k z) b) ∙ c.in_ok-step.ensures.step)

pub loop-visit-preserved : goal.loop-visit-preserved
loop-visit-preserved c =
    let z = c.step.new.self in
    let b : c.in_ok-step.field-0 ≡ true = search rules in (
      c.in_ok-step.ensures.kept,
      turned (scope_of c.args.scope.now) c.args.code.now c.loop-visit.spread c.take_next.new.self z c.in-Some.visit c.in-Some.ensures
          (sym (ap (λ k. gone k z) b) ∙ c.in_ok-step.ensures.step) c.loop-visit.invariant.1,
    )
