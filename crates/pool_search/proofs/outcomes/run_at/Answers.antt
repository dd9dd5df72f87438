use Rattle.std.proofs.Common.{◌≡◌, ◌≤◌, ℕ, Result, Ok, Err, subst, arith}
use Rattle.std.specs.Prelude.{IfOk, IfSome}
use Rattle.std.specs.declared.alloc.AllocError.{AllocError}
use Rattle.pool_syntax.specs.Terms.{ProgramTree}
use Rattle.pool_syntax.specs.TreeOf.{program_of}
use Rattle.pool_search.specs.FoundOutcomes.{IsNoRun, IsShownRun}
use Rattle.pool_search.specs.declared.outcomes.OutcomeRun.{OutcomeRun}
use Rattle.pool_search.specs.declared.outcomes.OutcomeRun.TheVariants as R
use Rattle.pool_search.proofs.outcomes.run_at.Goals as goal

pub returns-then-whole-clause-finite : goal.returns-then-whole-clause-finite
returns-then-whole-clause-finite c = λ k e. (c.args.ends.now.list.items, c.requires c.if-whole.true, omega (arith, c.if-len-place.true, c.len.ensures))

pub returns-then-whole-clause-within : goal.returns-then-whole-clause-within
returns-then-whole-clause-within c = λ k told. let same : c.count.result ≡ k = cc in omega (arith, c.count.ensures, same)

-- a result without a run is within the bound
within : (most : ℕ) (r : Result OutcomeRun AllocError) → IfOk r (IsNoRun most) → IfOk r (λ o. (k : ℕ) → o ≡ R.Finite k → k ≤ most)
within most (Err e) h = h
within most (Ok (R.Shown o ls)) h = absurd h
within most (Ok (R.Finite n)) h = absurd h
within most (Ok (R.Over n why)) h = λ k told. absurd (let z : ⊥ = cc in z)

pub returns-then-len-place-clause-within : goal.returns-then-len-place-clause-within
returns-then-len-place-clause-within c = within c.args.most c.no_run.result c.no_run.ensures

pub returns-in_default-clause-within : goal.returns-in_default-clause-within
returns-in_default-clause-within c = within c.args.most c.no_run-in_default.result c.no_run-in_default.ensures

pub returns-in-Ok-None-clause-within : goal.returns-in-Ok-None-clause-within
returns-in-Ok-None-clause-within c = within c.args.most c.no_run-in-Ok-None.result c.no_run-in-Ok-None.ensures

-- a shown run is no other result
not_finite : (p : ProgramTree) (r : OutcomeRun) (k : ℕ) → IsShownRun p r → r ≡ R.Finite k → ⊥
not_finite p r k h e = subst (IsShownRun p) e h

pub returns-in-Ok-Some-clause-within : goal.returns-in-Ok-Some-clause-within
returns-in-Ok-Some-clause-within c = λ k told.
    let p = program_of c.args.program.now.program.now in
    absurd (not_finite p c.in-Ok-Some.run' k (subst (λ o. IfSome o (IsShownRun p)) c.in-Ok-Some.field-0-is c.in-Ok-Some.ensures) told)
