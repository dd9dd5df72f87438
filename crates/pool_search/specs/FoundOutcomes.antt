-- The outcomes that a search has found so far.
use Rattle.std.specs.Prelude.{◌≡◌, ◌⊎◌, ℕ, List, [], ◌∷◌}
use Rattle.std.specs.Global.{Global}
use Rattle.std.specs.declared.vec.Vec.{Vec}
use Rattle.run_types.specs.declared.types.Item.{Item}
use Rattle.pool_syntax.specs.Terms.{ProgramTree}
use Rattle.reachability.specs.Search.{IsAtEnd}
use Rattle.search_laws.specs.Outcomes.{Passed}
use Rattle.pool_search.specs.declared.outcomes.EndKind.{EndKind}
use Rattle.pool_search.specs.declared.outcomes.Outcome.{Outcome}
use Rattle.pool_search.specs.declared.outcomes.OutcomeRun.{OutcomeRun}
use Rattle.pool_search.specs.declared.outcomes.OutcomeRun.TheVariants as R
use Rattle.pool_search.specs.CutOff.{IsCutOff}
use Rattle.pool_search.specs.OutcomeTargets.{HasOutcome, IsRunInOrder}

abbrev pub outcome : EndKind → Vec Item Global → Outcome
outcome k w = record { kind = k; items = w }

-- the list has an outcome of this kind with these items
abbrev pub HasOne : EndKind → List Item → List Outcome → Type 0
HasOne k w [] = ⊥
HasOne k w (o ∷ os) = ((o.kind ≡ k) × (o.items.items ≡ w)) ⊎ HasOne k w os

-- if the entry is an end, one of the outcomes is that of this end
abbrev pub IsNoted : ProgramTree → List Outcome → Passed → Type 0
IsNoted p os e = IsAtEnd p e.configuration → HasOutcome p os e.items e.configuration

-- the result is a run with its outcome
abbrev pub IsShownRun : ProgramTree → OutcomeRun → Type 0
IsShownRun p (R.Shown o ls) = IsRunInOrder p o ls
IsShownRun p (R.Finite k) = ⊥
IsShownRun p (R.Over k why) = ⊥

-- no run is known, after a search with this bound
abbrev pub IsNoRun : ℕ → OutcomeRun → Type 0
IsNoRun most (R.Shown o ls) = ⊥
IsNoRun most (R.Finite k) = ⊥
IsNoRun most (R.Over k why) = IsCutOff most k why
