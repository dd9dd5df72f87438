-- Transitions that a search follows without keeping the configurations between, and whose labels are free.
use Rattle.std.specs.Prelude.{◌≡◌, Some, Bool, true}
use Rattle.run_types.specs.declared.types.Label.{Label}
use Rattle.pool_syntax.specs.Terms.{ProgramTree}
use Rattle.pool_relation.specs.Configuration.{Configuration}
use Rattle.pool_relation.specs.Transition.{transition}
use Rattle.reachability.specs.Search.{needs_no_choice}

-- any number of transitions that need no choice and have free labels, one after another
pub data SettlesFreely (p : ProgramTree) (free : Label → Bool) : Configuration → Configuration → Type 0 where
  AtRest : {c : Configuration} → SettlesFreely p free c c
  GoesFreely : {c d e : Configuration} (l : Label) → needs_no_choice l ≡ true → free l ≡ true → transition p c l ≡ Some d → SettlesFreely p free d e → SettlesFreely p free c e
