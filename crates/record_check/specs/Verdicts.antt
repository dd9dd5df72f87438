-- How far the labels of lines are possible from a configuration, in terms of the transition relation.
use Rattle.std.specs.Prelude.{◌≡◌, ℕ, ◌<◌, List, ◌∷◌, ◌++◌, replicate, Some, None}
use Rattle.pool_syntax.specs.Terms.{ProgramTree}
use Rattle.run_types.specs.declared.types.Label.{Label}
use Rattle.run_types.specs.declared.types.What.TheVariants as W
use Rattle.run_types.specs.declared.types.Event.{Event}
use Rattle.run_types.specs.declared.types.Line.{Line}
use Rattle.run_types.specs.declared.types.Line.TheVariants as R
use Rattle.pool_relation.specs.Configuration.{Configuration}
use Rattle.pool_relation.specs.Progress.{agent}
use Rattle.pool_relation.specs.Transition.{transition, run}
use Rattle.mesh_semantics.specs.Record.{labels}
use Rattle.pool_semantics.specs.Shown.{Shows}
use Rattle.run_types.specs.declared.verdicts.Redex.{Redex}

-- fewer than `times` transitions of the label lead from c to d; there it is impossible, and its object has this redex
pub record StopsAfter (p : ProgramTree) (c : Configuration) (lab : Label) (times : ℕ) (d : Configuration) (redex : Redex) : Type 0 where
  pub made : ℕ
  pub fewer : made < times
  pub leads : run p c (replicate made lab) ≡ Some d
  pub impossible : transition p d lab ≡ None
  pub shows : Shows p d (agent lab) redex

-- this line shows the impossible transition; earlier transitions of the same line may be possible
pub record StopsLine (p : ProgramTree) (c : Configuration) (l : Line) (number : ℕ) (d : Configuration) (redex : Redex) : Type 0 where
  pub event : Event
  pub label : Label
  pub times : ℕ
  pub is : l ≡ R.Event number event (W.Step label times)
  pub stops : StopsAfter p c label times d redex

-- the lines lead from c to d, up to an impossible transition in the line of this number
pub record StopsIn (p : ProgramTree) (c : Configuration) (ls : List Line) (number : ℕ) (d : Configuration) (redex : Redex) : Type 0 where
  pub before : List Line
  pub line : Line
  pub behind : List Line
  pub whole : ls ≡ before ++ line ∷ behind
  pub between : Configuration
  pub leads : run p c (labels before) ≡ Some between
  pub stops : StopsLine p between line number d redex
