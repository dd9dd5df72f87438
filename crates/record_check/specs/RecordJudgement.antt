-- When a record is a run of a program, and which verdict it has, in terms of the transition relation.
-- The author of the record does not matter. The labels and the `quiet` end count, and delays do not.
use Rattle.std.specs.Prelude.{◌≡◌, ℕ, ◌<◌, List, [], ◌∷◌, ◌++◌, replicate, Some, None, true}
use Rattle.pool_syntax.specs.Terms.{ProgramTree}
use Rattle.run_types.specs.declared.types.Label.{Label}
use Rattle.run_types.specs.declared.types.What.TheVariants as W
use Rattle.run_types.specs.declared.types.Event.{Event}
use Rattle.run_types.specs.declared.types.Line.{Line}
use Rattle.run_types.specs.declared.types.Line.TheVariants as R
use Rattle.pool_relation.specs.Configuration.{Configuration}
use Rattle.pool_relation.specs.Progress.{agent, HasOwnTransition}
use Rattle.pool_relation.specs.Transition.{transition, run, start}
use Rattle.mesh_semantics.specs.Record.{labels, ends_quiet}
use Rattle.pool_semantics.specs.Shown.{Shows}
use Rattle.run_types.specs.declared.verdicts.Verdict.{Verdict}
use Rattle.run_types.specs.declared.verdicts.Verdict.TheVariants as V

-- the object of the first label, or 0 if there is no label
abbrev pub first_agent : List Label → ℕ
first_agent [] = 0
first_agent (l ∷ ls) = agent l

-- the name of the root: the object of the first label of the lines
abbrev pub root : List Line → ℕ
root ls = first_agent (labels ls)

-- the labels of the lines lead from the start to d
pub record LeadsTo (p : ProgramTree) (ls : List Line) (d : Configuration) : Type 0 where
  pub from : Configuration
  pub starts : start p (root ls) ≡ Some from
  pub leads : run p from (labels ls) ≡ Some d

-- the record is a run of the program: its labels lead to a
-- configuration, and if its end is quiet, no label is possible there
pub record IsRunOf (p : ProgramTree) (ls : List Line) : Type 0 where
  pub last : Configuration
  pub run_to : LeadsTo p ls last
  pub rests : ends_quiet ls ≡ true → (lab : Label) → transition p last lab ≡ None

-- The line of this number shows an impossible transition.
-- All labels of the lines before it are possible, and so are the first `made` transitions of this line.
pub record StopsAt (p : ProgramTree) (ls : List Line) (number : ℕ) (d : Configuration) (lab : Label) : Type 0 where
  pub before : List Line
  pub behind : List Line
  pub event : Event
  pub made : ℕ
  pub times : ℕ
  pub whole : ls ≡ before ++ R.Event number event (W.Step lab times) ∷ behind
  pub fewer : made < times
  pub from : Configuration
  pub starts : start p (root ls) ≡ Some from
  pub leads : run p from (labels before ++ replicate made lab) ≡ Some d
  pub impossible : transition p d lab ≡ None

-- all labels are possible and the end is quiet, but an object can make a transition; this is the least such object
pub record StillMoves (p : ProgramTree) (ls : List Line) (o : ℕ) : Type 0 where
  pub last : Configuration
  pub run_to : LeadsTo p ls last
  pub quiet : ends_quiet ls ≡ true
  pub can : HasOwnTransition p last o
  pub least : (q : ℕ) → q < o → HasOwnTransition p last q → ⊥

-- the verdict is correct for the record
abbrev pub Judged : ProgramTree → List Line → Verdict → Type 0
Judged p ls V.Yes = IsRunOf p ls
Judged p ls (V.No number redex) = (d : Configuration) × (lab : Label) × StopsAt p ls number d lab × Shows p d (agent lab) redex
Judged p ls (V.Moving o) = StillMoves p ls o
