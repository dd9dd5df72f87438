-- The conclusions about one event and about an idle line, for terms.
use Rattle.std.specs.Prelude.{Option, Some, None, ◌≡◌, List}
use Rattle.pool_relation.specs.Action.{Object}
use Rattle.pool_relation.specs.Configuration.{Configuration}
use Rattle.mesh_semantics.specs.Config.{Config}
use Rattle.mesh_of_terms.specs.Terms.{plain, terms}
use Rattle.pool_syntax.specs.Terms.{ProgramTree}
use Rattle.run_types.specs.declared.types.Event.{Event}
use Rattle.run_types.specs.declared.types.Line.{Line}
use Rattle.run_types.specs.declared.types.Placement.{Placement}
use Rattle.pool_relation.specs.Transition.{run}
use Rattle.mesh_semantics.specs.Delay.{Delay}
use Rattle.mesh_semantics.specs.Record.{labels, shown}
use Rattle.mesh_semantics.specs.Sound.{IsSound}
use Rattle.mesh_of_terms.specs.TypedTerms.{TypedTerms}
use Rattle.mesh_semantics.specs.MadeLines.{FindsNothing}
use Rattle.mesh_semantics.specs.Act.{Acted, Acts, Full, Nothing}

-- the configuration of the relation, if there is one
abbrev pub as_plain : Option (Config Object) → Option Configuration
as_plain None = None
as_plain (Some c) = Some (plain c)

-- an idle line was made at a sound configuration with nothing to do for its event
pub record IsIdleAt (p : ProgramTree) (l : Placement) (c : Configuration) (before : List Line) (e : Event) : Type 0 where
  pub config : Config Object
  pub delay : Delay
  pub leads : run p c (labels before) ≡ Some (plain config)
  pub sound : IsSound (terms p) (TypedTerms p) l config delay
  pub nothing : FindsNothing (terms p) config delay e

-- the act of an event of a sound configuration has a line or a limit; the labels of the line are a run to the
-- configuration after it, which is sound
abbrev pub AfterEvent : ProgramTree → Placement → Config Object → Acted Object → Type 0
AfterEvent p l c (Acts what e f) = (run p (plain c) (shown what) ≡ Some (plain e)) × IsSound (terms p) (TypedTerms p) l e f
AfterEvent p l c (Full kind node) = Unit {0}
AfterEvent p l c Nothing = ⊥
