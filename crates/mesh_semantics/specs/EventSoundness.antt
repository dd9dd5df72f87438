-- The conclusions about an event and about a record: the labels lead to the configuration after it, which is sound.
use Rattle.std.specs.Prelude.{◌≡◌, Some, None, true}
use Rattle.run_types.specs.declared.types.Label.{Label}
use Rattle.run_types.specs.declared.types.Placement.{Placement}
use Rattle.mesh_semantics.specs.Language.{Language}
use Rattle.mesh_semantics.specs.Config.{Config}
use Rattle.mesh_semantics.specs.Moves.{move, moves}
use Rattle.mesh_semantics.specs.Act.{Acted, Acts, Full, Nothing}
use Rattle.mesh_semantics.specs.Record.{Record, EndsOnce, shown, labels, ends_quiet}
use Rattle.mesh_semantics.specs.Sound.{IsSound}

-- the act of an event of a sound configuration has a line or a limit; the labels of the line lead to the configuration
-- after it, which is sound
abbrev pub After : {S : Type 0} → Language S → (Config S → Type 0) → Placement → Config S → Acted S → Type 0
After g W l c (Acts what e f) = (moves g c (shown what) ≡ Some e) × IsSound g W l e f
After g W l c (Full kind node) = Unit {0}
After g W l c Nothing = ⊥

-- a record of a run from c: event lines and then one end line; its labels lead to its last configuration, which is
-- sound with its delay; if it ends quiet, no label is possible there
pub record ShowsRun {S : Type 0} (g : Language S) (W : Config S → Type 0) (l : Placement) (c : Config S) (r : Record S) : Type 0 where
  pub lines : EndsOnce r.lines
  pub leads : moves g c (labels r.lines) ≡ Some r.last
  pub sound : IsSound g W l r.last r.delay
  pub rests : ends_quiet r.lines ≡ true → (lab : Label) → move g r.last lab ≡ None
