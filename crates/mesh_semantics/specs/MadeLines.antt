-- How a line of a record was made, over any language: by the act of its event, at a sound configuration to which the
-- lines before it lead.
use Rattle.std.specs.Prelude.{◌≡◌, ℕ, List, [], ◌∷◌, ◌++◌, Some}
use Rattle.run_types.specs.declared.types.Event.{Event}
use Rattle.run_types.specs.declared.types.Event.TheVariants as Ev
use Rattle.run_types.specs.declared.types.Label.{Label}
use Rattle.run_types.specs.declared.types.What.{What}
use Rattle.run_types.specs.declared.types.What.TheVariants.{Idle}
use Rattle.run_types.specs.declared.types.Line.{Line}
use Rattle.run_types.specs.declared.types.Line.TheVariants as R
use Rattle.run_types.specs.declared.types.Placement.{Placement}
use Rattle.mesh_semantics.specs.Language.{Language}
use Rattle.mesh_semantics.specs.Config.{Config}
use Rattle.mesh_semantics.specs.Moves.{moves}
use Rattle.mesh_semantics.specs.Delay.{Delay}
use Rattle.mesh_semantics.specs.Act.{Acts, act, ready_at}
use Rattle.mesh_semantics.specs.Record.{labels}
use Rattle.mesh_semantics.specs.Sound.{IsSound}
use Rattle.mesh_semantics.specs.Wired.{KeepsWires, NothingComes, NothingDone}

-- no object of the node is ready, nothing comes off the link, or nothing is to be done on the wire
abbrev pub FindsNothing : {S : Type 0} → Language S → Config S → Delay → Event → Type 0
FindsNothing g c d (Ev.Turn n) = ready_at g c d n ≡ []
FindsNothing g c d (Ev.Link a b) = NothingComes d.wires d (a, b)
FindsNothing g c d (Ev.Wire w a b) = NothingDone d.wires w (a, b)

-- the acts of the events of these lines, one after another, lead from c with its delay d to e with its delay f
abbrev pub ActsLead : {S : Type 0} → Language S → Placement → ℕ → Config S → Delay → List Line → Config S → Delay → Type 0
ActsLead g l q c d [] e f = (c ≡ e) × (d ≡ f)
ActsLead {S} g l q c d (R.Event number event what ∷ lines) e f =
    (next : Config S) × (later : Delay) × (act g l q c d event ≡ Acts what next later) × ActsLead g l q next later lines e f
ActsLead g l q c d (R.End end ∷ lines) e f = ⊥

-- the labels are a run of the language from c to e
abbrev pub LabelsLead : {S : Type 0} → Language S → Config S → List Label → Config S → Type 0
LabelsLead g c labs e = moves g c labs ≡ Some e

-- runs of the language g on the placement l, with turns of at most q local transitions; W is the property that is kept,
-- and Leads says of labels and a configuration that these labels lead there
module _ {S : Type 0} (g : Language S) (W : Config S → Type 0) (l : Placement) (q : ℕ) (Leads : List Label → Config S → Type 0) where
  -- How a line after the lines before was made, in a run from c with its delay d. The acts and the labels of the lines
  -- before lead to a sound configuration with its delay. The line is that of the act of its event there. If it is
  -- idle, nothing is to be done there.
  pub record IsMadeAt (c : Config S) (d : Delay) (before : List Line) (e : Event) (what : What) : Type 0 where
    pub config : Config S
    pub delay : Delay
    pub way : ActsLead g l q c d before config delay
    pub leads : Leads (labels before) config
    pub sound : IsSound g W l config delay
    pub wires : KeepsWires delay
    pub next : Config S
    pub later : Delay
    pub acts : act g l q config delay e ≡ Acts what next later
    pub idle : what ≡ Idle → FindsNothing g config delay e

  -- each event line of these was made so, where the lines before it lead
  abbrev pub AreMade : Config S → Delay → List Line → Type 0
  AreMade c d lines =
      (before behind : List Line) (number : ℕ) (e : Event) (what : What) → before ++ (R.Event number e what ∷ behind) ≡ lines → IsMadeAt c d before e what
