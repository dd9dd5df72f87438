-- How a line of a record of terms was made: by the act of its event, at a sound configuration to which the lines before
-- it lead.
use Rattle.std.specs.Prelude.{◌≡◌, ℕ, List, ◌∷◌, ◌++◌, Some}
use Rattle.pool_syntax.specs.Terms.{ProgramTree}
use Rattle.run_types.specs.declared.types.Event.{Event}
use Rattle.run_types.specs.declared.types.Label.{Label}
use Rattle.run_types.specs.declared.types.What.{What}
use Rattle.run_types.specs.declared.types.Line.{Line}
use Rattle.run_types.specs.declared.types.Line.TheVariants as R
use Rattle.run_types.specs.declared.types.Placement.{Placement}
use Rattle.pool_relation.specs.Action.{Object}
use Rattle.pool_relation.specs.Configuration.{Configuration}
use Rattle.pool_relation.specs.Transition.{run}
use Rattle.mesh_semantics.specs.Config.{Config}
use Rattle.mesh_semantics.specs.Delay.{Delay}
use Rattle.mesh_semantics.specs.MadeLines as M
use Rattle.mesh_of_terms.specs.Terms.{terms, plain}
use Rattle.mesh_of_terms.specs.TypedTerms.{TypedTerms}

-- a configuration of the relation as one of terms
abbrev pub placed : Configuration → Config Object
placed c = record { objects = c.objects; messages = c.messages }

-- the labels are a run of the relation from c to e
abbrev pub RunLeads : ProgramTree → Configuration → List Label → Config Object → Type 0
RunLeads p c labs e = run p c labs ≡ Some (plain e)

-- how a line after the lines before was made, in a run of the relation from c with its delay d
abbrev pub IsMadeAt : ProgramTree → Placement → ℕ → Configuration → Delay → List Line → Event → What → Type 0
IsMadeAt p l q c d before e what = M.IsMadeAt (terms p) (TypedTerms p) l q (RunLeads p c) (placed c) d before e what

-- each event line of these was made so, where the lines before it lead
abbrev pub AreMade : ProgramTree → Placement → ℕ → Configuration → Delay → List Line → Type 0
AreMade p l q c d lines =
    (before behind : List Line) (number : ℕ) (e : Event) (what : What) → before ++ (R.Event number e what ∷ behind) ≡ lines → IsMadeAt p l q c d before e what
