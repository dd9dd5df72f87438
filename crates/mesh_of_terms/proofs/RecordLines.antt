-- Each line of a record is that of the act of its event, at a sound configuration to which the labels of the lines before it lead.
use Rattle.std.proofs.Common.{◌≡◌, refl, subst, ◌∙◌, IsTrue, ℕ, List, [], ◌∷◌, ◌++◌, Option, Some, None}
use Rattle.run_types.specs.declared.types.Event.{Event}
use Rattle.run_types.specs.declared.types.What.{What}
use Rattle.run_types.specs.declared.types.What.TheVariants as W
use Rattle.run_types.specs.declared.types.Line.{Line}
use Rattle.run_types.specs.declared.types.Line.TheVariants as R
use Rattle.run_types.specs.declared.types.Placement.{Placement}
use Rattle.pool_syntax.specs.Terms.{ProgramTree}
use Rattle.pool_syntax.specs.Typing.{faults}
use Rattle.pool_relation.specs.Action.{Object}
use Rattle.pool_relation.specs.Configuration.{Configuration}
use Rattle.pool_relation.specs.Transition as X
use Rattle.pool_syntax.specs.Written.{is_written}
use Rattle.mesh_semantics.specs.Config.{Config}
use Rattle.mesh_semantics.specs.Delay.{Delay, no_delay, no_delay_on_wires}
use Rattle.mesh_semantics.specs.Sound.{IsSound}
use Rattle.mesh_semantics.specs.Wired.{KeepsWires}
use Rattle.mesh_semantics.specs.FitFor.{FitFor}
use Rattle.mesh_semantics.specs.MadeLines.{LabelsLead}
use Rattle.mesh_semantics.specs.Record.{root_name, start, record_at, record_from}
use Rattle.mesh_semantics.specs.RecordOf.{record_of, record_on_wires}
use Rattle.run_types.proofs.Laws.{same_some}
use Rattle.mesh_semantics.proofs.Laws.{fit_of, lines_made, made_as, with_wires, no_wires_kept}
use Rattle.mesh_of_terms.specs.RunOf.{TypedTerms}
use Rattle.mesh_of_terms.specs.Terms.{terms, plain}
use Rattle.mesh_of_terms.specs.OneEvent.{as_plain, IsIdleAt}
use Rattle.mesh_of_terms.specs.LineOf.{AreMade, IsMadeAt, RunLeads}
use Rattle.mesh_of_terms.proofs.LawfulTerms.{lawful}
use Rattle.mesh_of_terms.proofs.StartAndEvents.{moves_are, starts_plain, start_is_sound}

module _ (p : ProgramTree) (none : faults p ≡ []) (written : IsTrue (is_written p)) (l : Placement) (fit : FitFor (terms p) l) (q : ℕ) where
  pub lines_from : (es : List Event) (c : Config Object) (d : Delay) (done : ℕ) → IsSound (terms p) (TypedTerms p) l c d → KeepsWires d → AreMade p l q (plain c) d (record_from (terms p) l q c d done es).lines
  lines_from es c d done s wired =
      made_as (terms p) (TypedTerms p) l q (LabelsLead (terms p) c) (RunLeads p (plain c)) c d (record_from (terms p) l q c d done es).lines (λ labs e h. moves_are p c e labs h)
      (lines_made (terms p) (TypedTerms p) (lawful p none written) l (fit_of (terms p) l fit) q es c d done s wired)

  -- from the start with this delay
  lines_at : (d : Delay) → KeepsWires d → ((k : Config Object) → start (terms p) l ≡ Some k → IsSound (terms p) (TypedTerms p) l k d)
      → (es : List Event) (c : Configuration) → X.start p (root_name l) ≡ Some c → (before behind : List Line) (n : ℕ) (e : Event) (what : What)
      → before ++ (R.Event n e what ∷ behind) ≡ (record_at (terms p) l q (start (terms p) l) d es).lines → IsMadeAt p l q c d before e what
  lines_at d wired sound es c h before behind n e what = by (start (terms p) l) refl (starts_plain p l ∙ h)
    where
      by : (z : Option (Config Object)) → start (terms p) l ≡ z → as_plain (start (terms p) l) ≡ Some c → before ++ (R.Event n e what ∷ behind) ≡ (record_at (terms p) l q (start (terms p) l) d es).lines
          → IsMadeAt p l q c d before e what
      by None x i k = absurd (let j : None ≡ Some c = rw x at i in cc)
      by (Some k) x i m =
          let same : plain k ≡ c = same_some (rw x at i) in
          subst (λ (z : Configuration). IsMadeAt p l q z d before e what) same (lines_from es k d 0 (sound k x) wired before behind n e what (rw x at m))

  pub lines_of : (es : List Event) (c : Configuration) → X.start p (root_name l) ≡ Some c → (before behind : List Line) (n : ℕ) (e : Event) (what : What)
      → before ++ (R.Event n e what ∷ behind) ≡ (record_of (terms p) l q es).lines → IsMadeAt p l q c no_delay before e what
  lines_of es c h before behind n e what = lines_at no_delay tt (λ k x. start_is_sound p none written l fit k x) es c h before behind n e what

  pub lines_on_wires : (es : List Event) (c : Configuration) → X.start p (root_name l) ≡ Some c → (before behind : List Line) (n : ℕ) (e : Event) (what : What)
      → before ++ (R.Event n e what ∷ behind) ≡ (record_on_wires (terms p) l q es).lines → IsMadeAt p l q c no_delay_on_wires before e what
  lines_on_wires es c h before behind n e what =
      lines_at no_delay_on_wires no_wires_kept (λ k x. with_wires (terms p) (TypedTerms p) l k no_delay [] (start_is_sound p none written l fit k x)) es c h before behind n e what

  idle_at : (c : Configuration) (d : Delay) (before : List Line) (e : Event) → IsMadeAt p l q c d before e W.Idle → IsIdleAt p l c before e
  idle_at c d before e r = record { config = r.config; delay = r.delay; leads = r.leads; sound = r.sound; nothing = r.idle refl }

  pub idle_lines_of : (es : List Event) (c : Configuration) → X.start p (root_name l) ≡ Some c → (before behind : List Line) (n : ℕ) (e : Event)
      → before ++ (R.Event n e W.Idle ∷ behind) ≡ (record_of (terms p) l q es).lines → IsIdleAt p l c before e
  idle_lines_of es c h before behind n e m = idle_at c no_delay before e (lines_of es c h before behind n e W.Idle m)

  pub idle_lines_on_wires : (es : List Event) (c : Configuration) → X.start p (root_name l) ≡ Some c → (before behind : List Line) (n : ℕ) (e : Event)
      → before ++ (R.Event n e W.Idle ∷ behind) ≡ (record_on_wires (terms p) l q es).lines → IsIdleAt p l c before e
  idle_lines_on_wires es c h before behind n e m = idle_at c no_delay_on_wires before e (lines_on_wires es c h before behind n e W.Idle m)
