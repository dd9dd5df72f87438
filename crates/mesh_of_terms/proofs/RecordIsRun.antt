-- The record of a program is a run of the transition relation from the start, and no object goes wrong in it.
use Rattle.std.proofs.Common.{◌≡◌, refl, sym, ap, subst, ◌∙◌, IsTrue, ℕ, List, [], ◌∷◌, ◌++◌, Option, Some, None}
use Rattle.run_types.specs.declared.types.Event.{Event}
use Rattle.run_types.specs.declared.types.Label.{Label}
use Rattle.run_types.specs.declared.types.Placement.{Placement}
use Rattle.pool_syntax.specs.Terms.{ProgramTree}
use Rattle.pool_syntax.specs.Typing.{faults}
use Rattle.pool_relation.specs.Action.{Object}
use Rattle.pool_relation.specs.Configuration.{Configuration}
use Rattle.pool_relation.specs.Transition as X
use Rattle.pool_relation.specs.Transition.{transition, run}
use Rattle.pool_syntax.specs.Written.{is_written}
use Rattle.pool_relation.specs.Typed.{Typed}
use Rattle.pool_relation.proofs.Laws.{run_kept, not_wrong}
use Rattle.run_types.specs.Partial.{◌>>=◌}
use Rattle.mesh_semantics.specs.Config.{Config}
use Rattle.mesh_semantics.specs.Delay.{Delay, no_delay, no_delay_on_wires}
use Rattle.mesh_semantics.specs.EventSoundness.{ShowsRun}
use Rattle.mesh_semantics.specs.Sound.{IsSound}
use Rattle.mesh_semantics.specs.FitFor.{FitFor}
use Rattle.mesh_semantics.specs.Record.{Record, root_name, start, record_at, record_from, labels}
use Rattle.mesh_semantics.specs.RecordOf.{record_of, record_on_wires}
use Rattle.mesh_semantics.specs.Wired.{KeepsWires}
use Rattle.run_types.proofs.Laws.{same_some, given_by}
use Rattle.mesh_semantics.proofs.Laws.{record_shows, fit_of, with_wires, no_wires_kept, record_keeps_wires}
use Rattle.mesh_of_terms.specs.LineOf.{AreMade}
use Rattle.mesh_of_terms.specs.RunOf.{TypedTerms, IsRight, GoesBy, IsRunFrom}
use Rattle.mesh_of_terms.specs.Terms.{terms, plain}
use Rattle.mesh_of_terms.specs.OneEvent.{as_plain}
use Rattle.mesh_of_terms.proofs.Instance.{move_is}
use Rattle.mesh_of_terms.proofs.LawfulTerms.{lawful}
use Rattle.mesh_of_terms.proofs.StartAndEvents.{moves_are, starts_plain, start_is_sound}
use Rattle.mesh_of_terms.proofs.RecordLines.{lines_from}

-- a run of joined labels goes by way of where the first lead
by_way : (p : ProgramTree) (c z : Configuration) (xs ys : List Label) → run p c (xs ++ ys) ≡ Some z → (e : Configuration) × (run p c xs ≡ Some e) × (run p e ys ≡ Some z)
by_way p c z [] ys h = (c, refl, h)
by_way p c z (x ∷ xs) ys h =
    let a = given_by (transition p c x) (λ d. run p d (xs ++ ys)) z h in
    let r = by_way p a.0 z xs ys a.2 in (r.0, subst (λ (m : Option Configuration). (m >>= λ d. run p d xs) ≡ Some r.0) (sym a.1) r.1, r.2)

module _ (p : ProgramTree) (none : faults p ≡ []) (written : IsTrue (is_written p)) (l : Placement) (fit : FitFor (terms p) l) where
  right : (c e : Configuration) (ls : List Label) → Typed p c → run p c ls ≡ Some e → IsRight p e
  right c e ls w h =
      let t = run_kept p c e ls none written w h in
      record { typed = t; nobody = λ o x i. not_wrong p none written e o x t i }

  runs : (q : ℕ) (k : Config Object) (d : Delay) (r : Record Object) → TypedTerms p k → ShowsRun (terms p) (TypedTerms p) l k r → AreMade p l q (plain k) d r.lines
      → IsRunFrom p l q (plain k) d r
  runs q k d r w t made = record {
    lines = t.lines;
    leads = moves_are p k r.last (labels r.lines) t.leads;
    sound = t.sound;
    fronts = λ front rest e. way front rest (ap (run p (plain k)) e ∙ moves_are p k r.last (labels r.lines) t.leads);
    made = made;
    rests = λ quiet lab. sym (move_is p r.last lab) ∙ ap as_plain (t.rests quiet lab);
  }
    where
      way : (front rest : List Label) → run p (plain k) (front ++ rest) ≡ Some (plain r.last) → GoesBy p (plain k) (plain r.last) front rest
      way front rest h =
          let b = by_way p (plain k) (plain r.last) front rest h in
          record { between = b.0; to = b.1; from = b.2; right = right (plain k) b.0 front w b.1 }

  -- from the start with this delay
  runs_at : (d : Delay) (q : ℕ) (es : List Event) (c : Configuration) → ((k : Config Object) → start (terms p) l ≡ Some k → IsSound (terms p) (TypedTerms p) l k d) → KeepsWires d
      → X.start p (root_name l) ≡ Some c → IsRunFrom p l q c d (record_at (terms p) l q (start (terms p) l) d es)
  runs_at d q es c sound wired h = by (start (terms p) l) refl (starts_plain p l ∙ h)
    where
      by : (z : Option (Config Object)) → start (terms p) l ≡ z → as_plain (start (terms p) l) ≡ Some c → IsRunFrom p l q c d (record_at (terms p) l q (start (terms p) l) d es)
      by None e i = absurd (let j : None ≡ Some c = rw e at i in cc)
      by (Some k) e i =
          let same : plain k ≡ c = same_some (rw e at i) in
          let s = sound k e in
          subst (λ (z : Configuration). IsRunFrom p l q z d (record_at (terms p) l q (start (terms p) l) d es)) same
          (rw e (runs q k d (record_from (terms p) l q k d 0 es) s.state.typed (record_shows (terms p) (TypedTerms p) (lawful p none written) l (fit_of (terms p) l fit) q es k d 0 s)
          (lines_from p none written l fit q es k d 0 s wired)))

  pub runs_from : (q : ℕ) (es : List Event) (c : Configuration) → X.start p (root_name l) ≡ Some c → IsRunFrom p l q c no_delay (record_of (terms p) l q es)
  runs_from q es c h = runs_at no_delay q es c (start_is_sound p none written l fit) tt h

  pub runs_from_on_wires : (q : ℕ) (es : List Event) (c : Configuration) → X.start p (root_name l) ≡ Some c → IsRunFrom p l q c no_delay_on_wires (record_on_wires (terms p) l q es)
  runs_from_on_wires q es c h = runs_at no_delay_on_wires q es c (λ k e. with_wires (terms p) (TypedTerms p) l k no_delay [] (start_is_sound p none written l fit k e)) no_wires_kept h

-- the wires at the end of a record
pub ends_on_wires : (p : ProgramTree) (l : Placement) (q : ℕ) (es : List Event) → KeepsWires (record_on_wires (terms p) l q es).delay
ends_on_wires p l q es = by (start (terms p) l)
  where
    by : (z : Option (Config Object)) → KeepsWires (record_at (terms p) l q z no_delay_on_wires es).delay
    by None = no_wires_kept
    by (Some c) = (record_keeps_wires (terms p) l q es c no_delay_on_wires 0 no_wires_kept).0
