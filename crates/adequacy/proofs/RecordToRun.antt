-- A run leads to each configuration that a record shows.
use Rattle.std.proofs.Common.{◌≡◌, refl, sym, ap, ◌∙◌, ℕ, List, [], ◌∷◌, ◌++◌, Some, true}
use Rattle.run_types.specs.declared.types.Error.{Error}
use Rattle.run_types.specs.declared.types.Event.{Event}
use Rattle.run_types.specs.declared.types.Label.{Label}
use Rattle.run_types.specs.declared.types.Label.TheVariants as L
use Rattle.run_types.specs.declared.types.Placement.{Placement}
use Rattle.pool_syntax.specs.Terms.{ProgramTree}
use Rattle.mesh_semantics.specs.Delay.{Delay, no_delay, no_delay_on_wires}
use Rattle.mesh_semantics.specs.Record.{Record, labels, root_name}
use Rattle.mesh_semantics.specs.RecordOf.{record_of, record_on_wires}
use Rattle.run_types.proofs.Laws.{given_by, required, same_some}
use Rattle.pool_relation.specs.Action.{Object, action}
use Rattle.pool_relation.specs.Configuration.{Configuration, object_of, put_object}
use Rattle.pool_relation.specs.Transition.{running, fails, transition, run}
use Rattle.pool_relation.proofs.Laws.{joined, Put, New, Old, put_cases}
use Rattle.mesh_of_terms.specs.Terms.{terms, plain}
use Rattle.mesh_of_terms.specs.RunOf.{IsRunFrom}
use Rattle.mesh_of_terms.proofs.Laws.{runs_from, runs_from_on_wires}
use Rattle.mesh_semantics.specs.Record.{ends_quiet}
use Rattle.mesh_semantics.specs.Cycles.{cycles}
use Rattle.reachability.specs.Search.{IsReached, IsStuck, IsUnfinished, IsFaulty}
use Rattle.reachability.specs.Outcomes.{written, EndsWith}
use Rattle.search_laws.specs.Dead.{HasDead}
use Rattle.adequacy.specs.Ends.{IsPlaced, EndsInACall, EndsUnfinished, ShowsAnError, ComesToDead}
use Rattle.adequacy.proofs.DeadCycles.{no_cycle}

-- the record of a program that is placed is a run from its start
pub as_run : (p : ProgramTree) (l : Placement) (q : ℕ) (es : List Event) (h : IsPlaced p l) → IsRunFrom p l q h.first no_delay (record_of (terms p) l q es)
as_run p l q es h = runs_from p h.faultless h.written l h.fits q es h.first h.starts

pub as_run_on_wires : (p : ProgramTree) (l : Placement) (q : ℕ) (es : List Event) (h : IsPlaced p l) → IsRunFrom p l q h.first no_delay_on_wires (record_on_wires (terms p) l q es)
as_run_on_wires p l q es h = runs_from_on_wires p h.faultless h.written l h.fits q es h.first h.starts

module _ (p : ProgramTree) (l : Placement) (q : ℕ) (h : IsPlaced p l) (d : Delay) (r : Record Object) (run_of : IsRunFrom p l q h.first d r) where
  pub never_in_a_call : ((e : Configuration) → IsReached p e → ¬ (IsStuck p e)) → ¬ (EndsInACall p r)
  never_in_a_call none ends =
      none (plain r.last) (record { root = root_name l; first = h.first; labels = labels r.lines; starts = h.starts; leads = run_of.leads })
      (record { at_end = run_of.rests ends.quiet; name = ends.name; waits = ends.waits })

  pub never_left_over : ((e : Configuration) → IsReached p e → ¬ (IsUnfinished p e)) → ¬ (EndsUnfinished p r)
  never_left_over none ends =
      none (plain r.last) (record { root = root_name l; first = h.first; labels = labels r.lines; starts = h.starts; leads = run_of.leads })
      (record { at_end = run_of.rests ends.quiet; left = ends.left })

  -- where it ends quiet, its labels lead to an end of a run, which writes what the record shows
  pub quiet_ends : ends_quiet r.lines ≡ true → EndsWith p (written (labels r.lines)) (plain r.last)
  quiet_ends quiet = record { root = root_name l; first = h.first; labels = labels r.lines; starts = h.starts; leads = run_of.leads; at_end = run_of.rests quiet; writes = refl }

  -- after its error an object is faulty
  faulty : (a b : Configuration) (o : ℕ) (e : Error) → transition p a (L.Fault o e) ≡ Some b → IsFaulty b
  faulty a b o e t =
      let x = given_by (running a o) _ b t in
      let w = required (fails (action p o x.0) e) _ b x.2 in
      let is : put_object a o (record x.0 { fault = Some e }) ≡ b = same_some w.1 in
      record {
        name = o;
        object = record x.0 { fault = Some e };
        there = ap (λ y. object_of y o) (sym is) ∙ put (put_cases a o (record x.0 { fault = Some e }) o);
        met = λ i. absurd (cc);
      }
    where
      put : {y : Object} → Put a o y o → object_of (put_object a o y) o ≡ Some y
      put (New i j) = j
      put (Old n j) = absurd (n refl)

  pub never_an_error : ((e : Configuration) → IsReached p e → ¬ (IsFaulty e)) → ¬ (ShowsAnError r)
  never_an_error none shows =
      let by = run_of.fronts shows.front (L.Fault shows.name shows.error ∷ shows.rest) shows.shown in
      let step = given_by (transition p by.between (L.Fault shows.name shows.error)) _ (plain r.last) by.from in
      none step.0
      (record {
        root = root_name l;
        first = h.first;
        labels = shows.front ++ L.Fault shows.name shows.error ∷ [];
        starts = h.starts;
        leads = joined p h.first by.between shows.front (L.Fault shows.name shows.error ∷ []) by.to ∙ one by.between step.0 (L.Fault shows.name shows.error) step.1;
      })
      (faulty by.between step.0 shows.name shows.error step.1)
    where
      one : (a b : Configuration) (k : Label) → transition p a k ≡ Some b → run p a (k ∷ []) ≡ Some b
      one a b k t = rw t refl

  -- if no run leads to a dead object, nor does a prefix of the record
  pub never_to_dead : ((e : Configuration) → IsReached p e → ¬ (HasDead p e)) → ¬ (ComesToDead p l r)
  never_to_dead none comes =
      none comes.between (record { root = root_name l; first = comes.first; labels = comes.front; starts = comes.starts; leads = comes.leads }) comes.dead

  -- and the configuration at its end has no cycle of calls
  pub never_a_cycle : ((e : Configuration) → IsReached p e → ¬ (HasDead p e)) → cycles (terms p) r.last r.delay ≡ []
  never_a_cycle none =
      no_cycle p r.last r.delay
      (none (plain r.last) (record { root = root_name l; first = h.first; labels = labels r.lines; starts = h.starts; leads = run_of.leads }))
