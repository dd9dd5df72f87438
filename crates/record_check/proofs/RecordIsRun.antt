-- The record of a program is a run of it, by its lines alone.
use Rattle.std.proofs.Common.{◌≡◌, refl, sym, ap, subst, ◌∙◌, IsTrue, ℕ, List, [], ◌∷◌, Option, Some, None}
use Rattle.run_types.specs.declared.types.Event.{Event}
use Rattle.run_types.specs.declared.types.Label.{Label}
use Rattle.run_types.specs.declared.types.Placement.{Placement}
use Rattle.pool_syntax.specs.Terms.{ProgramTree}
use Rattle.pool_syntax.specs.Typing.{faults}
use Rattle.pool_relation.specs.Action.{Object}
use Rattle.pool_relation.specs.Alone.{alone}
use Rattle.pool_relation.specs.Configuration.{Configuration}
use Rattle.pool_relation.specs.Progress.{agent}
use Rattle.pool_relation.specs.Transition.{transition, run, start, last_class, new_object}
use Rattle.pool_relation.specs.Typed.{Typed}
use Rattle.pool_syntax.specs.Written.{is_written}
use Rattle.pool_relation.proofs.Laws.{start_typed, starts}
use Rattle.run_types.specs.Partial.{◌>>=◌}
use Rattle.mesh_semantics.specs.Delay.{Delay, no_delay, no_delay_on_wires}
use Rattle.mesh_semantics.specs.FitFor.{FitFor}
use Rattle.mesh_semantics.specs.Record.{Record, root_name, labels}
use Rattle.mesh_semantics.specs.RecordOf.{record_of, record_on_wires}
use Rattle.run_types.proofs.Laws.{same_some, given_by}
use Rattle.mesh_of_terms.specs.Terms.{terms, plain}
use Rattle.mesh_of_terms.specs.RunOf.{IsRunFrom}
use Rattle.mesh_of_terms.proofs.Laws.{runs_from, runs_from_on_wires}
use Rattle.record_check.specs.RecordJudgement.{first_agent, IsRunOf}
use Rattle.record_check.proofs.LoneObject.{its_agent, lone_rests}

module _ (p : ProgramTree) (none : faults p ≡ []) (written : IsTrue (is_written p)) where
  -- the start is a lone object
  begins : (n : ℕ) (c : Configuration) → start p n ≡ Some c → (x : Object) × (c ≡ alone n x) × (x.fault ≡ None) × ((q : ℕ) → start p q ≡ Some (alone q x))
  begins n c e =
      let k = given_by (last_class p) (λ k. Some (alone n (new_object k))) c e in
      (new_object k.0, sym (same_some k.2), refl, λ q. ap (λ z. z >>= λ k. Some (alone q (new_object k))) k.1)

  pub told : (l : Placement) (q : ℕ) (c : Configuration) (d : Delay) (r : Record Object) → start p (root_name l) ≡ Some c → IsRunFrom p l q c d r → IsRunOf p r.lines
  told l q c d r e t = by (labels r.lines) refl t.leads
    where
      b : (x : Object) × (c ≡ alone (root_name l) x) × (x.fault ≡ None) × ((q : ℕ) → start p q ≡ Some (alone q x))
      b = begins (root_name l) c e

      by : (ls : List Label) → labels r.lines ≡ ls → run p c ls ≡ Some (plain r.last) → IsRunOf p r.lines
      by [] i h =
          let same : c ≡ plain r.last = same_some h in
          let x = b.0 in
          record {
            last = alone 0 b.0;
            run_to = record { from = alone 0 b.0; starts = ap (λ z. start p (first_agent z)) i ∙ b.3 0; leads = ap (run p (alone 0 b.0)) i };
            rests = λ quiet. lone_rests p none written (root_name l) 0 b.0 b.2 (subst (Typed p) b.1 (start_typed p none written (root_name l) c e))
                (λ lab. ap (λ z. transition p z lab) (sym b.1 ∙ same) ∙ t.rests quiet lab);
          }
      by (lab ∷ labs) i h =
          let a = given_by (transition p c lab) (λ d. run p d labs) (plain r.last) h in
          let its : agent lab ≡ root_name l = its_agent p (root_name l) b.0 lab a.0 (ap (λ z. transition p z lab) (sym b.1) ∙ a.1) in
          record {
            last = plain r.last;
            run_to = record { from = c; starts = ap (λ z. start p (first_agent z)) i ∙ (ap (start p) its ∙ e); leads = t.leads };
            rests = t.rests;
          }

  pub is_run : (l : Placement) → FitFor (terms p) l → (p ≡ [] → ⊥) → (q : ℕ) (es : List Event) → IsRunOf p (record_of (terms p) l q es).lines
  is_run l fit some q es = by (start p (root_name l)) refl
    where
      by : (z : Option Configuration) → start p (root_name l) ≡ z → IsRunOf p (record_of (terms p) l q es).lines
      by None e = absurd (starts p (root_name l) some e)
      by (Some c) e = told l q c no_delay (record_of (terms p) l q es) e (runs_from p none written l fit q es c e)

  pub is_run_on_wires : (l : Placement) → FitFor (terms p) l → (p ≡ [] → ⊥) → (q : ℕ) (es : List Event) → IsRunOf p (record_on_wires (terms p) l q es).lines
  is_run_on_wires l fit some q es = by (start p (root_name l)) refl
    where
      by : (z : Option Configuration) → start p (root_name l) ≡ z → IsRunOf p (record_on_wires (terms p) l q es).lines
      by None e = absurd (starts p (root_name l) some e)
      by (Some c) e = told l q c no_delay_on_wires (record_on_wires (terms p) l q es) e (runs_from_on_wires p none written l fit q es c e)
