-- The start of a program, and the invariant that each event keeps, in terms of the transition relation.
use Rattle.std.proofs.Common.{◌≡◌, refl, sym, ap, ◌∙◌, IsTrue, List, [], ◌∷◌, ℕ, length, Option, Some, None}
use Rattle.run_types.specs.declared.types.Event.{Event}
use Rattle.run_types.specs.declared.types.Label.{Label}
use Rattle.run_types.specs.declared.types.Placement.{Placement}
use Rattle.pool_syntax.specs.Terms.{ClassTree, ProgramTree}
use Rattle.pool_syntax.specs.Typing.{faults}
use Rattle.pool_relation.specs.Action.{Object}
use Rattle.pool_relation.specs.UnderWay.{frames_of}
use Rattle.pool_relation.specs.Transition as X
use Rattle.pool_relation.specs.Transition.{transition, run, last_class, new_object}
use Rattle.pool_syntax.specs.Written.{is_written}
use Rattle.pool_relation.proofs.Laws.{statements_idle, place, new_object_typed, start_typed, last_first}
use Rattle.mesh_semantics.specs.Config.{Config}
use Rattle.mesh_semantics.specs.Moves.{move, moves}
use Rattle.mesh_semantics.specs.Delay.{Delay, no_delay}
use Rattle.mesh_semantics.specs.Act.{Acted, Acts, Full, Nothing, act}
use Rattle.mesh_semantics.specs.EventSoundness.{After}
use Rattle.mesh_semantics.specs.Sound.{IsSound}
use Rattle.mesh_semantics.specs.FitFor.{FitFor}
use Rattle.mesh_semantics.specs.Record.{root_name, shown, start}
use Rattle.mesh_semantics.proofs.Laws.{act_kept, fit_of, placed_start_sound}
use Rattle.mesh_of_terms.specs.RunOf.{TypedTerms}
use Rattle.mesh_of_terms.specs.Terms.{terms, plain}
use Rattle.mesh_of_terms.specs.OneEvent.{as_plain, AfterEvent}
use Rattle.mesh_of_terms.proofs.Instance.{move_is}
use Rattle.mesh_of_terms.proofs.LawfulTerms.{lawful}

-- runs of the language of terms are runs of the relation
pub moves_are_run : (p : ProgramTree) (c : Config Object) (ls : List Label) → as_plain (moves (terms p) c ls) ≡ run p (plain c) ls
moves_are_run p c [] = refl
moves_are_run p c (x ∷ xs) = by (move (terms p) c x) refl (move_is p c x) (λ d. moves_are_run p d xs)
  where
    by : (z : Option (Config Object)) → move (terms p) c x ≡ z → as_plain (move (terms p) c x) ≡ transition p (plain c) x → ((d : Config Object) → as_plain (moves (terms p) d xs) ≡ run p (plain d) xs)
        → as_plain (moves (terms p) c (x ∷ xs)) ≡ run p (plain c) (x ∷ xs)
    by None e i rest = let t : transition p (plain c) x ≡ None = sym i ∙ ap as_plain e in rw (e, t) refl
    by (Some d) e i rest = let t : transition p (plain c) x ≡ Some (plain d) = sym i ∙ ap as_plain e in rw (e, t) (rest d)

pub moves_are : (p : ProgramTree) (c e : Config Object) (ls : List Label) → moves (terms p) c ls ≡ Some e → run p (plain c) ls ≡ Some (plain e)
moves_are p c e ls h = sym (moves_are_run p c ls) ∙ ap as_plain h

-- the relation's start and that of the placed machine are one
pub starts_plain : (p : ProgramTree) (l : Placement) → as_plain (start (terms p) l) ≡ X.start p (root_name l)
starts_plain p l = by (last_class p) refl
  where
    by : (z : Option ClassTree) → last_class p ≡ z → as_plain (start (terms p) l) ≡ X.start p (root_name l)
    by None e = rw e refl
    by (Some k) e = rw e refl

module _ (p : ProgramTree) (none : faults p ≡ []) (written : IsTrue (is_written p)) (l : Placement) (fit : FitFor (terms p) l) where
  pub event_keeps : (q : ℕ) (c : Config Object) (d : Delay) (e : Event) → IsSound (terms p) (TypedTerms p) l c d → AfterEvent p l c (act (terms p) l q c d e)
  event_keeps q c d e s = on (act (terms p) l q c d e) (act_kept (terms p) (TypedTerms p) (lawful p none written) l (fit_of (terms p) l fit) c d q e s)
    where
      on : (x : Acted Object) → After (terms p) (TypedTerms p) l c x → AfterEvent p l c x
      on (Acts w f g) h = (moves_are p c f (shown w) h.0, h.1)
      on (Full k n) h = tt
      on Nothing h = absurd h

  pub start_is_sound : (c : Config Object) → start (terms p) l ≡ Some c → IsSound (terms p) (TypedTerms p) l c no_delay
  start_is_sound c h = by (last_class p) refl
    where
      by : (z : Option ClassTree) → last_class p ≡ z → IsSound (terms p) (TypedTerms p) l c no_delay
      by None e = absurd (let q = rw e at h in cc)
      by (Some k) e =
          let typed = start_typed p none written (root_name l) (plain c) (sym (starts_plain p l) ∙ ap as_plain h) in
          let body = (new_object_typed p none written (λ n. None) k.name.name.0 k (last_first p [] p k none e).0).2 in
          let idle : frames_of (new_object k).term ≡ 0 = ap length (statements_idle (place p (λ n. None) (new_object k)) k.body body) in
          placed_start_sound (terms p) (TypedTerms p) l fit (new_object k) c (rw e refl) idle h typed
