-- Examples: verdicts on the record of a call between two nodes, as it was
-- written, with one local transition too few, and without its last event.
use Rattle.std.proofs.Common.{◌≡◌, refl, ℕ, zero, suc, ◌*◌, ◌<◌, List, [], ◌∷◌, ◌++◌, Option, Some, None, slice_get, arith}
use Rattle.run_types.specs.declared.types.Label.TheVariants as L
use Rattle.run_types.specs.declared.types.What.{What}
use Rattle.run_types.specs.declared.types.What.TheVariants as W
use Rattle.run_types.specs.declared.types.Item.TheVariants as I
use Rattle.run_types.specs.declared.types.Event.{Event}
use Rattle.run_types.specs.declared.types.Event.TheVariants.{Turn, Link}
use Rattle.run_types.specs.declared.types.End.TheVariants.{Quiet}
use Rattle.run_types.specs.declared.types.Line.{Line}
use Rattle.run_types.specs.declared.types.Line.TheVariants as R
use Rattle.run_types.specs.declared.types.Place.TheVariants as Pl
use Rattle.pool_relation.specs.Configuration.{Configuration}
use Rattle.pool_relation.specs.Transition.{run, start, transition}
use Rattle.mesh_semantics.specs.Act.{id}
use Rattle.run_types.specs.Asks.{asks}
use Rattle.mesh_semantics.specs.FitFor.{FitFor}
use Rattle.mesh_semantics.specs.Record.{labels}
use Rattle.run_types.proofs.Laws.{plain_ways}
use Rattle.mesh_of_terms.specs.Terms.{terms}
use Rattle.mesh_of_terms.proofs.Laws.{turns, int, at, step, local, written, lines, numbered, Server, two_nodes_twice as twice, two_nodes_program as program, two_nodes_placement as placement}
use Rattle.record_check.specs.RecordJudgement.{IsRunOf, StopsAt, StillMoves}
use Rattle.record_check.proofs.RecordIsRun.{is_run}

abbrev schedule : List Event
schedule = Turn 0 ∷ Link 0 1 ∷ Link 1 0 ∷ turns 0 2 ++ Link 0 1 ∷ Turn 0 ∷ turns 1 3 ++ Link 1 0 ∷ Turn 0 ∷ []

-- the first eight lines
abbrev call : List (Event × What)
call =
    (Turn 0, W.PostCreate (at 0 0) (id Server) 1)
    ∷ (Link 0 1, step (L.New (at 0 0) (at 1 0) (id Server)))
    ∷ (Link 1 0, W.Created (at 0 0) (at 1 0))
    ∷ (Turn 0, local (at 0 0) 2)
    ∷ (Turn 0, W.PostCall (at 0 0) (at 1 0) (id twice) (int 21 ∷ []))
    ∷ (Link 0 1, W.Arrive (at 0 0) (at 1 0) (id twice))
    ∷ (Turn 0, W.Idle)
    ∷ (Turn 1, step (L.Answer (at 1 0) (at 0 0) (id twice) (int 21 ∷ [])))
    ∷ []

-- its answer, with so many local transitions
abbrev answer : ℕ → List (Event × What)
answer k = (Turn 1, local (at 1 0) k) ∷ (Turn 1, step (L.Return (at 1 0) (at 0 0) (int 42))) ∷ (Link 1 0, W.Result (at 0 0) (int 42)) ∷ []

abbrev whole : List Line
whole = lines (call ++ answer 3 ++ (Turn 0, written (at 0 0) 42) ∷ []) (Quiet 12)

the_numbers_of_its_requests : asks whole ≡ 0 ∷ 1 ∷ 1 ∷ 0 ∷ 0 ∷ 0 ∷ 0 ∷ 5 ∷ 0 ∷ 5 ∷ 5 ∷ 0 ∷ 0 ∷ []
the_numbers_of_its_requests = refl

abbrev nothing : Configuration
nothing = record { objects = []; messages = [] }

abbrev given : Option Configuration → Configuration
given None = nothing
given (Some c) = c

-- where the labels of lines lead from the root's start
abbrev after_lines : List Line → Configuration
after_lines ls = given (run program (given (start program 0)) (labels ls))

fits : FitFor (terms program) placement
fits = record {
  ways = plain_ways placement (omega arith) refl refl;
  nodes = omega arith;
  objects = (omega arith, omega arith);
  frames = omega arith;
  count = refl;
  places = places;
}
  where
    places : (i k : ℕ) → slice_get placement.places i ≡ Some (Pl.At k) → k < placement.width * placement.height
    places zero k h = let e : 1 ≡ k = cc in omega (arith, e)
    places (suc i) k h = absurd (rest i k h)
      where
        rest : (i k : ℕ) → slice_get (Pl.Same ∷ []) i ≡ Some (Pl.At k) → ⊥
        rest zero k h = cc
        rest (suc i) k h = cc

as_it_was_written : IsRunOf program whole
as_it_was_written = is_run program refl refl placement fits (λ e. cc) 10 schedule

-- the rest of the lines behind the first nine
abbrev behind : List Line
behind = R.Event 11 (Link 1 0) (W.Result (at 0 0) (int 42)) ∷ R.Event 12 (Turn 0) (written (at 0 0) 42) ∷ R.End (Quiet 12) ∷ []

abbrev nine : List Line
nine = numbered 1 (call ++ (Turn 1, local (at 1 0) 2) ∷ []) (Quiet 9)

-- line 9 shows two local transitions in the place of three: the return of line 10 is not possible yet, and there is one more
with_one_local_transition_too_few : StopsAt program (lines (call ++ answer 2 ++ (Turn 0, written (at 0 0) 42) ∷ []) (Quiet 12)) 10 (after_lines nine) (L.Return (at 1 0) (at 0 0) (int 42))
with_one_local_transition_too_few = record {
  before = numbered_lines;
  behind = behind;
  event = Turn 1;
  made = 0;
  times = 1;
  whole = refl;
  fewer = omega arith;
  from = given (start program 0);
  starts = refl;
  leads = refl;
  impossible = refl;
}
  where
    numbered_lines : List Line
    numbered_lines = front nine
      where
        front : List Line → List Line
        front [] = []
        front (R.End e ∷ ls) = []
        front (R.Event n e w ∷ ls) = R.Event n e w ∷ front ls

-- without event 12 the end is not quiet: the root can write
without_its_last_event : StillMoves program (lines (call ++ answer 3) (Quiet 11)) 0
without_its_last_event = record {
  last = after_lines (lines (call ++ answer 3) (Quiet 11));
  run_to = record { from = given (start program 0); starts = refl; leads = refl };
  quiet = refl;
  can = (L.Write (at 0 0) (I.Value (int 42)), refl, given (transition program (after_lines (lines (call ++ answer 3) (Quiet 11))) (L.Write (at 0 0) (I.Value (int 42)))), refl);
  least = λ q h k. absurd (omega (arith, h));
}
