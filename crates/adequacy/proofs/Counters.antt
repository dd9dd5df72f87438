-- Objects that count down by one with each local transition and have one more frame after each: their turns and records, computed.
use Rattle.std.proofs.Common.{◌≡◌, refl, ℕ, zero, suc, ◌-◌, List, [], ◌∷◌, Some, None}
use Rattle.run_types.specs.declared.types.Event.{Event}
use Rattle.run_types.specs.declared.types.Event.TheVariants as Ev
use Rattle.run_types.specs.declared.types.Label.TheVariants as L
use Rattle.run_types.specs.declared.types.What.TheVariants as W
use Rattle.run_types.specs.declared.types.FullKind.TheVariants as F
use Rattle.run_types.specs.declared.types.End.TheVariants as E
use Rattle.run_types.specs.declared.types.Line.{Line}
use Rattle.run_types.specs.declared.types.Line.TheVariants as R
use Rattle.run_types.specs.declared.types.Place.TheVariants as Pl
use Rattle.run_types.specs.declared.types.Placement.{Placement}
use Rattle.mesh_semantics.specs.Kind as K
use Rattle.mesh_semantics.specs.Kind.{Kind}
use Rattle.mesh_semantics.specs.Language.{Language}
use Rattle.mesh_semantics.specs.Config.{Config}
use Rattle.mesh_semantics.specs.Act.{local_steps, step_count}
use Rattle.mesh_semantics.specs.RecordOf.{record_of}
use Rattle.adequacy.specs.TurnSteps.{going_on}

abbrev counting : ℕ → Kind
counting zero = K.Finished
counting (suc n) = K.Local

abbrev counters : Language ℕ
counters = record {
  classes = 0 ∷ [];
  root = Some 3;
  made = λ k. None;
  class = λ x. 0;
  fault = λ x. None;
  frames = λ x. 3 - x;
  callers = λ x. [];
  kind = λ o x. counting x;
  stepped = λ o x. x - 1;
  given = λ x v. x;
  waiting = λ x b m. x;
  done = λ x. x;
  returned = λ x. x;
  picked = λ o x i. x;
  serving = λ o x i m k vs. None;
  faulted = λ x e. x;
}

-- one node with so many frames
abbrev node_with : ℕ → Placement
node_with n = record { width = 1; height = 1; objects = 5; frames = n; cells = 5; places = Pl.At 0 ∷ []; cuts = []; routes = [] }

-- one object, which stands at this number
abbrev at : ℕ → Config ℕ
at x = record { objects = (0, x) ∷ []; messages = [] }

-- a turn

to_the_end : going_on counters (node_with 9) 0 0 5 (at 3) ≡ (3, at 0)
to_the_end = refl

quantum_used : going_on counters (node_with 9) 0 0 2 (at 3) ≡ (2, at 1)
quantum_used = refl

frames_used : going_on counters (node_with 3) 0 0 5 (at 3) ≡ (2, at 1)
frames_used = refl

frames_full : going_on counters (node_with 3) 0 0 5 (at 1) ≡ (0, at 1)
frames_full = refl

counted_so : step_count counters (node_with 3) 5 0 0 (at 3) ≡ 2
counted_so = refl

stands_so : local_steps counters (node_with 3) 0 0 2 (at 3) ≡ Some (at 1)
stands_so = refl

-- a record

abbrev turn : Event
turn = Ev.Turn 0

abbrev lines : ℕ → List Event → List Line
lines frames es = (record_of counters (node_with frames) 2 es).lines

quiet : lines 9 (turn ∷ Ev.Link 0 0 ∷ turn ∷ turn ∷ turn ∷ []) ≡
    R.Event 1 turn (W.Step (L.Local 0) 2) ∷ R.Event 2 (Ev.Link 0 0) W.Idle ∷ R.Event 3 turn (W.Step (L.Local 0) 1) ∷ R.End (E.Quiet 3) ∷ []
quiet = refl

schedule_over : lines 9 (turn ∷ []) ≡ R.Event 1 turn (W.Step (L.Local 0) 2) ∷ R.End (E.Schedule 1) ∷ []
schedule_over = refl

full : lines 2 (turn ∷ turn ∷ turn ∷ []) ≡ R.Event 1 turn (W.Step (L.Local 0) 1) ∷ R.End (E.Full F.Frames 0 1) ∷ []
full = refl
