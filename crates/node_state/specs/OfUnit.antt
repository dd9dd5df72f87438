-- The invariant that a node is of a unit and of a placement: `make` establishes it, and each call keeps it.
use Rattle.std.specs.Prelude.{◌≡◌, ℕ, ◌*◌, ◌<◌, Some, None, true, length, map, slice_get}
use Rattle.run_types.specs.declared.types.Placement.{Placement}
use Rattle.code_semantics.specs.declared.unit.Unit.{Unit as Code}
use Rattle.code_semantics.specs.Proper.{IsProper}
use Rattle.code_semantics.specs.Suits.{Suits}
use Rattle.code_semantics.specs.NodeWords.{most_vars}
use Rattle.code_semantics.specs.StepInstructions.{FitsUnit, IsAtStep}
use Rattle.mesh_of_code.specs.Coded.{Placed, coded}
use Rattle.node_semantics.specs.Node.{Slot, can_go, name_at, placed}
use Rattle.mesh_semantics.specs.Requests.{posts_request}
use Rattle.node_state.specs.LongAnswers.{AreLongOf}
use Rattle.node_state.specs.NodeOf.{NodeOf}

-- A slot whose object has frames of the unit and is at a step instruction. If it has an outstanding request, the object
-- is at a new object or at a call.
pub record IsSlotOf (u : Code) (o : ℕ) (s : Slot Placed) : Type 0 where
  pub fits : FitsUnit u s.state.object
  pub rests : IsAtStep u s.state.object
  -- its call is not recorded as served
  pub plain : s.state.served ≡ None
  pub asks : (number : ℕ) → s.request ≡ Some number → posts_request ((coded u).kind o s.state) ≡ true

pub record IsOfUnit (u : Code) (n : NodeOf) : Type 0 where
  pub proper : IsProper u
  pub vars : n.most_vars ≡ most_vars u.classes
  -- a count for each class
  pub made : length n.state.made ≡ length u.classes
  pub slots : (i : ℕ) (s : Slot Placed) → slice_get n.state.slots i ≡ Some s → IsSlotOf u (name_at n.id i) s
  -- no two slots have the same outstanding number
  pub distinct : (i j number : ℕ) (s t : Slot Placed) → slice_get n.state.slots i ≡ Some s → slice_get n.state.slots j ≡ Some t
      → s.request ≡ Some number → t.request ≡ Some number → i ≡ j
  -- the objects that can step
  pub ready : n.ready ≡ map (can_go (coded u) n.id) (placed 0 n.state.slots)
  pub long : AreLongOf u n.long

pub record IsOfPlacement (u : Code) (l : Placement) (n : NodeOf) : Type 0 where
  pub suits : Suits l u
  pub id : n.id < l.width * l.height
  pub objects : n.most_objects ≡ l.objects
  pub frames : n.most_frames ≡ l.frames
  pub cells : n.most_cells ≡ l.cells
