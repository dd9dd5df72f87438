-- The schedules that fit a placement.
use Rattle.std.specs.Prelude.{◌≡◌, ℕ, ◌*◌, ◌<◌, ◌≤◌, Some, Bool, true, slice_get}
use Rattle.run_types.specs.declared.types.Event.{Event}
use Rattle.run_types.specs.declared.types.Event.TheVariants as V
use Rattle.run_types.specs.declared.types.Placement.{Placement}
use Rattle.run_types.specs.Paths.{IsLink}
use Rattle.schedule_reader.specs.Schedules.{Plan}

-- an event on a node of the mesh, or on a link that is not cut; an event on a wire only if links are wires
abbrev pub IsEventOn : Placement → Bool → Event → Type 0
IsEventOn l lossy (V.Turn n) = n < l.width * l.height
IsEventOn l lossy (V.Link a b) = IsLink l (a, b)
IsEventOn l lossy (V.Wire act a b) = (lossy ≡ true) × IsLink l (a, b)

pub record IsPlanFor (l : Placement) (plan : Plan) : Type 0 where
  pub quantum : (1 ≤ plan.quantum) × (plan.quantum ≤ 10000)
  pub events : (i : ℕ) (e : Event) → slice_get plan.events i ≡ Some e → IsEventOn l plan.lossy e
