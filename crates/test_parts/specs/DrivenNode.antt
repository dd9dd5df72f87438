-- Node 1 of a test, of a unit and a placement. It has made at most as many objects of a class as it has made steps.
use Rattle.std.specs.Prelude.{◌≡◌, ◌≤◌, ℕ}
use Rattle.run_types.specs.declared.types.Placement.{Placement}
use Rattle.run_types.specs.Tables.{Each}
use Rattle.code_semantics.specs.declared.unit.Unit.{Unit as Code}
use Rattle.node_state.specs.NodeOf.{NodeOf}
use Rattle.node_state.specs.OfUnit.{IsOfPlacement, IsOfUnit}

pub record IsDriven (u : Code) (l : Placement) (steps : ℕ) (n : NodeOf) : Type 0 where
  pub id : n.id ≡ 1
  pub unit : IsOfUnit u n
  pub placement : IsOfPlacement u l n
  pub counted : Each (λ k. k ≤ steps) n.state.made
