use Rattle.test_parts.specs.DrivenNode.{IsDriven}
use Rattle.test_parts.proofs.nodes.put_acts.Given as goal

abbrev pub invariant-loop-step : goal.invariant-loop-step
invariant-loop-step l = IsDriven l.unit l.placement l.steps l.node
