use Rattle.schedule_reader.proofs.ScheduleFitsMesh.{plan_is_for}
use Rattle.schedule_reader.proofs.theorems.events_are_of_the_mesh.Goals as goal

pub returns : goal.returns
returns c l s plan h = plan_is_for l s plan h
