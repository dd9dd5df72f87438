use Rattle.schedule_reader.proofs.EventRuns.{length_events}
use Rattle.schedule_reader.proofs.theorems.events_are_counted.Goals as goal

pub returns : goal.returns
returns c w h cuts lossy es = length_events w h cuts lossy es
