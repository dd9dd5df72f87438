use Rattle.std.proofs.Common.{rules}
use Rattle.slot_queues.specs.Lanes.{home_of}
use Rattle.slot_queues.proofs.lanes.home.Goals as goal

pub returns-clause-is : goal.returns-clause-is
unfolding home_of
returns-clause-is c = search rules
