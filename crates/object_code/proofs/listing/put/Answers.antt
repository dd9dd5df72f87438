use Rattle.std.proofs.Common.{refl}
use Rattle.object_code.specs.SinkState.{cut}
use Rattle.object_code.proofs.listing.put.Goals as goal

pub returns-in-Err : goal.returns-in-Err
returns-in-Err g c =
    cut c.if-not-failed.true refl c.in-Err.ensures.front c.write_all_of.ensures.faults_stay_or_rise c.in-Err.ensures.failed
