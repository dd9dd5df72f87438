use Rattle.std.proofs.Common.{refl}
use Rattle.pool_printer.specs.SinkState.{cut}
use Rattle.pool_printer.proofs.token_writer.put.Goals as goal

pub returns-in-Err-clause-text : goal.returns-in-Err-clause-text
returns-in-Err-clause-text g c =
    cut c.if-not-progress.true refl c.in-Err.ensures.front c.write_all_of.ensures.faults_stay_or_rise c.in-Err.ensures.failed
