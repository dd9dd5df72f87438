use Rattle.std.proofs.Common.{drop}
use Rattle.pool_printer.specs.SinkState.{state}
use Rattle.pool_printer.proofs.SeparatedParts.{Rests}
use Rattle.pool_printer.proofs.token_writer.say_all.Given as goal

abbrev pub invariant-loop-token : goal.invariant-loop-token
invariant-loop-token g l =
    let written = g.K.Sink.written in
    let faults = g.K.Sink.faults in
    Rests l.names l.tokens (state l.initial.progress (written l.initial.sink) (faults l.initial.sink)) (drop l.token-index l.tokens) (state l.progress (written l.sink) (faults l.sink))
