use Rattle.std.proofs.Common.{drop}
use Rattle.pool_printer.specs.Canonical.{declarations_tokens}
use Rattle.pool_printer.specs.SinkState.{state}
use Rattle.pool_printer.proofs.SeparatedParts.{Rests}
use Rattle.pool_printer.proofs.declarations.variables.Given as goal

abbrev pub invariant-loop-var : goal.invariant-loop-var
invariant-loop-var g l =
    let written = g.K.Sink.written in
    let faults = g.K.Sink.faults in
    Rests l.names (declarations_tokens l.word l.vars) (state l.initial.progress (written l.initial.sink) (faults l.initial.sink))
    (declarations_tokens l.word (drop l.var-index l.vars)) (state l.progress (written l.sink) (faults l.sink))
