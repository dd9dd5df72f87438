use Rattle.std.proofs.Common.{drop, map}
use Rattle.pool_syntax.specs.TreeOf.{method_tree}
use Rattle.pool_printer.specs.Canonical.{methods_tokens}
use Rattle.pool_printer.specs.SinkState.{state}
use Rattle.pool_printer.proofs.SeparatedParts.{Rests}
use Rattle.pool_printer.proofs.declarations.methods.Given as goal

abbrev pub invariant-loop-next : goal.invariant-loop-next
invariant-loop-next g l =
    let written = g.K.Sink.written in
    let faults = g.K.Sink.faults in
    Rests l.names (methods_tokens (map method_tree l.methods)) (state l.initial.progress (written l.initial.sink) (faults l.initial.sink))
    (methods_tokens (map method_tree (drop l.next-index l.methods))) (state l.progress (written l.sink) (faults l.sink))
