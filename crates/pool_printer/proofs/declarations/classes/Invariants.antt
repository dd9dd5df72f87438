use Rattle.std.proofs.Common.{drop, map}
use Rattle.pool_syntax.specs.TreeOf.{class_tree}
use Rattle.pool_printer.specs.Canonical.{program_tokens}
use Rattle.pool_printer.specs.SinkState.{state}
use Rattle.pool_printer.proofs.SeparatedParts.{Rests}
use Rattle.pool_printer.proofs.declarations.classes.Given as goal

abbrev pub invariant-loop-next : goal.invariant-loop-next
invariant-loop-next g l =
    let written = g.K.Sink.written in
    let faults = g.K.Sink.faults in
    Rests l.names (program_tokens (map class_tree l.classes)) (state l.initial.progress (written l.initial.sink) (faults l.initial.sink))
    (program_tokens (map class_tree (drop l.next-index l.classes))) (state l.progress (written l.sink) (faults l.sink))
