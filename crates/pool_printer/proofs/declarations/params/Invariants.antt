use Rattle.std.proofs.Common.{drop, map}
use Rattle.pool_syntax.specs.declared.token.Tok.TheVariants.{Sign}
use Rattle.pool_syntax.specs.declared.token.Sign.TheVariants as sign
use Rattle.pool_printer.specs.Canonical.{separated_by, variable_tokens}
use Rattle.pool_printer.specs.SinkState.{state}
use Rattle.pool_printer.proofs.PartsFrom.{from_place}
use Rattle.pool_printer.proofs.SeparatedParts.{Rests}
use Rattle.pool_printer.proofs.declarations.params.Given as goal

abbrev pub invariant-loop-i : goal.invariant-loop-i
invariant-loop-i g l =
    let written = g.K.Sink.written in
    let faults = g.K.Sink.faults in
    Rests l.names (separated_by (Sign sign.Comma) (map variable_tokens l.params)) (state l.initial.progress (written l.initial.sink) (faults l.initial.sink))
    (from_place (Sign sign.Comma) l.i (map variable_tokens (drop l.i l.params))) (state l.progress (written l.sink) (faults l.sink))
