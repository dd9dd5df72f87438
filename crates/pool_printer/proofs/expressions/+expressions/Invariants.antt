use Rattle.std.proofs.Common.{drop, ◌*◌, ◌+◌}
use Rattle.pool_syntax.specs.declared.token.Tok.TheVariants.{Sign}
use Rattle.pool_syntax.specs.declared.token.Sign.TheVariants as sign
use Rattle.pool_syntax.specs.TreeOf.{expression_of, expressions_of}
use Rattle.pool_printer.specs.Canonical.{argument_tokens, separated_by}
use Rattle.pool_printer.specs.SinkState.{state}
use Rattle.pool_printer.proofs.PartsFrom.{from_place}
use Rattle.pool_printer.proofs.SeparatedParts.{Rests}
use Rattle.pool_printer.proofs.Sizes.{size, size_all}
use Rattle.pool_printer.proofs.expressions.+expressions.Given as goal

abbrev pub invariant-arguments-loop-i : goal.invariant-arguments-loop-i
invariant-arguments-loop-i g l =
    let written = g.K.Sink.written in
    let faults = g.K.Sink.faults in
    Rests l.names (separated_by (Sign sign.Comma) (argument_tokens (expressions_of l.args))) (state l.initial.progress (written l.initial.sink) (faults l.initial.sink))
    (from_place (Sign sign.Comma) l.i (argument_tokens (expressions_of (drop l.i l.args)))) (state l.progress (written l.sink) (faults l.sink))

abbrev pub decreases-bare : goal.decreases-bare
decreases-bare g l = 4 * size (expression_of l.expr.now)

abbrev pub decreases-expression : goal.decreases-expression
decreases-expression g l = 4 * size (expression_of l.expr.now) + 1

abbrev pub decreases-arguments : goal.decreases-arguments
decreases-arguments g l = 4 * size_all (expressions_of l.args.now) + 2

abbrev pub decreases-call : goal.decreases-call
decreases-call g l = 4 * size_all (expressions_of l.args.now) + 3
