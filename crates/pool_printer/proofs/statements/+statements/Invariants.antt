use Rattle.std.proofs.Common.{drop, ◌*◌, ◌+◌}
use Rattle.pool_syntax.specs.declared.token.Tok.TheVariants.{Sign}
use Rattle.pool_syntax.specs.declared.token.Sign.TheVariants as sign
use Rattle.pool_syntax.specs.declared.tree.Alt.{out-Alt}
use Rattle.pool_syntax.specs.TreeOf.{statement_of, statements_of, alternatives_of}
use Rattle.pool_printer.specs.Canonical.{alternatives_tokens, statement_parts, statements_tokens}
use Rattle.pool_printer.specs.SinkState.{state}
use Rattle.pool_printer.proofs.PartsFrom.{from_place}
use Rattle.pool_printer.proofs.SeparatedParts.{Rests}
use Rattle.pool_printer.proofs.Sizes.{length_of, length_of_all, length_of_alternatives}
use Rattle.pool_printer.proofs.statements.+statements.Given as goal

abbrev pub invariant-statements-loop-i : goal.invariant-statements-loop-i
invariant-statements-loop-i g l =
    let written = g.K.Sink.written in
    let faults = g.K.Sink.faults in
    Rests l.names (statements_tokens (statements_of l.stmts)) (state l.initial.progress (written l.initial.sink) (faults l.initial.sink))
    (from_place (Sign sign.Semicolon) l.i (statement_parts (statements_of (drop l.i l.stmts)))) (state l.progress (written l.sink) (faults l.sink))

abbrev pub invariant-alternatives-loop-alt : goal.invariant-alternatives-loop-alt
invariant-alternatives-loop-alt g l =
    let written = g.K.Sink.written in
    let faults = g.K.Sink.faults in
    Rests l.names (alternatives_tokens (alternatives_of l.alts)) (state l.initial.progress (written l.initial.sink) (faults l.initial.sink))
    (alternatives_tokens (alternatives_of (drop l.alt-index l.alts))) (state l.progress (written l.sink) (faults l.sink))

abbrev pub decreases-statement : goal.decreases-statement
decreases-statement g l = 4 * length_of (statement_of l.stmt.now)

abbrev pub decreases-statements : goal.decreases-statements
decreases-statements g l = 4 * length_of_all (statements_of l.stmts.now) + 1

abbrev pub decreases-otherwise : goal.decreases-otherwise
decreases-otherwise g l = 4 * length_of_all (statements_of l.stmts.now) + 2

abbrev pub decreases-alternatives : goal.decreases-alternatives
decreases-alternatives g l = 4 * length_of_alternatives (alternatives_of l.alts.now) + 1

abbrev pub decreases-alternative : goal.decreases-alternative
decreases-alternative g l = 4 * length_of_all (statements_of (out-Alt l.alt.now).work) + 2
