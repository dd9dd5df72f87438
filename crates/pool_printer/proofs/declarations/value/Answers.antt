use Rattle.std.proofs.Common.{sym, ap}
use Rattle.pool_syntax.specs.TreeOf.{expression_of}
use Rattle.pool_printer.specs.Canonical.{result_tokens}
use Rattle.pool_printer.proofs.SequentialOutput.{prints_more, prints_same}
use Rattle.pool_printer.proofs.declarations.value.Goals as goal

pub returns-in-Some : goal.returns-in-Some
returns-in-Some g c =
    prints_same _ _ _ _ _ (ap (λ k. result_tokens k (expression_of c.args.value.now)) (sym c.in-Some.is)) (prints_more _ _ _ _ _ _ c.say.ensures c.expression.ensures)
