use Rattle.std.proofs.Common.{ap, [], ◌∷◌}
use Rattle.pool_syntax.specs.declared.token.Tok.TheVariants.{Name, Sign}
use Rattle.pool_syntax.specs.declared.token.Sign.TheVariants as sign
use Rattle.pool_printer.proofs.SequentialOutput.{prints_same}
use Rattle.pool_printer.proofs.declarations.variable.Goals as goal

pub returns : goal.returns
returns g c = prints_same _ _ _ _ _ (ap (λ k. Name c.args.var.name ∷ Sign sign.Colon ∷ k ∷ []) c.kind_token.ensures) c.say_all.ensures
