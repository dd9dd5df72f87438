use Rattle.std.proofs.Common.{sym, ap, ◌∙◌, [], ◌∷◌}
use Rattle.pool_syntax.specs.declared.token.Tok.TheVariants.{Sign}
use Rattle.pool_syntax.specs.declared.token.Sign.TheVariants as sign
use Rattle.pool_printer.specs.Canonical.{outcome_tokens}
use Rattle.pool_printer.proofs.SequentialOutput.{prints_more, prints_same}
use Rattle.pool_printer.proofs.declarations.outcome.Goals as goal

pub returns-in-Some : goal.returns-in-Some
returns-in-Some g c =
    prints_same _ _ _ _ _ (ap (λ k. Sign sign.Colon ∷ k ∷ []) c.kind_token.ensures ∙ ap outcome_tokens (sym c.in-Some.is)) (prints_more _ _ _ _ _ _ c.say.ensures c.say-in-Some.ensures)
