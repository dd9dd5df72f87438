use Rattle.std.proofs.Common.{ap, sym, ◌∙◌, ◌∷◌}
use Rattle.pool_syntax.specs.declared.token.Tok.TheVariants.{Word}
use Rattle.text_scan.specs.declared.keywords.Keyword.TheVariants as word
use Rattle.pool_printer.specs.Canonical.{answer_tokens, names_tokens}
use Rattle.pool_printer.proofs.SequentialOutput.{prints_same}
use Rattle.pool_printer.proofs.statements.answer.Goals as goal

pub returns-in-Some : goal.returns-in-Some
returns-in-Some g c =
    prints_same _ _ _ _ _ (ap (λ ns. Word word.Answer ∷ names_tokens ns) c.items.ensures ∙ ap answer_tokens (sym c.in-Some.is)) c.answer_to.ensures
