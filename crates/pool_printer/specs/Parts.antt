-- The tokens of an alternative of a select, for the syntax tree of the code.
use Rattle.std.specs.Prelude.{List, ◌∷◌}
use Rattle.text_scan.specs.declared.keywords.Keyword.TheVariants as word
use Rattle.pool_syntax.specs.declared.token.Tok.{Tok}
use Rattle.pool_syntax.specs.declared.token.Tok.TheVariants.{Word}
use Rattle.pool_syntax.specs.declared.tree.Alt.{Alt, out-Alt}
use Rattle.pool_syntax.specs.TreeOf.{expression_of, statements_of}
use Rattle.pool_printer.specs.Canonical.{expression_tokens, answer_tokens, statements_tokens, ◌then◌}

-- the tokens of an alternative
abbrev pub alternative_tokens : Alt → List Tok
alternative_tokens a =
    Word word.When ∷ expression_tokens 1 (expression_of (out-Alt a).guard)
    then answer_tokens (out-Alt a).answer
    then Word word.Then ∷ statements_tokens (statements_of (out-Alt a).work)
