use Rattle.std.proofs.Common.{◌≡◌, List, subst, sym}
use Rattle.pool_syntax.specs.declared.token.Token.{Token}
use Rattle.pool_syntax.specs.Terms.{ProgramTree}
use Rattle.pool_syntax.specs.Tokens.{toks}
use Rattle.pool_grammar.specs.Programs.{HasProgram}
use Rattle.pool_lexer.proofs.Laws.{same_tokens}
use Rattle.pool_parser.proofs.Unambiguity as unique
use Rattle.pool_parser.proofs.theorems.a_text_has_one_program.Goals as goal

by : (ts us : List Token) (p q : ProgramTree) → ts ≡ us → HasProgram (toks ts) p → HasProgram (toks us) q → p ≡ q
by ts us p q e h k = unique.one_program (toks ts) p q h.0 (subst (λ x. HasProgram (toks x) q) (sym e) k).0

pub returns : goal.returns
returns c = λ s names others p q h k. let t = same_tokens s names others h.0 k.0 h.1 k.1 in (t.0, by h.0 k.0 p q t.1 h.2 k.2)
