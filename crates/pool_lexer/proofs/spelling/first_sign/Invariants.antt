use Rattle.std.proofs.Common.{◌≡◌, map, drop}
use Rattle.pool_syntax.specs.Spelling.{sign_text}
use Rattle.text_scan.specs.Text.{lookup}
use Rattle.pool_lexer.proofs.spelling.first_sign.Given as goal

-- the signs passed so far have another text
abbrev pub invariant-loop-sign : goal.invariant-loop-sign
invariant-loop-sign l = lookup (map (λ k. (sign_text k, k)) (drop l.sign-index l.signs)) l.text ≡ lookup (map (λ k. (sign_text k, k)) l.signs) l.text
