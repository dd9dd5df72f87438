use Rattle.std.proofs.Common.{◌≡◌, map, drop}
use Rattle.text_scan.specs.Keywords.{keyword_text}
use Rattle.text_scan.specs.Text.{lookup}
use Rattle.text_scan.proofs.spelling.first_keyword.Given as goal

-- the keywords passed so far have another text
abbrev pub invariant-loop-keyword : goal.invariant-loop-keyword
invariant-loop-keyword l = lookup (map (λ k. (keyword_text k, k)) (drop l.keyword-index l.keywords)) l.word ≡ lookup (map (λ k. (keyword_text k, k)) l.keywords) l.word
